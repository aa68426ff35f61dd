-- What specs/Texts.antt states, proved. Assumes nothing.
use Rattle.std.specs.Prelude.{Result, Ok, Err}
use Rattle.model.specs.declared.Refusal.{Refusal}
use mathlib.Core.Path.{◌≡◌, refl, sym, ap, ◌∙◌}
use mathlib.Core.Bool.{Bool, true, false}
use mathlib.Core.List.{List, [], ◌∷◌, ◌++◌}
use Prim.Native.Nat.{ℕ, ◌+◌, ◌*◌, ◌≤◌}
use native.Mathlib.Omega.{arith}
use lib.ListN.{length, length-append}
use Rattle.word.proofs.Tests.{true_both}
use Rattle.model.specs.Basic.{all, collect}
use Rattle.model.specs.Names.{before, pieces}
use Rattle.model.specs.Store.{Store, Entry, count, is_prepared}
use Rattle.model.specs.Reply.{Given}
use Rattle.model.specs.Reply.Call.{read_packed}
use Rattle.model.specs.Reply.Reply.{done, refused}
use Rattle.model.specs.Reply.Given.{number}
use Rattle.model.specs.PackedText.{Ref, ref_line, sorted, packed_table, packed_text, line_feed, End, Reading, read_text, unpacked, loaded}
use Rattle.model.specs.PackedText.End.{whole, faulty}
use Rattle.model.specs.Calls.{text_read, step}
use Rattle.model.specs.Texts.{rises, Rises, lengths, TextLength, Widest, WrittenRead, SameTable, SameStore, SameText, LeftAlone}
use Rattle.model.proofs.Kept.{reached_sound}
use Rattle.model.proofs.Places.{Each}
use Rattle.model.proofs.NameBytes.{is_named}
use Rattle.model.proofs.Digits.{length_digits}
use Rattle.model.proofs.TextLines.{Loadable, Chain, read_chain, written_read, read_written, pieces_joined}
use Rattle.model.proofs.TextTable.{Rising, loaded_table}
use Rattle.model.proofs.TextStore.{table_loads, table_rises, table_chain, length_packed, loaded_same, aside_then, loaded_aside, unpacked_aside}

-- ---- the text of a store

all_is : {A : Type 0} (p : A → Bool) (xs : List A) → Each (λ x. p x ≡ true) xs → all p xs ≡ true
all_is p [] h = refl
all_is p (x ∷ xs) h = true_both h.0 (all_is p xs h.1)

pub rising_rises : (rs : List Ref) → Rising rs → rises rs ≡ true
rising_rises [] h = refl
rising_rises (r ∷ rs) h = true_both (all_is (λ (x : Ref). before r.name x.name) rs h.0) (rising_rises rs h.1)

pub names_rise : Rises
names_rise s h = rising_rises (packed_table s) (table_rises s (reached_sound s h).fine)

line_length : (r : Ref) → length (ref_line r) ≡ 42 + length r.name
unfolding ref_line
line_length r =
    let a = length_digits 40 r.object (32 ∷ (r.name ++ (10 ∷ []))) in
    let b : length (r.name ++ (10 ∷ [])) ≡ length r.name + 1 = length-append r.name (10 ∷ []) in
    a ∙ omega arith

pub lines_length : (rs : List Ref) → length (collect ref_line rs) ≡ lengths rs
lines_length [] = refl
lines_length (r ∷ rs) =
    let a : length (ref_line r) ≡ 42 + length r.name = line_length r in
    let b : length (collect ref_line rs) ≡ lengths rs = lines_length rs in
    length-append (ref_line r) (collect ref_line rs) ∙ omega arith

pub text_length : TextLength
unfolding packed_text
text_length s = lines_length (packed_table s)

lengths_most : (rs : List Ref) → Each Loadable rs → lengths rs ≤ length rs * 106
lengths_most [] h = omega arith
lengths_most (r ∷ rs) h =
    let a : lengths rs ≤ length rs * 106 = lengths_most rs h.1 in
    let b : length r.name ≤ 64 = (is_named r.name h.0.name).short in
    omega arith

table_most : (es : List Entry) → length (sorted es) ≤ length es
table_most [] = omega arith
table_most (e ∷ es) =
    let a : length (sorted es) ≤ length es = table_most es in
    let b = (length_packed e.name e.packed (sorted es)).1 in
    omega arith

pub widest : Widest
unfolding packed_table
widest s h =
    let f = (reached_sound s h).fine in
    let a : length (packed_text s) ≡ lengths (packed_table s) = text_length s in
    let b : lengths (packed_table s) ≤ length (packed_table s) * 106 = lengths_most (packed_table s) (table_loads s f) in
    let c : length (packed_table s) ≤ count s = table_most s.entries in
    let d : count s ≤ 256 = f.few in
    omega arith

-- ---- reading what was written

pub written_is_read : WrittenRead
unfolding packed_text read_text
written_is_read s h = written_read (packed_table s) 1 [] false (table_chain s (reached_sound s h).fine)

-- what a reading that is done came to
pub record DoneReading (t : List ℕ) (s u : Store) : Type 0 where
  pub loads : loaded (read_text t).refs (unpacked s) ≡ Ok u
  pub ends : (read_text t).end ≡ whole

refused_done : {x : _} {u : Store} {g : Given} → refused x ≡ done u g → ⊥
refused_done e = let z : ◌≡◌ {A = ℕ} 0 1 = cc in omega arith

store_of : {u v : Store} {g h : Given} → done u g ≡ done v h → u ≡ v
store_of e = cc

pub done_reading : (t : List ℕ) (s u : Store) (g : Given) → step (read_packed t) s ≡ done u g → DoneReading t s u
unfolding step text_read
done_reading t s u g e = go (is_prepared s.prepared) refl (loaded (read_text t).refs (unpacked s)) refl (read_text t).end refl
  where
    n : Given
    n = number (length (read_text t).refs)

    go : (b : Bool) → is_prepared s.prepared ≡ b → (o : Result Store Refusal) → loaded (read_text t).refs (unpacked s) ≡ o → (x : End) → (read_text t).end ≡ x
        → DoneReading t s u
    go true p o q x r = absurd (refused_done (rw p at e))
    go false p (Err y) q x r = absurd (refused_done (rw (p, q) at e))
    go false p (Ok v) q (faulty i y) r = absurd (refused_done (rw (p, q, r) at e))
    go false p (Ok v) q whole r = record { loads = q ∙ ap Ok (store_of (rw (p, q, r) at e)); ends = r }

chain_of : (t : List ℕ) → Chain [] (read_text t).refs
unfolding read_text
chain_of t = read_chain (pieces line_feed t) 1 [] false

pub read_table : (t : List ℕ) (s u : Store) → DoneReading t s u → packed_table u ≡ (read_text t).refs
read_table t s u d = loaded_table (read_text t).refs [] s u (chain_of t) d.loads

pub same_table : SameTable
same_table s h t u g e =
    read_table (packed_text s) t u (done_reading (packed_text s) t u g e) ∙ ap (λ (x : Reading). x.refs) (written_is_read s h)

pub same_store : SameStore
unfolding step text_read
same_store s h e = rw (e, written_is_read s h, loaded_same s (reached_sound s h).fine)

-- ---- writing what was read

pub same_text : SameText
unfolding packed_text read_text
same_text t plain s u g e =
    let d : DoneReading t s u = done_reading t s u g e in
    let x : Reading = read_text t in
    let says : read_text t ≡ record { refs = x.refs; end = whole } = ap (λ (y : End). record { refs = x.refs; end = y }) d.ends in
    ap (collect ref_line) (read_table t s u d)
    ∙ sym (read_written (pieces line_feed t) 1 [] false x.refs plain says)
    ∙ pieces_joined line_feed t

-- ---- what reading leaves alone

pub left_alone : LeftAlone
left_alone t s u g e =
    aside_then s (unpacked s) u (unpacked_aside s) (loaded_aside (read_text t).refs (unpacked s) u (done_reading t s u g e).loads)
