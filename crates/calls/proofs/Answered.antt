-- What a read of a name answers in a region that holds a store: the value that the model reads, and no other. Assumes nothing.
use Rattle.std.specs.Prelude.{Option, Some, None}
use Rattle.target.specs.declared.Target.{Target}
use mathlib.Core.Path.{◌≡◌, refl, sym, ap, ap₂, ◌∙◌}
use mathlib.Core.Bool.{Bool, true, false, cond}
use mathlib.Core.List.{List, [], ◌++◌, append_assoc, append-nil}
use Prim.Native.Nat.{ℕ, zero, suc, ◌≤◌, ◌<◌, ◌^◌}
use native.Mathlib.Nat.{le_trans}
use native.Mathlib.Omega.{arith}
use lib.ListN.{length, take, drop, replicate, length-append}
use lib.Seq.{take_at, drop_at}
use lib.Dec.{ltb, lit<, lit≤}
use borrow.Author.Tests.{lt-ltb, le-ltb, ltb-true, ltb-false}
use Rattle.word.specs.Be.{be, val}
use Rattle.word.proofs.Be.{length_be, val_be}
use Rattle.target.specs.declared.NameNumber.{NameNumber}
use Rattle.target.specs.declared.Target.TheVariants.{Object, Symbolic}
use Rattle.target.specs.declared.Found.{Found}
use Rattle.target.specs.Found.{value_in}
use Rattle.target.specs.Fields.{target_byte, target_number}
use Rattle.transaction.specs.Change.{new_value, is_log_only}
use Rattle.model.specs.declared.Refusal.TheVariants.{NotRegistered}
use Rattle.model.specs.Store.{Store, count, entry_of}
use Rattle.model.specs.Read.{found_of, reading}
use Rattle.model.specs.Rows.{name_in, change_in, row_at}
use Rattle.model.specs.Fine.{Fine}
use Rattle.model.specs.Reply.{Reply}
use Rattle.model.specs.Reply.Call.{read_name}
use Rattle.model.specs.Reply.Reply.{done, refused}
use Rattle.model.specs.Reply.Given.{value}
use Rattle.model.specs.Calls.{step, name_read}
use Rattle.model.specs.Numbers.{found_places, answer_of, refusal_answer}
use Rattle.model.specs.Demand3.{rows, old, new}
use Rattle.slots.specs.Row.{FitsOption}
use Rattle.region.specs.Region.{decode, view, image, name_offset}
use Rattle.region.proofs.Fits.{fine_fits, reads_fit}
use Rattle.region.proofs.Decode.{decoded}
use Rattle.answers.specs.Answers.{record_of}
use Rattle.calls.specs.Call.{Out, out_of, region_after, call, Did}
use Rattle.calls.specs.Demand3.{filled, value_bytes, Reads}
use Rattle.calls.proofs.Exports.{only, does_step}

-- ---- two values that a record can hold are one where their records are one

-- where two lists of bytes that begin with a place are one, so are their numbers and their rests
one_place : (a b : ℕ) (xs ys : List ℕ) → a < 2 ^ 64 → b < 2 ^ 64 → be 8 a ++ xs ≡ be 8 b ++ ys → (a ≡ b) × (xs ≡ ys)
one_place a b xs ys h g e = (
  sym (first a xs h) ∙ ap (λ (l : List ℕ). val (take 8 l)) e ∙ first b ys g,
  sym (rest a xs) ∙ ap (drop 8) e ∙ rest b ys,
)
  where
    first : (a : ℕ) (xs : List ℕ) → a < 2 ^ 64 → val (take 8 (be 8 a ++ xs)) ≡ a
    first a xs h = ap val (take_at (be 8 a) xs 8 (length_be 8 a)) ∙ val_be 8 a h

    rest : (a : ℕ) (xs : List ℕ) → drop 8 (be 8 a ++ xs) ≡ xs
    rest a xs = drop_at (be 8 a) xs 8 (length_be 8 a)

-- a value by its two places
by_places : ℕ → ℕ → Option Target
by_places zero x = None
by_places (suc zero) x = Some (Object (record { 0 = x }))
by_places (suc (suc k)) x = Some (Symbolic (record { 0 = x }))

places_back : (t : Option Target) → by_places (target_byte t) (target_number t) ≡ t
unfolding by_places
places_back None = refl
places_back (Some (Object o)) = refl
places_back (Some (Symbolic n)) = refl

kind_fits : (t : Option Target) → target_byte t < 2 ^ 64
kind_fits None = lit< tt
kind_fits (Some (Object o)) = lit< tt
kind_fits (Some (Symbolic n)) = lit< tt

number_fits : (t : Option Target) → FitsOption t → target_number t < 2 ^ 64
number_fits None f = lit< tt
number_fits (Some (Object o)) f = f.1
number_fits (Some (Symbolic n)) f = le_trans f (lit≤ tt)

one_value : (t u : Option Target) → FitsOption t → FitsOption u → value_bytes t ≡ value_bytes u → t ≡ u
unfolding record_of
one_value t u f g e =
    let p = one_place (target_byte t) (target_byte u) _ _ (kind_fits t) (kind_fits u) e in
    let q = one_place (target_number t) (target_number u) _ _ (number_fits t f) (number_fits u g) p.1 in
    sym (places_back t) ∙ ap₂ by_places p.0 q.0 ∙ places_back u

-- the value stands first in what reading a name answers
two_places : (a b : ℕ) (rest : List ℕ) → take 16 (be 8 a ++ (be 8 b ++ rest)) ≡ be 8 a ++ (be 8 b ++ [])
two_places a b rest =
    let m : length (be 8 a) ≡ 8 = length_be 8 a in
    let n : length (be 8 b) ≡ 8 = length_be 8 b in
    let l : length (be 8 a ++ be 8 b) ≡ 16 = rw length-append (omega arith) in
    ap (take 16) (sym (append_assoc (be 8 a) (be 8 b) rest))
    ∙ take_at (be 8 a ++ be 8 b) rest 16 l
    ∙ ap (λ (ys : List ℕ). be 8 a ++ ys) (sym (append-nil (be 8 b)))

value_first : (x : Found) → take 16 (filled (found_places x)) ≡ value_bytes (value_in x)
unfolding record_of
value_first x = two_places (target_byte (value_in x)) (target_number (value_in x)) _

-- ---- a record can hold what a name reads in a store that obeys the rules, and what a row sets

module _ (s : Store) (f : Fine s) where
  reading_fits : (n : NameNumber) → FitsOption (reading s n)
  unfolding reading
  reading_fits n = reads_fit s (fine_fits s f) true n

  pub new_fits : (i : ℕ) → i < length (rows s) → FitsOption (new s (row_at (rows s) i))
  new_fits i h = go (is_log_only (change_in (row_at (rows s) i)))
    where
      go : (b : Bool) → FitsOption (cond b (old s (row_at (rows s) i)) (new_value (change_in (row_at (rows s) i))))
      go true = reading_fits (name_in (row_at (rows s) i))
      go false = ((fine_fits s f).row i h).new

-- ---- what a read answers

module _ (r : List ℕ) (d : decode r ≡ Some (view r)) (n : NameNumber) where
  -- a registered name's value, and the region as it is
  module _ (h : n.0 < count (view r)) where
    near : (lent : List ℕ) → length lent ≡ 128 → call (read_name n.0) r lent ≡ out_of (done (view r) (value (found_of true (entry_of (view r) n)))) r
    unfolding step name_read
    near lent sized = does_step (read_name n.0) r lent (view r) d sized ∙ rw (lt-ltb n.0 (count (view r)) h)

    pub reads_to : (t : Option Target) → value_bytes (reading (view r) n) ≡ value_bytes t → Reads n.0 r t
    unfolding out_of answer_of reading
    reads_to t e =
        record {
          read = λ lent m a r' sized did. (
            did.code ∙ ap (λ (o : Out). o.code) (near lent sized),
            ap (take 16) (did.answer ∙ ap (λ (o : Out). o.answer) (near lent sized)) ∙ value_first (found_of true (entry_of (view r) n)) ∙ e,
            only r' (image (view r)) (did.lent ∙ ap (λ (o : Out). o.lent) (near lent sized)) ∙ (decoded r (view r) d).1,
          );
        }

  -- 3 of any other name
  far : count (view r) ≤ n.0 → (lent : List ℕ) → length lent ≡ 128 → call (read_name n.0) r lent ≡ out_of (refused (NotRegistered n.0)) r
  unfolding step name_read
  far h lent sized = does_step (read_name n.0) r lent (view r) d sized ∙ rw (le-ltb n.0 (count (view r)) h)

  -- so a name with an answer is registered, and has its value for its answer
  pub reads_of : (t : Option Target) → Reads n.0 r t
      → (n.0 < count (view r)) × (value_bytes (reading (view r) n) ≡ value_bytes t)
  unfolding out_of answer_of refusal_answer reading
  reads_of t reads = go (ltb n.0 (count (view r))) refl
    where
      zeros : List ℕ
      zeros = replicate 128 0

      -- whatever the read comes to, this is what it answers
      told : (reply : Reply) → call (read_name n.0) r zeros ≡ out_of reply r
          → ((answer_of name_offset reply).number ≡ 0) × (take 16 (record_of (answer_of name_offset reply).places) ≡ value_bytes t)
      told reply o =
          let did : Did (call (read_name n.0) r zeros) (out_of reply r).code (out_of reply r).answer (out_of reply r).lent =
          rw o (record { code = refl; answer = refl; lent = refl }) in
          let x = reads.read zeros (out_of reply r).code (out_of reply r).answer (region_after reply r) refl did in (x.0, x.1)

      go : (b : Bool) → ltb n.0 (count (view r)) ≡ b
          → (n.0 < count (view r)) × (value_bytes (reading (view r) n) ≡ value_bytes t)
      go true p =
          let h : n.0 < count (view r) = ltb-true n.0 (count (view r)) p in
          let x : Found = found_of true (entry_of (view r) n) in
          (h, sym (value_first x) ∙ (told (done (view r) (value x)) (near h zeros refl)).1)
      go false p =
          let z : ◌≡◌ {A = ℕ} 3 0 = (told (refused (NotRegistered n.0)) (far (ltb-false n.0 (count (view r)) p) zeros refl)).0 in
          absurd (omega arith)

-- in a store that obeys the rules: the answer is the value
pub reads_as : (r : List ℕ) → decode r ≡ Some (view r) → (n : NameNumber) (t : Option Target) → FitsOption t → Reads n.0 r t
    → reading (view r) n ≡ t
reads_as r d n t f reads =
    let x = reads_of r d n t reads in one_value (reading (view r) n) t (reading_fits (view r) (decoded r (view r) d).0 n) f x.1
