-- Commit keeps the rules, wherever it stops, and what holds of every reached store. Assumes nothing.
use Rattle.std.specs.Prelude.{Option, Some, None}
use Rattle.target.specs.declared.Target.{Target}
use mathlib.Core.Path.{◌≡◌, refl, sym, ap, ◌∙◌, subst, subst₂, fun_ext}
use mathlib.Core.Bool.{Bool, true, false, ◌&&◌, ◌||◌, not, cond, false≢true}
use mathlib.Core.List.{List, [], ◌∷◌, ◌++◌, map}
use mathlib.Core.Logic.{◌⊎◌}
use mathlib.Core.Logic.◌⊎◌.{inl, inr}
use Prim.Native.Nat.{ℕ, zero, suc, ◌+◌, ◌≤◌, ◌<◌, ◌^◌}
use native.Mathlib.Omega.{arith}
use lib.ListN.{length, get_or, length-append, length-map}
use lib.Dec.{eqb, ltb}
use borrow.Author.Tests.{ltb-false, lt-ltb, eqb-false}
use Rattle.target.specs.declared.NameNumber.{NameNumber}
use Rattle.target.specs.declared.ObjectNumber.{ObjectNumber}
use Rattle.target.specs.declared.Target.TheVariants.{Object, Symbolic}
use Rattle.target.specs.Target.{same_object}
use Rattle.transaction.specs.declared.PreviousValue.{PreviousValue}
use Rattle.transaction.specs.declared.PreviousValue.TheVariants.{Any, MustExist, MustNotExist, MustExistAndMatch, ExistingMustMatch}
use Rattle.transaction.specs.declared.Change.{Change}
use Rattle.transaction.specs.declared.Change.TheVariants.{Update, Delete}
use Rattle.transaction.specs.declared.PackedRefs.{PackedRefs}
use Rattle.transaction.specs.declared.Edit.{Edit}
use Rattle.transaction.specs.Change.{new_value, previous_value, is_delete, is_log_only, id_of, matched, expected_target}
use Rattle.model.specs.declared.Loose.TheVariants as loose
use Rattle.model.specs.declared.Line.{Line}
use Rattle.model.specs.Basic.{is_empty, select, collect}
use Rattle.model.specs.Names.{packable}
use Rattle.model.specs.Store.{Store, Entry, no_entry, no_line, no_row, count, entry_at, entry_of, is_of, is_none, is_packed, is_id, is_prepared, rows_in, mode_in, put_loose, put_packed, change_at, change_entry, with_entries}
use Rattle.model.specs.Rows.{name_in, change_in, row_at, counts, opens, is_direct, keeps_lock, packs_updates}
use Rattle.model.specs.Beneath.{is_loose, lies, would_write, will_write}
use Rattle.model.specs.Due.{has_lines, Stamp, Move, move_of, or_leaf, is_logged, due_line, due_lines, unsigned, line_by}
use Rattle.model.specs.Writes.{PackedEdit, Write, apply_packed, apply, w1, w2, w3, w4, packed_edit, packed_edits, packed_set, ordered_writes, writes, loose_write, writes_loose}
use Rattle.model.specs.Writes.Write.{append_line, write_loose, remove_log, write_packed, remove_loose}
use Rattle.model.specs.Commit.{Stop, Run, is_line, lines_in, run, committing}
use Rattle.model.specs.Fine.{Fine, fine_target, fine_option, fine_packed, fine_line}
use Rattle.model.specs.Reply.Call.{commit}
use Rattle.model.specs.Calls.{ended, committed, step}
use Rattle.model.specs.Reached.{leaves}
use Rattle.model.proofs.Rules.{both_true, true_both}
use Rattle.model.proofs.Places.{added_at, select_length, select_at, Each, each_append, each_when, each_cond, each_collect, each_weaken, each_map}
use Rattle.model.proofs.FineEdit.{FineEdit, row_edit}
use Rattle.model.proofs.Beneath.{Alone, alone_is, number_at, Clear, clear_is, rows_apart}
use Rattle.model.proofs.Base.{changed_keeps, changed_at, changed_count, Base, base, base_loose, base_packed, base_lines}
use Rattle.model.proofs.KeptSimple.{Rule, released_kept, tested}

-- ---- a write that keeps the rules

-- a packed value on a name of these bytes
abbrev pub FinePacked : (ℕ → List ℕ) → PackedEdit → Type 0
FinePacked bytes p = fine_packed (bytes p.name.0) p.value ≡ true

-- a write whose values are fine among so many names, of these bytes, and whose loose value is on a name that may have one
abbrev pub Fit : ℕ → (ℕ → List ℕ) → (ℕ → Type 0) → Write → Type 0
Fit c bytes may (append_line l) = fine_line c l ≡ true
Fit c bytes may (write_loose n t) = (fine_target c t ≡ true) × may n.0
Fit c bytes may (remove_log n) = Unit
Fit c bytes may (write_packed ps) = Each (FinePacked bytes) ps
Fit c bytes may (remove_loose n) = Unit

-- the bytes of a store's names
abbrev pub names : Store → ℕ → List ℕ
names s n = (entry_at s n).name

-- and a line finds room
pub record FineWrite (may : ℕ → Type 0) (s : Store) (w : Write) : Type 0 where
  pub fit : Fit (count s) (names s) may w
  pub room : is_line w ≡ true → length s.lines < 1024

packed_base_lem : (bytes : ℕ → List ℕ) (ps : List PackedEdit) (s : Store) → Base s → ((n : ℕ) → (entry_at s n).name ≡ bytes n)
    → Each (FinePacked bytes) ps → Base (with_entries s (apply_packed ps s.entries))
packed_base_lem bytes [] s b e h = b
packed_base_lem bytes (p ∷ ps) s b e h =
    packed_base_lem bytes ps (change_entry (put_packed p.value) p.name.0 s)
    (base_packed s p.name.0 p.value b (rw (e p.name.0) h.0))
    (λ n. changed_keeps (λ x. x.name) (put_packed p.value) p.name.0 n s.entries refl ∙ e n)
    h.1

pub apply_base : (may : ℕ → Type 0) (w : Write) (s : Store) → Base s → FineWrite may s w → Base (apply w s)
unfolding apply
apply_base may (append_line l) s b f =
    let free : length s.lines < 1024 = f.room refl in
    base_lines s (s.lines ++ (l ∷ [])) b
    (rw length-append (omega arith))
    (added_at (λ x. fine_line (count s) x ≡ true) no_line l s.lines b.lines f.fit)
apply_base may (write_loose n t) s b f = base_loose s n.0 (loose.Target t) b f.fit.0
apply_base may (remove_log n) s b f =
    base_lines s _ b
    (omega (arith, select_length (λ (l : Line). not (is_of n l)) s.lines, b.short))
    (select_at (λ x. fine_line (count s) x ≡ true) (λ (l : Line). not (is_of n l)) no_line s.lines b.lines)
apply_base may (write_packed ps) s b f = packed_base_lem (names s) ps s b (λ n. refl) f.fit
apply_base may (remove_loose n) s b f = base_loose s n.0 loose.None b refl

-- ---- a run of writes

-- a write leaves the names as they are
pub applied_count : (ps : List PackedEdit) (es : List Entry) → length (apply_packed ps es) ≡ length es
applied_count [] es = refl
applied_count (p ∷ ps) es =
    applied_count ps (change_at (put_packed p.value) p.name.0 es)
    ∙ changed_count (put_packed p.value) p.name.0 es

-- packed values leave what else an entry has
pub applied_keeps : {A : Type 0} (g : Entry → A) → ((v : Option ObjectNumber) (e : Entry) → g (put_packed v e) ≡ g e) → (ps : List PackedEdit) (es : List Entry) (n : ℕ)
    → g (get_or (apply_packed ps es) n no_entry) ≡ g (get_or es n no_entry)
applied_keeps g h [] es n = refl
applied_keeps g h (p ∷ ps) es n =
    applied_keeps g h ps (change_at (put_packed p.value) p.name.0 es) n
    ∙ changed_keeps g (put_packed p.value) p.name.0 n es (h p.value (get_or es p.name.0 no_entry))

pub apply_count : (w : Write) (s : Store) → count (apply w s) ≡ count s
unfolding apply
apply_count (append_line l) s = refl
apply_count (write_loose n t) s = changed_count (put_loose (loose.Target t)) n.0 s.entries
apply_count (remove_log n) s = refl
apply_count (write_packed ps) s = applied_count ps s.entries
apply_count (remove_loose n) s = changed_count (put_loose loose.None) n.0 s.entries

pub apply_name : (w : Write) (s : Store) (n : ℕ) → (entry_at (apply w s) n).name ≡ (entry_at s n).name
unfolding apply
apply_name (append_line l) s n = refl
apply_name (write_loose m t) s n = changed_keeps (λ x. x.name) (put_loose (loose.Target t)) m.0 n s.entries refl
apply_name (remove_log m) s n = refl
apply_name (write_packed ps) s n = applied_keeps (λ x. x.name) (λ v x. refl) ps s.entries n
apply_name (remove_loose m) s n = changed_keeps (λ x. x.name) (put_loose loose.None) m.0 n s.entries refl

-- after a write too, only names that may have a loose value have one
abbrev Within : (ℕ → Type 0) → Store → Type 0
Within may s = (n : ℕ) → is_loose s n ≡ true → may n

pub apply_within : (may : ℕ → Type 0) (w : Write) (s : Store) → Within may s → FineWrite may s w → Within may (apply w s)
unfolding apply
apply_within may (append_line l) s h f m p = h m p
apply_within may (write_loose n t) s h f m p =
    changed_at (λ x. not (is_none x.loose) ≡ true → may m) (put_loose (loose.Target t)) n.0 m s.entries (h m)
    (λ e q. subst may e f.fit.1) p
apply_within may (remove_log n) s h f m p = h m p
apply_within may (write_packed ps) s h f m p = h m (rw (applied_keeps (λ x. x.loose) (λ v x. refl) ps s.entries m) at p)
apply_within may (remove_loose n) s h f m p =
    changed_at (λ x. not (is_none x.loose) ≡ true → may m) (put_loose loose.None) n.0 m s.entries (h m)
    (λ e q. absurd (false≢true q)) p

-- what is left of the writes after one still finds room
pub apply_room : (w : Write) (ws : List Write) (s : Store) → length s.lines + lines_in (w ∷ ws) ≤ 1024
    → length (apply w s).lines + lines_in ws ≤ 1024
unfolding apply
apply_room (append_line l) ws s h = rw length-append (omega arith)
apply_room (write_loose n t) ws s h = h
apply_room (remove_log n) ws s h = omega (arith, select_length (λ (l : Line). not (is_of n l)) s.lines)
apply_room (write_packed ps) ws s h = h
apply_room (remove_loose n) ws s h = h

pub line_room : (w : Write) (ws : List Write) (s : Store) → length s.lines + lines_in (w ∷ ws) ≤ 1024 → is_line w ≡ true
    → length s.lines < 1024
line_room w ws s h e = let more : length s.lines + suc (lines_in ws) ≤ 1024 = rw e at h in omega arith

-- a write that fits, unless commit stops before it for want of a committer
abbrev Unless : Stamp → (ℕ → Type 0) → ℕ → (ℕ → List ℕ) → Write → Type 0
Unless stamp may c bytes w = is_line w && eqb stamp.committer 0 ≡ false → Fit c bytes may w

-- what is asked of the writes that are left
record Left (stamp : Stamp) (may : ℕ → Type 0) (ws : List Write) (s : Store) : Type 0 where
  base : Base s
  within : Within may s
  apart : (n m : ℕ) → may n → may m → lies s n m ≡ false
  room : length s.lines + lines_in ws ≤ 1024
  fits : Each (Unless stamp may (count s) (names s)) ws

left_after : (stamp : Stamp) (may : ℕ → Type 0) (w : Write) (ws : List Write) (s : Store) → is_line w && eqb stamp.committer 0 ≡ false
    → Left stamp may (w ∷ ws) s → Left stamp may ws (apply w s)
left_after stamp may w ws s e l =
    record {
      base = apply_base may w s l.base fine;
      within = apply_within may w s l.within fine;
      apart = λ n m p q. rw (apply_name w s n, apply_name w s m) (l.apart n m p q);
      room = apply_room w ws s l.room;
      fits = subst₂ (λ c n. Each (Unless stamp may c n) ws) (sym (apply_count w s)) (sym (fun_ext (apply_name w s))) l.fits.1;
    }
  where
    fine : FineWrite may s w
    fine = record { fit = l.fits.0 e; room = line_room w ws s l.room }

-- what holds wherever a run stops
record Kept (s : Store) : Type 0 where
  base : Base s
  alone : Alone s

left_kept : (stamp : Stamp) (may : ℕ → Type 0) (ws : List Write) (s : Store) → Left stamp may ws s → Kept s
left_kept stamp may ws s l = record {
  base = l.base;
  alone = record { alone = λ n m p q. l.apart n m (l.within n p) (l.within m q) };
}

-- wherever a run stops, the rules hold
run_kept : (stamp : Stamp) (may : ℕ → Type 0) (k : ℕ) (ws : List Write) (made : ℕ) (s : Store) → Left stamp may ws s
    → Kept (run stamp k ws made s).store
unfolding run
run_kept stamp may k [] made s l = left_kept stamp may [] s l
run_kept stamp may zero (w ∷ ws) made s l = left_kept stamp may (w ∷ ws) s l
run_kept stamp may (suc k) (w ∷ ws) made s l =
    go (is_line w && eqb stamp.committer 0) refl (run_kept stamp may k ws (made + 1) (apply w s))
  where
    go : (t : Bool) → is_line w && eqb stamp.committer 0 ≡ t
        → (Left stamp may ws (apply w s) → Kept (run stamp k ws (made + 1) (apply w s)).store)
        → Kept (run stamp (suc k) (w ∷ ws) made s).store
    go true e rest = rw e (left_kept stamp may (w ∷ ws) s l)
    go false e rest = rw e (rest (left_after stamp may w ws s e l))

-- ---- how many lines commit appends: as many as are due, whoever commits

pub lines_append : (xs ys : List Write) → lines_in (xs ++ ys) ≡ lines_in xs + lines_in ys
lines_append [] ys = omega arith
lines_append (x ∷ xs) ys = go (is_line x) (lines_append xs ys)
  where
    more : Bool → List Write → ℕ
    more t ws = length (cond t (x ∷ select is_line ws) (select is_line ws))

    go : (t : Bool) → lines_in (xs ++ ys) ≡ lines_in xs + lines_in ys → more t (xs ++ ys) ≡ more t xs + lines_in ys
    go true e = omega arith
    go false e = e

-- rows that append as many lines as they are due append them all
lines_collect : {A B : Type 0} (f : A → List Write) (g : A → List B) → ((a : A) → lines_in (f a) ≡ length (g a)) → (xs : List A)
    → lines_in (collect f xs) ≡ length (collect g xs)
lines_collect f g h [] = refl
lines_collect f g h (x ∷ xs) = rw (lines_append, length-append, h x, lines_collect f g h xs)

loose_lines : (t : Bool) (n : NameNumber) (v : Option Target) → lines_in (cond t (loose_write n v) []) ≡ 0
loose_lines true n None = refl
loose_lines true n (Some v) = refl
loose_lines false n v = refl

all_lines : (ls : List Line) → lines_in (map append_line ls) ≡ length ls
all_lines [] = refl
all_lines (l ∷ ls) = ap suc (all_lines ls)

due_length : (stamp : Stamp) (s : Store) (r : Edit) → length (due_line stamp s r) ≡ length (due_line unsigned s r)
unfolding due_line
due_length stamp s r = go (is_logged s r)
  where
    moves : List Move
    moves = move_of (change_in r) r.leaf_referent_previous_oid

    go : (t : Bool) → length (cond t (map (line_by stamp r) moves) []) ≡ length (cond t (map (line_by unsigned r) moves) [])
    go true = rw (length-map moves (line_by stamp r), length-map moves (line_by unsigned r))
    go false = refl

w1_lines : (stamp : Stamp) (s : Store) (mode : PackedRefs) (r : Edit) → lines_in (w1 stamp s mode r) ≡ length (due_line unsigned s r)
unfolding w1
w1_lines stamp s mode r = rw (lines_append, all_lines, due_length, loose_lines) (omega arith)

-- ---- each write of commit fits

-- a line's objects
abbrev FineMove : Move → Type 0
FineMove m = (ltb m.previous.0 (2 ^ 64) ≡ true) × (is_id m.new.0 ≡ true)

previous_fine : (n : ℕ) (expected : PreviousValue) (leaf : ObjectNumber) → fine_option n (expected_target expected) ≡ true
    → ltb leaf.0 (2 ^ 64) ≡ true
    → ltb (or_leaf (id_of (matched expected)) leaf).0 (2 ^ 64) ≡ true
previous_fine n Any leaf p l = l
previous_fine n MustExist leaf p l = l
previous_fine n MustNotExist leaf p l = l
previous_fine n (MustExistAndMatch (Object o)) leaf p l = (both_true (ltb 0 o.0) _ p).1
previous_fine n (MustExistAndMatch (Symbolic m)) leaf p l = l
previous_fine n (ExistingMustMatch t) leaf p l = l

moves_fine : (n : ℕ) (c : Change) (leaf : ObjectNumber) → fine_option n (previous_value c) ≡ true → fine_option n (new_value c) ≡ true
    → ltb leaf.0 (2 ^ 64) ≡ true → Each FineMove (move_of c leaf)
moves_fine n (Update log expected (Object new)) leaf p q l =
    let old : ObjectNumber = or_leaf (id_of (matched expected)) leaf in
    each_when FineMove (not (same_object old new)) _ (λ h. (previous_fine n expected leaf p l, q))
moves_fine n (Update log Any (Symbolic m)) leaf p q l = tt
moves_fine n (Update log MustExist (Symbolic m)) leaf p q l = tt
moves_fine n (Update log MustNotExist (Symbolic m)) leaf p q l = tt
moves_fine n (Update log (MustExistAndMatch t) (Symbolic m)) leaf p q l = tt
moves_fine n (Update log (ExistingMustMatch (Object o)) (Symbolic m)) leaf p q l = ((refl, p), tt)
moves_fine n (Update log (ExistingMustMatch (Symbolic k)) (Symbolic m)) leaf p q l = tt
moves_fine n (Delete expected log) leaf p q l = tt

line_fine : (n : ℕ) (stamp : Stamp) (r : Edit) → FineEdit n r → stamp.committer ≤ 65535 → (eqb stamp.committer 0 ≡ false)
    → (m : Move) → FineMove m → fine_line n (line_by stamp r m) ≡ true
unfolding fine_line
line_fine n stamp r f small there m h =
    let Some : stamp.committer ≡ 0 → ⊥ = eqb-false stamp.committer 0 there in
    true_both f.name
    (true_both h.0
    (true_both h.1
    (true_both (lt-ltb 0 stamp.committer (omega arith))
    (true_both (lt-ltb stamp.committer (2 ^ 16) (omega arith))
    (true_both f.message refl)))))

-- a row that writes a loose value, and is no delete, is one of those that 25 looks at
will_write_lem : (s : Store) (mode : PackedRefs) (r : Edit) → writes_loose s mode r ≡ true → is_delete (change_in r) ≡ false → will_write s mode r ≡ true
unfolding would_write keeps_lock
will_write_lem s mode r e u =
    let outer : (keeps_lock s mode r && not (is_log_only (change_in r)) ≡ true) × (not (is_direct s mode r) ≡ true) =
    both_true (keeps_lock s mode r && not (is_log_only (change_in r))) (not (is_direct s mode r)) e in
    let inner : (keeps_lock s mode r ≡ true) × (not (is_log_only (change_in r)) ≡ true) =
    both_true (keeps_lock s mode r) (not (is_log_only (change_in r))) outer.0 in
    true_both (true_both (true_both (ap not u) inner.1) outer.1) inner.0

-- a packed value that commit sets
set_fit : (c : ℕ) (bytes : ℕ → List ℕ) (n : NameNumber) (v : Option Target) → packable (bytes n.0) ≡ true → fine_option c v ≡ true
    → Each (FinePacked bytes) (packed_set n v)
set_fit c bytes n None p h = tt
set_fit c bytes n (Some (Object o)) p h = (true_both h p, tt)
set_fit c bytes n (Some (Symbolic m)) p h = tt

module _ (stamp : Stamp) (small : stamp.committer ≤ 65535) (may : ℕ → Type 0) (s : Store) (mode : PackedRefs) where
  -- a write that fits unless commit stops before it, and one that fits and is no line
  abbrev Due : Write → Type 0
  Due w = Unless stamp may (count s) (names s) w

  abbrev Quiet : Write → Type 0
  Quiet w = (is_line w ≡ false) × Fit (count s) (names s) may w

  quiet_lines : (ws : List Write) → Each Quiet ws → lines_in ws ≡ 0
  quiet_lines [] h = refl
  quiet_lines (w ∷ ws) h = rw h.0.0 (quiet_lines ws h.1)

  -- ---- of a row

  loose_due : (n : NameNumber) (c : Change) → fine_option (count s) (new_value c) ≡ true → (is_delete c ≡ false → may n.0)
      → Each Due (loose_write n (new_value c))
  loose_due n (Update log expected new) h m = (λ e. (h, m refl), tt)
  loose_due n (Delete expected log) h m = tt

  lines_due : (r : Edit) → FineEdit (count s) r → Each (λ l. Due (append_line l)) (due_line stamp s r)
  unfolding due_line
  lines_due r f =
      each_cond (λ l. Due (append_line l)) (is_logged s r) _ (λ e.
      each_map (λ l. Due (append_line l)) FineMove (line_by stamp r) (λ m h there. line_fine (count s) stamp r f small there m h) moves
      (moves_fine (count s) (change_in r) leaf f.previous f.new f.leaf))
    where
      leaf : ObjectNumber
      leaf = r.leaf_referent_previous_oid

      moves : List Move
      moves = move_of (change_in r) leaf

  w1_due : (r : Edit) → FineEdit (count s) r → (will_write s mode r ≡ true → may (name_in r).0) → Each Due (w1 stamp s mode r)
  unfolding w1
  w1_due r f m =
      each_append Due (map append_line (due_line stamp s r)) _
      (each_map Due (λ l. Due (append_line l)) append_line (λ l h. h) (due_line stamp s r) (lines_due r f))
      (each_cond Due (writes_loose s mode r) _ (λ e. loose_due (name_in r) (change_in r) f.new (λ u. m (will_write_lem s mode r e u))))

  w2_quiet : (r : Edit) → Each Quiet (w2 s r)
  unfolding w2
  w2_quiet r = each_when Quiet (is_delete (change_in r) && has_lines s (name_in r)) _ (λ h. (refl, tt))

  w4_quiet : (r : Edit) → Each Quiet (w4 s mode r)
  unfolding w4
  w4_quiet r =
      let there : Bool = not (is_none (entry_of s (name_in r)).loose) in
      each_when Quiet ((is_delete (change_in r) || is_direct s mode r) && not (is_log_only (change_in r)) && there) _ (λ h. (refl, tt))

  packed_fit : (r : Edit) → FineEdit (count s) r → Each (FinePacked (names s)) (packed_edit s mode r)
  unfolding packed_edit counts
  packed_fit r f =
      each_cond (FinePacked (names s)) (counts s r) _ (λ e.
      each_append (FinePacked (names s)) (cond (packs_updates mode) (packed_set (name_in r) (new_value (change_in r))) []) _
      (each_cond (FinePacked (names s)) (packs_updates mode) _ (λ k.
      set_fit (count s) (names s) (name_in r) (new_value (change_in r)) (both_true (not (is_log_only (change_in r))) _ e).1 f.new))
      (each_when (FinePacked (names s)) (is_delete (change_in r) && is_packed (entry_of s (name_in r)).packed) _ (λ k. refl)))

  -- ---- of all rows

  module _ (rows : List Edit) (f : (i : ℕ) → i < length rows → FineEdit (count s) (row_at rows i)) (m : (i : ℕ) → i < length rows → will_write s mode (row_at rows i) ≡ true → may (name_in (row_at rows i)).0) where
    w3_quiet : Each Quiet (w3 s mode rows)
    unfolding w3
    w3_quiet =
        each_when Quiet (opens s mode rows && not (is_empty (packed_edits s mode rows))) _
        (λ h. (refl, each_collect (FinePacked (names s)) (packed_edit s mode) no_row rows (λ i k. packed_fit (row_at rows i) (f i k))))

    -- W2 to W4
    abbrev rest : List Write
    rest = collect (w2 s) rows ++ (w3 s mode rows ++ collect (w4 s mode) rows)

    rest_quiet : Each Quiet rest
    rest_quiet =
        each_append Quiet (collect (w2 s) rows) _
        (each_collect Quiet (w2 s) no_row rows (λ i k. w2_quiet (row_at rows i)))
        (each_append Quiet (w3 s mode rows) _ w3_quiet (each_collect Quiet (w4 s mode) no_row rows (λ i k. w4_quiet (row_at rows i))))

    writes_due : Each Due (ordered_writes stamp s mode rows)
    unfolding ordered_writes
    writes_due =
        each_append Due (collect (w1 stamp s mode) rows) _
        (each_collect Due (w1 stamp s mode) no_row rows (λ i k. w1_due (row_at rows i) (f i k) (m i k)))
        (each_weaken Due Quiet (λ w h e. h.1) rest rest_quiet)

    lines_of : lines_in (ordered_writes stamp s mode rows) ≡ length (due_lines s rows)
    unfolding ordered_writes
    lines_of =
        rw (lines_append (collect (w1 stamp s mode) rows) rest, quiet_lines rest rest_quiet)
        (omega (arith, lines_collect (w1 stamp s mode) (due_line unsigned s) (w1_lines stamp s mode) rows))

-- whoever may have a loose value
pub writes_lines : (stamp : Stamp) → stamp.committer ≤ 65535 → (s : Store) (mode : PackedRefs) (rows : List Edit)
    → ((i : ℕ) → i < length rows → FineEdit (count s) (row_at rows i)) → lines_in (ordered_writes stamp s mode rows) ≡ length (due_lines s rows)
writes_lines stamp small s mode rows f = lines_of stamp small (λ n. Unit) s mode rows f (λ i h w. tt)

-- ---- commit

-- the names that may have a loose value while commit runs: those that had one, and those of the rows that write one
record Wrote (s : Store) (n : ℕ) : Type 0 where
  place : ℕ
  there : place < length (rows_in s.prepared)
  name : number_at (rows_in s.prepared) place ≡ n
  writes : will_write s (mode_in s.prepared) (row_at (rows_in s.prepared) place) ≡ true

abbrev May : Store → ℕ → Type 0
May s n = (is_loose s n ≡ true) ⊎ Wrote s n

-- no two of them are nested
module _ (s : Store) (f : Fine s) where
  clear : Clear s (mode_in s.prepared) (rows_in s.prepared)
  clear = clear_is s (mode_in s.prepared) (rows_in s.prepared) f.clear

  may_apart : (n m : ℕ) → May s n → May s m → lies s n m ≡ false
  may_apart n m (inl p) (inl q) = (alone_is s f.alone).alone n m p q
  may_apart n m (inl p) (inr b) = rw (← b.name) ((clear.clear b.place b.there).beneath b.writes n p)
  may_apart n m (inr a) (inl q) = rw (← a.name) ((clear.clear a.place a.there).above m q)
  may_apart n m (inr a) (inr b) =
      rw (← a.name, ← b.name)
      (rows_apart s (mode_in s.prepared) (rows_in s.prepared) clear a.place b.place a.there b.there a.writes b.writes)

committing_kept : (s : Store) → Fine s → (stamp : Stamp) → stamp.committer ≤ 65535 → (k : ℕ) → Kept (committing stamp k s).store
unfolding committing
committing_kept s f stamp small k =
    run_kept stamp (May s) k (writes stamp s) 0 s
    (record {
      base = base s f;
      within = λ n p. inl p;
      apart = may_apart s f;
      room = rw (writes_lines stamp small s (mode_in s.prepared) (rows_in s.prepared) rows) f.room;
      fits = writes_due stamp small (May s) s (mode_in s.prepared) (rows_in s.prepared) rows wrote;
    })
  where
    rows : (i : ℕ) → i < length (rows_in s.prepared) → FineEdit (count s) (row_at (rows_in s.prepared) i)
    rows i h = row_edit (count s) (rows_in s.prepared) i (f.rows i h)

    wrote : (i : ℕ) → i < length (rows_in s.prepared) → will_write s (mode_in s.prepared) (row_at (rows_in s.prepared) i) ≡ true
        → May s (number_at (rows_in s.prepared) i)
    wrote i h w = inr (record { place = i; there = h; name = refl; writes = w })

module _ (P : Store → Type 0) (rule : Rule P) (s : Store) (here : P s) where
  ended_kept : (r : Run) → Kept r.store → (o : Option Stop) → P (leaves (ended r o) s)
  ended_kept r b None = released_kept P rule r.store b.base b.alone
  ended_kept r b (Some why) = released_kept P rule r.store b.base b.alone

  pub commit_kept : (c k : ℕ) → P (leaves (step (commit c k) s) s)
  unfolding step committed
  commit_kept c k =
      let stamp : Stamp = record { committer = c } in
      let r : Run = committing stamp k s in
      tested P s here (not (is_prepared s.prepared)) _ _ (λ e.
      tested P s here (ltb 65535 c) _ _ (λ h.
      ended_kept r (committing_kept s (rule.fine s here) stamp (ltb-false 65535 c h) k) r.stop))
