-- What a row's name reads after each phase of its writes. Assumes nothing.
use Rattle.std.specs.Prelude.{Option, Some, None}
use Rattle.target.specs.declared.ObjectNumber.{ObjectNumber}
use mathlib.Core.Path.{◌≡◌, refl, sym, ap, ◌∙◌}
use mathlib.Core.Bool.{Bool, true, false, true≢false, false≢true, ◌&&◌, ◌||◌, not, cond}
use mathlib.Core.Logic.{◌⊎◌}
use mathlib.Core.Logic.◌⊎◌.{inl, inr}
use Prim.Native.Nat.{ℕ}
use native.Mathlib.Omega.{arith}
use borrow.Author.Tests.{not-false}
use Rattle.target.specs.declared.Target.{Target}
use Rattle.target.specs.declared.Target.TheVariants.{Object, Symbolic}
use Rattle.target.specs.Target.{same_option}
use Rattle.target.specs.Found.{value_in}
use Rattle.target.proofs.Laws.{option_true}
use Rattle.transaction.specs.declared.RefLog.TheVariants.{AndReference}
use Rattle.transaction.specs.declared.LogChange.{LogChange}
use Rattle.transaction.specs.declared.PreviousValue.{PreviousValue}
use Rattle.transaction.specs.declared.Change.{Change}
use Rattle.transaction.specs.declared.Change.TheVariants.{Update, Delete}
use Rattle.transaction.specs.declared.PackedRefs.{PackedRefs}
use Rattle.transaction.specs.declared.PackedRefs.TheVariants.{DeletionsOnly, DeletionsAndNonSymbolicUpdates, DeletionsAndNonSymbolicUpdatesRemoveLooseSourceReference}
use Rattle.transaction.specs.Change.{new_value, is_log_only, is_only, matched, existing_in}
use Rattle.model.specs.declared.Loose.{Loose}
use Rattle.model.specs.declared.Loose.TheVariants as loose
use Rattle.model.specs.Store.{Entry, is_none, is_packed, put_loose, put_packed}
use Rattle.model.specs.Read.{found_in, value_of}
use Rattle.target.specs.Target.{is_object, is_symbolic}
use Rattle.model.specs.Rows.{packs_updates}
use Rattle.model.proofs.RowSteps.{direct_if, goes_if, loose_set, packed_moved, loose_gone, set_packed}

-- a row of the change c, in a mode, of a name with the entry e, packable or not (p), the packed table opened or not (o):
-- what the row says is what is there, and the table is opened where the row needs it
pub record Agreed (mode : PackedRefs) (o p : Bool) (c : Change) (e : Entry) : Type 0 where
  pub existing : existing_in c ≡ value_of o e
  pub packable : is_packed e.packed ≡ true → p ≡ true
  pub to_remove : is_log_only c ≡ false → p ≡ true → is_packed e.packed ≡ true → o ≡ true
  pub to_set : is_log_only c ≡ false → p ≡ true → packs_updates mode ≡ true → is_object (new_value c) ≡ true → o ≡ true

-- the entry after W1, W3 and W4
abbrev pub after1 : PackedRefs → Bool → Change → Entry → Entry
after1 mode p c e = loose_set mode p c e

abbrev pub after3 : PackedRefs → Bool → Bool → Change → Entry → Entry
after3 mode o p c e = cond o (packed_moved mode p c e.packed (after1 mode p c e)) (after1 mode p c e)

abbrev pub after4 : PackedRefs → Bool → Bool → Change → Entry → Entry
after4 mode o p c e = loose_gone mode p c e.loose (after3 mode o p c e)

-- what the row's name is to read
abbrev pub target : Change → Entry → Option Target
target c e = cond (is_log_only c) (value_of true e) (new_value c)

-- the row shows from W1 on
pub record Early (mode : PackedRefs) (o p : Bool) (c : Change) (e : Entry) : Type 0 where
  pub set : value_of true (after1 mode p c e) ≡ target c e
  pub behind : value_of true (after3 mode o p c e) ≡ target c e
  pub left : after4 mode o p c e ≡ after3 mode o p c e

-- the row shows from W3 or W4 on
pub record Late (mode : PackedRefs) (o p : Bool) (c : Change) (e : Entry) : Type 0 where
  pub left : after1 mode p c e ≡ e
  pub between : (value_of true (after3 mode o p c e) ≡ value_of true e) ⊎ (value_of true (after3 mode o p c e) ≡ target c e)
  pub gone : value_of true (after4 mode o p c e) ≡ target c e

-- ---- log-only rows leave the entry

pub cond_same : {A : Type 0} (b : Bool) (x : A) → cond b x x ≡ x
cond_same true x = refl
cond_same false x = refl

-- of three tests the middle one fails
middle : (a b : Bool) → a && false && b ≡ false
middle true b = refl
middle false b = refl

module _ (mode : PackedRefs) (o p : Bool) (c : Change) (e : Entry) (only : is_log_only c ≡ true) where
  only_1 : after1 mode p c e ≡ e
  only_1 = simp (only, middle)

  only_3 : after3 mode o p c e ≡ e
  only_3 = simp (only, middle, cond_same)

  only_left : (l : Loose) (x : Entry) → loose_gone mode p c l x ≡ x
  only_left l x = rw (only, middle)

  only_4 : after4 mode o p c e ≡ e
  only_4 = only_left e.loose (after3 mode o p c e) ∙ only_3

  only_target : target c e ≡ value_of true e
  only_target = rw only

  pub only_early : Early mode o p c e
  only_early =
      record {
        set = ap (value_of true) only_1 ∙ sym only_target;
        behind = ap (value_of true) only_3 ∙ sym only_target;
        left = only_4 ∙ sym only_3;
      }

  pub only_late : Late mode o p c e
  only_late =
      record {
        left = only_1;
        between = inl (ap (value_of true) only_3);
        gone = ap (value_of true) only_4 ∙ sym only_target;
      }

-- ---- an update that is not direct: its loose value shows, or the same value was there before

-- a value that shows without the packed table shows with it
seen_too : (o : Bool) (e : Entry) {t : Target} → value_of o e ≡ Some t → value_of true e ≡ Some t
seen_too true e h = h
seen_too false e {t} h = go e.loose h
  where
    go : (l : Loose) → value_in (found_in l None) ≡ Some t → value_in (found_in l e.packed) ≡ Some t
    go loose.None q = absurd (let z : ◌≡◌ {A = ℕ} 0 1 = cc in omega arith)
    go (loose.Target u) q = q
    go loose.Broken q = absurd (let z : ◌≡◌ {A = ℕ} 0 1 = cc in omega arith)

-- the value that is there, packed once more
packed_again : (t : Target) (e : Entry) → value_of true e ≡ Some t → value_of true (set_packed (Some t) e) ≡ Some t
packed_again (Object o) e h = go e.loose h
  where
    go : (l : Loose) → value_in (found_in l e.packed) ≡ Some (Object o) → value_in (found_in l (Some o)) ≡ Some (Object o)
    go loose.None q = refl
    go (loose.Target u) q = q
    go loose.Broken q = refl
packed_again (Symbolic n) e h = h

moved_again : (a u : Bool) (t : Target) (e : Entry) → value_of true e ≡ Some t
    → value_of true (cond a (cond u (set_packed (Some t) e) e) e) ≡ Some t
moved_again true true t e h = packed_again t e h
moved_again true false t e h = h
moved_again false u t e h = h

opened_again : (o a u : Bool) (t : Target) (e : Entry) → value_of true e ≡ Some t
    → value_of true (cond o (cond a (cond u (set_packed (Some t) e) e) e) e) ≡ Some t
opened_again true a u t e h = moved_again a u t e h
opened_again false a u t e h = h

target_new : (c : Change) (e : Entry) → is_log_only c ≡ false → target c e ≡ new_value c
target_new c e only = rw only

-- the row differs from what is there, so that it writes its loose value
abbrev differs : PreviousValue → Target → Bool
differs expected t = is_symbolic (Some t) || not (same_option (Some t) (matched expected))

alike : (expected : PreviousValue) (t : Target) → differs expected t ≡ false → matched expected ≡ Some t
alike expected t h = sym (option_true (Some t) (matched expected) (not-false _ (go (is_symbolic (Some t)) _ h)))
  where
    go : (a b : Bool) → a || b ≡ false → b ≡ false
    go true b q = absurd (true≢false q)
    go false b q = q

module _ (mode : PackedRefs) (o p : Bool) (log : LogChange) (expected : PreviousValue) (t : Target) (e : Entry) where
  update_shows : Agreed mode o p (Update log expected t) e → is_only log.mode ≡ false
      → direct_if mode p (Update log expected t) ≡ false → value_of true (after1 mode p (Update log expected t) e) ≡ Some t
  update_shows a only apart = go (differs expected t) refl
    where
      go : (b : Bool) → differs expected t ≡ b → value_of true (after1 mode p (Update log expected t) e) ≡ Some t
      go true h = rw (apart, only, h)
      go false h = rw (apart, only, h) (seen_too o e (sym a.existing ∙ alike expected t h))

  pub update_early : Agreed mode o p (Update log expected t) e → is_only log.mode ≡ false
      → direct_if mode p (Update log expected t) ≡ false → Early mode o p (Update log expected t) e
  update_early a only apart =
      let shows = update_shows a only apart in
      let new = sym (target_new (Update log expected t) e only) in
      record {
        set = shows ∙ new;
        behind = opened_again o (not (is_only log.mode) && p) (packs_updates mode) t _ shows ∙ new;
        left = rw apart;
      }

-- ---- a direct update, or a deletion: a loose target shows until W4 removes it, and what W3 packed behind it from then on

-- what shows of a packed value by itself, and behind a broken loose one too
abbrev packed_value : Option ObjectNumber → Option Target
packed_value v = value_in (found_in loose.None v)

behind_broken : (v : Option ObjectNumber) → value_in (found_in loose.Broken v) ≡ packed_value v
behind_broken None = refl
behind_broken (Some o) = refl

-- behind a loose target nothing shows
behind_loose : (e : Entry) (v : Option ObjectNumber)
    → (value_of true (put_packed v e) ≡ value_of true e) ⊎ (value_of true (put_packed v e) ≡ packed_value v)
behind_loose e v = go e.loose
  where
    go : (l : Loose)
        → (value_in (found_in l v) ≡ value_in (found_in l e.packed)) ⊎ (value_in (found_in l v) ≡ packed_value v)
    go loose.None = inr refl
    go (loose.Target t) = inl refl
    go loose.Broken = inr (behind_broken v)

-- with the loose value gone, the packed one does
loose_gone_lem : (e : Entry) (v : Option ObjectNumber)
    → value_of true (cond (not (is_none e.loose)) (put_loose loose.None (put_packed v e)) (put_packed v e)) ≡ packed_value v
loose_gone_lem e v = go e.loose
  where
    go : (l : Loose)
        → value_of true (cond (not (is_none l)) (put_loose loose.None (put_packed v (put_loose l e))) (put_packed v (put_loose l e)))
        ≡ packed_value v
    go loose.None = refl
    go (loose.Target t) = refl
    go loose.Broken = refl

module _ (mode : PackedRefs) (o p : Bool) (c : Change) (e : Entry) (v : Option ObjectNumber) where
  late_by : after1 mode p c e ≡ e → after3 mode o p c e ≡ put_packed v e
      → goes_if mode p c e.loose ≡ not (is_none e.loose) → target c e ≡ packed_value v → Late mode o p c e
  late_by one three goes new =
      record { left = one; between = go (behind_loose e v); gone = rw (goes, three) (loose_gone_lem e v ∙ sym new) }
    where
      go : (value_of true (put_packed v e) ≡ value_of true e) ⊎ (value_of true (put_packed v e) ≡ packed_value v)
          → (value_of true (after3 mode o p c e) ≡ value_of true e) ⊎ (value_of true (after3 mode o p c e) ≡ target c e)
      go (inl h) = inl (ap (value_of true) three ∙ h)
      go (inr h) = inr (ap (value_of true) three ∙ h ∙ sym new)

pub direct_late : (mode : PackedRefs) (o p : Bool) (log : LogChange) (expected : PreviousValue) (t : Target) (e : Entry)
    → Agreed mode o p (Update log expected t) e → is_only log.mode ≡ false → direct_if mode p (Update log expected t) ≡ true
    → Late mode o p (Update log expected t) e
direct_late DeletionsOnly o p log expected t e a only h = absurd (false≢true h)
direct_late DeletionsAndNonSymbolicUpdates o p log expected t e a only h = absurd (false≢true h)
direct_late DeletionsAndNonSymbolicUpdatesRemoveLooseSourceReference o p log expected (Symbolic n) e a only h = absurd (false≢true h)
direct_late DeletionsAndNonSymbolicUpdatesRemoveLooseSourceReference o false log expected (Object x) e a only h = absurd (false≢true h)
direct_late DeletionsAndNonSymbolicUpdatesRemoveLooseSourceReference o true log expected (Object x) e a only h =
    let opened : o ≡ true = a.to_set only refl refl refl in
    late_by _ o true (Update log expected (Object x)) e (Some x) (rw only) (rw (opened, only)) (rw only) (rw only)

-- W3 of a deletion leaves nothing packed: what was packed it removes
nothing_packed : (o p u : Bool) (k : Option ObjectNumber) (e : Entry) → e.packed ≡ k → (is_packed k ≡ true → (o ≡ true) × (p ≡ true))
    → cond o (cond p (cond (is_packed k) (put_packed None e) (cond u e e)) e) e ≡ put_packed None e
nothing_packed o p u None e h need = simp cond_same (ap (λ (k : Option ObjectNumber). put_packed k e) h)
nothing_packed o p u (Some x) e h need = rw ((need refl).0, (need refl).1)

pub delete_late : (mode : PackedRefs) (o p : Bool) (expected : PreviousValue) (e : Entry)
    → Agreed mode o p (Delete expected AndReference) e → Late mode o p (Delete expected AndReference) e
delete_late mode o p expected e a =
    late_by mode o p (Delete expected AndReference) e None one
    (rw one (nothing_packed o p (packs_updates mode) e.packed e refl (λ h. (a.to_remove refl (a.packable h) h, a.packable h))))
    refl refl
  where
    one : after1 mode p (Delete expected AndReference) e ≡ e
    one = simp cond_same
