-- Starts, turns and ends of the loops over names, rows and bytes, and what the passes say of the rule. Assumes nothing.
use mathlib.Core.Path.{◌≡◌, refl, sym, ap, ◌∙◌}
use mathlib.Core.Bool.{Bool, true, false, ◌&&◌, not, cond, and-true, and-false}
use mathlib.Core.List.{List}
use Prim.Native.Nat.{ℕ, ◌+◌, ◌<◌, ◌≤◌}
use native.Mathlib.Omega.{arith}
use lib.ListN.{length, get_or, set}
use lib.Dec.{eqb}
use borrow.Author.Tests.{not-true, not-false, eqb-true, eq-eqb}
use Rattle.word.specs.Flags.{Flags, nowhere}
use Rattle.word.proofs.Tests.{both_true, true_both, some_true, Found, some_found, Unmet, unmet_here, unmet_end}
use Rattle.target.specs.declared.NameNumber.{NameNumber}
use Rattle.transaction.specs.declared.PackedRefs.{PackedRefs}
use Rattle.model.specs.Basic.{below, some_below}
use Rattle.model.specs.Store.{Store, count, entry_at, entry_of, rows_in, mode_in}
use Rattle.model.specs.Rows.{name_in, row_at}
use Rattle.model.specs.Beneath.{is_loose}
use Rattle.model.specs.Fine.{alone_loose, clear_row, fine_nests}
use Rattle.model.proofs.Beneath.{loose_in_lem}
use Rattle.region.specs.Region.{view, Laid}
use Rattle.region.proofs.Read.{name_short}
use Rattle.nests.specs.Under.{is_up, some_has, chosen, chosen_for, size_for, slashed, slash_at, under_one, under, flagged_under, none_under}
use Rattle.nests.proofs.Raising.{Raising, raising_start, raising_more, raising_end}
use Rattle.nests.proofs.Sizes.{unslashed}
use Rattle.nests.proofs.Rows.{alone_flags}

-- ---- names with a loose value

abbrev pub itself : ℕ → ℕ
itself n = n

module _ (s : Store) (c : ℕ) where
  pub loose_start : (flags : List Bool) → Flags nowhere flags → Raising itself (is_loose s) c 0 flags
  loose_start flags f = raising_start itself (is_loose s) c flags f

  pub loose_more : (n : ℕ) (flags flags' : List Bool) → Raising itself (is_loose s) c n flags → n < c → flags' ≡ cond (is_loose s n) (set flags n true) flags
      → Raising itself (is_loose s) c (n + 1) flags'
  loose_more n flags flags' r l h = raising_more itself (is_loose s) c n flags flags' r l h

  pub loose_end : (n : ℕ) (flags : List Bool) → Raising itself (is_loose s) c n flags → c ≡ count s → c ≤ n → Flags (is_loose s) flags
  unfolding some_has
  loose_end n flags r e l =
      let f : Flags (some_has itself (is_loose s) c) flags = raising_end itself (is_loose s) c n flags r l in
      record { size = f.size; flag = λ k h. f.flag k h ∙ own k (is_loose s k) refl (some_has itself (is_loose s) c k) refl }
    where
      own : (k : ℕ) (t : Bool) → is_loose s k ≡ t → (u : Bool) → some_has itself (is_loose s) c k ≡ u → u ≡ t
      own k true p true q = refl
      own k true p false q =
          let g : k < count s = loose_in_lem s k p in
          let h : k < c = omega arith in
          sym q ∙ some_true c (λ i. is_loose s i && eqb i k) k h (true_both p (eq-eqb k k refl))
      own k false p true q =
          let f : Found c (λ i. is_loose s i && eqb i k) = some_found c _ q in
          let both : (is_loose s f.place ≡ true) × (eqb f.place k ≡ true) = both_true _ _ f.holds in
          sym both.0 ∙ ap (is_loose s) (eqb-true f.place k both.1) ∙ p
      own k false p false q = refl

-- ---- rows

abbrev pub named : Store → ℕ → ℕ
named s i = (name_in (row_at (rows_in s.prepared) i)).0

abbrev pub wanted : Store → PackedRefs → Bool → ℕ → Bool
wanted s mode writing i = chosen s mode writing (row_at (rows_in s.prepared) i)

module _ (s : Store) (mode : PackedRefs) (writing : Bool) (c : ℕ) where
  pub rows_start : (flags : List Bool) → Flags nowhere flags → Raising (named s) (wanted s mode writing) c 0 flags
  rows_start flags f = raising_start (named s) (wanted s mode writing) c flags f

  pub rows_more : (i : ℕ) (flags flags' : List Bool) → Raising (named s) (wanted s mode writing) c i flags → i < c
      → flags' ≡ cond (chosen s mode writing (row_at (rows_in s.prepared) i)) (set flags (name_in (row_at (rows_in s.prepared) i)).0 true) flags
      → Raising (named s) (wanted s mode writing) c (i + 1) flags'
  rows_more i flags flags' r l h = raising_more (named s) (wanted s mode writing) c i flags flags' r l h

  pub rows_end : (i : ℕ) (flags : List Bool) → Raising (named s) (wanted s mode writing) c i flags → c ≡ length (rows_in s.prepared) → c ≤ i
      → mode ≡ mode_in s.prepared → Flags (chosen_for s writing) flags
  unfolding chosen_for
  rows_end i flags r e l em =
      let f : Flags (some_has (named s) (wanted s mode writing) c) flags = raising_end (named s) (wanted s mode writing) c i flags r l in
      record {
        size = f.size;
        flag = λ k h. f.flag k h ∙ ap (λ (m : PackedRefs). some_has (named s) (wanted s m writing) c k) em ∙ ap (λ (j : ℕ). some_has (named s) (wanted s (mode_in s.prepared) writing) j k) e;
      }

-- ---- lengths

abbrev pub size_at : Store → ℕ → ℕ
size_at s m = length (entry_at s m).name

module _ (s : Store) (upper : List Bool) (c : ℕ) where
  pub sizes_start : (sizes : List Bool) → Flags nowhere sizes → Raising (size_at s) (is_up upper) c 0 sizes
  sizes_start sizes f = raising_start (size_at s) (is_up upper) c sizes f

  pub sizes_more : (m : ℕ) (sizes sizes' : List Bool) → Raising (size_at s) (is_up upper) c m sizes → m < c
      → sizes' ≡ cond (is_up upper m) (set sizes (length (entry_at s m).name) true) sizes → Raising (size_at s) (is_up upper) c (m + 1) sizes'
  sizes_more m sizes sizes' r l h = raising_more (size_at s) (is_up upper) c m sizes sizes' r l h

  pub sizes_end : (m : ℕ) (sizes : List Bool) → Raising (size_at s) (is_up upper) c m sizes → c ≡ count s → c ≤ m → Flags (size_for s upper) sizes
  unfolding size_for
  sizes_end m sizes r e l =
      let f : Flags (some_has (size_at s) (is_up upper) c) sizes = raising_end (size_at s) (is_up upper) c m sizes r l in
      record { size = f.size; flag = λ k h. f.flag k h ∙ ap (λ (j : ℕ). some_has (size_at s) (is_up upper) j k) e }

-- ---- slashes

module _ (name : List ℕ) (sizes : List Bool) where
  pub slash_here : (i : ℕ) (r : Bool) → i < length name → r ≡ slashed name sizes i → r ≡ true → true ≡ slash_at name sizes
  unfolding slash_at
  slash_here i r l er t = sym (unmet_here (slashed name sizes) (length name) i r l er t)

  pub slash_end : (i : ℕ) → Unmet (slashed name sizes) (length name) i → length name ≤ i → false ≡ slash_at name sizes
  unfolding slash_at
  slash_end i u l = unmet_end (slashed name sizes) (length name) i u l

-- ---- names beneath flagged ones

module _ (s : Store) (upper : List Bool) (n c : ℕ) (ec : c ≡ count s) where
  pub under_here : (m : ℕ) (r : Bool) → m < c → r ≡ under_one s upper n m → r ≡ true → true ≡ under s upper n
  unfolding under
  under_here m r l er t = sym (unmet_here (under_one s upper n) c m r l er t) ∙ ap (λ (k : ℕ). some_below k (under_one s upper n)) ec

  pub under_end : (m : ℕ) → Unmet (under_one s upper n) c m → c ≤ m → false ≡ under s upper n
  unfolding under
  under_end m u l = unmet_end (under_one s upper n) c m u l ∙ ap (λ (k : ℕ). some_below k (under_one s upper n)) ec

-- a name that is not flagged, or has no slash where a flagged name could end
pub flagged_not : (s : Store) (lower upper : List Bool) (n : ℕ) (v b : Bool) → v ≡ false → b ≡ get_or lower n false → b ≡ false
    → v ≡ flagged_under s lower upper n
unfolding flagged_under
flagged_not s lower upper n v b z eb t = rw (sym eb ∙ t) z

pub flagged_unslashed : (r : List ℕ) (lower upper sizes : List Bool) (n : ℕ) (v : Bool) → v ≡ false → Laid r → n < count (view r)
    → Flags (size_for (view r) upper) sizes → (k : NameNumber) (name : List ℕ) (a : Bool) → k ≡ record { 0 = n } → name ≡ (entry_of (view r) k).name
    → a ≡ slash_at name sizes → v ≡ a → v ≡ flagged_under (view r) lower upper n
unfolding flagged_under
flagged_unslashed r lower upper sizes n v z l h f k name a ek en ea va =
    rw (unslashed (view r) upper sizes n (name_short r l n h) f no_slash) (z ∙ sym (and-false (is_up lower n)))
  where
    no_slash : slash_at (entry_at (view r) n).name sizes ≡ false
    no_slash = ap (λ (x : List ℕ). slash_at x sizes) (sym (en ∙ ap (λ (j : NameNumber). (entry_of (view r) j).name) ek)) ∙ sym ea ∙ sym va ∙ z

module _ (s : Store) (lower upper : List Bool) (c : ℕ) (ec : c ≡ count s) where
  none_as : not (some_below c (flagged_under s lower upper)) ≡ none_under s lower upper
  unfolding none_under
  none_as = ap (λ (k : ℕ). not (some_below k (flagged_under s lower upper))) ec

  pub none_here : (n : ℕ) (r : Bool) → n < c → r ≡ flagged_under s lower upper n → r ≡ true → false ≡ none_under s lower upper
  none_here n r l er t = ap not (sym (unmet_here (flagged_under s lower upper) c n r l er t)) ∙ none_as

  pub none_end : (n : ℕ) → Unmet (flagged_under s lower upper) c n → c ≤ n → true ≡ none_under s lower upper
  none_end n u l = ap not (unmet_end (flagged_under s lower upper) c n u l) ∙ none_as

-- ---- the rule

module _ (s : Store) (loose : List Bool) (f : Flags (is_loose s) loose) (few : count s ≤ 256) (a : Bool) (ea : a ≡ none_under s loose loose) where
  alone_is_a : below (count s) (alone_loose s) ≡ a
  alone_is_a = alone_flags s few loose f ∙ sym ea

  pub nests_loose : not a ≡ true → false ≡ fine_nests s
  unfolding fine_nests
  nests_loose t = rw (alone_is_a ∙ not-true a t)

  module _ (t : not a ≡ false) where
    pub nests_rows : (r : Bool) → r ≡ below (length (rows_in s.prepared)) (clear_row s (mode_in s.prepared) (rows_in s.prepared)) → r ≡ fine_nests s
    unfolding fine_nests
    nests_rows r er = rw (alone_is_a ∙ not-false a t) (er ∙ sym (and-true _))

    pub nests_none : (k : ℕ) → k ≡ length (rows_in s.prepared) → k ≡ 0 → true ≡ fine_nests s
    unfolding below
    nests_none k ek e0 =
        nests_rows true (ap (λ (j : ℕ). below j (clear_row s (mode_in s.prepared) (rows_in s.prepared))) (sym e0 ∙ ek))
