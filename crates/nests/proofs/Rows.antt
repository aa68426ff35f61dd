-- The rules by flags: a pass over names says what the definitions say pair by pair. Assumes nothing.
use mathlib.Core.Path.{◌≡◌, refl, sym, ap, ◌∙◌}
use mathlib.Core.Bool.{Bool, true, false, ◌&&◌, not, true≢false}
use mathlib.Core.List.{List}
use Prim.Native.Nat.{ℕ, ◌<◌, ◌≤◌}
use native.Mathlib.Omega.{arith}
use lib.ListN.{length}
use lib.Dec.{eqb}
use borrow.Author.Tests.{not-true, not-false, eqb-true, eq-eqb}
use Rattle.word.specs.Flags.{Flags}
use Rattle.word.proofs.Tests.{both_true, true_both, below_true, true_below, some_false, false_some, some_true, Found, some_found}
use Rattle.transaction.specs.declared.PackedRefs.{PackedRefs}
use Rattle.transaction.specs.declared.Edit.{Edit}
use Rattle.model.specs.Basic.{below}
use Rattle.model.specs.Store.{Store, count, rows_in, mode_in}
use Rattle.model.specs.Rows.{name_in, row_at}
use Rattle.model.specs.Beneath.{is_loose, lies, will_write}
use Rattle.model.specs.Fine.{alone_loose, clear_row}
use Rattle.model.proofs.Beneath.{and_not, not_and, loose_in_lem, Alone, alone_is, is_alone, Clear, clear_is, is_clear, rows_apart}
use Rattle.rows.specs.Rows.{Named}
use Rattle.nests.specs.Under.{is_up, some_has, chosen, chosen_for, under_one, under, flagged_under, none_under}

same_bool : (a b : Bool) → (a ≡ true → b ≡ true) → (b ≡ true → a ≡ true) → a ≡ b
same_bool true b f g = sym (f refl)
same_bool false true f g = g refl
same_bool false false f g = refl

-- ---- no name that is flagged in the first lies beneath one that is flagged in the second

module _ (s : Store) (lower upper : List Bool) where
  pub none_is : none_under s lower upper ≡ true
      → (n m : ℕ) → n < count s → m < count s → is_up lower n ≡ true → is_up upper m ≡ true → lies s n m ≡ false
  unfolding none_under flagged_under under under_one
  none_is h n m p q u v =
      not_and (is_up upper m) (lies s n m) (some_false (count s) (under_one s upper n) inner m q) v
    where
      inner : under s upper n ≡ false
      inner = not_and (is_up lower n) (under s upper n) (some_false (count s) (flagged_under s lower upper) (not-true _ h) n p) u

  pub is_none : ((n m : ℕ) → n < count s → m < count s → is_up lower n ≡ true → is_up upper m ≡ true → lies s n m ≡ false)
      → none_under s lower upper ≡ true
  unfolding none_under flagged_under under under_one
  is_none h =
      ap not (false_some (count s) (flagged_under s lower upper) (λ n p.
      and_not (is_up lower n) (under s upper n) (λ u.
      false_some (count s) (under_one s upper n) (λ m q. and_not (is_up upper m) (lies s n m) (λ v. h n m p q u v)))))

-- ---- no loose value beneath another

module _ (s : Store) (few : count s ≤ 256) (loose : List Bool) (f : Flags (is_loose s) loose) where
  up_loose : (n : ℕ) → n < count s → is_up loose n ≡ is_loose s n
  up_loose n h = f.flag n (omega arith)

  loose_up : (n : ℕ) → is_loose s n ≡ true → is_up loose n ≡ true
  loose_up n h = let l : n < count s = loose_in_lem s n h in up_loose n l ∙ h

  pub alone_flags : below (count s) (alone_loose s) ≡ none_under s loose loose
  alone_flags =
      same_bool _ _
      (λ h. let a : Alone s = alone_is s (below_true _ _ h) in
      is_none s loose loose (λ n m p q u v. a.alone n m (sym (up_loose n p) ∙ u) (sym (up_loose m q) ∙ v)))
      (λ h. true_below _ _ (is_alone s (record {
        alone = λ n m u v. none_is s loose loose h n m (loose_in_lem s n u) (loose_in_lem s m v) (loose_up n u) (loose_up m v);
      })))

  -- ---- no row that 25 refuses

  module _ (named : Named s) where
    abbrev pub rows : List Edit
    rows = rows_in s.prepared

    abbrev pub mode : PackedRefs
    mode = mode_in s.prepared

    abbrev number : ℕ → ℕ
    number i = (name_in (row_at rows i)).0

    in_names : (i : ℕ) → i < length rows → number i < count s
    in_names i h = named.named i h

    cleared : below (length rows) (clear_row s mode rows) ≡ true → Clear s mode rows
    cleared h = clear_is s mode rows (below_true _ _ h)

    none_false : (b z : Bool) → (z ≡ true → b ≡ true) → not b ≡ true → false ≡ z
    none_false b true f n = absurd (true≢false (sym (f refl) ∙ not-true b n))
    none_false b false f n = refl

    -- the row that a flag stands for
    record Stands (w : Bool) (n : ℕ) : Type 0 where
      place : ℕ
      there : place < length rows
      name : number place ≡ n
      ok : chosen s mode w (row_at rows place) ≡ true

    stands : (w : Bool) (n : ℕ) → chosen_for s w n ≡ true → Stands w n
    unfolding chosen_for some_has
    stands w n h =
        let f : Found (length rows) (λ i. chosen s mode w (row_at rows i) && eqb (number i) n) = some_found (length rows) _ h in
        let both : (chosen s mode w (row_at rows f.place) ≡ true) × (eqb (number f.place) n ≡ true) = both_true _ _ f.holds in
        record { place = f.place; there = f.there; name = eqb-true (number f.place) n both.1; ok = both.0 }

    flagged : (w : Bool) (i : ℕ) → i < length rows → chosen s mode w (row_at rows i) ≡ true → chosen_for s w (number i) ≡ true
    unfolding chosen_for some_has
    flagged w i h o =
        some_true (length rows) (λ j. chosen s mode w (row_at rows j) && eqb (number j) (number i)) i h (true_both o (eq-eqb (number i) (number i) refl))

    -- flags of the names of chosen rows
    module _ (w : Bool) (flags : List Bool) (g : Flags (chosen_for s w) flags) where
      up_row : (i : ℕ) → i < length rows → chosen s mode w (row_at rows i) ≡ true → is_up flags (number i) ≡ true
      up_row i h o = let l : number i < count s = in_names i h in g.flag (number i) (omega arith) ∙ flagged w i h o

      row_of : (n : ℕ) → n < count s → is_up flags n ≡ true → Stands w n
      row_of n h u = stands w n (sym (g.flag n (omega arith)) ∙ u)

    any_chosen : (r : Edit) → chosen s mode false r ≡ true
    unfolding chosen
    any_chosen r = refl

    will_chosen : (r : Edit) → chosen s mode true r ≡ will_write s mode r
    unfolding chosen
    will_chosen r = refl

    will_of : {n : ℕ} (t : Stands true n) → will_write s mode (row_at rows t.place) ≡ true
    will_of t = sym (will_chosen (row_at rows t.place)) ∙ t.ok

    -- a pass that finds one decides, and where two find none the third decides
    module _ (all : List Bool) (fa : Flags (chosen_for s false) all) (a : Bool) (ea : a ≡ none_under s all loose) where
      clear_all : Clear s mode rows → none_under s all loose ≡ true
      clear_all c = is_none s all loose (λ n m p q u v.
          let t : Stands false n = row_of false all fa n p u in
          rw (← t.name) ((c.clear t.place t.there).above m (sym (up_loose m q) ∙ v)))

      pub rows_under : not a ≡ true → false ≡ below (length rows) (clear_row s mode rows)
      rows_under n = none_false a _ (λ h. ea ∙ clear_all (cleared h)) n

      module _ (na : not a ≡ false) (writing : List Bool) (fw : Flags (chosen_for s true) writing) (b : Bool) (eb : b ≡ none_under s loose writing) where
        up_writing : (i : ℕ) → i < length rows → will_write s mode (row_at rows i) ≡ true → is_up writing (number i) ≡ true
        up_writing i h w = up_row true writing fw i h (will_chosen (row_at rows i) ∙ w)

        clear_over : Clear s mode rows → none_under s loose writing ≡ true
        clear_over c = is_none s loose writing (λ n m p q u v.
            let t : Stands true m = row_of true writing fw m q v in
            rw (← t.name) ((c.clear t.place t.there).beneath (will_of t) n (sym (up_loose n p) ∙ u)))

        clear_among : Clear s mode rows → none_under s writing writing ≡ true
        clear_among c = is_none s writing writing (λ n m p q u v.
            let t : Stands true n = row_of true writing fw n p u in
            let k : Stands true m = row_of true writing fw m q v in
            rw (← t.name, ← k.name) (rows_apart s mode rows c t.place k.place t.there k.there (will_of t) (will_of k)))

        all_clear : none_under s all loose ≡ true → none_under s loose writing ≡ true → none_under s writing writing ≡ true → Clear s mode rows
        all_clear x y z = record {
          clear = λ i h. record {
            above = λ m l. none_is s all loose x (number i) m (in_names i h) (loose_in_lem s m l) (up_row false all fa i h (any_chosen (row_at rows i))) (loose_up m l);
            beneath = λ w m l. none_is s loose writing y m (number i) (loose_in_lem s m l) (in_names i h) (loose_up m l) (up_writing i h w);
            among = λ w j k v.
                let g : j < length rows = omega arith in (
                  none_is s writing writing z (number i) (number j) (in_names i h) (in_names j g) (up_writing i h w) (up_writing j g v),
                  none_is s writing writing z (number j) (number i) (in_names j g) (in_names i h) (up_writing j g v) (up_writing i h w),
                );
          };
        }

        pub rows_over : not b ≡ true → false ≡ below (length rows) (clear_row s mode rows)
        rows_over n = none_false b _ (λ h. eb ∙ clear_over (cleared h)) n

        pub rows_among : not b ≡ false → (d : Bool) → d ≡ none_under s writing writing → d ≡ below (length rows) (clear_row s mode rows)
        rows_among nb d ed =
            same_bool _ _
            (λ h. true_below _ _ (is_clear s mode rows (all_clear (sym ea ∙ not-false a na) (sym eb ∙ not-false b nb) (sym ed ∙ h))))
            (λ h. ed ∙ clear_among (cleared h))
