-- The record of the rules and their test say the same. Assumes nothing.
use mathlib.Core.Path.{◌≡◌, refl}
use mathlib.Core.Bool.{Bool, true}
use mathlib.Core.List.{List, [], ◌∷◌}
use mathlib.Core.Logic.{◌↔◌}
use Prim.Native.Nat.{ℕ}
use lib.ListN.{get_or}
use borrow.Author.Tests.{leb-true, le-leb}
pub use Rattle.word.proofs.Tests.{both_true, true_both, every_at, below_true, true_below}
use Rattle.model.specs.Basic.{every}
use Rattle.model.specs.Store.{Store}
use Rattle.model.specs.Fine.{Fine, name_rules, line_rules, row_rules, lock_rules, room_rules, nest_rules, fine_names, fine_lines, fine_rows, fine_locks, fine_room, fine_nests, fine}

-- the rules of each group, from its test
pub fine_true : (s : Store) → fine s ≡ true → Fine s
unfolding fine fine_names fine_lines fine_rows fine_locks fine_room fine_nests
fine_true s e =
    let groups : List Bool = fine_names s ∷ fine_lines s ∷ fine_rows s ∷ fine_locks s ∷ fine_room s ∷ fine_nests s ∷ [] in
    let names : (i : ℕ) → get_or (name_rules s) i true ≡ true = λ i. every_at (name_rules s) i (every_at groups 0 e) in
    let lines : (i : ℕ) → get_or (line_rules s) i true ≡ true = λ i. every_at (line_rules s) i (every_at groups 1 e) in
    let rows : (i : ℕ) → get_or (row_rules s) i true ≡ true = λ i. every_at (row_rules s) i (every_at groups 2 e) in
    let locks : (i : ℕ) → get_or (lock_rules s) i true ≡ true = λ i. every_at (lock_rules s) i (every_at groups 3 e) in
    let room : (i : ℕ) → get_or (room_rules s) i true ≡ true = λ i. every_at (room_rules s) i (every_at groups 4 e) in
    let nests : (i : ℕ) → get_or (nest_rules s) i true ≡ true = λ i. every_at (nest_rules s) i (every_at groups 5 e) in
    record {
      few = leb-true _ _ (names 0);
      entries = below_true _ _ (names 1);
      apart = λ n h. below_true _ _ (below_true _ _ (names 2) n h);
      short = leb-true _ _ (lines 0);
      lines = below_true _ _ (lines 1);
      bounded = leb-true _ _ (rows 0);
      rows = below_true _ _ (rows 1);
      distinct = λ i h. below_true _ _ (below_true _ _ (rows 2) i h);
      locks = below_true _ _ (locks 0);
      packed_lock = locks 1;
      room = leb-true _ _ (room 0);
      alone = below_true _ _ (nests 0);
      clear = below_true _ _ (nests 1);
    }

-- the bound of a group, then one test of each, then one of each two
three : (a b c : Bool) → a ≡ true → b ≡ true → c ≡ true → every (a ∷ b ∷ c ∷ []) ≡ true
three a b c p q r = true_both p (true_both q (true_both r refl))

-- the tests of each group, from the rules
pub true_fine : (s : Store) → Fine s → fine s ≡ true
unfolding fine fine_names fine_lines fine_rows fine_locks fine_room fine_nests
true_fine s f =
    true_both (three _ _ _ (le-leb _ _ f.few) (true_below _ _ f.entries) (true_below _ _ (λ n h. true_below _ _ (f.apart n h))))
    (true_both (true_both (le-leb _ _ f.short) (true_both (true_below _ _ f.lines) refl))
    (true_both (three _ _ _ (le-leb _ _ f.bounded) (true_below _ _ f.rows) (true_below _ _ (λ i h. true_below _ _ (f.distinct i h))))
    (true_both (true_both (true_below _ _ f.locks) (true_both f.packed_lock refl))
    (true_both (true_both (le-leb _ _ f.room) refl)
    (true_both (true_both (true_below _ _ f.alone) (true_both (true_below _ _ f.clear) refl)) refl)))))

pub fine_iff : (s : Store) → (fine s ≡ true) ↔ Fine s
fine_iff s = (fine_true s, true_fine s)
