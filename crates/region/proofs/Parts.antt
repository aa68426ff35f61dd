-- The tests of the layout, one by one. Assumes nothing.
use mathlib.Core.Path.{◌≡◌, refl}
use mathlib.Core.Bool.{true, cond}
use mathlib.Core.List.{List}
use Prim.Native.Nat.{ℕ, ◌≤◌}
use lib.ListN.{length, get_or}
use lib.Dec.{eqb}
use borrow.Author.Tests.{eqb-true, leb-true, le-leb, eq-eqb}
use Rattle.word.specs.Be.{Bytes, cut, val}
use Rattle.word.specs.Codec.{ok_table, is_some}
use Rattle.word.specs.Text.{test_text}
use Rattle.word.proofs.Be.{are_bytes_lem, bytes_are}
use Rattle.word.proofs.Tests.{every_at, true_both}
use Rattle.slots.specs.Values.{loose_in, lock_in}
use Rattle.slots.specs.Row.{row_in}
use Rattle.region.specs.Layout.{setting_at, packed_lock_at, name_base, name_width, loose_base, loose_width, packed_base, packed_width, lock_base, lock_width, row_base, row_width, line_base, line_width, region_size, rest_size}
use Rattle.region.specs.Region.{name_count, line_count, mode_number, row_count, layout_tests, layout}

pub record Parts (r : List ℕ) : Type 0 where
  pub size : length r ≡ region_size
  pub bytes : Bytes r
  pub version : val (cut 0 1 r) ≡ 1
  pub rest : val (cut 1 4 r) ≡ rest_size
  pub setting : val (cut setting_at 1 r) ≤ 2
  pub names : name_count r ≤ 256
  pub lines : line_count r ≤ 1024
  pub mode : mode_number r ≤ 3
  pub rows : row_count r ≤ cond (eqb (mode_number r) 0) 0 160
  pub packed_lock : val (cut packed_lock_at 1 r) ≤ 2
  pub name_ok : ok_table name_width (test_text 64) 256 (name_count r) name_base r ≡ true
  pub loose_ok : ok_table loose_width (λ x. is_some (loose_in x)) 256 (name_count r) loose_base r ≡ true
  pub packed_ok : ok_table packed_width (λ x. true) 256 (name_count r) packed_base r ≡ true
  pub lock_ok : ok_table lock_width (λ x. is_some (lock_in x)) 256 (name_count r) lock_base r ≡ true
  pub row_ok : ok_table row_width (λ x. is_some (row_in x)) 160 (row_count r) row_base r ≡ true
  pub line_ok : ok_table line_width (λ x. true) 1024 (line_count r) line_base r ≡ true

pub parts : (r : List ℕ) → layout r ≡ true → Parts r
unfolding layout layout_tests
parts r e =
    let t : (i : ℕ) → get_or (layout_tests r) i true ≡ true = λ i. every_at (layout_tests r) i e in
    record {
      size = eqb-true _ _ (t 0);
      bytes = are_bytes_lem r (t 1);
      version = eqb-true _ _ (t 2);
      rest = eqb-true _ _ (t 3);
      setting = leb-true _ _ (t 4);
      names = leb-true _ _ (t 5);
      lines = leb-true _ _ (t 6);
      mode = leb-true _ _ (t 7);
      rows = leb-true _ _ (t 8);
      packed_lock = leb-true _ _ (t 9);
      name_ok = t 10;
      loose_ok = t 11;
      packed_ok = t 12;
      lock_ok = t 13;
      row_ok = t 14;
      line_ok = t 15;
    }

pub parts_layout : (r : List ℕ) → Parts r → layout r ≡ true
unfolding layout layout_tests
parts_layout r p =
    true_both (eq-eqb _ _ p.size)
    (true_both (bytes_are p.bytes)
    (true_both (eq-eqb _ _ p.version)
    (true_both (eq-eqb _ _ p.rest)
    (true_both (le-leb _ _ p.setting)
    (true_both (le-leb _ _ p.names)
    (true_both (le-leb _ _ p.lines)
    (true_both (le-leb _ _ p.mode)
    (true_both (le-leb _ _ p.rows)
    (true_both (le-leb _ _ p.packed_lock)
    (true_both p.name_ok
    (true_both p.loose_ok
    (true_both p.packed_ok
    (true_both p.lock_ok
    (true_both p.row_ok
    (true_both p.line_ok refl)))))))))))))))
