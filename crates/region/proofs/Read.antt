-- What accessors that read rest on. Assumes nothing.
use Rattle.std.specs.Prelude.{Option, Some, None}
use mathlib.Core.Path.{◌≡◌, refl, sym, ap, ◌∙◌}
use mathlib.Core.Bool.{true}
use mathlib.Core.List.{List}
use Prim.Native.Nat.{ℕ, ◌+◌, ◌*◌, ◌≤◌, ◌<◌}
use native.Mathlib.Nat.{le_trans, le_of_eq, add-zero}
use native.Mathlib.Omega.{arith}
use lib.ListN.{length, get_or, drop, length-drop}
use lib.Seq.{get_or-take, get_or-drop, length-take-le}
use lib.Dec.{leb, lit≤}
use borrow.Author.Tests.{leb-true}
use Rattle.word.specs.Be.{cut}
use Rattle.word.specs.Codec.{slot}
use Rattle.word.specs.Text.{dec_text, test_text}
use Rattle.word.proofs.Tests.{both_true}
use Rattle.word.proofs.Cut.{length_cut, cut_cut}
use Rattle.word.proofs.Slots.{ok_table_held, slot_end}
use Rattle.model.specs.declared.Line.{Line}
use Rattle.model.specs.Store.{Entry, Prepared, no_line, count, entry_at, rows_in, is_prepared}
use Rattle.transaction.specs.declared.PackedRefs.{PackedRefs}
use Rattle.transaction.specs.declared.PackedRefs.TheVariants.{DeletionsOnly, DeletionsAndNonSymbolicUpdates, DeletionsAndNonSymbolicUpdatesRemoveLooseSourceReference}
use Rattle.transaction.specs.Fields.{packed_refs_number}
use Rattle.transaction.specs.declared.Edit.{Edit}
use Rattle.model.specs.Rows as model
use Rattle.region.specs.Layout.{name_base, name_width}
use Rattle.region.specs.Region.{mode_byte, name_count, mode_number, row_count, entry_seen, line_seen, row_seen, name_offset, view, Laid}
use Rattle.region.proofs.Parts.{parts}
use Rattle.region.proofs.Seen as seen
pub use Rattle.region.proofs.Seen.{count_view, lines_view, setting_view, packed_lock_view, mode_in_view}

-- ---- counts and fields

pub rows_view : (r : List ℕ) → Laid r → length (rows_in (view r).prepared) ≡ row_count r
rows_view r l = seen.rows_count r (parts r l.ok)

pub mode_view : (r : List ℕ) → Laid r → mode_byte (view r).prepared ≡ mode_number r
mode_view r l = seen.mode_byte_lem r (parts r l.ok)

-- ---- what stands at a name, a line, a row

pub entry_view : (r : List ℕ) (n : ℕ) → n < count (view r) → entry_at (view r) n ≡ entry_seen r n
entry_view r n h = seen.entry_at_lem r n (rw count_view at h)

pub line_view : (r : List ℕ) (i : ℕ) → i < length (view r).lines → get_or (view r).lines i no_line ≡ line_seen r i
line_view r i h = seen.line_at r i (rw lines_view at h)

pub row_view : (r : List ℕ) → Laid r → (i : ℕ) → i < length (rows_in (view r).prepared)
    → model.row_at (rows_in (view r).prepared) i ≡ row_seen r i
row_view r l i h = seen.row_at_lem r (parts r l.ok) i (le_trans h (le_of_eq (rows_view r l)))

-- ---- the bytes of a text in its slot of w + 1 bytes at a

module _ (r : List ℕ) (a w : ℕ) (room : a + (w + 1) ≤ length r) (ok : test_text w (cut a (w + 1) r) ≡ true) where
  first : get_or (cut a (w + 1) r) 0 0 ≡ get_or r a 0
  first =
      get_or-take (w + 1) (drop a r) 0 0 (omega arith)
      ∙ get_or-drop a r 0 0
      ∙ ap (λ (n : ℕ). get_or r n 0) (add-zero a)

  short : get_or (cut a (w + 1) r) 0 0 ≤ w
  unfolding test_text
  short = leb-true _ _ (both_true (leb (get_or (cut a (w + 1) r) 0 0) w) _ ok).0

  text_length : length (dec_text (cut a (w + 1) r)) ≡ get_or (cut a (w + 1) r) 0 0
  unfolding dec_text
  text_length =
      let e : length (cut a (w + 1) r) ≡ w + 1 = length_cut a (w + 1) r room in
      let h : get_or (cut a (w + 1) r) 0 0 ≤ w = short in
      length-take-le (get_or (cut a (w + 1) r) 0 0) (drop 1 (cut a (w + 1) r)) (rw length-drop (omega arith))

  text_size : get_or r a 0 ≡ length (dec_text (cut a (w + 1) r))
  text_size = sym (text_length ∙ first)

  text_short : length (dec_text (cut a (w + 1) r)) ≤ w
  text_short = le_trans (le_of_eq text_length) short

  text_read_lem : cut (a + 1) (length (dec_text (cut a (w + 1) r))) r ≡ dec_text (cut a (w + 1) r)
  unfolding dec_text
  text_read_lem =
      let h : get_or (cut a (w + 1) r) 0 0 ≤ w = short in
      ap (λ (n : ℕ). cut (a + 1) n r) text_length ∙ sym (cut_cut a (w + 1) 1 (get_or (cut a (w + 1) r) 0 0) r (omega arith))

-- ---- the bytes of a name: its length, and what stands behind it

module _ (r : List ℕ) (l : Laid r) (n : ℕ) (h : n < count (view r)) where
  name_at_lem : (entry_at (view r) n).name ≡ dec_text (slot name_base name_width n r)
  name_at_lem = ap (λ (e : Entry). e.name) (entry_view r n h)

  name_room : name_base + n * name_width + name_width ≤ length r
  name_room =
      slot_end name_base name_width 256 n r (le_trans h l.names) (le_trans (lit≤ tt) (le_of_eq (sym l.size)))

  name_ok_lem : test_text 64 (slot name_base name_width n r) ≡ true
  name_ok_lem =
      ok_table_held name_width (test_text 64) 256 (name_count r) name_base r (parts r l.ok).name_ok n (le_trans h l.names)
      (rw count_view at h)

  pub name_length : get_or r (13 + n * 65) 0 ≡ length (entry_at (view r) n).name
  name_length = text_size r (13 + n * 65) 64 name_room name_ok_lem ∙ ap length (sym name_at_lem)

  pub name_short : length (entry_at (view r) n).name ≤ 64
  name_short = le_trans (le_of_eq (ap length name_at_lem)) (text_short r (13 + n * 65) 64 name_room name_ok_lem)

  pub name_read_lem : cut (name_offset n) (length (entry_at (view r) n).name) r ≡ (entry_at (view r) n).name
  name_read_lem =
      ap (λ (xs : List ℕ). cut (name_offset n) (length xs) r) name_at_lem ∙ text_read_lem r (13 + n * 65) 64 name_room name_ok_lem ∙ sym name_at_lem

pub name_of_row : (row : Edit) (rows : List Edit) (i : ℕ) → row ≡ model.row_at rows i → row.update.name ≡ model.name_in (model.row_at rows i)
name_of_row row rows i e = ap model.name_in e

pub name_of_line : (line : Line) (lines : List Line) (i : ℕ) → line ≡ get_or lines i no_line → line.name ≡ (get_or lines i no_line).name
name_of_line line lines i e = ap (λ (l : Line). l.name) e

-- ---- the mode's byte is 0 exactly where nothing is prepared

mode_positive : (m : PackedRefs) → packed_refs_number m ≡ 0 → ⊥
mode_positive DeletionsOnly e = omega arith
mode_positive DeletionsAndNonSymbolicUpdates e = omega arith
mode_positive DeletionsAndNonSymbolicUpdatesRemoveLooseSourceReference e = omega arith

pub is_prepared_lem : (p : Option Prepared) → (mode_byte p ≡ 0 → ⊥) → is_prepared p ≡ true
is_prepared_lem None h = absurd (h refl)
is_prepared_lem (Some p) h = refl

pub not_prepared : (p : Option Prepared) → mode_byte p ≡ 0 → p ≡ None
not_prepared None h = refl
not_prepared (Some p) h = absurd (mode_positive p.mode h)
