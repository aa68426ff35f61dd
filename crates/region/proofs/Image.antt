-- The image of a store that fits: its length, its bytes; it is laid out so, and the store is seen in it. Assumes nothing.
use Rattle.std.specs.Prelude.{Option, Some, None, unwrap_or}
use Rattle.target.specs.declared.ObjectNumber.{ObjectNumber}
use mathlib.Core.Path.{◌≡◌, refl, ap, ap₂, ◌∙◌}
use mathlib.Core.Bool.{true, cond}
use mathlib.Core.List.{List, []}
use Prim.Native.Nat.{ℕ, ◌*◌, ◌≤◌, ◌<◌}
use native.Mathlib.Omega.{arith}
use lib.ListN.{length, get_or}
use lib.Dec.{eqb, lit≤, lit<}
use Rattle.word.specs.Be.{Bytes, cut, val, be}
use Rattle.word.specs.Be.Bytes.{none as no_bytes}
use Rattle.word.specs.Cut.{flat, start}
use Rattle.word.specs.Table.{table, tabulate}
use Rattle.word.specs.Codec.{Codec, slot, ok_table, elements}
use Rattle.word.specs.Text.{FineText, enc_text}
use Rattle.word.proofs.Be.{val_be, bytes_be, bytes_append}
use Rattle.word.proofs.Cut.{cut_whole}
use Rattle.word.proofs.Table.{tabulate_get_d}
use Rattle.word.proofs.Codec.{forth_elements}
use Rattle.word.proofs.Column.{column_forth, column_part, column_bytes}
use Rattle.word.proofs.Text.{texts}
use Rattle.transaction.specs.declared.Edit.{Edit}
use Rattle.transaction.specs.declared.PackedRefs.{PackedRefs}
use Rattle.transaction.specs.declared.PackedRefs.TheVariants.{DeletionsOnly, DeletionsAndNonSymbolicUpdates, DeletionsAndNonSymbolicUpdatesRemoveLooseSourceReference}
use Rattle.transaction.specs.Fields.{packed_refs_number}
use Rattle.model.specs.declared.Loose.{Loose}
use Rattle.model.specs.declared.Lock.{Lock}
use Rattle.model.specs.declared.Lock.TheVariants.{Free, Foreign, Ours}
use Rattle.model.specs.declared.Line.{Line}
use Rattle.model.specs.declared.WriteReflog.{WriteReflog}
use Rattle.model.specs.declared.WriteReflog.TheVariants.{Disable, Normal, Always}
use Rattle.model.specs.Store.{Store, Entry, Prepared, no_entry, no_line, no_row, count, entry_at, rows_in, lock_byte}
use Rattle.model.specs.Load.{setting_of}
use Rattle.slots.specs.Values.{loose_form, packed_form, packed_in, lock_form, line_form, line_in}
use Rattle.model.specs.Store.{lock_from}
use Rattle.slots.specs.Row.{row_form}
use Rattle.region.specs.Layout.{setting_at, packed_lock_at, name_base, name_width, loose_base, loose_width, packed_base, packed_width, lock_base, lock_width, row_base, row_width, line_base, line_width, rest_size, sizes}
use Rattle.region.specs.Region.{mode_byte, sections, image, name_count, line_count, mode_number, row_count, entry_seen, line_seen, row_seen, prepared_from, view, layout}
use Rattle.model.specs.Load.{setting_byte}
use Rattle.slots.proofs.Codecs.{looses, packeds, locks, lines, rows}
use Rattle.region.proofs.Sized.{sized, length_image}
use Rattle.region.proofs.Fits.{FitsStore}
use Rattle.region.proofs.Parts.{Parts, parts_layout}

-- the codec of names
unfoldable pub names : Codec (List ℕ) (FineText 64)
unfolding texts
names = texts 64 (lit< tt)

-- ---- the small parts: their bytes are small, and say which part it is

setting_told : (w : WriteReflog) → (setting_byte w ≤ 2) × (unwrap_or (setting_of (setting_byte w)) Disable ≡ w)
setting_told Disable = (lit≤ tt, refl)
setting_told Normal = (lit≤ tt, refl)
setting_told Always = (lit≤ tt, refl)

lock_told : (l : Lock) → (lock_byte l ≤ 2) × (unwrap_or (lock_from (lock_byte l)) Free ≡ l)
lock_told Free = (lit≤ tt, refl)
lock_told Foreign = (lit≤ tt, refl)
lock_told Ours = (lit≤ tt, refl)

number_small : (m : PackedRefs) → packed_refs_number m ≤ 3
number_small DeletionsOnly = lit≤ tt
number_small DeletionsAndNonSymbolicUpdates = lit≤ tt
number_small DeletionsAndNonSymbolicUpdatesRemoveLooseSourceReference = lit≤ tt

mode_small : (p : Option Prepared) → mode_byte p ≤ 3
mode_small None = lit≤ tt
mode_small (Some p) = number_small p.mode

number_back : (m : PackedRefs) (rows : List Edit) → prepared_from (packed_refs_number m) rows ≡ Some (record { mode = m; rows = rows })
number_back DeletionsOnly rows = refl
number_back DeletionsAndNonSymbolicUpdates rows = refl
number_back DeletionsAndNonSymbolicUpdatesRemoveLooseSourceReference rows = refl

prepared_back : (p : Option Prepared) → prepared_from (mode_byte p) (rows_in p) ≡ p
prepared_back None = refl
prepared_back (Some p) = number_back p.mode p.rows

-- without a mode there is no row
number_room : (m : PackedRefs) (n : ℕ) → n ≤ 160 → n ≤ cond (eqb (packed_refs_number m) 0) 0 160
number_room DeletionsOnly n h = h
number_room DeletionsAndNonSymbolicUpdates n h = h
number_room DeletionsAndNonSymbolicUpdatesRemoveLooseSourceReference n h = h

rows_room : (p : Option Prepared) → length (rows_in p) ≤ 160 → length (rows_in p) ≤ cond (eqb (mode_byte p) 0) 0 160
rows_room None h = lit≤ tt
rows_room (Some p) h = number_room p.mode (length p.rows) h

entry_same : (a : List ℕ) (b : Loose) (c : Option ObjectNumber) (d : Lock) (e : Entry) → a ≡ e.name → b ≡ e.loose → c ≡ e.packed → d ≡ e.lock
    → record { name = a; loose = b; packed = c; lock = d } ≡ e
entry_same a b c d e p q r s = rw (p, q, r, s)

store_same : (a : List Entry) (b : Lock) (c : List Line) (d : WriteReflog) (e : Option Prepared) (s : Store)
    → a ≡ s.entries → b ≡ s.packed_lock → c ≡ s.lines → d ≡ s.setting → e ≡ s.prepared
    → record { entries = a; packed_lock = b; lines = c; setting = d; prepared = e } ≡ s
store_same a b c d e s p q r t u = rw (p, q, r, t, u)

-- ---- the image, section by section

section : (s : Store) (i : ℕ) → i < 14 → cut (start i sizes) (get_or sizes i 0) (image s) ≡ get_or (sections s) i []
unfolding image
section s i h = cut_whole (sections s) sizes (sized s) i h

module _ (s : Store) where
  version_at_lem : cut 0 1 (image s) ≡ be 1 1
  unfolding sections
  version_at_lem = section s 0 (lit< tt)

  rest_at : cut 1 4 (image s) ≡ be 4 rest_size
  unfolding sections
  rest_at = section s 1 (lit< tt)

  setting_at_lem : cut 5 1 (image s) ≡ be 1 (setting_byte s.setting)
  unfolding sections
  setting_at_lem = section s 2 (lit< tt)

  names_at : cut 6 2 (image s) ≡ be 2 (count s)
  unfolding sections
  names_at = section s 3 (lit< tt)

  lines_at_lem : cut 8 2 (image s) ≡ be 2 (length s.lines)
  unfolding sections
  lines_at_lem = section s 4 (lit< tt)

  mode_at_lem : cut 10 1 (image s) ≡ be 1 (mode_byte s.prepared)
  unfolding sections
  mode_at_lem = section s 5 (lit< tt)

  rows_at : cut 11 1 (image s) ≡ be 1 (length (rows_in s.prepared))
  unfolding sections
  rows_at = section s 6 (lit< tt)

  lock_at : cut 12 1 (image s) ≡ be 1 (lock_byte s.packed_lock)
  unfolding sections
  lock_at = section s 7 (lit< tt)

  -- the four columns of the entries
  columns : (cut name_base 16640 (image s) ≡ table 256 (λ (e : Entry). enc_text 64 e.name) name_width s.entries)
      × (cut loose_base 2304 (image s) ≡ table 256 (λ (e : Entry). loose_form e.loose) loose_width s.entries)
      × (cut packed_base 2048 (image s) ≡ table 256 (λ (e : Entry). packed_form e.packed) packed_width s.entries)
      × (cut lock_base 256 (image s) ≡ table 256 (λ (e : Entry). lock_form e.lock) lock_width s.entries)
  unfolding sections
  columns = (section s 8 (lit< tt), section s 9 (lit< tt), section s 10 (lit< tt), section s 11 (lit< tt))

  row_table : cut row_base 5760 (image s) ≡ table 160 row_form row_width (rows_in s.prepared)
  unfolding sections
  row_table = section s 12 (lit< tt)

  line_table : cut line_base 22528 (image s) ≡ table 1024 line_form line_width s.lines
  unfolding sections
  line_table = section s 13 (lit< tt)

-- ---- the fields

module _ (s : Store) where
  setting_image : val (cut setting_at 1 (image s)) ≡ setting_byte s.setting
  setting_image = ap val (setting_at_lem s) ∙ val_be 1 (setting_byte s.setting) (let h : setting_byte s.setting ≤ 2 = (setting_told s.setting).0 in omega arith)

  mode_image : mode_number (image s) ≡ mode_byte s.prepared
  unfolding mode_number
  mode_image = ap val (mode_at_lem s) ∙ val_be 1 (mode_byte s.prepared) (let h : mode_byte s.prepared ≤ 3 = mode_small s.prepared in omega arith)

  lock_image : val (cut packed_lock_at 1 (image s)) ≡ lock_byte s.packed_lock
  lock_image = ap val (lock_at s) ∙ val_be 1 (lock_byte s.packed_lock) (let h : lock_byte s.packed_lock ≤ 2 = (lock_told s.packed_lock).0 in omega arith)

module _ (s : Store) (f : FitsStore s) where
  names_image : name_count (image s) ≡ count s
  unfolding name_count
  names_image = ap val (names_at s) ∙ val_be 2 (count s) (let h : count s ≤ 256 = f.names in omega arith)

  lines_image : line_count (image s) ≡ length s.lines
  unfolding line_count
  lines_image = ap val (lines_at_lem s) ∙ val_be 2 (length s.lines) (let h : length s.lines ≤ 1024 = f.lines in omega arith)

  rows_image : row_count (image s) ≡ length (rows_in s.prepared)
  unfolding row_count
  rows_image = ap val (rows_at s) ∙ val_be 1 (length (rows_in s.prepared)) (let h : length (rows_in s.prepared) ≤ 160 = f.rows in omega arith)

  -- ---- the tables

  pub bytes_image : Bytes (image s)
  unfolding image sections flat names looses packeds locks rows lines
  bytes_image =
      bytes_append (bytes_be 1 1)
      (bytes_append (bytes_be 4 rest_size)
      (bytes_append (bytes_be 1 (setting_byte s.setting))
      (bytes_append (bytes_be 2 (count s))
      (bytes_append (bytes_be 2 (length s.lines))
      (bytes_append (bytes_be 1 (mode_byte s.prepared))
      (bytes_append (bytes_be 1 (length (rows_in s.prepared)))
      (bytes_append (bytes_be 1 (lock_byte s.packed_lock))
      (bytes_append (column_bytes names (λ (e : Entry). e.name) no_entry 256 s.entries (λ i h. (f.entry i h).0))
      (bytes_append (column_bytes looses (λ (e : Entry). e.loose) no_entry 256 s.entries (λ i h. (f.entry i h).1))
      (bytes_append (column_bytes packeds (λ (e : Entry). e.packed) no_entry 256 s.entries (λ i h. (f.entry i h).2))
      (bytes_append (column_bytes locks (λ (e : Entry). e.lock) no_entry 256 s.entries (λ i h. tt))
      (bytes_append (column_bytes rows (λ (r : Edit). r) no_row 160 (rows_in s.prepared) f.row)
      (bytes_append (column_bytes lines (λ (l : Line). l) no_line 1024 s.lines f.line) no_bytes)))))))))))))

  -- one column of the entries, where their parts fit: it is accepted, and each slot decodes to the entry's part
  module _ {B : Type 0} {Fits : B → Type 0} (C : Codec B Fits) (part : Entry → B) (base : ℕ)
      (fits : (i : ℕ) → i < count s → Fits (part (entry_at s i)))
      (is : cut base (256 * C.w) (image s) ≡ table 256 (λ e. C.enc (part e)) C.w s.entries) where
    column_ok : ok_table C.w C.test 256 (name_count (image s)) base (image s) ≡ true
    column_ok = column_forth C part no_entry 256 (name_count (image s)) base (image s) s.entries names_image f.names fits is

    column_at : (i : ℕ) → i < count s → C.dec (slot base C.w i (image s)) ≡ part (entry_at s i)
    column_at = column_part C part no_entry 256 (count s) base (image s) s.entries refl f.names fits is

  -- the values at a name, a line, a row
  entry_image : (i : ℕ) → i < count s → entry_seen (image s) i ≡ entry_at s i
  unfolding names looses packeds locks
  entry_image i h =
      entry_same _ _ _ _ (entry_at s i)
      (column_at names (λ (e : Entry). e.name) name_base (λ j k. (f.entry j k).0) (columns s).0 i h)
      (column_at looses (λ (e : Entry). e.loose) loose_base (λ j k. (f.entry j k).1) (columns s).1 i h)
      (column_at packeds (λ (e : Entry). e.packed) packed_base (λ j k. (f.entry j k).2) (columns s).2 i h)
      (column_at locks (λ (e : Entry). e.lock) lock_base (λ j k. tt) (columns s).3 i h)

  entries_image : tabulate (name_count (image s)) (entry_seen (image s)) ≡ s.entries
  entries_image =
      ap (λ (n : ℕ). tabulate n (entry_seen (image s))) names_image
      ∙ tabulate_get_d s.entries no_entry (entry_seen (image s)) entry_image

  all_lines_image : tabulate (line_count (image s)) (line_seen (image s)) ≡ s.lines
  unfolding lines elements
  all_lines_image =
      forth_elements lines 1024 (line_count (image s)) line_base (image s) s.lines no_line lines_image f.lines f.line (line_table s)

  all_rows_image : tabulate (row_count (image s)) (row_seen (image s)) ≡ rows_in s.prepared
  unfolding rows elements
  all_rows_image =
      forth_elements rows 160 (row_count (image s)) row_base (image s) (rows_in s.prepared) no_row rows_image f.rows f.row (row_table s)

  pub view_image : view (image s) ≡ s
  unfolding view
  view_image =
      store_same _ _ _ _ _ s entries_image
      (ap (λ (n : ℕ). unwrap_or (lock_from n) Free) (lock_image s) ∙ (lock_told s.packed_lock).1)
      all_lines_image
      (ap (λ (n : ℕ). unwrap_or (setting_of n) Disable) (setting_image s) ∙ (setting_told s.setting).1)
      (ap₂ prepared_from (mode_image s) all_rows_image ∙ prepared_back s.prepared)

  parts_image : Parts (image s)
  unfolding names looses packeds locks rows lines packed_in line_in
  parts_image =
      record {
        size = length_image s;
        bytes = bytes_image;
        version = ap val (version_at_lem s) ∙ val_be 1 1 (lit< tt);
        rest = ap val (rest_at s) ∙ val_be 4 rest_size (lit< tt);
        setting = rw setting_image (setting_told s.setting).0;
        names = rw names_image f.names;
        lines = rw lines_image f.lines;
        mode = rw mode_image (mode_small s.prepared);
        rows = rw (rows_image, mode_image) (rows_room s.prepared f.rows);
        packed_lock = rw lock_image (lock_told s.packed_lock).0;
        name_ok = column_ok names (λ (e : Entry). e.name) name_base (λ j k. (f.entry j k).0) (columns s).0;
        loose_ok = column_ok looses (λ (e : Entry). e.loose) loose_base (λ j k. (f.entry j k).1) (columns s).1;
        packed_ok = column_ok packeds (λ (e : Entry). e.packed) packed_base (λ j k. (f.entry j k).2) (columns s).2;
        lock_ok = column_ok locks (λ (e : Entry). e.lock) lock_base (λ j k. tt) (columns s).3;
        row_ok =
            column_forth rows (λ (r : Edit). r) no_row 160 (row_count (image s)) row_base (image s) (rows_in s.prepared) rows_image f.rows
            f.row (row_table s);
        line_ok =
            column_forth lines (λ (l : Line). l) no_line 1024 (line_count (image s)) line_base (image s) s.lines lines_image f.lines
            f.line (line_table s);
      }

  pub layout_image : layout (image s) ≡ true
  layout_image = parts_layout (image s) parts_image
