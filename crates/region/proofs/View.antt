-- What is seen in a region that is laid out so: it fits, and the region is its image. Assumes nothing.
use mathlib.Core.Path.{◌≡◌, refl, sym, ap, ap₂, ◌∙◌, subst}
use mathlib.Core.Bool.{true}
use mathlib.Core.List.{List, ◌∷◌}
use Prim.Native.Nat.{ℕ, ◌+◌, ◌*◌, ◌≤◌, ◌<◌}
use native.Mathlib.Nat.{le_of_eq, le_trans}
use lib.ListN.{length}
use lib.Seq.{take_all}
use lib.Dec.{lit≤}
use Rattle.word.specs.Be.{cut, val, be}
use Rattle.word.specs.Cut.{flat, cuts}
use Rattle.word.specs.Table.{table}
use Rattle.word.specs.Codec.{Codec, slot, ok_table}
use Rattle.word.specs.Text.{FineText, enc_text}
use Rattle.word.proofs.Fields.{be_cut}
use Rattle.word.proofs.Cut.{flat_cuts}
use Rattle.word.proofs.Slots.{slot_fits}
use Rattle.word.proofs.Column.{column_back}
use Rattle.transaction.specs.declared.Edit.{Edit}
use Rattle.model.specs.declared.Line.{Line}
use Rattle.model.specs.Store.{Entry, no_entry, no_line, no_row, rows_in}
use Rattle.slots.specs.Values.{loose_form, packed_form, packed_in, lock_form, line_form, line_in, FitsLoose, FitsPacked, FitsLine}
use Rattle.slots.specs.Row.{row_form, FitsRow}
use Rattle.region.specs.Layout.{name_base, name_width, loose_base, loose_width, packed_base, packed_width, lock_base, lock_width, row_base, row_width, line_base, line_width, sizes}
use Rattle.region.specs.Region.{sections, image, name_count, line_count, mode_number, row_count, entry_seen, line_seen, row_seen, view, layout}
use Rattle.slots.proofs.Codecs.{looses, packeds, locks, lines, rows}
use Rattle.region.proofs.Fits.{FitsStore}
use Rattle.region.proofs.Parts.{Parts, parts}
use Rattle.region.proofs.Image.{names}
use Rattle.region.proofs.Seen.{count_view, lines_view, entry_at_lem, line_at, setting_byte_lem, packed_lock_byte, mode_byte_lem, few_rows, rows_count, row_at_lem}

cons : {a b : List ℕ} {xs ys : List (List ℕ)} → a ≡ b → xs ≡ ys → a ∷ xs ≡ b ∷ ys
cons p q = ap₂ (λ (n : List ℕ) (l : List (List ℕ)). n ∷ l) p q

module _ (r : List ℕ) (p : Parts r) where
  -- a stretch of the region
  inside : (n : ℕ) → n ≤ 49549 → n ≤ length r
  inside n h = le_trans h (le_of_eq (sym p.size))

  -- a field that is seen is written as it stood
  field : (a k : ℕ) {x : ℕ} → a + k ≤ 49549 → x ≡ val (cut a k r) → be k x ≡ cut a k r
  field a k h e = ap (be k) e ∙ be_cut a k r p.bytes (inside (a + k) h)

  -- one column of the entries: the parts that the slots decode to, written, are the stretch as it stood
  column : {B : Type 0} {Fits : B → Type 0} (C : Codec B Fits) (part : Entry → B) (base : ℕ) → base + 256 * C.w ≤ 49549
      → ok_table C.w C.test 256 (name_count r) base r ≡ true
      → ((i : ℕ) → part (entry_seen r i) ≡ C.dec (slot base C.w i r))
      → table 256 (λ e. C.enc (part e)) C.w (view r).entries ≡ cut base (256 * C.w) r
  column C part base h ok e =
      column_back C part no_entry 256 (name_count r) base r (view r).entries p.bytes (inside (base + 256 * C.w) h) ok (count_view r)
      (λ i k. ap part (entry_at_lem r i k) ∙ e i)

  tables : (table 256 (λ (e : Entry). enc_text 64 e.name) name_width (view r).entries ≡ cut name_base 16640 r)
      × (table 256 (λ (e : Entry). loose_form e.loose) loose_width (view r).entries ≡ cut loose_base 2304 r)
      × (table 256 (λ (e : Entry). packed_form e.packed) packed_width (view r).entries ≡ cut packed_base 2048 r)
      × (table 256 (λ (e : Entry). lock_form e.lock) lock_width (view r).entries ≡ cut lock_base 256 r)
  unfolding names looses packeds packed_in locks
  tables = (
    column names (λ (e : Entry). e.name) name_base (lit≤ tt) p.name_ok (λ i. refl),
    column looses (λ (e : Entry). e.loose) loose_base (lit≤ tt) p.loose_ok (λ i. refl),
    column packeds (λ (e : Entry). e.packed) packed_base (lit≤ tt) p.packed_ok (λ i. refl),
    column locks (λ (e : Entry). e.lock) lock_base (lit≤ tt) p.lock_ok (λ i. refl),
  )

  row_table : table 160 row_form row_width (rows_in (view r).prepared) ≡ cut row_base 5760 r
  unfolding rows
  row_table =
      column_back rows (λ (e : Edit). e) no_row 160 (row_count r) row_base r (rows_in (view r).prepared) p.bytes
      (inside (row_base + 5760) (lit≤ tt)) p.row_ok (rows_count r p) (row_at_lem r p)

  line_table : table 1024 line_form line_width (view r).lines ≡ cut line_base 22528 r
  unfolding lines line_in
  line_table =
      column_back lines (λ (l : Line). l) no_line 1024 (line_count r) line_base r (view r).lines p.bytes
      (inside (line_base + 22528) (lit≤ tt)) p.line_ok (lines_view r) (line_at r)

  same_sections : sections (view r) ≡ cuts 0 sizes r
  unfolding sections cuts name_count line_count mode_number row_count
  same_sections =
      cons (field 0 1 (lit≤ tt) (sym p.version))
      (cons (field 1 4 (lit≤ tt) (sym p.rest))
      (cons (field 5 1 (lit≤ tt) (setting_byte_lem r p))
      (cons (field 6 2 (lit≤ tt) (count_view r))
      (cons (field 8 2 (lit≤ tt) (lines_view r))
      (cons (field 10 1 (lit≤ tt) (mode_byte_lem r p))
      (cons (field 11 1 (lit≤ tt) (rows_count r p))
      (cons (field 12 1 (lit≤ tt) (packed_lock_byte r p))
      (cons tables.0
      (cons tables.1
      (cons tables.2
      (cons tables.3
      (cons row_table
      (cons line_table refl)))))))))))))

  parts_back : image (view r) ≡ r
  unfolding image
  parts_back = ap flat same_sections ∙ flat_cuts 0 sizes r ∙ take_all 49549 r (le_of_eq p.size)

  -- ---- it fits

  entry_fits : (i : ℕ) → i < name_count r
      → FineText 64 (entry_seen r i).name × FitsLoose (entry_seen r i).loose × FitsPacked (entry_seen r i).packed
  unfolding names looses packeds packed_in
  entry_fits i h =
      let k : i < 256 = le_trans h p.names in (
        slot_fits names 256 (name_count r) name_base r p.bytes (inside (name_base + 16640) (lit≤ tt)) p.name_ok i k h,
        slot_fits looses 256 (name_count r) loose_base r p.bytes (inside (loose_base + 2304) (lit≤ tt)) p.loose_ok i k h,
        slot_fits packeds 256 (name_count r) packed_base r p.bytes (inside (packed_base + 2048) (lit≤ tt)) p.packed_ok i k h,
      )

  line_fits : (i : ℕ) → i < line_count r → FitsLine (line_seen r i)
  unfolding lines line_in
  line_fits i h =
      slot_fits lines 1024 (line_count r) line_base r p.bytes (inside (line_base + 22528) (lit≤ tt)) p.line_ok i (le_trans h p.lines) h

  row_fits : (i : ℕ) → i < row_count r → FitsRow (row_seen r i)
  unfolding rows
  row_fits i h =
      slot_fits rows 160 (row_count r) row_base r p.bytes (inside (row_base + 5760) (lit≤ tt)) p.row_ok i (le_trans h (few_rows r p)) h

  parts_fit : FitsStore (view r)
  parts_fit =
      record {
        names = rw count_view p.names;
        entry = λ i h. let k : i < name_count r = rw count_view at h in
            subst (λ (e : Entry). FineText 64 e.name × FitsLoose e.loose × FitsPacked e.packed) (sym (entry_at_lem r i k)) (entry_fits i k);
        lines = rw lines_view p.lines;
        line = λ i h. let k : i < line_count r = rw lines_view at h in subst FitsLine (sym (line_at r i k)) (line_fits i k);
        rows = le_trans (le_of_eq (rows_count r p)) (few_rows r p);
        row = λ i h. let k : i < row_count r = le_trans h (le_of_eq (rows_count r p)) in subst FitsRow (sym (row_at_lem r p i k)) (row_fits i k);
      }

pub image_view : (r : List ℕ) → layout r ≡ true → image (view r) ≡ r
image_view r e = parts_back r (parts r e)

pub fits_view : (r : List ℕ) → layout r ≡ true → FitsStore (view r)
fits_view r e = parts_fit r (parts r e)
