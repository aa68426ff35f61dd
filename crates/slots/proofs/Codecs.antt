-- The codecs of the five kinds of slots: every value that fits is read back from its form, and what is read of a slot has that
-- slot for its form. Assumes nothing.
use Rattle.std.specs.Prelude.{Option, Some, None}
use Rattle.target.specs.declared.ObjectNumber.{ObjectNumber}
use mathlib.Core.Path.{◌≡◌, ap, ◌∙◌}
use mathlib.Core.List.{List, [], ◌∷◌}
use Prim.Native.Nat.{ℕ}
use lib.ListN.{length, get_or}
use Rattle.word.specs.Be.{Bytes, cut, val}
use Rattle.word.specs.Fields.{fields}
use Rattle.word.specs.Fields.Fit.{end, and}
use Rattle.word.specs.Codec.{Codec}
use Rattle.word.proofs.Be.{val_cut}
use Rattle.word.proofs.Fields.{length_fields, bytes_fields, unfields_fields, fields_unfields}
use Rattle.word.proofs.Codec.{partly}
use Rattle.transaction.specs.declared.Edit.{Edit}
use Rattle.model.specs.declared.Loose.{Loose}
use Rattle.model.specs.declared.Loose.TheVariants as loose
use Rattle.model.specs.declared.Lock.{Lock}
use Rattle.model.specs.declared.Lock.TheVariants.{Free}
use Rattle.model.specs.declared.Line.{Line}
use Rattle.model.specs.Store.{no_line, no_row, lock_byte}
use Rattle.model.proofs.Binds.{some_is}
use Rattle.slots.specs.Values.{loose_widths, loose_kind, loose_number, loose_from, loose_form, loose_in, FitsLoose}
use Rattle.slots.specs.Values.{packed_number, packed_from, packed_form, packed_in, FitsPacked, lock_form, lock_in}
use Rattle.model.specs.Store.{lock_from}
use Rattle.slots.specs.Values.{line_widths, line_numbers, line_from, line_form, line_in, FitsLine}
use Rattle.slots.specs.Row.{row_widths, row_numbers, row_from, row_form, row_in, FitsRow}
use Rattle.slots.proofs.Forms.{fit_loose, loose_forth, loose_back, fit_packed, packed_forth, packed_back, fit_lock, lock_forth, lock_back, fit_row, row_forth, row_back}

-- ---- loose values

pub wide_loose : (v : Loose) → length (loose_form v) ≡ 9
unfolding loose_form
wide_loose v = length_fields loose_widths (loose_kind v ∷ loose_number v ∷ [])

pub bytes_loose : (v : Loose) → FitsLoose v → Bytes (loose_form v)
unfolding loose_form
bytes_loose v f = bytes_fields loose_widths (loose_kind v ∷ loose_number v ∷ [])

pub read_loose : (v : Loose) → FitsLoose v → loose_in (loose_form v) ≡ Some v
unfolding loose_form loose_in
read_loose v f =
    ap (λ (xs : List ℕ). loose_from (get_or xs 0 0) (get_or xs 1 0)) (unfields_fields loose_widths (loose_kind v ∷ loose_number v ∷ []) (fit_loose v f))
    ∙ loose_forth v f

pub back_loose : (r : List ℕ) (v : Loose) → loose_in r ≡ Some v → Bytes r → length r ≡ 9 → (loose_form v ≡ r) × FitsLoose v
unfolding loose_form loose_in
back_loose r v e b l =
    let h = loose_back (val (cut 0 1 r)) (val (cut 1 8 r)) v e (val_cut 1 8 b) in
    (rw (h.0, h.1) (fields_unfields loose_widths r b l), h.2)

unfoldable pub looses : Codec Loose FitsLoose
unfolding partly
looses = partly 9 loose_form loose_in loose.None wide_loose bytes_loose read_loose back_loose

-- ---- packed values

pub wide_packed : (v : Option ObjectNumber) → length (packed_form v) ≡ 8
unfolding packed_form
wide_packed v = length_fields (8 ∷ []) (packed_number v ∷ [])

pub bytes_packed : (v : Option ObjectNumber) → FitsPacked v → Bytes (packed_form v)
unfolding packed_form
bytes_packed v f = bytes_fields (8 ∷ []) (packed_number v ∷ [])

pub read_packed_lem : (v : Option ObjectNumber) → FitsPacked v → packed_in (packed_form v) ≡ Some v
unfolding packed_form packed_in
read_packed_lem v f =
    ap (λ (xs : List ℕ). Some (packed_from (get_or xs 0 0))) (unfields_fields (8 ∷ []) (packed_number v ∷ []) (fit_packed v f))
    ∙ ap Some (packed_forth v f)

pub back_packed : (r : List ℕ) (v : Option ObjectNumber) → packed_in r ≡ Some v → Bytes r → length r ≡ 8 → (packed_form v ≡ r) × FitsPacked v
unfolding packed_form packed_in
back_packed r v e b l =
    let h = packed_back (val (cut 0 8 r)) (val_cut 0 8 b) in
    rw (← some_is e) (rw h.0 (fields_unfields (8 ∷ []) r b l), h.1)

unfoldable pub packeds : Codec (Option ObjectNumber) FitsPacked
unfolding partly
packeds = partly 8 packed_form packed_in None wide_packed bytes_packed read_packed_lem back_packed

-- ---- locks: every lock fits

abbrev pub FitsLock : Lock → Type 0
FitsLock l = Unit {0}

pub wide_lock : (v : Lock) → length (lock_form v) ≡ 1
unfolding lock_form
wide_lock v = length_fields (1 ∷ []) (lock_byte v ∷ [])

pub bytes_lock : (v : Lock) → FitsLock v → Bytes (lock_form v)
unfolding lock_form
bytes_lock v f = bytes_fields (1 ∷ []) (lock_byte v ∷ [])

pub read_lock : (v : Lock) → FitsLock v → lock_in (lock_form v) ≡ Some v
unfolding lock_form lock_in
read_lock v f =
    ap (λ (xs : List ℕ). lock_from (get_or xs 0 0)) (unfields_fields (1 ∷ []) (lock_byte v ∷ []) (fit_lock v)) ∙ lock_forth v

pub back_lock : (r : List ℕ) (v : Lock) → lock_in r ≡ Some v → Bytes r → length r ≡ 1 → (lock_form v ≡ r) × FitsLock v
unfolding lock_form lock_in
back_lock r v e b l =
    (rw (lock_back (val (cut 0 1 r)) v e) (fields_unfields (1 ∷ []) r b l), tt)

unfoldable pub locks : Codec Lock FitsLock
unfolding partly
locks = partly 1 lock_form lock_in Free wide_lock bytes_lock read_lock back_lock

-- ---- log lines

pub wide_line : (v : Line) → length (line_form v) ≡ 22
unfolding line_form
wide_line v = length_fields line_widths (line_numbers v)

pub bytes_line : (v : Line) → FitsLine v → Bytes (line_form v)
unfolding line_form
bytes_line v f = bytes_fields line_widths (line_numbers v)

pub read_line_lem : (v : Line) → FitsLine v → line_in (line_form v) ≡ Some v
unfolding line_form line_in
read_line_lem v f =
    ap (λ (xs : List ℕ). Some (line_from xs))
    (unfields_fields line_widths (line_numbers v) (and f.name (and f.previous (and f.new (and f.committer (and f.message end))))))

pub back_line : (r : List ℕ) (v : Line) → line_in r ≡ Some v → Bytes r → length r ≡ 22 → (line_form v ≡ r) × FitsLine v
unfolding line_form line_in
back_line r v e b l =
    rw (← some_is e) (
      fields_unfields line_widths r b l,
      record {
        name = val_cut 0 2 b;
        previous = val_cut 2 8 b;
        new = val_cut 10 8 b;
        committer = val_cut 18 2 b;
        message = val_cut 20 2 b;
      },
    )

unfoldable pub lines : Codec Line FitsLine
unfolding partly
lines = partly 22 line_form line_in no_line wide_line bytes_line read_line_lem back_line

-- ---- rows

pub wide_row : (v : Edit) → length (row_form v) ≡ 36
unfolding row_form
wide_row v = length_fields row_widths (row_numbers v)

pub bytes_row : (v : Edit) → FitsRow v → Bytes (row_form v)
unfolding row_form
bytes_row v f = bytes_fields row_widths (row_numbers v)

pub read_row_lem : (v : Edit) → FitsRow v → row_in (row_form v) ≡ Some v
unfolding row_form row_in
read_row_lem v f = ap row_from (unfields_fields row_widths (row_numbers v) (fit_row v f)) ∙ row_forth v f

pub back_row : (r : List ℕ) (v : Edit) → row_in r ≡ Some v → Bytes r → length r ≡ 36 → (row_form v ≡ r) × FitsRow v
unfolding row_form row_in
back_row r v e b l =
    let h =
    row_back (val (cut 0 2 r)) (val (cut 2 1 r)) (val (cut 3 1 r)) (val (cut 4 1 r)) (val (cut 5 2 r)) (val (cut 7 1 r))
    (val (cut 8 1 r)) (val (cut 9 8 r)) (val (cut 17 1 r)) (val (cut 18 8 r)) (val (cut 26 1 r)) (val (cut 27 1 r))
    (val (cut 28 8 r)) (val_cut 0 2 b) (val_cut 5 2 b) (val_cut 9 8 b) (val_cut 18 8 b) (val_cut 27 1 b) (val_cut 28 8 b) v e in
    (ap (fields row_widths) h.0 ∙ fields_unfields row_widths r b l, h.1)

unfoldable pub rows : Codec Edit FitsRow
unfolding partly
rows = partly 36 row_form row_in no_row wide_row bytes_row read_row_lem back_row
