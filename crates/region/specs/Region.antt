-- The one image of a store, what a region is seen to hold, and which regions are good.
use Rattle.std.specs.Prelude.{◌≡◌, Bool, true, ◌&&◌, cond, List, [], ◌∷◌, ℕ, zero, suc, ◌+◌, ◌*◌, ◌≤◌, length, eqb, leb, Option, Some, None, unwrap_or}
use Rattle.std.proofs.Math.Pow.{are_bytes}
use Rattle.word.specs.Be.{cut, val, be}
use Rattle.word.specs.Cut.{flat}
use Rattle.word.specs.Table.{table, tabulate}
use Rattle.word.specs.Codec.{slot, ok_table, is_some}
use Rattle.word.specs.Text.{enc_text, dec_text, test_text}
use Rattle.word.specs.Tests.{every}
use Rattle.transaction.specs.declared.PackedRefs.TheVariants.{DeletionsOnly}
use Rattle.transaction.specs.declared.Edit.{Edit}
use Rattle.transaction.specs.Fields.{packed_refs_number, packed_refs_of}
use Rattle.model.specs.declared.Loose.TheVariants as loose
use Rattle.model.specs.declared.Lock.TheVariants.{Free}
use Rattle.model.specs.declared.WriteReflog.{WriteReflog}
use Rattle.model.specs.declared.WriteReflog.TheVariants.{Disable, Normal, Always}
use Rattle.model.specs.declared.Line.{Line}
use Rattle.model.specs.Store.{Store, Entry, Prepared, no_line, no_row, count, rows_in, lock_byte}
use Rattle.model.specs.Fine.{fine}
use Rattle.model.specs.Load.{setting_byte, setting_of}
use Rattle.slots.specs.Values.{loose_form, loose_in, packed_form, packed_in, lock_form, lock_in, line_form, line_in}
use Rattle.model.specs.Store.{lock_from}
use Rattle.slots.specs.Row.{row_form, row_in}
use Rattle.region.specs.Layout.{names_at, lines_at, setting_at, mode_at, rows_at, packed_lock_at, name_base, name_width, loose_base, loose_width, packed_base, packed_width, lock_base, lock_width, row_base, row_width, line_base, line_width, region_size, rest_size}

-- ---- the image

-- 0 where nothing is prepared
abbrev pub mode_byte : Option Prepared → ℕ
mode_byte None = 0
mode_byte (Some p) = packed_refs_number p.mode

-- version, length of the rest, setting, counts, mode, count of rows, the packed table's lock; then names, loose values, packed
-- values, locks, rows and lines
unfoldable pub sections : Store → List (List ℕ)
sections s =
    be 1 1
    ∷ be 4 rest_size
    ∷ be 1 (setting_byte s.setting)
    ∷ be 2 (count s)
    ∷ be 2 (length s.lines)
    ∷ be 1 (mode_byte s.prepared)
    ∷ be 1 (length (rows_in s.prepared))
    ∷ be 1 (lock_byte s.packed_lock)
    ∷ table 256 (λ (e : Entry). enc_text 64 e.name) name_width s.entries
    ∷ table 256 (λ (e : Entry). loose_form e.loose) loose_width s.entries
    ∷ table 256 (λ (e : Entry). packed_form e.packed) packed_width s.entries
    ∷ table 256 (λ (e : Entry). lock_form e.lock) lock_width s.entries
    ∷ table 160 row_form row_width (rows_in s.prepared)
    ∷ table 1024 line_form line_width s.lines
    ∷ []

unfoldable pub image : Store → List ℕ
image s = flat (sections s)

-- ---- what a region is seen to hold

unfoldable pub name_count : List ℕ → ℕ
name_count r = val (cut names_at 2 r)

unfoldable pub line_count : List ℕ → ℕ
line_count r = val (cut lines_at 2 r)

unfoldable pub mode_number : List ℕ → ℕ
mode_number r = val (cut mode_at 1 r)

unfoldable pub row_count : List ℕ → ℕ
row_count r = val (cut rows_at 1 r)

abbrev pub entry_seen : List ℕ → ℕ → Entry
entry_seen r i = record {
  name = dec_text (slot name_base name_width i r);
  loose = unwrap_or (loose_in (slot loose_base loose_width i r)) loose.None;
  packed = unwrap_or (packed_in (slot packed_base packed_width i r)) None;
  lock = unwrap_or (lock_in (slot lock_base lock_width i r)) Free;
}

abbrev pub line_seen : List ℕ → ℕ → Line
line_seen r i = unwrap_or (line_in (slot line_base line_width i r)) no_line

abbrev pub row_seen : List ℕ → ℕ → Edit
row_seen r i = unwrap_or (row_in (slot row_base row_width i r)) no_row

abbrev pub prepared_from : ℕ → List Edit → Option Prepared
prepared_from zero rows = None
prepared_from (suc m) rows =
    Some (record { mode = unwrap_or ((packed_refs_of (suc m))) DeletionsOnly; rows = rows })

unfoldable pub view : List ℕ → Store
view r = record {
  entries = tabulate (name_count r) (entry_seen r);
  packed_lock = unwrap_or (lock_from (val (cut packed_lock_at 1 r))) Free;
  lines = tabulate (line_count r) (line_seen r);
  setting = unwrap_or (setting_of (val (cut setting_at 1 r))) Disable;
  prepared = prepared_from (mode_number r) (tabulate (row_count r) (row_seen r));
}

-- where the bytes of a name stand: behind the length in its slot
abbrev pub name_offset : ℕ → ℕ
name_offset n = name_base + n * name_width + 1

-- ---- which regions are good: laid out so, and the store that is seen obeys the rules

unfoldable pub layout_tests : List ℕ → List Bool
layout_tests r =
    eqb (length r) region_size
    ∷ are_bytes r
    ∷ eqb (val (cut 0 1 r)) 1
    ∷ eqb (val (cut 1 4 r)) rest_size
    ∷ leb (val (cut setting_at 1 r)) 2
    ∷ leb (name_count r) 256
    ∷ leb (line_count r) 1024
    ∷ leb (mode_number r) 3
    ∷ leb (row_count r) (cond (eqb (mode_number r) 0) 0 160)
    ∷ leb (val (cut packed_lock_at 1 r)) 2
    ∷ ok_table name_width (test_text 64) 256 (name_count r) name_base r
    ∷ ok_table loose_width (λ x. is_some (loose_in x)) 256 (name_count r) loose_base r
    ∷ ok_table packed_width (λ x. true) 256 (name_count r) packed_base r
    ∷ ok_table lock_width (λ x. is_some (lock_in x)) 256 (name_count r) lock_base r
    ∷ ok_table row_width (λ x. is_some (row_in x)) 160 (row_count r) row_base r
    ∷ ok_table line_width (λ x. true) 1024 (line_count r) line_base r
    ∷ []

unfoldable pub layout : List ℕ → Bool
layout r = every (layout_tests r)

unfoldable pub good : List ℕ → Bool
good r = layout r && fine (view r)

unfoldable pub decode : List ℕ → Option Store
decode r = cond (good r) (Some (view r)) None

-- ---- what accessors ask for, and what those that write leave

-- laid out so. The bounds are there for arithmetic, which reads a record's fields
pub record Laid (r : List ℕ) : Type 0 where
  pub ok : layout r ≡ true
  pub size : length r ≡ region_size
  pub names : count (view r) ≤ 256
  pub lines : length (view r).lines ≤ 1024
  pub rows : length (rows_in (view r).prepared) ≤ 160

-- laid out so, and s is seen in it
pub record Became (r : List ℕ) (s : Store) : Type 0 where
  pub laid : Laid r
  pub seen : view r ≡ s
