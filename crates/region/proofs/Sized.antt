-- The sections of a store's image have the sizes of the layout. Assumes nothing.
use mathlib.Core.Path.{◌≡◌}
use mathlib.Core.List.{map}
use lib.ListN.{length}
use Rattle.word.specs.Text.{enc_text}
use Rattle.word.proofs.Be.{length_be}
use Rattle.word.proofs.Cut.{length_sized}
use Rattle.word.proofs.Table.{length_table}
use Rattle.word.proofs.Text.{length_text}
use Rattle.model.specs.Store.{Store, Entry, count, rows_in, lock_byte}
use Rattle.slots.specs.Values.{loose_form, packed_form, lock_form, line_form}
use Rattle.slots.specs.Row.{row_form}
use Rattle.region.specs.Layout.{sizes, region_size, rest_size}
use Rattle.region.specs.Region.{sections, image, mode_byte}
use Rattle.model.specs.Load.{setting_byte}
use Rattle.slots.proofs.Codecs.{wide_loose, wide_packed, wide_lock, wide_line, wide_row}

pub sized : (s : Store) → map length (sections s) ≡ sizes
unfolding sections
sized s =
    cc (
      length_be 1 1,
      length_be 4 rest_size,
      length_be 1 (setting_byte s.setting),
      length_be 2 (count s),
      length_be 2 (length s.lines),
      length_be 1 (mode_byte s.prepared),
      length_be 1 (length (rows_in s.prepared)),
      length_be 1 (lock_byte s.packed_lock),
      length_table 65 (λ (e : Entry). enc_text 64 e.name) (λ e. length_text 64 e.name) 256 s.entries,
      length_table 9 (λ (e : Entry). loose_form e.loose) (λ e. wide_loose e.loose) 256 s.entries,
      length_table 8 (λ (e : Entry). packed_form e.packed) (λ e. wide_packed e.packed) 256 s.entries,
      length_table 1 (λ (e : Entry). lock_form e.lock) (λ e. wide_lock e.lock) 256 s.entries,
      length_table 36 row_form wide_row 160 (rows_in s.prepared),
      length_table 22 line_form wide_line 1024 s.lines,
    )

pub length_image : (s : Store) → length (image s) ≡ region_size
unfolding image
length_image s = length_sized (sections s) sizes (sized s)
