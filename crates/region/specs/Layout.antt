-- Layout version 1: where each part of a store stands in the region. Offsets and sizes are named here, once.
use Rattle.std.specs.Prelude.{List, [], ◌∷◌, ℕ}

-- ---- the head

abbrev pub version_at : ℕ
version_at = 0

abbrev pub rest_at : ℕ
rest_at = 1

abbrev pub setting_at : ℕ
setting_at = 5

abbrev pub names_at : ℕ
names_at = 6

abbrev pub lines_at : ℕ
lines_at = 8

abbrev pub mode_at : ℕ
mode_at = 10

abbrev pub rows_at : ℕ
rows_at = 11

abbrev pub packed_lock_at : ℕ
packed_lock_at = 12

-- ---- the tables: where each begins, and how wide its slots are

abbrev pub name_base : ℕ
name_base = 13

abbrev pub name_width : ℕ
name_width = 65

abbrev pub loose_base : ℕ
loose_base = 16653

abbrev pub loose_width : ℕ
loose_width = 9

abbrev pub packed_base : ℕ
packed_base = 18957

abbrev pub packed_width : ℕ
packed_width = 8

abbrev pub lock_base : ℕ
lock_base = 21005

abbrev pub lock_width : ℕ
lock_width = 1

abbrev pub row_base : ℕ
row_base = 21261

abbrev pub row_width : ℕ
row_width = 36

abbrev pub line_base : ℕ
line_base = 27021

abbrev pub line_width : ℕ
line_width = 22

-- the whole region, and what stands behind its length field
abbrev pub region_size : ℕ
region_size = 49549

abbrev pub rest_size : ℕ
rest_size = 49544

-- the sections' sizes, in order
abbrev pub sizes : List ℕ
sizes = 1 ∷ 4 ∷ 1 ∷ 2 ∷ 2 ∷ 1 ∷ 1 ∷ 1 ∷ 16640 ∷ 2304 ∷ 2048 ∷ 256 ∷ 5760 ∷ 22528 ∷ []
