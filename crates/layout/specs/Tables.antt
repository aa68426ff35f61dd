-- The tables of a region as one kind of thing, and the layout's tests by what they are of: the head and the tables.
use Rattle.std.specs.Prelude.{Bool, true, List, ℕ, take, drop}
use Rattle.word.specs.Codec.{is_some, ok_table}
use Rattle.word.specs.Text.{test_text}
use Rattle.slots.specs.Values.{loose_in, lock_in}
use Rattle.slots.specs.Row.{row_in}
use Rattle.region.specs.Layout.{name_base, name_width, loose_base, loose_width, packed_base, packed_width, lock_base, lock_width, row_base, row_width, line_base, line_width}
use Rattle.region.specs.Region.{layout_tests}
use Rattle.layout.specs.declared.Table.{Table}
use Rattle.layout.specs.declared.Table.TheVariants.{Names, Looses, Packeds, Locks, Rows, Lines}

abbrev pub width_of : Table → ℕ
width_of Names = name_width
width_of Looses = loose_width
width_of Packeds = packed_width
width_of Locks = lock_width
width_of Rows = row_width
width_of Lines = line_width

-- how many slots, and where the first begins
abbrev pub limit_of : Table → ℕ
limit_of Names = 256
limit_of Looses = 256
limit_of Packeds = 256
limit_of Locks = 256
limit_of Rows = 160
limit_of Lines = 1024

abbrev pub base_of : Table → ℕ
base_of Names = name_base
base_of Looses = loose_base
base_of Packeds = packed_base
base_of Locks = lock_base
base_of Rows = row_base
base_of Lines = line_base

abbrev pub test_of : Table → List ℕ → Bool
test_of Names = test_text 64
test_of Looses = λ x. is_some (loose_in x)
test_of Packeds = λ x. true
test_of Locks = λ x. is_some (lock_in x)
test_of Rows = λ x. is_some (row_in x)
test_of Lines = λ x. true

-- a table in which n slots are in use
unfoldable pub table_test : Table → ℕ → List ℕ → Bool
table_test t n r = ok_table (width_of t) (test_of t) (limit_of t) n (base_of t) r

-- the layout's tests stand in this order: size and bytes; the head's, from the version to the packed table's lock; the tables'
unfoldable pub head_tests : List ℕ → List Bool
head_tests r = take 8 (drop 2 (layout_tests r))

-- the head's last three: mode, count of rows, the packed table's lock
unfoldable pub count_tests : List ℕ → List Bool
count_tests r = take 3 (drop 7 (layout_tests r))

unfoldable pub table_tests : List ℕ → List Bool
table_tests r = drop 10 (layout_tests r)
