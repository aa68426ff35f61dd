-- The mode and the rows written into the image of a store leave the image of the store with them. Assumes nothing.
use Rattle.std.specs.Prelude.{Some, None}
use mathlib.Core.Path.{◌≡◌, refl, sym, ap, ap₂, ◌∙◌}
use mathlib.Core.List.{List, [], ◌∷◌, ◌++◌, map}
use Prim.Native.Nat.{ℕ, ◌+◌, ◌*◌, ◌≤◌, ◌<◌}
use native.Mathlib.Omega.{arith}
use lib.ListN.{length, set, length-set, length-append}
use lib.Dec.{lit<}
use Rattle.word.specs.Be.{be}
use Rattle.word.specs.Cut.{put, flat}
use Rattle.word.specs.Table.{table}
use Rattle.word.proofs.Be.{length_be}
use Rattle.word.proofs.Cut.{put_at, put_whole}
use Rattle.word.proofs.Table.{put_table, add_table}
use Rattle.word.proofs.Codec.{slot_room}
use Rattle.transaction.specs.declared.PackedRefs.{PackedRefs}
use Rattle.transaction.specs.declared.Edit.{Edit}
use Rattle.transaction.specs.Fields.{packed_refs_number}
use Rattle.model.specs.Store.{Store, with_prepared}
use Rattle.slots.specs.Row.{row_form}
use Rattle.slots.proofs.Codecs.{wide_row}
use Rattle.region.specs.Layout.{sizes}
use Rattle.region.specs.Region.{sections, image}
use Rattle.region.proofs.Sized.{sized}

abbrev pub having : Store → PackedRefs → List Edit → Store
having s m rows = with_prepared s (Some (record { mode = m; rows = rows }))

unfoldable rowed : List Edit → List ℕ
rowed rows = table 160 row_form 36 rows

-- the sections by the mode, the count of rows and the table
unfoldable framed : Store → PackedRefs → ℕ → List ℕ → List (List ℕ)
unfolding sections
framed s m n t = set (set (set (sections s) 5 (be 1 (packed_refs_number m))) 6 (be 1 n)) 12 t

framed_is : (s : Store) (m : PackedRefs) (rows : List Edit) → framed s m (length rows) (rowed rows) ≡ sections (having s m rows)
unfolding framed sections rowed
framed_is s m rows = refl

in_rows_lem : (s : Store) (m : PackedRefs) (rows : List Edit) (i : ℕ) (v : List ℕ) → i < 160
    → put (21261 + i * 36) 36 (image (having s m rows)) v ≡ flat (framed s m (length rows) (put (i * 36) 36 (rowed rows) v))
unfolding image sections framed rowed
in_rows_lem s m rows i v l = put_at (sections (having s m rows)) sizes (sized (having s m rows)) 12 (i * 36) 36 v (lit< tt) (slot_room i 160 36 l)

in_count : (s : Store) (m : PackedRefs) (rows : List Edit) (n k : ℕ) → put 11 1 (flat (framed s m n (rowed rows))) (be 1 k)
    ≡ flat (framed s m k (rowed rows))
unfolding framed sections rowed
in_count s m rows n k =
    let e : map length (framed s m n (rowed rows)) ≡ sizes =
    ap₂ (λ (l : List ℕ) (k : ℕ). set l 6 k) (sized (having s m rows)) (length_be 1 n) in
    put_whole (framed s m n (rowed rows)) sizes e 6 (be 1 k) (lit< tt)

pub write_row : (s : Store) (m : PackedRefs) (rows : List Edit) (i : ℕ) (row : Edit) → i < length rows → length rows ≤ 160
    → put (21261 + i * 36) 36 (image (having s m rows)) (row_form row) ≡ image (having s m (set rows i row))
unfolding image rowed
write_row s m rows i row h k =
    let l : i < 160 = omega arith in
    in_rows_lem s m rows i (row_form row) l
    ∙ ap₂ (λ (n : ℕ) (t : List ℕ). flat (framed s m n t)) (sym (length-set rows i row)) (put_table 36 row_form wide_row 160 i rows row l h)
    ∙ ap flat (framed_is s m (set rows i row))

pub write_more : (s : Store) (m : PackedRefs) (rows : List Edit) (row : Edit) → length rows < 160
    → put 11 1 (put (21261 + length rows * 36) 36 (image (having s m rows)) (row_form row)) (be 1 (length rows + 1))
    ≡ image (having s m (rows ++ (row ∷ [])))
unfolding image rowed
write_more s m rows row h =
    let more : List Edit = rows ++ (row ∷ []) in
    ap (λ (r : List ℕ). put 11 1 r (be 1 (length rows + 1)))
    (in_rows_lem s m rows (length rows) (row_form row) h
    ∙ ap (λ (t : List ℕ). flat (framed s m (length rows) t)) (add_table 36 row_form wide_row 160 rows row h))
    ∙ in_count s m more (length rows) (length rows + 1)
    ∙ ap (λ (n : ℕ). flat (framed s m n (rowed more))) (sym (length-append rows (row ∷ [])))
    ∙ ap flat (framed_is s m more)

pub write_mode : (s : Store) (m : PackedRefs) → put 10 1 (image (with_prepared s None)) (be 1 (packed_refs_number m)) ≡ image (having s m [])
unfolding image sections
write_mode s m = put_whole (sections (with_prepared s None)) sizes (sized (with_prepared s None)) 5 (be 1 (packed_refs_number m)) (lit< tt)
