-- Lines written into the image of a store. Assumes nothing.
use mathlib.Core.Path.{◌≡◌, refl, sym, ap, ap₂, ◌∙◌}
use mathlib.Core.List.{List, [], ◌∷◌, ◌++◌, map}
use Prim.Native.Nat.{ℕ, ◌+◌, ◌-◌, ◌*◌, ◌≤◌, ◌<◌}
use native.Mathlib.Omega.{arith}
use lib.ListN.{length, set, take, replicate, length-set, length-append}
use lib.Seq.{length-take-le}
use lib.Dec.{lit<}
use Rattle.word.specs.Be.{be}
use Rattle.word.specs.Cut.{put, flat}
use Rattle.word.specs.Table.{table}
use Rattle.word.proofs.Be.{length_be}
use Rattle.word.proofs.Cut.{put_at, put_whole}
use Rattle.word.proofs.Table.{put_table, add_table, keep_table}
use Rattle.word.proofs.Codec.{slot_room}
use Rattle.model.specs.declared.Line.{Line}
use Rattle.model.specs.Store.{Store, with_lines}
use Rattle.slots.specs.Values.{line_form}
use Rattle.slots.proofs.Codecs.{wide_line}
use Rattle.region.specs.Layout.{sizes}
use Rattle.region.specs.Region.{sections, image}
use Rattle.region.proofs.Sized.{sized}

unfoldable lined : List Line → List ℕ
lined ls = table 1024 line_form 22 ls

unfoldable framed : Store → ℕ → List ℕ → List (List ℕ)
unfolding sections
framed s n t = set (set (sections s) 4 (be 2 n)) 13 t

framed_is : (s : Store) (ls : List Line) → framed s (length ls) (lined ls) ≡ sections (with_lines s ls)
unfolding framed sections lined
framed_is s ls = refl

in_lines : (s : Store) (a k : ℕ) (v : List ℕ) → a + k ≤ 22528
    → put (27021 + a) k (image s) v ≡ flat (framed s (length s.lines) (put a k (lined s.lines) v))
unfolding image sections framed lined
in_lines s a k v h = put_at (sections s) sizes (sized s) 13 a k v (lit< tt) h

in_count : (s : Store) (ls : List Line) (n k : ℕ) → put 8 2 (flat (framed s n (lined ls))) (be 2 k) ≡ flat (framed s k (lined ls))
unfolding framed sections lined
in_count s ls n k =
    let e : map length (framed s n (lined ls)) ≡ sizes =
    ap₂ (λ (l : List ℕ) (k : ℕ). set l 4 k) (sized (with_lines s ls)) (length_be 2 n) in
    put_whole (framed s n (lined ls)) sizes e 4 (be 2 k) (lit< tt)

pub write_line : (s : Store) (i : ℕ) (line : Line) → i < length s.lines → length s.lines ≤ 1024
    → put (27021 + i * 22) 22 (image s) (line_form line) ≡ image (with_lines s (set s.lines i line))
unfolding image lined
write_line s i line h k =
    let l : i < 1024 = omega arith in
    in_lines s (i * 22) 22 (line_form line) (slot_room i 1024 22 l)
    ∙ ap₂ (λ (n : ℕ) (t : List ℕ). flat (framed s n t)) (sym (length-set s.lines i line)) (put_table 22 line_form wide_line 1024 i s.lines line l h)
    ∙ ap flat (framed_is s (set s.lines i line))

-- the other lines zeroed, and the new count
pub write_keep : (s : Store) (j k : ℕ) → j ≤ length s.lines → length s.lines ≤ 1024 → k ≡ (length s.lines - j) * 22
    → put 8 2 (put (27021 + j * 22) k (image s) (replicate k 0)) (be 2 j) ≡ image (with_lines s (take j s.lines))
unfolding image lined
write_keep s j k h g e =
    let d : ℕ = (length s.lines - j) * 22 in
    let room : j * 22 + (length s.lines - j) * 22 ≤ 22528 = omega arith in
    let n : length (take j s.lines) ≡ j = length-take-le j s.lines h in
    ap (λ (k : ℕ). put 8 2 (put (27021 + j * 22) k (image s) (replicate k 0)) (be 2 j)) e
    ∙ ap (λ (r : List ℕ). put 8 2 r (be 2 j))
    (in_lines s (j * 22) d (replicate d 0) room
    ∙ ap (λ (t : List ℕ). flat (framed s (length s.lines) t)) (keep_table 22 line_form wide_line 1024 j s.lines h g))
    ∙ in_count s (take j s.lines) (length s.lines) j
    ∙ ap (λ (m : ℕ). flat (framed s m (lined (take j s.lines)))) (sym n)
    ∙ ap flat (framed_is s (take j s.lines))

-- a line more, and the new count
pub write_add : (s : Store) (line : Line) → length s.lines < 1024
    → put 8 2 (put (27021 + length s.lines * 22) 22 (image s) (line_form line)) (be 2 (length s.lines + 1)) ≡ image (with_lines s (s.lines ++ (line ∷ [])))
unfolding image lined
write_add s line h =
    ap (λ (r : List ℕ). put 8 2 r (be 2 (length s.lines + 1)))
    (in_lines s (length s.lines * 22) 22 (line_form line) (slot_room (length s.lines) 1024 22 h)
    ∙ ap (λ (t : List ℕ). flat (framed s (length s.lines) t)) (add_table 22 line_form wide_line 1024 s.lines line h))
    ∙ in_count s (s.lines ++ (line ∷ [])) (length s.lines) (length s.lines + 1)
    ∙ ap (λ (m : ℕ). flat (framed s m (lined (s.lines ++ (line ∷ []))))) (sym (length-append s.lines (line ∷ [])))
    ∙ ap flat (framed_is s (s.lines ++ (line ∷ [])))
