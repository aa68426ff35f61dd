-- A value written into the image of a store leaves the image of the store with that value. Assumes nothing.
use Rattle.std.specs.Prelude.{Option, None}
use Rattle.target.specs.declared.ObjectNumber.{ObjectNumber}
use mathlib.Core.Path.{◌≡◌, refl, sym, ap, ap₂, ◌∙◌}
use mathlib.Core.List.{List, [], ◌∷◌, ◌++◌, map}
use Prim.Native.Nat.{ℕ, zero, suc, ◌+◌, ◌*◌, ◌≤◌, ◌<◌}
use native.Mathlib.Nat.{le_trans}
use native.Mathlib.Omega.{arith}
use lib.ListN.{length, get_or, set, replicate, length-set, length-append, length-map}
use lib.Dec.{lit<}
use Rattle.word.specs.Be.{cut, be, be_on}
use Rattle.word.specs.Cut.{put, flat}
use Rattle.word.specs.Table.{table}
use Rattle.word.specs.Text.{enc_text}
use Rattle.word.specs.Fields.{fields}
use Rattle.word.proofs.Be.{length_be}
use Rattle.word.proofs.Cut.{cut_at, put_at, put_whole}
use Rattle.word.proofs.Table.{drop_all, table_same, put_table, add_table, cut_pad}
use Rattle.word.proofs.Codec.{slot_room}
use Rattle.word.proofs.Text.{length_text}
use Rattle.model.specs.declared.Loose.{Loose}
use Rattle.model.specs.declared.Lock.{Lock}
use Rattle.model.specs.declared.WriteReflog.{WriteReflog}
use Rattle.model.specs.Store.{Store, Entry, no_entry, empty, count, lock_byte, put_loose, put_packed, put_lock, change_at, change_entry, with_entries}
use Rattle.model.specs.Store.{with_packed_lock, with_prepared}
use Rattle.model.specs.Load.{new_entry}
use Rattle.model.specs.PackedText.{unpacked}
use Rattle.slots.specs.Values.{loose_form, packed_form, lock_form, line_form}
use Rattle.slots.specs.Row.{row_form}
use Rattle.region.specs.Layout.{sizes}
use Rattle.region.specs.Region.{sections, image}
use Rattle.model.specs.Load.{setting_byte}
use Rattle.slots.proofs.Codecs.{wide_loose, wide_packed, wide_lock}
use Rattle.region.proofs.Sized.{sized, length_image}
use Rattle.writers.proofs.WriteLaws.{table_zeros, text_written_lem, nils, flat_nils}

-- ---- the four columns of the entries

unfoldable names : List Entry → List ℕ
names es = table 256 (λ (e : Entry). enc_text 64 e.name) 65 es

unfoldable looses : List Entry → List ℕ
looses es = table 256 (λ (e : Entry). loose_form e.loose) 9 es

unfoldable packeds : List Entry → List ℕ
packeds es = table 256 (λ (e : Entry). packed_form e.packed) 8 es

unfoldable locks : List Entry → List ℕ
locks es = table 256 (λ (e : Entry). lock_form e.lock) 1 es

-- an entry set leaves the columns of those parts that it has of the old one
module _ (es : List Entry) (n : ℕ) (y : Entry) where
  names_same : y.name ≡ (get_or es n no_entry).name → names (set es n y) ≡ names es
  unfolding names
  names_same e = table_same 65 (λ (e : Entry). enc_text 64 e.name) 256 n es y no_entry (ap (enc_text 64) e)

  looses_same : y.loose ≡ (get_or es n no_entry).loose → looses (set es n y) ≡ looses es
  unfolding looses
  looses_same e = table_same 9 (λ (e : Entry). loose_form e.loose) 256 n es y no_entry (ap loose_form e)

  packeds_same : y.packed ≡ (get_or es n no_entry).packed → packeds (set es n y) ≡ packeds es
  unfolding packeds
  packeds_same e = table_same 8 (λ (e : Entry). packed_form e.packed) 256 n es y no_entry (ap packed_form e)

  locks_same : y.lock ≡ (get_or es n no_entry).lock → locks (set es n y) ≡ locks es
  unfolding locks
  locks_same e = table_same 1 (λ (e : Entry). lock_form e.lock) 256 n es y no_entry (ap lock_form e)

-- the sections by the count and the four columns
unfoldable framed : Store → ℕ → List ℕ → List ℕ → List ℕ → List ℕ → List (List ℕ)
unfolding sections
framed s n a b c d =
    set (set (set (set (set (sections s) 3 (be 2 n)) 8 a) 9 b) 10 c) 11 d

-- those of the given entries
abbrev held : Store → ℕ → List Entry → List (List ℕ)
held s n es = framed s n (names es) (looses es) (packeds es) (locks es)

held_is : (s : Store) (es : List Entry) → held s (length es) es ≡ sections (with_entries s es)
unfolding framed sections names looses packeds locks
held_is s es = refl

-- the sections of as many other entries, by what stands in the columns
became_as : (s : Store) (es : List Entry) → count s ≡ length es → (a b c d : List ℕ)
    → a ≡ names es → b ≡ looses es → c ≡ packeds es → d ≡ locks es → framed s (count s) a b c d ≡ sections (with_entries s es)
became_as s es m a b c d e f g i =
    let j : framed s (count s) a b c d ≡ held s (length es) es = cc in
    j ∙ held_is s es

-- and once entry n is y
became : (s : Store) (n : ℕ) (y : Entry) (a b c d : List ℕ)
    → a ≡ names (set s.entries n y) → b ≡ looses (set s.entries n y)
    → c ≡ packeds (set s.entries n y) → d ≡ locks (set s.entries n y)
    → framed s (count s) a b c d ≡ sections (with_entries s (set s.entries n y))
became s n y = became_as s (set s.entries n y) (sym (length-set s.entries n y))

-- ---- one value of an entry written

puts : (es : List Entry) (n : ℕ) (y : Entry) → n < 256 → n < length es
    → (put (n * 9) 9 (looses es) (loose_form y.loose) ≡ looses (set es n y))
    × (put (n * 8) 8 (packeds es) (packed_form y.packed) ≡ packeds (set es n y))
    × (put (n * 1) 1 (locks es) (lock_form y.lock) ≡ locks (set es n y))
unfolding looses packeds locks
puts es n y l h = (
  put_table 9 (λ (e : Entry). loose_form e.loose) (λ e. wide_loose e.loose) 256 n es y l h,
  put_table 8 (λ (e : Entry). packed_form e.packed) (λ e. wide_packed e.packed) 256 n es y l h,
  put_table 1 (λ (e : Entry). lock_form e.lock) (λ e. wide_lock e.lock) 256 n es y l h,
)

-- a part of one column replaced
in_looses : (s : Store) (n : ℕ) (v : List ℕ) → n < 256
    → put (16653 + n * 9) 9 (image s) v
    ≡ flat (framed s (count s) (names s.entries) (put (n * 9) 9 (looses s.entries) v) (packeds s.entries) (locks s.entries))
unfolding image sections framed names looses packeds locks
in_looses s n v l = put_at (sections s) sizes (sized s) 9 (n * 9) 9 v (lit< tt) (slot_room n 256 9 l)

in_packeds : (s : Store) (n : ℕ) (v : List ℕ) → n < 256
    → put (18957 + n * 8) 8 (image s) v
    ≡ flat (framed s (count s) (names s.entries) (looses s.entries) (put (n * 8) 8 (packeds s.entries) v) (locks s.entries))
unfolding image sections framed names looses packeds locks
in_packeds s n v l = put_at (sections s) sizes (sized s) 10 (n * 8) 8 v (lit< tt) (slot_room n 256 8 l)

in_locks : (s : Store) (n : ℕ) (v : List ℕ) → n < 256
    → put (21005 + n * 1) 1 (image s) v
    ≡ flat (framed s (count s) (names s.entries) (looses s.entries) (packeds s.entries) (put (n * 1) 1 (locks s.entries) v))
unfolding image sections framed names looses packeds locks
in_locks s n v l = put_at (sections s) sizes (sized s) 11 (n * 1) 1 v (lit< tt) (slot_room n 256 1 l)

-- entry n changed by f, by what stands in the columns of the region x
changes : (s : Store) (n : ℕ) (f : Entry → Entry) {x a b c d : List ℕ} → x ≡ flat (framed s (count s) a b c d)
    → a ≡ names (change_at f n s.entries) → b ≡ looses (change_at f n s.entries)
    → c ≡ packeds (change_at f n s.entries) → d ≡ locks (change_at f n s.entries) → x ≡ image (change_entry f n s)
unfolding image
changes s n f e p q i j = e ∙ ap flat (became s n (f (get_or s.entries n no_entry)) _ _ _ _ p q i j)

pub write_loose_lem : (s : Store) (n : ℕ) (v : Loose) → n < count s → count s ≤ 256
    → put (16653 + n * 9) 9 (image s) (loose_form v) ≡ image (change_entry (put_loose v) n s)
write_loose_lem s n v h k =
    changes s n (put_loose v) (in_looses s n (loose_form v) (le_trans h k)) (sym (names_same s.entries n _ refl))
    (puts s.entries n _ (le_trans h k) h).0 (sym (packeds_same s.entries n _ refl)) (sym (locks_same s.entries n _ refl))

pub write_packed_lem : (s : Store) (n : ℕ) (v : Option ObjectNumber) → n < count s → count s ≤ 256
    → put (18957 + n * 8) 8 (image s) (packed_form v) ≡ image (change_entry (put_packed v) n s)
write_packed_lem s n v h k =
    changes s n (put_packed v) (in_packeds s n (packed_form v) (le_trans h k)) (sym (names_same s.entries n _ refl))
    (sym (looses_same s.entries n _ refl)) (puts s.entries n _ (le_trans h k) h).1 (sym (locks_same s.entries n _ refl))

pub write_lock : (s : Store) (n : ℕ) (v : Lock) → n < count s → count s ≤ 256
    → put (21005 + n * 1) 1 (image s) (lock_form v) ≡ image (change_entry (put_lock v) n s)
write_lock s n v h k =
    changes s n (put_lock v) (in_locks s n (lock_form v) (le_trans h k)) (sym (names_same s.entries n _ refl))
    (sym (looses_same s.entries n _ refl)) (sym (packeds_same s.entries n _ refl)) (puts s.entries n _ (le_trans h k) h).2

-- ---- the packed table's lock

pub write_packed_lock : (s : Store) (v : Lock) → put 12 1 (image s) (be 1 (lock_byte v)) ≡ image (with_packed_lock s v)
unfolding image sections
write_packed_lock s v = put_whole (sections s) sizes (sized s) 7 (be 1 (lock_byte v)) (lit< tt)

-- ---- a name more

module _ (es : List Entry) (name : List ℕ) where
  names_more : length es < 256 → put (length es * 65) 65 (names es) (enc_text 64 name) ≡ names (es ++ (new_entry name ∷ []))
  unfolding names
  names_more h = add_table 65 (λ (e : Entry). enc_text 64 e.name) (λ e. length_text 64 e.name) 256 es (new_entry name) h

  names_free : length es < 256 → cut (length es * 65) 65 (names es) ≡ replicate 65 0
  unfolding names
  names_free h = cut_pad 65 (λ (e : Entry). enc_text 64 e.name) (λ e. length_text 64 e.name) 256 (length es) es h (omega arith)

  looses_more : looses (es ++ (new_entry name ∷ [])) ≡ looses es
  unfolding looses loose_form fields be be_on
  looses_more = table_zeros 9 (λ (e : Entry). loose_form e.loose) 256 es (new_entry name) refl

  packeds_more : packeds (es ++ (new_entry name ∷ [])) ≡ packeds es
  unfolding packeds packed_form fields be be_on
  packeds_more = table_zeros 8 (λ (e : Entry). packed_form e.packed) 256 es (new_entry name) refl

  locks_more : locks (es ++ (new_entry name ∷ [])) ≡ locks es
  unfolding locks lock_form fields be be_on
  locks_more = table_zeros 1 (λ (e : Entry). lock_form e.lock) 256 es (new_entry name) refl

in_names : (s : Store) (n : ℕ) (v : List ℕ) → n < 256
    → put (13 + n * 65) 65 (image s) v
    ≡ flat (framed s (count s) (put (n * 65) 65 (names s.entries) v) (looses s.entries) (packeds s.entries) (locks s.entries))
unfolding image sections framed names looses packeds locks
in_names s n v l = put_at (sections s) sizes (sized s) 8 (n * 65) 65 v (lit< tt) (slot_room n 256 65 l)

of_names_lem : (s : Store) (n : ℕ) → n < 256 → cut (13 + n * 65) 65 (image s) ≡ cut (n * 65) 65 (names s.entries)
unfolding image sections names
of_names_lem s n l = cut_at (sections s) sizes (sized s) 8 (n * 65) 65 (lit< tt) (slot_room n 256 65 l)

-- the count, whatever count stands there
in_count : (s : Store) (es : List Entry) (n m : ℕ) → put 6 2 (flat (held s n es)) (be 2 m)
    ≡ flat (held s m es)
unfolding framed sections names looses packeds locks
in_count s es n m =
    let e : map length (held s n es) ≡ sizes =
    ap₂ (λ (l : List ℕ) (k : ℕ). set l 3 k) (sized (with_entries s es)) (length_be 2 n) in
    put_whole (held s n es) sizes e 3 (be 2 m) (lit< tt)

pub write_name : (s : Store) (name : List ℕ) → count s < 256 → length name ≤ 64
    → put 6 2 (put (13 + count s * 65 + 1) (length name) (set (image s) (13 + count s * 65) (length name)) name) (be 2 (count s + 1))
    ≡ image (with_entries s (s.entries ++ (new_entry name ∷ [])))
unfolding image
write_name s name h g =
    let es : List Entry = s.entries in
    let more : List Entry = es ++ (new_entry name ∷ []) in
    let room : count s * 65 + 65 ≤ 16640 = slot_room (count s) 256 65 h in
    let size : length (image s) ≡ 49549 = length_image s in
    let e : put (count s * 65) 65 (names es) (enc_text 64 name) ≡ names more = names_more es name h in
    let f : looses more ≡ looses es = looses_more es name in
    let i : packeds more ≡ packeds es = packeds_more es name in
    let j : locks more ≡ locks es = locks_more es name in
    let t : List ℕ = put (count s * 65) 65 (names es) (enc_text 64 name) in
    let k : framed s (count s) t (looses es) (packeds es) (locks es) ≡ held s (count s) more = cc in
    ap (λ (r : List ℕ). put 6 2 r (be 2 (count s + 1)))
    (text_written_lem 64 (13 + count s * 65) name g (image s) (omega arith) (of_names_lem s (count s) h ∙ names_free es name h)
    ∙ in_names s (count s) (enc_text 64 name) h ∙ ap flat k)
    ∙ in_count s more (count s) (count s + 1)
    ∙ ap (λ (m : ℕ). flat (held s m more)) (sym (length-append es (new_entry name ∷ [])))
    ∙ ap flat (held_is s more)

-- ---- no packed value any more

-- a table of elements changed in what it does not hold, and one of elements whose forms are zeros
table_mapped : {A : Type 0} (w : ℕ) (enc : A → List ℕ) (f : A → A) → ((x : A) → enc (f x) ≡ enc x) → (c : ℕ) (xs : List A)
    → table c enc w (map f xs) ≡ table c enc w xs
unfolding table
table_mapped w enc f e zero xs = refl
table_mapped w enc f e (suc c) [] = refl
table_mapped w enc f e (suc c) (x ∷ xs) = ap₂ (λ (l m : List ℕ). l ++ m) (e x) (table_mapped w enc f e c xs)

table_cleared : {A : Type 0} (w : ℕ) (enc : A → List ℕ) (f : A → A) → ((x : A) → enc (f x) ≡ replicate w 0) → (c : ℕ) (xs : List A)
    → table c enc w (map f xs) ≡ table c enc w []
unfolding table
table_cleared w enc f e zero xs = refl
table_cleared w enc f e (suc c) [] = refl
table_cleared w enc f e (suc c) (x ∷ xs) = ap₂ (λ (l m : List ℕ). l ++ m) (e x) (table_cleared w enc f e c xs)

no_packed : packed_form None ≡ replicate 8 0
unfolding packed_form fields be be_on
no_packed = refl

module _ (s : Store) where
  cleared : List Entry
  cleared = map (put_packed None) s.entries

  clears : (z : List ℕ) → z ≡ packeds cleared → put 18957 2048 (image s) z ≡ image (unpacked s)
  unfolding image sections framed names looses packeds locks cleared unpacked
  clears z e =
      put_whole (sections s) sizes (sized s) 10 z (lit< tt)
      ∙ ap flat
      (became_as s cleared (sym (length-map s.entries _)) (names s.entries) (looses s.entries) z (locks s.entries)
      (sym (table_mapped 65 (λ (e : Entry). enc_text 64 e.name) (put_packed None) (λ x. refl) 256 s.entries))
      (sym (table_mapped 9 (λ (e : Entry). loose_form e.loose) (put_packed None) (λ x. refl) 256 s.entries))
      e
      (sym (table_mapped 1 (λ (e : Entry). lock_form e.lock) (put_packed None) (λ x. refl) 256 s.entries)))

  pub forget_packed : (n : ℕ) → n ≡ 2048 → put 18957 2048 (image s) (replicate n 0) ≡ image (unpacked s)
  unfolding packeds cleared
  forget_packed n f =
      clears (replicate n 0)
      (ap (λ (i : ℕ). replicate i 0) f
      ∙ sym (drop_all 256 (λ (e : Entry). packed_form e.packed) 8)
      ∙ sym (table_cleared 8 (λ (e : Entry). packed_form e.packed) (put_packed None) (λ x. no_packed) 256 s.entries))

-- ---- nothing prepared any more

-- the mode and the count of rows zeroed, and the rows' section replaced
module _ (s : Store) where
  no_mode : List (List ℕ)
  no_mode = set (sections s) 5 (be 1 0)

  no_count : List (List ℕ)
  no_count = set no_mode 6 (be 1 0)

  sized_mode : map length no_mode ≡ sizes
  unfolding no_mode sections
  sized_mode = ap₂ (λ (l : List ℕ) (k : ℕ). set l 5 k) (sized s) (length_be 1 0)

  sized_count : map length no_count ≡ sizes
  unfolding no_count no_mode sections
  sized_count = ap₂ (λ (l : List ℕ) (k : ℕ). set l 6 k) sized_mode (length_be 1 0)

  no_rows : (z : List ℕ) → z ≡ table 160 row_form 36 [] → put 21261 5760 (flat no_count) z ≡ image (with_prepared s None)
  unfolding image no_count no_mode sections
  no_rows z e =
      put_whole no_count sizes sized_count 12 z (lit< tt)
      ∙ ap (λ (l : List ℕ). flat (set no_count 12 l)) e

  -- n is known only by an equation: no list of zeros is written out
  pub forget_rows : (n : ℕ) → n ≡ 5760
      → put 21261 5760 (put 11 1 (put 10 1 (image s) (be 1 0)) (be 1 0)) (replicate n 0) ≡ image (with_prepared s None)
  unfolding image no_count no_mode
  forget_rows n f =
      ap (λ (r : List ℕ). put 21261 5760 (put 11 1 r (be 1 0)) (replicate n 0)) (put_whole (sections s) sizes (sized s) 5 (be 1 0) (lit< tt))
      ∙ ap (λ (r : List ℕ). put 21261 5760 r (replicate n 0)) (put_whole no_mode sizes sized_mode 6 (be 1 0) (lit< tt))
      ∙ no_rows (replicate n 0) (ap (λ (i : ℕ). replicate i 0) f ∙ sym (drop_all 160 row_form 36))

-- ---- a new region

no_table : {A : Type 0} (c : ℕ) (enc : A → List ℕ) (w : ℕ) → table c enc w [] ≡ nils (c * w)
unfolding nils
no_table c enc w = drop_all c enc w

no_one : be 1 0 ≡ nils 1
unfolding nils be be_on
no_one = refl

no_two : be 2 0 ≡ nils 2
unfolding nils be be_on
no_two = refl

-- the sections behind the setting
abbrev behind : List ℕ
behind = 2 ∷ 2 ∷ 1 ∷ 1 ∷ 1 ∷ 16640 ∷ 2304 ∷ 2048 ∷ 256 ∷ 5760 ∷ 22528 ∷ []

sections_empty : (setting : WriteReflog)
    → sections (empty setting) ≡ be 1 1 ∷ be 4 49544 ∷ be 1 (setting_byte setting) ∷ map nils behind
unfolding sections
sections_empty setting =
    cc (
      no_one,
      no_two,
      no_table 256 (λ (e : Entry). enc_text 64 e.name) 65,
      no_table 256 (λ (e : Entry). loose_form e.loose) 9,
      no_table 256 (λ (e : Entry). packed_form e.packed) 8,
      no_table 256 (λ (e : Entry). lock_form e.lock) 1,
      no_table 160 row_form 36,
      no_table 1024 line_form 22,
    )

-- the first three sections written over zeros
head_written : (n k m : ℕ)
    → put 5 1 (put 1 4 (put 0 1 (replicate (suc (suc (suc (suc (suc (suc m)))))) 0) (be 1 1)) (be 4 n)) (be 1 k)
    ≡ be 1 1 ++ (be 4 n ++ (be 1 k ++ nils m))
unfolding nils be be_on
head_written n k m = refl

image_empty : (setting : WriteReflog) → image (empty setting) ≡ be 1 1 ++ (be 4 49544 ++ (be 1 (setting_byte setting) ++ nils 49543))
unfolding image flat
image_empty setting =
    ap flat (sections_empty setting) ∙ ap (λ (l : List ℕ). be 1 1 ++ (be 4 49544 ++ (be 1 (setting_byte setting) ++ l))) (flat_nils behind)

pub write_empty : (setting : WriteReflog) (r : List ℕ) → length r ≡ 49549
    → put 5 1 (put 1 4 (put 0 1 (replicate (length r) 0) (be 1 1)) (be 4 49544)) (be 1 (setting_byte setting)) ≡ image (empty setting)
write_empty setting r e = from (length r) 49543 (omega arith) ∙ sym (image_empty setting)
  where
    from : (n m : ℕ) → n ≡ suc (suc (suc (suc (suc (suc m)))))
        → put 5 1 (put 1 4 (put 0 1 (replicate n 0) (be 1 1)) (be 4 49544)) (be 1 (setting_byte setting))
        ≡ be 1 1 ++ (be 4 49544 ++ (be 1 (setting_byte setting) ++ nils m))
    from n m f =
        ap (λ (i : ℕ). put 5 1 (put 1 4 (put 0 1 (replicate i 0) (be 1 1)) (be 4 49544)) (be 1 (setting_byte setting))) f
        ∙ head_written 49544 (setting_byte setting) m
