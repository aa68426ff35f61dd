-- What accessors that write rest on: the changed store fits its bytes, and the region with the bytes written is its image.
-- Assumes nothing.
use Rattle.std.specs.Prelude.{Option, None}
use Rattle.target.specs.declared.ObjectNumber.{ObjectNumber}
use mathlib.Core.Path.{◌≡◌, refl, sym, ap, ap₂, subst, ◌∙◌}
use mathlib.Core.List.{List, [], ◌∷◌, ◌++◌, map}
use Prim.Native.Nat.{ℕ, zero, suc, ◌+◌, ◌-◌, ◌*◌, ◌≤◌, ◌<◌}
use native.Mathlib.Nat.{le_trans, le_of_eq}
use native.Mathlib.Omega.{arith}
use lib.ListN.{length, get_or, set, replicate, length-append, length-map}
use mir.Syntax.{w8}
use mir.Val.{Fits}
use Rattle.word.specs.Be.{be, cut}
use Rattle.word.specs.Cut.{put}
use Rattle.word.specs.Text.{FineText}
use Rattle.word.proofs.Be.{bytes_all}
use Rattle.word.proofs.Cut.{length_cut}
use Rattle.word.proofs.Parts.{width}
use Rattle.model.specs.declared.Loose.{Loose}
use Rattle.model.specs.declared.Lock.{Lock}
use Rattle.model.specs.declared.WriteReflog.{WriteReflog}
use Rattle.model.specs.Store.{Store, Entry, no_entry, empty, count, entry_at, lock_byte, put_loose, put_packed, put_lock, change_at, change_entry, with_entries, with_packed_lock}
use Rattle.model.specs.Load.{new_entry}
use Rattle.model.specs.PackedText.{unpacked}
use Rattle.model.proofs.All.{at_append}
use Rattle.model.proofs.Base.{changed_count, changed_at, mapped_at}
use Rattle.slots.specs.Values.{FitsLoose, FitsPacked, loose_form, packed_form, lock_form}
use Rattle.region.specs.Region.{image, view, Laid, Became}
use Rattle.model.specs.Load.{setting_byte}
use Rattle.region.proofs.Fits.{FitsStore}
use Rattle.region.proofs.Decode.{laid_image, became}
use Rattle.writers.proofs.Write.{write_loose_lem, write_packed_lem, write_lock, write_packed_lock, write_name, forget_packed, write_empty}

-- ---- the changed store fits

abbrev FitsEntry : Entry → Type 0
FitsEntry e = FineText 64 e.name × FitsLoose e.loose × FitsPacked e.packed

fits_entries : (s : Store) (es : List Entry) → FitsStore s → length es ≤ 256
    → ((i : ℕ) → i < length es → FitsEntry (get_or es i no_entry)) → FitsStore (with_entries s es)
fits_entries s es f h g = record { names = h; entry = g; lines = f.lines; line = f.line; rows = f.rows; row = f.row }

fits_change : (s : Store) (f : Entry → Entry) (n : ℕ) → FitsStore s → FitsEntry (f (entry_at s n)) → FitsStore (change_entry f n s)
fits_change s f n fits p =
    let e : length (change_at f n s.entries) ≡ count s = changed_count f n s.entries in
    fits_entries s (change_at f n s.entries) fits (le_trans (le_of_eq e) fits.names)
    (λ i k. changed_at FitsEntry f n i s.entries (fits.entry i (le_trans k (le_of_eq e))) (λ q. p))

fits_name : (s : Store) (name : List ℕ) → FitsStore s → count s < 256 → FineText 64 name
    → FitsStore (with_entries s (s.entries ++ (new_entry name ∷ [])))
fits_name s name fits h t =
    let e : length (s.entries ++ (new_entry name ∷ [])) ≡ count s + 1 = length-append s.entries (new_entry name ∷ []) in
    fits_entries s (s.entries ++ (new_entry name ∷ [])) fits (omega arith)
    (at_append (λ (i : ℕ) (e : Entry). FitsEntry e) s.entries (new_entry name ∷ []) no_entry fits.entry last)
  where
    last : (k : ℕ) → k < 1 → FitsEntry (get_or (new_entry name ∷ []) k no_entry)
    last zero h = (t, tt, tt)
    last (suc k) h = absurd (omega arith)

fits_packed_lock : (s : Store) (v : Lock) → FitsStore s → FitsStore (with_packed_lock s v)
fits_packed_lock s v f = record { names = f.names; entry = f.entry; lines = f.lines; line = f.line; rows = f.rows; row = f.row }

-- ---- a value of an entry

changed : (r b form : List ℕ) (a w n : ℕ) (f : Entry → Entry) → Laid r → FitsEntry (f (entry_at (view r) n)) → b ≡ form
    → put a w (image (view r)) form ≡ image (change_entry f n (view r)) → Became (put a (a + w - a) r b) (change_entry f n (view r))
changed r b form a w n f l p e q =
    became (put a (a + w - a) r b) (change_entry f n (view r))
    (ap (λ (k : ℕ). put a k r b) (width a w) ∙ ap₂ (λ (r b : List ℕ). put a w r b) (laid_image r l).0 e ∙ q)
    (fits_change (view r) f n (laid_image r l).1 p)

module _ (r b : List ℕ) (n : ℕ) (l : Laid r) (h : n < count (view r)) where
  fitting : FitsEntry (entry_at (view r) n)
  fitting = (laid_image r l).1.entry n h

  pub put_loose_is : (v : Loose) → FitsLoose v → b ≡ loose_form v
      → Became (put (16653 + n * 9) (16653 + n * 9 + 9 - (16653 + n * 9)) r b) (change_entry (put_loose v) n (view r))
  put_loose_is v g e =
      changed r b (loose_form v) (16653 + n * 9) 9 n (put_loose v) l (fitting.0, g, fitting.2) e (write_loose_lem (view r) n v h l.names)

  pub put_packed_is : (v : Option ObjectNumber) → FitsPacked v → b ≡ packed_form v
      → Became (put (18957 + n * 8) (18957 + n * 8 + 8 - (18957 + n * 8)) r b) (change_entry (put_packed v) n (view r))
  put_packed_is v g e =
      changed r b (packed_form v) (18957 + n * 8) 8 n (put_packed v) l (fitting.0, fitting.1, g) e (write_packed_lem (view r) n v h l.names)

  pub put_lock_is : (v : Lock) → b ≡ lock_form v
      → Became (put (21005 + n * 1) (21005 + n * 1 + 1 - (21005 + n * 1)) r b) (change_entry (put_lock v) n (view r))
  put_lock_is v e =
      changed r b (lock_form v) (21005 + n * 1) 1 n (put_lock v) l fitting e (write_lock (view r) n v h l.names)

pub put_packed_lock_is : (r r' : List ℕ) (x : ℕ) (v : Lock) → Laid r → x ≡ lock_byte v → r' ≡ put 12 1 r (be 1 x) → Became r' (with_packed_lock (view r) v)
put_packed_lock_is r r' x v l e f =
    became r' (with_packed_lock (view r) v)
    (f ∙ ap₂ (λ (r : List ℕ) (x : ℕ). put 12 1 r (be 1 x)) (laid_image r l).0 e ∙ write_packed_lock (view r) v)
    (fits_packed_lock (view r) v (laid_image r l).1)

-- ---- a name more

pub add_name_is : (r r' b name : List ℕ) (n : ℕ) → Laid r → count (view r) < 256 → length name ≤ 64
    → ((i : ℕ) → Fits w8 (get_or name i 0))
    → n ≡ count (view r) → b ≡ name
    → r' ≡ put 6 2 (put (13 + n * 65 + 1) (13 + n * 65 + 1 + length name - (13 + n * 65 + 1)) (set r (13 + n * 65) (length name)) b) (be 2 (n + 1))
    → Became r' (with_entries (view r) ((view r).entries ++ (new_entry name ∷ [])))
add_name_is r r' b name n l h g t e p q =
    became _ _
    (q
    ∙ ap (λ (k : ℕ). put 6 2 (put (13 + n * 65 + 1) k (set r (13 + n * 65) (length name)) b) (be 2 (n + 1))) (width (13 + n * 65 + 1) (length name))
    ∙ ap (λ (b : List ℕ). put 6 2 (put (13 + n * 65 + 1) (length name) (set r (13 + n * 65) (length name)) b) (be 2 (n + 1))) p
    ∙ ap₂ (λ (r : List ℕ) (n : ℕ). put 6 2 (put (13 + n * 65 + 1) (length name) (set r (13 + n * 65) (length name)) name) (be 2 (n + 1)))
    (laid_image r l).0 e
    ∙ write_name (view r) name h g)
    (fits_name (view r) name (laid_image r l).1 h (record { short = g; bytes = bytes_all name (λ i. (t i).fits) }))

-- ---- no packed value

fits_cleared : (s : Store) → FitsStore s → FitsStore (unpacked s)
unfolding unpacked
fits_cleared s f =
    let e : length (map (put_packed None) s.entries) ≡ count s = length-map s.entries _ in
    fits_entries s (map (put_packed None) s.entries) f (le_trans (le_of_eq e) f.names)
    (λ i k. subst FitsEntry (sym (mapped_at (put_packed None) refl i s.entries)) (kept i (f.entry i (le_trans k (le_of_eq e)))))
  where
    kept : (i : ℕ) → FitsEntry (entry_at s i) → FitsEntry (put_packed None (entry_at s i))
    kept i g = (g.0, g.1, tt)

pub forget_packed_is : (r z : List ℕ) → Laid r → z ≡ replicate (length (cut 18957 2048 r)) 0 → Became (put 18957 2048 r z) (unpacked (view r))
forget_packed_is r z l e =
    let s : length r ≡ 49549 = l.size in
    let m : length (cut 18957 2048 r) ≡ 2048 = length_cut 18957 2048 r (omega arith) in
    became (put 18957 2048 r z) (unpacked (view r))
    (ap₂ (λ (r z : List ℕ). put 18957 2048 r z) (laid_image r l).0 e ∙ forget_packed (view r) (length (cut 18957 2048 r)) m)
    (fits_cleared (view r) (laid_image r l).1)

-- ---- a new region

pub empty_is : (r z a b c : List ℕ) (x : ℕ) (setting : WriteReflog) → length r ≡ 49549 → z ≡ replicate (length r) 0 → x ≡ setting_byte setting
    → a ≡ put 0 1 z (be 1 1) → b ≡ put 1 4 a (be 4 49544) → c ≡ put 5 1 b (be 1 x) → c ≡ image (empty setting)
empty_is r z a b c x setting s e i f g j =
    j
    ∙ ap₂ (λ (b : List ℕ) (x : ℕ). put 5 1 b (be 1 x)) (g ∙ ap (λ (a : List ℕ). put 1 4 a (be 4 49544)) (f ∙ ap (λ (z : List ℕ). put 0 1 z (be 1 1)) e)) i
    ∙ write_empty setting r s
