-- What releasing leaves of a store: everything but the transaction and the locks that were ours. Writes leave locks alone.
-- Assumes nothing.
use Rattle.std.specs.Prelude.{None}
use mathlib.Core.Path.{◌≡◌, refl, ap, ◌∙◌}
use mathlib.Core.Bool.{false}
use mathlib.Core.List.{List, [], ◌∷◌, map}
use Prim.Native.Nat.{ℕ, zero, suc}
use lib.ListN.{get_or, get_or-map}
use Rattle.target.specs.declared.NameNumber.{NameNumber}
use Rattle.model.specs.declared.Lock.{Lock}
use Rattle.model.specs.declared.Lock.TheVariants.{Free, Foreign, Ours}
use Rattle.model.specs.declared.Loose.TheVariants as loose
use Rattle.model.specs.Store.{Store, Entry, no_entry, entry_at, lines_of, is_lock, put_lock, put_loose, put_packed, change_at}
use Rattle.model.specs.Read.{reading}
use Rattle.model.specs.Writes.{Write, PackedEdit, apply, apply_packed}
use Rattle.model.specs.Writes.Write.{append_line, write_loose, remove_log, write_packed, remove_loose}
use Rattle.model.specs.Commit.{freed, released}
use Rattle.model.specs.Demand3.{refs, apply_all}

-- ---- one entry

-- what a change leaves of an entry, it leaves of every entry of the list
pub kept_field : {A : Type 0} (g : Entry → A) (f : Entry → Entry) → ((e : Entry) → g (f e) ≡ g e)
    → (es : List Entry) (m n : ℕ) → g (get_or (change_at f m es) n no_entry) ≡ g (get_or es n no_entry)
kept_field g f h [] m n = refl
kept_field g f h (e ∷ es) zero zero = h e
kept_field g f h (e ∷ es) zero (suc n) = refl
kept_field g f h (e ∷ es) (suc m) zero = refl
kept_field g f h (e ∷ es) (suc m) (suc n) = kept_field g f h es m n

-- the entry that releasing leaves
pub released_at : (s : Store) (n : ℕ) → entry_at (released s) n ≡ put_lock (freed (entry_at s n).lock) (entry_at s n)
unfolding released
released_at s n = get_or-map (λ (e : Entry). put_lock (freed e.lock) e) s.entries n no_entry

pub freed_not_ours : (l : Lock) → is_lock Ours (freed l) ≡ false
freed_not_ours Free = refl
freed_not_ours Foreign = refl
freed_not_ours Ours = refl

freed_foreign : (l : Lock) → is_lock Foreign (freed l) ≡ is_lock Foreign l
freed_foreign Free = refl
freed_foreign Foreign = refl
freed_foreign Ours = refl

-- ---- releasing

module _ (s : Store) where
  pub released_free : (n : ℕ) → is_lock Ours (entry_at (released s) n).lock ≡ false
  released_free n = ap (λ (e : Entry). is_lock Ours e.lock) (released_at s n) ∙ freed_not_ours (entry_at s n).lock

  pub released_packed_free : is_lock Ours (released s).packed_lock ≡ false
  unfolding released
  released_packed_free = freed_not_ours s.packed_lock

  pub released_foreign : (n : ℕ) → is_lock Foreign (entry_at (released s) n).lock ≡ is_lock Foreign (entry_at s n).lock
  released_foreign n = ap (λ (e : Entry). is_lock Foreign e.lock) (released_at s n) ∙ freed_foreign (entry_at s n).lock

  pub released_packed_foreign : is_lock Foreign (released s).packed_lock ≡ is_lock Foreign s.packed_lock
  unfolding released
  released_packed_foreign = freed_foreign s.packed_lock

  pub released_setting : (released s).setting ≡ s.setting
  unfolding released
  released_setting = refl

  pub released_reading : (n : NameNumber) → reading (released s) n ≡ reading s n
  unfolding reading
  released_reading n = rw (released_at s n.0)

  pub released_lines : (n : NameNumber) → lines_of (released s) n ≡ lines_of s n
  unfolding lines_of released
  released_lines n = refl

  pub released_log : (released s).lines ≡ s.lines
  unfolding released
  released_log = refl

  pub released_gone : (released s).prepared ≡ None
  unfolding released
  released_gone = refl

  pub released_refs : refs (released s) ≡ refs s
  unfolding released
  released_refs = go s.entries
    where
      go : (es : List Entry) → map (put_lock Free) (map (λ (e : Entry). put_lock (freed e.lock) e) es) ≡ map (put_lock Free) es
      go [] = refl
      go (e ∷ es) = ap (λ (x : List Entry). put_lock Free e ∷ x) (go es)

-- ---- writes leave locks alone

packed_lock_lem : (ps : List PackedEdit) (es : List Entry) (n : ℕ) → (get_or (apply_packed ps es) n no_entry).lock ≡ (get_or es n no_entry).lock
packed_lock_lem [] es n = refl
packed_lock_lem (p ∷ ps) es n =
    packed_lock_lem ps (change_at (put_packed p.value) p.name.0 es) n
    ∙ kept_field (λ (e : Entry). e.lock) (put_packed p.value) (λ e. refl) es p.name.0 n

pub apply_lock : (w : Write) (s : Store) (n : ℕ) → (entry_at (apply w s) n).lock ≡ (entry_at s n).lock
unfolding apply
apply_lock (append_line l) s n = refl
apply_lock (write_loose m t) s n = kept_field (λ (e : Entry). e.lock) (put_loose (loose.Target t)) (λ e. refl) s.entries m.0 n
apply_lock (remove_log m) s n = refl
apply_lock (write_packed ps) s n = packed_lock_lem ps s.entries n
apply_lock (remove_loose m) s n = kept_field (λ (e : Entry). e.lock) (put_loose loose.None) (λ e. refl) s.entries m.0 n

-- what every write leaves as it is, a list of writes does
apply_all_leaves : {A : Type 0} (f : Store → A) → ((w : Write) (s : Store) → f (apply w s) ≡ f s) → (ws : List Write) (s : Store) → f (apply_all ws s) ≡ f s
apply_all_leaves f h [] s = refl
apply_all_leaves f h (w ∷ ws) s = apply_all_leaves f h ws (apply w s) ∙ h w s

-- every write leaves the setting and the packed table's lock
apply_leaves : (w : Write) (s : Store) → ((apply w s).setting ≡ s.setting) × ((apply w s).packed_lock ≡ s.packed_lock)
unfolding apply
apply_leaves (append_line l) s = (refl, refl)
apply_leaves (write_loose n t) s = (refl, refl)
apply_leaves (remove_log n) s = (refl, refl)
apply_leaves (write_packed ps) s = (refl, refl)
apply_leaves (remove_loose n) s = (refl, refl)

pub apply_all_lock : (ws : List Write) (s : Store) (n : ℕ) → (entry_at (apply_all ws s) n).lock ≡ (entry_at s n).lock
apply_all_lock ws s n = apply_all_leaves (λ (t : Store). (entry_at t n).lock) (λ w t. apply_lock w t n) ws s

pub apply_all_packed_lock : (ws : List Write) (s : Store) → (apply_all ws s).packed_lock ≡ s.packed_lock
apply_all_packed_lock = apply_all_leaves (λ (t : Store). t.packed_lock) (λ w t. (apply_leaves w t).1)

pub apply_all_setting : (ws : List Write) (s : Store) → (apply_all ws s).setting ≡ s.setting
apply_all_setting = apply_all_leaves (λ (t : Store). t.setting) (λ w t. (apply_leaves w t).0)
