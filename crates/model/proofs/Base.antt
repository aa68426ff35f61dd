-- What the rules ask of names, values and lines, whatever is prepared or locked. With nothing prepared, that is all.
-- Assumes nothing.
use Rattle.std.specs.Prelude.{Option, None}
use Rattle.target.specs.declared.ObjectNumber.{ObjectNumber}
use mathlib.Core.Path.{◌≡◌, refl, sym, ap, ◌∙◌}
use mathlib.Core.Bool.{Bool, true, false, ◌&&◌, beq, false≢true}
use mathlib.Core.List.{List, [], ◌∷◌, map}
use Prim.Native.Nat.{ℕ, zero, suc, ◌≤◌, ◌<◌}
use native.Mathlib.Omega.{arith}
use lib.ListN.{length, get_or, length-set, length-map, get_or-map}
use lib.Seq.{get_or-set_same, get_or-set_other}
use Rattle.model.specs.declared.Loose.{Loose}
use Rattle.model.specs.declared.Lock.TheVariants.{Ours}
use Rattle.model.specs.declared.Line.{Line}
use Rattle.model.specs.Basic.{Below}
use Rattle.model.specs.Names.{is_name}
use Rattle.model.specs.Store.{Store, Entry, no_entry, count, entry_at, no_line, is_lock, put_loose, put_packed, change_at, change_entry, with_lines}
use Rattle.model.specs.Rows.{opens}
use Rattle.model.specs.Fine.{Fine, fine_loose, fine_packed, fine_entry, fine_line, fine_lock, kept_for, apart_names}
use Rattle.model.specs.Commit.{released}
use Rattle.model.specs.Reached.{Sound}
use Rattle.model.proofs.Release.{released_at, freed_not_ours}
use Rattle.model.proofs.Beneath.{Alone, is_alone, alone_moved}

-- ---- an entry after a change

pub changed_count : (f : Entry → Entry) (n : ℕ) (es : List Entry) → length (change_at f n es) ≡ length es
changed_count f n es = length-set es n _

pub changed_same : (f : Entry → Entry) (n : ℕ) (es : List Entry) → n < length es → get_or (change_at f n es) n no_entry ≡ f (get_or es n no_entry)
changed_same f n es h = get_or-set_same es n _ no_entry h

pub changed_other : (f : Entry → Entry) (n m : ℕ) (es : List Entry) → (m ≡ n → ⊥) → get_or (change_at f n es) m no_entry ≡ get_or es m no_entry
changed_other f n m es h = get_or-set_other es n m _ no_entry h

-- what holds of the entry as it was, and of the changed one where it is that, holds of the entry after the change
pub changed_at : (P : Entry → Type 0) (f : Entry → Entry) (n m : ℕ) (es : List Entry)
    → P (get_or es m no_entry) → (n ≡ m → P (f (get_or es n no_entry))) → P (get_or (change_at f n es) m no_entry)
changed_at P f n m [] p q = p
changed_at P f zero zero (e ∷ es) p q = q refl
changed_at P f zero (suc m) (e ∷ es) p q = p
changed_at P f (suc n) zero (e ∷ es) p q = p
changed_at P f (suc n) (suc m) (e ∷ es) p q = changed_at P f n m es p (λ h. q (ap suc h))

-- what the change leaves of its entry, it leaves of every one
pub changed_keeps : {A : Type 0} (g : Entry → A) (f : Entry → Entry) (n m : ℕ) (es : List Entry)
    → g (f (get_or es n no_entry)) ≡ g (get_or es n no_entry) → g (get_or (change_at f n es) m no_entry) ≡ g (get_or es m no_entry)
changed_keeps g f n m es k = changed_at (λ e. g e ≡ g (get_or es m no_entry)) f n m es refl (λ h. k ∙ ap (λ i. g (get_or es i no_entry)) h)

-- a change of every entry that leaves alone what stands past the end
pub mapped_at : (f : Entry → Entry) → f no_entry ≡ no_entry → (n : ℕ) (es : List Entry) → get_or (map f es) n no_entry ≡ f (get_or es n no_entry)
mapped_at f e n es = ap (λ d. get_or (map f es) n d) (sym e) ∙ get_or-map f es n no_entry

-- ---- tests

-- a test gives way to another, and so do those that follow
pub both_imply : {a b c d : Bool} → (a ≡ true → c ≡ true) → (b ≡ true → d ≡ true) → a && b ≡ true → c && d ≡ true
both_imply {a = true} f g h = rw (f refl) (g h)
both_imply {a = false} f g h = absurd (false≢true h)

pub rest_imply : (a : Bool) {b d : Bool} → (b ≡ true → d ≡ true) → a && b ≡ true → a && d ≡ true
rest_imply a g = both_imply {a = a} {c = a} (λ h. h) g

-- a fine entry is so with any other fine value
pub entry_loose : (n : ℕ) (e : Entry) (v : Loose) → fine_entry n e ≡ true → fine_loose n v ≡ true → fine_entry n (put_loose v e) ≡ true
unfolding fine_entry
entry_loose n e v f h = rest_imply (is_name e.name) (both_imply {a = fine_loose n e.loose} (λ x. h) (λ x. x)) f

pub entry_packed : (n : ℕ) (e : Entry) (v : Option ObjectNumber) → fine_entry n e ≡ true → fine_packed e.name v ≡ true
    → fine_entry n (put_packed v e) ≡ true
unfolding fine_entry
entry_packed n e v f h =
    rest_imply (is_name e.name)
    (rest_imply (fine_loose n e.loose) (both_imply {a = fine_packed e.name e.packed} (λ x. h) (λ x. x)))
    f

-- ---- the rules without the rows and the locks

pub record Base (s : Store) : Type 0 where
  pub few : count s ≤ 256
  pub entries : Below (count s) (λ n. fine_entry (count s) (entry_at s n))
  pub apart : (n : ℕ) → n < count s → Below n (apart_names s n)
  pub short : length s.lines ≤ 1024
  pub lines : Below (length s.lines) (λ i. fine_line (count s) (get_or s.lines i no_line))

pub base : (s : Store) → Fine s → Base s
base s f = record { few = f.few; entries = f.entries; apart = f.apart; short = f.short; lines = f.lines }

-- other entries under the same names, each fine, and other lines, each fine
pub base_changed : (s t : Store) → Base s → count t ≡ count s
    → ((n : ℕ) → n < count s → (entry_at t n).name ≡ (entry_at s n).name)
    → Below (count s) (λ n. fine_entry (count s) (entry_at t n))
    → length t.lines ≤ 1024
    → Below (length t.lines) (λ i. fine_line (count s) (get_or t.lines i no_line))
    → Base t
base_changed s t b same names fine short lines =
    record {
      few = rw same b.few;
      entries = λ n h. rw same (fine n (rw same at h));
      apart = λ n h m k. rw (names n (rw same at h), names m (omega arith)) (b.apart n (rw same at h) m k);
      short = short;
      lines = λ i h. rw same (lines i h);
    }

pub base_entry : (s : Store) (f : Entry → Entry) (n : ℕ) → Base s → (f (entry_at s n)).name ≡ (entry_at s n).name
    → (n < count s → fine_entry (count s) (f (entry_at s n)) ≡ true) → Base (change_entry f n s)
base_entry s f n b name fine =
    base_changed s (change_entry f n s) b
    (changed_count f n s.entries)
    (λ m h. changed_keeps (λ e. e.name) f n m s.entries name)
    (λ m h. changed_at (λ e. fine_entry (count s) e ≡ true) f n m s.entries (b.entries m h) (λ e. fine (rw e h)))
    b.short
    b.lines

-- a fine loose value, a fine packed value, fine lines in place of what was there
pub base_loose : (s : Store) (n : ℕ) (v : Loose) → Base s → fine_loose (count s) v ≡ true → Base (change_entry (put_loose v) n s)
base_loose s n v b h = base_entry s (put_loose v) n b refl (λ k. entry_loose (count s) (entry_at s n) v (b.entries n k) h)

pub base_packed : (s : Store) (n : ℕ) (v : Option ObjectNumber) → Base s → fine_packed (entry_at s n).name v ≡ true → Base (change_entry (put_packed v) n s)
base_packed s n v b h = base_entry s (put_packed v) n b refl (λ k. entry_packed (count s) (entry_at s n) v (b.entries n k) h)

pub base_lines : (s : Store) (ls : List Line) → Base s → length ls ≤ 1024
    → Below (length ls) (λ i. fine_line (count s) (get_or ls i no_line)) → Base (with_lines s ls)
base_lines s ls b short lines = base_changed s (with_lines s ls) b refl (λ n h. refl) b.entries short lines

-- ---- nothing prepared

beq_false : (t : Bool) → beq t false ≡ true → t ≡ false
beq_false true e = sym e
beq_false false e = refl

pub idle_fine : (s : Store) → Base s → Alone s → s.prepared ≡ None → ((n : ℕ) → n < count s → is_lock Ours (entry_at s n).lock ≡ false)
    → is_lock Ours s.packed_lock ≡ false → Fine s
unfolding fine_lock kept_for opens
idle_fine s b a e free packed_free =
    record {
      few = b.few;
      entries = b.entries;
      apart = b.apart;
      short = b.short;
      lines = b.lines;
      bounded = rw e (omega arith);
      rows = rw e λ i h. absurd (omega arith);
      distinct = rw e λ i h. absurd (omega arith);
      locks = λ n h. rw (e, free n h);
      packed_lock = rw (e, packed_free);
      room = rw e (omega arith);
      alone = is_alone s a;
      clear = rw e λ i h. absurd (omega arith);
    }

pub idle_free : (s : Store) → Fine s → s.prepared ≡ None
    → ((n : ℕ) → n < count s → is_lock Ours (entry_at s n).lock ≡ false) × (is_lock Ours s.packed_lock ≡ false)
unfolding fine_lock kept_for opens
idle_free s f e = (λ n h. beq_false _ (rw e at (f.locks n h)), beq_false _ (rw e at f.packed_lock))

-- with nothing prepared there is no row to agree with
pub fine_sound : (s : Store) → Fine s → s.prepared ≡ None → Sound s
fine_sound s f e = record { fine = f; agree = λ i h. absurd (none_there i (rw e at h)) }
  where
    none_there : (i : ℕ) → i < 0 → ⊥
    none_there i h = omega arith

pub idle_sound : (s : Store) → Base s → Alone s → s.prepared ≡ None → ((n : ℕ) → n < count s → is_lock Ours (entry_at s n).lock ≡ false)
    → is_lock Ours s.packed_lock ≡ false → Sound s
idle_sound s b a e free packed_free = fine_sound s (idle_fine s b a e free packed_free) e

-- ---- after commit or rollback

pub released_count : (s : Store) → count (released s) ≡ count s
unfolding released
released_count s = length-map s.entries _

pub released_base : (s : Store) → Base s → Base (released s)
unfolding released fine_entry
released_base s b =
    base_changed s (released s) b
    (released_count s)
    (λ n h. rw released_at)
    (λ n h. rw released_at (b.entries n h))
    b.short
    b.lines

pub released_alone : (s : Store) → Alone s → Alone (released s)
unfolding released
released_alone s = alone_moved s (released s) (record { name = λ n h. rw released_at; loose = λ n h. rw released_at at h })

pub released_fine : (s : Store) → Base s → Alone s → Fine (released s)
unfolding released
released_fine s b a =
    idle_fine (released s) (released_base s b) (released_alone s a) refl
    (λ n h. rw released_at (freed_not_ours (entry_at s n).lock))
    (freed_not_ours s.packed_lock)

pub released_sound : (s : Store) → Base s → Alone s → Sound (released s)
unfolding released
released_sound s b a = fine_sound (released s) (released_fine s b a) refl
