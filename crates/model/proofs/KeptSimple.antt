-- Every call but prepare and commit keeps the rules, and what holds of every reached store. Assumes nothing.
use Rattle.std.specs.Prelude.{Option, Some, None, Result, Ok, Err}
use Rattle.target.specs.declared.ObjectNumber.{ObjectNumber}
use mathlib.Core.Path.{◌≡◌, refl}
use mathlib.Core.Bool.{Bool, true, false, ◌&&◌, not, cond, false≢true}
use mathlib.Core.List.{List, [], ◌∷◌, ◌++◌}
use mathlib.Core.Logic.{◌⊎◌}
use mathlib.Core.Logic.◌⊎◌.{inl, inr}
use Prim.Native.Nat.{ℕ, zero, suc, ◌+◌, ◌≤◌, ◌<◌}
use native.Mathlib.Omega.{arith}
use lib.ListN.{length, get_or, length-append, get_or-append}
use lib.Seq.{get_or-append_seam}
use lib.Dec.{eqb, ltb, leb}
use borrow.Author.Tests.{ltb-true, ltb-false, not-false, eqb-true, leb-false}
use Rattle.model.specs.declared.Loose.{Loose}
use Rattle.model.specs.declared.Lock.{Lock}
use Rattle.model.specs.declared.Lock.TheVariants.{Free, Foreign, Ours}
use Rattle.model.specs.declared.Lockable.{Lockable}
use Rattle.model.specs.declared.Lockable.TheVariants.{Name, PackedTable}
use Rattle.model.specs.declared.WriteReflog.{WriteReflog}
use Rattle.model.specs.declared.Refusal.{Refusal}
use Rattle.model.specs.declared.Refusal.TheVariants.{Malformed}
use Rattle.model.specs.Names.{is_name, same_bytes, packable}
use Rattle.model.specs.Store.{Store, Entry, no_entry, empty, count, entry_at, rows_in, is_prepared, is_lock, is_id, is_none, lock_byte, lines_of, put_loose, put_packed, put_lock, change_entry, with_entries, with_packed_lock}
use Rattle.model.specs.Outcome.{refuse_if, or_refuse}
use Rattle.model.specs.Fine.{Fine, apart_names, fine_entry, fine_loose, fine_packed}
use Rattle.model.specs.Reply.{Reply, ◌>>=◌, ◌>>◌, known}
use Rattle.model.specs.Reply.Call.{start, add_name, name_bytes, load_loose, load_packed, place_lock, lift_lock, rollback, read_name, read_line, read_row}
use Rattle.model.specs.Beneath.{is_loose, lies, loose_above, loose_beneath}
use Rattle.model.specs.Commit.{released}
use Rattle.model.specs.Load.{setting_of, loose_of, packed_of, number_from, new_entry, added_as, lockable, lock_of, set_lock, started, name_added, bytes_given, nests, loose_loaded, packed_loaded, relocked, placed, lifted}
use Rattle.model.specs.Calls.{rolled_back, name_read, line_read, row_read, step}
use Rattle.model.specs.Reached.{leaves, Sound}
use Rattle.model.proofs.Binds.{not_prepared}
use Rattle.model.proofs.Places.{added_at, added_keeps}
use Rattle.model.proofs.Base.{changed_count, changed_keeps, changed_at, entry_loose, entry_packed, Base, base, base_entry, idle_fine, idle_free, fine_sound, released_fine}
use Rattle.model.proofs.Beneath.{neither, not_and, not_itself, Alone, alone_is, above_not, beneath_not, Fewer, alone_moved}
use Rattle.model.proofs.Grown.{line_grows, entry_grows, Alike, Held, alike_fine, alike_sound}

-- what the rules and what holds of reached stores have in common: where nothing is prepared the rules are enough, and it goes
-- over to a store that differs in locks of others and in new names alone
pub record Rule (P : Store → Type 0) : Type 0 where
  pub fine : (s : Store) → P s → Fine s
  pub idle : (s : Store) → Fine s → s.prepared ≡ None → P s
  pub alike : (s t : Store) → P s → Alike s t → Held s t → Base t → P t

pub rule_fine : Rule Fine
rule_fine = record { fine = λ s f. f; idle = λ s f e. f; alike = alike_fine }

pub rule_sound : Rule Sound
rule_sound = record { fine = λ s f. f.fine; idle = fine_sound; alike = alike_sound }

-- after commit or rollback
pub released_kept : (P : Store → Type 0) → Rule P → (s : Store) → Base s → Alone s → P (released s)
unfolding released
released_kept P rule s b a = rule.idle (released s) (released_fine s b a) refl

-- what is given, if anything is, passes the test
abbrev pub in_any : {A : Type 0} → (A → Bool) → Option A → Bool
in_any p None = true
in_any p (Some a) = p a

-- ---- a reply leaves a good store where each of its ends does: a refusal leaves what was there

module _ (P : Store → Type 0) (s : Store) (here : P s) where
  pub passed : {A : Type 0} (m : Result A Refusal) (f : A → Reply) → ((a : A) → m ≡ Ok a → P (leaves (f a) s)) → P (leaves (m >>= f) s)
  passed (Err r) f h = here
  passed (Ok a) f h = h a refl

  pub tested : (t : Bool) (why : Refusal) (r : Reply) → (t ≡ false → P (leaves r s)) → P (leaves (refuse_if t why >> r) s)
  tested true why r h = here
  tested false why r h = h refl

  pub taken : {A : Type 0} (p : A → Bool) (o : Option A) (why : Refusal) (f : A → Reply) → in_any p o ≡ true
      → ((a : A) → p a ≡ true → P (leaves (f a) s)) → P (leaves (or_refuse why o >>= f) s)
  taken p None why f e h = here
  taken p (Some a) why f e h = h a e

-- ---- the calls, for whatever obeys the rule

pub empty_fine : (setting : WriteReflog) → Fine (empty setting)
empty_fine setting = idle_fine (empty setting) nothing (record { alone = λ n m h. absurd (false≢true h) }) refl (λ n h. absurd (omega arith)) refl
  where
    nothing : Base (empty setting)
    nothing =
        record {
          few = omega arith;
          entries = λ n h. absurd (omega arith);
          apart = λ n h. absurd (omega arith);
          short = omega arith;
          lines = λ n h. absurd (omega arith);
        }

in_cond : {A : Type 0} (p : A → Bool) (t : Bool) (a : A) → (t ≡ true → p a ≡ true) → in_any p (cond t (Some a) None) ≡ true
in_cond p true a h = h refl
in_cond p false a h = refl

-- a kind and a number make a fine value, if any
loose_fine : (n kind x : ℕ) → eqb kind 2 && not (ltb x n) ≡ false → in_any (fine_loose n) (loose_of kind x) ≡ true
loose_fine n zero x e = in_cond _ (eqb x 0) _ (λ h. refl)
loose_fine n (suc zero) x e = in_cond _ (is_id x) _ (λ h. h)
loose_fine n (suc (suc zero)) x e = not-false (ltb x n) e
loose_fine n (suc (suc (suc zero))) x e = in_cond _ (eqb x 0) _ (λ h. refl)
loose_fine n (suc (suc (suc (suc k)))) x e = refl

packed_fine : (bytes : List ℕ) (kind x : ℕ) → in_any (fine_packed bytes) (packed_of bytes kind x) ≡ true
packed_fine bytes zero x = in_cond _ (eqb x 0) _ (λ h. refl)
packed_fine bytes (suc zero) x = in_cond _ (is_id x && packable bytes) _ (λ h. h)
packed_fine bytes (suc (suc k)) x = refl

-- a name that no entry has is another than that of every entry
number_none : (i : ℕ) (bytes : List ℕ) (es : List Entry) → number_from i bytes es ≡ None → (n : ℕ) → n < length es
    → same_bytes bytes (get_or es n no_entry).name ≡ false
number_none i bytes [] e n h = absurd (omega arith)
number_none i bytes (x ∷ xs) e n h = go (same_bytes bytes x.name) refl (number_none (i + 1) bytes xs) n h
  where
    other : List Entry → Type 0
    other es = (m : ℕ) → m < length es → same_bytes bytes (get_or es m no_entry).name ≡ false

    go : (t : Bool) → same_bytes bytes x.name ≡ t → (number_from (i + 1) bytes xs ≡ None → other xs) → other (x ∷ xs)
    go true q rec m h = let f : Some i ≡ None = rw q at e in absurd (let z : ◌≡◌ {A = ℕ} 0 1 = cc in omega arith)
    go false q rec zero h = q
    go false q rec (suc m) h = rec (rw q at e) m (omega arith)

base_added : (s : Store) (bytes : List ℕ) → Base s → is_name bytes ≡ true → number_from 0 bytes s.entries ≡ None → count s < 256
    → Base (with_entries s (s.entries ++ (new_entry bytes ∷ [])))
unfolding fine_entry
base_added s bytes b e o h =
    record {
      few = rw length-append (omega arith);
      entries =
          added_at (λ x. fine_entry (length after) x ≡ true) no_entry (new_entry bytes) s.entries
          (λ n k. entry_grows _ _ grown (entry_at s n) (b.entries n k))
          (rw e);
      apart = λ n k m l. go n k m l (ltb n (count s)) refl;
      short = b.short;
      lines = λ i k. line_grows _ _ grown _ (b.lines i k);
    }
  where
    after : List Entry
    after = s.entries ++ (new_entry bytes ∷ [])

    grown : count s ≤ length after
    grown = rw length-append (omega arith)

    old_at : (n : ℕ) → n < count s → get_or after n no_entry ≡ entry_at s n
    old_at n k = get_or-append s.entries (new_entry bytes ∷ []) no_entry n k

    go : (n : ℕ) → n < length after → (m : ℕ) → m < n → (t : Bool) → ltb n (count s) ≡ t → apart_names (with_entries s after) n m ≡ true
    go n k m l true q =
        let old : n < count s = ltb-true n (count s) q in
        let older : m < count s = omega arith in
        rw (old_at n old, old_at m older) (b.apart n old m l)
    go n k m l false q =
        let past : count s ≤ n = ltb-false n (count s) q in
        let last : n < count s + 1 = rw length-append at k in
        let new : n ≡ count s = omega arith in
        let old : m < count s = omega arith in
        rw (new, get_or-append_seam s.entries (new_entry bytes) [] no_entry, old_at m old, number_none 0 bytes s.entries o m old)

-- a packed value makes no name loose
packed_fewer : (s : Store) (n : ℕ) (v : Option ObjectNumber) → Fewer s (change_entry (put_packed v) n s)
packed_fewer s n v = record {
  name = λ m h. changed_keeps (λ x. x.name) (put_packed v) n m s.entries refl;
  loose = λ m h. rw (changed_keeps (λ x. x.loose) (put_packed v) n m s.entries refl) at h;
}

-- a load that 21 does not refuse puts no loose value beneath another
loaded_alone : (s : Store) (n : ℕ) (v : Loose) → Alone s → nests s n v ≡ false → Alone (change_entry (put_loose v) n s)
unfolding nests
loaded_alone s n v a h = record { alone = λ m k p q. rw (name m, name k) (go m k (was m p) (was k q)) }
  where
    Was : ℕ → Type 0
    Was m = (is_loose s m ≡ true) ⊎ ((n ≡ m) × (not (is_none v) ≡ true))

    name : (m : ℕ) → (entry_at (change_entry (put_loose v) n s) m).name ≡ (entry_at s m).name
    name m = changed_keeps (λ x. x.name) (put_loose v) n m s.entries refl

    was : (m : ℕ) → is_loose (change_entry (put_loose v) n s) m ≡ true → Was m
    was m = changed_at (λ x. not (is_none x.loose) ≡ true → Was m) (put_loose v) n m s.entries (λ p. inl p) (λ e p. inr (e, p))

    None : not (is_none v) ≡ true → (loose_above s n ≡ false) × (loose_beneath s n ≡ false)
    None p = neither _ _ (not_and (not (is_none v)) _ h p)

    go : (m k : ℕ) → Was m → Was k → lies s m k ≡ false
    go m k (inl p) (inl q) = a.alone m k p q
    go m k (inl p) (inr (e, q)) = rw (← e) (beneath_not s n (None q).1 m p)
    go m k (inr (e, p)) (inl q) = rw (← e) (above_not s n (None p).0 k q)
    go m k (inr (e, p)) (inr (d, q)) = rw (← e, ← d) (not_itself (entry_at s n).name)

-- a lock that was not ours and is not becomes no more ours
not_ours : (old new l : Lock) → is_lock Ours old ≡ false → is_lock Ours new ≡ false → is_lock old l ≡ true → is_lock Ours new ≡ is_lock Ours l
not_ours old new l p q e = rw (← eqb-true (lock_byte old) (lock_byte l) e, p, q)

module _ (P : Store → Type 0) (rule : Rule P) (s : Store) (here : P s) where
  rules : Base s
  rules = base s (rule.fine s here)

  apart : Alone s
  apart = alone_is s (rule.fine s here).alone

  -- past a test, past a number that is registered, past 15
  past : (t : Bool) (why : Refusal) (r : Reply) → (t ≡ false → P (leaves r s)) → P (leaves (refuse_if t why >> r) s)
  past = tested P s here

  past_known : (n : ℕ) (r : Reply) → (n < count s → P (leaves r s)) → P (leaves (known n s >> r) s)
  past_known n r h = past (not (ltb n (count s))) _ r (λ e. h (ltb-true n (count s) (not-false _ e)))

  pub start_kept : (k : ℕ) → P (leaves (step (start k) s) s)
  unfolding step started
  start_kept k =
      passed P s here (or_refuse Malformed (setting_of k)) _ (λ setting e.
      rule.idle (empty setting) (empty_fine setting) refl)

  pub rollback_kept : P (leaves (step rollback s) s)
  unfolding step rolled_back
  rollback_kept = released_kept P rule s rules apart

  pub name_bytes_kept : (n : ℕ) → P (leaves (step (name_bytes n) s) s)
  unfolding step bytes_given
  name_bytes_kept n = past_known n _ (λ h. here)

  pub read_name_kept : (n : ℕ) → P (leaves (step (read_name n) s) s)
  unfolding step name_read
  read_name_kept n = past_known n _ (λ h. here)

  pub read_line_kept : (n place : ℕ) → P (leaves (step (read_line n place) s) s)
  unfolding step line_read
  read_line_kept n place = past_known n _ (λ h. past (leb (length (lines_of s (record { 0 = n }))) place) _ _ (λ e. here))

  pub read_row_kept : (place : ℕ) → P (leaves (step (read_row place) s) s)
  unfolding step row_read
  read_row_kept place = past (leb (length (rows_in s.prepared)) place) _ _ (λ e. here)

  -- ---- loads

  -- with nothing prepared, an entry is changed to a fine one with the same name and lock
  changed : (f : Entry → Entry) (n : ℕ) → s.prepared ≡ None → (f (entry_at s n)).name ≡ (entry_at s n).name
      → (f (entry_at s n)).lock ≡ (entry_at s n).lock → fine_entry (count s) (f (entry_at s n)) ≡ true → Alone (change_entry f n s)
      → P (change_entry f n s)
  changed f n e name lock fine alone =
      rule.idle (change_entry f n s)
      (idle_fine (change_entry f n s) (base_entry s f n rules name (λ h. fine)) alone e
      (λ m h. rw (changed_keeps (λ x. x.lock) f n m s.entries lock) (free.0 m (rw (changed_count f n s.entries) at h)))
      free.1)
      e
    where
      free : ((m : ℕ) → m < count s → is_lock Ours (entry_at s m).lock ≡ false) × (is_lock Ours s.packed_lock ≡ false)
      free = idle_free s (rule.fine s here) e

  pub load_loose_kept : (n kind x : ℕ) → P (leaves (step (load_loose n kind x) s) s)
  unfolding step loose_loaded
  load_loose_kept n kind x =
      past (is_prepared s.prepared) _ _ (λ e.
      past_known n _ (λ h.
      past (eqb kind 2 && not (ltb x (count s))) _ _ (λ k.
      taken P s here (fine_loose (count s)) (loose_of kind x) _ _ (loose_fine (count s) kind x k) (λ v q.
      past (nests s n v) _ _ (λ g.
      changed (put_loose v) n (not_prepared s.prepared e) refl refl
      (entry_loose (count s) (entry_at s n) v (rules.entries n h) q)
      (loaded_alone s n v apart g))))))

  pub load_packed_kept : (n kind x : ℕ) → P (leaves (step (load_packed n kind x) s) s)
  unfolding step packed_loaded
  load_packed_kept n kind x =
      past (is_prepared s.prepared) _ _ (λ e.
      past_known n _ (λ h.
      let bytes : List ℕ = (entry_at s n).name in
      taken P s here (fine_packed bytes) (packed_of bytes kind x) _ _ (packed_fine bytes kind x) (λ v q.
      changed (put_packed v) n (not_prepared s.prepared e) refl refl
      (entry_packed (count s) (entry_at s n) v (rules.entries n h) q)
      (alone_moved s (change_entry (put_packed v) n s) (packed_fewer s n v) apart))))

  -- ---- locks of others

  locked : (l : Lockable) (old new : Lock) → is_lock Ours old ≡ false → is_lock Ours new ≡ false → is_lock old (lock_of l s) ≡ true
      → P (set_lock l new s)
  unfolding fine_entry
  locked (Name n) old new p q e =
      rule.alike s (change_entry (put_lock new) n.0 s) here
      record {
        lines = refl;
        setting = refl;
        name = λ m h. changed_keeps (λ x. x.name) (put_lock new) n.0 m s.entries refl;
        loose = λ m. changed_keeps (λ x. x.loose) (put_lock new) n.0 m s.entries refl;
        packed = λ m. changed_keeps (λ x. x.packed) (put_lock new) n.0 m s.entries refl;
      }
      record {
        prepared = refl;
        grown = rw changed_count (omega arith);
        lock = λ m. changed_keeps (λ x. is_lock Ours x.lock) (put_lock new) n.0 m s.entries (not_ours old new (entry_at s n.0).lock p q e);
        packed_lock = refl;
      }
      (base_entry s (put_lock new) n.0 rules refl (λ h. rules.entries n.0 h))
  locked PackedTable old new p q e =
      rule.alike s (with_packed_lock s new) here
      record { lines = refl; setting = refl; name = λ m h. refl; loose = λ m. refl; packed = λ m. refl }
      record { prepared = refl; grown = omega arith; lock = λ m. refl; packed_lock = not_ours old new s.packed_lock p q e }
      record { few = rules.few; entries = rules.entries; apart = rules.apart; short = rules.short; lines = rules.lines }

  -- a lock of another program's, turned from what is not ours to what is not
  relocked_kept : (must becomes : Lock) (kind n : ℕ) → is_lock Ours must ≡ false → is_lock Ours becomes ≡ false
      → P (leaves (relocked must becomes kind n s) s)
  unfolding relocked
  relocked_kept must becomes kind n p q =
      passed P s here (lockable kind n s) _ (λ what e.
      past (not (is_lock must (lock_of what s))) _ _ (λ h.
      locked what must becomes p q (not-false _ h)))

  pub place_lock_kept : (kind n : ℕ) → P (leaves (step (place_lock kind n) s) s)
  unfolding step placed
  place_lock_kept kind n = relocked_kept Free Foreign kind n refl refl

  pub lift_lock_kept : (kind n : ℕ) → P (leaves (step (lift_lock kind n) s) s)
  unfolding step lifted
  lift_lock_kept kind n = relocked_kept Foreign Free kind n refl refl

  -- ---- names

  added : (name : List ℕ) → is_name name ≡ true → number_from 0 name s.entries ≡ None → count s < 256
      → P (with_entries s (s.entries ++ (new_entry name ∷ [])))
  added name e o h =
      rule.alike s (with_entries s (s.entries ++ (new_entry name ∷ []))) here
      record {
        lines = refl;
        setting = refl;
        name = λ n k. rw (get_or-append s.entries (new_entry name ∷ []) no_entry n k);
        loose = λ n. added_keeps (λ x. x.loose) no_entry (new_entry name) refl s.entries n;
        packed = λ n. added_keeps (λ x. x.packed) no_entry (new_entry name) refl s.entries n;
      }
      record {
        prepared = refl;
        grown = rw length-append (omega arith);
        lock = λ n. added_keeps (λ x. is_lock Ours x.lock) no_entry (new_entry name) refl s.entries n;
        packed_lock = refl;
      }
      (base_added s name rules e o h)

  pub add_name_kept : (bytes : List ℕ) → P (leaves (step (add_name bytes) s) s)
  unfolding step name_added
  add_name_kept bytes = past (not (is_name bytes)) _ _ (λ e. go (not-false _ e) (number_from 0 bytes s.entries) refl)
    where
      go : is_name bytes ≡ true → (o : Option ℕ) → number_from 0 bytes s.entries ≡ o → P (leaves (added_as bytes s o) s)
      go e None q = past (leb 256 (count s)) _ _ (λ h. added bytes e q (leb-false 256 (count s) h))
      go e (Some n) q = here
