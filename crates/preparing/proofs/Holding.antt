-- Locks taken: a row's, the turns of the loop over the rows, the packed table's, and the store that they leave. Assumes nothing.
use Rattle.std.specs.Prelude.{Option, Some}
use mathlib.Core.Path.{◌≡◌, refl, sym, ap, ◌∙◌}
use mathlib.Core.Bool.{Bool, true, false, cond}
use mathlib.Core.List.{List, [], ◌∷◌, map}
use Prim.Native.Nat.{ℕ, ◌+◌, ◌<◌, ◌≤◌}
use native.Mathlib.Numerals.{add-one}
use native.Mathlib.Omega.{arith}
use lib.ListN.{length, drop, drop_of_length-le}
use lib.Seq.{drop-cons}
use Rattle.transaction.specs.declared.PackedRefs.{PackedRefs}
use Rattle.transaction.specs.declared.Edit.{Edit}
use Rattle.model.specs.declared.Lock.{Lock}
use Rattle.model.specs.declared.Lock.TheVariants.{Ours}
use Rattle.model.specs.Store.{Store, Entry, Prepared, no_row, count, rows_in, mode_in, put_lock, change_at, change_entry, with_entries, with_packed_lock, with_prepared}
use Rattle.model.specs.Rows.{name_in, row_at, counts, opens, keeps_lock}
use Rattle.model.specs.Prepare.{holding, held}
use Rattle.model.specs.Numbers.{answer}
use Rattle.answers.specs.declared.Verdict.{Verdict}
use Rattle.answers.specs.Answers.{answer_by}
use Rattle.model.proofs.HeldSound.{taken, taken_refs}
use Rattle.model.proofs.SameRefs.{unlocked, SameRefs, same_count, same_keeps_lock}
use Rattle.region.specs.Region.{view, Laid, Became}
use Rattle.rows.specs.Rows.{Named}
use Rattle.preparing.specs.Rows.{held_by, names_held, table_held}

-- ---- a row

module _ (r : List ℕ) (mode : PackedRefs) (x row : Edit) (k : Bool) (ex : x ≡ row) (ek : k ≡ keeps_lock (view r) mode x) where
  asked : keeps_lock (view r) mode row ≡ k
  asked = ap (keeps_lock (view r) mode) (sym ex) ∙ sym ek

  pub row_passed : Laid r → k ≡ false → Became r (held_by mode row (view r))
  unfolding held_by
  row_passed h t = record { laid = h; seen = sym (rw (asked ∙ t)) }

  pub row_held : (r' : List ℕ) → k ≡ true → Became r' (change_entry (put_lock Ours) (name_in x).0 (view r)) → Became r' (held_by mode row (view r))
  unfolding held_by
  row_held r' t g =
      record {
        laid = g.laid;
        seen = g.seen ∙ ap (λ (y : Edit). change_entry (put_lock Ours) (name_in y).0 (view r)) ex ∙ sym (rw (asked ∙ t));
      }

-- the row that is read is the row whose name is registered
pub row_name : (x row : Edit) (n : ℕ) → x ≡ row → (name_in row).0 < n → (name_in x).0 < n
row_name x row n e h = rw e h

-- ---- the rows, one by one

-- of the rows in s those before place i hold in t what they keep, and t has other locks alone
pub record Held (s : Store) (i : ℕ) (t : Store) : Type 0 where
  pub seen : t ≡ with_entries s t.entries
  pub refs : map unlocked t.entries ≡ map unlocked s.entries
  pub left : holding s (mode_in s.prepared) (drop i (rows_in s.prepared)) t.entries ≡ holding s (mode_in s.prepared) (rows_in s.prepared) s.entries

pub held_start : (s : Store) → Held s 0 s
held_start s = record { seen = refl; refs = refl; left = refl }

taken_is : (s t : Store) (k : Bool) (m : ℕ) → t ≡ with_entries s t.entries → cond k (change_entry (put_lock Ours) m t) t ≡ with_entries s (taken k m t.entries)
taken_is s t true m e = ap (λ (u : Store). with_entries u (change_at (put_lock Ours) m t.entries)) e
taken_is s t false m e = e

module _ (s t : Store) (i n : ℕ) (h : Held s i t) (e : n ≡ length (rows_in s.prepared)) where
  same_rows : rows_in t.prepared ≡ rows_in s.prepared
  same_rows = ap (λ (u : Store). rows_in u.prepared) h.seen

  same_refs : SameRefs t s
  same_refs = record { refs = h.refs; lines = ap (λ (u : Store). u.lines) h.seen; setting = ap (λ (u : Store). u.setting) h.seen }

  pub held_row : i < n → i < length (rows_in t.prepared)
  held_row l = let q : length (rows_in t.prepared) ≡ length (rows_in s.prepared) = ap length same_rows in omega arith

  pub held_name : i < n → Named s → (name_in (row_at (rows_in t.prepared) i)).0 < count t
  held_name l named =
      let b : i < length (rows_in s.prepared) = rw e at l in
      rw (same_rows, same_count t s same_refs) (named.named i b)

  held_more : (mode : PackedRefs) (t' : Store) → i < n → mode ≡ mode_in s.prepared → t' ≡ held_by mode (row_at (rows_in t.prepared) i) t → Held s (i + 1) t'
  unfolding held_by
  held_more mode t' l em g =
      record {
        seen = is ∙ ap (with_entries s) (sym es);
        refs = ap (map unlocked) es ∙ taken_refs k m t.entries ∙ h.refs;
        left = ap (holding s mode₀ (drop (i + 1) rows)) es ∙ (rw (next) at h.left);
      }
    where
      mode₀ : PackedRefs
      mode₀ = mode_in s.prepared

      rows : List Edit
      rows = rows_in s.prepared

      k : Bool
      k = keeps_lock s mode₀ (row_at rows i)

      m : ℕ
      m = (name_in (row_at rows i)).0

      next : drop i rows ≡ row_at rows i ∷ drop (i + 1) rows
      next = let b : i < length rows = rw e at l in rw add-one (drop-cons rows i no_row b)

      here : held_by mode (row_at (rows_in t.prepared) i) t ≡ held_by mode₀ (row_at rows i) t
      here = ap (λ (rs : List Edit). held_by mode (row_at rs i) t) same_rows ∙ ap (λ (o : PackedRefs). held_by o (row_at rows i) t) em

      is : t' ≡ with_entries s (taken k m t.entries)
      is = g ∙ here ∙ ap (λ (b : Bool). cond b (change_entry (put_lock Ours) m t) t) (same_keeps_lock t s same_refs mode₀ (row_at rows i)) ∙ taken_is s t k m h.seen

      es : t'.entries ≡ taken k m t.entries
      es = ap (λ (u : Store). u.entries) is

  held_end : n ≤ i → t ≡ names_held s
  unfolding names_held
  held_end l =
      let b : length (rows_in s.prepared) ≤ i = rw e at l in
      h.seen ∙ ap (with_entries s) (rw (drop_of_length-le (rows_in s.prepared) b) at h.left)

-- of regions: a turn, and the end
pub turn_held : (s : Store) (r r' : List ℕ) (i n : ℕ) (mode : PackedRefs) → Held s i (view r) → i < n → n ≡ length (rows_in s.prepared) → mode ≡ mode_in s.prepared
    → Became r' (held_by mode (row_at (rows_in (view r).prepared) i) (view r)) → Held s (i + 1) (view r')
turn_held s r r' i n mode h l e em g = held_more s (view r) i n h e mode (view r') l em g.seen

pub names_held_lem : (s : Store) (r : List ℕ) (i n : ℕ) → Laid r → Held s i (view r) → n ≤ i → n ≡ length (rows_in s.prepared) → Became r (names_held s)
names_held_lem s r i n k h l e = record { laid = k; seen = held_end s (view r) i n h e l }

-- ---- the packed table

module _ (r : List ℕ) (k : Bool) (ek : k ≡ opens (view r) (mode_in (view r).prepared) (rows_in (view r).prepared)) where
  pub table_passed : Laid r → k ≡ false → Became r (table_held (view r))
  unfolding table_held
  table_passed h t = record { laid = h; seen = sym (ap (λ (b : Bool). with_packed_lock (view r) (cond b Ours (view r).packed_lock)) (sym ek ∙ t)) }

  pub table_held_lem : (r' : List ℕ) → k ≡ true → Became r' (with_packed_lock (view r) Ours) → Became r' (table_held (view r))
  unfolding table_held
  table_held_lem r' t g = record { laid = g.laid; seen = g.seen ∙ sym (ap (λ (b : Bool). with_packed_lock (view r) (cond b Ours (view r).packed_lock)) (sym ek ∙ t)) }

-- names and rows are as they were
pub table_named : (r : List ℕ) (s : Store) → Named s → Became r (table_held s) → Named (view r)
unfolding table_held
table_named r s h g = rw g.seen (record { named = h.named })

-- ---- both

pub rows_counted : (v : Verdict) (n m : ℕ) → n ≡ m → answer_by v ≡ answer 0 (n ∷ []) → answer_by v ≡ answer 0 (m ∷ [])
rows_counted v n m e q = q ∙ ap (λ (k : ℕ). answer 0 (k ∷ [])) e

pub both_held : (r₀ r₁ r₂ : List ℕ) → Became r₁ (table_held (view r₀)) → Became r₂ (names_held (view r₁)) → Became r₂ (names_held (table_held (view r₀)))
both_held r₀ r₁ r₂ h g = record { laid = g.laid; seen = g.seen ∙ ap names_held h.seen }

-- ---- the model's words

keeps_same : (s : Store) (l : Lock) (p : Option Prepared) (mode : PackedRefs) (r : Edit) → keeps_lock (with_packed_lock (with_prepared s p) l) mode r ≡ keeps_lock s mode r
unfolding keeps_lock
keeps_same s l p mode r = refl

holding_same : (s : Store) (l : Lock) (p : Option Prepared) (mode : PackedRefs) (rows : List Edit) (es : List Entry) → holding (with_packed_lock (with_prepared s p) l) mode rows es ≡ holding s mode rows es
holding_same s l p mode [] es = refl
holding_same s l p mode (r ∷ rs) es =
    ap (λ (b : Bool). holding (with_packed_lock (with_prepared s p) l) mode rs (taken b (name_in r).0 es)) (keeps_same s l p mode r)
    ∙ holding_same s l p mode rs (taken (keeps_lock s mode r) (name_in r).0 es)

opens_same : (s : Store) (p : Option Prepared) (mode : PackedRefs) (rows : List Edit) → opens (with_prepared s p) mode rows ≡ opens s mode rows
unfolding opens counts
opens_same s p mode rows = refl

pub held_is : (s : Store) (mode : PackedRefs) (rows : List Edit) → names_held (table_held (with_prepared s (Some (record { mode = mode; rows = rows })))) ≡ held (record { mode = mode; rows = rows }) s
unfolding names_held table_held held
held_is s mode rows =
    ap (λ (b : Bool). names_held (with_packed_lock (with_prepared s p) (cond b Ours s.packed_lock))) (opens_same s p mode rows)
    ∙ ap (with_entries (with_packed_lock (with_prepared s p) l)) (holding_same s l p mode rows s.entries)
  where
    p : Option Prepared
    p = Some (record { mode = mode; rows = rows })

    l : Lock
    l = cond (opens s mode rows) Ours s.packed_lock
