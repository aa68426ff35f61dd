-- Stores with the same refs, logs and setting, whatever their locks and rows, and what they share. Assumes nothing.
use mathlib.Core.Path.{◌≡◌, refl, sym, ap, ◌∙◌}
use mathlib.Core.Bool.{Bool}
use mathlib.Core.List.{List, map}
use Prim.Native.Nat.{ℕ}
use lib.ListN.{length, get_or, length-map, get_or-map}
use Rattle.target.specs.declared.NameNumber.{NameNumber}
use Rattle.transaction.specs.declared.PackedRefs.{PackedRefs}
use Rattle.transaction.specs.declared.Edit.{Edit}
use Rattle.model.specs.declared.Lock.TheVariants.{Free}
use Rattle.model.specs.Basic.{any}
use Rattle.model.specs.Store.{Store, Entry, no_entry, no_row, count, entry_at, name_of, lines_of, is_packed, put_lock}
use Rattle.model.specs.Rows.{name_in, counts, counts_as_update, opens, is_direct, keeps_lock}
use Rattle.model.specs.Due.{Stamp, is_logged, due_line, unsigned, due_lines}
use Rattle.model.proofs.Alike.{any_map}
use Rattle.model.proofs.Places.{any_same, collect_same}

-- an entry whatever its lock
abbrev pub unlocked : Entry → Entry
unlocked e = put_lock Free e

pub record SameRefs (s t : Store) : Type 0 where
  pub refs : map unlocked s.entries ≡ map unlocked t.entries
  pub lines : s.lines ≡ t.lines
  pub setting : s.setting ≡ t.setting

-- ---- what the two share

module _ (s t : Store) (e : SameRefs s t) where
  pub same_count : count s ≡ count t
  same_count = sym (length-map s.entries unlocked) ∙ ap length e.refs ∙ length-map t.entries unlocked

  -- of each name, whatever its lock does not touch
  pub same_at : {A : Type 0} (f : Entry → A) → ((x : Entry) → f (unlocked x) ≡ f x) → (n : ℕ) → f (entry_at s n) ≡ f (entry_at t n)
  same_at f h n = sym (here s) ∙ ap (λ (l : List Entry). f (get_or l n no_entry)) e.refs ∙ here t
    where
      here : (u : Store) → f (get_or (map unlocked u.entries) n no_entry) ≡ f (entry_at u n)
      here u = ap f (get_or-map unlocked u.entries n no_entry) ∙ h (entry_at u n)

  pub same_name : (n : NameNumber) → name_of s n ≡ name_of t n
  same_name n = same_at (λ (x : Entry). x.name) (λ x. refl) n.0

  pub same_lines_of : (n : NameNumber) → lines_of s n ≡ lines_of t n
  unfolding lines_of
  same_lines_of n = rw e.lines

  same_packed : any (λ (x : Entry). is_packed x.packed) s.entries ≡ any (λ (x : Entry). is_packed x.packed) t.entries
  same_packed = sym (here s) ∙ ap (any packed) e.refs ∙ here t
    where
      packed : Entry → Bool
      packed x = is_packed x.packed

      here : (u : Store) → any packed (map unlocked u.entries) ≡ any packed u.entries
      here u = any_map unlocked packed packed (λ x. refl) u.entries

  pub same_counts : (r : Edit) → counts s r ≡ counts t r
  unfolding counts
  same_counts r = rw (same_name (name_in r))

  pub same_opens : (mode : PackedRefs) (rows : List Edit) → opens s mode rows ≡ opens t mode rows
  unfolding opens
  same_opens mode rows =
      rw (any_same (counts s) (counts t) no_row rows (λ i h. same_counts (get_or rows i no_row)), updates, same_packed)
    where
      updates : any (counts_as_update s) rows ≡ any (counts_as_update t) rows
      updates = any_same (counts_as_update s) (counts_as_update t) no_row rows (λ i h. rw (same_counts (get_or rows i no_row)))

  pub same_is_direct : (mode : PackedRefs) (r : Edit) → is_direct s mode r ≡ is_direct t mode r
  unfolding is_direct
  same_is_direct mode r = rw (same_name (name_in r))

  pub same_keeps_lock : (mode : PackedRefs) (r : Edit) → keeps_lock s mode r ≡ keeps_lock t mode r
  unfolding keeps_lock
  same_keeps_lock mode r = rw (same_name (name_in r))

  pub same_due_line : (stamp : Stamp) (r : Edit) → due_line stamp s r ≡ due_line stamp t r
  unfolding due_line is_logged
  same_due_line stamp r = rw (same_name (name_in r), same_lines_of (name_in r), e.setting)

  pub same_due_lines : (rows : List Edit) → due_lines s rows ≡ due_lines t rows
  same_due_lines rows = collect_same (due_line unsigned s) (due_line unsigned t) no_row rows (λ i h. same_due_line unsigned (get_or rows i no_row))
