-- The rules are kept: every call, from a store that obeys the rules, leaves one that does; and so of what holds of every
-- reached store. Assumes nothing.
use Rattle.std.specs.Prelude.{Result, Ok, Err}
use Rattle.model.specs.declared.Refusal.{Refusal}
use mathlib.Core.Path.{◌≡◌, refl}
use mathlib.Core.List.{List}
use Prim.Native.Nat.{ℕ}
use Rattle.model.specs.Store.{Store, Prepared, empty}
use Rattle.model.specs.Prepare.{rows_for}
use Rattle.model.specs.Fine.{Fine}
use Rattle.model.specs.Reply.{Call}
use Rattle.model.specs.Reply.Call.{start, add_name, name_bytes, load_loose, load_packed, place_lock, lift_lock, prepare, commit, rollback, read_name, read_line, read_row, write_packed, read_packed}
use Rattle.model.specs.Calls.{rows_prepared, step}
use Rattle.model.specs.Reached.{Sound, leaves}
use Rattle.model.specs.Reached.Reached.{begun, after}
use Rattle.model.specs.Kept.{Kept, ReachedSound}
use Rattle.model.proofs.PrepareSound.{prepare_sound}
use Rattle.model.proofs.Base.{fine_sound}
use Rattle.model.proofs.KeptSimple.{Rule, rule_fine, rule_sound}
use Rattle.model.proofs.KeptSimple as simple
use Rattle.model.proofs.KeptCommit.{commit_kept}
use Rattle.model.proofs.KeptText.{write_packed_kept, read_packed_kept}

-- one proof for all that obeys the rule, where prepare keeps it
module _ (P : Store → Type 0) (rule : Rule P) (s : Store) (here : P s) (prepares : (list : List ℕ) (mode : ℕ) → P (leaves (step (prepare list mode) s) s)) where
  pub call_kept : (c : Call) → P (leaves (step c s) s)
  call_kept (start k) = simple.start_kept P rule s here k
  call_kept (add_name bytes) = simple.add_name_kept P rule s here bytes
  call_kept (name_bytes n) = simple.name_bytes_kept P rule s here n
  call_kept (load_loose n kind x) = simple.load_loose_kept P rule s here n kind x
  call_kept (load_packed n kind x) = simple.load_packed_kept P rule s here n kind x
  call_kept (place_lock kind n) = simple.place_lock_kept P rule s here kind n
  call_kept (lift_lock kind n) = simple.lift_lock_kept P rule s here kind n
  call_kept (prepare list mode) = prepares list mode
  call_kept (commit c k) = commit_kept P rule s here c k
  call_kept rollback = simple.rollback_kept P rule s here
  call_kept (read_name n) = simple.read_name_kept P rule s here n
  call_kept (read_line n place) = simple.read_line_kept P rule s here n place
  call_kept (read_row place) = simple.read_row_kept P rule s here place
  call_kept (write_packed room) = write_packed_kept P rule s here room
  call_kept (read_packed bytes) = read_packed_kept P rule s here bytes

-- of the rules, and of what holds of every reached store: prepare is refused, or leaves a store that is sound
module _ (P : Store → Type 0) (rule : Rule P) (holds : (s : Store) → Sound s → P s) (s : Store) (here : P s) where
  prepare_kept : (list : List ℕ) (mode : ℕ) → P (leaves (step (prepare list mode) s) s)
  unfolding step rows_prepared
  prepare_kept list mode = go (rows_for list mode s) refl
    where
      go : (o : Result Prepared Refusal) → rows_for list mode s ≡ o → P (leaves (step (prepare list mode) s) s)
      go (Err r) e = rw e here
      go (Ok q) e = rw e (holds _ (prepare_sound s (rule.fine s here) list mode q e))

  all_kept : (c : Call) → P (leaves (step c s) s)
  all_kept = call_kept P rule s here prepare_kept

pub kept : Kept
kept = all_kept Fine rule_fine (λ s h. h.fine)

pub sound : (s : Store) → Sound s → (c : Call) → Sound (leaves (step c s) s)
sound = all_kept Sound rule_sound (λ s h. h)

pub reached_sound : ReachedSound
reached_sound s (begun setting) = fine_sound (empty setting) (simple.empty_fine setting) refl
reached_sound t (after {s} h c) = sound s (reached_sound s h) c
