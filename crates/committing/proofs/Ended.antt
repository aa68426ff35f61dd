-- Commit: what a run that is over answers, and 15 and 2 before it. Assumes nothing.
use Rattle.std.specs.Prelude.{Option, Some, None, Result, Ok, Err}
use mathlib.Core.Path.{◌≡◌, refl, sym, ap, ◌∙◌, subst}
use mathlib.Core.Bool.{Bool, true, false, not}
use mathlib.Core.List.{List, [], ◌∷◌}
use Prim.Native.Nat.{ℕ, ◌≤◌, ◌<◌}
use Rattle.model.specs.declared.Refusal.{Refusal}
use Rattle.model.specs.declared.Refusal.TheVariants.{Malformed, WrongState}
use Rattle.model.specs.Store.{Store, is_prepared}
use Rattle.model.specs.Commit.{Run, released, committing}
use Rattle.model.specs.Demand3.{by}
use Rattle.model.specs.Reply.Call.{commit}
use Rattle.model.specs.Reply.Reply.{refused}
use Rattle.model.specs.Calls.{ended, committed, step}
use Rattle.model.specs.Numbers.{answer, answer_of}
use Rattle.model.proofs.Commits.{commit_runs, commit_refuses}
use Rattle.region.specs.Region.{mode_byte, view, good, Became}
use Rattle.region.proofs.Read.{is_prepared_lem, not_prepared}
use Rattle.region.proofs.Decode.{became_image}
use Rattle.answers.specs.declared.Verdict.{Verdict}
use Rattle.answers.specs.Answers.{answer_by}
use Rattle.answers.proofs.Apart.{ends}
use Rattle.calls.specs.Call.{reply_to, Replied}
use Rattle.calls.proofs.Replies.{refuses, replies, says_no}
use Rattle.committing.specs.declared.Halt.{Halt}
use Rattle.committing.specs.declared.Halt.TheVariants.{NoCommitter, UsedUp}
use Rattle.committing.specs.declared.Ran.{Ran}
use Rattle.committing.specs.Running.{stop_of, halt_number, RanOut}

-- ---- the report

pub reports_done : (h : Option Halt) (m : ℕ) (v : Verdict) → h ≡ None → answer_by v ≡ answer 0 (m ∷ []) → answer_by v ≡ answer (halt_number h) (m ∷ [])
reports_done h m v e a = rw e a

module _ (h : Option Halt) (m : ℕ) (v : Verdict) (why : Halt) (is : h ≡ Some why) where
  pub reports_unsigned : why ≡ NoCommitter → answer_by v ≡ answer 16 (m ∷ []) → answer_by v ≡ answer (halt_number h) (m ∷ [])
  reports_unsigned e a = rw (is, e) a

  pub reports_used : why ≡ UsedUp → answer_by v ≡ answer 17 (m ∷ []) → answer_by v ≡ answer (halt_number h) (m ∷ [])
  reports_used e a = rw (is, e) a

-- a run that is over, with its locks freed
over : (h : Option Halt) (z : Run) (r r' : List ℕ) (v : Verdict) → answer_by v ≡ answer (halt_number h) (z.made ∷ []) → Became r' (released z.store) → Replied (Ok v) r r' (ended z (stop_of h))
unfolding answer_of
over None z r r' v a b = record { answer = a; apart = ends v _ refl a; region = became_image r' _ b }
over (Some NoCommitter) z r r' v a b = record { answer = a; apart = ends v _ refl a; region = became_image r' _ b }
over (Some UsedUp) z r r' v a b = record { answer = a; apart = ends v _ refl a; region = became_image r' _ b }

pub commit_over : (c k : ℕ) (r r₁ r₂ : List ℕ) (a : Ran) (v : Verdict) → c ≤ 65535 → is_prepared (view r).prepared ≡ true
    → RanOut (committing (by c) k (view r)) a r₁ → Became r₂ (released (view r₁)) → answer_by v ≡ answer (halt_number a.stop) (a.made ∷ [])
    → Replied (Ok v) r r₂ (step (commit c k) (view r))
commit_over c k r r₁ r₂ a v small p o b e =
    let z : Run = record { store = view r₁; made = a.made; stop = stop_of a.stop } in
    subst (Replied (Ok v) r r₂) (ap (λ (z : Run). ended z z.stop) o.run ∙ sym (commit_runs (view r) p c k small))
    (over a.stop z r r₂ v e b)

-- ---- 15, then 2

idle_commit : (c k : ℕ) (s : Store) → s.prepared ≡ None → step (commit c k) s ≡ refused WrongState
unfolding step committed
idle_commit c k s e = rw e

pub busy : (r : List ℕ) (m : ℕ) → m ≡ mode_byte (view r).prepared → (m ≡ 0 → ⊥) → is_prepared (view r).prepared ≡ true
busy r m em h = is_prepared_lem (view r).prepared (λ (q : mode_byte (view r).prepared ≡ 0). h (em ∙ q))

module _ (c k : ℕ) (r : List ℕ) where
  pub commit_stranger : is_prepared (view r).prepared ≡ true → 65535 < c → Replied (Err Malformed) r r (step (commit c k) (view r))
  commit_stranger p l = refuses (step (commit c k) (view r)) r Malformed (commit_refuses (view r) p c k l)

  pub commit_signed : (c' : ℕ) (r' : List ℕ) (v : Result Verdict Refusal) → c' ≡ c → Replied v r r' (step (commit c' k) (view r)) → Replied v r r' (step (commit c k) (view r))
  commit_signed c' r' v e w = subst (λ (c : ℕ). Replied v r r' (step (commit c k) (view r))) e w

  module _ (ok : Bool) (is : ok ≡ good r) (y : not ok ≡ false) where
    pub commit_idle : (m : ℕ) → m ≡ mode_byte (view r).prepared → m ≡ 0 → Replied (Err WrongState) r r (reply_to (commit c k) r)
    commit_idle m em z =
        says_no (commit c k) r ok is refl y WrongState (idle_commit c k (view r) (not_prepared (view r).prepared (sym em ∙ z)))

    pub commit_done : (r' : List ℕ) (v : Result Verdict Refusal) → Replied v r r' (step (commit c k) (view r)) → Replied v r r' (reply_to (commit c k) r)
    commit_done r' v w = subst (Replied v r r') (sym (replies (commit c k) r ok is refl y)) w
