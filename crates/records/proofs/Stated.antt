-- What specs/Stated.antt states, proved. Assumes nothing.
use Rattle.std.specs.Prelude.{Result, Ok, Err}
use Rattle.model.specs.declared.Refusal.{Refusal}
use mathlib.Core.Path.{◌≡◌, refl, ap, ◌∙◌}
use mathlib.Core.Bool.{Bool, true, false, cond}
use mathlib.Core.List.{List, [], ◌∷◌, ◌++◌}
use Prim.Native.Nat.{ℕ}
use native.Mathlib.Omega.{arith}
use lib.ListN.{length, drop}
use lib.Dec.{eqb, leb}
use borrow.Author.Tests.{lt-ltb}
use Rattle.model.specs.declared.Refusal.TheVariants.{NothingThere, ShortBuffer}
use Rattle.model.specs.Numbers.{answer, refusal_answer}
use Rattle.settings.specs.Format.{Settings}
use Rattle.settings.specs.Lent.{committer_at, name_at, write_given, fitted, afterwards}
use Rattle.settings.proofs.Stated.{name_stands}
use Rattle.answers.specs.Answers.{record_of}
use Rattle.calls.specs.Call.{Out, untouched, Kept, kept_out}
use Rattle.calls.proofs.Exports.{refusal_number, only}
use Rattle.records.specs.Record.{RecordCall, committer_answer, write_answer, kept, record_call, stretch, committer_part}
use Rattle.records.specs.Record.RecordCall.{read_settings, read_committer, write_settings}
use Rattle.records.specs.Stated.{RecordUnchanged, WriteKeeps, PartIsName}

-- the answer record's size decides
abbrev chosen : Bool → Kept → List ℕ → List ℕ → Out
chosen t k b a = cond t (kept_out k) (untouched a (b ∷ []))

-- what a write of `o` leaves
abbrev wrote : List ℕ → Result (List ℕ) Refusal → Kept
wrote b o = record { answer = write_answer o; buffer = afterwards b o }

pub record_unchanged : RecordUnchanged
unfolding record_call kept
record_unchanged c b a n a' lent d not_done = go c (eqb (length a) 128) d.code d.lent
  where
    write : (t : Bool) (o : Result (List ℕ) Refusal) → n ≡ (chosen t (wrote b o) b a).code → lent ≡ (chosen t (wrote b o) b a).lent → lent ≡ b ∷ []
    write false o e f = f
    write true (Err x) e f = f
    write true (Ok r) e f = absurd (not_done e)

    go : (c : RecordCall) (t : Bool) → n ≡ (chosen t (kept c b) b a).code → lent ≡ (chosen t (kept c b) b a).lent → lent ≡ b ∷ []
    go c false e f = f
    go (read_settings known) true e f = f
    go (read_committer known i) true e f = f
    go (write_settings v given) true e f = write true (fitted b (write_given v given)) e f

pub write_keeps : WriteKeeps
unfolding record_call kept
write_keeps v given b a a' b' d = size (eqb (length a) 128) d.code d.answer d.lent
  where
    o : Result (List ℕ) Refusal
    o = write_given v given

    Left : Type 0
    Left = (r : List ℕ) × (o ≡ Ok r) × (b' ≡ r ++ drop (length r) b) × (a' ≡ record_of (answer 0 (length r ∷ [])).places)

    fits : (w : Result (List ℕ) Refusal) → o ≡ w → (t : Bool) (r : List ℕ) → w ≡ Ok r
        → 0 ≡ (chosen true (wrote b (cond t (Ok r) (Err ShortBuffer))) b a).code
        → a' ≡ (chosen true (wrote b (cond t (Ok r) (Err ShortBuffer))) b a).answer
        → b' ∷ [] ≡ (chosen true (wrote b (cond t (Ok r) (Err ShortBuffer))) b a).lent
        → Left
    fits w p true r q e f g = (r, p ∙ q, only b' (r ++ drop (length r) b) g, f)
    fits w p false r q e f g = absurd (refusal_number ShortBuffer e)

    go : (w : Result (List ℕ) Refusal) → o ≡ w → 0 ≡ (chosen true (wrote b (fitted b w)) b a).code → a' ≡ (chosen true (wrote b (fitted b w)) b a).answer
        → b' ∷ [] ≡ (chosen true (wrote b (fitted b w)) b a).lent → Left
    go (Err x) p e f g = absurd (refusal_number x e)
    go (Ok r) p e f g = fits (Ok r) p (leb (length r) (length b)) r refl e f g

    size : (t : Bool) → 0 ≡ (chosen t (wrote b (fitted b o)) b a).code → a' ≡ (chosen t (wrote b (fitted b o)) b a).answer
        → b' ∷ [] ≡ (chosen t (wrote b (fitted b o)) b a).lent → Left
    size false e f g = absurd (omega arith)
    size true e f g = go o refl e f g

pub part_is_name : PartIsName
unfolding committer_part kept
part_is_name known b s i e h =
    ap (λ (w : Result Settings Refusal). stretch (committer_answer i w).places b) e
    ∙ ap (λ (t : Bool). stretch (cond t (answer 0 ((committer_at s i).number ∷ name_at i s ∷ length (committer_at s i).name ∷ [])) (refusal_answer NothingThere)).places b)
    (lt-ltb i (length s.committers) h)
    ∙ name_stands known b s i e h
