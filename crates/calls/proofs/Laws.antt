-- Start, with a setting and with a record, and rollback: what each of their ways out answers. Assumes nothing.
use Rattle.std.specs.Prelude.{Option, Some, None, Result, Ok, Err}
use mathlib.Core.Path.{◌≡◌, refl, sym, ap, subst, ◌∙◌}
use mathlib.Core.Bool.{Bool, true, false, not}
use mathlib.Core.List.{List, [], ◌∷◌}
use Prim.Native.Nat.{ℕ}
use lib.ListN.{length}
use borrow.Author.Tests.{eq-eqb, ne_eqb}
use Rattle.model.specs.declared.WriteReflog.{WriteReflog}
use Rattle.model.specs.declared.WriteReflog.TheVariants.{Disable}
use Rattle.model.specs.declared.Refusal.{Refusal}
use Rattle.model.specs.declared.Refusal.TheVariants.{BadRegion, Malformed}
use Rattle.model.specs.Store.{empty, rows_in}
use Rattle.model.specs.Commit.{released}
use Rattle.model.specs.Reply.{Reply}
use Rattle.model.specs.Reply.Reply.{refused}
use Rattle.model.specs.Reply.Call.{start, rollback}
use Rattle.model.specs.Reply.Given.{number}
use Rattle.model.specs.Calls.{step, rolled_back}
use Rattle.model.specs.Load.{setting_of, started}
use Rattle.model.specs.Numbers.{answer, answer_of}
use Rattle.model.proofs.Binds.{refuse_pass, refuse_is, pass_is}
use Rattle.reader.specs.declared.Summary.{Summary}
use Rattle.settings.specs.Format.{Settings, read}
use Rattle.reader.specs.Reading.{told}
use Rattle.region.specs.Layout.{region_size}
use Rattle.region.specs.Region.{image, view, good, Became}
use Rattle.answers.specs.declared.Verdict.{Verdict}
use Rattle.answers.specs.Answers.{answer_by}
use Rattle.answers.proofs.Apart.{ends}
use Rattle.calls.specs.Call.{start_from, reply_to, reply_to_record, Replied}
use Rattle.calls.proofs.Replies.{refuses, bad_region, says_done}

-- ---- start

module _ (k : ℕ) (r : List ℕ) where
  pub start_size : (length r ≡ region_size → ⊥) → Replied (Err BadRegion) r r (reply_to (start k) r)
  unfolding reply_to
  start_size h = refuses (reply_to (start k) r) r BadRegion (rw (ne_eqb (length r) region_size h))

  module _ (e : length r ≡ region_size) (o : Option WriteReflog) (is : o ≡ setting_of k) where
    starts : reply_to (start k) r ≡ started k
    unfolding reply_to step
    starts = rw (eq-eqb (length r) region_size e)

    pub start_malformed : o ≡ None → Replied (Err Malformed) r r (reply_to (start k) r)
    unfolding started
    start_malformed h = refuses (reply_to (start k) r) r Malformed (starts ∙ (rw (← is, h)))

    pub start_done : (v : Verdict) (s : WriteReflog) (r' : List ℕ) → o ≡ Some s → r' ≡ image (empty s) → answer_by v ≡ answer 0 []
        → Replied (Ok v) r r' (reply_to (start k) r)
    unfolding started answer_of
    start_done v s r' h i a = rw (starts, ← is, h) (record { answer = a; apart = ends v _ refl a; region = i })

-- ---- start with a record

module _ (bytes r : List ℕ) where
  pub record_size : (length r ≡ region_size → ⊥) → Replied (Err BadRegion) r r (reply_to_record bytes r)
  unfolding reply_to_record
  record_size h = refuses (reply_to_record bytes r) r BadRegion (rw (ne_eqb (length r) region_size h) (no_store (read 2 bytes)))
    where
      no_store : (o : Result Settings Refusal) → start_from o None ≡ refused BadRegion
      no_store (Err x) = refl
      no_store (Ok s) = refl

  module _ (e : length r ≡ region_size) (o : Result Summary Refusal) (is : o ≡ told (read 2 bytes)) where
    starts_from : reply_to_record bytes r ≡ start_from (read 2 bytes) (Some (empty Disable))
    unfolding reply_to_record
    starts_from = rw (eq-eqb (length r) region_size e)

    -- what is refused in the record is refused by start
    pub record_refused : (x : Refusal) → o ≡ Err x → Replied (Err x) r r (reply_to_record bytes r)
    record_refused x h = refuses (reply_to_record bytes r) r x (starts_from ∙ go (read 2 bytes) (sym is ∙ h))
      where
        go : (w : Result Settings Refusal) → told w ≡ Err x → start_from w (Some (empty Disable)) ≡ refused x
        go (Err y) f = ap refused (refuse_is f)
        go (Ok s) f = absurd (refuse_pass (sym f))

    sized_reply : (k : ℕ) → reply_to (start k) r ≡ step (start k) (empty Disable)
    unfolding reply_to
    sized_reply k = rw (eq-eqb (length r) region_size e)

    -- a record that is read starts with its log setting
    pub record_starts : (v : Result Verdict Refusal) (s : Summary) (r' : List ℕ) → o ≡ Ok s → Replied v r r' (reply_to (start s.log) r)
        → Replied v r r' (reply_to_record bytes r)
    record_starts v s r' h d = subst (λ (reply : Reply). Replied v r r' reply) (sym (starts_from ∙ go (read 2 bytes) (sym is ∙ h))) d
      where
        go : (w : Result Settings Refusal) → told w ≡ Ok s → start_from w (Some (empty Disable)) ≡ reply_to (start s.log) r
        go (Err y) f = absurd (refuse_pass f)
        go (Ok t) f = ap (λ (x : Summary). step (start x.log) (empty Disable)) (pass_is f) ∙ sym (sized_reply s.log)

-- ---- rollback

pub rollback_bad : (r : List ℕ) (ok : Bool) → ok ≡ good r → not ok ≡ true → Replied (Err BadRegion) r r (reply_to rollback r)
rollback_bad r ok is n = bad_region rollback r ok is refl n

pub rollback_done : (r r' : List ℕ) (ok : Bool) (k : ℕ) (v : Verdict) → ok ≡ good r → not ok ≡ false → k ≡ length (rows_in (view r).prepared)
    → Became r' (released (view r)) → answer_by v ≡ answer 0 (k ∷ []) → Replied (Ok v) r r' (reply_to rollback r)
unfolding step rolled_back
rollback_done r r' ok k v is y e b a =
    says_done rollback r ok is refl y v (released (view r)) (number _) r' refl (a ∙ ap (λ (k : ℕ). answer 0 (k ∷ [])) e) b
