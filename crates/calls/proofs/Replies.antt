-- The ways in which a call can answer, one law for each, whatever the call. Assumes nothing.
use Rattle.std.specs.Prelude.{Option, Some, None, Result, Ok, Err, ok_or}
use Rattle.std.specs.Result.{IsErrAnd, result_ok}
use Rattle.std.proofs.lemmas.Result.{err_from_is_err_and}
use mathlib.Core.Path.{◌≡◌, refl, sym, ap, subst, ◌∙◌}
use mathlib.Core.Bool.{Bool, true, false, not, cond}
use mathlib.Core.List.{List}
use Prim.Native.Nat.{ℕ}
use borrow.Author.Tests.{not-true, not-false}
use Rattle.model.specs.declared.Refusal.{Refusal}
use Rattle.model.specs.declared.Refusal.TheVariants.{BadRegion}
use Rattle.model.specs.Store.{Store}
use Rattle.model.specs.Fine.{Fine}
use Rattle.model.specs.Reply.{Call, Reply, Given}
use Rattle.model.specs.Reply.Reply.{done, refused}
use Rattle.model.specs.Calls.{step}
use Rattle.model.specs.Numbers.{answer, answer_of, given_places, refusal_answer}
use Rattle.model.proofs.Binds.{refuse_pass, refuse_is}
use Rattle.region.specs.Region.{view, decode, good, name_offset, Laid, Became}
use Rattle.region.proofs.Decode.{decode_good, decode_bad, good_parts, laid, laid_image, became_image}
use Rattle.answers.specs.declared.Verdict.{Verdict}
use Rattle.answers.specs.Answers.{answer_by, answered, is_apart}
use Rattle.answers.proofs.Apart.{one_result, ends}
use Rattle.calls.specs.Call.{sized, is_start, found, step_on, reply_to, Replied}

-- a good region is laid out so
pub good_laid : (r : List ℕ) (ok : Bool) → ok ≡ good r → not ok ≡ false → Laid r
good_laid r ok is y = laid r (good_parts r (sym is ∙ not-false ok y)).0

-- and obeys the rules
pub good_fine : (r : List ℕ) (ok : Bool) → ok ≡ good r → not ok ≡ false → Fine (view r)
good_fine r ok is y = (good_parts r (sym is ∙ not-false ok y)).1

-- ---- the ways to answer

-- a refusal, with the region as it is
pub refuses : (reply : Reply) (r : List ℕ) (x : Refusal) → reply ≡ refused x → Replied (Err x) r r reply
unfolding answer_of
refuses reply r x e = rw e (record { answer = refl; apart = refl; region = refl })

module _ (c : Call) (r : List ℕ) (ok : Bool) (is : ok ≡ good r) (looks : is_start c ≡ false) where
  finds : found c r ≡ decode r
  finds = ap (λ (b : Bool). cond b (sized r) (decode r)) looks

  pub bad_region : not ok ≡ true → Replied (Err BadRegion) r r (reply_to c r)
  unfolding reply_to
  bad_region n = refuses (reply_to c r) r BadRegion (ap (step_on c) (finds ∙ decode_bad r (sym is ∙ not-true ok n)))

  module _ (y : not ok ≡ false) where
    pub replies : reply_to c r ≡ step c (view r)
    unfolding reply_to
    replies = ap (step_on c) (finds ∙ decode_good r (sym is ∙ not-false ok y))

    pub says_no : (x : Refusal) → step c (view r) ≡ refused x → Replied (Err x) r r (reply_to c r)
    says_no x e = refuses (reply_to c r) r x (replies ∙ e)

    -- done, and the region became that of the new store
    pub says_done : (v : Verdict) (s : Store) (g : Given) (r' : List ℕ) → step c (view r) ≡ done s g
        → answer_by v ≡ answer 0 (given_places name_offset s g) → Became r' s → Replied (Ok v) r r' (reply_to c r)
    unfolding answer_of
    says_done v s g r' e a b = rw (replies, e) (record { answer = a; apart = ends v _ refl a; region = became_image r' s b })

    -- done, and the store is as it was
    pub says_read : (v : Verdict) (g : Given) → step c (view r) ≡ done (view r) g
        → answer_by v ≡ answer 0 (given_places name_offset (view r) g) → Replied (Ok v) r r (reply_to c r)
    unfolding answer_of
    says_read v g e a = rw (replies, e) (record { answer = a; apart = ends v _ refl a; region = (laid_image r (good_laid r ok is y)).0 })

-- ---- the ways out by `?`

-- what `ok_or` is given is there where it gives a value
pub some_or : {A E : Type 0} {o : Option A} {w : Result A E} {a : A} → o ≡ result_ok w → w ≡ Ok a → o ≡ Some a
some_or e h = e ∙ ap result_ok h

-- what `?` gives of a refusal is that refusal
pub handed : {B : Type 0} {x : Refusal} (v : Result B Refusal) → IsErrAnd v (λ (e : Refusal). e ≡ x) → v ≡ Err x
handed v u = let p = err_from_is_err_and v u in p.1 ∙ ap Err p.2

-- so a callee's refusal is the call's
pub handed_up : {x : Refusal} {v : Result Verdict Refusal} {r r' : List ℕ} {reply : Reply} → IsErrAnd v (λ (e : Refusal). e ≡ x) → Replied (Err x) r r' reply
    → Replied v r r' reply
handed_up {v = v} {r = r} {r' = r'} {reply = reply} u d = subst (λ (v : Result Verdict Refusal). Replied v r r' reply) (sym (handed v u)) d

-- any result that answers as a refusal does is that refusal, so what is answered by the one is answered by the other
pub refuses_as : {x : Refusal} {v : Result Verdict Refusal} {r r' : List ℕ} {reply : Reply} → is_apart v ≡ true → answered v ≡ refusal_answer x
    → Replied (Err x) r r' reply → Replied v r r' reply
refuses_as {x = x} {v = v} {r = r} {r' = r'} {reply = reply} p a d =
    subst (λ (v : Result Verdict Refusal). Replied v r r' reply) (sym (one_result v (Err x) p refl a)) d

-- and so is the one that `ok_or` gives where nothing is there
module _ {A : Type 0} {o : Option A} {w : Result A Refusal} {x y : Refusal} (e : w ≡ ok_or o x) (h : w ≡ Err y) where
  pub nothing : (o ≡ None) × (y ≡ x)
  nothing = go o refl
    where
      go : (q : Option A) → o ≡ q → (o ≡ None) × (y ≡ x)
      go None p = (p, refuse_is (sym h ∙ e ∙ ap (λ (q : Option A). ok_or q x) p))
      go (Some a) p = absurd (refuse_pass (sym h ∙ e ∙ ap (λ (q : Option A). ok_or q x) p))

  pub nothing_or : {v : Result Verdict Refusal} {r r' : List ℕ} {reply : Reply} → IsErrAnd v (λ (e : Refusal). e ≡ y) → (o ≡ None → Replied (Err x) r r' reply)
      → Replied v r r' reply
  nothing_or {r = r} {r' = r'} {reply = reply} u d = handed_up u (subst (λ (y : Refusal). Replied (Err y) r r' reply) (sym nothing.1) (d nothing.0))
