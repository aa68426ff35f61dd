-- What specs/Stated.antt states, proved. Assumes nothing.
use Rattle.std.specs.Prelude.{Result, Ok, Err}
use mathlib.Core.Path.{◌≡◌, refl, sym, ap, subst, ◌∙◌}
use mathlib.Core.Bool.{Bool, true, false, cond, false≢true}
use mathlib.Core.List.{List, [], ◌∷◌, ◌++◌, append_assoc, append-nil}
use Prim.Native.Nat.{ℕ, ◌+◌, ◌≤◌, ◌<◌}
use native.Mathlib.Omega.{arith}
use lib.ListN.{length, replicate, length-append}
use lib.Dec.{eqb, ltb}
use borrow.Author.Tests.{eq-eqb, ne_eqb, ltb-true, ltb-false}
use Rattle.word.specs.Cut.{flat}
use Rattle.model.specs.declared.Refusal.{Refusal}
use Rattle.model.specs.declared.Refusal.TheVariants.{BadRegion, ReceiverFull}
use Rattle.model.specs.Reply.{Reply}
use Rattle.model.specs.Reply.Call.{prepare}
use Rattle.model.specs.Numbers.{answer, answer_of, refusal_answer}
use Rattle.model.proofs.Binds.{refuse_pass, refuse_is, pass_is}
use Rattle.answers.specs.Answers.{record_of}
use Rattle.receiver.specs.Receiver.{capacity, receiver_size, holding, fresh, held, is_receiver, freshened, taken, closing, closed}
use Rattle.receiver.proofs.Image.{held_holding, is_receiver_lem, good_size, good_image, good_room}
use Rattle.calls.specs.Call.{reply_to, reply_or, reply_to_closing, region_after, Out, out_of, untouched, call, beside, close_call, kept_out, Did}
use Rattle.calls.proofs.Exports.{refusal_number, only}
use Rattle.receiving.specs.Fragments.{ReceiverCall, receiver_of, kept_as, received, receiver_call}
use Rattle.receiving.specs.Fragments.ReceiverCall.{fresh_receiver, take_fragment}
use Rattle.receiving.specs.Stated.{Received, Holds, GoodExactly, ClosesAsPrepare, TakesExactly, ReceiverUnchanged, ReceiverRefused, FreshFollows, RecordRefused}
use Rattle.receiving.specs.Stated.Received.{begun, took, left, closed as shut, spared}
use Rattle.receiving.proofs.Laws.{taken_bad, taken_full, taken_done}

-- ---- a call on a receiver alone

-- the answer record's size decides
abbrev chosen : Bool → ReceiverCall → Result (List ℕ) Refusal → List ℕ → List ℕ → Out
chosen t c o b a = cond t (kept_out (kept_as c o b)) (untouched a (b ∷ []))

pub receiver_unchanged : ReceiverUnchanged
unfolding receiver_call received
receiver_unchanged c b a n a' lent d not_done = go (eqb (length a) 128) (receiver_of c b) d.code d.lent
  where
    go : (t : Bool) (o : Result (List ℕ) Refusal) → n ≡ (chosen t c o b a).code → lent ≡ (chosen t c o b a).lent → lent ≡ b ∷ []
    go false o e f = f
    go true (Err x) e f = f
    go true (Ok b') e f = absurd (not_done e)

-- one that is done leaves what it comes to
done_leaves : (c : ReceiverCall) (b a a' b' : List ℕ) → Did (receiver_call c b a) 0 a' (b' ∷ []) → receiver_of c b ≡ Ok b'
unfolding receiver_call received
done_leaves c b a a' b' d = go (eqb (length a) 128) (receiver_of c b) d.code d.lent
  where
    go : (t : Bool) (o : Result (List ℕ) Refusal) → 0 ≡ (chosen t c o b a).code → b' ∷ [] ≡ (chosen t c o b a).lent → o ≡ Ok b'
    go false o e f = absurd (omega arith)
    go true (Err x) e f = absurd (refusal_number x e)
    go true (Ok b'') e f = ap Ok (sym (only b' b'' f))

-- with a record of 128 bytes it does what it comes to
does : (c : ReceiverCall) (b a : List ℕ) (o : Result (List ℕ) Refusal) → length a ≡ 128 → receiver_of c b ≡ o → receiver_call c b a ≡ kept_out (kept_as c o b)
unfolding receiver_call received
does c b a o l e = rw (eq-eqb (length a) 128 l, e)

fresh_comes : (b b' : List ℕ) → receiver_of fresh_receiver b ≡ Ok b' → b' ≡ fresh
unfolding receiver_of freshened
fresh_comes b b' e = go (eqb (length b) receiver_size) e
  where
    go : (t : Bool) → cond t (Ok fresh) (Err BadRegion) ≡ Ok b' → b' ≡ fresh
    go true e = sym (pass_is e)
    go false e = absurd (refuse_pass e)

take_comes : (f b b' : List ℕ) → is_receiver b ≡ true → receiver_of (take_fragment f) b ≡ Ok b'
    → (length (held b) + length f ≤ capacity) × (b' ≡ holding (held b ++ f))
unfolding receiver_of
take_comes f b b' good e = go (ltb capacity (length (held b) + length f)) refl
  where
    go : (t : Bool) → ltb capacity (length (held b) + length f) ≡ t → (length (held b) + length f ≤ capacity) × (b' ≡ holding (held b ++ f))
    go false p =
        let h : length (held b) + length f ≤ capacity = ltb-false capacity (length (held b) + length f) p in
        (h, pass_is (sym e ∙ taken_done f b good h))
    go true p = absurd (refuse_pass (sym (taken_full f b good (ltb-true capacity (length (held b) + length f) p)) ∙ e))

-- ---- closing

-- a good receiver, and a record of 128 bytes: what prepare gives on what is held, and a fresh receiver
closes : (mode : ℕ) (r b a : List ℕ) → is_receiver b ≡ true → length a ≡ 128
    → close_call mode r b a ≡ beside (call (prepare (held b) mode) r a) fresh
unfolding close_call call reply_to_closing closing closed
closes mode r b a good l = rw (eq-eqb (length a) 128 l, good)

pub fresh_follows : FreshFollows
unfolding call out_of
fresh_follows mode r b a n a' lent good l d = (
  region_after reply r,
  d.lent ∙ ap (λ (o : Out). o.lent) e ∙ ap (λ (o : Out). o.lent ++ (fresh ∷ [])) called,
  record { code = d.code ∙ ap (λ (o : Out). o.code) e; answer = d.answer ∙ ap (λ (o : Out). o.answer) e; lent = sym (ap (λ (o : Out). o.lent) called) },
)
  where
    reply : Reply
    reply = reply_to (prepare (held b) mode) r

    e : close_call mode r b a ≡ beside (call (prepare (held b) mode) r a) fresh
    e = closes mode r b a good l

    called : call (prepare (held b) mode) r a ≡ out_of reply r
    called = rw (eq-eqb (length a) 128 l)

pub record_refused : RecordRefused
unfolding close_call
record_refused mode r b a n a' lent h d = go (eqb (length a) 128) (ne_eqb (length a) 128 h) d.code d.answer d.lent
  where
    o : Out
    o = beside (out_of (reply_to_closing b mode r) r) (closed b)

    go : (t : Bool) → t ≡ false → n ≡ (cond t o (untouched a (r ∷ b ∷ []))).code → a' ≡ (cond t o (untouched a (r ∷ b ∷ []))).answer
        → lent ≡ (cond t o (untouched a (r ∷ b ∷ []))).lent → (n ≡ 1) × (a' ≡ a) × (lent ≡ r ∷ b ∷ [])
    go false p e f g = (e, f, g)
    go true p e f g = absurd (false≢true (sym p))

-- ---- a receiver that is not good

bad_fragment : (b f a : List ℕ) (n : ℕ) (a' : List ℕ) (lent : List (List ℕ)) → is_receiver b ≡ false → Did (receiver_call (take_fragment f) b a) n a' lent
    → (n ≡ 1) × (lent ≡ b ∷ [])
unfolding receiver_call received receiver_of refusal_answer
bad_fragment b f a n a' lent bad d = go (eqb (length a) 128) (taken f b) (taken_bad f b bad) d.code d.lent
  where
    go : (t : Bool) (o : Result (List ℕ) Refusal) → o ≡ Err BadRegion → n ≡ (chosen t (take_fragment f) o b a).code → lent ≡ (chosen t (take_fragment f) o b a).lent
        → (n ≡ 1) × (lent ≡ b ∷ [])
    go false o p e g = (e, g)
    go true (Err x) p e g = (e ∙ ap (λ (x : Refusal). (refusal_answer x).number) (refuse_is p), g)
    go true (Ok b') p e g = absurd (refuse_pass (sym p))

bad_closing : (b : List ℕ) (mode : ℕ) (r a : List ℕ) (n : ℕ) (a' : List ℕ) (lent : List (List ℕ)) → is_receiver b ≡ false → Did (close_call mode r b a) n a' lent
    → (n ≡ 1) × (lent ≡ r ∷ b ∷ [])
unfolding close_call out_of answer_of refusal_answer reply_to_closing closing closed
bad_closing b mode r a n a' lent bad d = go (eqb (length a) 128) (is_receiver b) bad d.code d.lent
  where
    o : Bool → Out
    o t = beside (out_of (reply_or (cond t (Ok (prepare (held b) mode)) (Err BadRegion)) r) r) (cond t fresh b)

    go : (t good : Bool) → good ≡ false → n ≡ (cond t (o good) (untouched a (r ∷ b ∷ []))).code
        → lent ≡ (cond t (o good) (untouched a (r ∷ b ∷ []))).lent → (n ≡ 1) × (lent ≡ r ∷ b ∷ [])
    go false good p e g = (e, g)
    go true false p e g = (e, g)
    go true true p e g = absurd (false≢true (sym p))

pub receiver_refused : ReceiverRefused
receiver_refused b bad = (
  λ f a n a' lent d. bad_fragment b f a n a' lent bad d,
  λ mode r a n a' lent d. bad_closing b mode r a n a' lent bad d,
)

-- ---- what accepted fragments leave

flat_snoc : (fs : List (List ℕ)) (f : List ℕ) → flat (fs ++ (f ∷ [])) ≡ flat fs ++ f
unfolding flat
flat_snoc [] f = append-nil f
flat_snoc (x ∷ fs) f = ap (λ (l : List ℕ). x ++ l) (flat_snoc fs f) ∙ sym (append_assoc x (flat fs) f)

second : (r r' b b' : List ℕ) → r ∷ b ∷ [] ≡ r' ∷ b' ∷ [] → b ≡ b'
second r r' b b' e = cc

-- of an image: it is good, and what it holds is seen
module _ (b xs : List ℕ) (is : (b ≡ holding xs) × (length xs ≤ capacity)) where
  image_good : is_receiver b ≡ true
  image_good = ap is_receiver is.0 ∙ is_receiver_lem xs is.1

  image_held : held b ≡ xs
  image_held = ap held is.0 ∙ held_holding xs is.1

pub holds : Holds
unfolding flat
holds _ b (begun b₀ a a' _ d) = (fresh_comes b₀ b (done_leaves fresh_receiver b₀ a a' b d), omega arith)
holds _ b (took {fs = fs} {b = b₀} was f a a' _ d) =
    let before = holds fs b₀ was in
    let is : held b₀ ≡ flat fs = image_held b₀ (flat fs) before in
    let then = take_comes f b₀ b (image_good b₀ (flat fs) before) (done_leaves (take_fragment f) b₀ a a' b d) in (
      then.1 ∙ ap (λ (l : List ℕ). holding (l ++ f)) is ∙ ap holding (sym (flat_snoc fs f)),
      rw (flat_snoc fs f, length-append, ← is) then.0,
    )
holds fs b (left {b = b₀} was c n a a' _ d not_done) =
    rw (only b b₀ (receiver_unchanged c b₀ a n a' (b ∷ []) d not_done)) (holds fs b₀ was)
holds _ b (shut {fs = fs} {b = b₀} was mode n r a a' r' _ d l) =
    let x = fresh_follows mode r b₀ a n a' (r' ∷ b ∷ []) (image_good b₀ (flat fs) (holds fs b₀ was)) l d in
    (second r' x.0 b fresh x.1, omega arith)
holds fs b (spared {b = b₀} was mode n r a a' r' _ d other) =
    rw (second r' r b b₀ (record_refused mode r b₀ a n a' (r' ∷ b ∷ []) other d).2) (holds fs b₀ was)

-- what a call comes to with a record of 128 bytes is what it does
comes_did : (c : ReceiverCall) (b a : List ℕ) (o : Result (List ℕ) Refusal) → length a ≡ 128 → receiver_of c b ≡ o
    → Did (receiver_call c b a) (kept_as c o b).answer.number (record_of (kept_as c o b).answer.places) ((kept_as c o b).buffer ∷ [])
comes_did c b a o l e = rw (does c b a o l e) (record { code = refl; answer = refl; lent = refl })

pub good_exactly : GoodExactly
unfolding receiver_of freshened
good_exactly b = (λ good. (held b ∷ [], took (from good) (held b) zeros _ b (whole good)), λ fs was. image_good b (flat fs) (holds fs b was))
  where
    zeros : List ℕ
    zeros = replicate 128 0

    from : is_receiver b ≡ true → Received [] fresh
    from good = begun b zeros _ fresh (comes_did fresh_receiver b zeros (Ok fresh) refl (rw (eq-eqb (length b) receiver_size (good_size b good))))

    whole : (good : is_receiver b ≡ true) → Did (receiver_call (take_fragment (held b)) fresh zeros) 0 (record_of (answer 0 (length (held b) ∷ [])).places) (b ∷ [])
    whole good = comes_did (take_fragment (held b)) fresh zeros (Ok b) refl whole_comes
      where
        none : (fresh ≡ holding []) × (length {A = ℕ} [] ≤ capacity)
        none = (refl, omega arith)

        nothing : held fresh ≡ []
        nothing = image_held fresh [] none

        room : length (held fresh) + length (held b) ≤ capacity
        room =
            let z : length (held fresh) ≡ 0 = ap length nothing in
            let h : length (held b) ≤ capacity = good_room b good in
            omega arith

        whole_comes : receiver_of (take_fragment (held b)) fresh ≡ Ok b
        whole_comes =
            taken_done (held b) fresh (image_good fresh [] none) room
            ∙ ap (λ (l : List ℕ). Ok (holding (l ++ held b))) nothing
            ∙ ap Ok (sym (good_image b good))

-- ---- closing them, and one more

pub closes_as_prepare : ClosesAsPrepare
closes_as_prepare fs b was mode r a l =
    let is = holds fs b was in
    closes mode r b a (image_good b (flat fs) is) l
    ∙ ap (λ (list : List ℕ). beside (call (prepare list mode) r a) fresh) (image_held b (flat fs) is)

pub takes_exactly : TakesExactly
unfolding receiver_of refusal_answer
takes_exactly fs b was f a l = (fits, full)
  where
    is : (b ≡ holding (flat fs)) × (length (flat fs) ≤ capacity)
    is = holds fs b was

    good : is_receiver b ≡ true
    good = image_good b (flat fs) is

    seen : held b ≡ flat fs
    seen = image_held b (flat fs) is

    fits : length (flat fs) + length f ≤ capacity
        → Did (receiver_call (take_fragment f) b a) 0 (record_of (answer 0 (length (flat fs ++ f) ∷ [])).places) (holding (flat fs ++ f) ∷ [])
    fits h =
        let o : Result (List ℕ) Refusal = Ok (holding (flat fs ++ f)) in
        let comes : receiver_of (take_fragment f) b ≡ o = taken_done f b good (rw seen h) ∙ ap (λ (l : List ℕ). Ok (holding (l ++ f))) seen in
        subst (λ (xs : List ℕ). Did (receiver_call (take_fragment f) b a) 0 (record_of (answer 0 (length xs ∷ [])).places) (holding (flat fs ++ f) ∷ []))
        (held_holding (flat fs ++ f) (rw length-append h)) (comes_did (take_fragment f) b a o l comes)

    full : capacity < length (flat fs) + length f → Did (receiver_call (take_fragment f) b a) 26 (record_of (answer 26 []).places) (b ∷ [])
    full h = comes_did (take_fragment f) b a (Err ReceiverFull) l (taken_full f b good (rw seen h))
