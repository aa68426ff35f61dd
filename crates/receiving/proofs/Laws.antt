-- The calls on a receiver: what each of their ways out answers. Assumes nothing.
use Rattle.std.specs.Prelude.{Result, Ok, Err}
use Rattle.model.specs.declared.Refusal.{Refusal}
use mathlib.Core.Path.{◌≡◌, refl, sym, ap, ◌∙◌}
use mathlib.Core.Bool.{Bool, true, false, not}
use mathlib.Core.List.{List, [], ◌∷◌, ◌++◌}
use Prim.Native.Nat.{ℕ, ◌+◌, ◌-◌, ◌≤◌, ◌<◌}
use native.Mathlib.Omega.{arith}
use lib.ListN.{length, length-append}
use borrow.Author.Tests.{eq-eqb, ne_eqb, lt-ltb, le-ltb, not-true, not-false}
use Rattle.model.specs.declared.Refusal.TheVariants.{BadRegion, ReceiverFull}
use Rattle.model.specs.Reply.{Reply}
use Rattle.model.specs.Reply.Reply.{refused}
use Rattle.model.specs.Reply.Call.{prepare}
use Rattle.model.specs.Numbers.{answer, answer_of}
use Rattle.answers.specs.declared.Verdict.{Verdict}
use Rattle.answers.specs.Answers.{answer_by, answered, is_apart}
use Rattle.answers.proofs.Apart.{ends}
use Rattle.receiver.specs.Receiver.{capacity, receiver_size, holding, fresh, held, is_receiver, freshened, taken, closing, closed, Good}
use Rattle.receiver.proofs.Image.{held_holding, is_good, good_room}
use Rattle.region.specs.Region.{name_offset}
use Rattle.calls.specs.Call.{reply_to, reply_to_closing, region_after, Replied, Closed, Keeps}
use Rattle.receiving.specs.Fragments.{ReceiverCall, receiver_of, kept_as, received}
use Rattle.receiving.specs.Fragments.ReceiverCall.{fresh_receiver, take_fragment}

-- ---- what accessors ask for

module _ (b : List ℕ) (ok : Bool) (is : ok ≡ is_receiver b) (y : not ok ≡ false) where
  pub good_now : Good b
  good_now = is_good b (sym is ∙ not-false ok y)

  pub good_sized : length b ≡ receiver_size
  good_sized = good_now.size

  module _ (p : List ℕ) (e : p ≡ held b) where
    pub held_room : length p ≤ capacity
    held_room = rw e good_now.room

    pub add_room : (f : List ℕ) → length f ≤ capacity - length p → length (held b) + length f ≤ capacity
    add_room f h =
        let l : length p ≡ length (held b) = ap length e in
        let r : length (held b) ≤ capacity = good_now.room in
        omega arith

-- ---- whatever the receiver comes to is kept so

kept_so : (c : ReceiverCall) (b b' : List ℕ) (v : Result Verdict Refusal) (o : Result (List ℕ) Refusal) → receiver_of c b ≡ o → answered v ≡ (kept_as c o b).answer
    → is_apart v ≡ true → b' ≡ (kept_as c o b).buffer → Keeps v b' (received c b)
unfolding received
kept_so c b b' v o e a p h = rw e (record { answer = a; apart = p; buffer = h })

-- ---- a fresh one

pub fresh_size : (b : List ℕ) → (length b ≡ receiver_size → ⊥) → Keeps (Err BadRegion) b (received fresh_receiver b)
unfolding receiver_of freshened
fresh_size b h = kept_so fresh_receiver b b (Err BadRegion) (Err BadRegion) (rw (ne_eqb (length b) receiver_size h)) refl refl refl

pub fresh_done : (b b' : List ℕ) (v : Verdict) → length b ≡ receiver_size → b' ≡ fresh → answer_by v ≡ answer 0 []
    → Keeps (Ok v) b' (received fresh_receiver b)
unfolding receiver_of freshened
fresh_done b b' v h f a = kept_so fresh_receiver b b' (Ok v) (Ok fresh) (rw (eq-eqb (length b) receiver_size h)) a (ends v _ refl a) f

-- ---- a fragment

module _ (f b : List ℕ) where
  pub taken_bad : is_receiver b ≡ false → taken f b ≡ Err BadRegion
  unfolding taken
  taken_bad e = rw e

  module _ (good : is_receiver b ≡ true) where
    pub taken_full : capacity < length (held b) + length f → taken f b ≡ Err ReceiverFull
    unfolding taken
    taken_full h = rw (good, lt-ltb capacity (length (held b) + length f) h)

    pub taken_done : length (held b) + length f ≤ capacity → taken f b ≡ Ok (holding (held b ++ f))
    unfolding taken
    taken_done h = rw (good, le-ltb capacity (length (held b) + length f) h)

    -- what is held then
    pub held_then : length (held b) + length f ≤ capacity → held (holding (held b ++ f)) ≡ held b ++ f
    held_then h = held_holding (held b ++ f) (rw length-append h)

module _ (f b : List ℕ) (ok : Bool) (is : ok ≡ is_receiver b) where
  pub take_bad : not ok ≡ true → Keeps (Err BadRegion) b (received (take_fragment f) b)
  unfolding receiver_of
  take_bad n = kept_so (take_fragment f) b b (Err BadRegion) (Err BadRegion) (taken_bad f b (sym is ∙ not-true ok n)) refl refl refl

  module _ (y : not ok ≡ false) (p : List ℕ) (e : p ≡ held b) where
    good : is_receiver b ≡ true
    good = sym is ∙ not-false ok y

    pub take_full : capacity - length p < length f → Keeps (Err ReceiverFull) b (received (take_fragment f) b)
    unfolding receiver_of
    take_full h =
        let l : length p ≡ length (held b) = ap length e in
        kept_so (take_fragment f) b b (Err ReceiverFull) (Err ReceiverFull) (taken_full f b good (omega arith)) refl refl refl

    pub take_done : (b' : List ℕ) (v : Verdict) → length f ≤ capacity - length p → b' ≡ holding (held b ++ f) → answer_by v ≡ answer 0 ((length p + length f) ∷ [])
        → Keeps (Ok v) b' (received (take_fragment f) b)
    unfolding receiver_of
    take_done b' v h i a =
        let l : length p ≡ length (held b) = ap length e in
        let r : length (held b) ≤ capacity = good_room b good in
        let s : length (held b) + length f ≤ capacity = omega arith in
        let t : length p + length f ≡ length (held (holding (held b ++ f))) = rw (held_then f b good s, length-append, l) in
        kept_so (take_fragment f) b b' (Ok v) (Ok (holding (held b ++ f))) (taken_done f b good s)
        (a ∙ ap (λ (n : ℕ). answer 0 (n ∷ [])) t) (ends v _ refl a) i

-- ---- closing

module _ (b : List ℕ) (mode : ℕ) (r : List ℕ) where
  pub closing_bad : is_receiver b ≡ false → reply_to_closing b mode r ≡ refused BadRegion
  unfolding reply_to_closing closing
  closing_bad e = rw e

  pub closing_good : is_receiver b ≡ true → reply_to_closing b mode r ≡ reply_to (prepare (held b) mode) r
  unfolding reply_to_closing closing
  closing_good e = rw e

pub closed_bad : (b : List ℕ) → is_receiver b ≡ false → closed b ≡ b
unfolding closed
closed_bad b e = rw e

pub closed_good : (b : List ℕ) → is_receiver b ≡ true → closed b ≡ fresh
unfolding closed
closed_good b e = rw e

-- closing comes to this reply, and leaves this receiver
closed_so : (b b' r r' : List ℕ) (mode : ℕ) (v : Result Verdict Refusal) (reply : Reply) → reply_to_closing b mode r ≡ reply → closed b ≡ b' → Replied v r r' reply → Closed v r r' b b' mode
closed_so b b' r r' mode v reply e c d =
    record {
      answer = d.answer ∙ ap (answer_of name_offset) (sym e);
      apart = d.apart;
      region = d.region ∙ ap (λ (reply : Reply). region_after reply r) (sym e);
      receiver = sym c;
    }

module _ (b : List ℕ) (mode : ℕ) (r : List ℕ) (ok : Bool) (is : ok ≡ is_receiver b) where
  pub close_bad : not ok ≡ true → Closed (Err BadRegion) r r b b mode
  unfolding answer_of
  close_bad n =
      let bad : is_receiver b ≡ false = sym is ∙ not-true ok n in
      closed_so b b r r mode (Err BadRegion) (refused BadRegion) (closing_bad b mode r bad) (closed_bad b bad) (record { answer = refl; apart = refl; region = refl })

  pub close_done : (v : Result Verdict Refusal) (p r' b' : List ℕ) → not ok ≡ false → p ≡ held b → Replied v r r' (reply_to (prepare p mode) r) → b' ≡ fresh
      → Closed v r r' b b' mode
  close_done v p r' b' y e d f =
      let good : is_receiver b ≡ true = sym is ∙ not-false ok y in
      closed_so b b' r r' mode v (reply_to (prepare p mode) r) (closing_good b mode r good ∙ ap (λ (l : List ℕ). reply_to (prepare l mode) r) (sym e))
      (closed_good b good ∙ sym f) d
