-- When a value switches that is seen through four lists of steps, one after the other: in the first, or in the last two. Assumes nothing.
use mathlib.Core.Path.{◌≡◌, refl, sym, ap, ◌∙◌}
use mathlib.Core.Bool.{Bool, true, false}
use mathlib.Core.List.{List, ◌++◌, append_assoc}
use mathlib.Core.Logic.{◌⊎◌}
use mathlib.Core.Logic.◌⊎◌.{inl, inr}
use Prim.Native.Nat.{ℕ, ◌+◌, ◌≤◌}
use native.Mathlib.Omega.{arith}
use lib.ListN.{length, take, length-append}
use lib.Dec.{ltb}
use borrow.Author.Tests.{ltb-true, ltb-false}
use Rattle.model.proofs.Switch.{through, Switch, Quiet, Step, stays, seen, wider, early, late, through_append, quiet_whole, whole}

-- before or since the moment
pub either : {X : Type 0} {f : ℕ → X} {a b : X} {low high : ℕ} → Switch f a b low high → (m : ℕ) → (f m ≡ a) ⊎ (f m ≡ b)
either {f = f} {a = a} {b = b} s m = go (ltb m s.moment) refl
  where
    go : (t : Bool) → ltb m s.moment ≡ t → (f m ≡ a) ⊎ (f m ≡ b)
    go true h = inl (s.before m (ltb-true _ _ h))
    go false h = inr (s.since m (ltb-false _ _ h))

-- once it is the second value it stays so, be the two the same or not
pub stays_second : {X : Type 0} {f : ℕ → X} {a b : X} {low high : ℕ} → Switch f a b low high → (m j : ℕ) → m ≤ j → f m ≡ b → f j ≡ b
stays_second {f = f} {a = a} {b = b} s m j le e = go (ltb j s.moment) refl
  where
    go : (t : Bool) → ltb j s.moment ≡ t → f j ≡ b
    go true h = s.before j (ltb-true _ _ h) ∙ sym (s.before m (omega (arith, ltb-true))) ∙ e
    go false h = s.since j (ltb-false _ _ h)

-- what the first value is not is the second, so that the moment is past
pub past : {X : Type 0} {f : ℕ → X} {a b : X} {low high : ℕ} → Switch f a b low high → (m : ℕ) → (f m ≡ a → ⊥) → low ≤ m
past {low = low} s m d = go (ltb m s.moment) refl
  where
    go : (t : Bool) → ltb m s.moment ≡ t → low ≤ m
    go true h = absurd (d (s.before m (ltb-true _ _ h)))
    go false h = let l = s.least in omega (arith, ltb-false)

-- with both ends the same it stays
pub still : {X : Type 0} {f : ℕ → X} {a b c : X} {low high : ℕ} → Switch f a b low high → a ≡ c → b ≡ c → (m : ℕ) → f m ≡ c
still {f = f} {a} {b} {c} s p q m = go (either s m)
  where
    go : (f m ≡ a) ⊎ (f m ≡ b) → f m ≡ c
    go (inl h) = h ∙ p
    go (inr h) = h ∙ q

-- the ends by other names
renamed : {X : Type 0} {f : ℕ → X} {a b a' b' : X} {low high : ℕ} → Switch f a b low high → a ≡ a' → b ≡ b' → Switch f a' b' low high
renamed s p q =
    record { moment = s.moment; least = s.least; most = s.most; before = λ m h. s.before m h ∙ p; since = λ m h. s.since m h ∙ q }

-- what one list leaves as it is, and the next too, both do
pub still_append : {W X Y : Type 0} (t : W → X → X) (v : X → Y) (xs ys : List W) (x : X) {y : X} {a : Y}
    → ((m : ℕ) → v (through t (take m xs) x) ≡ a) → through t xs x ≡ y → ((m : ℕ) → v (through t (take m ys) y) ≡ a)
    → (m : ℕ) → v (through t (take m (xs ++ ys)) x) ≡ a
still_append t v xs ys x first e second = still (late t v xs ys x first e (stays {low = 0} {high = 0} (omega arith) second)) refl refl

module _ {W X Y : Type 0} {t : W → X → X} (v : X → Y) {A B C D : List W} {e e1 e3 e4 : X}
    (one : Step t A e e1) (two : Quiet t B) (three : Step t C e1 e3) (four : Step t D e3 e4) {a : Y} where
  -- the first list gives a, and the others leave it
  pub switch_first : v e1 ≡ a → v e3 ≡ a → v e4 ≡ a
      → Switch (λ m. v (through t (take m (A ++ (B ++ (C ++ D)))) e)) (v e) a 0 (length A)
  switch_first p q r =
      early t v A (B ++ (C ++ D)) e (omega arith) (renamed (seen v one.switch) refl p) (whole one)
      (still_append t v B (C ++ D) e1 (λ m. ap v (two.calm e1 m) ∙ p) (quiet_whole two e1)
      (still_append t v C D e1 (still (seen v three.switch) p q) (whole three) (still (seen v four.switch) q r)))

  -- the first two leave what there is, and the last gives a, if the third has not
  last_two : v e1 ≡ v e → (v e3 ≡ v e) ⊎ (v e3 ≡ a) → v e4 ≡ a
      → Switch (λ m. v (through t (take m (C ++ D)) e1)) (v e) a 0 (length C + length D)
  last_two p (inl q) r =
      wider (omega arith) (omega arith)
      (late t v C D e1 (still (seen v three.switch) p q) (whole three) (renamed (seen v four.switch) q r))
  last_two p (inr q) r =
      wider (omega arith) (omega arith)
      (early t v C D e1 (omega arith) (renamed (seen v three.switch) p q) (whole three) (still (seen v four.switch) q r))

  -- and so all four
  pub switch_last : v e1 ≡ v e → (v e3 ≡ v e) ⊎ (v e3 ≡ a) → v e4 ≡ a
      → Switch (λ m. v (through t (take m (A ++ (B ++ (C ++ D)))) e)) (v e) a (length (A ++ B)) (length (A ++ (B ++ (C ++ D))))
  switch_last p q r =
      rw (← append_assoc A B (C ++ D))
      (wider (omega arith) (simp length-append (omega arith))
      (late t v (A ++ B) (C ++ D) e
      (still_append t v A B e (still (seen v one.switch) refl p) (whole one) (λ m. ap v (two.calm e1 m) ∙ p))
      (through_append t A B e ∙ ap (through t B) (whole one) ∙ quiet_whole two e1)
      (last_two p q r)))
