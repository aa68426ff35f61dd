-- A value that switches at most once while a list of steps is made: one thing before a moment, another from it on. Assumes nothing.
use mathlib.Core.Path.{◌≡◌, refl, sym, ap, ◌∙◌}
use mathlib.Core.Bool.{Bool, true, false, cond}
use mathlib.Core.List.{List, [], ◌∷◌, ◌++◌}
use Prim.Native.Nat.{ℕ, zero, suc, ◌+◌, ◌-◌, ◌≤◌, ◌<◌}
use native.Mathlib.Omega.{arith}
use lib.ListN.{length, get_or, take, length-append}
use lib.Seq.{take-length, take-append-le, take-append-add}
use lib.Dec.{ltb}
use borrow.Author.Tests.{ltb-true, ltb-false}
use Rattle.model.specs.Basic.{collect, when}

-- what the steps make of x, one after the other
abbrev pub through : {W X : Type 0} → (W → X → X) → List W → X → X
through t [] x = x
through t (w ∷ ws) x = through t ws (t w x)

-- f is a before a moment, and b from it on; the moment is from low to high
pub record Switch {X : Type 0} (f : ℕ → X) (a b : X) (low high : ℕ) : Type 0 where
  pub moment : ℕ
  pub least : low ≤ moment
  pub most : moment ≤ high
  pub before : (m : ℕ) → m < moment → f m ≡ a
  pub since : (m : ℕ) → moment ≤ m → f m ≡ b

-- no step changes anything
pub record Quiet {W X : Type 0} (t : W → X → X) (ws : List W) : Type 0 where
  pub calm : (x : X) (m : ℕ) → through t (take m ws) x ≡ x

-- the steps change x once, to y
pub record Step {W X : Type 0} (t : W → X → X) (ws : List W) (x y : X) : Type 0 where
  pub switch : Switch (λ (m : ℕ). through t (take m ws) x) x y 0 (length ws)

module _ {X : Type 0} where
  -- what stays is a switch at whatever moment
  pub stays : {f : ℕ → X} {a : X} {low high : ℕ} → low ≤ high → ((m : ℕ) → f m ≡ a) → Switch f a a low high
  stays {low = low} {high = high} h e = record { moment = low; least = omega arith; most = h; before = λ m g. e m; since = λ m g. e m }

  -- seen by v, and within wider bounds
  pub seen : {Y : Type 0} (v : X → Y) {f : ℕ → X} {a b : X} {low high : ℕ}
      → Switch f a b low high → Switch (λ m. v (f m)) (v a) (v b) low high
  seen v s =
      record {
        moment = s.moment;
        least = s.least;
        most = s.most;
        before = λ m h. ap v (s.before m h);
        since = λ m h. ap v (s.since m h);
      }

  pub wider : {f : ℕ → X} {a b : X} {low high low' high' : ℕ}
      → low' ≤ low → high ≤ high' → Switch f a b low high → Switch f a b low' high'
  wider h g s =
      record {
        moment = s.moment;
        least = let l = s.least in omega arith;
        most = let l = s.most in omega arith;
        before = s.before;
        since = s.since;
      }

  -- from the latest moment on
  pub settled : {f : ℕ → X} {a b : X} {low high : ℕ} → Switch f a b low high → (m : ℕ) → high ≤ m → f m ≡ b
  settled s m h = s.since m (let l = s.most in omega arith)

-- ---- one list of steps after the other

module _ {W X : Type 0} (t : W → X → X) where
  pub through_append : (xs ys : List W) (x : X) → through t (xs ++ ys) x ≡ through t ys (through t xs x)
  through_append [] ys x = refl
  through_append (w ∷ xs) ys x = through_append xs ys (t w x)

  -- up to the first list's end
  in_first : (xs ys : List W) (x : X) (m : ℕ) → m ≤ length xs → through t (take m (xs ++ ys)) x ≡ through t (take m xs) x
  in_first xs ys x m h = rw take-append-le

  -- past the first list's end, where it has led to y
  in_second : (xs ys : List W) (x : X) {y : X} → through t xs x ≡ y → (m : ℕ) → length xs ≤ m
      → through t (take m (xs ++ ys)) x ≡ through t (take (m - length xs) ys) y
  in_second xs ys x e m h =
      ap (λ (k : ℕ). through t (take k (xs ++ ys)) x) n
      ∙ ap (λ (ws : List W). through t ws x) (take-append-add xs ys (m - length xs))
      ∙ through_append xs (take (m - length xs) ys) x
      ∙ ap (through t (take (m - length xs) ys)) e
    where
      n : m ≡ length xs + (m - length xs)
      n = omega arith

  module _ {Y : Type 0} (v : X → Y) (xs ys : List W) (x : X) where
    -- the switch is in the first list, and the second leaves what it gave
    pub early : {y : X} {a b : Y} {low high : ℕ} → high ≤ length xs
        → Switch (λ m. v (through t (take m xs) x)) a b low high
        → through t xs x ≡ y → ((m : ℕ) → v (through t (take m ys) y) ≡ b)
        → Switch (λ m. v (through t (take m (xs ++ ys)) x)) a b low high
    early {b = b} h s e rest =
        record {
          moment = s.moment;
          least = s.least;
          most = s.most;
          before = λ m g. ap v (in_first xs ys x m (let l = s.most in omega arith)) ∙ s.before m g;
          since = λ m g. go m g (ltb m (length xs)) refl;
        }
      where
        go : (m : ℕ) → s.moment ≤ m → (c : Bool) → ltb m (length xs) ≡ c → v (through t (take m (xs ++ ys)) x) ≡ b
        go m g true c = ap v (in_first xs ys x m (omega (arith, ltb-true))) ∙ s.since m g
        go m g false c = ap v (in_second xs ys x e m (ltb-false _ _ c)) ∙ rest (m - length xs)

    -- the first list leaves what there is, and the switch is in the second
    pub late : {y : X} {a b : Y} {low high : ℕ}
        → ((m : ℕ) → v (through t (take m xs) x) ≡ a) → through t xs x ≡ y
        → Switch (λ m. v (through t (take m ys) y)) a b low high
        → Switch (λ m. v (through t (take m (xs ++ ys)) x)) a b (length xs + low) (length xs + high)
    late {a = a} first e s =
        record {
          moment = length xs + s.moment;
          least = let l = s.least in omega arith;
          most = let l = s.most in omega arith;
          before = λ m g. go m g (ltb m (length xs)) refl;
          since = λ m g. ap v (in_second xs ys x e m (omega arith)) ∙ s.since (m - length xs) (omega arith);
        }
      where
        go : (m : ℕ) → m < length xs + s.moment → (c : Bool) → ltb m (length xs) ≡ c → v (through t (take m (xs ++ ys)) x) ≡ a
        go m g true c = ap v (in_first xs ys x m (omega (arith, ltb-true))) ∙ first m
        go m g false c = ap v (in_second xs ys x e m (ltb-false _ _ c)) ∙ s.before (m - length xs) (omega (arith, ltb-false))

-- ---- quiet lists

module _ {W X : Type 0} {t : W → X → X} where
  pub quiet_whole : {ws : List W} → Quiet t ws → (x : X) → through t ws x ≡ x
  quiet_whole {ws} q x = ap (λ (l : List W). through t l x) (sym (take-length ws)) ∙ q.calm x (length ws)

  pub quiet_none : Quiet t []
  quiet_none = record { calm = go }
    where
      go : (x : X) (m : ℕ) → through t (take m []) x ≡ x
      go x zero = refl
      go x (suc m) = refl

  pub quiet_cons : {w : W} {ws : List W} → ((x : X) → t w x ≡ x) → Quiet t ws → Quiet t (w ∷ ws)
  quiet_cons {w} {ws} h q = record { calm = go }
    where
      go : (x : X) (m : ℕ) → through t (take m (w ∷ ws)) x ≡ x
      go x zero = refl
      go x (suc m) = ap (through t (take m ws)) (h x) ∙ q.calm x m

  quiet_rest : {w : W} {ws : List W} → Quiet t (w ∷ ws) → Quiet t ws
  quiet_rest {w} {ws} q = record { calm = λ x m. sym (ap (through t (take m ws)) (q.calm x 1)) ∙ q.calm x (suc m) }

  pub quiet_append : {xs ys : List W} → Quiet t xs → Quiet t ys → Quiet t (xs ++ ys)
  quiet_append {xs = []} p q = q
  quiet_append {xs = w ∷ xs} p q = quiet_cons (λ x. p.calm x 1) (quiet_append {xs = xs} (quiet_rest p) q)

  pub quiet_when : (b : Bool) (w : W) → ((x : X) → t w x ≡ x) → Quiet t (when b w)
  quiet_when true w h = quiet_cons h quiet_none
  quiet_when false w h = quiet_none

  pub quiet_cond : (b : Bool) {ws : List W} → Quiet t ws → Quiet t (cond b ws [])
  quiet_cond true q = q
  quiet_cond false q = quiet_none

-- ---- steps

module _ {W X : Type 0} {t : W → X → X} where
  -- the whole of a list that switches x to y leads to y
  pub whole : {ws : List W} {x y : X} → Step t ws x y → through t ws x ≡ y
  whole {ws} {x} s =
      ap (λ (l : List W). through t l x) (sym (take-length ws)) ∙ s.switch.since (length ws) s.switch.most

  pub quiet_step : {ws : List W} → Quiet t ws → (x : X) → Step t ws x x
  quiet_step q x = record { switch = stays (omega arith) (q.calm x) }

  pub one_step : (w : W) (x : X) → Step t (w ∷ []) x (t w x)
  one_step w x =
      record { switch = record { moment = 1; least = omega arith; most = omega arith; before = none; since = one } }
    where
      none : (m : ℕ) → m < 1 → through t (take m (w ∷ [])) x ≡ x
      none zero h = refl
      none (suc m) h = absurd (omega arith)

      one : (m : ℕ) → 1 ≤ m → through t (take m (w ∷ [])) x ≡ t w x
      one zero h = absurd (omega arith)
      one (suc m) h = quiet_none.calm (t w x) m

  pub step_when : (b : Bool) (w : W) (x : X) → Step t (when b w) x (cond b (t w x) x)
  step_when true w x = one_step w x
  step_when false w x = quiet_step quiet_none x

  -- a quiet list before it, or after it
  pub step_after : {xs ys : List W} {x y : X} → Quiet t xs → Step t ys x y → Step t (xs ++ ys) x y
  step_after {xs} {ys} {x} q s =
      record {
        switch =
            wider (omega arith) (rw length-append (omega arith))
            (late t (λ z. z) xs ys x (q.calm x) (quiet_whole q x) s.switch);
      }

  pub step_before_lem : {xs ys : List W} {x y : X} → Step t xs x y → Quiet t ys → Step t (xs ++ ys) x y
  step_before_lem {xs} {ys} {x} {y} s q =
      record {
        switch =
            wider (omega arith) (rw length-append (omega arith))
            (early t (λ z. z) xs ys x (omega arith) s.switch (whole s) (q.calm y));
      }

  -- past the first list's end, where the second is quiet
  pub step_done : {xs ys : List W} {x y : X} → Step t xs x y → Quiet t ys
      → (m : ℕ) → length xs ≤ m → through t (take m (xs ++ ys)) x ≡ y
  step_done {xs} {ys} {x} {y} s q m h =
      settled (early t (λ z. z) xs ys x (omega arith) s.switch (whole s) (q.calm y)) m h

-- ---- what the elements of a list give, one after the other

module _ {W X A : Type 0} {t : W → X → X} (f : A → List W) (d : A) where
  -- every element gives a quiet list
  pub all_quiet : (rs : List A) → ((j : ℕ) → j < length rs → Quiet t (f (get_or rs j d))) → Quiet t (collect f rs)
  all_quiet [] h = quiet_none
  all_quiet (r ∷ rs) h = quiet_append (h 0 (omega arith)) (all_quiet rs (λ j g. h (suc j) (omega arith)))

  -- every element but one
  pub one_steps : (rs : List A) (i : ℕ) → i < length rs → {x y : X}
      → ((j : ℕ) → j < length rs → (j ≡ i → ⊥) → Quiet t (f (get_or rs j d))) → Step t (f (get_or rs i d)) x y
      → Step t (collect f rs) x y
  one_steps [] i g h s = absurd (omega arith)
  one_steps (r ∷ rs) zero g h s = step_before_lem s (all_quiet rs (λ j k. h (suc j) (omega arith) (omega arith)))
  one_steps (r ∷ rs) (suc i) g h s =
      step_after (h 0 (omega arith) (omega arith))
      (one_steps rs i (omega arith) (λ j k e. h (suc j) (omega arith) (omega arith)) s)
