-- What commit comes to: the writes that its committer and its allowance let it make, and nothing else. Assumes nothing.
use Rattle.std.specs.Prelude.{Some, None}
use mathlib.Core.Path.{◌≡◌, refl, sym, ap, ◌∙◌}
use mathlib.Core.Bool.{Bool, true, false, ◌&&◌, cond}
use mathlib.Core.List.{List, [], ◌∷◌}
use Prim.Native.Nat.{ℕ, zero, suc, ◌+◌, ◌≤◌, ◌<◌, min}
use native.Mathlib.Omega.{arith}
use lib.ListN.{length, take}
use lib.Seq.{take-nil}
use lib.Dec.{eqb}
use Rattle.model.specs.Store.{Store}
use Rattle.model.specs.Due.{Stamp}
use Rattle.model.specs.Writes.{Write, writes, apply}
use Rattle.model.specs.Commit.{Run, is_line, run}
use Rattle.model.specs.Commit.Stop.{no_committer, used_up}
use Rattle.model.specs.Demand3.{before_line, commit_writes, apply_all, by}

-- a log line needs a committer
abbrev pub stops : Stamp → Write → Bool
stops stamp w = is_line w && eqb stamp.committer 0

-- the writes up to the first that the committer does not allow
abbrev pub permitted : Stamp → List Write → List Write
permitted stamp [] = []
permitted stamp (w ∷ ws) = cond (stops stamp w) [] (w ∷ permitted stamp ws)

-- what `run` says of a list with a first write, by whether that write stops it
module _ (stamp : Stamp) (k : ℕ) (w : Write) (ws : List Write) (m : ℕ) (s : Store) where
  pub run_stops : stops stamp w ≡ true → run stamp (suc k) (w ∷ ws) m s ≡ record { store = s; made = m; stop = Some no_committer }
  unfolding run
  run_stops e = rw e

  pub run_goes : stops stamp w ≡ false → run stamp (suc k) (w ∷ ws) m s ≡ run stamp k ws (m + 1) (apply w s)
  unfolding run
  run_goes e = rw e

pub run_store : (stamp : Stamp) (a : ℕ) (ws : List Write) (m : ℕ) (s : Store)
    → (run stamp a ws m s).store ≡ apply_all (take a (permitted stamp ws)) s
unfolding run
run_store stamp a [] m s = rw take-nil refl
run_store stamp zero (w ∷ ws) m s = refl
run_store stamp (suc a) (w ∷ ws) m s = go (run_store stamp a ws (m + 1) (apply w s)) (stops stamp w) refl
  where
    go : (run stamp a ws (m + 1) (apply w s)).store ≡ apply_all (take a (permitted stamp ws)) (apply w s) → (t : Bool) → stops stamp w ≡ t
        → (run stamp (suc a) (w ∷ ws) m s).store ≡ apply_all (take (suc a) (permitted stamp (w ∷ ws))) s
    go h true e = rw e refl
    go h false e = rw e h

pub run_made : (stamp : Stamp) (a : ℕ) (ws : List Write) (m : ℕ) (s : Store)
    → (run stamp a ws m s).made ≡ m + min a (length (permitted stamp ws))
unfolding run
run_made stamp a [] m s = omega arith
run_made stamp zero (w ∷ ws) m s = omega arith
run_made stamp (suc a) (w ∷ ws) m s = go (run_made stamp a ws (m + 1) (apply w s)) (stops stamp w) refl
  where
    go : (run stamp a ws (m + 1) (apply w s)).made ≡ m + 1 + min a (length (permitted stamp ws)) → (t : Bool) → stops stamp w ≡ t
        → (run stamp (suc a) (w ∷ ws) m s).made ≡ m + min (suc a) (length (permitted stamp (w ∷ ws)))
    go h true e = rw e (omega arith)
    go h false e = rw e (rw h (omega arith))

-- no stop: every write was permitted, and the allowance sufficed
pub run_whole : (stamp : Stamp) (a : ℕ) (ws : List Write) (m : ℕ) (s : Store)
    → (run stamp a ws m s).stop ≡ None → (permitted stamp ws ≡ ws) × (length ws ≤ a)
unfolding run
run_whole stamp a [] m s e = (refl, omega arith)
run_whole stamp zero (w ∷ ws) m s e = absurd (let z : ◌≡◌ {A = ℕ} 0 1 = cc in omega arith)
run_whole stamp (suc a) (w ∷ ws) m s e = go (run_whole stamp a ws (m + 1) (apply w s)) (stops stamp w) refl
  where
    go : ((run stamp a ws (m + 1) (apply w s)).stop ≡ None → (permitted stamp ws ≡ ws) × (length ws ≤ a)) → (t : Bool) → stops stamp w ≡ t
        → (permitted stamp (w ∷ ws) ≡ w ∷ ws) × (suc (length ws) ≤ suc a)
    go h true p = absurd (let q : Some no_committer ≡ None = sym (ap (λ (r : Run). r.stop) (run_stops stamp a w ws m s p)) ∙ e in
        let z : ◌≡◌ {A = ℕ} 0 1 = cc in omega arith)
    go h false p =
        let r = h (sym (ap (λ (r : Run). r.stop) (run_goes stamp a w ws m s p)) ∙ e) in
        let l : length ws ≤ a = r.1 in
        (rw p (ap (λ (x : List Write). w ∷ x) r.0), omega arith)

-- stopped for want of a committer: every permitted write was made, the allowance was not used up, and another write stood next
pub run_unsigned : (stamp : Stamp) (a : ℕ) (ws : List Write) (m : ℕ) (s : Store)
    → (run stamp a ws m s).stop ≡ Some no_committer → (length (permitted stamp ws) < a) × (length (permitted stamp ws) < length ws)
unfolding run
run_unsigned stamp a [] m s e = absurd (let z : ◌≡◌ {A = ℕ} 0 1 = cc in omega arith)
run_unsigned stamp zero (w ∷ ws) m s e = absurd (let z : ◌≡◌ {A = ℕ} 0 1 = cc in omega arith)
run_unsigned stamp (suc a) (w ∷ ws) m s e = go (run_unsigned stamp a ws (m + 1) (apply w s)) (stops stamp w) refl
  where
    go : ((run stamp a ws (m + 1) (apply w s)).stop ≡ Some no_committer → (length (permitted stamp ws) < a) × (length (permitted stamp ws) < length ws))
        → (t : Bool) → stops stamp w ≡ t
        → (length (permitted stamp (w ∷ ws)) < suc a) × (length (permitted stamp (w ∷ ws)) < suc (length ws))
    go h true p = rw p (omega arith)
    go h false p =
        let r = h (sym (ap (λ (r : Run). r.stop) (run_goes stamp a w ws m s p)) ∙ e) in
        rw p (omega arith)

-- the allowance used up: so many permitted writes were made, and another write stood next
pub run_used : (stamp : Stamp) (a : ℕ) (ws : List Write) (m : ℕ) (s : Store)
    → (run stamp a ws m s).stop ≡ Some used_up → (a ≤ length (permitted stamp ws)) × (a < length ws)
unfolding run
run_used stamp a [] m s e = absurd (let z : ◌≡◌ {A = ℕ} 0 1 = cc in omega arith)
run_used stamp zero (w ∷ ws) m s e = (omega arith, omega arith)
run_used stamp (suc a) (w ∷ ws) m s e = go (run_used stamp a ws (m + 1) (apply w s)) (stops stamp w) refl
  where
    go : ((run stamp a ws (m + 1) (apply w s)).stop ≡ Some used_up → (a ≤ length (permitted stamp ws)) × (a < length ws))
        → (t : Bool) → stops stamp w ≡ t
        → (suc a ≤ length (permitted stamp (w ∷ ws))) × (suc a < suc (length ws))
    go h true p = absurd (let q : Some no_committer ≡ Some used_up = sym (ap (λ (r : Run). r.stop) (run_stops stamp a w ws m s p)) ∙ e in
        let z : ◌≡◌ {A = ℕ} 0 1 = cc in omega arith)
    go h false p =
        let r = h (sym (ap (λ (r : Run). r.stop) (run_goes stamp a w ws m s p)) ∙ e) in
        rw p (omega arith)

-- ---- the permitted writes are those of demand 3

permitted_unsigned : (stamp : Stamp) → eqb stamp.committer 0 ≡ true → (ws : List Write) → permitted stamp ws ≡ before_line ws
permitted_unsigned stamp e [] = refl
permitted_unsigned stamp e (w ∷ ws) = go (permitted_unsigned stamp e ws) (is_line w) refl
  where
    go : permitted stamp ws ≡ before_line ws → (t : Bool) → is_line w ≡ t → permitted stamp (w ∷ ws) ≡ before_line (w ∷ ws)
    go h true p = rw (p, e)
    go h false p = rw p (ap (λ (x : List Write). w ∷ x) h)

permitted_signed : (stamp : Stamp) → eqb stamp.committer 0 ≡ false → (ws : List Write) → permitted stamp ws ≡ ws
permitted_signed stamp e [] = refl
permitted_signed stamp e (w ∷ ws) = go (permitted_signed stamp e ws) (is_line w) refl
  where
    go : permitted stamp ws ≡ ws → (t : Bool) → is_line w ≡ t → permitted stamp (w ∷ ws) ≡ w ∷ ws
    go h true p = rw (p, e) (ap (λ (x : List Write). w ∷ x) h)
    go h false p = rw p (ap (λ (x : List Write). w ∷ x) h)

pub permitted_is : (c : ℕ) (s : Store) → permitted (by c) (writes (by c) s) ≡ commit_writes c s
permitted_is c s = go (eqb c 0) refl
  where
    go : (t : Bool) → eqb c 0 ≡ t → permitted (by c) (writes (by c) s) ≡ commit_writes c s
    go true e = rw e (permitted_unsigned (by c) e (writes (by c) s))
    go false e = rw e (permitted_signed (by c) e (writes (by c) s))

-- ---- a number of writes: the first of the whole list

suc_min : (a b : ℕ) → suc (min a b) ≡ min (suc a) (suc b)
suc_min a b = omega arith

pub take_permitted : (stamp : Stamp) (a : ℕ) (ws : List Write) → take a (permitted stamp ws) ≡ take (min a (length (permitted stamp ws))) ws
take_permitted stamp a [] = take-nil a ∙ sym (take-nil (min a 0))
take_permitted stamp zero (w ∷ ws) = let e : min 0 (length (permitted stamp (w ∷ ws))) ≡ 0 = omega arith in rw e
take_permitted stamp (suc a) (w ∷ ws) = go (take_permitted stamp a ws) (stops stamp w) refl
  where
    go : take a (permitted stamp ws) ≡ take (min a (length (permitted stamp ws))) ws → (t : Bool) → stops stamp w ≡ t
        → take (suc a) (permitted stamp (w ∷ ws)) ≡ take (min (suc a) (length (permitted stamp (w ∷ ws)))) (w ∷ ws)
    go h true p = let e : min (suc a) 0 ≡ 0 = omega arith in rw (p, e)
    go h false p = rw (p, ← suc_min a (length (permitted stamp ws))) (ap (λ (x : List Write). w ∷ x) h)
