-- Classes of bytes. Where every byte of a run has one answer, but for one byte, any byte of the run has it, unless it is that one. The run is computed.
-- Assumes nothing.
use mathlib.Core.Path.{◌≡◌, refl, sym, ◌∙◌}
use mathlib.Core.Bool.{Bool, true, false, ◌&&◌, ◌||◌, not}
use Prim.Native.Nat.{ℕ, zero, suc, ◌+◌, ◌-◌, ◌<◌, ◌≤◌}
use native.Mathlib.Omega.{arith}
use lib.Dec.{eqb}
use borrow.Author.Tests.{eqb-true, eqb-false, ne_eqb, not-true}
use Rattle.model.proofs.Rules.{both_true}

abbrev agrees : Bool → Bool → Bool
agrees true y = y
agrees false y = not y

agreed : (v y : Bool) → agrees v y ≡ true → v ≡ y
agreed true y h = sym h
agreed false y h = sym (not-true y h)

module _ (p : ℕ → Bool) (v : Bool) (but : ℕ) where
  -- from `lo` on, `n` bytes answer v, the one excepted
  abbrev pub run : ℕ → ℕ → Bool
  run lo zero = true
  run lo (suc n) = (eqb lo but || agrees v (p lo)) && run (suc lo) n

  here : (lo : ℕ) → (eqb lo but || agrees v (p lo)) ≡ true → (lo ≡ but → ⊥) → v ≡ p lo
  here lo h d = agreed v (p lo) (rw (ne_eqb lo but d) at h)

  inside : (n lo : ℕ) → run lo n ≡ true → (b : ℕ) → lo ≤ b → b < lo + n → (b ≡ but → ⊥) → v ≡ p b
  inside zero lo h b l u d = absurd (omega arith)
  inside (suc n) lo h b l u d = go (inside n (suc lo) both.1 b) (eqb lo b) refl
    where
      both : ((eqb lo but || agrees v (p lo)) ≡ true) × (run (suc lo) n ≡ true)
      both = both_true (eqb lo but || agrees v (p lo)) (run (suc lo) n) h

      go : (suc lo ≤ b → b < suc lo + n → (b ≡ but → ⊥) → v ≡ p b) → (t : Bool) → eqb lo b ≡ t → v ≡ p b
      go later true q = let e : lo ≡ b = eqb-true lo b q in rw (← e) (here lo both.0 (λ z. d (sym e ∙ z)))
      go later false q = let e : lo ≡ b → ⊥ = eqb-false lo b q in later (omega arith) (omega arith) d

  pub in_run : (lo hi : ℕ) → run lo (hi - lo) ≡ true → (b : ℕ) → lo ≤ b → b < hi → (b ≡ but → ⊥) → v ≡ p b
  in_run lo hi h b l u d = inside (hi - lo) lo h b l (omega arith) d

-- a run with no exception: the byte past its end is none of it
pub in_whole_run : (p : ℕ → Bool) (v : Bool) (lo hi : ℕ) → run p v hi lo (hi - lo) ≡ true → (b : ℕ) → lo ≤ b → b < hi → v ≡ p b
in_whole_run p v lo hi h b l u = in_run p v hi lo hi h b l u (λ e. omega arith)
