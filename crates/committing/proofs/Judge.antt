-- One turn of the run, by its ways out. Assumes nothing.
use Rattle.std.specs.Prelude.{Option, Some, None, is_some}
use mathlib.Core.Path.{◌≡◌, refl, sym, ap, ◌∙◌}
use mathlib.Core.Bool.{Bool, true, false, ◌&&◌}
use mathlib.Core.List.{List, [], ◌∷◌, ◌++◌}
use mathlib.Core.Logic.◌⊎◌.{inl, inr}
use Prim.Native.Nat.{ℕ, suc, ◌+◌, ◌-◌}
use native.Mathlib.Omega.{arith}
use lib.Dec.{eqb}
use Rattle.model.specs.Store.{Store}
use Rattle.model.specs.Due.{Stamp}
use Rattle.model.specs.Writes.{Write}
use Rattle.model.specs.Commit.{Stop, is_line, run}
use Rattle.model.specs.Commit.Stop.{used_up}
use Rattle.model.specs.Demand3.{by, apply_all}
use Rattle.model.proofs.Stops.{run_stops, run_goes}
use Rattle.region.specs.Region.{view, Laid, Became}
use Rattle.writes.specs.declared.NextWrite.{NextWrite}
use Rattle.writes.specs.declared.NextWrite.TheVariants as next
use Rattle.writes.specs.Next.{write_list}
use Rattle.committing.specs.declared.Halt.{Halt}
use Rattle.committing.specs.declared.Halt.TheVariants.{NoCommitter, UsedUp}
use Rattle.committing.specs.declared.Ran.{Ran}
use Rattle.committing.specs.Running.{stop_of, onward, rest, is_line_write, Turned}

-- ---- the run, whatever follows

halted : (stamp : Stamp) (a : Ran) (h : Option Halt) (ws us : List Write) (s : Store) → true ≡ is_some h
    → onward stamp a (stop_of h) ws s ≡ onward stamp a (stop_of h) us s
halted stamp a None ws us s e = absurd (let z : ◌≡◌ {A = ℕ} 0 1 = cc in omega arith)
halted stamp a (Some NoCommitter) ws us s e = refl
halted stamp a (Some UsedUp) ws us s e = refl

going : (h : Option Halt) → false ≡ is_some h → stop_of h ≡ None
going None e = refl
going (Some h) e = absurd (let z : ◌≡◌ {A = ℕ} 0 1 = cc in omega arith)

empty : (s : Store) (x : Option NextWrite) → is_some x ≡ false → write_list s x ≡ []
unfolding write_list
empty s None e = refl
empty s (Some n) e = absurd (let z : ◌≡◌ {A = ℕ} 0 1 = cc in omega arith)

pub shape : (s : Store) (n : NextWrite) → (w : Write) × (write_list s (Some n) ≡ w ∷ []) × (is_line w ≡ is_line_write (Some n))
unfolding write_list
shape s (next.AppendLine l) = (_, refl, refl)
shape s (next.WriteLoose n t) = (_, refl, refl)
shape s (next.RemoveLog n) = (_, refl, refl)
shape s next.WritePacked = (_, refl, refl)
shape s (next.RemoveLoose n) = (_, refl, refl)

some_shape : (s : Store) (x : Option NextWrite) → is_some x ≡ true → (w : Write) × (write_list s x ≡ w ∷ []) × (is_line w ≡ is_line_write x)
some_shape s None e = absurd (let z : ◌≡◌ {A = ℕ} 0 1 = cc in omega arith)
some_shape s (Some n) e = shape s n

run_none : (stamp : Stamp) (w : Write) (ws : List Write) (m : ℕ) (s : Store) → run stamp 0 (w ∷ ws) m s ≡ record { store = s; made = m; stop = Some used_up }
unfolding run
run_none stamp w ws m s = refl

module _ (c : ℕ) (a : Ran) (x : Option NextWrite) (r : List ℕ) (l : Laid r) where
  pub turn_stopped : true ≡ is_some a.stop → Turned (by c) a (write_list (view r) x) a r r
  unfolding rest
  turn_stopped t =
      record { laid = l; goes = λ ws. halted (by c) a a.stop ws (write_list (view r) x ++ ws) (view r) t; made = omega arith; store = inl refl }

  pub turn_nothing : is_some x ≡ false → Turned (by c) a (write_list (view r) x) a r r
  turn_nothing t =
      record {
        laid = l;
        goes = λ ws. ap (λ (us : List Write). rest (by c) a (us ++ ws) (view r)) (sym (empty (view r) x t));
        made = omega arith;
        store = inl refl;
      }

  module _ (on : false ≡ is_some a.stop) (some-write : is_some x ≡ true) where
    sh : (w : Write) × (write_list (view r) x ≡ w ∷ []) × (is_line w ≡ is_line_write x)
    sh = some_shape (view r) x some-write

    -- the run that goes on, with the write before it
    begins : (ws : List Write) → rest (by c) a (write_list (view r) x ++ ws) (view r) ≡ run (by c) a.left (sh.0 ∷ ws) a.made (view r)
    unfolding rest
    begins ws =
        ap (λ (o : Option Stop). onward (by c) a o (write_list (view r) x ++ ws) (view r)) (going a.stop on)
        ∙ ap (λ (us : List Write). run (by c) a.left (us ++ ws) a.made (view r)) sh.1

    pub turn_used : a.left ≡ 0 → Turned (by c) a (write_list (view r) x) (record { left = a.left; made = a.made; stop = Some UsedUp }) r r
    unfolding rest
    turn_used e =
        record {
          laid = l;
          goes = λ ws. sym (begins ws ∙ ap (λ (k : ℕ). run (by c) k (sh.0 ∷ ws) a.made (view r)) e ∙ run_none (by c) sh.0 ws a.made (view r));
          made = omega arith;
          store = inl refl;
        }

    module _ (more : a.left ≡ 0 → ⊥) (u : Bool) (eu : u ≡ (is_line_write x && eqb c 0)) where
      stopping : (is_line sh.0 && eqb c 0) ≡ u
      stopping = ap (λ (b : Bool). b && eqb c 0) sh.2 ∙ sym eu

      less : a.left ≡ suc (a.left - 1)
      less = omega arith

      pub turn_unsigned : u ≡ true → Turned (by c) a (write_list (view r) x) (record { left = a.left; made = a.made; stop = Some NoCommitter }) r r
      unfolding rest
      turn_unsigned t =
          record {
            laid = l;
            goes = λ ws. sym (begins ws ∙ ap (λ (k : ℕ). run (by c) k (sh.0 ∷ ws) a.made (view r)) less
                ∙ run_stops (by c) (a.left - 1) sh.0 ws a.made (view r) (stopping ∙ t));
            made = omega arith;
            store = inl refl;
          }

      pub turn_made : (r' : List ℕ) → u ≡ false → Became r' (apply_all (write_list (view r) x) (view r))
          → Turned (by c) a (write_list (view r) x) (record { left = a.left - 1; made = a.made + 1; stop = None }) r r'
      unfolding rest
      turn_made r' t b =
          record {
            laid = b.laid;
            goes = λ ws.
                ap (λ (s : Store). run (by c) (a.left - 1) ws (a.made + 1) s) (b.seen ∙ ap (λ (us : List Write). apply_all us (view r)) sh.1)
                ∙ sym (begins ws ∙ ap (λ (k : ℕ). run (by c) k (sh.0 ∷ ws) a.made (view r)) less
                ∙ run_goes (by c) (a.left - 1) sh.0 ws a.made (view r) (stopping ∙ t));
            made = omega arith;
            store = inr (sh.0, sh.1, b.seen ∙ ap (λ (us : List Write). apply_all us (view r)) sh.1);
          }
