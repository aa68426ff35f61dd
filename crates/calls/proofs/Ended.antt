-- What the reply to a commit of a prepared transaction says, by its number and its report. Assumes nothing.
use Rattle.std.specs.Prelude.{Option, Some, None}
use mathlib.Core.Path.{◌≡◌, refl, sym, ap, ◌∙◌, subst}
use mathlib.Core.Bool.{Bool, true, false, and-false}
use mathlib.Core.List.{List, [], ◌∷◌}
use Prim.Native.Nat.{ℕ, ◌≤◌, ◌<◌}
use native.Mathlib.Omega.{arith}
use lib.ListN.{length, take}
use lib.Dec.{eqb, ltb, leb}
use borrow.Author.Tests.{ltb-true, ltb-false, lt-ltb, le-ltb, le-leb, lt-leb, eqb-true}
use Rattle.model.specs.declared.Refusal.TheVariants.{Malformed}
use Rattle.model.specs.Store.{Store, count, is_prepared}
use Rattle.model.specs.Writes.{Write, writes, apply}
use Rattle.model.specs.Commit.{Run, Stop, released, committing}
use Rattle.model.specs.Commit.Stop.{no_committer, used_up}
use Rattle.model.specs.Reply.{Reply, Given}
use Rattle.model.specs.Reply.Call.{commit}
use Rattle.model.specs.Reply.Reply.{done, stopped, refused}
use Rattle.model.specs.Calls.{step, ended}
use Rattle.model.specs.Reached.{leaves}
use Rattle.model.specs.Numbers.{answer_of, refusal_answer}
use Rattle.model.specs.Demand3.{by, apply_all, commit_writes, stop_at, reported}
use Rattle.model.proofs.Stops.{permitted, permitted_is, run_store, run_whole, run_unsigned, run_used}
use Rattle.model.proofs.Commits.{commit_runs, commit_refuses}
use Rattle.model.proofs.Base.{released_count}
use Rattle.model.proofs.KeptCommit.{apply_count}
use Rattle.region.specs.Region.{name_offset}
use Rattle.answers.specs.Answers.{record_of}
use Rattle.calls.specs.Demand3.{filled, number_at}

-- writes add no name and remove none
applied_count : (ws : List Write) (s : Store) → count (apply_all ws s) ≡ count s
applied_count [] s = refl
applied_count (w ∷ ws) s = applied_count ws (apply w s) ∙ apply_count w s

-- what a reply's report, its 0 and its 16 say of it
abbrev Reports : ℕ → Reply → Type 0
Reports m reply = reported reply ≡ Some m → record_of (answer_of name_offset reply).places ≡ filled (m ∷ [])

abbrev Done : Reply → Type 0
Done reply = 0 ≡ (answer_of name_offset reply).number → (t : Store) × (g : Given) × (reply ≡ done t g)

abbrev Unsigned : ℕ → Reply → Type 0
Unsigned c reply =
    16 ≡ (answer_of name_offset reply).number
    → (c ≡ 0) × (t : Store) × (made : ℕ) × (reply ≡ stopped no_committer t made)

module _ (s : Store) (p : is_prepared s.prepared ≡ true) (c k : ℕ) where
  abbrev ran : Run
  ran = committing (by c) k s

  -- the reply is a refusal by 2, or that of the run, however it ended
  by_way : (P : Reply → Type 0) → P (refused Malformed) → ((why : Option Stop) → ran.stop ≡ why → P (ended ran why)) → P (step (commit c k) s)
  by_way P a b = go (ltb 65535 c) refl
    where
      go : (t : Bool) → ltb 65535 c ≡ t → P (step (commit c k) s)
      go true e = subst P (sym (commit_refuses s p c k (ltb-true 65535 c e))) a
      go false e = subst P (sym (commit_runs s p c k (ltb-false 65535 c e))) (b ran.stop refl)

  -- no name comes or goes
  pub stop_count : count (stop_at c k s) ≡ count s
  unfolding committing
  stop_count = by_way (λ reply. count (leaves reply s) ≡ count s) refl go
    where
      names : count (released ran.store) ≡ count s
      names =
          released_count ran.store
          ∙ ap count (run_store (by c) k (writes (by c) s) 0 s)
          ∙ applied_count (take k (permitted (by c) (writes (by c) s))) s

      go : (why : Option Stop) → ran.stop ≡ why → count (leaves (ended ran why) s) ≡ count s
      go None e = names
      go (Some w) e = names

  -- the number says why it ended
  pub numbered : c ≤ 65535 → (answer_of name_offset (step (commit c k) s)).number ≡ number_at c k s
  unfolding committing answer_of
  numbered h = ap (λ (reply : Reply). (answer_of name_offset reply).number) (commit_runs s p c k h) ∙ go ran.stop refl
    where
      may : permitted (by c) (writes (by c) s) ≡ commit_writes c s
      may = permitted_is c s

      n : ℕ
      n = length (commit_writes c s)

      m : ℕ
      m = length (writes (by c) s)

      many : n ≡ length (permitted (by c) (writes (by c) s))
      many = ap length (sym may)

      go : (why : Option Stop) → ran.stop ≡ why → (answer_of name_offset (ended ran why)).number ≡ number_at c k s
      go None e =
          let w = run_whole (by c) k (writes (by c) s) 0 s e in
          let l : m ≤ k = w.1 in
          let a : n ≡ m = ap length (sym may ∙ w.0) in
          rw (le-ltb k m l, and-false (leb k n), le-ltb n m (omega arith))
      go (Some no_committer) e =
          let u = run_unsigned (by c) k (writes (by c) s) 0 s e in
          let b : length (permitted (by c) (writes (by c) s)) < k = u.0 in
          let d : length (permitted (by c) (writes (by c) s)) < m = u.1 in
          let e : n ≡ length (permitted (by c) (writes (by c) s)) = many in
          rw (lt-leb k n (omega arith), lt-ltb n m (omega arith))
      go (Some used_up) e =
          let u = run_used (by c) k (writes (by c) s) 0 s e in
          let b : k ≤ length (permitted (by c) (writes (by c) s)) = u.0 in
          let e : n ≡ length (permitted (by c) (writes (by c) s)) = many in
          rw (le-leb k n (omega arith), lt-ltb k m u.1)

  -- what it reports stands in the record's first place
  pub reports : (m : ℕ) → Reports m (step (commit c k) s)
  unfolding answer_of
  reports m = by_way (Reports m) (λ e. absurd (let z : ◌≡◌ {A = ℕ} 0 1 = cc in omega arith)) go
    where
      go : (why : Option Stop) → ran.stop ≡ why → Reports m (ended ran why)
      go None q e = ap (λ (n : ℕ). filled (n ∷ [])) (cc)
      go (Some w) q e = ap (λ (n : ℕ). filled (n ∷ [])) (cc)

  -- 0: it is done
  pub done_by : Done (step (commit c k) s)
  unfolding answer_of refusal_answer
  done_by = by_way Done (λ e. absurd (omega arith)) go
    where
      go : (why : Option Stop) → ran.stop ≡ why → Done (ended ran why)
      go None q e = (_, _, refl)
      go (Some no_committer) q e = absurd (omega arith)
      go (Some used_up) q e = absurd (omega arith)

  -- 16: it is stopped by a log line, and there is no committer
  unsigned : ran.stop ≡ Some no_committer → c ≡ 0
  unfolding committing
  unsigned q = go (eqb c 0) refl
    where
      go : (t : Bool) → eqb c 0 ≡ t → c ≡ 0
      go true e = eqb-true c 0 e
      go false e =
          let all : commit_writes c s ≡ writes (by c) s = rw e in
          let n : length (permitted (by c) (writes (by c) s)) ≡ length (writes (by c) s) = ap length (permitted_is c s ∙ all) in
          let l : length (permitted (by c) (writes (by c) s)) < length (writes (by c) s) = (run_unsigned (by c) k (writes (by c) s) 0 s q).1 in
          absurd (omega arith)

  pub unsigned_by : Unsigned c (step (commit c k) s)
  unfolding answer_of refusal_answer
  unsigned_by = by_way (Unsigned c) (λ e. absurd (omega arith)) go
    where
      go : (why : Option Stop) → ran.stop ≡ why → Unsigned c (ended ran why)
      go None q e = absurd (omega arith)
      go (Some no_committer) q e = (unsigned q, _, _, refl)
      go (Some used_up) q e = absurd (omega arith)
