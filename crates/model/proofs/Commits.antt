-- A commit of a prepared transaction: what it leaves is what the first of its writes leave, released. Assumes nothing.
use Rattle.std.specs.Prelude.{Option, Some, None}
use mathlib.Core.Path.{◌≡◌, refl, sym, ap, ◌∙◌}
use mathlib.Core.Bool.{Bool, true, false, cond}
use mathlib.Core.List.{List}
use Prim.Native.Nat.{ℕ, ◌+◌, ◌≤◌, ◌<◌, min}
use native.Mathlib.Omega.{arith}
use lib.ListN.{length, take}
use lib.Seq.{take_all}
use lib.Dec.{ltb}
use borrow.Author.Tests.{lt-ltb, le-ltb, ltb-true, ltb-false}
use Rattle.target.specs.declared.NameNumber.{NameNumber}
use Rattle.model.specs.declared.Lock.TheVariants.{Foreign, Ours}
use Rattle.model.specs.declared.Refusal.TheVariants.{Malformed}
use Rattle.model.specs.Store.{Store, entry_at, lines_of, is_prepared, is_lock}
use Rattle.model.specs.Read.{reading}
use Rattle.model.specs.Writes.{Write, writes}
use Rattle.model.specs.Commit.{Run, Stop, committing, released}
use Rattle.model.specs.Commit.Stop.{no_committer}
use Rattle.model.specs.Reply.{Reply, Given}
use Rattle.model.specs.Reply.Reply.{done, stopped, refused}
use Rattle.model.specs.Reply.Call.{commit}
use Rattle.model.specs.Calls.{ended, committed, step}
use Rattle.model.specs.Reached.{leaves}
use Rattle.model.specs.Demand3.{by, before_line, commit_writes, apply_all, stop_at, reported, refs, StoppedAt}
use Rattle.model.proofs.Stops.{permitted, run_store, run_made, run_whole, run_unsigned, permitted_is, take_permitted}
use Rattle.model.proofs.Release.{released_free, released_packed_free, released_foreign, released_packed_foreign, released_setting, released_reading, released_lines, released_log, released_gone, released_refs, apply_all_lock, apply_all_packed_lock, apply_all_setting}

-- ---- however it ended

ended_leaves : (r : Run) (why : Option Stop) (s : Store) → leaves (ended r why) s ≡ released r.store
ended_leaves r None s = refl
ended_leaves r (Some w) s = refl

ended_reports : (r : Run) (why : Option Stop) → reported (ended r why) ≡ Some r.made
ended_reports r None = refl
ended_reports r (Some w) = refl

ended_done : (r : Run) (why : Option Stop) (t : Store) (g : Given) → ended r why ≡ done t g → (why ≡ None) × (t ≡ released r.store)
ended_done r None t g e = (refl, cc)
ended_done r (Some w) t g e = absurd (let z : ◌≡◌ {A = ℕ} 0 1 = cc in omega arith)

ended_stopped : (r : Run) (why : Option Stop) (w : Stop) (t : Store) (k : ℕ) → ended r why ≡ stopped w t k → (why ≡ Some w) × (k ≡ r.made)
ended_stopped r None w t k e = absurd (let z : ◌≡◌ {A = ℕ} 0 1 = cc in omega arith)
ended_stopped r (Some v) w t k e = (cc, cc)

-- ---- a prepared transaction, and a committer of at most 65,535

module _ (s : Store) (p : is_prepared s.prepared ≡ true) (c k : ℕ) where
  abbrev ran : Run
  ran = committing (by c) k s

  pub commit_runs : c ≤ 65535 → step (commit c k) s ≡ ended ran ran.stop
  unfolding step committed
  commit_runs h = rw (p, le-ltb 65535 c h)

  pub commit_refuses : 65535 < c → step (commit c k) s ≡ refused Malformed
  unfolding step committed
  commit_refuses h = rw (p, lt-ltb 65535 c h)

  ran_store : ran.store ≡ apply_all (take k (commit_writes c s)) s
  unfolding committing
  ran_store = run_store (by c) k (writes (by c) s) 0 s ∙ ap (λ (ws : List Write). apply_all (take k ws) s) (permitted_is c s)

  ran_made : ran.made ≡ min k (length (commit_writes c s))
  unfolding committing
  ran_made =
      run_made (by c) k (writes (by c) s) 0 s
      ∙ ap (λ (ws : List Write). 0 + min k (length ws)) (permitted_is c s)
      ∙ omega arith

  pub stop_is : c ≤ 65535 → stop_at c k s ≡ released (apply_all (take k (commit_writes c s)) s)
  stop_is h =
      ap (λ (r : Reply). leaves r s) (commit_runs h)
      ∙ ended_leaves ran ran.stop s
      ∙ ap released ran_store

  -- demand 3, a
  pub stopped_at_lem : c ≤ 65535 → StoppedAt c k s
  stopped_at_lem h =
      let e : stop_at c k s ≡ released (apply_all (take k (commit_writes c s)) s) = stop_is h in
      let t : Store = apply_all (take k (commit_writes c s)) s in
      record {
        count = ap reported (commit_runs h) ∙ ended_reports ran ran.stop ∙ ap {B = Option ℕ} Some ran_made;
        refs = ap refs e ∙ released_refs t;
        logs = ap (λ (x : Store). x.lines) e ∙ released_log t;
        setting = ap (λ (x : Store). x.setting) e ∙ released_setting t ∙ apply_all_setting (take k (commit_writes c s)) s;
        gone = ap (λ (x : Store). x.prepared) e ∙ released_gone t;
        free = λ n. ap (λ (x : Store). is_lock Ours (entry_at x n).lock) e ∙ released_free t n;
        packed_free = ap (λ (x : Store). is_lock Ours x.packed_lock) e ∙ released_packed_free t;
        foreign = λ n.
            ap (λ (x : Store). is_lock Foreign (entry_at x n).lock) e
            ∙ released_foreign t n
            ∙ ap (is_lock Foreign) (apply_all_lock (take k (commit_writes c s)) s n);
        packed_foreign =
            ap (λ (x : Store). is_lock Foreign x.packed_lock) e
            ∙ released_packed_foreign t
            ∙ ap (is_lock Foreign) (apply_all_packed_lock (take k (commit_writes c s)) s);
      }

-- ---- a stop, as a number of the whole list's first writes; a committer past 65,535 is refused, and makes none

abbrev pub made_by : ℕ → ℕ → Store → ℕ
made_by c k s = cond (ltb 65535 c) 0 (min k (length (commit_writes c s)))

pub made_mono : (c k j : ℕ) (s : Store) → k ≤ j → made_by c k s ≤ made_by c j s
made_mono c k j s h = go (ltb 65535 c)
  where
    go : (t : Bool) → cond t 0 (min k (length (commit_writes c s))) ≤ cond t 0 (min j (length (commit_writes c s)))
    go true = omega arith
    go false = omega arith

module _ (s : Store) (p : is_prepared s.prepared ≡ true) (c k : ℕ) where
  -- whatever releasing leaves as it is: at the stop it is what it is after the first writes
  at_stop : {A : Type 0} (f : Store → A) → ((t : Store) → f (released t) ≡ f t) → f (stop_at c k s) ≡ f (apply_all (take (made_by c k s) (writes (by c) s)) s)
  at_stop f h = go (ltb 65535 c) refl
    where
      go : (t : Bool) → ltb 65535 c ≡ t → f (stop_at c k s) ≡ f (apply_all (take (made_by c k s) (writes (by c) s)) s)
      go true e = rw e (ap (λ (r : Reply). f (leaves r s)) (commit_refuses s p c k (ltb-true 65535 c e)))
      go false e =
          rw e
          (ap f (stop_is s p c k (ltb-false 65535 c e))
          ∙ h (apply_all (take k (commit_writes c s)) s)
          ∙ ap (λ (ws : List Write). f (apply_all (take k ws) s)) (sym (permitted_is c s))
          ∙ ap (λ (ws : List Write). f (apply_all ws s)) (take_permitted (by c) k (writes (by c) s))
          ∙ ap (λ (ws : List Write). f (apply_all (take (min k (length ws)) (writes (by c) s)) s)) (permitted_is c s))

  pub stop_reading : (n : NameNumber) → reading (stop_at c k s) n ≡ reading (apply_all (take (made_by c k s) (writes (by c) s)) s) n
  stop_reading n = at_stop (λ (t : Store). reading t n) (λ t. released_reading t n)

  pub stop_lines : (n : NameNumber) → lines_of (stop_at c k s) n ≡ lines_of (apply_all (take (made_by c k s) (writes (by c) s)) s) n
  stop_lines n = at_stop (λ (t : Store). lines_of t n) (λ t. released_lines t n)

  -- done: every write was made
  pub done_whole : (t : Store) (g : Given) → step (commit c k) s ≡ done t g → (t ≡ stop_at c k s) × (length (writes (by c) s) ≤ made_by c k s)
  unfolding committing
  done_whole t g e = go (ltb 65535 c) refl
    where
      go : (b : Bool) → ltb 65535 c ≡ b → (t ≡ stop_at c k s) × (length (writes (by c) s) ≤ made_by c k s)
      go true q = absurd (let r : refused Malformed ≡ done t g = sym (commit_refuses s p c k (ltb-true 65535 c q)) ∙ e in
          let z : ◌≡◌ {A = ℕ} 0 1 = cc in omega arith)
      go false q =
          let d = ended_done (committing (by c) k s) (committing (by c) k s).stop t g (sym (commit_runs s p c k (ltb-false 65535 c q)) ∙ e) in
          let w = run_whole (by c) k (writes (by c) s) 0 s d.0 in
          let l : length (commit_writes c s) ≡ length (writes (by c) s) = ap length (sym (permitted_is c s) ∙ w.0) in
          let m : length (writes (by c) s) ≤ k = w.1 in
          (sym (ap (λ (r : Reply). leaves r s) e), rw q (rw l (omega arith)))

-- demand 3, f: with committer 0 the writes made are those before the first log line
pub unsigned_stop : (s : Store) → is_prepared s.prepared ≡ true → (k made : ℕ) (t : Store) → step (commit 0 k) s ≡ stopped no_committer t made
    → (take made (writes (by 0) s) ≡ before_line (writes (by 0) s)) × (made < length (writes (by 0) s))
unfolding committing
unsigned_stop s p k made t e =
    let d = ended_stopped (committing (by 0) k s) (committing (by 0) k s).stop no_committer t made (sym (commit_runs s p 0 k (omega arith)) ∙ e) in
    let u = run_unsigned (by 0) k (writes (by 0) s) 0 s d.0 in
    let q : List Write = permitted (by 0) (writes (by 0) s) in
    let m : made ≡ min k (length q) = d.1 ∙ run_made (by 0) k (writes (by 0) s) 0 s ∙ omega arith in
    let l : length q < k = u.0 in
    let n : length q < length (writes (by 0) s) = u.1 in (
      ap (λ (j : ℕ). take j (writes (by 0) s)) m
          ∙ sym (take_permitted (by 0) k (writes (by 0) s))
          ∙ take_all k q (omega arith)
          ∙ permitted_is 0 s,
      omega arith,
    )
