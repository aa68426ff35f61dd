-- Demand 3 holds over bytes: the proofs of the statements of specs/Demand3.antt. Each is the model's, of the store that is seen in
-- the region. Assumes nothing.
use mathlib.Core.Path.{◌≡◌, refl, ap, ◌∙◌}
use mathlib.Core.Bool.{true}
use mathlib.Core.Logic.{⊎_elim, inl, inr}
use Prim.Native.Nat.{ℕ, ◌<◌}
use lib.ListN.{length, take}
use Rattle.model.specs.declared.Lock.TheVariants.{Foreign, Ours}
use Rattle.model.specs.Store.{Store, entry_at, lines_of, is_lock, is_prepared}
use Rattle.model.specs.Read.{reading}
use Rattle.model.specs.Rows.{name_in}
use Rattle.model.specs.Writes.{writes}
use Rattle.model.specs.Commit.Stop.{no_committer}
use Rattle.model.specs.Reply.{Reply}
use Rattle.model.specs.Reply.Reply.{stopped}
use Rattle.model.specs.Reply.Call.{commit}
use Rattle.model.specs.Calls.{step}
use Rattle.model.specs.Reached.{Reached, leaves}
use Rattle.model.specs.Demand3.{refs, reported, by, before_line, old}
use Rattle.model.proofs.RowFacts.{held}
use Rattle.model.proofs.Demand3 as model
use Rattle.region.specs.Region.{view}
use Rattle.calls.specs.Call.{out_of}
use Rattle.calls.specs.Demand3.{value_bytes, prepared_row, RegionA, RegionB, RegionOld, RegionC₁, RegionC₂, RegionD, RegionE, RegionF₁, RegionF₂}
use Rattle.calls.proofs.Answered.{new_fits, reads_to, reads_of}
use Rattle.calls.proofs.Ended.{numbered, reports, done_by, unsigned_by}
use Rattle.calls.proofs.Stopped.{before, after, ruled, answered, left_by, stop_reads, row_reads, row_reading}

-- a: the first k writes, and the count
pub region_a : RegionA
unfolding out_of
region_a c k r n a r' x h =
    let m = model.a (view r) (before x).1 x.prepared c h k in
    record {
      before = (before x).0;
      after = (after x).0;
      number = (answered x).code ∙ numbered (view r) x.prepared c k h;
      count = (answered x).answer ∙ reports (view r) x.prepared c k _ m.count;
      refs = ap refs (left_by x) ∙ m.refs;
      logs = ap (λ (s : Store). s.lines) (left_by x) ∙ m.logs;
      setting = ap (λ (s : Store). s.setting) (left_by x) ∙ m.setting;
      gone = ap (λ (s : Store). s.prepared) (left_by x) ∙ m.gone;
      free = λ n. ap (λ (s : Store). is_lock Ours (entry_at s n).lock) (left_by x) ∙ m.free n;
      packed_free = ap (λ (s : Store). is_lock Ours s.packed_lock) (left_by x) ∙ m.packed_free;
      foreign = λ n. ap (λ (s : Store). is_lock Foreign (entry_at s n).lock) (left_by x) ∙ m.foreign n;
      packed_foreign = ap (λ (s : Store). is_lock Foreign s.packed_lock) (left_by x) ∙ m.packed_foreign;
    }

-- b: outside the rows
pub region_b : RegionB
region_b c k r n a r' x m outside t reads =
    let o = reads_of r (before x).0 m t reads in
    stop_reads x m o.0 t
    (ap value_bytes (model.b (view r) (before x).1 x.prepared c k m outside) ∙ o.1)

-- c: old before, then old or new, and never back
pub region_old : RegionOld
region_old c k r n a r' x i h =
    reads_to r (before x).0 (name_in (prepared_row r i)) (held (view r) (ruled x) i h) (old (view r) (prepared_row r i)) refl

pub region_c₁ : RegionC₁
region_c₁ c k r n a r' x i h =
    ⊎_elim (λ e. inl (row_reads x i h e)) (λ e. inr (row_reads x i h e)) (model.c₁ (view r) (before x).1 x.prepared c k i h)

pub region_c₂ : RegionC₂
region_c₂ c k j r n m a b r' r'' x y l i h reads =
    row_reads y i h
    (model.c₂ (view r) (before x).1 x.prepared c k j i h l (row_reading x i (new_fits (view r) (ruled x) i h) reads))

-- d: no log left
pub region_d : RegionD
region_d c k r n a r' x i h deletes reads =
    ap (λ (s : Store). lines_of s (name_in (prepared_row r i))) (left_by x)
    ∙ model.d (view r) (before x).1 x.prepared c k i h deletes (row_reading x i tt reads)

-- e: updates first
pub region_e : RegionE
region_e c k r n a r' x mode i j h g deletes reads update =
    row_reads x j g (model.e (view r) (before x).1 x.prepared mode c k i j h g deletes (row_reading x i tt reads) update)

-- f: all new at the end, and before the first log line without a committer
pub region_f₁ : RegionF₁
unfolding out_of
region_f₁ c k r a r' x i h =
    let d = done_by (view r) x.prepared c k (answered x).code in
    row_reads x i h
    (ap (λ (reply : Reply). reading (leaves reply (view r)) (name_in (prepared_row r i))) d.2
    ∙ model.f₁ (view r) (before x).1 x.prepared c k d.0 d.1 d.2 i h)

unsigned_stop : (s : Store) → Reached s → is_prepared s.prepared ≡ true → (c k : ℕ) (t : Store) (made : ℕ) → c ≡ 0
    → step (commit c k) s ≡ stopped no_committer t made
    → (take made (writes (by c) s) ≡ before_line (writes (by c) s)) × (made < length (writes (by c) s))
unsigned_stop s reached p c k t made z e = rw z (model.f₂ s reached p k made t (rw z at e))

pub region_f₂ : RegionF₂
unfolding out_of
region_f₂ c k r a r' x =
    let u = unsigned_by (view r) x.prepared c k (answered x).code in
    let m = unsigned_stop (view r) (before x).1 x.prepared c k u.1 u.2 u.0 u.3 in
    (u.2, u.0, (answered x).answer ∙ reports (view r) x.prepared c k u.2 (ap reported u.3), m.0, m.1)
