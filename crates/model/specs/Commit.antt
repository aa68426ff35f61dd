-- Commit, write by write, and rollback.
use Rattle.std.specs.Prelude.{Bool, true, false, ◌&&◌, cond, List, [], ◌∷◌, map, ℕ, zero, suc, ◌+◌, length, eqb, Option, Some, None}
use Rattle.model.specs.declared.Lock.{Lock}
use Rattle.model.specs.declared.Lock.TheVariants.{Free, Foreign, Ours}
use Rattle.model.specs.Basic.{select}
use Rattle.model.specs.Store.{Store, Entry, put_lock}
use Rattle.model.specs.Due.{Stamp}
use Rattle.model.specs.Writes.{Write, writes, apply}
use Rattle.model.specs.Writes.Write.{append_line, write_loose, remove_log, write_packed, remove_loose}

-- ---- after commit (a stopped one too) or rollback no transaction is prepared and ours locks are free

abbrev pub freed : Lock → Lock
freed Free = Free
freed Foreign = Foreign
freed Ours = Free

unfoldable pub released : Store → Store
released s = record {
  entries = map (λ (e : Entry). put_lock (freed e.lock) e) s.entries;
  packed_lock = freed s.packed_lock;
  lines = s.lines;
  setting = s.setting;
  prepared = None;
}

-- ---- commit

-- why commit stopped: a log line had no committer (16), or the allowance was used up (17)
pub data Stop : Type 0 where
  no_committer : Stop
  used_up : Stop

-- what a run of writes leaves, how many it made, and why it stopped, if it did
pub record Run : Type 0 where
  pub store : Store
  pub made : ℕ
  pub stop : Option Stop

abbrev pub is_line : Write → Bool
is_line (append_line l) = true
is_line (write_loose n t) = false
is_line (remove_log n) = false
is_line (write_packed ps) = false
is_line (remove_loose n) = false

-- how many lines these writes append
abbrev pub lines_in : List Write → ℕ
lines_in ws = length (select is_line ws)

-- before each write: allowance used up, 17; else a log line without committer, 16
unfoldable pub run : Stamp → ℕ → List Write → ℕ → Store → Run
run stamp allowance [] made s = record { store = s; made = made; stop = None }
run stamp zero (w ∷ ws) made s = record { store = s; made = made; stop = Some used_up }
run stamp (suc k) (w ∷ ws) made s =
    cond (is_line w && eqb stamp.committer 0)
    (record { store = s; made = made; stop = Some no_committer })
    (run stamp k ws (made + 1) (apply w s))

unfoldable pub committing : Stamp → ℕ → Store → Run
committing stamp allowance s = run stamp allowance (writes stamp s) 0 s
