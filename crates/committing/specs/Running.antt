-- What a write needs of a store, and a run of writes as far as it has come.
use Rattle.std.specs.Prelude.{◌≡◌, Bool, true, false, List, [], ◌∷◌, ◌++◌, ◌⊎◌, ℕ, ◌+◌, ◌≤◌, ◌<◌, length, Option, Some, None}
use Rattle.model.specs.Store.{Store, count}
use Rattle.model.specs.Due.{Stamp}
use Rattle.model.specs.Writes.{Write, apply}
use Rattle.model.specs.Commit.{Run, Stop, run}
use Rattle.model.specs.Commit.Stop.{no_committer, used_up}
use Rattle.model.specs.Numbers.{stop_number}
use Rattle.slots.specs.Values.{FitsTarget, FitsLine}
use Rattle.region.specs.Region.{view, Laid}
use Rattle.rows.specs.Rows.{Named, Apart}
use Rattle.writes.specs.declared.NextWrite.{NextWrite}
use Rattle.writes.specs.declared.NextWrite.TheVariants.{AppendLine, WriteLoose, RemoveLog, WritePacked, RemoveLoose}
use Rattle.writes.specs.Next.{rows_of, first_at, second_at}
use Rattle.committing.specs.declared.Halt.{Halt}
use Rattle.committing.specs.declared.Halt.TheVariants.{NoCommitter, UsedUp}
use Rattle.committing.specs.declared.Ran.{Ran}

-- ---- what a write needs: room for a line, registered names, values that their bytes can hold

unfoldable pub Makes : Store → Option NextWrite → Type 0
Makes s None = Unit {0}
Makes s (Some (AppendLine l)) = (length s.lines < 1024) × FitsLine l
Makes s (Some (WriteLoose n t)) = (n.0 < count s) × FitsTarget t
Makes s (Some (RemoveLog n)) = Unit {0}
Makes s (Some WritePacked) = Named s × Apart (rows_of s)
Makes s (Some (RemoveLoose n)) = n.0 < count s

-- ---- which write it is

abbrev pub is_line_write : Option NextWrite → Bool
is_line_write None = false
is_line_write (Some (AppendLine l)) = true
is_line_write (Some (WriteLoose n t)) = false
is_line_write (Some (RemoveLog n)) = false
is_line_write (Some WritePacked) = false
is_line_write (Some (RemoveLoose n)) = false

-- ---- a run

-- why the model's run stopped, if it has
abbrev pub stop_of : Option Halt → Option Stop
stop_of None = None
stop_of (Some NoCommitter) = Some no_committer
stop_of (Some UsedUp) = Some used_up

-- and the number that the caller gets
abbrev pub number_of : Option Stop → ℕ
number_of None = 0
number_of (Some why) = stop_number why

abbrev pub halt_number : Option Halt → ℕ
halt_number h = number_of (stop_of h)

-- the run that has come so far, with these writes before it
abbrev pub onward : Stamp → Ran → Option Stop → List Write → Store → Run
onward stamp a None ws s = run stamp a.left ws a.made s
onward stamp a (Some why) ws s = record { store = s; made = a.made; stop = Some why }

unfoldable pub rest : Stamp → Ran → List Write → Store → Run
rest stamp a ws s = onward stamp a (stop_of a.stop) ws s

-- What a turn with these writes comes to: whatever writes follow, the run goes on to what it was to come to; and the store is as
-- it was, or the turn has one write, and it is made.
pub record Turned (stamp : Stamp) (a : Ran) (us : List Write) (b : Ran) (r r' : List ℕ) : Type 0 where
  pub laid : Laid r'
  pub goes : (ws : List Write) → rest stamp b ws (view r') ≡ rest stamp a (us ++ ws) (view r)
  pub made : b.made ≤ a.made + 1
  pub store : (view r' ≡ view r) ⊎ ((w : Write) × (us ≡ w ∷ []) × (view r' ≡ apply w (view r)))

-- the two turns of a place, with the run and the region between them
pub record Placed (stamp : Stamp) (a : Ran) (k : ℕ) (b : Ran) (r r' : List ℕ) : Type 0 where
  pub half : Ran
  pub between : List ℕ
  pub size : length between ≡ length r
  pub first : Turned stamp a (first_at stamp (view r) k) half r between
  pub second : Turned stamp half (second_at (view between) k) b between r'

-- a run that is over: the region holds its store
pub record RanOut (z : Run) (a : Ran) (r : List ℕ) : Type 0 where
  pub laid : Laid r
  pub run : record { store = view r; made = a.made; stop = stop_of a.stop } ≡ z
