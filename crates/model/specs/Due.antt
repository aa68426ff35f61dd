-- The log line that an update row is due.
use Rattle.std.specs.Prelude.{Bool, ◌&&◌, ◌||◌, not, cond, List, [], ◌∷◌, map, ℕ, Option, Some, None}
use Rattle.target.specs.declared.NameNumber.{NameNumber}
use Rattle.target.specs.declared.ObjectNumber.{ObjectNumber}
use Rattle.target.specs.declared.Target.{Target}
use Rattle.target.specs.declared.Target.TheVariants.{Object, Symbolic}
use Rattle.target.specs.Target.{same_object, try_id}
use Rattle.transaction.specs.declared.PreviousValue.{PreviousValue}
use Rattle.transaction.specs.declared.PreviousValue.TheVariants.{Any, MustExist, MustNotExist, MustExistAndMatch, ExistingMustMatch}
use Rattle.transaction.specs.declared.Change.{Change}
use Rattle.transaction.specs.declared.Change.TheVariants.{Update, Delete}
use Rattle.transaction.specs.declared.Edit.{Edit}
use Rattle.transaction.specs.Change.{id_of, matched, force_of, message_of}
use Rattle.model.specs.declared.Line.{Line}
use Rattle.model.specs.Basic.{is_empty, when, collect}
use Rattle.model.specs.Names.{is_disabled, logs}
use Rattle.model.specs.Store.{Store, name_of, lines_of}
use Rattle.model.specs.Rows.{name_in, change_in}

-- who commits: what a log line carries besides its move
pub record Stamp : Type 0 where
  pub committer : ℕ

-- what a line tells: the object before (0 if none) and the object after
pub record Move : Type 0 where
  pub previous : ObjectNumber
  pub new : ObjectNumber

abbrev pub null : ObjectNumber
null = record { 0 = 0 }

abbrev pub or_leaf : Option ObjectNumber → ObjectNumber → ObjectNumber
or_leaf None leaf = leaf
or_leaf (Some o) leaf = o

-- commit.rs gives previous and new of an object: what was there, else the leaf-previous. Equal means none
abbrev pub object_move : PreviousValue → ObjectNumber → ObjectNumber → List Move
object_move expected leaf new =
    let previous : ObjectNumber = or_leaf (id_of (matched expected)) leaf in
    when (not (same_object previous new)) (record { previous = previous; new = new })

-- a symbolic new target has a line only where expected is still 4 with an object: previous 0, new that object
abbrev pub clone_move : Option ObjectNumber → List Move
clone_move None = []
clone_move (Some o) = record { previous = null; new = o } ∷ []

abbrev pub symbolic_move : PreviousValue → List Move
symbolic_move Any = []
symbolic_move MustExist = []
symbolic_move MustNotExist = []
symbolic_move (MustExistAndMatch t) = []
symbolic_move (ExistingMustMatch t) = clone_move (try_id t)

abbrev pub target_move : Target → PreviousValue → ObjectNumber → List Move
target_move (Object new) expected leaf = object_move expected leaf new
target_move (Symbolic n) expected leaf = symbolic_move expected

abbrev pub move_of : Change → ObjectNumber → List Move
move_of (Update log expected new) leaf = target_move new expected leaf
move_of (Delete expected log) leaf = []

abbrev pub has_lines : Store → NameNumber → Bool
has_lines s n = not (is_empty (lines_of s n))

-- setting 0 never writes; else a line is written if the name has lines, or force is set, or the setting's own rule says so
unfoldable pub is_logged : Store → Edit → Bool
is_logged s r =
    not (is_disabled s.setting)
    && (has_lines s (name_in r) || force_of (change_in r) || logs s.setting (name_of s (name_in r)))

abbrev pub line_by : Stamp → Edit → Move → Line
line_by stamp r m = record { name = name_in r; previous = m.previous; new = m.new; committer = stamp.committer; message = message_of (change_in r) }

-- the row's due line, if any
unfoldable pub due_line : Stamp → Store → Edit → List Line
due_line stamp s r = cond (is_logged s r) (map (line_by stamp r) (move_of (change_in r) r.leaf_referent_previous_oid)) []

-- how many lines the rows are due, whoever commits
abbrev pub unsigned : Stamp
unsigned = record { committer = 0 }

abbrev pub due_lines : Store → List Edit → List Line
due_lines s rows = collect (due_line unsigned s) rows
