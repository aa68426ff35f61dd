-- Tables of worked examples: how a store is made by calls, what is asked of it, and what must come back.
use Rattle.std.specs.Prelude.{Option, Some, None}
use mathlib.Core.Path.{◌≡◌}
use mathlib.Core.List.{List, [], ◌∷◌, ◌++◌, map}
use Prim.Native.Nat.{ℕ, zero, suc, ◌+◌, ◌*◌}
use Prim.Native.String.{String}
use lib.ListN.{length}
use Rattle.word.specs.Be.{be}
use Rattle.target.specs.declared.Target.{Target}
use Rattle.target.specs.declared.Target.TheVariants.{Object, Symbolic}
use Rattle.model.specs.declared.WriteReflog.TheVariants.{Normal}
use Rattle.model.specs.Basic.{text, collect}
use Rattle.model.specs.Store.{Store, empty}
use Rattle.model.specs.Read.{reading}
use Rattle.model.specs.Due.{Stamp}
use Rattle.model.specs.Writes.{Write, PackedEdit, writes}
use Rattle.model.specs.Writes.Write.{append_line, write_loose, remove_log, remove_loose}
use Rattle.model.specs.Reply.{Call, Reply}
use Rattle.model.specs.Reply.Reply.{done, stopped, refused}
use Rattle.model.specs.Reply.Call.{start, add_name, load_loose, commit}
use Rattle.model.specs.Calls.{step}
use Rattle.model.specs.Numbers.{Answer, answer_of}

-- ---- the site of most examples: name 0 is `HEAD`, name 1 `refs/heads/aisle`, and HEAD links to the aisle

abbrev pub HEAD : ℕ
HEAD = 0

abbrev pub aisle : ℕ
aisle = 1

abbrev pub site : List Call
site = start 1 ∷ add_name (text "HEAD") ∷ add_name (text "refs/heads/aisle") ∷ load_loose HEAD 2 aisle ∷ []

abbrev pub blank : Store
blank = empty Normal

-- ---- edit lists, so that a table says what is meant: `through (update HEAD (object 7))`

pub record Wish : Type 0 where
  pub kind : ℕ
  pub deref : ℕ
  pub log : ℕ
  pub expected : ℕ
  pub was : List ℕ
  pub new : List ℕ
  pub name : ℕ
  pub message : ℕ

-- a target: its kind byte and its number in 8 bytes
abbrev pub object : ℕ → List ℕ
object o = 1 ∷ be 8 o

abbrev pub link : ℕ → List ℕ
link n = 2 ∷ be 8 n

abbrev pub no_target : List ℕ
no_target = 0 ∷ be 8 0

-- an update with message 3, a delete; nothing is expected
abbrev pub update : ℕ → List ℕ → Wish
update n new = record { kind = 1; deref = 0; log = 0; expected = 0; was = no_target; new = new; name = n; message = 3 }

abbrev pub delete : ℕ → Wish
delete n = record { kind = 2; deref = 0; log = 0; expected = 0; was = no_target; new = no_target; name = n; message = 0 }

-- through the name's links; of the log only; expecting 1 or 2; expecting 3 or 4 with a target
abbrev pub through : Wish → Wish
through w = record { kind = w.kind; deref = 1; log = w.log; expected = w.expected; was = w.was; new = w.new; name = w.name; message = w.message }

abbrev pub log_only : Wish → Wish
log_only w = record { kind = w.kind; deref = w.deref; log = 1; expected = w.expected; was = w.was; new = w.new; name = w.name; message = w.message }

abbrev pub matching : ℕ → List ℕ → Wish → Wish
matching k t w = record { kind = w.kind; deref = w.deref; log = w.log; expected = k; was = t; new = w.new; name = w.name; message = w.message }

abbrev pub expecting : ℕ → Wish → Wish
expecting k w = matching k no_target w

abbrev pub wish_bytes : Wish → List ℕ
wish_bytes w =
    w.kind ∷ w.deref ∷ w.log ∷ 0 ∷ w.expected ∷ w.was ++ w.new ++ be 2 w.name ++ be 2 w.message

-- the bytes of a list of edits
unfoldable pub list : List Wish → List ℕ
list ws = 1 ∷ be 2 (1 + length ws * 27) ++ (length ws ∷ collect wish_bytes ws)

-- ---- writes, by committer 1 and with message 3

abbrev pub log_moves : ℕ → ℕ → ℕ → Write
log_moves n old new =
    append_line (record { name = record { 0 = n }; previous = record { 0 = old }; new = record { 0 = new }; committer = 1; message = 3 })

abbrev pub loose_becomes : ℕ → Target → Write
loose_becomes n t = write_loose (record { 0 = n }) t

abbrev pub loose_goes : ℕ → Write
loose_goes n = remove_loose (record { 0 = n })

abbrev pub log_goes : ℕ → Write
log_goes n = remove_log (record { 0 = n })

abbrev pub packed_becomes : ℕ → ℕ → PackedEdit
packed_becomes n o = record { name = record { 0 = n }; value = Some (record { 0 = o }) }

abbrev pub packed_goes : ℕ → PackedEdit
packed_goes n = record { name = record { 0 = n }; value = None }

-- values, as a name reads them
abbrev pub the : ℕ → Target
the o = Object (record { 0 = o })

abbrev pub to : ℕ → Target
to n = Symbolic (record { 0 = n })

-- ---- asking

pub data Ask : Type 0 where
  call : Call → Ask
  ordered_writes : Ask
  reads_at_every_stop : ℕ → Ask

pub data Seen : Type 0 where
  answered : Answer → Seen
  written : List Write → Seen
  readings : List (Option Target) → Seen

abbrev pub committer1 : Stamp
committer1 = record { committer = 1 }

abbrev pub leaves : Reply → Store → Store
leaves (done s g) t = s
leaves (stopped why s made) t = s
leaves (refused r) t = t

-- what the name reads after commit with k, k + 1, .. writes allowed
abbrev pub stopping : ℕ → ℕ → ℕ → Store → List (Option Target)
stopping n zero k s = reading (leaves (step (commit 1 k) s) s) (record { 0 = n }) ∷ []
stopping n (suc left) k s = reading (leaves (step (commit 1 k) s) s) (record { 0 = n }) ∷ stopping n left (k + 1) s

-- a name's bytes stand at no offset here: the store knows none
abbrev pub asked : Ask → Store → Seen
asked (call c) s = answered (answer_of (λ n. 0) (step c s))
asked ordered_writes s = written (writes committer1 s)
asked (reads_at_every_stop n) s = readings (stopping n (length (writes committer1 s)) 0 s)

abbrev pub after : Ask → Store → Store
after (call c) s = leaves (step c s) s
after ordered_writes s = s
after (reads_at_every_stop n) s = s

-- ---- cases

-- a question with what must come back
pub record Line : Type 0 where
  pub ask : Ask
  pub seen : Seen

infix 90 ◌⇒◌
abbrev pub ◌⇒◌ : Call → Answer → Line
c ⇒ a = record { ask = call c; seen = answered a }

abbrev pub in_order : List Write → Line
in_order ws = record { ask = ordered_writes; seen = written ws }

abbrev pub at_every_stop : ℕ → List (Option Target) → Line
at_every_stop n ts = record { ask = reads_at_every_stop n; seen = readings ts }

pub record Case : Type 0 where
  pub title : String
  pub store : Store
  pub made : List Call
  pub lines : List Line

-- every call that makes the store is done, or there is no store
abbrev pub done_with : Reply → Option Store
done_with (done s g) = Some s
done_with (stopped why s made) = None
done_with (refused r) = None

abbrev pub making : List Call → Option Store → Option Store
making [] s = s
making (c ∷ cs) None = None
making (c ∷ cs) (Some s) = making cs (done_with (step c s))

abbrev pub asking : List Line → Store → List Seen
asking [] s = []
asking (l ∷ ls) s = asked l.ask s ∷ asking ls (after l.ask s)

abbrev pub asking_of : List Line → Option Store → List Seen
asking_of ls None = []
asking_of ls (Some s) = asking ls s

abbrev pub seen_in : Case → List Seen
seen_in c = asking_of c.lines (making c.made (Some c.store))

abbrev pub wanted_in : Case → List Seen
wanted_in c = map (λ (l : Line). l.seen) c.lines

-- every line of every case comes out as the table says
unfoldable pub Right : List Case → Type 0
Right table = map seen_in table ≡ map wanted_in table
