-- Demand 3 and the rules at work: the statements of specs/Demand3.antt as tests that compute, passed by stores that the tables of
-- examples make. The theorems hold of every reached store; these show at a glance which sentence a changed definition breaks.
-- Assumes nothing.
use Rattle.std.specs.Prelude.{Option, Some, None}
use Rattle.target.specs.declared.Target.{Target}
use mathlib.Core.Path.{◌≡◌, refl}
use mathlib.Core.Bool.{Bool, true, false, ◌&&◌, ◌||◌, not, cond}
use mathlib.Core.List.{List, [], ◌∷◌, ◌++◌, map}
use Prim.Native.Nat.{ℕ, zero, suc}
use lib.ListN.{length, take}
use lib.Dec.{leb, eqb}
use Rattle.target.specs.Target.{same_option}
use Rattle.transaction.specs.declared.Edit.{Edit}
use Rattle.transaction.specs.Change.{is_delete}
use Rattle.transaction.specs.Fields.{packed_refs_number}
use Rattle.model.specs.declared.Line.{Line}
use Rattle.model.specs.declared.Lock.TheVariants.{Ours}
use Rattle.model.specs.Basic.{text, any, all, collect, is_empty}
use Rattle.model.specs.Names.{same_bytes}
use Rattle.model.specs.Store.{Store, Entry, lines_of, mode_in, is_lock}
use Rattle.model.specs.Read.{value_of, reading}
use Rattle.model.specs.Rows.{name_in, change_in}
use Rattle.model.specs.Writes.{writes}
use Rattle.model.specs.Fine.{fine}
use Rattle.model.specs.Reply.{Call}
use Rattle.model.specs.Reply.Call.{add_name, load_loose, load_packed, prepare, commit}
use Rattle.model.specs.Calls.{step}
use Rattle.model.specs.Numbers.{option_places}
use Rattle.model.specs.Demand3.{rows, commit_writes, apply_all, stop_at, reported, old, new}
use Rattle.model.proofs.AtWork.Cases.{HEAD, aisle, site, blank, update, delete, through, log_only, object, link, list, making, committer1, log_moves, loose_becomes, the}
use Rattle.model.proofs.AtWork.Open.{open_all}

-- ---- the stores

abbrev bay : ℕ
bay = 2

-- the aisle and the bay, each with a value and a log line
abbrev stocked : List Call
stocked =
    site
    ++ (add_name (text "refs/heads/Bay") ∷ prepare (list (update aisle (object 5) ∷ update bay (object 4) ∷ [])) 1 ∷ commit 1 100 ∷ [])

abbrev transactions : List (List Call)
transactions =
    (site ++ (prepare (list (through (update HEAD (object 7)) ∷ [])) 1 ∷ []))
    ∷ (stocked ++ (load_packed aisle 1 3 ∷ prepare (list (delete aisle ∷ [])) 1 ∷ []))
    ∷ (stocked ++ (prepare (list (delete bay ∷ through (update HEAD (object 7)) ∷ [])) 1 ∷ []))
    ∷ (stocked ++ (load_loose bay 0 0 ∷ load_packed bay 1 4 ∷ prepare (list (delete bay ∷ update aisle (object 7) ∷ [])) 2 ∷ []))
    ∷ (stocked ++ (load_packed bay 1 4 ∷ prepare (list (delete bay ∷ update aisle (object 7) ∷ [])) 3 ∷ []))
    ∷ (stocked ++ (prepare (list (log_only (delete bay) ∷ update HEAD (object 7) ∷ update aisle (link bay) ∷ [])) 3 ∷ []))
    ∷ []

-- a case whose calls are not all done counts for nothing, so there must be as many stores
abbrev with_store : Option Store → List Store → List Store
with_store None ss = ss
with_store (Some s) ss = s ∷ ss

abbrev stores_of : List (List Call) → List Store
stores_of [] = []
stores_of (cs ∷ css) = with_store (making cs (Some blank)) (stores_of css)

abbrev stores : List Store
stores = stores_of transactions

-- 0 to n
abbrev up_to : ℕ → List ℕ
up_to zero = 0 ∷ []
up_to (suc n) = up_to n ++ (suc n ∷ [])

abbrev stops : ℕ → Store → List ℕ
stops c s = up_to (length (commit_writes c s))

-- ---- the statements as tests

abbrev ours : Store → Bool
ours s = any (λ (e : Entry). is_lock Ours e.lock) s.entries || is_lock Ours s.packed_lock

-- a: what is left at each stop, as numbers: what each name reads with the packed table seen and not, and the lines
abbrev numbers : Store → List ℕ
numbers s =
    collect (λ (e : Entry). option_places (value_of true e) ++ option_places (value_of false e)) s.entries
    ++ collect (λ (l : Line). l.name.0 ∷ l.previous.0 ∷ l.new.0 ∷ l.committer ∷ l.message ∷ []) s.lines

abbrev counts : Option ℕ → ℕ → Bool
counts None k = false
counts (Some n) k = eqb n k

abbrev stopped_at : Store → ℕ → Bool
stopped_at s k =
    counts (reported (step (commit 1 k) s)) k
    && same_bytes (numbers (stop_at 1 k s)) (numbers (apply_all (take k (commit_writes 1 s)) s))
    && not (ours (stop_at 1 k s))

-- b: a name outside the rows reads as before
abbrev in_rows : Store → ℕ → Bool
in_rows s n = any (λ (r : Edit). eqb (name_in r).0 n) (rows s)

abbrev untouched : Store → ℕ → Bool
untouched s n =
    in_rows s n
    || all (λ (k : ℕ). same_option (reading (stop_at 1 k s) (record { 0 = n })) (reading s (record { 0 = n }))) (stops 1 s)

-- c: old, then new, and never back
abbrev switches : Option Target → Option Target → List (Option Target) → Bool
switches x y [] = true
switches x y (v ∷ vs) = cond (same_option v y) (all (same_option y) vs) (same_option v x && switches x y vs)

abbrev switches_once : Store → Edit → Bool
switches_once s r = switches (old s r) (new s r) (map (λ (k : ℕ). reading (stop_at 1 k s) (name_in r)) (stops 1 s))

-- d: no log left once a deletion shows
abbrev shows : Store → ℕ → Edit → Bool
shows s k r = is_delete (change_in r) && not (same_option (old s r) None) && same_option (reading (stop_at 1 k s) (name_in r)) None

abbrev logless : Store → ℕ → Bool
logless s k = all (λ (r : Edit). not (shows s k r) || is_empty (lines_of (stop_at 1 k s) (name_in r))) (rows s)

-- e: in modes 1 and 2 every update shows before
abbrev updated : Store → ℕ → Bool
updated s k = all (λ (r : Edit). is_delete (change_in r) || same_option (reading (stop_at 1 k s) (name_in r)) (new s r)) (rows s)

abbrev updates_first : Store → ℕ → Bool
updates_first s k = not (leb (packed_refs_number (mode_in s.prepared)) 2) || not (any (shows s k) (rows s)) || updated s k

-- f: all new at the end
abbrev all_new : Store → Bool
all_new s = all (λ (r : Edit). same_option (reading (stop_at 1 (length (commit_writes 1 s)) s) (name_in r)) (new s r)) (rows s)

abbrev each : (Store → Bool) → List Bool
each test = map test stores

abbrev passed : List Bool
passed = true ∷ true ∷ true ∷ true ∷ true ∷ true ∷ []

-- ---- and they pass

-- P1's order: a log line comes before its ref
pub p1_at_work : map (writes committer1) (take 1 stores) ≡ (log_moves HEAD 0 7 ∷ log_moves aisle 0 7 ∷ loose_becomes aisle (the 7) ∷ []) ∷ []
unfolding open_all
p1_at_work = refl

pub b_at_work : each (λ (s : Store). all (untouched s) (HEAD ∷ aisle ∷ bay ∷ [])) ≡ passed
unfolding open_all
b_at_work = refl

pub f_at_work : each all_new ≡ passed
unfolding open_all
f_at_work = refl

pub a_at_work : each (λ (s : Store). all (stopped_at s) (stops 1 s)) ≡ passed
unfolding open_all
a_at_work = refl

pub e_at_work : each (λ (s : Store). all (updates_first s) (stops 1 s)) ≡ passed
unfolding open_all
e_at_work = refl

pub d_at_work : each (λ (s : Store). all (logless s) (stops 1 s)) ≡ passed
unfolding open_all
d_at_work = refl

pub c_at_work : each (λ (s : Store). all (switches_once s) (rows s)) ≡ passed
unfolding open_all
c_at_work = refl

-- the rules are kept at every stop
pub kept_at_work : each (λ (s : Store). all (λ (k : ℕ). fine (stop_at 1 k s)) (stops 1 s)) ≡ passed
unfolding open_all
kept_at_work = refl
