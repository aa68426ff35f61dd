-- R1, the splits of symbolic refs, and the duplicates that are judged after it: the port of ext.rs.
use Rattle.model.specs.declared.Refusal.{Refusal}
use Rattle.std.specs.Prelude.{true, false, cond, List, [], ◌∷◌, ◌++◌, map, ℕ, zero, suc, ◌+◌, length, ltb, Option, Some, None, Result, Ok, Err}
use Rattle.target.specs.declared.NameNumber.{NameNumber}
use Rattle.target.specs.Target.{same_name, try_name}
use Rattle.transaction.specs.declared.RefLog.TheVariants.{Only}
use Rattle.transaction.specs.declared.PreviousValue.TheVariants.{Any}
use Rattle.transaction.specs.declared.Change.{Change}
use Rattle.transaction.specs.declared.Change.TheVariants.{Update, Delete}
use Rattle.transaction.specs.declared.Edit.{Edit}
use Rattle.model.specs.declared.Loose.{Loose}
use Rattle.model.specs.declared.Loose.TheVariants as loose
use Rattle.model.specs.declared.Refusal.TheVariants.{ReferenceCycle, TooManyRows, MultipleEdits}
use Rattle.model.specs.Basic.{any}
use Rattle.model.specs.Names.{before}
use Rattle.model.specs.Store.{Store, entry_of, name_of}
use Rattle.model.specs.Rows.{name_in, change_in}

-- R1: links are looked up in the loose value of exactly that name; broken, absent or an object means no split
abbrev pub link_in : Loose → Option NameNumber
link_in loose.None = None
link_in (loose.Target t) = try_name t
link_in loose.Broken = None

-- the name that a row's own name leads to, where the row is to be dereferenced
unfoldable pub referent : Store → Edit → Option NameNumber
referent s r = cond r.update.deref (link_in (entry_of s (name_in r)).loose) None

-- R1: the parent becomes log-only. An update's expected value moves to the child and the parent's becomes Any; a delete's is
-- copied to both
abbrev pub parent_change : Change → Change
parent_change (Update log expected new) =
    Update (record { mode = Only; force_create_reflog = log.force_create_reflog; message = log.message }) Any new
parent_change (Delete expected log) = Delete expected Only

-- a row with another change, not dereferenced any more
abbrev pub settled_with : Change → Edit → Edit
settled_with c r = record {
  update = record { change = c; name = name_in r; deref = false };
  parent_index = r.parent_index;
  leaf_referent_previous_oid = r.leaf_referent_previous_oid;
}

abbrev pub settled : Option NameNumber → Edit → Edit
settled None r = settled_with (change_in r) r
settled (Some n) r = settled_with (parent_change (change_in r)) r

-- R1: the child takes the parent's kind, log, force, message and new target, and the expected value
abbrev pub child_of : Option NameNumber → ℕ → Edit → List Edit
child_of None i r = []
child_of (Some n) i r =
    record {
      update = record { change = change_in r; name = n; deref = true };
      parent_index = Some i;
      leaf_referent_previous_oid = record { 0 = 0 };
    } ∷ []

unfoldable pub settle_all : Store → List Edit → List Edit
settle_all s rows = map (λ (r : Edit). settled (referent s r) r) rows

-- the children of rows that stand from place i on
abbrev pub children_from : Store → ℕ → List Edit → List Edit
children_from s i [] = []
children_from s i (r ∷ rs) = child_of (referent s r) i r ++ children_from s (i + 1) rs

-- R1: a round settles the newest rows and appends their children, which are the next round's newest. A round that yields
-- none ends it; where `left` rounds are over and there still are newest rows, that is refused with 4
unfoldable pub rounds : Store → ℕ → List Edit → List Edit → Result (List Edit) Refusal
rounds s zero old [] = Ok old
rounds s zero old (r ∷ rs) = Err ReferenceCycle
rounds s (suc left) old [] = Ok old
rounds s (suc left) old (r ∷ rs) =
    cond (ltb 160 (length old + length (r ∷ rs)))
    (Err TooManyRows)
    (rounds s left (old ++ settle_all s (r ∷ rs)) (children_from s (length old) (r ∷ rs)))

-- R1: round 5 still yielding is refused
unfoldable pub splits : Store → List Edit → Result (List Edit) Refusal
splits s rows = rounds s 5 [] rows

-- ---- 6: two rows, one name

-- the names that stand again further on
abbrev pub repeated : List NameNumber → List NameNumber
repeated [] = []
repeated (n ∷ ns) = cond (any (same_name n) ns) (n ∷ repeated ns) (repeated ns)

-- the least in byte order
abbrev pub lesser : Store → NameNumber → Option NameNumber → Option NameNumber
lesser s n None = Some n
lesser s n (Some m) = cond (before (name_of s n) (name_of s m)) (Some n) (Some m)

abbrev pub least : Store → List NameNumber → Option NameNumber
least s [] = None
least s (n ∷ ns) = lesser s n (least s ns)

abbrev pub or_multiple : Option NameNumber → Result (Unit {0}) Refusal
or_multiple None = Ok tt
or_multiple (Some n) = Err (MultipleEdits n)

unfoldable pub one_name_one_edit : Store → List Edit → Result (Unit {0}) Refusal
one_name_one_edit s rows = or_multiple (least s (repeated (map name_in rows)))
