-- The edit list: from bytes to edits, or malformed. Total on every list of numbers.
use Rattle.target.specs.declared.Target.{Target}
use Rattle.std.specs.Prelude.{Bool, true, false, ◌&&◌, not, cond, List, [], ◌∷◌, ◌++◌, ℕ, zero, suc, ◌+◌, ◌*◌, length, get_or, eqb, ltb, leb, Option, Some, None}
use Rattle.std.proofs.Math.Pow.{are_bytes}
use Rattle.word.specs.Be.{cut, val}
use Rattle.target.specs.declared.Target.TheVariants.{Object, Symbolic}
use Rattle.transaction.specs.declared.RefLog.{RefLog}
use Rattle.transaction.specs.declared.PreviousValue.{PreviousValue}
use Rattle.transaction.specs.declared.Change.{Change}
use Rattle.transaction.specs.declared.Change.TheVariants.{Update, Delete}
use Rattle.transaction.specs.declared.RefEdit.{RefEdit}
use Rattle.transaction.specs.Change.{new_value, previous_value}
use Rattle.transaction.specs.Fields.{ref_log_of, previous_of}
use Rattle.model.specs.Basic.{every}

infixl 20 ◌>>=◌
abbrev pub ◌>>=◌ : {A B : Type 0} → Option A → (A → Option B) → Option B
None >>= f = None
Some a >>= f = f a

-- ---- fields

-- 0 or 1
abbrev pub flag_of : ℕ → Option Bool
flag_of zero = Some false
flag_of (suc zero) = Some true
flag_of (suc (suc n)) = None

-- a target: kind byte 0 none, 1 object, 2 symbolic, and a number, which is 0 beside none. Object 0 is no target
abbrev pub target_of : ℕ → ℕ → Option (Option Target)
target_of zero n = cond (eqb n 0) (Some None) None
target_of (suc zero) n = cond (eqb n 0) None (Some (Some (Object (record { 0 = n }))))
target_of (suc (suc zero)) n = Some (Some (Symbolic (record { 0 = n })))
target_of (suc (suc (suc k))) n = None

-- kind 1 update, 2 delete. A new target stands exactly with update; a delete's force and message are 0
abbrev pub change_of : ℕ → RefLog → Bool → PreviousValue → Option Target → ℕ → Option Change
change_of zero log force expected new message = None
change_of (suc zero) log force expected None message = None
change_of (suc zero) log force expected (Some new) message =
    Some (Update (record { mode = log; force_create_reflog = force; message = message }) expected new)
change_of (suc (suc zero)) log force expected None message = cond (not force && eqb message 0) (Some (Delete expected log)) None
change_of (suc (suc zero)) log force expected (Some new) message = None
change_of (suc (suc (suc k))) log force expected new message = None

-- ---- a record of 27 bytes: kind, deref, log, force, expected, expected target, new target, name, message

abbrev pub byte_at : ℕ → List ℕ → ℕ
byte_at i l = get_or l i 0

unfoldable pub edit_of : List ℕ → Option RefEdit
edit_of r = do
  deref ← flag_of (byte_at 1 r)
  log ← (ref_log_of (byte_at 2 r))
  force ← flag_of (byte_at 3 r)
  target ← target_of (byte_at 5 r) (val (cut 6 8 r))
  expected ← (previous_of (byte_at 4 r) target)
  new ← target_of (byte_at 14 r) (val (cut 15 8 r))
  change ← change_of (byte_at 0 r) log force expected new (val (cut 25 2 r))
  Some (record { change = change; name = record { 0 = val (cut 23 2 r) }; deref = deref })

-- ---- the list: byte 0 is version 1, two bytes count all that follows, then a count n, 0 to 32, and n records

-- each record is a part of the list beginning at its own offset
unfoldable pub edits_from : ℕ → ℕ → List ℕ → Option (List RefEdit)
edits_from zero at l = Some []
edits_from (suc k) at l = do
  e ← edit_of (cut at 27 l)
  es ← edits_from k (at + 27) l
  Some (e ∷ es)

unfoldable pub is_framed : List ℕ → Bool
is_framed l =
    every
    (are_bytes l
    ∷ eqb (byte_at 0 l) 1
    ∷ eqb (3 + val (cut 1 2 l)) (length l)
    ∷ leb (byte_at 3 l) 32
    ∷ eqb (4 + byte_at 3 l * 27) (length l)
    ∷ [])

unfoldable pub edits_of : List ℕ → Option (List RefEdit)
edits_of l = cond (is_framed l) (edits_from (byte_at 3 l) 4 l) None

-- ---- the name numbers of an edit by place: expected target, new target, name

abbrev pub link_number : Option Target → List ℕ
link_number None = []
link_number (Some (Object o)) = []
link_number (Some (Symbolic n)) = n.0 ∷ []

unfoldable pub numbers_of : RefEdit → List ℕ
numbers_of e = link_number (previous_value e.change) ++ link_number (new_value e.change) ++ (e.name.0 ∷ [])

-- the first that is not below the count of names
abbrev pub first_out : ℕ → List ℕ → Option ℕ
first_out n [] = None
first_out n (x ∷ xs) = cond (ltb x n) (first_out n xs) (Some x)
