-- Reads: what each way out answers. Assumes nothing.
use Rattle.std.specs.Prelude.{Option, Some, None, Ok, Err}
use Rattle.target.specs.declared.Target.{Target}
use mathlib.Core.Path.{◌≡◌, refl, sym, ap, ◌∙◌}
use mathlib.Core.Bool.{Bool, true, false, not, cond}
use mathlib.Core.List.{List, [], ◌∷◌, ◌++◌}
use Prim.Native.Nat.{ℕ, ◌<◌, ◌≤◌}
use native.Mathlib.Omega.{arith}
use lib.ListN.{length, get_or}
use lib.Dec.{ltb, leb}
use borrow.Author.Tests.{lt-leb, le-leb, ltb-true, ltb-false}
use Rattle.target.specs.declared.NameNumber.{NameNumber}
use Rattle.target.specs.declared.Found.{Found}
use Rattle.target.specs.Found.{value_in}
use Rattle.target.specs.Fields.{name_below, target_byte, target_number, place_number}
use Rattle.transaction.specs.declared.Edit.{Edit}
use Rattle.model.specs.declared.Line.{Line}
use Rattle.model.specs.declared.Refusal.TheVariants.{NotRegistered, NothingThere}
use Rattle.model.specs.Store.{count, entry_of, lines_of, rows_in, mode_in, no_line}
use Rattle.model.specs.Read.{found_of}
use Rattle.model.specs.Rows.{row_at, opens}
use Rattle.model.specs.Reply.Reply.{done}
use Rattle.model.specs.Numbers.{answer, found_places, row_places}
use Rattle.model.specs.Reply.Call.{read_name, read_line, read_row}
use Rattle.model.specs.Reply.Given.{value, line, row}
use Rattle.model.specs.Calls.{step, name_read, line_read, row_found, row_read}
use Rattle.region.specs.Region.{view, good}
use Rattle.steps.specs.Steps.{line_among}
use Rattle.answers.specs.declared.Verdict.{Verdict}
use Rattle.answers.specs.Answers.{answer_by}
use Rattle.calls.specs.Call.{reply_to, Replied}
use Rattle.calls.proofs.Replies.{says_no, says_read}
use Rattle.calls.proofs.Known.{known_far, known_near, known_as}

-- a line at a place is there exactly where the place is below the count
no_line_lem : (place : ℕ) (ls : List Line) → None ≡ line_among place ls → leb (length ls) place ≡ true
no_line_lem place ls h = go (ltb place (length ls)) refl h
  where
    go : (b : Bool) → ltb place (length ls) ≡ b → None ≡ cond b (Some (get_or ls place no_line)) None → leb (length ls) place ≡ true
    go true e h = absurd (let z : ◌≡◌ {A = ℕ} 0 1 = cc in omega arith)
    go false e h = le-leb (length ls) place (ltb-false place (length ls) e)

a_line : (place : ℕ) (ls : List Line) (x : Line) → Some x ≡ line_among place ls → (leb (length ls) place ≡ false) × (x ≡ get_or ls place no_line)
a_line place ls x h = go (ltb place (length ls)) refl h
  where
    go : (b : Bool) → ltb place (length ls) ≡ b → Some x ≡ cond b (Some (get_or ls place no_line)) None
        → (leb (length ls) place ≡ false) × (x ≡ get_or ls place no_line)
    go true e h = (lt-leb (length ls) place (ltb-true place (length ls) e), cc)
    go false e h = absurd (let z : ◌≡◌ {A = ℕ} 0 1 = cc in omega arith)

module _ (r : List ℕ) (ok : Bool) (is : ok ≡ good r) (y : not ok ≡ false) where
  module _ (n : ℕ) (o : Option NameNumber) (e : o ≡ name_below (count (view r)) n) where
    pub name_far : o ≡ None → Replied (Err (NotRegistered n)) r r (reply_to (read_name n) r)
    unfolding step name_read
    name_far h = says_no (read_name n) r ok is refl y (NotRegistered n) (rw (known_far n (view r) o e h))

    pub line_far : (place : ℕ) → o ≡ None → Replied (Err (NotRegistered n)) r r (reply_to (read_line n place) r)
    unfolding step line_read
    line_far place h = says_no (read_line n place) r ok is refl y (NotRegistered n) (rw (known_far n (view r) o e h))

    module _ (m : NameNumber) (h : o ≡ Some m) where
      as_named : m ≡ record { 0 = n }
      as_named = known_as n (view r) o e m h

      pub name_done : (x : Verdict) (f : Found) (v : Option Target) (b k p : ℕ) → f ≡ found_of true (entry_of (view r) m) → v ≡ value_in f
          → b ≡ target_byte v → k ≡ target_number v → p ≡ place_number f
          → answer_by x ≡ answer 0 (b ∷ k ∷ p ∷ []) → Replied (Ok x) r r (reply_to (read_name n) r)
      unfolding step name_read
      name_done x f v b k p ef ev eb ek ep a =
          let is_read : f ≡ found_of true (entry_of (view r) (record { 0 = n })) = ef ∙ ap (λ (m : NameNumber). found_of true (entry_of (view r) m)) as_named in
          says_read (read_name n) r ok is refl y x (value (found_of true (entry_of (view r) (record { 0 = n })))) (rw (known_near n (view r) o e m h))
          (a ∙ rw (eb, ek, ep, ev) refl ∙ ap (λ (f : Found). answer 0 (found_places f)) is_read)

      module _ (place : ℕ) (l : Option Line) (el : l ≡ line_among place (lines_of (view r) m)) where
        among : l ≡ line_among place (lines_of (view r) (record { 0 = n }))
        among = el ∙ ap (λ (m : NameNumber). line_among place (lines_of (view r) m)) as_named

        pub line_none : l ≡ None → Replied (Err NothingThere) r r (reply_to (read_line n place) r)
        unfolding step line_read
        line_none g =
            let q : None ≡ line_among place (lines_of (view r) (record { 0 = n })) = (sym g) ∙ among in
            says_no (read_line n place) r ok is refl y NothingThere
            (rw (known_near n (view r) o e m h, no_line_lem place (lines_of (view r) (record { 0 = n })) q))

        pub line_done : (x : Verdict) (t : Line) → l ≡ Some t → answer_by x ≡ answer 0 (t.previous.0 ∷ t.new.0 ∷ t.committer ∷ t.message ∷ [])
            → Replied (Ok x) r r (reply_to (read_line n place) r)
        unfolding step line_read
        line_done x t g a =
            let q : Some t ≡ line_among place (lines_of (view r) (record { 0 = n })) = (sym g) ∙ among in
            let there = a_line place (lines_of (view r) (record { 0 = n })) t q in
            says_read (read_line n place) r ok is refl y x (line t) (rw (known_near n (view r) o e m h, there.0, there.1)) a

  -- ---- a row

  module _ (place k : ℕ) (e : k ≡ length (rows_in (view r).prepared)) where
    pub row_far : k ≤ place → Replied (Err NothingThere) r r (reply_to (read_row place) r)
    unfolding step row_read
    row_far l =
        let b : length (rows_in (view r).prepared) ≤ place = rw e at l in
        says_no (read_row place) r ok is refl y NothingThere (rw (le-leb _ _ b))

    pub row_done : (x : Verdict) → place < k → (t : Edit) (seen : Bool) (f : Found) → t ≡ row_at (rows_in (view r).prepared) place
        → seen ≡ opens (view r) (mode_in (view r).prepared) (rows_in (view r).prepared) → f ≡ found_of seen (entry_of (view r) t.update.name)
        → answer_by x ≡ answer 0 (row_places t ++ (place_number f ∷ [])) → Replied (Ok x) r r (reply_to (read_row place) r)
    unfolding step row_read row_found
    row_done x l t seen f h es ef a =
        let b : place < length (rows_in (view r).prepared) = rw e at l in
        let is_found : f ≡ row_found (view r) t = ef ∙ ap (λ (seen : Bool). found_of seen (entry_of (view r) t.update.name)) es in
        let is_read : step (read_row place) (view r) ≡ done (view r) (row t f) = rw (lt-leb _ _ b, is_found, h) in
        says_read (read_row place) r ok is refl y x (row t f) is_read a

pub row_near : (r : List ℕ) (place k : ℕ) → k ≡ length (rows_in (view r).prepared) → place < k → place < length (rows_in (view r).prepared)
row_near r place k e l = rw e at l
