-- Where a reader stands in a text, and what is known there: the lines before it are read, and the rest is still to be.
use Rattle.std.specs.Prelude.{◌≡◌, true, false, cond, List, [], ◌∷◌, ◌++◌, ℕ, ◌+◌, ◌-◌, ◌≤◌, ◌<◌, ◌^◌, length, take, drop, eqb, Option, Some, None}
use Rattle.std.proofs.Common.{ControlFlow, Break, Continue}
use Rattle.word.specs.Be.{cut}
use Rattle.model.specs.declared.Refusal.TheVariants.{BadLoad, MalformedLine}
use Rattle.model.specs.Basic.{collect}
use Rattle.model.specs.Names.{pieces}
use Rattle.model.specs.PackedText.{Ref, line_feed, ref_in, End, Reading, read_lines, read_text}
use Rattle.model.specs.PackedText.End.{whole, faulty}
use Rattle.texts.specs.declared.Said.{Said}
use Rattle.texts.specs.declared.Said.TheVariants as said
use Rattle.texts.specs.declared.walk.Ending.{Ending}
use Rattle.texts.specs.declared.walk.Ending.TheVariants as ending
use Rattle.texts.specs.declared.walk.Place.{Place}
use Rattle.texts.specs.declared.walk.Checked.{Checked}

-- ---- refs by lines

abbrev pub refs_of : Option Ref → List Ref
refs_of None = []
refs_of (Some r) = r ∷ []

-- the refs of the ref lines, whatever else stands between them
abbrev pub refs_in : List (List ℕ) → List Ref
refs_in ls = collect (λ l. refs_of (ref_in l)) ls

-- those of the first lines of a text
unfoldable pub first_refs : ℕ → List ℕ → List Ref
first_refs k t = refs_in (take k (pieces line_feed t))

-- ---- a step

abbrev pub unended_as : ℕ → ControlFlow Ending Place
unended_as length = cond (eqb length 0) (Break ending.Whole) (Break ending.Malformed)

abbrev pub past_as : Place → ℕ → Said → ControlFlow Ending Place
past_as p length said.Malformed = Break ending.Malformed
past_as p length said.Unpackable = Break ending.Unpackable
past_as p length said.Nothing = Continue (record { at = p.at + length + 1; lines = p.lines + 1; refs = p.refs; last = p.last; end = p.end; direct = false })
past_as p length said.Ref = Continue (record { at = p.at + length + 1; lines = p.lines + 1; refs = p.refs + 1; last = p.at + 41; end = p.at + length; direct = true })

-- its numbers fit 64 bits
pub record Roomy (p : Place) (length : ℕ) : Type 0 where
  pub at : p.at + length + 1 < 2 ^ 64
  pub name : p.at + 41 < 2 ^ 64
  pub lines : p.lines + 1 < 2 ^ 64
  pub refs : p.refs + 1 < 2 ^ 64

-- ---- a place

-- what is still to be read
unfoldable pub read_from : List ℕ → Place → Reading
read_from t p = read_lines (pieces line_feed (drop p.at t)) (p.lines + 1) (cut p.last (p.end - p.last) t) p.direct

-- behind refs that are read
abbrev pub onto : List Ref → Reading → Reading
onto rs x = record { refs = rs ++ x.refs; end = x.end }

pub record At (t : List ℕ) (p : Place) : Type 0 where
  pub inside : p.at ≤ length t
  pub name : p.last ≤ p.end
  pub named : p.end ≤ length t
  pub few : p.lines ≤ p.at
  pub fewer : p.refs ≤ p.lines
  pub left : drop p.lines (pieces line_feed t) ≡ pieces line_feed (drop p.at t)
  pub refs : p.refs ≡ length (first_refs p.lines t)
  pub reads : read_text t ≡ onto (first_refs p.lines t) (read_from t p)

-- the end, or line i at fault
abbrev pub end_by : Ending → ℕ → End
end_by ending.Whole i = whole
end_by ending.Malformed i = faulty i (MalformedLine i)
end_by ending.Unpackable i = faulty i BadLoad

-- the next line is read, or none is
abbrev pub Goes : List ℕ → Place → ControlFlow Ending Place → Type 0
Goes t p (Break e) = read_from t p ≡ record { refs = []; end = end_by e (p.lines + 1) }
Goes t p (Continue q) = At t q × (p.at < q.at)

-- a whole text
pub record Checks (t : List ℕ) (c : Checked) : Type 0 where
  pub lines : c.lines < length (pieces line_feed t)
  pub few : c.lines ≤ length t
  pub refs : c.refs ≡ length (first_refs c.lines t)
  pub reads : read_text t ≡ record { refs = first_refs c.lines t; end = end_by c.ending (c.lines + 1) }
