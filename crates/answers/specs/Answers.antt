-- The answer record: 16 places of 8 bytes; and the answer that a verdict of the code is.
use Rattle.std.specs.Prelude.{Result, Ok, Err, Bool, true, ◌||◌, List, ℕ, eqb}
use Rattle.word.specs.Be.{be}
use Rattle.model.specs.Basic.{collect}
use Rattle.model.specs.declared.Refusal.{Refusal}
use Rattle.model.specs.Numbers.{Answer, refusal_answer}
use Rattle.answers.specs.declared.Verdict.{Verdict}

unfoldable pub record_of : List ℕ → List ℕ
record_of places = collect (be 8) places

-- one to one: a verdict has an answer's two parts and nothing else
abbrev pub answer_by : Verdict → Answer
answer_by v = record { number = v.number; places = v.places }

-- what a call comes to: a verdict, or a refusal with its number and places
abbrev pub answered : Result Verdict Refusal → Answer
answered (Ok v) = answer_by v
answered (Err r) = refusal_answer r

-- the numbers of what is no refusal: a call is done, or a commit was stopped part way
abbrev pub is_ending : ℕ → Bool
is_ending n = eqb n 0 || eqb n 16 || eqb n 17

-- a refusal is handed on as one: no verdict has a refusal's number
abbrev pub is_apart : Result Verdict Refusal → Bool
is_apart (Ok v) = is_ending v.number
is_apart (Err r) = true
