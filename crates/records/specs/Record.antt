-- What the calls on a settings record do with it and with the answer record. No region is lent to them: the one buffer is the record
-- that is read, or the buffer that is written.
use Rattle.model.specs.declared.Refusal.{Refusal}
use Rattle.std.specs.Prelude.{cond, List, [], ◌∷◌, ℕ, length, get_or, ltb, Option, Result, Ok, Err}
use Rattle.word.specs.Be.{cut}
use Rattle.model.specs.declared.Refusal.TheVariants.{NothingThere}
use Rattle.model.specs.Numbers.{Answer, answer, refusal_answer}
use Rattle.settings.specs.Format.{Settings, read}
use Rattle.settings.specs.Lent.{committer_at, name_at, write_given, fitted, afterwards}
use Rattle.calls.specs.Call.{Out, Kept, kept_call}

-- read: the version that the reader knows, and a committer's place; write: the version, and the settings given, if any are
pub data RecordCall : Type 0 where
  read_settings : ℕ → RecordCall
  read_committer : ℕ → ℕ → RecordCall
  write_settings : ℕ → Option Settings → RecordCall

-- ---- answers

-- log setting, usual mode, site, and how many committers
abbrev pub settings_answer : Result Settings Refusal → Answer
settings_answer (Err x) = refusal_answer x
settings_answer (Ok s) = answer 0 (s.log ∷ s.mode ∷ s.site ∷ length s.committers ∷ [])

-- its number, and where its name stands in the record, offset and length. 22: no such place
abbrev pub committer_answer : ℕ → Result Settings Refusal → Answer
committer_answer i (Err x) = refusal_answer x
committer_answer i (Ok s) =
    cond (ltb i (length s.committers))
    (answer 0 ((committer_at s i).number ∷ name_at i s ∷ length (committer_at s i).name ∷ []))
    (refusal_answer NothingThere)

-- how long the record is that was written
abbrev pub write_answer : Result (List ℕ) Refusal → Answer
write_answer (Err x) = refusal_answer x
write_answer (Ok r) = answer 0 (length r ∷ [])

-- ---- the call: its answer, and the buffer as it is left

unfoldable pub kept : RecordCall → List ℕ → Kept
kept (read_settings known) b = record { answer = settings_answer (read known b); buffer = b }
kept (read_committer known i) b = record { answer = committer_answer i (read known b); buffer = b }
kept (write_settings v given) b = record {
  answer = write_answer (fitted b (write_given v given));
  buffer = afterwards b (fitted b (write_given v given));
}

unfoldable pub record_call : RecordCall → List ℕ → List ℕ → Out
record_call c b a = kept_call (kept c b) b a

-- ---- below the exports

-- the bytes of a committer's name, handed back as a part of the record: what stands at the offset and length that read_committer answers.
-- A refusal answers length 0
abbrev pub stretch : List ℕ → List ℕ → List ℕ
stretch places b = cut (get_or places 1 0) (get_or places 2 0) b

unfoldable pub committer_part : ℕ → ℕ → List ℕ → List ℕ
committer_part known i b = stretch (kept (read_committer known i) b).answer.places b
