-- The calls on a settings record: what each of their ways out answers. Assumes nothing.
use Rattle.std.specs.Prelude.{Option, Some, None, Result, Ok, Err}
use Rattle.model.specs.declared.Refusal.{Refusal}
use mathlib.Core.Path.{◌≡◌, refl, sym, ap, ◌∙◌}
use mathlib.Core.Bool.{Bool, true, false, ◌&&◌, cond}
use mathlib.Core.List.{List, [], ◌∷◌}
use Prim.Native.Nat.{ℕ}
use lib.ListN.{length}
use lib.Dec.{ltb, leb}
use lib.Pow.{are_bytes}
use Rattle.model.specs.declared.Refusal.TheVariants.{MalformedRecord, UnknownVersion, NothingThere}
use Rattle.model.specs.Outcome.{or_refuse}
use Rattle.model.specs.Numbers.{Answer, answer, refusal_answer}
use Rattle.settings.specs.Format.{Settings, is_version, settings_in, read_as, read}
use Rattle.settings.specs.Lent.{write_given, fitted}
use Rattle.reader.specs.declared.Summary.{Summary}
use Rattle.reader.specs.declared.Stretch.{Stretch}
use Rattle.reader.specs.Reading.{told, stretch_of, committer_found, stretch_in}
use Rattle.scribe.specs.Writing.{length_in, Wrote}
use Rattle.answers.specs.declared.Verdict.{Verdict}
use Rattle.answers.specs.Answers.{answer_by, answered, is_apart}
use Rattle.answers.proofs.Apart.{ends}
use Rattle.calls.specs.Call.{Keeps}
use Rattle.records.specs.Record.{settings_answer, committer_answer, write_answer, kept, stretch, committer_part}
use Rattle.records.specs.Record.RecordCall.{read_settings, read_committer, write_settings}

-- ---- reading settings

abbrev summary_answer : Result Summary Refusal → Answer
summary_answer (Err x) = refusal_answer x
summary_answer (Ok m) = answer 0 (m.log ∷ m.mode ∷ m.site ∷ m.committers ∷ [])

module _ (known : ℕ) (b : List ℕ) (o : Result Summary Refusal) (e : o ≡ told (read known b)) where
  settings_so : (v : Result Verdict Refusal) → answered v ≡ summary_answer o → is_apart v ≡ true → Keeps v b (kept (read_settings known) b)
  unfolding kept
  settings_so v a p = record { answer = a ∙ ap summary_answer e ∙ go (read known b); apart = p; buffer = refl }
    where
      go : (w : Result Settings Refusal) → summary_answer (told w) ≡ settings_answer w
      go (Err x) = refl
      go (Ok s) = refl

  pub settings_refused : (x : Refusal) → o ≡ Err x → Keeps (Err x) b (kept (read_settings known) b)
  settings_refused x h = settings_so (Err x) (ap summary_answer (sym h)) refl

  pub settings_read : (v : Verdict) (m : Summary) → o ≡ Ok m → answer_by v ≡ answer 0 (m.log ∷ m.mode ∷ m.site ∷ m.committers ∷ [])
      → Keeps (Ok v) b (kept (read_settings known) b)
  settings_read v m h a = settings_so (Ok v) (a ∙ ap summary_answer (sym h)) (ends v _ refl a)

-- ---- reading a committer

abbrev stretch_answer : Result Stretch Refusal → Answer
stretch_answer (Err x) = refusal_answer x
stretch_answer (Ok s) = answer 0 (s.number ∷ s.at ∷ s.length ∷ [])

found_answer : (i : ℕ) (w : Result Settings Refusal) → stretch_answer (committer_found i w) ≡ committer_answer i w
found_answer i (Err x) = refl
found_answer i (Ok s) = go (ltb i (length s.committers))
  where
    go : (t : Bool)
        → stretch_answer (cond t (Ok (stretch_of i s)) (Err NothingThere))
        ≡ cond t (stretch_answer (Ok (stretch_of i s))) (refusal_answer NothingThere)
    go true = refl
    go false = refl

module _ (known i : ℕ) (b : List ℕ) (o : Result Stretch Refusal) (e : o ≡ committer_found i (read known b)) where
  committer_so : (v : Result Verdict Refusal) → answered v ≡ stretch_answer o → is_apart v ≡ true → Keeps v b (kept (read_committer known i) b)
  unfolding kept
  committer_so v a p = record { answer = a ∙ ap stretch_answer e ∙ found_answer i (read known b); apart = p; buffer = refl }

  pub committer_refused : (x : Refusal) → o ≡ Err x → Keeps (Err x) b (kept (read_committer known i) b)
  committer_refused x h = committer_so (Err x) (ap stretch_answer (sym h)) refl

  pub committer_found_lem : (v : Verdict) (s : Stretch) → o ≡ Ok s → answer_by v ≡ answer 0 (s.number ∷ s.at ∷ s.length ∷ 0 ∷ [])
      → Keeps (Ok v) b (kept (read_committer known i) b)
  committer_found_lem v s h a = committer_so (Ok v) (a ∙ ap stretch_answer (sym h)) (ends v _ refl a)

-- a reader refuses with these two numbers alone
pub read_cases : (P : Result Settings Refusal → Type 0) (known : ℕ) (b : List ℕ) → P (Err UnknownVersion) → P (Err MalformedRecord)
    → ((s : Settings) → P (Ok s)) → P (read known b)
unfolding read
read_cases P known b u m f = known_or (is_version known)
  where
    formed : (o : Option Settings) → P (or_refuse MalformedRecord o)
    formed None = m
    formed (Some s) = f s

    version_or : (t : Bool) (o : Option Settings) → P (cond t (or_refuse MalformedRecord o) (Err UnknownVersion))
    version_or true o = formed o
    version_or false o = u

    formed_as : (b : List ℕ) → P (read_as known b)
    formed_as [] = m
    formed_as (v ∷ r) = version_or (is_version v && leb v known) (cond (are_bytes r) (settings_in v r) None)

    known_or : (t : Bool) → P (cond t (read_as known b) (Err UnknownVersion))
    known_or true = formed_as b
    known_or false = u

-- the part is what stands at the offset and length that are answered
pub part_answered : (known i : ℕ) (b p : List ℕ) → p ≡ stretch_in (committer_found i (read known b)) b → p ≡ committer_part known i b
unfolding committer_part kept refusal_answer
part_answered known i b p e =
    e
    ∙ read_cases (λ (w : Result Settings Refusal). stretch_in (committer_found i w) b ≡ stretch (committer_answer i w).places b) known b refl refl
    (λ s. go s (ltb i (length s.committers)))
  where
    go : (s : Settings) (t : Bool)
        → stretch_in (cond t (Ok (stretch_of i s)) (Err NothingThere)) b
        ≡ stretch (cond t (stretch_answer (Ok (stretch_of i s))) (refusal_answer NothingThere)).places b
    go s true = refl
    go s false = refl

-- ---- writing

abbrev length_answer : Result ℕ Refusal → Answer
length_answer (Err x) = refusal_answer x
length_answer (Ok n) = answer 0 (n ∷ [])

module _ (version : ℕ) (given : Option Settings) (b b' : List ℕ) (w : Result ℕ Refusal) (d : Wrote w b b' (write_given version given)) where
  write_so : (v : Result Verdict Refusal) → answered v ≡ length_answer w → is_apart v ≡ true → Keeps v b' (kept (write_settings version given) b)
  unfolding kept
  write_so v a p = record { answer = a ∙ ap length_answer d.told ∙ go (fitted b (write_given version given)); apart = p; buffer = d.left }
    where
      go : (o : Result (List ℕ) Refusal) → length_answer (length_in o) ≡ write_answer o
      go (Err x) = refl
      go (Ok r) = refl

  pub write_refused : (x : Refusal) → w ≡ Err x → Keeps (Err x) b' (kept (write_settings version given) b)
  write_refused x h = write_so (Err x) (ap length_answer (sym h)) refl

  pub write_written : (v : Verdict) (n : ℕ) → w ≡ Ok n → answer_by v ≡ answer 0 (n ∷ []) → Keeps (Ok v) b' (kept (write_settings version given) b)
  write_written v n h a = write_so (Ok v) (a ∙ ap length_answer (sym h)) (ends v _ refl a)
