-- What a reader tells of a record: each of its ways out. Assumes nothing.
use Rattle.std.specs.Prelude.{Option, Some, None, Err, ok_or}
use mathlib.Core.Path.{◌≡◌, refl, sym, ap, ◌∙◌}
use mathlib.Core.Bool.{Bool, true, false, not, ◌&&◌, cond}
use mathlib.Core.List.{List, [], ◌∷◌}
use Prim.Native.Nat.{ℕ, ◌≤◌, ◌<◌}
use native.Mathlib.Omega.{arith}
use lib.ListN.{length, get_or, drop}
use lib.Dec.{leb}
use mir.Syntax.{w8}
use mir.Val.{Fits}
use borrow.Author.Tests.{not-true, not-false, le-leb, lt-leb}
use Rattle.word.specs.Be.{cut, val}
use Rattle.word.proofs.Be.{bytes_all, bytes_are, bytes_drop}
use Rattle.model.specs.declared.Refusal.{Refusal}
use Rattle.model.specs.declared.Refusal.TheVariants.{MalformedRecord, UnknownVersion}
use Rattle.model.specs.Outcome.{or_refuse}
use Rattle.settings.specs.Format.{Settings, is_version, settings_in, read_as, read}
use Rattle.reader.specs.declared.Summary.{Summary}
use Rattle.reader.specs.Reading.{summary_in, told}
use Rattle.reader.proofs.Entries.{byte}

-- the version of a record that has one
by_version : (known : ℕ) (r : List ℕ) (v : ℕ) → ((i : ℕ) → Fits w8 (get_or r i 0)) → (length r ≡ 0 → ⊥) → v ≡ val (cut 0 1 r)
    → read_as known r ≡ cond (is_version v && leb v known) (or_refuse MalformedRecord (settings_in v (drop 1 r))) (Err UnknownVersion)
by_version known [] v b l e = absurd (l refl)
by_version known (x ∷ r) v b l e =
    let bytes = bytes_drop 1 (bytes_all (x ∷ r) (λ i. (b i).fits)) in
    rw (bytes_are bytes)
    (ap (λ (v : ℕ). cond (is_version v && leb v known) (or_refuse MalformedRecord (settings_in v r)) (Err UnknownVersion)) (sym (e ∙ byte x)))

told_or : (o : Option Settings) → told (or_refuse MalformedRecord o) ≡ or_refuse MalformedRecord (summary_in o)
told_or None = refl
told_or (Some s) = refl

or_refused : (o : Option Summary) (x : Refusal) → ok_or o x ≡ or_refuse x o
or_refused None x = refl
or_refused (Some s) x = refl

module _ (known : ℕ) (r : List ℕ) (k : Bool) (ek : k ≡ is_version known) where
  pub read_stranger : not k ≡ true → Err UnknownVersion ≡ told (read known r)
  unfolding read
  read_stranger h =
      ap (λ (t : Bool). told (cond t (read_as known r) (Err UnknownVersion))) (sym (sym ek ∙ not-true k h))

  module _ (y : not k ≡ false) where
    knows : read known r ≡ read_as known r
    unfolding read
    knows = ap (λ (t : Bool). cond t (read_as known r) (Err UnknownVersion)) (sym ek ∙ not-false k y)

    pub read_empty : length r ≡ 0 → Err MalformedRecord ≡ told (read known r)
    read_empty h = sym (ap told knows ∙ go r h)
      where
        go : (r : List ℕ) → length r ≡ 0 → told (read_as known r) ≡ Err MalformedRecord
        go [] e = refl
        go (b ∷ r) e = absurd (omega arith)

    module _ (b : (i : ℕ) → Fits w8 (get_or r i 0)) (l : length r ≡ 0 → ⊥) (v : ℕ) (ev : v ≡ val (cut 0 1 r)) (m : Bool) (em : m ≡ is_version v) where
      by : (t : Bool) → (is_version v && leb v known) ≡ t
          → told (read known r) ≡ told (cond t (or_refuse MalformedRecord (settings_in v (drop 1 r))) (Err UnknownVersion))
      by t e =
          ap told (knows ∙ by_version known r v b l ev)
          ∙ ap (λ (t : Bool). told (cond t (or_refuse MalformedRecord (settings_in v (drop 1 r))) (Err UnknownVersion))) e

      pub read_unknown : not m ≡ true → Err UnknownVersion ≡ told (read known r)
      read_unknown h = sym (by false (ap (λ (t : Bool). t && leb v known) (sym em ∙ not-true m h)))

      module _ (z : not m ≡ false) where
        tests : (is_version v && leb v known) ≡ leb v known
        tests = ap (λ (t : Bool). t && leb v known) (sym em ∙ not-false m z)

        pub read_newer : known < v → Err UnknownVersion ≡ told (read known r)
        read_newer h = sym (by false (tests ∙ lt-leb v known h))

        pub read_is : v ≤ known → (o : Option Summary) → o ≡ summary_in (settings_in v (drop 1 r)) → ok_or o MalformedRecord ≡ told (read known r)
        read_is w o e =
            or_refused o MalformedRecord
            ∙ sym (by true (tests ∙ le-leb v known w) ∙ told_or (settings_in v (drop 1 r)) ∙ ap (or_refuse MalformedRecord) (sym e))
