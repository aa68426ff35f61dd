-- What is told of a write, and what the buffer holds then. Assumes nothing.
use Rattle.std.specs.Prelude.{Option, Some, None, Ok, Err}
use Rattle.model.specs.declared.Refusal.TheVariants.{UnknownVersion, ShortBuffer}
use mathlib.Core.Path.{◌≡◌, refl, sym, ◌∙◌}
use mathlib.Core.Bool.{Bool, true, false, not, false≢true}
use mathlib.Core.List.{List}
use Prim.Native.Nat.{ℕ, ◌-◌, ◌<◌, ◌≤◌}
use native.Mathlib.Nat.{sub-zero}
use native.Mathlib.Omega.{arith}
use lib.ListN.{length, take, drop}
use lib.Seq.{length-take-le}
use lib.Dec.{leb}
use borrow.Author.Tests.{le-leb, lt-leb, not-true, not-false}
use Rattle.word.specs.Cut.{put}
use Rattle.model.specs.declared.Refusal.TheVariants.{MalformedRecord}
use Rattle.settings.specs.Format.{Committer, Settings, is_version, form, write}
use Rattle.settings.specs.Lent.{committers_given, settings_given, write_given}
use Rattle.scribe.specs.Writing.{given_writable, content_length, settings_from, length_for, Ready, Wrote}
use Rattle.scribe.proofs.Given.{writable_given, writable_small}
use Rattle.scribe.proofs.Record.{length_form}

-- another version
pub unknown : (b : List ℕ) (v : ℕ) (o : Option Settings) (t : Bool) → t ≡ is_version v → not t ≡ true
    → Wrote (Err UnknownVersion) b b (write_given v o)
unfolding write_given
unknown b v o t e h =
    let z : is_version v ≡ false = sym e ∙ not-true t h in record { told = rw z; left = rw z }

-- settings that cannot be written
malformed : (v : ℕ) (o : Option Settings) → is_version v ≡ true → given_writable v o ≡ false → write_given v o ≡ Err MalformedRecord
unfolding write_given write
malformed v None e h = rw e
malformed v (Some s) e h = rw (e, h)

-- they are refused, and the buffer stays
pub refused : (b : List ℕ) (v : ℕ) (o : Option Settings) (t u : Bool) → t ≡ is_version v → not t ≡ false
    → u ≡ given_writable v o → not u ≡ true → Wrote (Err MalformedRecord) b b (write_given v o)
refused b v o t u e h f k =
    let z : write_given v o ≡ Err MalformedRecord = malformed v o (sym e ∙ not-false t h) (sym f ∙ not-true u k) in
    record { told = rw z; left = rw z }

module _ (v log mode site : ℕ) (n l s : List ℕ) (t u : Bool) (e : t ≡ is_version v) (h : not t ≡ false)
    (f : u ≡ given_writable v (settings_given log mode site (committers_given n l s))) (k : not u ≡ false) where
  -- the settings can be written
  fits : given_writable v (settings_given log mode site (committers_given n l s)) ≡ true
  fits = sym f ∙ not-false u k

  -- the version is known
  version : is_version v ≡ true
  version = sym e ∙ not-false t h

  -- what is written where committers are given
  passed : (o : Option (List Committer)) → committers_given n l s ≡ o → given_writable v (settings_given log mode site o) ≡ true
      → write_given v (settings_given log mode site o) ≡ Ok (form v (settings_from log mode site n l s))
  unfolding write_given write
  passed None g w = absurd (false≢true w)
  passed (Some cs) g w = rw (version, w, g)

  -- the record is written
  written : write_given v (settings_given log mode site (committers_given n l s)) ≡ Ok (form v (settings_from log mode site n l s))
  written = passed (committers_given n l s) refl fits

  -- it is as long as the code counts
  long : length (form v (settings_from log mode site n l s)) ≡ length_for v (content_length n s)
  long = length_form v log mode site n l s (writable_given v log mode site n l s fits)

  -- the content is short
  pub small : content_length n s < 65536
  small = omega (arith, writable_small v log mode site n l s fits)

  module _ (b : List ℕ) (size : ℕ) (is : size ≡ length_for v (content_length n s)) where
    -- a buffer that is too short stays
    pub short : length b < size
        → Wrote (Err ShortBuffer) b b (write_given v (settings_given log mode site (committers_given n l s)))
    short g =
        let z : leb (length (form v (settings_from log mode site n l s))) (length b) ≡ false =
        lt-leb (length (form v (settings_from log mode site n l s))) (length b) (rw (long, ← is) g) in
        record { told = rw (written, z); left = rw (written, z) }

    -- what is lent of the buffer is as long as the record
    pub ready : size ≤ length b → Ready v log mode site n l s (take (size - 0) (drop 0 b))
    ready g = record {
      version = version;
      fits = fits;
      sized = rw sub-zero (length-take-le size b g ∙ is);
    }

    -- the record stands at the beginning, and what is behind it stays
    pub done : (r : List ℕ) → size ≤ length b → r ≡ form v (settings_from log mode site n l s)
        → Wrote (Ok size) b (put 0 (size - 0) b r) (write_given v (settings_given log mode site (committers_given n l s)))
    done r g p =
        let z : leb (length (form v (settings_from log mode site n l s))) (length b) ≡ true =
        le-leb (length (form v (settings_from log mode site n l s))) (length b) (rw (long, ← is) g) in
        record { told = rw (written, z, long, is); left = rw (written, z, sub-zero, p, long, is) }
