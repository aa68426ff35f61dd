-- What is proved of the settings record. Assumes nothing.
use mathlib.Core.Path.{◌≡◌, refl, sym, ap, subst, ◌∙◌}
use mathlib.Core.List.{List, ◌∷◌}
use Prim.Native.Nat.{ℕ, ◌≤◌}
use lib.ListN.{length, get_or}
use borrow.Author.Tests.{eqb-true}
use Rattle.word.specs.Be.{cut}
use Rattle.model.proofs.Binds.{pass_is}
use Rattle.settings.specs.Format.{write, read}
use Rattle.settings.specs.Lent.{committer_at, name_at}
use Rattle.settings.specs.Stated.{ReadWritten, WrittenRead, OneEncoding, OldRefuses, OldAgrees, OldSite, NameStands, Short}
use Rattle.settings.proofs.Whole.{Written, written, is_written, read_form, was_written, name_at_lem, form_short}

-- what was written is read
pub read_written : ReadWritten
read_written known v s r h k e =
    let w : Written v s r = written v s r e in
    ap (read known) (sym w.whole) ∙ read_form known v s h w.version k w.fine

-- what was read is written
pub written_read : WrittenRead
written_read known r s h = is_written (get_or r 0 0) s r (was_written known r s h)

-- one record for settings in a version
pub one_encoding : OneEncoding
one_encoding known known' r r' s e h g =
    pass_is (sym (written_read known r s h) ∙ ap (λ (v : ℕ). write v s) e ∙ written_read known' r' s g)

-- an old reader refuses a new record by its version
pub old_refuses : OldRefuses
unfolding read
old_refuses r = refl

-- both readers answer the same of an old record
pub old_agrees : OldAgrees
unfolding read
old_agrees r = refl

-- an old record says site 0
pub old_site : OldSite
old_site known r s h = eqb-true s.site 0 (was_written known (1 ∷ r) s h).fine.said

-- a name is read where it stands
pub name_stands : NameStands
name_stands known r s i h g =
    let w : Written (get_or r 0 0) s r = was_written known r s h in
    subst (λ (l : List ℕ). cut (name_at i s) (length (committer_at s i).name) l ≡ (committer_at s i).name) w.whole
    (name_at_lem (get_or r 0 0) s i g)

-- no record is longer than 579 bytes
pub short : Short
short v s r h =
    let w : Written v s r = written v s r h in
    subst (λ (l : List ℕ). length l ≤ 579) w.whole (form_short v s w.fine)
