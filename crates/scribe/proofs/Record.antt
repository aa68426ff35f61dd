-- The whole record: how long it is, and that its parts make it. Assumes nothing.
use mathlib.Core.Path.{◌≡◌, refl, sym, ap, ◌∙◌}
use mathlib.Core.Bool.{Bool, true, false, ◌||◌, cond, false≢true}
use mathlib.Core.List.{List, [], ◌∷◌, ◌++◌, append_assoc, append-nil}
use Prim.Native.Nat.{ℕ, ◌+◌, ◌-◌, ◌<◌, ◌≤◌}
use native.Mathlib.Omega.{arith}
use lib.ListN.{length, take, drop, length-append, length-drop}
use lib.Seq.{length-take-le}
use lib.Dec.{eqb}
use borrow.Author.Tests.{eq-eqb, ne_eqb, eqb-true, eqb-false}
use Rattle.word.specs.Be.{be}
use Rattle.word.specs.Codec.{is_some}
use Rattle.word.specs.Cut.{put}
use Rattle.word.proofs.Be.{length_be}
use Rattle.settings.specs.Format.{is_version, has_site, entry, site_entry, entries, form}
use Rattle.settings.specs.Lent.{committers_given}
use Rattle.scribe.specs.Writing.{content_from, content_length, Slot, settings_from, front_bytes, length_for, Ready}
use Rattle.settings.proofs.Splits.{to_end}
use Rattle.settings.proofs.Entries.{entry_length}
use Rattle.settings.proofs.Whole.{form_length}
use Rattle.scribe.proofs.Given.{writable_given, writable_small, length_content}
use Rattle.scribe.proofs.Written.{Far, far_start, far_more, far_end, far_length, one_byte}

-- ---- lengths

-- a record is as long as the code counts
pub length_form : (v log mode site : ℕ) (n l s : List ℕ) → is_some (committers_given n l s) ≡ true
    → length (form v (settings_from log mode site n l s)) ≡ length_for v (content_length n s)
unfolding content_from
length_form v log mode site n l s g = form_length v (settings_from log mode site n l s) ∙ ap (length_for v) (length_content n l s g)

-- ---- a slot that is as long as the record

module _ (v log mode site : ℕ) (n l s slot : List ℕ) (r : Ready v log mode site n l s slot) where
  -- committers are given
  pub ready_given : is_some (committers_given n l s) ≡ true
  ready_given = writable_given v log mode site n l s r.fits

  -- their bytes are few
  pub ready_small : content_length n s < 65536
  ready_small = omega (arith, writable_small v log mode site n l s r.fits)

  -- version 2: 5 bytes stand behind the committers
  pub ready_site : v ≡ 2 → length slot ≡ 14 + content_length n s + 5
  ready_site e =
      r.sized
      ∙ ap (λ (b : Bool). cond b (14 + content_length n s + 3 + 2) (14 + content_length n s)) (eq-eqb v 2 e)
      ∙ omega arith

  -- another version: none do
  pub ready_none : (v ≡ 2 → ⊥) → length slot ≡ 14 + content_length n s
  ready_none e =
      r.sized ∙ ap (λ (b : Bool). cond b (14 + content_length n s + 3 + 2) (14 + content_length n s)) (ne_eqb v 2 e)

  -- the front and the committers fit
  pub ready_long : 14 + content_length n s ≤ length slot
  ready_long = go (eqb v 2) refl
    where
      go : (b : Bool) → eqb v 2 ≡ b → 14 + content_length n s ≤ length slot
      go true e = omega (arith, ready_site (eqb-true v 2 e))
      go false e = omega (arith, ready_none (eqb-false v 2 e))

  -- what is lent for the front
  pub front_part : (length (take 14 slot) ≡ 14) × (content_length n s < 65536)
  front_part = (length-take-le 14 slot (omega (arith, ready_long)), ready_small)

  -- what is lent for the committers
  pub committers_part : (t : List ℕ) → length t ≡ length slot
      → Slot n l s (take (14 + content_length n s - 14) (drop 14 t))
  committers_part t e = record {
    given = ready_given;
    sized = length-take-le (14 + content_length n s - 14) (drop 14 t) (rw length-drop (omega (arith, ready_long))) ∙ omega arith;
  }

  -- what is lent for the site
  pub site_part : (t : List ℕ) → v ≡ 2 → length t ≡ length slot
      → (length (take (length t - (14 + content_length n s)) (drop (14 + content_length n s) t)) ≡ 5) × (4 < 256)
  site_part t e f = (rw (to_end (14 + content_length n s) t, length-drop) (omega (arith, ready_site e)), omega arith)

-- ---- the parts make the record

-- the front, the content and the site, with the parentheses moved
frame : (v : ℕ) (a b c d content site : List ℕ)
    → ((v ∷ []) ++ (a ++ (b ++ (c ++ (d ++ (3 ∷ [])))))) ++ (content ++ site) ≡ v ∷ (a ++ (b ++ (c ++ ((d ++ (3 ∷ content)) ++ site))))
frame v a b c d content site = simp append_assoc

-- a version is one byte
version_small : (v : ℕ) → is_version v ≡ true → v < 256
version_small v h = go (eqb v 1) (eqb v 2) refl refl h
  where
    go : (a b : Bool) → eqb v 1 ≡ a → eqb v 2 ≡ b → a || b ≡ true → v < 256
    go true b p q e = let z : v ≡ 1 = eqb-true v 1 p in omega arith
    go false true p q e = let z : v ≡ 2 = eqb-true v 2 q in omega arith
    go false false p q e = absurd (false≢true e)

-- the front has 14 bytes
length_front : (v rest log mode content : ℕ) → length (front_bytes v rest log mode content) ≡ 14
unfolding front_bytes
length_front v rest log mode content = simp (length-append, entry_length, length_be)

-- the committers' entry: its length, its tag and its content
third_entry : (content : List ℕ) → be 2 (1 + length content) ++ (3 ∷ content) ≡ entry 3 content
unfolding entry
third_entry content =
    let e : 1 + length content ≡ length (3 ∷ content) = omega arith in ap (λ (k : ℕ). be 2 k ++ (3 ∷ content)) e

-- the front, the content and the site make the record
form_is : (v log mode site rest size : ℕ) (n l s : List ℕ) → v < 256
    → rest ≡ length (entries v (settings_from log mode site n l s)) → size ≡ length (content_from n l s)
    → front_bytes v rest log mode size ++ (content_from n l s ++ site_entry (has_site v) site) ≡ form v (settings_from log mode site n l s)
unfolding form entries front_bytes content_from
form_is v log mode site rest size n l s h e f =
    rw (e, f, one_byte v h, one_byte 3 (omega arith))
    (frame v (be 2 (length (entries v (settings_from log mode site n l s)))) (entry 1 (be 1 log)) (entry 2 (be 1 mode))
    (be 2 (1 + length (content_from n l s))) (content_from n l s) (site_entry (has_site v) site)
    ∙ ap (λ (x : List ℕ). v ∷ (be 2 (length (entries v (settings_from log mode site n l s))) ++ (entry 1 (be 1 log) ++ (entry 2 (be 1 mode) ++ (x ++ site_entry (has_site v) site)))))
    (third_entry (content_from n l s)))

module _ (v log mode site : ℕ) (n l s slot f c : List ℕ) (r : Ready v log mode site n l s slot)
    (is_front : f ≡ front_bytes v (length slot - 3) log mode (content_length n s)) (is-content : c ≡ content_from n l s) where
  -- what the slot has behind the length is as long as the entries
  rest_is : length slot - 3 ≡ length (entries v (settings_from log mode site n l s))
  unfolding form
  rest_is =
      let g : is_some (committers_given n l s) ≡ true = ready_given v log mode site n l s slot r in
      let e : length slot ≡ length (form v (settings_from log mode site n l s)) = r.sized ∙ sym (length_form v log mode site n l s g) in
      let k : length (form v (settings_from log mode site n l s)) ≡ 3 + length (entries v (settings_from log mode site n l s)) =
      rw (length-append, length_be) (omega arith) in omega arith

  -- the content is as long as the code counts
  length_is : content_length n s ≡ length (content_from n l s)
  length_is = sym (length_content n l s (ready_given v log mode site n l s slot r))

  -- what is written is the record
  whole : f ++ (c ++ site_entry (has_site v) site) ≡ form v (settings_from log mode site n l s)
  whole =
      rw (is_front, is-content)
      (form_is v log mode site (length slot - 3) (content_length n s) n l s (version_small v r.version) rest_is length_is)

  -- the front is written
  f₁ : Far f (put 0 14 slot f) (length slot)
  f₁ =
      far_more 0 14 f (put 0 14 slot f) (far_start slot) refl refl
      (ap length is_front ∙ length_front v (length slot - 3) log mode (content_length n s))
      (omega (arith, ready_long v log mode site n l s slot r))

  -- so is the content
  f₂ : Far (f ++ c) (put 14 (14 + content_length n s - 14) (put 0 14 slot f) c) (length slot)
  f₂ =
      let k : length c ≡ content_length n s = ap length is-content ∙ sym length_is in
      far_more 14 (14 + content_length n s - 14) c (put 14 (14 + content_length n s - 14) (put 0 14 slot f) c) f₁ refl
      (ap length is_front ∙ length_front v (length slot - 3) log mode (content_length n s)) (omega arith)
      (omega (arith, ready_long v log mode site n l s slot r))

  -- front and content are as long
  long : length (f ++ c) ≡ 14 + content_length n s
  long =
      let k : length c ≡ content_length n s = ap length is-content ∙ sym length_is in
      let m : length f ≡ 14 = ap length is_front ∙ length_front v (length slot - 3) log mode (content_length n s) in
      rw length-append (omega arith)

  -- another version ends with the committers
  pub record_none : (v ≡ 2 → ⊥)
      → put 14 (14 + content_length n s - 14) (put 0 14 slot f) c ≡ form v (settings_from log mode site n l s)
  unfolding site_entry
  record_none h =
      far_end f₂ (long ∙ sym (ready_none v log mode site n l s slot r h))
      ∙ ap (λ (x : List ℕ). f ++ x) (sym (append-nil c))
      ∙ ap (λ (b : Bool). f ++ (c ++ site_entry b site)) (sym (ne_eqb v 2 h))
      ∙ whole

  -- version 2 ends with the site
  pub record_site : (e : List ℕ) → v ≡ 2 → e ≡ entry 4 (be 2 site)
      → put (14 + content_length n s) (length (put 14 (14 + content_length n s - 14) (put 0 14 slot f) c) - (14 + content_length n s))
      (put 14 (14 + content_length n s - 14) (put 0 14 slot f) c) e
      ≡ form v (settings_from log mode site n l s)
  unfolding site_entry
  record_site e h is =
      far_end f₃ (rw length-append (omega (arith, long, five, sized)))
      ∙ append_assoc f c e
      ∙ ap (λ (x : List ℕ). f ++ (c ++ x)) is
      ∙ ap (λ (b : Bool). f ++ (c ++ site_entry b site)) (sym (eq-eqb v 2 h))
      ∙ whole
    where
      sized : length slot ≡ 14 + content_length n s + 5
      sized = ready_site v log mode site n l s slot r h

      five : length e ≡ 5
      five = ap length is ∙ entry_length 4 (be 2 site) ∙ rw length_be

      f₃ : Far ((f ++ c) ++ e)
          (put (14 + content_length n s) (length (put 14 (14 + content_length n s - 14) (put 0 14 slot f) c) - (14 + content_length n s))
          (put 14 (14 + content_length n s - 14) (put 0 14 slot f) c) e)
          (length slot)
      f₃ =
          let g : length (put 14 (14 + content_length n s - 14) (put 0 14 slot f) c) ≡ length slot = far_length f₂ in
          far_more (14 + content_length n s) (length (put 14 (14 + content_length n s - 14) (put 0 14 slot f) c) - (14 + content_length n s)) e
          (put (14 + content_length n s) (length (put 14 (14 + content_length n s - 14) (put 0 14 slot f) c) - (14 + content_length n s))
          (put 14 (14 + content_length n s - 14) (put 0 14 slot f) c) e)
          f₂ refl long (omega (arith, five, sized)) (omega (arith, sized))
