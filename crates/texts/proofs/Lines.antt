-- What a line says: each way out of the functions that look at one. Assumes nothing.
use Rattle.std.specs.Prelude.{Option, Some, None}
use mathlib.Core.Path.{◌≡◌, refl, sym, ap, ◌∙◌}
use mathlib.Core.Bool.{Bool, true, false, cond, ◌&&◌, not, and-true, and-false}
use mathlib.Core.List.{List}
use Prim.Native.Nat.{ℕ, ◌-◌, ◌^◌, ◌≤◌, ◌<◌}
use native.Mathlib.Omega.{arith}
use lib.ListN.{length, get_or, take, drop, length-take, get_or-eq_default}
use lib.Seq.{take-add}
use lib.Dec.{eqb, leb}
use borrow.Author.Tests.{lt-ltb, leb-true, leb-false, not-true, not-false}
use Rattle.word.specs.Codec.{is_some}
use Rattle.word.proofs.Tests.{both_true, every_at}
use Rattle.model.specs.Basic.{every, all}
use Rattle.model.specs.Names.{before, is_name, is_char, under, packable}
use Rattle.model.specs.Store.{is_id}
use Rattle.model.specs.PackedText.{is_digit, digits_from, Ref, ref_tests, ref_in, is_peeled, ref_said, line_said}
use Rattle.model.proofs.Digits.{all_last, ref_reaches, ref_small}
use Rattle.names.proofs.Bytes.{to_end}
use Rattle.texts.specs.declared.Said.{Said}
use Rattle.texts.specs.declared.Said.TheVariants as said
use Rattle.texts.specs.Lines.{Digits, ref_by, SaysRef, SaysLine}

-- ---- a ref line

module _ (l : List ℕ) where
  some_if : (t : Bool) (r : Ref) → is_some (cond t (Some r) None) ≡ t
  some_if true r = refl
  some_if false r = refl

  tests : is_some (ref_in l) ≡ every (ref_tests l)
  unfolding ref_in
  tests = some_if (every (ref_tests l)) _

  -- the tests of the code: a line that is too short has no space at 40
  pub ref_is :
      is_some (ref_in l)
      ≡ (leb 41 (length l)
      && (all is_digit (take 40 l) && (under "000000000000000000000000" l && (eqb (get_or l 40 0) 32 && is_name (take (length l - 41) (drop 41 l))))))
  ref_is = tests ∙ named ∙ go (leb 41 (length l)) refl
    where
      named :
          every (ref_tests l)
          ≡ (all is_digit (take 40 l) && (under "000000000000000000000000" l && (eqb (get_or l 40 0) 32 && is_name (take (length l - 41) (drop 41 l)))))
      named =
          ap (λ (t : Bool). all is_digit (take 40 l) && (under "000000000000000000000000" l && (eqb (get_or l 40 0) 32 && t)))
          (and-true (is_name (drop 41 l)) ∙ ap is_name (sym (to_end l 41)))

      go :
          (t : Bool)
          → leb 41 (length l) ≡ t
          → (all is_digit (take 40 l) && (under "000000000000000000000000" l && (eqb (get_or l 40 0) 32 && is_name (take (length l - 41) (drop 41 l)))))
          ≡ (t && (all is_digit (take 40 l) && (under "000000000000000000000000" l && (eqb (get_or l 40 0) 32 && is_name (take (length l - 41) (drop 41 l))))))
      go true q = refl
      go false q =
          let h : length l < 41 = leb-false 41 (length l) q in
          let k : length l ≤ 40 = omega arith in
          ap (λ (t : Bool). all is_digit (take 40 l) && (under "000000000000000000000000" l && (t && is_name (take (length l - 41) (drop 41 l)))))
          (ap (is_char " ") (get_or-eq_default l 0 k))
          ∙ ap (λ (t : Bool). all is_digit (take 40 l) && t) (and-false (under "000000000000000000000000" l))
          ∙ and-false (all is_digit (take 40 l))

  pub no_digits : (d : Bool) → d ≡ all is_digit (take 40 l) → d ≡ false → false ≡ is_some (ref_in l)
  no_digits d e h = rw (ref_is, sym e ∙ h) (sym (and-false (leb 41 (length l))))

  pub ref_long : is_some (ref_in l) ≡ true → 41 ≤ length l
  ref_long h = leb-true 41 (length l) (both_true (leb 41 (length l)) _ (sym ref_is ∙ h)).0

  module _ (b : Bool) (e : b ≡ is_some (ref_in l)) where
    pub ref_none : b ≡ false → None ≡ ref_in l
    unfolding ref_in
    ref_none h = rw (sym tests ∙ sym e ∙ h)

    pub ref_digits : b ≡ true → Digits (take 16 (drop 24 l))
    ref_digits h = record {
      few = simp length-take (omega arith);
      digits =
          all_last is_digit (take 24 l) (take 16 (drop 24 l))
          (ap (all is_digit) (sym (take-add 24 16 l)) ∙ every_at (ref_tests l) 0 (sym tests ∙ sym e ∙ h));
    }

    pub ref_done : b ≡ true → (x : ℕ) → x ≡ digits_from 0 (take 16 (drop 24 l)) → Some (record { name = drop 41 l; object = x }) ≡ ref_in l
    unfolding ref_in
    ref_done h x v = rw (sym tests ∙ sym e ∙ h, v)

-- ---- a line that must be a ref line

module _ (last l : List ℕ) (o : Option ℕ) (e : ref_by o l ≡ ref_in l) where
  pub ref_malformed : o ≡ None → SaysRef said.Malformed last l
  ref_malformed q = record { says = λ i. ap (ref_said i last) (sym (ap (λ (o : Option ℕ). ref_by o l) q) ∙ e); sure = tt }

  module _ (x : ℕ) (q : o ≡ Some x) where
    is_ref_lem : ref_in l ≡ Some (record { name = drop 41 l; object = x })
    is_ref_lem = sym e ∙ ap (λ (o : Option ℕ). ref_by o l) q

    pub name_reaches : 41 ≤ length l
    name_reaches = ref_reaches l (record { name = drop 41 l; object = x }) is_ref_lem

    module _ (b : Bool) (f : b ≡ before last (take (length l - 41) (drop 41 l))) where
      behind : before last (drop 41 l) ≡ b
      behind = ap (before last) (sym (to_end l 41)) ∙ sym f

      pub ref_not_behind : not b ≡ true → SaysRef said.Malformed last l
      ref_not_behind h = record { says = λ i. rw (is_ref_lem, behind ∙ not-true b h); sure = tt }

      pub ref_zero : not b ≡ false → x ≡ 0 → SaysRef said.Unpackable last l
      ref_zero h z = record { says = λ i. rw (is_ref_lem, behind ∙ not-false b h, z); sure = tt }

      module _ (p : Bool) (g : p ≡ packable (take (length l - 41) (drop 41 l))) where
        packs : packable (drop 41 l) ≡ p
        packs = ap packable (sym (to_end l 41)) ∙ sym g

        pub ref_unpackable : not b ≡ false → not p ≡ true → SaysRef said.Unpackable last l
        ref_unpackable h k = record { says = λ i. rw (is_ref_lem, behind ∙ not-false b h, packs ∙ not-true p k, and-false (is_id x)); sure = tt }

        pub ref_says : not b ≡ false → (x ≡ 0 → ⊥) → not p ≡ false → SaysRef said.Ref last l
        ref_says h z k =
            let small : x < 2 ^ 64 = ref_small l (record { name = drop 41 l; object = x }) is_ref_lem in
            let full : 0 < x = positive x z in
            record { says = λ i. rw (is_ref_lem, behind ∙ not-false b h, lt-ltb 0 x full, lt-ltb x (2 ^ 64) small, packs ∙ not-false p k); sure = rw is_ref_lem }
          where
            positive : (x : ℕ) → (x ≡ 0 → ⊥) → 0 < x
            positive x d = omega arith

-- ---- any line

module _ (last l : List ℕ) (direct c : Bool) (e : c ≡ under "#" l) where
  pub comment_says : c ≡ true → SaysLine said.Nothing last direct l
  unfolding line_said
  comment_says h = record { says = λ i. rw (sym e ∙ h); sure = tt }

  module _ (p : Bool) (f : p ≡ (direct && is_peeled l)) where
    pub peeled_says : c ≡ false → p ≡ true → SaysLine said.Nothing last direct l
    unfolding line_said
    peeled_says h k = record { says = λ i. rw (sym e ∙ h, sym f ∙ k); sure = tt }

    pub other_says : c ≡ false → p ≡ false → (r : Said) → SaysRef r last l → SaysLine r last direct l
    unfolding line_said
    other_says h k r s = record { says = λ i. rw (sym e ∙ h, sym f ∙ k) (s.says i); sure = s.sure }
