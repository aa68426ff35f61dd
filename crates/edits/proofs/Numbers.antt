-- The name numbers of an edit by the bytes of its record, and the first that is not registered. Assumes nothing.
use Rattle.std.specs.Prelude.{Option, Some, None, unwrap_or}
use Rattle.target.specs.declared.Target.{Target}
use mathlib.Core.Path.{◌≡◌, refl, sym, ap, ap₂, ◌∙◌}
use mathlib.Core.Bool.{Bool, true, false, ◌&&◌, not, cond, false≢true}
use mathlib.Core.List.{List, [], ◌∷◌, ◌++◌, append_assoc}
use Prim.Native.Nat.{ℕ, zero, suc, ◌+◌, ◌≤◌, ◌<◌}
use native.Mathlib.Omega.{arith}
use lib.ListN.{length, get_or}
use lib.Dec.{eqb, ltb, leb}
use borrow.Author.Tests.{ltb-true, lt-ltb, le-ltb, leb-true, leb-false, eq-eqb}
use Rattle.word.specs.Be.{cut, val}
use Rattle.word.specs.Codec.{is_some}
use Rattle.transaction.specs.declared.RefLog.{RefLog}
use Rattle.transaction.specs.declared.PreviousValue.{PreviousValue}
use Rattle.transaction.specs.declared.Change.{Change}
use Rattle.transaction.specs.declared.RefEdit.{RefEdit}
use Rattle.transaction.specs.Change.{new_value, previous_value, expected_target}
use Rattle.transaction.specs.Fields.{ref_log_of, previous_of}
use Rattle.model.specs.Basic.{collect, when}
use Rattle.model.specs.EditList.{flag_of, target_of, change_of, byte_at, edit_of, link_number, numbers_of, first_out}
use Rattle.model.proofs.Binds.{none_some, some_is, some_then, cond_some, cond_none}
use Rattle.edits.specs.Read.{target_by, expected_by, change_by, edit_by}
use Rattle.edits.specs.Edits.{no_edit, edit_in}
use Rattle.edits.proofs.Model.{edit_parts}

-- ---- by the bytes

target_link : (k x : ℕ) (t : Option Target) → target_of k x ≡ Some t → link_number t ≡ when (eqb k 2) x
target_link zero x t e = ap link_number (sym (some_is (cond_some (eqb x 0) _ t e).1))
target_link (suc zero) x t e = ap link_number (sym (some_is (cond_none (eqb x 0) _ t e).1))
target_link (suc (suc zero)) x t e = ap link_number (sym (some_is e))
target_link (suc (suc (suc k))) x t e = absurd (none_some e)

-- the link that stood with an expectation is the one that is expected
expected_link : (k : ℕ) (t : Option Target) (p : PreviousValue)
    → (previous_of k t) ≡ Some p → link_number (expected_target p) ≡ link_number t
expected_link k t p e = ap link_number (go k t e)
  where
    go : (k : ℕ) (t : Option Target) → (previous_of k t) ≡ Some p → expected_target p ≡ t
    go zero None e = ap expected_target (sym (some_is e))
    go zero (Some t) e = absurd (none_some e)
    go (suc zero) None e = ap expected_target (sym (some_is e))
    go (suc zero) (Some t) e = absurd (none_some e)
    go (suc (suc zero)) None e = ap expected_target (sym (some_is e))
    go (suc (suc zero)) (Some t) e = absurd (none_some e)
    go (suc (suc (suc zero))) None e = absurd (none_some e)
    go (suc (suc (suc zero))) (Some t) e = ap expected_target (sym (some_is e))
    go (suc (suc (suc (suc zero)))) None e = absurd (none_some e)
    go (suc (suc (suc (suc zero)))) (Some t) e = ap expected_target (sym (some_is e))
    go (suc (suc (suc (suc (suc k))))) t e = absurd (none_some e)

abbrev links : Change → List ℕ
links c = link_number (previous_value c) ++ link_number (new_value c)

change_links : (k : ℕ) (log : RefLog) (force : Bool) (p : PreviousValue) (t : Option Target) (m : ℕ) (c : Change)
    → change_of k log force p t m ≡ Some c → links c ≡ link_number (expected_target p) ++ link_number t
change_links zero log force p t m c e = absurd (none_some e)
change_links (suc zero) log force p None m c e = absurd (none_some e)
change_links (suc zero) log force p (Some t) m c e = ap links (sym (some_is e))
change_links (suc (suc zero)) log force p None m c e = ap links (sym (some_is (cond_some (not force && eqb m 0) _ c e).1))
change_links (suc (suc zero)) log force p (Some t) m c e = absurd (none_some e)
change_links (suc (suc (suc k))) log force p t m c e = absurd (none_some e)

-- the number of the target at a place, where that is a link
abbrev link_in : ℕ → List ℕ → List ℕ
link_in a r = when (eqb (byte_at a r) 2) (val (cut (a + 1) 8 r))

-- those of its change
links_in : (r : List ℕ) (c : Change) → change_by target_of r ≡ Some c → links c ≡ link_in 5 r ++ link_in 14 r
unfolding change_by expected_by target_by
links_in r c h =
    some_then ((ref_log_of (byte_at 2 r))) _ c h λ log _ h₁.
    some_then (flag_of (byte_at 3 r)) _ c h₁ λ force _ h₂.
    some_then (expected_by target_of r) _ c h₂ λ expected e h₃.
    some_then (target_by target_of 14 r) _ c h₃ λ new n h₄.
    some_then (target_by target_of 5 r) _ expected e λ target p q.
    change_links (byte_at 0 r) log force expected new _ c h₄
    ∙ ap₂ (λ (a b : List ℕ). a ++ b) (expected_link (byte_at 4 r) target expected q ∙ target_link (byte_at 5 r) _ target p)
    (target_link (byte_at 14 r) _ new n)

numbers_in : (r : List ℕ) (e : RefEdit) → edit_of r ≡ Some e → numbers_of e ≡ link_in 5 r ++ (link_in 14 r ++ (val (cut 23 2 r) ∷ []))
unfolding edit_by numbers_of
numbers_in r e h =
    some_then (flag_of (byte_at 1 r)) _ e (sym (edit_parts r) ∙ h) λ deref _ h₁.
    some_then (change_by target_of r) _ e h₁ λ change c h₂.
    ap (λ (x : RefEdit). links x.change ++ (x.name.0 ∷ [])) (sym (some_is h₂))
    ∙ ap (λ (l : List ℕ). l ++ (val (cut 23 2 r) ∷ [])) (links_in r change c)
    ∙ append_assoc (link_in 5 r) (link_in 14 r) (val (cut 23 2 r) ∷ [])

-- ---- the first that is out

pub is_in : {A : Type 0} (o : Option A) (d : A) → is_some o ≡ true → o ≡ Some (unwrap_or o d)
is_in None d e = absurd (false≢true e)
is_in (Some x) d e = refl

link_first : (n x : ℕ) (k : Bool) (xs : List ℕ) → (k && leb n x) ≡ true → first_out n (when k x ++ xs) ≡ Some x
link_first n x true xs e = ap (λ (t : Bool). cond t (first_out n xs) (Some x)) (le-ltb x n (leb-true n x e))
link_first n x false xs e = absurd (false≢true e)

link_passes : (n x : ℕ) (k : Bool) (xs : List ℕ) → (k && leb n x) ≡ false → first_out n (when k x ++ xs) ≡ first_out n xs
link_passes n x true xs e = ap (λ (t : Bool). cond t (first_out n xs) (Some x)) (lt-ltb x n (leb-false n x e))
link_passes n x false xs e = refl

module _ (r : List ℕ) (n : ℕ) (h : is_some (edit_of r) ≡ true) where
  numbers_are : first_out n (numbers_of (edit_in r)) ≡ first_out n (link_in 5 r ++ (link_in 14 r ++ (val (cut 23 2 r) ∷ [])))
  unfolding edit_in
  numbers_are = ap (first_out n) (numbers_in r _ (is_in (edit_of r) no_edit h))

  module _ (a : Bool) (ea : a ≡ (eqb (byte_at 5 r) 2 && leb n (val (cut 6 8 r)))) where
    pub expected_out : (x : ℕ) → a ≡ true → x ≡ val (cut 6 8 r) → Some x ≡ first_out n (numbers_of (edit_in r))
    expected_out x p e = ap Some e ∙ sym (numbers_are ∙ link_first n (val (cut 6 8 r)) (eqb (byte_at 5 r) 2) _ (sym ea ∙ p))

    module _ (p : a ≡ false) (b : Bool) (eb : b ≡ (eqb (byte_at 14 r) 2 && leb n (val (cut 15 8 r)))) where
      behind_expected : first_out n (numbers_of (edit_in r)) ≡ first_out n (link_in 14 r ++ (val (cut 23 2 r) ∷ []))
      behind_expected = numbers_are ∙ link_passes n (val (cut 6 8 r)) (eqb (byte_at 5 r) 2) _ (sym ea ∙ p)

      pub new_out : (x : ℕ) → b ≡ true → x ≡ val (cut 15 8 r) → Some x ≡ first_out n (numbers_of (edit_in r))
      new_out x q e = ap Some e ∙ sym (behind_expected ∙ link_first n (val (cut 15 8 r)) (eqb (byte_at 14 r) 2) _ (sym eb ∙ q))

      module _ (q : b ≡ false) (x : ℕ) (e : x ≡ val (cut 23 2 r)) where
        behind_new : first_out n (numbers_of (edit_in r)) ≡ first_out n (x ∷ [])
        behind_new =
            behind_expected
            ∙ link_passes n (val (cut 15 8 r)) (eqb (byte_at 14 r) 2) _ (sym eb ∙ q)
            ∙ ap (λ (y : ℕ). first_out n (y ∷ [])) (sym e)

        pub name_in_lem : x < n → None ≡ first_out n (numbers_of (edit_in r))
        name_in_lem l = sym (behind_new ∙ ap (λ (t : Bool). cond t None (Some x)) (lt-ltb x n l))

        pub name_out : n ≤ x → Some x ≡ first_out n (numbers_of (edit_in r))
        name_out l = sym (behind_new ∙ ap (λ (t : Bool). cond t None (Some x)) (le-ltb x n l))

-- ---- of one list and then another, and of the edits of a list

pub out_append : (n : ℕ) (xs ys : List ℕ) → first_out n xs ≡ None → first_out n (xs ++ ys) ≡ first_out n ys
out_append n [] ys e = refl
out_append n (x ∷ xs) ys e = go (ltb x n) e (out_append n xs ys)
  where
    go : (t : Bool) → cond t (first_out n xs) (Some x) ≡ None → (first_out n xs ≡ None → first_out n (xs ++ ys) ≡ first_out n ys)
        → cond t (first_out n (xs ++ ys)) (Some x) ≡ first_out n ys
    go true q f = f q
    go false q f = absurd (none_some (sym q))

pub out_front : (n : ℕ) (xs ys : List ℕ) (y : ℕ) → first_out n xs ≡ Some y → first_out n (xs ++ ys) ≡ Some y
out_front n [] ys y e = absurd (none_some e)
out_front n (x ∷ xs) ys y e = go (ltb x n) e (out_front n xs ys y)
  where
    go : (t : Bool) → cond t (first_out n xs) (Some x) ≡ Some y → (first_out n xs ≡ Some y → first_out n (xs ++ ys) ≡ Some y)
        → cond t (first_out n (xs ++ ys)) (Some x) ≡ Some y
    go true q f = f q
    go false q f = q

none_front : (n : ℕ) (xs ys : List ℕ) → first_out n (xs ++ ys) ≡ None → first_out n xs ≡ None
none_front n xs ys e = go (first_out n xs) refl
  where
    go : (o : Option ℕ) → first_out n xs ≡ o → first_out n xs ≡ None
    go None q = q
    go (Some y) q = absurd (none_some (sym e ∙ out_front n xs ys y q))

out_none : (n : ℕ) (xs ys : List ℕ) → first_out n (xs ++ ys) ≡ None → (first_out n xs ≡ None) × (first_out n ys ≡ None)
out_none n xs ys e = let p : first_out n xs ≡ None = none_front n xs ys e in (p, sym (out_append n xs ys p) ∙ e)

-- a link's number among numbers that are all registered
link_under : (n x : ℕ) (k : Bool) (xs : List ℕ) → first_out n (when k x ++ xs) ≡ None → k ≡ true → x < n
link_under n x true xs e p = go (ltb x n) refl (out_none n (x ∷ []) xs e).0
  where
    go : (t : Bool) → ltb x n ≡ t → cond t None (Some x) ≡ None → x < n
    go true q f = ltb-true x n q
    go false q f = absurd (none_some (sym f))
link_under n x false xs e p = absurd (false≢true p)

pub links_under : (n : ℕ) (r : List ℕ) (e : RefEdit) → edit_of r ≡ Some e → first_out n (numbers_of e) ≡ None
    → (byte_at 5 r ≡ 2 → val (cut 6 8 r) < n) × (byte_at 14 r ≡ 2 → val (cut 15 8 r) < n)
links_under n r e h g =
    let i : first_out n (link_in 5 r ++ (link_in 14 r ++ (val (cut 23 2 r) ∷ []))) ≡ None = ap (first_out n) (sym (numbers_in r e h)) ∙ g in
    let j = out_none n (link_in 5 r) (link_in 14 r ++ (val (cut 23 2 r) ∷ [])) i in
    (λ k. link_under n _ (eqb (byte_at 5 r) 2) _ i (eq-eqb _ _ k), λ k. link_under n _ (eqb (byte_at 14 r) 2) _ j.1 (eq-eqb _ _ k))

pub each_under : (n : ℕ) (es : List RefEdit) (i : ℕ) → first_out n (collect numbers_of es) ≡ None → i < length es
    → first_out n (numbers_of (get_or es i no_edit)) ≡ None
each_under n [] i e h = absurd (omega arith)
each_under n (x ∷ es) zero e h = (out_none n (numbers_of x) (collect numbers_of es) e).0
each_under n (x ∷ es) (suc i) e h = each_under n es i (out_none n (numbers_of x) (collect numbers_of es) e).1 (omega arith)
