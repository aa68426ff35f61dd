-- The edits of a list that is well formed and names registered names only are fine: what they say fits its field, and every
-- target in them is an object or a link to a registered name. Assumes nothing.
use Rattle.std.specs.Prelude.{Option, Some, None, Ok}
use Rattle.target.specs.declared.Target.{Target}
use mathlib.Core.Path.{◌≡◌, refl, sym, ap, subst, ◌∙◌}
use mathlib.Core.Bool.{Bool, true, false, ◌&&◌, not, cond}
use mathlib.Core.List.{List, [], ◌∷◌, ◌++◌}
use Prim.Native.Nat.{ℕ, zero, suc, ◌+◌, ◌≤◌, ◌<◌, ◌^◌}
use native.Mathlib.Omega.{arith}
use lib.ListN.{length}
use lib.Dec.{eqb, ltb, leb}
use lib.Pow.{are_bytes}
use borrow.Author.Tests.{ltb-true, lt-ltb, eqb-false, leb-true}
use Rattle.word.specs.Be.{Bytes, cut, val}
use Rattle.word.proofs.Be.{are_bytes_lem, bytes_cut, val_cut}
use Rattle.target.specs.declared.Target.TheVariants.{Object, Symbolic}
use Rattle.transaction.specs.declared.RefLog.{RefLog}
use Rattle.transaction.specs.declared.PreviousValue.{PreviousValue}
use Rattle.transaction.specs.declared.Change.{Change}
use Rattle.transaction.specs.declared.RefEdit.{RefEdit}
use Rattle.transaction.specs.Change.{new_value, previous_value, message_of, expected_of, expected_target}
use Rattle.transaction.specs.Fields.{ref_log_of, previous_of}
use Rattle.model.specs.Basic.{collect}
use Rattle.model.specs.Store.{Store, count, is_id}
use Rattle.model.specs.EditList.{flag_of, target_of, change_of, edit_of, edits_from, is_framed, edits_of, link_number, numbers_of, first_out, byte_at}
use Rattle.model.specs.Prepare.{registered, or_not_registered}
use Rattle.model.specs.Fine.{fine_option}
use Rattle.model.proofs.Binds.{none_some, refuse_pass, some_is, some_then, cond_some, cond_none}
use Rattle.model.proofs.Rules.{both_true, true_both}
use Rattle.model.proofs.All.{All, all_head, all_front, all_back}
use Rattle.model.proofs.All.All.{done, also}

-- a change is fine where n names are held
pub record FineChange (n : ℕ) (c : Change) : Type 0 where
  pub message : message_of c < 2 ^ 16
  pub previous : fine_option n (previous_value c) ≡ true
  pub new : fine_option n (new_value c) ≡ true

pub record FineEdit (n : ℕ) (e : RefEdit) : Type 0 where
  pub name : e.name.0 < n
  pub change : FineChange n e.change

-- ---- a record by itself: what it says but for the names, which nothing bounds yet

-- a target that is an object has an object's number
abbrev Ids : Option Target → Type 0
Ids None = Unit {0}
Ids (Some (Object o)) = is_id o.0 ≡ true
Ids (Some (Symbolic n)) = Unit {0}

record Parsed (c : Change) : Type 0 where
  message : message_of c < 2 ^ 16
  previous : Ids (previous_value c)
  new : Ids (new_value c)

target_ids : (k v : ℕ) (t : Option Target) → v < 2 ^ 64 → target_of k v ≡ Some t → Ids t
target_ids zero v t h e = subst Ids (some_is (cond_some (eqb v 0) _ t e).1) tt
target_ids (suc zero) v t h e =
    let i = cond_none (eqb v 0) _ t e in
    let d : v ≡ 0 → ⊥ = eqb-false v 0 i.0 in
    subst Ids (some_is i.1) (true_both (lt-ltb 0 v (omega arith)) (lt-ltb v (2 ^ 64) h))
target_ids (suc (suc zero)) v t h e = subst Ids (some_is e) tt
target_ids (suc (suc (suc k))) v t h e = absurd (none_some e)

-- the target that stood with it is the expected target
previous_target : (k : ℕ) (t : Option Target) (p : PreviousValue)
    → (previous_of k t) ≡ Some p → expected_target p ≡ t
previous_target zero None p e = ap expected_target (sym (some_is e))
previous_target zero (Some t) p e = absurd (none_some e)
previous_target (suc zero) None p e = ap expected_target (sym (some_is e))
previous_target (suc zero) (Some t) p e = absurd (none_some e)
previous_target (suc (suc zero)) None p e = ap expected_target (sym (some_is e))
previous_target (suc (suc zero)) (Some t) p e = absurd (none_some e)
previous_target (suc (suc (suc zero))) None p e = absurd (none_some e)
previous_target (suc (suc (suc zero))) (Some t) p e = ap expected_target (sym (some_is e))
previous_target (suc (suc (suc (suc zero)))) None p e = absurd (none_some e)
previous_target (suc (suc (suc (suc zero)))) (Some t) p e = ap expected_target (sym (some_is e))
previous_target (suc (suc (suc (suc (suc k))))) t p e = absurd (none_some e)

-- a change is made of its fields
record Made (expected : PreviousValue) (new : Option Target) (message : ℕ) (c : Change) : Type 0 where
  previous : expected_of c ≡ expected
  set : new_value c ≡ new
  said : message_of c ≤ message

change_made : (k : ℕ) (log : RefLog) (force : Bool) (p : PreviousValue) (t : Option Target) (m : ℕ) (c : Change)
    → change_of k log force p t m ≡ Some c → Made p t m c
change_made zero log force p t m c e = absurd (none_some e)
change_made (suc zero) log force p None m c e = absurd (none_some e)
change_made (suc zero) log force p (Some t) m c e =
    subst (Made p (Some t) m) (some_is e) (record { previous = refl; set = refl; said = omega arith })
change_made (suc (suc zero)) log force p None m c e =
    let q = some_is (cond_some (not force && eqb m 0) _ c e).1 in
    subst (Made p None m) q (record { previous = refl; set = refl; said = omega arith })
change_made (suc (suc zero)) log force p (Some t) m c e = absurd (none_some e)
change_made (suc (suc (suc k))) log force p t m c e = absurd (none_some e)

made_parsed : {p : PreviousValue} {t : (Option Target)} {m : ℕ} {c : Change}
    → Made p t m c → Ids (expected_target p) → Ids t → m < 2 ^ 16 → Parsed c
made_parsed d i j h = record { message = omega (arith, d.said); previous = rw d.previous i; new = rw d.set j }

edit_parsed : (r : List ℕ) (e : RefEdit) → Bytes r → edit_of r ≡ Some e → Parsed e.change
unfolding edit_of
edit_parsed r e t h =
    some_then (flag_of (byte_at 1 r)) _ e h λ deref _ h₁.
    some_then ((ref_log_of (byte_at 2 r))) _ e h₁ λ log _ h₂.
    some_then (flag_of (byte_at 3 r)) _ e h₂ λ force _ h₃.
    some_then (target_of (byte_at 5 r) (val (cut 6 8 r))) _ e h₃ λ target p h₄.
    some_then ((previous_of (byte_at 4 r) target)) _ e h₄ λ expected q h₅.
    some_then (target_of (byte_at 14 r) (val (cut 15 8 r))) _ e h₅ λ new n h₆.
    some_then (change_of (byte_at 0 r) log force expected new (val (cut 25 2 r))) _ e h₆ λ change c h₇.
    let i : Ids target = target_ids (byte_at 5 r) _ target (val_cut 6 8 t) p in
    let l : Ids (expected_target expected) = rw (previous_target (byte_at 4 r) target expected q) i in
    let j : Ids new = target_ids (byte_at 14 r) _ new (val_cut 15 8 t) n in
    let m : Made expected new (val (cut 25 2 r)) change = change_made (byte_at 0 r) log force expected new _ change c in
    subst (λ (x : RefEdit). Parsed x.change) (some_is h₇) (made_parsed m l j (val_cut 25 2 t))

edits_parsed : (k at : ℕ) (l : List ℕ) (es : List RefEdit)
    → Bytes l → edits_from k at l ≡ Some es → All (λ e. Parsed e.change) es
unfolding edits_from
edits_parsed zero at l es t h = subst (All (λ e. Parsed e.change)) (some_is h) done
edits_parsed (suc k) at l es t h =
    some_then (edit_of (cut at 27 l)) _ es h λ e p h₁.
    some_then (edits_from k (at + 27) l) _ es h₁ λ rest q h₂.
    subst (All (λ e. Parsed e.change)) (some_is h₂)
    (also (edit_parsed (cut at 27 l) e (bytes_cut at 27 t) p) (edits_parsed k (at + 27) l rest t q))

-- ---- the names

abbrev Under : ℕ → List ℕ → Type 0
Under n xs = All (λ x. x < n) xs

out_none : (n : ℕ) (xs : List ℕ) → first_out n xs ≡ None → Under n xs
out_none n [] e = done
out_none n (x ∷ xs) e = go (ltb x n) refl e (out_none n xs)
  where
    go : (t : Bool) → ltb x n ≡ t → cond t (first_out n xs) (Some x) ≡ None → (first_out n xs ≡ None → Under n xs) → Under n (x ∷ xs)
    go true p q f = also (ltb-true x n p) (f q)
    go false p q f = absurd (none_some (sym q))

registered_none : (o : Option ℕ) → or_not_registered o ≡ Ok tt → o ≡ None
registered_none None e = refl
registered_none (Some n) e = absurd (refuse_pass e)

option_fine : (n : ℕ) (t : Option Target) → Ids t → Under n (link_number t) → fine_option n t ≡ true
option_fine n None i h = refl
option_fine n (Some (Object o)) i h = i
option_fine n (Some (Symbolic m)) i h = lt-ltb m.0 n (all_head h)

edit_fine : (n : ℕ) (e : RefEdit) → Parsed e.change → Under n (numbers_of e) → FineEdit n e
unfolding numbers_of
edit_fine n e p h =
    let olds : List ℕ = link_number (previous_value e.change) in
    let news : List ℕ = link_number (new_value e.change) in
    let links : Under n (olds ++ news) = all_front (olds ++ news) _ h in
    record {
      name = all_head (all_back (olds ++ news) _ h);
      change = record {
        message = p.message;
        previous = option_fine n (previous_value e.change) p.previous (all_front olds news links);
        new = option_fine n (new_value e.change) p.new (all_back olds news links);
      };
    }

each_fine : (n : ℕ) (es : List RefEdit) → All (λ e. Parsed e.change) es → Under n (collect numbers_of es) → All (FineEdit n) es
each_fine n [] p h = done
each_fine n (e ∷ es) (also p ps) h =
    also (edit_fine n e p (all_front (numbers_of e) _ h)) (each_fine n es ps (all_back (numbers_of e) _ h))

pub edits_fine : (s : Store) (list : List ℕ) (edits : List RefEdit)
    → edits_of list ≡ Some edits → registered s edits ≡ Ok tt → All (FineEdit (count s)) edits
unfolding edits_of is_framed registered
edits_fine s list edits h g =
    let i = cond_some (is_framed list) _ edits h in
    let t : Bytes list = are_bytes_lem list (both_true (are_bytes list) _ i.0).0 in
    each_fine (count s) edits (edits_parsed _ _ list edits t i.1) (out_none _ _ (registered_none _ g))

-- ---- a list has at most 32 edits

edits_length : (k at : ℕ) (l : List ℕ) (es : List RefEdit) → edits_from k at l ≡ Some es → length es ≡ k
unfolding edits_from
edits_length zero at l es h = ap length (sym (some_is h))
edits_length (suc k) at l es h =
    some_then (edit_of (cut at 27 l)) _ es h λ e p h₁.
    some_then (edits_from k (at + 27) l) _ es h₁ λ rest q h₂.
    ap length (sym (some_is h₂)) ∙ ap suc (edits_length k (at + 27) l rest q)

pub edits_few : (list : List ℕ) (edits : List RefEdit) → edits_of list ≡ Some edits → length edits ≤ 32
unfolding edits_of is_framed
edits_few list edits h =
    let i = cond_some (is_framed list) _ edits h in
    let t = both_true (are_bytes list) _ i.0 in
    let v = both_true (eqb (byte_at 0 list) 1) _ t.1 in
    let w = both_true (eqb (3 + val (cut 1 2 list)) (length list)) _ v.1 in
    let k : byte_at 3 list ≤ 32 = leb-true _ _ (both_true (leb (byte_at 3 list) 32) _ w.1).0 in
    let n : length edits ≡ byte_at 3 list = edits_length _ _ list edits i.1 in
    omega arith
