-- What the proofs of the slots' functions cite, over variables. Assumes nothing.
use Rattle.std.specs.Result.{result_ok}
use Rattle.std.specs.Prelude.{ok_or, Result, Option, Some, None}
use Rattle.target.specs.declared.Target.{Target}
use mathlib.Core.Path.{◌≡◌, refl, sym, ap, ap₂, ◌∙◌}
use mathlib.Core.Bool.{Bool, true, false, not, ◌&&◌}
use mathlib.Core.List.{List, [], ◌∷◌, append-nil}
use Prim.Native.Nat.{ℕ, zero, suc, ◌+◌, ◌<◌, ◌≤◌}
use native.Mathlib.Omega.{arith}
use lib.ListN.{length, get_or, drop}
use lib.Seq.{take_all, drop-cons}
use native.Mathlib.Numerals.{add-one}
use lib.Dec.{eqb}
use borrow.Author.Tests.{le-leb, lt-leb, ne_eqb, not-true, not-false}
use mir.Val.{Fits}
use mir.Syntax.{w64}
use Rattle.word.specs.Be.{cut, val, be}
use Rattle.word.specs.Cut.{put, total}
use Rattle.word.specs.Fields.{fields, unfields, puts}
use Rattle.word.specs.Fields.Same.{none as no_fields, one}
use Rattle.word.proofs.Fields.{puts_fields}
use Rattle.target.specs.declared.ObjectNumber.{ObjectNumber}
use Rattle.target.specs.declared.Target.TheVariants.{Object, Symbolic}
use Rattle.target.specs.Fields.{object_of}
use Rattle.transaction.specs.declared.RefLog.{RefLog}
use Rattle.transaction.specs.declared.PreviousValue.{PreviousValue}
use Rattle.transaction.specs.declared.Change.{Change}
use Rattle.transaction.specs.declared.Change.TheVariants.{Delete}
use Rattle.transaction.specs.declared.RefEdit.{RefEdit}
use Rattle.transaction.specs.declared.Edit.{Edit}
use Rattle.transaction.specs.declared.LogChange.{LogChange}
use Rattle.transaction.specs.Change.{log_change, expected_of, previous_value, new_value}
use Rattle.target.specs.Fields.{target_byte, target_number}
use Rattle.model.specs.Numbers.{flag}
use Rattle.transaction.specs.Fields.{change_byte, ref_log_byte, previous_byte, ref_log_of, previous_of}
use Rattle.model.specs.declared.Loose.{Loose}
use Rattle.model.specs.declared.Loose.TheVariants as loose
use Rattle.model.specs.declared.Lock.{Lock}
use Rattle.model.specs.declared.Line.{Line}
use Rattle.model.specs.Store.{lock_byte}
use Rattle.slots.specs.Values.{target_from, unbroken, loose_from, loose_form, loose_kind, loose_number, packed_form, lock_in, lock_form, line_from, line_form, line_numbers, line_widths, packed_from}
use Rattle.model.specs.Store.{lock_from}
use Rattle.model.specs.EditList.{◌>>=◌, flag_of, change_of}
use Rattle.slots.specs.Row.{row_numbers, row_form, row_widths, parent_flag, parent_place, slot_target, slot_expected, parent_from, slot_parent, slot_change, row_from, row_in}

-- ---- numbers read

pub line_in_lem : (s : List ℕ) (x0 x1 x2 x3 x4 : ℕ) → x0 ≡ val (cut 0 2 s) → x1 ≡ val (cut 2 8 s) → x2 ≡ val (cut 10 8 s)
    → x3 ≡ val (cut 18 2 s) → x4 ≡ val (cut 20 2 s)
    → record {
      name = record { 0 = x0 };
      previous = record { 0 = x1 };
      new = record { 0 = x2 };
      committer = x3;
      message = x4;
    } ≡ line_from (unfields 0 line_widths s)
line_in_lem s x0 x1 x2 x3 x4 e0 e1 e2 e3 e4 = rw (e0, e1, e2, e3, e4)

-- ---- a loose value of its numbers

module _ (k x : ℕ) where
  pub loose_beside_broken : k ≡ 3 → (x ≡ 0 → ⊥) → None ≡ loose_from k x
  loose_beside_broken e h = rw (e, ne_eqb x 0 h)

  pub loose_broken : k ≡ 3 → x ≡ 0 → Some loose.Broken ≡ loose_from k x
  loose_broken e h = rw (e, h)

  module _ (n : k ≡ 3 → ⊥) (o : Option (Option Target)) (e : o ≡ target_from k x) where
    pub loose_missing : o ≡ None → None ≡ loose_from k x
    loose_missing h = rw (ne_eqb k 3 n, ← e, h)

    pub loose_unbroken : (t : Option Target) (v : Loose) → o ≡ Some t → v ≡ unbroken t → Some v ≡ loose_from k x
    loose_unbroken t v h q = rw (ne_eqb k 3 n, ← e, h, q)

-- ---- a target of its numbers

module _ (k x : ℕ) where
  pub target_beside_none : k ≡ 0 → (x ≡ 0 → ⊥) → None ≡ target_from k x
  target_beside_none e h = rw (e, ne_eqb x 0 h)

  pub target_none : k ≡ 0 → x ≡ 0 → Some None ≡ target_from k x
  target_none e h = rw (e, h)

  -- o is the object of the number, unless that is the null id
  module _ (o : Option ObjectNumber) (eo : o ≡ object_of x) where
    pub target_null : k ≡ 1 → o ≡ None → None ≡ target_from k x
    target_null e h = go (eqb x 0) refl
      where
        go : (b : Bool) → eqb x 0 ≡ b → None ≡ target_from k x
        go true p = rw (e, p)
        go false p = absurd (let q : o ≡ Some (record { 0 = x }) = rw p at eo in let z : ◌≡◌ {A = ℕ} 0 1 = cc in omega arith)

    pub target_object : (i : ObjectNumber) → k ≡ 1 → o ≡ Some i → Some (Some (Object i)) ≡ target_from k x
    target_object i e h = go (eqb x 0) refl
      where
        go : (b : Bool) → eqb x 0 ≡ b → Some (Some (Object i)) ≡ target_from k x
        go true p = absurd (let q : o ≡ None = rw p at eo in let z : ◌≡◌ {A = ℕ} 0 1 = cc in omega arith)
        go false p = let q : o ≡ Some (record { 0 = x }) = rw p at eo in rw (e, p) (let r : i ≡ record { 0 = x } = cc in rw r)

  pub target_far : k ≡ 2 → 65536 ≤ x → None ≡ target_from k x
  target_far e h = rw (e, le-leb 65536 x h)

  pub target_link : k ≡ 2 → x < 65536 → Some (Some (Symbolic (record { 0 = x }))) ≡ target_from k x
  target_link e h = rw (e, lt-leb 65536 x h)

pub target_other : (k x : ℕ) → (k ≡ 0 → ⊥) → (k ≡ 1 → ⊥) → (k ≡ 2 → ⊥) → None ≡ target_from k x
target_other zero x a b c = absurd (a refl)
target_other (suc zero) x a b c = absurd (b refl)
target_other (suc (suc zero)) x a b c = absurd (c refl)
target_other (suc (suc (suc k))) x a b c = rw (ne_eqb _ 2 c)

-- ---- a parent's place of its numbers

pub parent_beside_none : (k j : ℕ) → k ≡ 0 → (j ≡ 0 → ⊥) → None ≡ parent_from k j
parent_beside_none k j e h = rw (e, ne_eqb j 0 h)

pub parent_none : (k j : ℕ) → k ≡ 0 → j ≡ 0 → Some None ≡ parent_from k j
parent_none k j e h = rw (e, h)

pub parent_other : (k j : ℕ) → (k ≡ 0 → ⊥) → (k ≡ 1 → ⊥) → None ≡ parent_from k j
parent_other zero j a b = absurd (a refl)
parent_other (suc zero) j a b = absurd (b refl)
parent_other (suc (suc k)) j a b = refl

-- ---- a value of its number, tried and then asked for as an option

pub ok_of_or : {A E : Type 0} (r : Result A E) (o q : Option A) (e : E) → q ≡ result_ok r → r ≡ ok_or o e → q ≡ o
ok_of_or {A = A} r o q e p f = p ∙ ap result_ok f ∙ back o
  where
    back : (o : Option A) → result_ok (ok_or o e) ≡ o
    back None = refl
    back (Some a) = refl

-- ---- a lock of its byte

pub lock_in_lem : (s : List ℕ) (x : ℕ) (r : Option Lock) → length s ≡ 1 → x ≡ val s → r ≡ lock_from x → r ≡ lock_in s
unfolding lock_in
lock_in_lem s x r l e f = f ∙ ap lock_from (e ∙ ap val (sym (take_all 1 s (omega arith))))

-- ---- forms written

-- a form of one field
one_field : (w x : ℕ) → be w x ≡ fields (w ∷ []) (x ∷ [])
unfolding fields
one_field w x = sym (append-nil (be w x))

pub put_loose_is : (l0 l1 l2 : List ℕ) (k x : ℕ) (v : Loose) → length l0 ≡ 9 → k ≡ loose_kind v → x ≡ loose_number v
    → l1 ≡ put 0 1 l0 (be 1 k) → l2 ≡ put 1 8 l1 (be 8 x) → l2 ≡ loose_form v
unfolding loose_form
put_loose_is l0 l1 l2 k x v e p q f g =
    rw (g, f, p, q) (puts_fields (1 ∷ 8 ∷ []) (loose_kind v ∷ loose_number v ∷ []) l0 (one (one no_fields)) e)

-- a part that is lent whole has its own length
whole : (s b : List ℕ) (w x : ℕ) → length s ≡ w → b ≡ be (length s) x → b ≡ fields (w ∷ []) (x ∷ [])
whole s b w x l e = e ∙ ap (λ (k : ℕ). be k x) l ∙ one_field w x

pub put_packed_none : (s b : List ℕ) (v : Option ObjectNumber) → length s ≡ 8 → v ≡ None → b ≡ be (length s) 0 → b ≡ packed_form v
unfolding packed_form
put_packed_none s b v l e f = whole s b 8 0 l f ∙ rw e

pub put_packed_object : (s b : List ℕ) (v : Option ObjectNumber) (o : ObjectNumber) → length s ≡ 8 → v ≡ Some o → b ≡ be (length s) o.0 → b ≡ packed_form v
unfolding packed_form
put_packed_object s b v o l e f = whole s b 8 o.0 l f ∙ rw e

pub put_lock_is : (s b : List ℕ) (x : ℕ) (v : Lock) → length s ≡ 1 → x ≡ lock_byte v → b ≡ be (length s) x → b ≡ lock_form v
unfolding lock_form
put_lock_is s b x v l e f = whole s b 1 x l f ∙ rw e

pub put_line_is : (l l' : List ℕ) (v : Line) → length l ≡ 22 → l' ≡ puts 0 line_widths (line_numbers v) l → l' ≡ line_form v
unfolding line_form
put_line_is l l' v e f = f ∙ puts_fields line_widths (line_numbers v) l (one (one (one (one (one no_fields))))) e

-- what stands for each part of a row
pub row_is : (r : Edit) (log : LogChange) (x : PreviousValue) (was new : Option Target) (k l f e a b c d h j : ℕ)
    → log ≡ log_change r.update.change → x ≡ expected_of r.update.change → was ≡ previous_value r.update.change → new ≡ new_value r.update.change
    → k ≡ change_byte r.update.change → l ≡ ref_log_byte log.mode → f ≡ flag log.force_create_reflog → e ≡ previous_byte x
    → a ≡ target_byte was → b ≡ target_number was → c ≡ target_byte new → d ≡ target_number new
    → h ≡ parent_flag r.parent_index → j ≡ parent_place r.parent_index
    → r.update.name.0 ∷ k ∷ l ∷ f ∷ log.message ∷ e ∷ a ∷ b ∷ c ∷ d ∷ h ∷ j ∷ r.leaf_referent_previous_oid.0 ∷ [] ≡ row_numbers r
row_is r log x was new k l f e a b c d h j elog ex ewas enew ek el ef ee ea eb ec ed eh ej =
    simp (ek, el, ef, ee, ea, eb, ec, ed, eh, ej, elog, ex, ewas, enew)

-- ---- a row written, number by number: those from place i on are left to be put from byte `at` on

pub record Far (l₀ p : List ℕ) (i at : ℕ) (l : List ℕ) : Type 0 where
  pub long : length l ≡ 36
  pub numbers : length p ≡ 13
  pub upto : i ≤ 13
  pub room : at + total (drop i row_widths) ≡ 36
  pub left : puts at (drop i row_widths) (drop i p) l ≡ puts 0 row_widths p l₀

pub far_start : (l p : List ℕ) → length l ≡ 36 → length p ≡ 13 → Far l p 0 0 l
far_start l p e f = record { long = e; numbers = f; upto = omega arith; room = refl; left = refl }

module _ (l₀ p : List ℕ) (i at : ℕ) (l : List ℕ) (f : Far l₀ p i at l) (h : i < 13) where
  wide : drop i row_widths ≡ get_or row_widths i 0 ∷ drop (i + 1) row_widths
  wide = drop-cons row_widths i 0 h ∙ ap (λ (k : ℕ). get_or row_widths i 0 ∷ drop k row_widths) (sym (add-one i))

  next : drop i p ≡ get_or p i 0 ∷ drop (i + 1) p
  next =
      let n : length p ≡ 13 = f.numbers in
      let b : i < length p = omega arith in
      drop-cons p i 0 b ∙ ap (λ (k : ℕ). get_or p i 0 ∷ drop k p) (sym (add-one i))

  pub far_room : (w : ℕ) → w ≡ get_or row_widths i 0 → at + w ≤ length l
  far_room w e =
      let n : length l ≡ 36 = f.long in
      let r : at + (get_or row_widths i 0 + total (drop (i + 1) row_widths)) ≡ 36 = ap (λ (ws : List ℕ). at + total ws) (sym wide) ∙ f.room in
      omega arith

  pub far_more : (w : ℕ) (l' : List ℕ) → w ≡ get_or row_widths i 0 → l' ≡ put at w l (be w (get_or p i 0)) → length l' ≡ length l → Far l₀ p (i + 1) (at + w) l'
  far_more w l' e el en =
      let r : at + (get_or row_widths i 0 + total (drop (i + 1) row_widths)) ≡ 36 = ap (λ (ws : List ℕ). at + total ws) (sym wide) ∙ f.room in
      record {
        long = en ∙ f.long;
        numbers = f.numbers;
        upto = omega arith;
        room = rw e (omega arith);
        left =
            ap₂ (λ (w : ℕ) (l : List ℕ). puts (at + w) (drop (i + 1) row_widths) (drop (i + 1) p) l) e (el ∙ ap (λ (w : ℕ). put at w l (be w (get_or p i 0))) e)
            ∙ ap₂ (λ (ws xs : List ℕ). puts at ws xs l) (sym wide) (sym next)
            ∙ f.left;
      }

-- a width fits a number
width_small : (i w at : ℕ) (l₀ p l : List ℕ) → Far l₀ p i at l → i < 13 → w ≡ get_or row_widths i 0 → at + w ≤ 36
width_small i w at l₀ p l f h e = let n : length l ≡ 36 = f.long in let r : at + w ≤ length l = far_room l₀ p i at l f h w e in omega arith

pub width_fits : (i w at : ℕ) (l₀ p l : List ℕ) → Far l₀ p i at l → i < 13 → w ≡ get_or row_widths i 0 → Fits w64 (at + w)
width_fits i w at l₀ p l f h e = let s : at + w ≤ 36 = width_small i w at l₀ p l f h e in record { fits = omega arith }

pub far_end : (l₀ p : List ℕ) (i at : ℕ) (l : List ℕ) (v : Edit) → Far l₀ p i at l → 13 ≤ i → length l₀ ≡ 36 → p ≡ row_numbers v → l ≡ row_form v
unfolding row_form
far_end l₀ p i at l v f h e ep =
    let k : i ≡ 13 = omega arith in
    let q : puts at (drop 13 row_widths) (drop 13 p) l ≡ puts 0 row_widths p l₀ = rw k at f.left in
    q
    ∙ ap (λ (p : List ℕ). puts 0 row_widths p l₀) ep
    ∙ puts_fields row_widths (row_numbers v) l₀ (one (one (one (one (one (one (one (one (one (one (one (one (one no_fields))))))))))))) e

-- ---- a packed value of its number

pub packed_absent : (s : List ℕ) (x : ℕ) (o : Option ObjectNumber) → x ≡ val s → o ≡ object_of x → o ≡ None → None ≡ packed_from (val s)
packed_absent s x o e eo h = rw (← e) (go (eqb x 0) refl)
  where
    go : (b : Bool) → eqb x 0 ≡ b → None ≡ packed_from x
    go true p = rw p
    go false p = absurd (let q : o ≡ Some (record { 0 = x }) = rw p at eo in let z : ◌≡◌ {A = ℕ} 0 1 = cc in omega arith)

pub packed_present : (s : List ℕ) (x : ℕ) (o : Option ObjectNumber) (i : ObjectNumber) → x ≡ val s → o ≡ object_of x → o ≡ Some i → Some i ≡ packed_from (val s)
packed_present s x o i e eo h = rw (← e) (go (eqb x 0) refl)
  where
    go : (b : Bool) → eqb x 0 ≡ b → Some i ≡ packed_from x
    go true p = absurd (let q : o ≡ None = rw p at eo in let z : ◌≡◌ {A = ℕ} 0 1 = cc in omega arith)
    go false p = let q : o ≡ Some (record { 0 = x }) = rw p at eo in rw p (let r : i ≡ record { 0 = x } = cc in rw r)

-- ---- a change of its parts

without : (log : RefLog) (force : Bool) (expected : PreviousValue) (new : Option Target) (message : ℕ) → (not force && eqb message 0) ≡ false
    → None ≡ change_of 2 log force expected new message
without log force expected None message h = rw h
without log force expected (Some t) message h = refl

module _ (k : ℕ) (log : RefLog) (force : Bool) (expected : PreviousValue) (new : Option Target) (message : ℕ) where
  -- a delete with force or with a message
  pub delete_forced : k ≡ 2 → force ≡ true → None ≡ change_of k log force expected new message
  delete_forced e h = rw e (without log force expected new message (rw h))

  pub delete_told : k ≡ 2 → force ≡ false → not (eqb message 0) ≡ true → None ≡ change_of k log force expected new message
  delete_told e h g = rw e (without log force expected new message (rw (h, not-true (eqb message 0) g)))

  pub delete_is : k ≡ 2 → force ≡ false → not (eqb message 0) ≡ false → new ≡ None → Some (Delete expected log) ≡ change_of k log force expected new message
  delete_is e h g a = rw (e, h, a, not-false (eqb message 0) g)

pub change_other : (k : ℕ) (log : RefLog) (force : Bool) (expected : PreviousValue) (new : Option Target) (message : ℕ) → (k ≡ 1 → ⊥) → (k ≡ 2 → ⊥)
    → None ≡ change_of k log force expected new message
change_other zero log force expected new message a b = refl
change_other (suc zero) log force expected new message a b = absurd (a refl)
change_other (suc (suc zero)) log force expected new message a b = absurd (b refl)
change_other (suc (suc (suc k))) log force expected new message a b = refl

-- ---- a row in its slot: where reading it stops, and what is read

flag_past : (x : ℕ) → 1 < x → flag_of x ≡ None
flag_past zero h = absurd (omega arith)
flag_past (suc zero) h = absurd (omega arith)
flag_past (suc (suc x)) h = refl

flag_is : (x : ℕ) → x ≤ 1 → flag_of x ≡ Some (eqb x 1)
flag_is zero h = refl
flag_is (suc zero) h = refl
flag_is (suc (suc x)) h = absurd (omega arith)

later : {C D E F : Type 0} (x : Option D) (n : Option C) (c : D → C → Option E) (k : E → Option F)
    → (x >>= λ x. n >>= λ n. c x n >>= k) ≡ ((x >>= λ x. n >>= λ n. c x n) >>= k)
later None n c k = refl
later (Some x) None c k = refl
later (Some x) (Some n) c k = refl

-- the chain of a row's steps, with the change's own steps drawn together
chain : {A B C D E F : Type 0} (l : Option A) (b : Option B) (w : Option C) (x : C → Option D) (n : Option C)
    (c : A → B → D → C → Option E) (k : E → Option F)
    → (do
      l ← l
      b ← b
      w ← w
      x ← x w
      n ← n
      c ← c l b x n
      k c)
    ≡ (do
      c ← do
        l ← l
        b ← b
        x ← do
          w ← w
          x w
        n ← n
        c l b x n
      k c)
chain None b w x n c k = refl
chain (Some l) None w x n c k = refl
chain (Some l) (Some b) None x n c k = refl
chain (Some l) (Some b) (Some w) x n c k = later (x w) n (c l b) k

-- what follows the change
abbrev rest : List ℕ → Change → Option Edit
rest s c = do
  p ← slot_parent s
  Some
      (record {
        update = record { change = c; name = record { 0 = val (cut 0 2 s) }; deref = false };
        parent_index = p;
        leaf_referent_previous_oid = record { 0 = val (cut 28 8 s) };
      })

-- a row is its change, and then its parent
row_parts : (s : List ℕ) → row_in s ≡ (slot_change s >>= rest s)
unfolding row_in row_from slot_change slot_expected slot_target slot_parent
row_parts s =
    chain ((ref_log_of (val (cut 3 1 s)))) (flag_of (val (cut 4 1 s))) (target_from (val (cut 8 1 s)) (val (cut 9 8 s)))
    (λ w. (previous_of (val (cut 7 1 s)) w)) (target_from (val (cut 17 1 s)) (val (cut 18 8 s)))
    (λ l b x n. change_of (val (cut 2 1 s)) l b x n (val (cut 5 2 s))) (rest s)

pub target_in : (s : List ℕ) (a k x : ℕ) (o : Option (Option Target)) → k ≡ val (cut a 1 s) → x ≡ val (cut (a + 1) 8 s)
    → o ≡ target_from k x → o ≡ slot_target a s
unfolding slot_target
target_in s a k x o e f h = h ∙ ap₂ target_from e f

pub no_expected : (s : List ℕ) (o : Option (Option Target)) → o ≡ slot_target 8 s → o ≡ None → None ≡ slot_expected s
unfolding slot_expected
no_expected s o e h = rw (← e, h)

pub expected_in : (s : List ℕ) (o : Option (Option Target)) (was : Option Target) (k : ℕ) (p : Option PreviousValue)
    → o ≡ slot_target 8 s → o ≡ Some was → k ≡ val (cut 7 1 s) → p ≡ previous_of k was → p ≡ slot_expected s
unfolding slot_expected
expected_in s o was k p e h f g = rw (← e, h, ← f, ← g)

-- `o` is the answer of each call in turn
module _ (s : List ℕ) (k : ℕ) (o : Option RefLog) (ek : k ≡ val (cut 3 1 s)) (e : o ≡ ref_log_of k) where
  pub no_log : o ≡ None → None ≡ slot_change s
  unfolding slot_change
  no_log h = rw (← ek, ← e, h)

  module _ (log : RefLog) (h : o ≡ Some log) (force : ℕ) (ef : force ≡ val (cut 4 1 s)) where
    pub no_force : 1 < force → None ≡ slot_change s
    unfolding slot_change
    no_force f = rw (← ek, ← e, h, ← ef, flag_past force f)

    module _ (f : force ≤ 1) (o2 : Option PreviousValue) (e2 : o2 ≡ slot_expected s) where
      pub no_previous : o2 ≡ None → None ≡ slot_change s
      unfolding slot_change
      no_previous h2 = rw (← ek, ← e, h, ← ef, flag_is force f, ← e2, h2)

      module _ (expected : PreviousValue) (h2 : o2 ≡ Some expected) (o3 : Option (Option Target))
          (e3 : o3 ≡ slot_target 17 s) where
        pub no_new : o3 ≡ None → None ≡ slot_change s
        unfolding slot_change
        no_new h3 = rw (← ek, ← e, h, ← ef, flag_is force f, ← e2, h2, ← e3, h3)

        pub change_in_lem : (new : Option Target) (kind message : ℕ) (c : Option Change) → o3 ≡ Some new
            → kind ≡ val (cut 2 1 s) → message ≡ val (cut 5 2 s)
            → c ≡ change_of kind log (eqb force 1) expected new message → c ≡ slot_change s
        unfolding slot_change
        change_in_lem new kind message c h3 e4 e5 e6 =
            rw (← ek, ← e, h, ← ef, flag_is force f, ← e2, h2, ← e3, h3, ← e4, ← e5) e6

module _ (s : List ℕ) (o : Option Change) (e : o ≡ slot_change s) where
  pub row_no_change : o ≡ None → None ≡ row_in s
  row_no_change h = rw (row_parts s, ← e, h)

  module _ (change : Change) (h : o ≡ Some change) (o2 : Option (Option ℕ)) (e2 : o2 ≡ slot_parent s) where
    pub row_no_parent : o2 ≡ None → None ≡ row_in s
    row_no_parent h2 = rw (row_parts s, ← e, h, ← e2, h2)

    pub row_in_lem : (parent : Option ℕ) (name leaf : ℕ) (u : RefEdit) → o2 ≡ Some parent → name ≡ val (cut 0 2 s)
        → leaf ≡ val (cut 28 8 s) → u ≡ record { change = change; name = record { 0 = name }; deref = false }
        → Some (record { update = u; parent_index = parent; leaf_referent_previous_oid = record { 0 = leaf } }) ≡ row_in s
    row_in_lem parent name leaf u h2 en el eu = rw (row_parts s, ← e, h, ← e2, h2, eu, en, el)
