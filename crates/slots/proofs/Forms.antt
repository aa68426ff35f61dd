-- The numbers of a value that fits are read as that value, and a value that was read of numbers fits and has those numbers.
-- Assumes nothing.
use Rattle.std.specs.Prelude.{Option, Some, None}
use Rattle.target.specs.declared.ObjectNumber.{ObjectNumber}
use Rattle.target.specs.declared.Target.{Target}
use mathlib.Core.Path.{◌≡◌, refl, sym, ap, ◌∙◌}
use mathlib.Core.Bool.{Bool, true, false, ◌&&◌, cond}
use mathlib.Core.List.{List, [], ◌∷◌}
use Prim.Native.Nat.{ℕ, zero, suc, ◌<◌, ◌^◌}
use native.Mathlib.Omega.{arith}
use lib.Dec.{eqb, leb, lit<}
use borrow.Author.Tests.{eqb-true, eqb-false, ne_eqb, leb-false, lt-leb}
use Rattle.word.specs.Fields.{Fit}
use Rattle.word.specs.Fields.Fit.{end, and}
use Rattle.target.specs.declared.Target.TheVariants.{Object, Symbolic}
use Rattle.target.specs.Fields.{target_byte, target_number}
use Rattle.transaction.specs.declared.RefLog.{RefLog}
use Rattle.transaction.specs.declared.RefLog.TheVariants.{AndReference, Only}
use Rattle.transaction.specs.declared.PreviousValue.{PreviousValue}
use Rattle.transaction.specs.declared.PreviousValue.TheVariants.{Any, MustExist, MustNotExist, MustExistAndMatch, ExistingMustMatch}
use Rattle.transaction.specs.declared.Change.{Change}
use Rattle.transaction.specs.declared.Change.TheVariants.{Update, Delete}
use Rattle.transaction.specs.declared.Edit.{Edit}
use Rattle.transaction.specs.Change.{expected_target, new_value, previous_value, expected_of, log_of, force_of, message_of}
use Rattle.transaction.specs.Fields.{change_byte, ref_log_byte, ref_log_of, previous_byte, previous_of}
use Rattle.transaction.proofs.Fields.{ref_log_back, previous_back as read-previous}
use Rattle.model.specs.declared.Loose.{Loose}
use Rattle.model.specs.declared.Loose.TheVariants as loose
use Rattle.model.specs.declared.Lock.{Lock}
use Rattle.model.specs.declared.Lock.TheVariants.{Free, Foreign, Ours}
use Rattle.model.specs.Store.{lock_byte}
use Rattle.model.specs.EditList.{◌>>=◌, flag_of, change_of}
use Rattle.model.specs.Numbers.{flag}
use Rattle.model.proofs.Binds.{none_some, some_is, cond_some, cond_none, some_then}
use Rattle.slots.specs.Values.{loose_widths, loose_kind, loose_number, target_from, unbroken, loose_from, FitsLoose, packed_number, packed_from, FitsPacked}
use Rattle.model.specs.Store.{lock_from}
use Rattle.slots.specs.Row.{row_widths, row_numbers, parent_flag, parent_place, parent_from, row_from, FitsOption, FitsParent, FitsRow}

-- ---- numbers that are no 0

not_zero : (x : ℕ) → 0 < x → eqb x 0 ≡ false
not_zero x h = ne_eqb x 0 (λ e. omega arith)

some_id : (x : ℕ) → eqb x 0 ≡ false → 0 < x
some_id x e = let h : x ≡ 0 → ⊥ = eqb-false x 0 e in positive x h
  where
    positive : (x : ℕ) → (x ≡ 0 → ⊥) → 0 < x
    positive zero h = absurd (h refl)
    positive (suc x) h = omega arith

-- ---- loose values

pub fit_loose : (v : Loose) → FitsLoose v → Fit loose_widths (loose_kind v ∷ loose_number v ∷ [])
fit_loose loose.None f = and (lit< tt) (and (lit< tt) end)
fit_loose (loose.Target (Object o)) f = and (lit< tt) (and f.1 end)
fit_loose (loose.Target (Symbolic n)) f = let h : n.0 < 2 ^ 64 = omega arith in and (lit< tt) (and h end)
fit_loose loose.Broken f = and (lit< tt) (and (lit< tt) end)

-- ---- packed values

pub fit_packed : (v : Option ObjectNumber) → FitsPacked v → Fit (8 ∷ []) (packed_number v ∷ [])
fit_packed None f = and (lit< tt) end
fit_packed (Some o) f = and f.1 end

pub packed_forth : (v : Option ObjectNumber) → FitsPacked v → packed_from (packed_number v) ≡ v
packed_forth None f = refl
packed_forth (Some o) f = rw (not_zero o.0 f.0)

pub packed_back : (x : ℕ) → x < 2 ^ 64 → (packed_number (packed_from x) ≡ x) × FitsPacked (packed_from x)
packed_back x h = go (eqb x 0) refl
  where
    go : (t : Bool) → eqb x 0 ≡ t
        → (packed_number (cond t None (Some (record { 0 = x }))) ≡ x)
        × FitsPacked (cond t None (Some (record { 0 = x })))
    go true p = (sym (eqb-true x 0 p), tt)
    go false p = (refl, (some_id x p, h))

-- ---- locks

pub fit_lock : (v : Lock) → Fit (1 ∷ []) (lock_byte v ∷ [])
fit_lock Free = and (lit< tt) end
fit_lock Foreign = and (lit< tt) end
fit_lock Ours = and (lit< tt) end

pub lock_forth : (v : Lock) → lock_from (lock_byte v) ≡ Some v
lock_forth Free = refl
lock_forth Foreign = refl
lock_forth Ours = refl

pub lock_back : (k : ℕ) (v : Lock) → lock_from k ≡ Some v → lock_byte v ≡ k
lock_back zero v e = rw (← some_is e)
lock_back (suc zero) v e = rw (← some_is e)
lock_back (suc (suc zero)) v e = rw (← some_is e)
lock_back (suc (suc (suc k))) v e = absurd (none_some e)

-- ---- the parts of a row, forth

target_small : (t : Option Target) → FitsOption t → target_number t < 2 ^ 64
target_small None f = lit< tt
target_small (Some (Object o)) f = f.1
target_small (Some (Symbolic n)) f = omega arith

target_byte_lem : (t : Option Target) → target_byte t < 256
target_byte_lem None = lit< tt
target_byte_lem (Some (Object o)) = lit< tt
target_byte_lem (Some (Symbolic n)) = lit< tt

log_byte : (l : RefLog) → ref_log_byte l < 256
log_byte AndReference = lit< tt
log_byte Only = lit< tt

flag_byte : (b : Bool) → flag b < 256
flag_byte false = lit< tt
flag_byte true = lit< tt

previous_byte_lem : (p : PreviousValue) → previous_byte p < 256
previous_byte_lem Any = lit< tt
previous_byte_lem MustExist = lit< tt
previous_byte_lem MustNotExist = lit< tt
previous_byte_lem (MustExistAndMatch t) = lit< tt
previous_byte_lem (ExistingMustMatch t) = lit< tt

change_byte_lem : (c : Change) → change_byte c < 256
change_byte_lem (Update log expected new) = lit< tt
change_byte_lem (Delete expected log) = lit< tt

log_forth : (l : RefLog) → (ref_log_of (ref_log_byte l)) ≡ Some l
log_forth l = (ref_log_back l)

flag_forth : (b : Bool) → flag_of (flag b) ≡ Some b
flag_forth false = refl
flag_forth true = refl

target_forth : (t : Option Target) → FitsOption t → target_from (target_byte t) (target_number t) ≡ Some t
target_forth None f = refl
target_forth (Some (Object o)) f = rw (not_zero o.0 f.0)
target_forth (Some (Symbolic n)) f = rw (lt-leb (2 ^ 16) n.0 f)

previous_forth : (p : PreviousValue) → (previous_of (previous_byte p) (expected_target p)) ≡ Some p
previous_forth p = (read-previous p)

change_forth : (c : Change) → change_of (change_byte c) (log_of c) (force_of c) (expected_of c) (new_value c) (message_of c) ≡ Some c
change_forth (Update log expected new) = refl
change_forth (Delete expected log) = refl

-- ---- and back

log_back : (k : ℕ) (l : RefLog) → (ref_log_of k) ≡ Some l → ref_log_byte l ≡ k
log_back zero l e = rw (← some_is e)
log_back (suc zero) l e = rw (← some_is e)
log_back (suc (suc k)) l e = absurd (none_some e)

flag_back : (k : ℕ) (b : Bool) → flag_of k ≡ Some b → flag b ≡ k
flag_back zero b e = rw (← some_is e)
flag_back (suc zero) b e = rw (← some_is e)
flag_back (suc (suc k)) b e = absurd (none_some e)

target_back : (k x : ℕ) (t : Option Target) → target_from k x ≡ Some t → x < 2 ^ 64
    → (target_byte t ≡ k) × (target_number t ≡ x) × FitsOption t
target_back zero x t e h =
    let c = cond_some (eqb x 0) (Some None) t e in
    rw (← some_is c.1) (refl, sym (eqb-true x 0 c.0), tt)
target_back (suc zero) x t e h =
    let c = cond_none (eqb x 0) (Some (Some (Object (record { 0 = x })))) t e in
    rw (← some_is c.1) (refl, refl, (some_id x c.0, h))
target_back (suc (suc zero)) x t e h =
    let c = cond_none (leb (2 ^ 16) x) (Some (Some (Symbolic (record { 0 = x })))) t e in
    rw (← some_is c.1) (refl, refl, leb-false (2 ^ 16) x c.0)
target_back (suc (suc (suc k))) x t e h =
    absurd (none_some (cond_none (eqb (suc (suc (suc k))) 2 && leb (2 ^ 16) x) None t e).1)

-- ---- loose values by their targets

pub loose_forth : (v : Loose) → FitsLoose v → loose_from (loose_kind v) (loose_number v) ≡ Some v
loose_forth loose.None f = refl
loose_forth (loose.Target (Object o)) f = rw (not_zero o.0 f.0)
loose_forth (loose.Target (Symbolic n)) f = rw (lt-leb (2 ^ 16) n.0 f)
loose_forth loose.Broken f = refl

-- what is not broken has its target's numbers
unbroken_back : (k x : ℕ) (t : Option Target) (v : Loose) → (target_byte t ≡ k) × (target_number t ≡ x) × FitsOption t → unbroken t ≡ v
    → (loose_kind v ≡ k) × (loose_number v ≡ x) × FitsLoose v
unbroken_back k x None v h e = rw (← e) h
unbroken_back k x (Some (Object o)) v h e = rw (← e) h
unbroken_back k x (Some (Symbolic n)) v h e = rw (← e) h

pub loose_back : (k x : ℕ) (v : Loose) → loose_from k x ≡ Some v → x < 2 ^ 64
    → (loose_kind v ≡ k) × (loose_number v ≡ x) × FitsLoose v
loose_back k x v e h = go (eqb k 3) refl e
  where
    go : (b : Bool) → eqb k 3 ≡ b → cond b (cond (eqb x 0) (Some loose.Broken) None) (target_from k x >>= λ t. Some (unbroken t)) ≡ Some v
        → (loose_kind v ≡ k) × (loose_number v ≡ x) × FitsLoose v
    go true p q =
        let c = cond_some (eqb x 0) (Some loose.Broken) v q in
        rw (← some_is c.1) (sym (eqb-true k 3 p), sym (eqb-true x 0 c.0), tt)
    go false p q =
        some_then (target_from k x) _ v q (λ t ht q. unbroken_back k x t v (target_back k x t ht h) (some_is q))

-- ---- what is expected, and the change

previous_back : (k : ℕ) (t : Option Target) (p : PreviousValue) → (previous_of k t) ≡ Some p
    → (previous_byte p ≡ k) × (expected_target p ≡ t)
previous_back zero None p e = rw (← some_is e) (refl, refl)
previous_back zero (Some t) p e = absurd (none_some e)
previous_back (suc zero) None p e = rw (← some_is e) (refl, refl)
previous_back (suc zero) (Some t) p e = absurd (none_some e)
previous_back (suc (suc zero)) None p e = rw (← some_is e) (refl, refl)
previous_back (suc (suc zero)) (Some t) p e = absurd (none_some e)
previous_back (suc (suc (suc zero))) None p e = absurd (none_some e)
previous_back (suc (suc (suc zero))) (Some t) p e = rw (← some_is e) (refl, refl)
previous_back (suc (suc (suc (suc zero)))) None p e = absurd (none_some e)
previous_back (suc (suc (suc (suc zero)))) (Some t) p e = rw (← some_is e) (refl, refl)
previous_back (suc (suc (suc (suc (suc k))))) t p e = absurd (none_some e)

-- a change of these parts
record Is (c : Change) (k : ℕ) (l : RefLog) (force : Bool) (p : PreviousValue) (new : Option Target) (m : ℕ) : Type 0 where
  kind : change_byte c ≡ k
  log : log_of c ≡ l
  forced : force_of c ≡ force
  expected : expected_of c ≡ p
  value : new_value c ≡ new
  message : message_of c ≡ m

change_back : (k : ℕ) (l : RefLog) (force : Bool) (p : PreviousValue) (new : Option Target) (m : ℕ) (c : Change)
    → change_of k l force p new m ≡ Some c → Is c k l force p new m
change_back zero l force p new m c e = absurd (none_some e)
change_back (suc zero) l force p None m c e = absurd (none_some e)
change_back (suc zero) l force p (Some new) m c e =
    rw (← some_is e) (record { kind = refl; log = refl; forced = refl; expected = refl; value = refl; message = refl })
change_back (suc (suc zero)) l true p None m c e = absurd (none_some e)
change_back (suc (suc zero)) l false p None m c e =
    let t = cond_some (eqb m 0) (Some (Delete p l)) c e in
    rw (← some_is t.1)
    (record { kind = refl; log = refl; forced = refl; expected = refl; value = refl; message = sym (eqb-true m 0 t.0) })
change_back (suc (suc zero)) l force p (Some new) m c e = absurd (none_some e)
change_back (suc (suc (suc k))) l force p new m c e = absurd (none_some e)

parent_back : (k j : ℕ) (p : Option ℕ) → parent_from k j ≡ Some p → j < 2 ^ 8
    → (parent_flag p ≡ k) × (parent_place p ≡ j) × FitsParent p
parent_back zero j p e h =
    let c = cond_some (eqb j 0) (Some None) p e in
    rw (← some_is c.1) (refl, sym (eqb-true j 0 c.0), tt)
parent_back (suc zero) j p e h = rw (← some_is e) (refl, refl, h)
parent_back (suc (suc k)) j p e h = absurd (none_some e)

-- ---- rows

pub fit_row : (r : Edit) → FitsRow r → Fit row_widths (row_numbers r)
fit_row r f =
    and f.name
    (and (change_byte_lem r.update.change)
    (and (log_byte (log_of r.update.change))
    (and (flag_byte (force_of r.update.change))
    (and f.message
    (and (previous_byte_lem (expected_of r.update.change))
    (and (target_byte_lem (previous_value r.update.change))
    (and (target_small (previous_value r.update.change) f.was)
    (and (target_byte_lem (new_value r.update.change))
    (and (target_small (new_value r.update.change) f.new)
    (last r.parent_index f.parent))))))))))
  where
    last : (p : Option ℕ) → FitsParent p
        → Fit (1 ∷ 1 ∷ 8 ∷ []) (parent_flag p ∷ parent_place p ∷ r.leaf_referent_previous_oid.0 ∷ [])
    last None g = and (lit< tt) (and (lit< tt) (and f.leaf end))
    last (Some j) g = and (lit< tt) (and g (and f.leaf end))

-- the numbers of a row of these parts, with what stands for its parent
abbrev places : ℕ → Change → List ℕ → List ℕ
places n c t =
    n ∷ change_byte c ∷ ref_log_byte (log_of c) ∷ flag (force_of c) ∷ message_of c ∷ previous_byte (expected_of c)
    ∷ target_byte (previous_value c) ∷ target_number (previous_value c) ∷ target_byte (new_value c) ∷ target_number (new_value c) ∷ t

row_of : (n : ℕ) (c : Change) (k j : ℕ) (p : Option ℕ) (leaf : ℕ)
    → FitsOption (previous_value c) → FitsOption (new_value c) → parent_from k j ≡ Some p
    → row_from (places n c (k ∷ j ∷ leaf ∷ []))
    ≡ Some
    (record {
      update = record { change = c; name = record { 0 = n }; deref = false };
      parent_index = p;
      leaf_referent_previous_oid = record { 0 = leaf };
    })
unfolding row_from
row_of n c k j p leaf was new e =
    rw (
      log_forth (log_of c),
      flag_forth (force_of c),
      target_forth (previous_value c) was,
      previous_forth (expected_of c),
      target_forth (new_value c) new,
      change_forth c,
      e,
    )

pub row_forth : (r : Edit) → FitsRow r → row_from (row_numbers r) ≡ Some r
row_forth r f =
    go r.parent_index
    ∙ ap
    (λ (d : Bool).
    Some
    (record {
      update = record { change = r.update.change; name = r.update.name; deref = d };
      parent_index = r.parent_index;
      leaf_referent_previous_oid = r.leaf_referent_previous_oid;
    }))
    (sym f.deref)
  where
    go : (p : Option ℕ)
        → row_from (places r.update.name.0 r.update.change (parent_flag p ∷ parent_place p ∷ r.leaf_referent_previous_oid.0 ∷ []))
        ≡ Some
        (record {
          update = record { change = r.update.change; name = r.update.name; deref = false };
          parent_index = p;
          leaf_referent_previous_oid = r.leaf_referent_previous_oid;
        })
    go None =
        row_of r.update.name.0 r.update.change 0 0 None r.leaf_referent_previous_oid.0 f.was f.new refl
    go (Some j) =
        row_of r.update.name.0 r.update.change 1 j (Some j) r.leaf_referent_previous_oid.0 f.was f.new refl

module _ (name kind log force message expected was_kind was new_kind new has_parent parent leaf : ℕ)
    (name_fits : name < 2 ^ 16) (message-fits : message < 2 ^ 16) (was-fits : was < 2 ^ 64) (new_fits : new < 2 ^ 64)
    (parent_fits : parent < 2 ^ 8) (leaf_fits : leaf < 2 ^ 64) where
  abbrev thirteen : List ℕ
  thirteen =
      name ∷ kind ∷ log ∷ force ∷ message ∷ expected ∷ was_kind ∷ was ∷ new_kind ∷ new ∷ has_parent ∷ parent ∷ leaf ∷ []

  -- a row whose parts have these numbers has them
  built : (l : RefLog) (b : Bool) (w : Option Target) (x : PreviousValue) (n : Option Target) (c : Change) (p : Option ℕ)
      → ref_log_byte l ≡ log → flag b ≡ force
      → (target_byte w ≡ was_kind) × (target_number w ≡ was) × FitsOption w
      → (previous_byte x ≡ expected) × (expected_target x ≡ w)
      → (target_byte n ≡ new_kind) × (target_number n ≡ new) × FitsOption n
      → Is c kind l b x n message
      → (parent_flag p ≡ has_parent) × (parent_place p ≡ parent) × FitsParent p
      → (r : Edit)
      → record {
        update = record { change = c; name = record { 0 = name }; deref = false };
        parent_index = p;
        leaf_referent_previous_oid = record { 0 = leaf };
      } ≡ r
      → (row_numbers r ≡ thirteen) × FitsRow r
  built l b w x n c p hl hb hw hx hn hc hp r e =
      rw (← e) (
        rw (hc.kind, hc.log, hc.forced, hc.message, hc.expected, hc.value, hx.1, hl, hb, hw.0, hw.1, hx.0, hn.0, hn.1, hp.0, hp.1) refl,
        record {
          name = name_fits;
          deref = refl;
          message = rw hc.message message-fits;
          was = rw (hc.expected, hx.1) hw.2;
          new = rw hc.value hn.2;
          parent = hp.2;
          leaf = leaf_fits;
        },
      )

  pub row_back : (r : Edit) → row_from thirteen ≡ Some r → (row_numbers r ≡ thirteen) × FitsRow r
  unfolding row_from
  row_back r e =
      some_then ((ref_log_of log)) _ r e (λ l hl e.
      some_then (flag_of force) _ r e (λ b hb e.
      some_then (target_from was_kind was) _ r e (λ w hw e.
      some_then ((previous_of expected w)) _ r e (λ x hx e.
      some_then (target_from new_kind new) _ r e (λ n hn e.
      some_then (change_of kind l b x n message) _ r e (λ c hc e.
      some_then (parent_from has_parent parent) _ r e (λ p hp e.
      built l b w x n c p (log_back log l hl) (flag_back force b hb) (target_back was_kind was w hw was-fits)
      (previous_back expected w x hx) (target_back new_kind new n hn new_fits) (change_back kind l b x n message c hc)
      (parent_back has_parent parent p hp parent_fits) r (some_is e))))))))
