-- Where reading a record stops, and what is read. Assumes nothing.
use Rattle.std.specs.Prelude.{Option, Some, None}
use Rattle.target.specs.declared.Target.{Target}
use mathlib.Core.Path.{◌≡◌, refl, sym, ap, ap₂, ◌∙◌}
use mathlib.Core.Bool.{Bool, false, ◌&&◌, cond}
use mathlib.Core.List.{List}
use Prim.Native.Nat.{ℕ, zero, suc, ◌+◌, ◌≤◌, ◌<◌, ◌%◌, ◌^◌}
use native.Mathlib.Omega.{arith}
use lib.Dec.{eqb, leb}
use borrow.Author.Tests.{ne_eqb, le-leb, lt-leb}
use Rattle.word.specs.Be.{cut, val}
use Rattle.word.specs.Codec.{is_some}
use Rattle.target.specs.declared.NameNumber.{NameNumber}
use Rattle.target.specs.declared.ObjectNumber.{ObjectNumber}
use Rattle.target.specs.declared.Target.TheVariants.{Object, Symbolic}
use Rattle.transaction.specs.declared.LogChange.{LogChange}
use Rattle.transaction.specs.declared.RefLog.{RefLog}
use Rattle.transaction.specs.declared.RefLog.TheVariants.{AndReference}
use Rattle.transaction.specs.declared.PreviousValue.{PreviousValue}
use Rattle.transaction.specs.declared.PreviousValue.TheVariants.{Any}
use Rattle.transaction.specs.declared.Change.{Change}
use Rattle.transaction.specs.declared.Change.TheVariants.{Update}
use Rattle.transaction.specs.declared.RefEdit.{RefEdit}
use Rattle.transaction.specs.Change.{default_log}
use Rattle.transaction.specs.Fields.{ref_log_of, previous_of}
use Rattle.model.specs.EditList.{flag_of, target_of, change_of, byte_at, edit_of}
use Rattle.slots.specs.Values.{target_from}
use Rattle.edits.specs.Read.{target_low, target_by, expected_by, change_by, edit_by}
use Rattle.edits.specs.Edits.{no_edit}
use Rattle.edits.proofs.Model.{same_form}

flag : (x : ℕ) → flag_of x ≡ cond (leb x 1) (Some (eqb x 1)) None
flag zero = refl
flag (suc zero) = refl
flag (suc (suc x)) =
    let h : 1 < suc (suc x) = omega arith in
    ap (λ (b : Bool). cond b (Some (eqb (suc (suc x)) 1)) None) (sym (lt-leb (suc (suc x)) 1 h))

flag_past : (x : ℕ) → 1 < x → flag_of x ≡ None
flag_past x h = flag x ∙ ap (λ (b : Bool). cond b (Some (eqb x 1)) None) (lt-leb _ _ h)

flag_is : (x : ℕ) → x ≤ 1 → flag_of x ≡ Some (eqb x 1)
flag_is x h = flag x ∙ ap (λ (b : Bool). cond b (Some (eqb x 1)) None) (le-leb _ _ h)

-- ---- targets

pub low_link : (k x : ℕ) → k ≡ 2 → Some (Some (Symbolic (record { 0 = x % 65536 }))) ≡ target_low k x
low_link k x e = rw e

other_low : (k x : ℕ) → (k ≡ 2 → ⊥) → target_of k x ≡ target_low k x
other_low zero x h = refl
other_low (suc zero) x h = refl
other_low (suc (suc zero)) x h = absurd (h refl)
other_low (suc (suc (suc k))) x h = refl

pub low_other : (k x : ℕ) (o : Option (Option Target)) → (k ≡ 2 → ⊥) → o ≡ target_from k x → o ≡ target_low k x
low_other k x o h e = e ∙ ap (λ (b : Bool). cond (b && leb (2 ^ 16) x) None (target_of k x)) (ne_eqb k 2 h) ∙ other_low k x h

pub target_in : (s : List ℕ) (a k x : ℕ) (o : Option (Option Target)) → k ≡ byte_at a s → x ≡ val (cut (a + 1) 8 s)
    → o ≡ target_low k x → o ≡ target_by target_low a s
unfolding target_by
target_in s a k x o e f h = h ∙ ap₂ target_low e f

pub no_expected : (s : List ℕ) (o : Option (Option Target))
    → o ≡ target_by target_low 5 s → o ≡ None → None ≡ expected_by target_low s
unfolding expected_by
no_expected s o e h = rw (← e, h)

pub expected_in : (s : List ℕ) (o : Option (Option Target)) (was : Option Target) (k : ℕ) (p : Option PreviousValue)
    → o ≡ target_by target_low 5 s → o ≡ Some was → k ≡ byte_at 4 s → p ≡ previous_of k was
    → p ≡ expected_by target_low s
unfolding expected_by
expected_in s o was k p e h f g = rw (← e, h, ← f, ← g)

-- ---- the change: `o` is the answer of each call in turn

module _ (s : List ℕ) (k : ℕ) (o : Option RefLog) (ek : k ≡ byte_at 2 s) (e : o ≡ ref_log_of k) where
  pub no_log : o ≡ None → None ≡ change_by target_low s
  unfolding change_by
  no_log h = rw (← ek, ← e, h)

  module _ (log : RefLog) (h : o ≡ Some log) (force : ℕ) (ef : force ≡ byte_at 3 s) where
    pub no_force : 1 < force → None ≡ change_by target_low s
    unfolding change_by
    no_force f = rw (← ek, ← e, h, ← ef, flag_past force f)

    module _ (f : force ≤ 1) (o2 : Option PreviousValue) (e2 : o2 ≡ expected_by target_low s) where
      pub no_previous : o2 ≡ None → None ≡ change_by target_low s
      unfolding change_by
      no_previous h2 = rw (← ek, ← e, h, ← ef, flag_is force f, ← e2, h2)

      module _ (expected : PreviousValue) (h2 : o2 ≡ Some expected) (o3 : Option (Option Target))
          (e3 : o3 ≡ target_by target_low 14 s) where
        pub no_new : o3 ≡ None → None ≡ change_by target_low s
        unfolding change_by
        no_new h3 = rw (← ek, ← e, h, ← ef, flag_is force f, ← e2, h2, ← e3, h3)

        pub change_in_lem : (new : Option Target) (kind message : ℕ) (c : Option Change) → o3 ≡ Some new
            → kind ≡ byte_at 0 s → message ≡ val (cut 25 2 s)
            → c ≡ change_of kind log (eqb force 1) expected new message → c ≡ change_by target_low s
        unfolding change_by
        change_in_lem new kind message c h3 e4 e5 e6 =
            rw (← ek, ← e, h, ← ef, flag_is force f, ← e2, h2, ← e3, h3, ← e4, ← e5) e6

-- ---- the edit

module _ (s : List ℕ) (deref : ℕ) (ed : deref ≡ byte_at 1 s) where
  pub no_deref : 1 < deref → None ≡ edit_by target_low s
  unfolding edit_by
  no_deref h = rw (← ed, flag_past deref h)

  module _ (f : deref ≤ 1) (o : Option Change) (e : o ≡ change_by target_low s) where
    pub no_change : o ≡ None → None ≡ edit_by target_low s
    unfolding edit_by
    no_change h = rw (← ed, flag_is deref f, ← e, h)

    pub edit_in_lem : (change : Change) (name : ℕ) (u : RefEdit) → o ≡ Some change → name ≡ val (cut 23 2 s)
        → u ≡ record { change = change; name = record { 0 = name }; deref = eqb deref 1 } → Some u ≡ edit_by target_low s
    unfolding edit_by
    edit_in_lem change name u h en eu = rw (← ed, flag_is deref f, ← e, h, eu, en)

-- ---- whether there is one

pub edit_is_some : (s : List ℕ) (o : Option RefEdit) (b : Bool) → b ≡ Rattle.std.specs.Option.is_some o → o ≡ edit_by target_low s
    → b ≡ is_some (edit_of s)
edit_is_some s o b e f = e ∙ same o ∙ ap is_some f ∙ same_form s
  where
    same : (o : Option RefEdit) → Rattle.std.specs.Option.is_some o ≡ is_some o
    same None = refl
    same (Some x) = refl

-- what stands past the edits
log_is : (m : RefLog) (f : Bool) (k : ℕ) → m ≡ AndReference → f ≡ false → k ≡ 0
    → record { mode = m; force_create_reflog = f; message = k } ≡ default_log
log_is m f k a b c = rw (a, b, c)

pub no_edit_lem : (log : LogChange) (o : ObjectNumber) (n : NameNumber) (r : RefEdit)
    → (log.mode ≡ AndReference) × (log.force_create_reflog ≡ false) × (log.message ≡ 0) → o.0 ≡ 0 → n ≡ record { 0 = 0 }
    → r ≡ record { change = Update log Any (Object o); name = n; deref = false } → r ≡ no_edit
no_edit_lem log o n r a b c e =
    rw (e, c)
    (ap₂ (λ (l : LogChange) (x : ℕ). record { change = Update l Any (Object (record { 0 = x })); name = record { 0 = 0 }; deref = false })
    (log_is log.mode log.force_create_reflog log.message a.0 a.1 a.2) b)
