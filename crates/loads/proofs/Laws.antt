-- Loads: what each way out answers. Assumes nothing.
use Rattle.std.specs.Prelude.{Option, Some, None, Ok, Err, is_some}
use Rattle.target.specs.declared.ObjectNumber.{ObjectNumber}
use mathlib.Core.Path.{◌≡◌, refl, sym, ap, ◌∙◌, subst}
use mathlib.Core.Bool.{Bool, true, false, not, ◌&&◌, cond, false≢true}
use mathlib.Core.List.{List, [], ◌∷◌}
use Prim.Native.Nat.{ℕ, zero, suc, ◌<◌, ◌≤◌, ◌^◌}
use native.Mathlib.Omega.{arith}
use lib.Dec.{eqb, ltb}
use borrow.Author.Tests.{lt-leb, lt-ltb, ltb-true, ne_eqb, not-true, not-false}
use mir.Val.{Fits}
use mir.Syntax.{w64}
use Rattle.target.specs.declared.NameNumber.{NameNumber}
use Rattle.target.specs.declared.Target.TheVariants.{Object}
use Rattle.target.specs.Fields.{name_below}
use Rattle.model.specs.declared.Loose.{Loose}
use Rattle.model.specs.declared.Loose.TheVariants as loose
use Rattle.model.specs.declared.Refusal.TheVariants.{NotRegistered, WrongState, BadLoad}
use Rattle.model.specs.Names.{packable}
use Rattle.model.specs.Store.{Store, count, entry_at, entry_of, is_prepared, is_id, is_none, put_loose, put_packed, change_entry}
use Rattle.model.specs.Beneath.{loose_above, loose_beneath}
use Rattle.model.specs.Reply.{Reply, ◌>>◌, known, idle}
use Rattle.model.specs.Reply.Call.{load_loose, load_packed}
use Rattle.model.specs.Reply.Given.{nothing}
use Rattle.model.specs.Calls.{step}
use Rattle.model.specs.Load.{loose_of, nests, loose_loaded, packed_of, packed_loaded}
use Rattle.slots.specs.Values.{FitsLoose, FitsPacked, unbroken, loose_from}
use Rattle.model.specs.EditList.{◌>>=◌ as ◌>>=ₒ◌}
use Rattle.model.specs.Numbers.{answer}
use Rattle.word.proofs.Tests.{both_true}
use Rattle.model.proofs.Binds.{cond_some, some_is, none_some}
use Rattle.slots.proofs.Forms.{loose_back}
use Rattle.region.specs.Region.{view, good, mode_byte, Became}
use Rattle.region.proofs.Read.{is_prepared_lem, not_prepared}
use Rattle.steps.specs.Steps.{packed_by}
use Rattle.answers.specs.declared.Verdict.{Verdict}
use Rattle.answers.specs.Answers.{answer_by}
use Rattle.calls.specs.Call.{reply_to, Replied}
use Rattle.calls.proofs.Replies.{good_laid, says_no, says_done}
use Rattle.calls.proofs.Known.{known_far, known_near, known_as}

-- ---- a value that would stand above another, or beneath one

module _ (s : Store) (n : ℕ) (v : Loose) (a : Bool) (ea : a ≡ not (is_none v)) where
  pub nests_none : a ≡ false → a ≡ nests s n v
  unfolding nests
  nests_none t = rw (sym ea ∙ t) t

  module _ (t : a ≡ true) (b : Bool) (eb : b ≡ loose_above s n) where
    pub nests_under : b ≡ true → b ≡ nests s n v
    unfolding nests
    nests_under u = rw (sym ea ∙ t, sym eb ∙ u) u

    pub nests_over : b ≡ false → (r : Bool) → r ≡ loose_beneath s n → r ≡ nests s n v
    unfolding nests
    nests_over u r er = rw (sym ea ∙ t, sym eb ∙ u) er

-- ---- 15, then 3

module _ (m : ℕ) (s : Store) (em : m ≡ mode_byte s.prepared) where
  busy : (m ≡ 0 → ⊥) → idle s ≡ Err WrongState
  busy h = rw (is_prepared_lem s.prepared (λ (q : mode_byte s.prepared ≡ 0). h (em ∙ q)))

  free : m ≡ 0 → idle s ≡ Ok tt
  free h = rw (ap is_prepared (not_prepared s.prepared (sym em ∙ h)))

  -- past both tests
  goes : (n : ℕ) (o : Option NameNumber) (a : NameNumber) → m ≡ 0 → o ≡ name_below (count s) n → o ≡ Some a → (reply : Reply) → (idle s >> (known n s >> reply)) ≡ reply
  goes n o a h e q reply = rw (free h, known_near n s o e a q)

-- ---- the values

-- a slot's reading is the load's, but for links past 16 bits and numbers past 64
loose_same : (kind x k : ℕ) → Fits w64 x → k ≤ 256 → (eqb kind 2 && not (ltb x k)) ≡ false → loose_from kind x ≡ loose_of kind x
loose_same zero x k f l h = go (eqb x 0)
  where
    go : (b : Bool) → (cond b (Some None) None >>=ₒ λ t. Some (unbroken t)) ≡ cond b (Some loose.None) None
    go true = refl
    go false = refl
loose_same (suc zero) x k f l h =
    let p : x < 2 ^ 64 = f.fits in
    let e : is_id x ≡ not (eqb x 0) = rw (lt-ltb x (2 ^ 64) p) (positive x) in
    rw e (go (eqb x 0))
  where
    positive : (x : ℕ) → (ltb 0 x && true) ≡ not (eqb x 0)
    positive zero = refl
    positive (suc x) = let p : 0 < suc x = omega arith in rw (lt-ltb 0 (suc x) p, ne_eqb (suc x) 0 (λ e. omega arith))

    go : (b : Bool)
        → (cond b None (Some (Some (Object (record { 0 = x })))) >>=ₒ λ t. Some (unbroken t))
        ≡ cond (not b) (Some (loose.Target (Object (record { 0 = x })))) None
    go true = refl
    go false = refl
loose_same (suc (suc zero)) x k f l h =
    let near : x < k = ltb-true x k (not-false (ltb x k) h) in
    let small : x < 2 ^ 16 = omega arith in
    rw (lt-leb (2 ^ 16) x small)
loose_same (suc (suc (suc zero))) x k f l h = refl
loose_same (suc (suc (suc (suc kind)))) x k f l h =
    rw (ne_eqb (suc (suc (suc (suc kind)))) 3 (λ e. omega arith), ne_eqb (suc (suc (suc (suc kind)))) 2 (λ e. omega arith))

loose_fits : (kind x : ℕ) (v : Loose) → Fits w64 x → loose_from kind x ≡ Some v → FitsLoose v
loose_fits kind x v f h = let p : x < 2 ^ 64 = f.fits in (loose_back kind x v h p).2

packed_same : (name : List ℕ) (b : Bool) (kind x : ℕ) → b ≡ packable name → packed_by b kind x ≡ packed_of name kind x
packed_same name b zero x e = refl
packed_same name b (suc zero) x e = rw e
packed_same name b (suc (suc kind)) x e = refl

packed_fits : (b : Bool) (kind x : ℕ) (v : Option ObjectNumber) → Fits w64 x → Some v ≡ packed_by b kind x → FitsPacked v
packed_fits b zero x v f h = rw (← some_is (cond_some (eqb x 0) (Some None) v (sym h)).1) tt
packed_fits b (suc zero) x v f h =
    let p : x < 2 ^ 64 = f.fits in
    let c = cond_some (is_id x && b) (Some (Some (record { 0 = x }))) v (sym h) in
    rw (← some_is c.1) (ltb-true 0 x (both_true (ltb 0 x) (ltb x (2 ^ 64)) (both_true (is_id x) b c.0).0).0, p)
packed_fits b (suc (suc k)) x v f h = absurd (none_some (sym h))

-- ---- the ways out

module _ (n kind x : ℕ) (r : List ℕ) (ok : Bool) (is : ok ≡ good r) (y : not ok ≡ false) (m : ℕ) (em : m ≡ mode_byte (view r).prepared) where
  pub loose_busy : (m ≡ 0 → ⊥) → Replied (Err WrongState) r r (reply_to (load_loose n kind x) r)
  unfolding step loose_loaded
  loose_busy h = says_no (load_loose n kind x) r ok is refl y WrongState (rw (busy m (view r) em h))

  pub packed_busy : (m ≡ 0 → ⊥) → Replied (Err WrongState) r r (reply_to (load_packed n kind x) r)
  unfolding step packed_loaded
  packed_busy h = says_no (load_packed n kind x) r ok is refl y WrongState (rw (busy m (view r) em h))

  module _ (h : m ≡ 0) (i : Option NameNumber) (ei : i ≡ name_below (count (view r)) n) where
    pub loose_far : i ≡ None → Replied (Err (NotRegistered n)) r r (reply_to (load_loose n kind x) r)
    unfolding step loose_loaded
    loose_far l = says_no (load_loose n kind x) r ok is refl y (NotRegistered n) (rw (free m (view r) em h, known_far n (view r) i ei l))

    pub packed_far : i ≡ None → Replied (Err (NotRegistered n)) r r (reply_to (load_packed n kind x) r)
    unfolding step packed_loaded
    packed_far l = says_no (load_packed n kind x) r ok is refl y (NotRegistered n) (rw (free m (view r) em h, known_far n (view r) i ei l))

    module _ (at : NameNumber) (l : i ≡ Some at) where
      on : (reply : Reply) → (idle (view r) >> (known n (view r) >> reply)) ≡ reply
      on reply = goes m (view r) em n i at h ei l reply

      as_named : at ≡ record { 0 = n }
      as_named = known_as n (view r) i ei at l

      module _ (stray : Bool) (es : stray ≡ (eqb kind 2 && not (ltb x (count (view r))))) where
        pub loose_stray : stray ≡ true → Replied (Err (NotRegistered x)) r r (reply_to (load_loose n kind x) r)
        unfolding step loose_loaded
        loose_stray q = says_no (load_loose n kind x) r ok is refl y (NotRegistered x) (on _ ∙ (rw (sym es ∙ q)))

        module _ (q : stray ≡ false) (o : Option Loose) (eo : o ≡ loose_from kind x) (f : Fits w64 x) where
          same : o ≡ loose_of kind x
          same = eo ∙ loose_same kind x (count (view r)) f (good_laid r ok is y).names (sym es ∙ q)

          pub loose_bad : o ≡ None → Replied (Err BadLoad) r r (reply_to (load_loose n kind x) r)
          unfolding step loose_loaded
          loose_bad p =
              let none_there : None ≡ loose_of kind x = (sym p) ∙ same in
              says_no (load_loose n kind x) r ok is refl y BadLoad (on _ ∙ (rw (sym es ∙ q, ← none_there)))

          module _ (v : Loose) (p : o ≡ Some v) (z : Bool) (ez : z ≡ nests (view r) at.0 v) where
            there : Some v ≡ loose_of kind x
            there = (sym p) ∙ same

            nests_is : (t : Bool) → z ≡ t → nests (view r) n v ≡ t
            nests_is t e = ap (λ (at : NameNumber). nests (view r) at.0 v) (sym as_named) ∙ sym ez ∙ e

            pub loose_nested : z ≡ true → Replied (Err BadLoad) r r (reply_to (load_loose n kind x) r)
            unfolding step loose_loaded
            loose_nested u =
                says_no (load_loose n kind x) r ok is refl y BadLoad (on _ ∙ (rw (sym es ∙ q, ← there, nests_is true u)))

            pub loose_done : (w : Verdict) (r' : List ℕ) → z ≡ false → Became r' (change_entry (put_loose v) at.0 (view r)) → answer_by w ≡ answer 0 []
                → Replied (Ok w) r r' (reply_to (load_loose n kind x) r)
            unfolding step loose_loaded
            loose_done w r' u b a =
                says_done (load_loose n kind x) r ok is refl y w (change_entry (put_loose v) n (view r)) nothing r' (on _ ∙ (rw (sym es ∙ q, ← there, nests_is false u))) a
                (subst (λ (at : NameNumber). Became r' (change_entry (put_loose v) at.0 (view r))) as_named b)

      module _ (name : List ℕ) (en : name ≡ (entry_of (view r) at).name) (b : Bool) (eb : b ≡ packable name) (o : Option (Option ObjectNumber)) (eo : o ≡ packed_by b kind x) where
        as_packed : o ≡ packed_of (entry_at (view r) n).name kind x
        as_packed =
            eo ∙ packed_same (entry_at (view r) n).name b kind x (eb ∙ ap packable (en ∙ ap (λ (at : NameNumber). (entry_of (view r) at).name) as_named))

        pub packed_bad : o ≡ None → Replied (Err BadLoad) r r (reply_to (load_packed n kind x) r)
        unfolding step packed_loaded
        packed_bad p =
            let none_there : None ≡ packed_of (entry_at (view r) n).name kind x = (sym p) ∙ as_packed in
            says_no (load_packed n kind x) r ok is refl y BadLoad (on _ ∙ (rw (← none_there)))

        pub packed_done : (w : Verdict) (v : Option ObjectNumber) (r' : List ℕ) → o ≡ Some v → Became r' (change_entry (put_packed v) at.0 (view r)) → answer_by w ≡ answer 0 []
            → Replied (Ok w) r r' (reply_to (load_packed n kind x) r)
        unfolding step packed_loaded
        packed_done w v r' p c a =
            let there : Some v ≡ packed_of (entry_at (view r) n).name kind x = (sym p) ∙ as_packed in
            says_done (load_packed n kind x) r ok is refl y w (change_entry (put_packed v) n (view r)) nothing r' (on _ ∙ (rw (← there))) a
            (subst (λ (at : NameNumber). Became r' (change_entry (put_packed v) at.0 (view r))) as_named c)

-- ---- what is written fits its slot

pub loose_room : (kind x : ℕ) (o : Option Loose) (v : Loose) → Fits w64 x → o ≡ loose_from kind x → o ≡ Some v → FitsLoose v
loose_room kind x o v f e h = loose_fits kind x v f (sym e ∙ h)

pub packed_room : (b : Bool) (kind x : ℕ) (o : Option (Option ObjectNumber)) (v : Option ObjectNumber) → Fits w64 x → o ≡ packed_by b kind x → o ≡ Some v → FitsPacked v
packed_room b kind x o v f e h = packed_fits b kind x v f ((sym h) ∙ e)
