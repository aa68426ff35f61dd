-- The places that reads answer: the proofs of the statements of specs/Where.antt. Assumes nothing.
use Rattle.std.specs.Prelude.{None, Result, Ok, Err}
use Rattle.model.specs.declared.Refusal.{Refusal}
use mathlib.Core.Path.{◌≡◌, refl, sym, ap, ap₂, ◌∙◌, subst, fun_ext}
use mathlib.Core.Bool.{Bool, true, false≢true}
use mathlib.Core.List.{List, map}
use mathlib.Core.Logic.◌⊎◌.{inl, inr}
use Prim.Native.Nat.{ℕ}
use native.Mathlib.Omega.{arith}
use Rattle.target.specs.declared.Found.{Found}
use Rattle.target.specs.declared.Found.TheVariants as found
use Rattle.target.specs.Found.{value_in}
use Rattle.transaction.specs.declared.PackedRefs.{PackedRefs}
use Rattle.transaction.specs.declared.Edit.{Edit}
use Rattle.transaction.specs.Change.{existing_in}
use Rattle.model.specs.Store.{Store, Prepared, entry_at, rows_in, is_prepared}
use Rattle.model.specs.Read.{found_of}
use Rattle.model.specs.Rows.{name_in, change_in, row_at, opens}
use Rattle.model.specs.Fine.{Fine}
use Rattle.model.specs.Prepare.{existing_found, rows_for, held}
use Rattle.model.specs.Reply.Call.{prepare}
use Rattle.model.specs.Calls.{row_found, rows_prepared, step}
use Rattle.model.specs.Reached.{leaves}
use Rattle.model.specs.Where.{Missing, MissingAbsent, readings, rows_found, AsRead, Stays, RowPlaces}
use Rattle.model.proofs.Alike.{alike_opens, alike_map}
use Rattle.model.proofs.SameRefs.{same_at, same_opens}
use Rattle.model.proofs.Turns.{Turned, turns_fine}
use Rattle.model.proofs.HeldSound.{held_refs}
use Rattle.model.proofs.PrepareSound.{came, came_split}
use Rattle.model.proofs.Grown.{Alike, Held, alike_fine, opening_alike}
use Rattle.model.proofs.KeptSimple.{Rule}
use Rattle.model.proofs.Kept.{call_kept, reached_sound}

-- ---- the place and the value

missing_absent : (x : Found) → Missing x → value_in x ≡ None
missing_absent (found.Loose t) (inl h) = absurd (omega arith)
missing_absent (found.Loose t) (inr h) = absurd (omega arith)
missing_absent (found.Packed o) (inl h) = absurd (omega arith)
missing_absent (found.Packed o) (inr h) = absurd (omega arith)
missing_absent (found.PackedBehindBroken o) (inl h) = absurd (omega arith)
missing_absent (found.PackedBehindBroken o) (inr h) = absurd (omega arith)
missing_absent found.Absent h = refl
missing_absent found.AbsentBehindBroken h = refl

absent_missing : (x : Found) → value_in x ≡ None → Missing x
absent_missing (found.Loose t) h = absurd (let z : ◌≡◌ {A = ℕ} 0 1 = cc in omega arith)
absent_missing (found.Packed o) h = absurd (let z : ◌≡◌ {A = ℕ} 0 1 = cc in omega arith)
absent_missing (found.PackedBehindBroken o) h = absurd (let z : ◌≡◌ {A = ℕ} 0 1 = cc in omega arith)
absent_missing found.Absent h = inl refl
absent_missing found.AbsentBehindBroken h = inr refl

pub where_absent : MissingAbsent
where_absent x = (missing_absent x, absent_missing x)

-- ---- what prepare leaves

-- a row of a prepared transaction reads as its name did before, the packed table seen where it was opened
module _ (s : Store) (mode : PackedRefs) (split rows : List Edit) where
  abbrev made : Prepared
  made = record { mode = mode; rows = rows }

  held_row : opens s mode rows ≡ opens s mode split → (r : Edit) → row_found (held made s) r ≡ existing_found s (opens s mode split) r
  unfolding row_found held
  held_row e r =
      let o : opens (held made s) mode rows ≡ opens s mode split = same_opens (held made s) s (held_refs s made) mode rows ∙ e in
      ap (λ (seen : Bool). found_of seen (entry_at (held made s) (name_in r).0)) o
      ∙ same_at (held made s) s (held_refs s made) (found_of (opens s mode split)) (λ x. refl) (name_in r).0

  held_found : Turned s mode (opens s mode split) split rows → rows_found (held made s) ≡ map (existing_found s (opens s mode split)) split
  unfolding held
  held_found t =
      ap (λ (f : Edit → Found). map f rows) (fun_ext (held_row (alike_opens rows split t.alike s mode)))
      ∙ alike_map rows split t.alike (existing_found s (opens s mode split)) (λ r. refl)

prepare_found : (s : Store) → Fine s → (list : List ℕ) (number : ℕ) (p : Prepared) → rows_for list number s ≡ Ok p
    → readings list number s ≡ Ok (rows_found (held p s))
unfolding readings
prepare_found s f list number p e =
    let c = came list number s p e in
    let t : Turned s c.mode (opens s c.mode c.split) c.split c.rows =
    turns_fine s f c.mode (opens s c.mode c.split) c.split c.rows (came_split list number s p f c) c.turned in
    subst (λ (q : Prepared). readings list number s ≡ Ok (rows_found (held q s))) (sym c.left)
    (rw (c.is_list, c.is_mode, c.is_split, c.opened) (ap Ok (sym (held_found s c.mode c.split c.rows t))))

pub as_read : AsRead
unfolding step rows_prepared
as_read s reached list mode t g h = go (rows_for list mode s) refl
  where
    go : (o : Result Prepared Refusal) → rows_for list mode s ≡ o → readings list mode s ≡ Ok (rows_found t)
    go (Err r) e = absurd (let q = rw e at h in let z : ◌≡◌ {A = ℕ} 0 1 = cc in omega arith)
    go (Ok p) e =
        let q = rw e at h in
        let left : held p s ≡ t = cc in
        rw (← left) (prepare_found s (reached_sound s reached).fine list mode p e)

-- ---- while it is prepared

module _ (s t : Store) (f : Fine s) (a : Alike s t) (o : Held s t) where
  row_alike : (r : Edit) → row_found t r ≡ row_found s r
  unfolding row_found
  row_alike r = rw (opening_alike s t f a o, a.loose (name_in r).0, a.packed (name_in r).0)

  rows_alike : rows_found t ≡ rows_found s
  rows_alike = ap₂ (λ (f : Edit → Found) (rows : List Edit). map f rows) (fun_ext row_alike) (ap rows_in o.prepared)

-- the store obeys the rules, and its rows, if any are prepared, read as those of s do
record Reads (s t : Store) : Type 0 where
  fine : Fine t
  same : is_prepared t.prepared ≡ true → rows_found t ≡ rows_found s

rule : (s : Store) → Rule (Reads s)
rule s = record {
  fine = λ t h. h.fine;
  idle = λ t f e. record { fine = f; same = λ p. absurd (false≢true (rw e at p)) };
  alike = λ t u h a o b. record {
    fine = alike_fine t u h.fine a o b;
    same = λ p. rows_alike t u h.fine a o ∙ h.same (rw o.prepared at p);
  };
}

-- 15: while one is prepared there is no other
refused_too : (P : Store → Type 0) (s : Store) → P s → is_prepared s.prepared ≡ true → (list : List ℕ) (mode : ℕ)
    → P (leaves (step (prepare list mode) s) s)
unfolding step rows_prepared rows_for
refused_too P s here e list mode = rw e here

pub stays : Stays
stays s reached prepared c after =
    let here : Reads s s = record { fine = (reached_sound s reached).fine; same = λ p. refl } in
    (call_kept (Reads s) (rule s) s here (refused_too (Reads s) s here prepared) c).same after

-- ---- what a row found

pub row_places_lem : RowPlaces
unfolding row_found
row_places_lem s reached i h = record {
  value = sym agree;
  nothing = λ m. agree ∙ missing_absent x m;
  missing = λ e. absent_missing x (sym agree ∙ e);
}
  where
    x : Found
    x = row_found s (row_at (rows_in s.prepared) i)

    agree : existing_in (change_in (row_at (rows_in s.prepared) i)) ≡ value_in x
    agree = (reached_sound s reached).agree i h
