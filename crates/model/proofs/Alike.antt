-- Rows that differ at most in what turns change, the expected value and the leaf-previous, and what they share. Assumes nothing.
use Rattle.std.specs.Prelude.{Option, Some, None}
use mathlib.Core.Path.{◌≡◌, refl, sym, ap, ◌∙◌}
use mathlib.Core.Bool.{Bool}
use mathlib.Core.List.{List, [], ◌∷◌, map}
use Prim.Native.Nat.{ℕ, zero, suc}
use lib.ListN.{length, length-map, get_or-map}
use Rattle.transaction.specs.declared.PreviousValue.TheVariants.{Any}
use Rattle.transaction.specs.declared.Change.{Change}
use Rattle.transaction.specs.declared.Change.TheVariants.{Update, Delete}
use Rattle.transaction.specs.declared.PackedRefs.{PackedRefs}
use Rattle.transaction.specs.declared.Edit.{Edit}
use Rattle.transaction.specs.Change.{new_value, message_of, is_log_only}
use Rattle.model.specs.Basic.{any}
use Rattle.model.specs.Store.{Store, no_row}
use Rattle.model.specs.Rows.{name_in, change_in, row_at, climb, ancestors, counts, counts_as_update, opens}

-- a row without its expected value and its leaf-previous
abbrev pub unexpecting : Change → Change
unexpecting (Update log expected new) = Update log Any new
unexpecting (Delete expected log) = Delete Any log

abbrev pub plain : Edit → Edit
plain r = record {
  update = record { change = unexpecting (change_in r); name = name_in r; deref = r.update.deref };
  parent_index = r.parent_index;
  leaf_referent_previous_oid = record { 0 = 0 };
}

abbrev pub Alike : List Edit → List Edit → Type 0
Alike rows rows' = map plain rows ≡ map plain rows'

-- ---- what a row says is what it says without them

pub new_plain : (c : Change) → new_value (unexpecting c) ≡ new_value c
new_plain (Update log expected new) = refl
new_plain (Delete expected log) = refl

pub message_plain : (c : Change) → message_of (unexpecting c) ≡ message_of c
message_plain (Update log expected new) = refl
message_plain (Delete expected log) = refl

pub only_plain : (c : Change) → is_log_only (unexpecting c) ≡ is_log_only c
only_plain (Update log expected new) = refl
only_plain (Delete expected log) = refl

pub counts_plain : (s : Store) (r : Edit) → counts s (plain r) ≡ counts s r
unfolding counts
counts_plain s r = rw only_plain

pub counts_as_update_plain : (s : Store) (r : Edit) → counts_as_update s (plain r) ≡ counts_as_update s r
counts_as_update_plain s r = rw (counts_plain, new_plain)

-- ---- lists

pub any_map :
    {A B : Type 0} (f : A → B) (p : B → Bool) (q : A → Bool) → ((a : A) → p (f a) ≡ q a)
    → (l : List A) → any p (map f l) ≡ any q l
any_map f p q h [] = refl
any_map f p q h (a ∷ l) = rw (h a, any_map f p q h l)

pub map_through : {A B C : Type 0} (f : A → B) (g : B → C) (h : A → C) → ((a : A) → g (f a) ≡ h a) → (l : List A) → map g (map f l) ≡ map h l
map_through f g h e [] = refl
map_through f g h e (a ∷ l) = rw (e a, map_through f g h e l)

-- ---- what alike rows share

module _ (rows rows' : List Edit) (e : Alike rows rows') where
  pub alike_length : length rows ≡ length rows'
  alike_length = sym (length-map rows plain) ∙ ap length e ∙ length-map rows' plain

  -- at each place, whatever the expected value and the leaf-previous do not touch
  pub alike_at : {A : Type 0} (f : Edit → A) → ((r : Edit) → f (plain r) ≡ f r) → (i : ℕ) → f (row_at rows i) ≡ f (row_at rows' i)
  alike_at f h i =
      sym (here rows) ∙ ap (λ (l : List Edit). f (row_at l i)) e ∙ here rows'
    where
      here : (l : List Edit) → f (row_at (map plain l) i) ≡ f (row_at l i)
      here l = ap f (get_or-map plain l i no_row) ∙ h (row_at l i)

  pub alike_any : (p : Edit → Bool) → ((r : Edit) → p (plain r) ≡ p r) → any p rows ≡ any p rows'
  alike_any p h = sym (any_map plain p p h rows) ∙ ap (any p) e ∙ any_map plain p p h rows'

  pub alike_map : {A : Type 0} (f : Edit → A) → ((r : Edit) → f (plain r) ≡ f r) → map f rows ≡ map f rows'
  alike_map f h = sym (map_through plain f f h rows) ∙ ap (map f) e ∙ map_through plain f f h rows'

  parent_at_lem : (i : ℕ) → (row_at rows i).parent_index ≡ (row_at rows' i).parent_index
  parent_at_lem = alike_at (λ (r : Edit). r.parent_index) (λ r. refl)

  alike_climb : (k : ℕ) (p : Option ℕ) → climb k rows p ≡ climb k rows' p
  alike_climb zero p = refl
  alike_climb (suc k) None = refl
  alike_climb (suc k) (Some j) = rw (parent_at_lem j, alike_climb k (row_at rows' j).parent_index)

  pub alike_ancestors : (i : ℕ) → ancestors rows i ≡ ancestors rows' i
  unfolding ancestors
  alike_ancestors i = rw (parent_at_lem i) (alike_climb i (row_at rows' i).parent_index)

  pub alike_opens : (s : Store) (mode : PackedRefs) → opens s mode rows ≡ opens s mode rows'
  unfolding opens
  alike_opens s mode = rw (alike_any (counts s) (counts_plain s), alike_any (counts_as_update s) (counts_as_update_plain s))
