-- Five rounds: the first over the rows of the edits, then three over the newest rows, of which the table has no mark; the fifth only
-- asks whether a row leads on. Assumes nothing.
use Rattle.std.specs.Prelude.{Option, Some, None, Result, Ok, Err}
use Rattle.model.specs.declared.Refusal.{Refusal}
use mathlib.Core.Path.{◌≡◌, refl, sym, ap, ap₂, ◌∙◌}
use mathlib.Core.Bool.{Bool, true, false, ◌||◌, cond, false≢true}
use mathlib.Core.List.{List, [], ◌∷◌, ◌++◌, map, append-nil}
use Prim.Native.Nat.{ℕ, zero, suc, ◌+◌, ◌-◌, ◌<◌, ◌≤◌}
use native.Mathlib.Omega.{arith}
use lib.ListN.{length, take, drop, replicate, take-append-drop, length-append, length-map, length-drop}
use lib.Seq.{get_or-drop, length-take-le, take_at, drop_at}
use lib.Dec.{ltb}
use borrow.Author.Tests.{le-ltb}
use Rattle.target.specs.declared.NameNumber.{NameNumber}
use Rattle.transaction.specs.declared.RefEdit.{RefEdit}
use Rattle.transaction.specs.declared.Edit.{Edit}
use Rattle.transaction.specs.Change.{row_of}
use Rattle.model.specs.declared.Refusal.TheVariants.{ReferenceCycle, TooManyRows}
use Rattle.model.specs.Basic.{any}
use Rattle.model.specs.Store.{Store, Prepared, no_row, rows_as, with_prepared, with_rows}
use Rattle.model.specs.Rows.{name_in, change_in, row_at}
use Rattle.model.specs.Split.{referent, settled, child_of, settle_all, children_from, rounds, splits, repeated, lesser, least, or_multiple, one_name_one_edit}
use Rattle.splits.specs.Round.{hide, hidden_rows, followed, is_there, leads_on, stepped, steps}
use Rattle.splits.proofs.Model.{asked, flags, round_is, map_append}

-- ---- a row of the table, as one that is to be followed

abbrev pub shown : Edit → Edit
shown r = record {
  update = record { change = change_in r; name = name_in r; deref = true };
  parent_index = r.parent_index;
  leaf_referent_previous_oid = r.leaf_referent_previous_oid;
}

abbrev pub Hidden : List Edit → Type 0
Hidden rows = (i : ℕ) → i < length rows → (row_at rows i).update.deref ≡ false

hide_shown : (r : Edit) → r.update.deref ≡ false → hide (shown r) ≡ r
hide_shown r e = ap marked (sym e)
  where
    marked : Bool → Edit
    marked b = record {
      update = record { change = change_in r; name = name_in r; deref = b };
      parent_index = r.parent_index;
      leaf_referent_previous_oid = r.leaf_referent_previous_oid;
    }

hidden_rest : (r : Edit) (rs : List Edit) → Hidden (r ∷ rs) → Hidden rs
hidden_rest r rs d i h = d (suc i) (omega arith)

hidden_back : (rows : List Edit) → Hidden rows → map hide (map shown rows) ≡ rows
hidden_back [] d = refl
hidden_back (r ∷ rs) d = ap₂ (λ (x : Edit) (xs : List Edit). x ∷ xs) (hide_shown r (d 0 (omega arith))) (hidden_back rs (hidden_rest r rs d))

hidden_drop : (k : ℕ) (rows : List Edit) → Hidden rows → Hidden (drop k rows)
hidden_drop k rows d i h = let g : k + i < length rows = omega (arith, length-drop k rows) in rw (get_or-drop k rows i no_row) (d (k + i) g)

shown_flags : (rows : List Edit) → flags (map shown rows) ≡ replicate (length rows) true
shown_flags [] = refl
shown_flags (r ∷ rs) = ap (λ (l : List Bool). true ∷ l) (shown_flags rs)

-- ---- children: each row has at most one, which is to be followed

child_shown : (o : Option NameNumber) (i : ℕ) (r : Edit) → map shown (map hide (child_of o i r)) ≡ child_of o i r
child_shown None i r = refl
child_shown (Some n) i r = refl

child_few : (o : Option NameNumber) (i : ℕ) (r : Edit) → length (child_of o i r) ≤ 1
child_few None i r = omega arith
child_few (Some n) i r = omega arith

module _ (s : Store) where
  children_shown : (i : ℕ) (rows : List Edit) → map shown (map hide (children_from s i rows)) ≡ children_from s i rows
  children_shown i [] = refl
  children_shown i (r ∷ rs) =
      ap (map shown) (map_append hide (child_of (referent s r) i r) (children_from s (i + 1) rs))
      ∙ map_append shown (map hide (child_of (referent s r) i r)) (map hide (children_from s (i + 1) rs))
      ∙ ap₂ (λ (xs ys : List Edit). xs ++ ys) (child_shown (referent s r) i r) (children_shown (i + 1) rs)

  children_few : (i : ℕ) (rows : List Edit) → length (children_from s i rows) ≤ length rows
  children_few i [] = omega arith
  children_few i (r ∷ rs) =
      let a : length (child_of (referent s r) i r) ≤ 1 = child_few (referent s r) i r in
      let b : length (children_from s (i + 1) rs) ≤ length rs = children_few (i + 1) rs in
      rw (length-append (child_of (referent s r) i r) (children_from s (i + 1) rs)) (omega arith)

  settled_length : (rows : List Edit) → length (settle_all s rows) ≡ length rows
  unfolding settle_all
  settled_length rows = length-map rows _

  -- ---- one round of the model, whether there are newest rows or not

  round_step : (k : ℕ) (old new : List Edit) → length old + length new ≤ 160
      → rounds s (suc k) old new ≡ rounds s k (old ++ settle_all s new) (children_from s (length old) new)
  unfolding rounds settle_all
  round_step zero old [] h = ap Ok (sym (append-nil old))
  round_step (suc k) old [] h = ap Ok (sym (append-nil old))
  round_step k old (r ∷ rs) h =
      ap
      (λ (t : Bool). cond t (Err TooManyRows) (rounds s k (old ++ settle_all s (r ∷ rs)) (children_from s (length old) (r ∷ rs))))
      (le-ltb 160 (length old + length (r ∷ rs)) h)

  -- ---- the fifth

  none_step : (o : Option NameNumber) (i : ℕ) (r : Edit) (rs xs kids : List Edit) (t : Bool) → r.update.deref ≡ false → (is_there o || t) ≡ false
      → (t ≡ false → (xs ≡ rs) × (kids ≡ [])) → (settled o (shown r) ∷ xs ≡ r ∷ rs) × (child_of o i (shown r) ++ kids ≡ [])
  none_step None i r rs xs kids t d e f =
      let g : (xs ≡ rs) × (kids ≡ []) = f e in
      (ap₂ (λ (x : Edit) (xs : List Edit). x ∷ xs) (hide_shown r d) g.0, g.1)
  none_step (Some n) i r rs xs kids t d e f = absurd (false≢true (sym e))

  nobody_leads : (i : ℕ) (rows : List Edit) → Hidden rows → any (λ (r : Edit). is_there (followed s true r)) rows ≡ false
      → (settle_all s (map shown rows) ≡ rows) × (children_from s i (map shown rows) ≡ [])
  unfolding settle_all referent
  nobody_leads i [] d e = (refl, refl)
  nobody_leads i (r ∷ rs) d e =
      none_step (followed s true r) i r rs (settle_all s (map shown rs)) (children_from s (i + 1) (map shown rs)) _ (d 0 (omega arith)) e
      (nobody_leads (i + 1) rs (hidden_rest r rs d))

  some_step : (o : Option NameNumber) (i : ℕ) (r : Edit) (old kids : List Edit) (t : Bool) → (is_there o || t) ≡ true
      → (t ≡ true → rounds s 0 old kids ≡ Err ReferenceCycle) → rounds s 0 old (child_of o i r ++ kids) ≡ Err ReferenceCycle
  unfolding rounds
  some_step None i r old kids t e f = f e
  some_step (Some n) i r old kids t e f = refl

  somebody_leads : (i : ℕ) (old rows : List Edit) → any (λ (r : Edit). is_there (followed s true r)) rows ≡ true
      → rounds s 0 old (children_from s i (map shown rows)) ≡ Err ReferenceCycle
  unfolding referent
  somebody_leads i old [] e = absurd (false≢true e)
  somebody_leads i old (r ∷ rs) e =
      some_step (followed s true r) i (shown r) old (children_from s (i + 1) (map shown rs)) _ e (somebody_leads (i + 1) old rs)

-- ---- the rules do not see the rows

module _ (s : Store) (l : List Edit) where
  pub steps_of : (fs : List Bool) (i : ℕ) (rows : List Edit) → steps (with_rows s l) fs i rows ≡ steps s fs i rows
  unfolding steps stepped
  steps_of [] i rows = refl
  steps_of (f ∷ fs) i rows = steps_of fs (i + 1) (stepped s f i rows)

module _ (s : Store) (q : Option Prepared) where
  children_of : (i : ℕ) (rows : List Edit) → children_from (with_prepared s q) i rows ≡ children_from s i rows
  unfolding referent
  children_of i [] = refl
  children_of i (r ∷ rs) = ap (λ (k : List Edit). child_of (referent s r) i r ++ k) (children_of (i + 1) rs)

  rounds_of : (k : ℕ) (old new : List Edit) → rounds (with_prepared s q) k old new ≡ rounds s k old new
  unfolding rounds settle_all referent
  rounds_of zero old [] = refl
  rounds_of zero old (r ∷ rs) = refl
  rounds_of (suc k) old [] = refl
  rounds_of (suc k) old (r ∷ rs) =
      ap (λ (o : Result (List Edit) Refusal). cond (ltb 160 (length old + length (r ∷ rs))) (Err TooManyRows) o)
      (rounds_of k (old ++ settle_all s (r ∷ rs)) (children_from (with_prepared s q) (length old) (r ∷ rs))
      ∙ ap (rounds s k (old ++ settle_all s (r ∷ rs))) (children_of (length old) (r ∷ rs)))

  pub splits_of : (rows : List Edit) → splits (with_prepared s q) rows ≡ splits s rows
  unfolding splits
  splits_of rows = rounds_of 5 [] rows

  lesser_of : (n : NameNumber) (o : Option NameNumber) → lesser (with_prepared s q) n o ≡ lesser s n o
  lesser_of n None = refl
  lesser_of n (Some m) = refl

  least_of : (ns : List NameNumber) → least (with_prepared s q) ns ≡ least s ns
  least_of [] = refl
  least_of (n ∷ ns) = lesser_of n (least (with_prepared s q) ns) ∙ ap (lesser s n) (least_of ns)

  pub one_name_of : (rows : List Edit) → one_name_one_edit (with_prepared s q) rows ≡ one_name_one_edit s rows
  unfolding one_name_one_edit
  one_name_of rows = ap or_multiple (least_of (repeated (map name_in rows)))

-- ---- what is left of the rounds, by the table: the rows before place `first` are settled, and the others are the newest

unfoldable pub onward : Store → ℕ → ℕ → List Edit → Result (List Edit) Refusal
onward s left first rows = rounds s left (take first rows) (map shown (drop first rows))

pub onward_of : (s : Store) (l : List Edit) (left first : ℕ) (rows : List Edit) → onward (with_rows s l) left first rows ≡ onward s left first rows
unfolding onward
onward_of s l left first rows = rounds_of s (rows_as l s.prepared) left (take first rows) (map shown (drop first rows))

-- what a round made: settled rows, and children as the table has them
onward_is : (s : Store) (left end : ℕ) (old new rows : List Edit) → length (old ++ settle_all s new) ≡ end → (i : ℕ)
    → rows ≡ (old ++ settle_all s new) ++ map hide (children_from s i new)
    → onward s left end rows ≡ rounds s left (old ++ settle_all s new) (children_from s i new)
unfolding onward
onward_is s left end old new rows e i q =
    let kids : List Edit = children_from s i new in
    let done : List Edit = old ++ settle_all s new in
    ap (λ (rows : List Edit). rounds s left (take end rows) (map shown (drop end rows))) q
    ∙ ap₂ (λ (x y : List Edit). rounds s left x (map shown y)) (take_at done (map hide kids) end e) (drop_at done (map hide kids) end e)
    ∙ ap (rounds s left done) (children_shown s i new)

module _ (s : Store) (first : ℕ) (rows : List Edit) (h : first ≤ length rows) (d : Hidden rows) where
  old : List Edit
  old = take first rows

  new : List Edit
  new = map shown (drop first rows)

  old_length : length old ≡ first
  unfolding old
  old_length = length-take-le first rows h

  new_length : length new ≡ length rows - first
  unfolding new
  new_length = length-map (drop first rows) shown ∙ length-drop first rows

  new_hidden : map hide new ≡ drop first rows
  unfolding new
  new_hidden = hidden_back (drop first rows) (hidden_drop first rows d)

  done_length : length (old ++ settle_all s new) ≡ length rows
  done_length = let a = old_length in let b = new_length in simp (length-append, settled_length) (omega arith)

  round_steps : steps s (replicate (length rows - first) true) first rows ≡ (old ++ settle_all s new) ++ map hide (children_from s first new)
  unfolding old new
  round_steps =
      let e₃ : rows ≡ old ++ (map hide new ++ []) = sym (take-append-drop first rows) ∙ ap (λ (l : List Edit). old ++ l) (sym new_hidden ∙ sym (append-nil _)) in
      let e₄ : replicate (length rows - first) true ≡ flags new = ap (λ (k : ℕ). replicate k true) (sym (length-drop first rows)) ∙ sym (shown_flags (drop first rows)) in
      ap (steps s (replicate (length rows - first) true) first) e₃
      ∙ ap (λ (fs : List Bool). steps s fs first (old ++ (map hide new ++ []))) e₄
      ∙ ap (λ (i : ℕ). steps s (flags new) i (old ++ (map hide new ++ []))) (sym old_length)
      ∙ round_is s new old []
      ∙ ap (λ (i : ℕ). (old ++ settle_all s new) ++ map hide (children_from s i new)) old_length

  -- a round, from what is left before it to what is left after it
  pub onward_round : (left : ℕ) → length rows ≤ 160
      → onward s left (length rows) (steps s (replicate (length rows - first) true) first rows) ≡ onward s (suc left) first rows
  unfolding onward old new
  onward_round left g =
      let a = old_length in
      let b = new_length in
      onward_is s left (length rows) old new _ done_length first round_steps
      ∙ ap (λ (i : ℕ). rounds s left (old ++ settle_all s new) (children_from s i new)) (sym old_length)
      ∙ sym (round_step s left old new (omega arith))

  pub round_length : (length rows ≤ length (steps s (replicate (length rows - first) true) first rows))
      × (length (steps s (replicate (length rows - first) true) first rows) ≤ length rows + (length rows - first))
  round_length =
      let a = new_length in
      let b = children_few s first new in
      let e : length (steps s (replicate (length rows - first) true) first rows) ≡ length rows + length (children_from s first new) =
      ap length round_steps
      ∙ length-append (old ++ settle_all s new) (map hide (children_from s first new))
      ∙ ap₂ (λ (x y : ℕ). x + y) done_length (length-map (children_from s first new) hide) in
      (omega arith, omega arith)

  -- the last round
  last_round : length rows ≤ 160 → onward s 1 first rows ≡ rounds s 0 (old ++ settle_all s new) (children_from s (length old) new)
  unfolding onward old new
  last_round g = let a = old_length in let b = new_length in round_step s 0 old new (omega arith)

  pub onward_passes : length rows ≤ 160 → leads_on s first rows ≡ false → onward s 1 first rows ≡ Ok rows
  unfolding leads_on new old rounds
  onward_passes g e =
      let n : (settle_all s new ≡ drop first rows) × (children_from s (length old) new ≡ []) = nobody_leads s (length old) (drop first rows) (hidden_drop first rows d) e in
      last_round g
      ∙ ap₂ (λ (x y : List Edit). rounds s 0 (old ++ x) y) n.0 n.1
      ∙ ap Ok (take-append-drop first rows)

  pub onward_cycles : length rows ≤ 160 → leads_on s first rows ≡ true → onward s 1 first rows ≡ Err ReferenceCycle
  unfolding leads_on new old
  onward_cycles g e = last_round g ∙ somebody_leads s (length old) (old ++ settle_all s new) (drop first rows) e

-- ---- the first round, over the rows of the edits

edit_flags : (es : List RefEdit) → asked es ≡ flags (map row_of es)
edit_flags [] = refl
edit_flags (e ∷ es) = ap (λ (l : List Bool). e.deref ∷ l) (edit_flags es)

edit_hidden : (es : List RefEdit) → hidden_rows es ≡ map hide (map row_of es)
edit_hidden [] = refl
edit_hidden (e ∷ es) = ap (λ (l : List Edit). hide (row_of e) ∷ l) (edit_hidden es)

module _ (s : Store) (es : List RefEdit) where
  first_steps : steps s (asked es) 0 (hidden_rows es) ≡ settle_all s (map row_of es) ++ map hide (children_from s 0 (map row_of es))
  first_steps =
      ap₂ (λ (fs : List Bool) (l : List Edit). steps s fs 0 l) (edit_flags es) (edit_hidden es ∙ sym (append-nil _))
      ∙ round_is s (map row_of es) [] []

  pub first_length : (length es ≤ length (steps s (asked es) 0 (hidden_rows es)))
      × (length (steps s (asked es) 0 (hidden_rows es)) ≤ length es + length es)
  first_length =
      let a : length (map row_of es) ≡ length es = length-map es row_of in
      let b = children_few s 0 (map row_of es) in
      let e : length (steps s (asked es) 0 (hidden_rows es)) ≡ length (map row_of es) + length (children_from s 0 (map row_of es)) =
      ap length first_steps
      ∙ length-append (settle_all s (map row_of es)) (map hide (children_from s 0 (map row_of es)))
      ∙ ap₂ (λ (x y : ℕ). x + y) (settled_length s (map row_of es)) (length-map (children_from s 0 (map row_of es)) hide) in
      (omega arith, omega arith)

  pub onward_first : length es ≤ 32 → onward s 4 (length es) (steps s (asked es) 0 (hidden_rows es)) ≡ splits s (map row_of es)
  unfolding splits
  onward_first h =
      let a : length (map row_of es) ≡ length es = length-map es row_of in
      onward_is s 4 (length es) [] (map row_of es) _ (settled_length s (map row_of es) ∙ a) 0 first_steps
      ∙ sym (round_step s 4 [] (map row_of es) (omega arith))
