-- The rounds of splitting keep rows fine: settled rows follow no name any more and have at most four ancestors, and the newest
-- rows have their parents among the settled ones. Assumes nothing.
use Rattle.std.specs.Prelude.{Option, Some, None, Ok}
use mathlib.Core.Path.{◌≡◌, refl, ap, subst, ◌∙◌}
use mathlib.Core.Bool.{Bool, true, false, cond}
use mathlib.Core.List.{List, [], ◌∷◌, ◌++◌, map}
use Prim.Native.Nat.{ℕ, zero, suc, ◌+◌, ◌≤◌, ◌<◌}
use native.Mathlib.Nat.{add-zero}
use native.Mathlib.Omega.{arith}
use lib.ListN.{length, length-append, length-map, get_or-map}
use lib.Seq.{get_or-append-add}
use lib.Dec.{ltb}
use borrow.Author.Tests.{ltb-true, ltb-false, lt-ltb}
use Rattle.target.specs.declared.NameNumber.{NameNumber}
use Rattle.target.specs.declared.Target.TheVariants.{Object, Symbolic}
use Rattle.transaction.specs.declared.Change.{Change}
use Rattle.transaction.specs.declared.Change.TheVariants.{Update, Delete}
use Rattle.transaction.specs.declared.RefEdit.{RefEdit}
use Rattle.transaction.specs.declared.Edit.{Edit}
use Rattle.transaction.specs.Change.{row_of}
use Rattle.model.specs.declared.Loose.{Loose}
use Rattle.model.specs.declared.Loose.TheVariants as loose
use Rattle.model.specs.Names.{is_name}
use Rattle.model.specs.Store.{Store, Entry, count, entry_of, no_row}
use Rattle.model.specs.Rows.{name_in, change_in, row_at}
use Rattle.model.specs.Split.{link_in, referent, parent_change, settled, child_of, settle_all, children_from, rounds, splits}
use Rattle.model.specs.Fine.{Fine, fine_loose, fine_entry, fine_parent}
use Rattle.model.proofs.Rules.{both_true}
use Rattle.model.proofs.Binds.{refuse_pass, no_name, pass_is, cond_pass}
use Rattle.model.proofs.All.{All, all_at, all_map, all_so, all_append, at_append}
use Rattle.model.proofs.All.All.{done, also}
use Rattle.model.proofs.EditsFine.{FineChange, FineEdit}
use Rattle.model.proofs.Climbs.{parent_at, Earlier, parent_later, Few, few_none, few_up, few_more, few_append}

-- what holds of a row from its beginning on, where n names are held
pub record Ready (n : ℕ) (r : Edit) : Type 0 where
  pub name : (name_in r).0 < n
  pub change : FineChange n (change_in r)
  pub leaf : r.leaf_referent_previous_oid.0 ≡ 0

-- the row at place i is done with
pub record Settled (n : ℕ) (rows : List Edit) (i : ℕ) (r : Edit) : Type 0 where
  pub ready : Ready n r
  pub deref : r.update.deref ≡ false
  pub parent : fine_parent i r.parent_index ≡ true
  pub few : Few rows 4 r.parent_index

abbrev pub AllSettled : ℕ → List Edit → Type 0
AllSettled n rows = (i : ℕ) → i < length rows → Settled n rows i (row_at rows i)

-- what comes through the rounds
pub record Through (n : ℕ) (rows : List Edit) : Type 0 where
  pub settled : AllSettled n rows
  pub bounded : length rows ≤ 160

-- a row that stands behind settled rows, with at most d ancestors among them
record Newest (n : ℕ) (old : List Edit) (d : ℕ) (r : Edit) : Type 0 where
  ready : Ready n r
  parent : fine_parent (length old) r.parent_index ≡ true
  few : Few old d r.parent_index

-- ---- settling a row

parent_fine : (n : ℕ) (c : Change) → FineChange n c → FineChange n (parent_change c)
parent_fine n (Update log expected new) f = record { message = f.message; previous = refl; new = f.new }
parent_fine n (Delete expected log) f = record { message = f.message; previous = f.previous; new = refl }

settled_ready : (n : ℕ) (o : Option NameNumber) (r : Edit) → Ready n r → Ready n (settled o r)
settled_ready n None r f = record { name = f.name; change = f.change; leaf = f.leaf }
settled_ready n (Some m) r f = record { name = f.name; change = parent_fine n (change_in r) f.change; leaf = f.leaf }

settled_deref : (o : Option NameNumber) (r : Edit) → (settled o r).update.deref ≡ false
settled_deref None r = refl
settled_deref (Some m) r = refl

settled_parent : (o : Option NameNumber) (r : Edit) → (settled o r).parent_index ≡ r.parent_index
settled_parent None r = refl
settled_parent (Some m) r = refl

settled_length : (s : Store) (rows : List Edit) → length (settle_all s rows) ≡ length rows
unfolding settle_all
settled_length s rows = length-map rows _

settled_at : (s : Store) (rows : List Edit) (k : ℕ)
    → row_at (settle_all s rows) k ≡ settled (referent s (row_at rows k)) (row_at rows k)
unfolding settle_all referent
settled_at s rows k = get_or-map (λ (r : Edit). settled (referent s r) r) rows k no_row

-- ---- a child's name is a link in a fine store

link_below : (n : ℕ) (l : Loose) (m : NameNumber) → fine_loose n l ≡ true → link_in l ≡ Some m → m.0 < n
link_below n loose.None m f e = absurd (no_name e)
link_below n (loose.Target (Object o)) m f e = absurd (no_name e)
link_below n (loose.Target (Symbolic x)) m f e = let q : x ≡ m = cc in rw (← q) (ltb-true x.0 n f)
link_below n loose.Broken m f e = absurd (no_name e)

cond_name : (t : Bool) (o : Option NameNumber) (m : NameNumber) → cond t o None ≡ Some m → o ≡ Some m
cond_name true o m e = e
cond_name false o m e = absurd (no_name e)

loose_fine : (n : ℕ) (e : Entry) → fine_entry n e ≡ true → fine_loose n e.loose ≡ true
unfolding fine_entry
loose_fine n e h = (both_true (fine_loose n e.loose) _ (both_true (is_name e.name) _ h).1).0

referent_below : (s : Store) → Fine s → (r : Edit) → (name_in r).0 < count s
    → (m : NameNumber) → referent s r ≡ Some m → m.0 < count s
unfolding referent
referent_below s f r h m e =
    let entry : Entry = entry_of s (name_in r) in
    let l : fine_loose (count s) entry.loose ≡ true = loose_fine (count s) entry (f.entries (name_in r).0 h) in
    link_below (count s) entry.loose m l (cond_name r.update.deref _ m e)

-- ---- a round settles the newest rows

all_earlier : (n : ℕ) (rows : List Edit) → AllSettled n rows → Earlier rows
all_earlier n rows w i h = (w i h).parent

-- a row that is settled stays so as rows are appended
settled_append : (n : ℕ) (old more : List Edit) (i : ℕ) (r : Edit)
    → Earlier old → i ≤ length old → Settled n old i r → Settled n (old ++ more) i r
settled_append n old more i r w h f =
    let p : fine_parent (length old) r.parent_index ≡ true = parent_later i _ r.parent_index h f.parent in
    record {
      ready = f.ready;
      deref = f.deref;
      parent = f.parent;
      few = few_append old more 4 r.parent_index w p f.few;
    }

-- a newest row is settled behind the old ones
newest_settled : (n d : ℕ) (old more : List Edit) (i : ℕ) (r : Edit) (o : Option NameNumber)
    → Earlier old → d ≤ 4 → length old ≤ i → Newest n old d r → Settled n (old ++ more) i (settled o r)
newest_settled n d old more i r o w h g f =
    let few : Few old 4 r.parent_index = few_more old d 4 r.parent_index h f.few in
    record {
      ready = settled_ready n o r f.ready;
      deref = settled_deref o r;
      parent = rw (settled_parent o r, fine_parent) (parent_later (length old) i r.parent_index g f.parent);
      few = rw (settled_parent o r) (few_append old more 4 r.parent_index w f.parent few);
    }

next_length : (s : Store) (old newest : List Edit) → length (old ++ settle_all s newest) ≡ length old + length newest
next_length s old newest = simp (length-append, settled_length)

next_settled : (s : Store) (n d : ℕ) (old newest : List Edit)
    → d ≤ 4 → AllSettled n old → All (Newest n old d) newest → AllSettled n (old ++ settle_all s newest)
next_settled s n d old newest h w v = at_append (Settled n (old ++ more)) old more no_row before behind
  where
    more : List Edit
    more = settle_all s newest

    before : (i : ℕ) → i < length old → Settled n (old ++ more) i (row_at old i)
    before i g = settled_append n old more i (row_at old i) (all_earlier n old w) (omega arith) (w i g)

    behind : (k : ℕ) → k < length more → Settled n (old ++ more) (length old + k) (row_at more k)
    behind k g =
        let f : Newest n old d (row_at newest k) = all_at v k no_row (omega (arith, settled_length s newest)) in
        let o : (Option NameNumber) = referent s (row_at newest k) in
        rw (settled_at s newest k) (newest_settled n d old more (length old + k) _ o (all_earlier n old w) h (omega arith) f)

-- ---- and appends their children, the newest rows of the next round

-- a row's child, where the row stands at place i, settled or not
child_newest : (s : Store) → Fine s → (d : ℕ) (rows : List Edit) (i : ℕ) (r : Edit) (o : Option NameNumber)
    → i < length rows → parent_at rows i ≡ r.parent_index → Ready (count s) r → Few rows d r.parent_index
    → referent s r ≡ o → All (Newest (count s) rows (suc d)) (child_of o i r)
child_newest s f d rows i r None h p a g e = done
child_newest s f d rows i r (Some m) h p a g e =
    also (record {
      ready = record { name = referent_below s f r a.name m e; change = a.change; leaf = refl };
      parent = lt-ltb i (length rows) h;
      few = few_up rows d i (rw p g);
    }) done

children_newest : (s : Store) → Fine s → (d : ℕ) (rows : List Edit) (i : ℕ) (rs : List Edit)
    → i + length rs ≤ length rows → ((k : ℕ) → k < length rs → parent_at rows (i + k) ≡ parent_at rs k)
    → All (λ r. Ready (count s) r × Few rows d r.parent_index) rs
    → All (Newest (count s) rows (suc d)) (children_from s i rs)
children_newest s f d rows i [] h p v = done
children_newest s f d rows i (r ∷ rs) h p (also (a, g) vs) =
    let here : parent_at rows i ≡ r.parent_index = rw (add-zero i) at (p 0 (omega arith)) in
    let on : (k : ℕ) → k < length rs → parent_at rows (i + 1 + k) ≡ parent_at rs k =
    λ k l. let q : i + 1 + k ≡ i + suc k = omega arith in rw q (p (suc k) (omega arith)) in
    all_append
    (child_newest s f d rows i r (referent s r) (omega arith) here a g refl)
    (children_newest s f d rows (i + 1) rs (omega arith) on vs)

next_newest : (s : Store) → Fine s → (d : ℕ) (old newest : List Edit)
    → AllSettled (count s) old → All (Newest (count s) old d) newest
    → All (Newest (count s) (old ++ settle_all s newest) (suc d)) (children_from s (length old) newest)
next_newest s f d old newest w v =
    children_newest s f d (old ++ more) (length old) newest (omega (arith, next_length s old newest)) parents (all_so climbing v)
  where
    more : List Edit
    more = settle_all s newest

    parents : (k : ℕ) → k < length newest → parent_at (old ++ more) (length old + k) ≡ parent_at newest k
    parents k h =
        ap (λ (r : Edit). r.parent_index) (get_or-append-add old more k no_row ∙ settled_at s newest k)
        ∙ settled_parent (referent s (row_at newest k)) (row_at newest k)

    climbing : (r : Edit) → Newest (count s) old d r → Ready (count s) r × Few (old ++ more) d r.parent_index
    climbing r g = (g.ready, few_append old more d r.parent_index (all_earlier (count s) old w) g.parent g.few)

-- ---- all rounds: rows of a round have one ancestor more than those of the round before, so none has five

rounds_through : (s : Store) → Fine s → (left d : ℕ) (old newest split : List Edit)
    → d + left ≡ 5 → Through (count s) old → All (Newest (count s) old d) newest
    → rounds s left old newest ≡ Ok split → Through (count s) split
unfolding rounds
rounds_through s f zero d old [] split q w v e = subst (Through (count s)) (pass_is e) w
rounds_through s f zero d old (r ∷ rs) split q w v e = absurd (refuse_pass e)
rounds_through s f (suc left) d old [] split q w v e = subst (Through (count s)) (pass_is e) w
rounds_through s f (suc left) d old (r ∷ rs) split q w v e =
    let t = cond_pass (ltb 160 (length old + length (r ∷ rs))) _ _ split e in
    let g : length old + length (r ∷ rs) ≤ 160 = ltb-false _ _ t.0 in
    let next : Through (count s) (old ++ settle_all s (r ∷ rs)) =
    record {
      settled = next_settled s (count s) d old (r ∷ rs) (omega arith) w.settled v;
      bounded = omega (arith, next_length s old (r ∷ rs));
    } in
    rounds_through s f left (suc d) _ _ split (omega arith) next (next_newest s f d old (r ∷ rs) w.settled v) t.1

-- ---- the first round's rows are the edits of a list

edit_newest : (n : ℕ) (e : RefEdit) → FineEdit n e → Newest n [] 0 (row_of e)
edit_newest n e f = record {
  ready = record { name = f.name; change = f.change; leaf = refl };
  parent = refl;
  few = few_none [] 0;
}

pub split_through : (s : Store) → Fine s → (edits : List RefEdit) (split : List Edit)
    → All (FineEdit (count s)) edits → splits s (map row_of edits) ≡ Ok split → Through (count s) split
unfolding splits
split_through s f edits split v e =
    let none : Through (count s) [] = record { settled = λ i h. absurd (omega arith); bounded = omega arith } in
    rounds_through s f 5 0 [] (map row_of edits) split refl none (all_map row_of (edit_newest (count s)) v) e
