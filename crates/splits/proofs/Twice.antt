-- 6: two rows, one name. Assumes nothing.
use Rattle.std.specs.Prelude.{Option, Some, None, Ok, Err}
use mathlib.Core.Path.{◌≡◌, refl, sym, ap, ap₂, ◌∙◌, subst}
use mathlib.Core.Bool.{Bool, true, false, ◌||◌, cond}
use mathlib.Core.List.{List, [], ◌∷◌, map}
use Prim.Native.Nat.{ℕ, ◌+◌, ◌-◌, ◌<◌, ◌≤◌}
use native.Mathlib.Numerals.{add-one}
use native.Mathlib.Omega.{arith}
use lib.ListN.{length, get_or, set, drop, drop_of_length-le}
use lib.Seq.{drop-cons}
use lib.Dec.{eqb}
use borrow.Author.Tests.{eqb-true, eqb-false, eq-eqb, ne_eqb}
use Rattle.word.specs.Flags.{Flags, nowhere}
use Rattle.word.proofs.Flags.{raised}
use Rattle.target.specs.declared.NameNumber.{NameNumber}
use Rattle.target.specs.Target.{same_name}
use Rattle.transaction.specs.declared.Edit.{Edit}
use Rattle.model.specs.declared.Refusal.TheVariants.{MultipleEdits}
use Rattle.model.specs.Basic.{any}
use Rattle.model.specs.Names.{before}
use Rattle.model.specs.Store.{Store, Entry, no_row, count, name_of}
use Rattle.model.specs.Rows.{name_in, row_at}
use Rattle.model.specs.Split.{repeated, lesser, least, or_multiple, one_name_one_edit}
use Rattle.splits.specs.Twice.{behind, Repeats, least_from}
use Rattle.splits.proofs.Laws.{no_entry_lem}

pub bytes_none : (s : Store) (name : NameNumber) (m k : ℕ) → k ≡ name.0 → m ≡ count s → m ≤ k → [] ≡ name_of s name
bytes_none s name m k ek em l = sym (ap (λ (x : Entry). x.name) (no_entry_lem s name m k ek em l))

-- ---- the lesser of two

module _ (s : Store) (n : NameNumber) (o : Option NameNumber) where
  pub lesser_none : o ≡ None → Some n ≡ lesser s n o
  lesser_none e = rw e

  module _ (m : NameNumber) (x y : List ℕ) (b : Bool) (eo : o ≡ Some m) (ex : x ≡ name_of s n) (ey : y ≡ name_of s m) (eb : b ≡ before x y) where
    lesser_by : lesser s n o ≡ cond b (Some n) (Some m)
    lesser_by = ap (lesser s n) eo ∙ ap (λ (t : Bool). cond t (Some n) (Some m)) (sym (eb ∙ ap₂ before ex ey))

    pub lesser_first : b ≡ true → Some n ≡ lesser s n o
    lesser_first e = sym (lesser_by ∙ ap (λ (t : Bool). cond t (Some n) (Some m)) e)

    pub lesser_second : b ≡ false → Some m ≡ lesser s n o
    lesser_second e = sym (lesser_by ∙ ap (λ (t : Bool). cond t (Some n) (Some m)) e)

-- ---- names from a place on

names_at : (rows : List Edit) (i : ℕ) → i < length rows → map name_in (drop i rows) ≡ name_in (row_at rows i) ∷ map name_in (drop (i + 1) rows)
names_at rows i h = rw (add-one, drop-cons rows i no_row)

names_past : (rows : List Edit) (i : ℕ) → length rows ≤ i → map name_in (drop i rows) ≡ []
names_past rows i h = ap (map name_in) (drop_of_length-le rows h)

module _ (rows : List Edit) (k : ℕ) (ek : k ≡ length rows) (n : NameNumber) (j : ℕ) (t : Bool) (w : any (same_name n) (map name_in (drop j rows)) ≡ t) where
  pub again_none : k ≤ j → false ≡ t
  again_none h = ap (any (same_name n)) (sym (names_past rows j (omega arith))) ∙ w

  module _ (m : NameNumber) (b : Bool) (h : j < k) (em : m ≡ name_in (row_at rows j)) (eb : b ≡ same_name n m) where
    again_at : any (same_name n) (map name_in (drop j rows)) ≡ any (same_name n) (m ∷ map name_in (drop (j + 1) rows))
    again_at = ap (any (same_name n)) (names_at rows j (omega arith)) ∙ ap (λ (m : NameNumber). any (same_name n) (m ∷ map name_in (drop (j + 1) rows))) (sym em)

    pub again_here : b ≡ true → true ≡ t
    again_here e = rw (← eb, e) at (sym again_at) ∙ w

    pub again_later : b ≡ false → any (same_name n) (map name_in (drop (j + 1) rows)) ≡ t
    again_later e = rw (← eb, e) at (sym again_at) ∙ w

-- ---- flags of the names behind a place

pub behind_none : (rows : List Edit) (i : ℕ) (flags : List Bool) → Flags nowhere flags → i ≡ length rows → Flags (behind rows i) flags
unfolding behind
behind_none rows i flags f e = record {
  size = f.size;
  flag = λ n h. f.flag n h ∙ ap (any (same_name (record { 0 = n }))) (sym (names_past rows i (omega arith)));
}

pub behind_flag : (rows : List Edit) (i n : ℕ) (name : NameNumber) (flags : List Bool) → Flags (behind rows i) flags → n ≡ name.0 → n < length flags
    → get_or flags n false ≡ any (same_name name) (map name_in (drop i rows))
unfolding behind
behind_flag rows i n name flags f e h =
    f.flag n (omega (arith, f.size)) ∙ ap (λ (k : ℕ). any (same_name (record { 0 = k })) (map name_in (drop i rows))) e

eqb_turned : (a b : ℕ) → eqb a b ≡ eqb b a
eqb_turned a b = go (eqb a b) refl
  where
    go : (t : Bool) → eqb a b ≡ t → t ≡ eqb b a
    go true p = sym (eq-eqb b a (sym (eqb-true a b p)))
    go false p = sym (ne_eqb b a (λ q. eqb-false a b p (sym q)))

behind_more : (rows : List Edit) (i k n : ℕ) (name : NameNumber) → i < length rows → name ≡ name_in (row_at rows i) → k ≡ name.0
    → (eqb k n || behind rows (i + 1) n) ≡ behind rows i n
unfolding behind
behind_more rows i k n name h en ek =
    ap (λ (b : Bool). b || behind rows (i + 1) n) (eqb_turned k n ∙ ap (eqb n) (ek ∙ ap (λ (m : NameNumber). m.0) en))
    ∙ ap (any (same_name (record { 0 = n }))) (sym (names_at rows i h))

pub repeats_so : (rows : List Edit) (i k : ℕ) (name : NameNumber) (again : Bool) (flags flags' : List Bool) → i < length rows
    → Flags (behind rows (i + 1)) flags → name ≡ name_in (row_at rows i)
    → again ≡ any (same_name name) (map name_in (drop (i + 1) rows)) → k ≡ name.0 → flags' ≡ set flags k true
    → Repeats rows i again flags'
repeats_so rows i k name again flags flags' h f en ea ek e = record {
  answer = ea ∙ ap (λ (n : NameNumber). any (same_name n) (map name_in (drop (i + 1) rows))) en;
  up = raised (behind rows (i + 1)) (behind rows i) flags flags' k f e (λ n. behind_more rows i k n name h en ek);
}

-- ---- the least that stands twice, from a place on

module _ (s : Store) (rows : List Edit) where
  pub least_start : (i : ℕ) → i ≡ length rows → None ≡ least_from s rows i
  unfolding least_from
  least_start i e = ap (λ (l : List NameNumber). least s (repeated l)) (sym (names_past rows i (omega arith)))

  module _ (k : ℕ) (b : Bool) (flags : List Bool) (o : Option NameNumber) (h : 0 < k) (g : k ≤ length rows)
      (rep : Repeats rows (k - 1) b flags) (w : o ≡ least_from s rows k) where
    least_rest : least s (repeated (map name_in (drop (k - 1 + 1) rows))) ≡ o
    unfolding least_from
    least_rest = let e : k - 1 + 1 ≡ k = omega arith in ap (least_from s rows) e ∙ sym w

    least_at : least_from s rows (k - 1)
        ≡ least s (cond b (name_in (row_at rows (k - 1)) ∷ repeated (map name_in (drop (k - 1 + 1) rows))) (repeated (map name_in (drop (k - 1 + 1) rows))))
    unfolding least_from
    least_at =
        let rest : List NameNumber = map name_in (drop (k - 1 + 1) rows) in
        let n : NameNumber = name_in (row_at rows (k - 1)) in
        ap (λ (l : List NameNumber). least s (repeated l)) (names_at rows (k - 1) (omega arith))
        ∙ ap (λ (t : Bool). least s (cond t (n ∷ repeated rest) (repeated rest))) (sym rep.answer)

    pub least_more : (n : NameNumber) (x : Option NameNumber) → b ≡ true → n ≡ name_in (row_at rows (k - 1)) → x ≡ lesser s n o → x ≡ least_from s rows (k - 1)
    least_more n x e en ex =
        ex
        ∙ ap (λ (n : NameNumber). lesser s n o) en
        ∙ ap (lesser s (name_in (row_at rows (k - 1)))) (sym least_rest)
        ∙ sym (rw e at least_at)

    pub least_same : b ≡ false → o ≡ least_from s rows (k - 1)
    least_same e = sym least_rest ∙ sym (rw e at least_at)

  pub least_end : (i : ℕ) (o : Option NameNumber) → i ≤ 0 → o ≡ least_from s rows i → o ≡ least_from s rows 0
  least_end i o h w = let e : i ≡ 0 = omega arith in w ∙ ap (least_from s rows) e

  least_all : (o : Option NameNumber) → o ≡ least_from s rows 0 → or_multiple o ≡ one_name_one_edit s rows
  unfolding least_from one_name_one_edit
  least_all o w = ap or_multiple w

  pub least_none : (o : Option NameNumber) → o ≡ least_from s rows 0 → o ≡ None → Ok tt ≡ one_name_one_edit s rows
  least_none o w e = ap or_multiple (sym e) ∙ least_all o w

  pub least_found : (o : Option NameNumber) (n : NameNumber) → o ≡ least_from s rows 0 → o ≡ Some n → Err (MultipleEdits n) ≡ one_name_one_edit s rows
  least_found o n w e = ap or_multiple (sym e) ∙ least_all o w

-- ---- the loop's turn: the flags, and the place below

pub flags_of : (rows : List Edit) (i : ℕ) (b : Bool) (flags : List Bool) → Repeats rows i b flags → Flags (behind rows i) flags
flags_of rows i b flags r = r.up

pub flags_at : (rows : List Edit) (k : ℕ) (flags : List Bool) → 0 < k → Flags (behind rows k) flags → Flags (behind rows (k - 1 + 1)) flags
flags_at rows k flags h f = let e : k - 1 + 1 ≡ k = omega arith in subst (λ (j : ℕ). Flags (behind rows j) flags) (sym e) f
