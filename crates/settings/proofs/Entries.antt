-- An entry, and one whose content is a number: read as it was written, and written as it was read. Assumes nothing.
use Rattle.std.specs.Prelude.{Some}
use mathlib.Core.Path.{◌≡◌, refl, sym, ap, ap₂, subst, ◌∙◌}
use mathlib.Core.Bool.{Bool, true, false, ◌&&◌}
use mathlib.Core.List.{List, [], ◌∷◌, ◌++◌, append_assoc}
use Prim.Native.Nat.{ℕ, suc, ◌+◌, ◌<◌, ◌^◌}
use native.Mathlib.Omega.{arith}
use lib.ListN.{length, length-append}
use lib.Dec.{eqb}
use borrow.Author.Tests.{eqb-true, eq-eqb}
use Rattle.word.specs.Be.{Bytes, val, be}
use Rattle.word.specs.Be.Bytes.{more}
use Rattle.word.proofs.Be.{length_be, val_be, bytes_append, bytes_be, bytes_drop}
use Rattle.word.proofs.Tests.{both_true, true_both}
use Rattle.model.proofs.Binds.{none_some, some_is, some_then, cond_some}
use Rattle.settings.specs.Format.{Split, Number, within, entry, split, tagged, entry_in, numbered, number_in}
use Rattle.settings.proofs.Splits.{split_in, number_of, Pieces, split_back}

-- an entry is 3 bytes longer than its content
pub entry_length : (tag : ℕ) (content : List ℕ) → length (entry tag content) ≡ 3 + length content
unfolding entry
entry_length tag content = simp (length-append, length_be) (omega arith)

-- it is bytes where its tag and its content are
pub entry_bytes : (tag : ℕ) (content : List ℕ) → tag < 256 → Bytes content → Bytes (entry tag content)
unfolding entry
entry_bytes tag content h b = bytes_append (bytes_be 2 (suc (length content))) (more h b)

-- the content of an entry that was written, and what stands behind it
pub entry_in_lem : (tag : ℕ) (content rest : List ℕ) → length content < 65535
    → entry_in tag (entry tag content ++ rest) ≡ Some (record { front = content; behind = rest })
unfolding entry_in entry
entry_in_lem tag content rest h =
    let n : ℕ = length (tag ∷ content) in
    let small : n < 256 ^ 2 = omega arith in
    rw (
      append_assoc (be 2 n) (tag ∷ content) rest,
      split_in 2 (be 2 n) (tag ∷ content ++ rest) (length_be 2 n),
      val_be 2 n small,
      split_in n (tag ∷ content) rest refl,
      eq-eqb tag tag refl,
    )

-- an entry that was read, of bytes
pub record Entered (tag : ℕ) (r : List ℕ) (e : Split) : Type 0 where
  pub whole : entry tag e.front ++ e.behind ≡ r
  pub content : Bytes e.front
  pub rest : Bytes e.behind

-- the tag and the content that are taken apart make the rest of the entry
pub tagged_back : (tag : ℕ) (xs ys : List ℕ) (e : Split) → tagged tag xs ys ≡ Some e → (tag ∷ e.front ≡ xs) × (e.behind ≡ ys)
tagged_back tag [] ys e h = absurd (none_some h)
tagged_back tag (t ∷ xs) ys e h =
    let i = cond_some (eqb t tag) _ e h in
    let q : e ≡ record { front = xs; behind = ys } = sym (some_is i.1) in
    let p : tag ≡ t = sym (eqb-true t tag i.0) in
    (ap₂ (λ (n : ℕ) (s : Split). n ∷ s.front) p q, ap (λ (s : Split). s.behind) q)

-- what is read is what the writer makes of the content
pub entry_back : (tag : ℕ) (r : List ℕ) (e : Split) → Bytes r → entry_in tag r ≡ Some e → Entered tag r e
unfolding entry_in entry
entry_back tag r e b h =
    some_then (split 2 r) _ e h λ size p h₁.
    some_then (split (val size.front) size.behind) _ e h₁ λ rest q h₂.
    let s : Pieces 2 r size = split_back 2 r size b p in
    let t : Pieces (val size.front) size.behind rest = split_back _ size.behind rest s.rest q in
    let u = tagged_back tag rest.front rest.behind e h₂ in
    record {
      whole =
          ap₂ (λ (xs ys : List ℕ). (be 2 (length xs) ++ xs) ++ ys) u.0 u.1
          ∙ append_assoc (be 2 (length rest.front)) rest.front rest.behind
          ∙ ap₂ (λ (xs ys : List ℕ). xs ++ ys) (ap (be 2) t.size ∙ s.number) t.whole
          ∙ s.whole;
      content = bytes_drop 1 (subst Bytes (sym u.0) t.first);
      rest = subst Bytes (sym u.1) t.rest;
    }

-- ---- numbers

module _ (tag w least most : ℕ) where
  -- a number that was written, and what stands behind it
  pub number_in_lem : (x : ℕ) (rest : List ℕ) → w < 65535 → x < 256 ^ w → within least most x ≡ true
      → number_in tag w least most (entry tag (be w x) ++ rest) ≡ Some (record { value = x; behind = rest })
  unfolding number_in
  number_in_lem x rest short small bound =
      let e : val (be w x) ≡ x = val_be w x small in
      let t : (eqb (length (be w x)) w && within least most (val (be w x))) ≡ true =
      true_both (eq-eqb _ w (length_be w x)) (rw e bound) in
      rw (entry_in_lem tag (be w x) rest (rw length_be short), t, e)

  -- a number that was read, of bytes
  pub record Numbered (r : List ℕ) (n : Number) : Type 0 where
    pub whole : entry tag (be w n.value) ++ n.behind ≡ r
    pub bound : within least most n.value ≡ true
    pub rest : Bytes n.behind

  -- what is read is what the writer makes of the number
  pub number_back : (r : List ℕ) (n : Number) → Bytes r → number_in tag w least most r ≡ Some n → Numbered r n
  unfolding number_in
  number_back r n b h = some_then (entry_in tag r) _ n h λ e p q. go n e (entry_back tag r e b p) _ refl q
    where
      go : (n : Number) (e : Split) → Entered tag r e → (t : Bool)
          → (eqb (length e.front) w && within least most (val e.front)) ≡ t → numbered t e ≡ Some n → Numbered r n
      go n e s false i q = absurd (none_some q)
      go n e s true i q =
          let u = both_true (eqb (length e.front) w) _ i in
          let k : be w (val e.front) ≡ e.front = number_of w e.front s.content (eqb-true _ w u.0) in
          subst (Numbered r) (some_is q) (record {
            whole = ap (λ (c : List ℕ). entry tag c ++ e.behind) k ∙ s.whole;
            bound = u.1;
            rest = s.rest;
          })
