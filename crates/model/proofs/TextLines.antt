-- Lines: a text that lines make is read line by line, and a text without comments and `^` lines is the lines of what it says. Assumes nothing.
use Rattle.std.specs.Prelude.{Option, Some, None, Result, Ok, Err}
use mathlib.Core.Path.{◌≡◌, refl, sym, ap, ap₂, subst, ◌∙◌}
use mathlib.Core.Bool.{Bool, true, false, ◌&&◌, ◌||◌, not, cond, and-false, true≢false, false≢true}
use mathlib.Core.List.{List, [], ◌∷◌, ◌++◌, append_assoc}
use Prim.Native.Nat.{ℕ, zero, suc, ◌+◌, ◌/◌, ◌%◌, ◌^◌, ◌≤◌, ◌<◌}
use native.Mathlib.Omega.{arith}
use lib.ListN.{length, drop}
use lib.Dec.{eqb, ltb}
use borrow.Author.Tests.{eq-eqb, ne_eqb, eqb-true, ltb-true, not-true}
use Rattle.word.proofs.Tests.{both_true}
use Rattle.model.specs.declared.Refusal.{Refusal}
use Rattle.model.specs.Basic.{all, collect}
use Rattle.model.specs.Names.{begins, under, before, grow, pieces, is_name, packable}
use Rattle.model.specs.Store.{is_id}
use Rattle.model.specs.PackedText.{Ref, digit, digits_on, ref_line, is_digit, ref_in, is_comment, is_peeled, ref_said, line_said, End, Reading, read_on, read_lines}
use Rattle.model.specs.PackedText.End.{whole, faulty}
use Rattle.model.specs.Texts.{plain_line}
use Rattle.model.proofs.Places.{Each}
use Rattle.model.proofs.NameBytes.{NameByte, either, is_named}
use Rattle.model.proofs.Digits.{body_of, line_body, body_zeros, ref_read, ref_written}

-- ---- what stands between the bytes c

module _ (c : ℕ) where
  pub some_piece : (bs : List ℕ) → 1 ≤ length (pieces c bs)
  some_piece [] = omega arith
  some_piece (b ∷ bs) = go (eqb b c) (pieces c bs)
    where
      grew : (ps : List (List ℕ)) → 1 ≤ length (grow b ps)
      grew [] = omega arith
      grew (p ∷ ps) = omega arith

      go : (t : Bool) (ps : List (List ℕ)) → 1 ≤ length (cond t ([] ∷ ps) (grow b ps))
      go true ps = omega arith
      go false ps = grew ps

  pub first_piece : (l rest : List ℕ) → Each (λ b. b ≡ c → ⊥) l → pieces c (l ++ (c ∷ rest)) ≡ l ∷ pieces c rest
  first_piece [] rest h = rw (eq-eqb c c refl)
  first_piece (b ∷ l) rest h = rw (ne_eqb b c h.0, first_piece l rest h.1)

  -- the pieces joined
  abbrev pub joined : List (List ℕ) → List ℕ
  joined [] = []
  joined (l ∷ []) = l
  joined (l ∷ m ∷ ls) = l ++ (c ∷ joined (m ∷ ls))

  pub pieces_joined : (bs : List ℕ) → joined (pieces c bs) ≡ bs
  pieces_joined [] = refl
  pieces_joined (b ∷ bs) = go (eqb b c) refl (pieces c bs) (some_piece bs) (pieces_joined bs)
    where
      grew : (ps : List (List ℕ)) → joined (grow b ps) ≡ b ∷ joined ps
      grew [] = refl
      grew (p ∷ []) = refl
      grew (p ∷ q ∷ ps) = refl

      go : (t : Bool) → eqb b c ≡ t → (ps : List (List ℕ)) → 1 ≤ length ps → joined ps ≡ bs → joined (cond t ([] ∷ ps) (grow b ps)) ≡ b ∷ bs
      go true e [] h q = absurd (omega arith)
      go true e (p ∷ ps) h q = ap₂ (λ (x : ℕ) (l : List ℕ). x ∷ l) (sym (eqb-true b c e)) q
      go false e ps h q = grew ps ∙ ap (λ (l : List ℕ). b ∷ l) q

-- ---- what a line says

-- a ref that can be loaded
pub record Loadable (r : Ref) : Type 0 where
  pub name : is_name r.name ≡ true
  pub id : is_id r.object ≡ true
  pub packs : packable r.name ≡ true

-- refs that can be loaded, each behind the one before it
abbrev pub Chain : List ℕ → List Ref → Type 0
Chain last [] = Unit {0}
Chain last (r ∷ rs) = Loadable r × (before last r.name ≡ true) × Chain r.name rs

abbrev pub Says : List ℕ → Bool → List ℕ → Result (Option Ref) Refusal → Type 0
Says last direct l (Err x) = Unit {0}
Says last direct l (Ok None) = (is_comment l || (direct && is_peeled l)) ≡ true
Says last direct l (Ok (Some r)) = (ref_in l ≡ Some r) × Loadable r × (before last r.name ≡ true)

pub line_says : (i : ℕ) (last : List ℕ) (direct : Bool) (l : List ℕ) → Says last direct l (line_said i last direct l)
unfolding line_said
line_says i last direct l = go (is_comment l || (direct && is_peeled l)) refl
  where
    loads : (r : Ref) → ref_in l ≡ Some r → (b t : Bool) → before last r.name ≡ b → (is_id r.object && packable r.name) ≡ t
        → Says last direct l (ref_said i last (Some r))
    loads r e false t p q = rw p tt
    loads r e true false p q = rw (p, q) tt
    loads r e true true p q =
        let f : (is_id r.object ≡ true) × (packable r.name ≡ true) = both_true (is_id r.object) (packable r.name) q in
        rw (p, q) (e, record { name = (ref_written l r e).1; id = f.0; packs = f.1 }, p)

    says : (o : Option Ref) → ref_in l ≡ o → Says last direct l (ref_said i last o)
    says None e = tt
    says (Some r) e = loads r e (before last r.name) (is_id r.object && packable r.name) refl refl

    go : (t : Bool) → (is_comment l || (direct && is_peeled l)) ≡ t → Says last direct l (cond t (Ok None) (ref_said i last (ref_in l)))
    go true p = p
    go false p = says (ref_in l) refl

-- a line that says nothing begins with no digit, and is no ref line
marked : (b : ℕ) (l : List ℕ) → is_digit b ≡ false → ref_in (b ∷ l) ≡ None
unfolding ref_in
marked b l h = rw h

-- what a mark begins
begun : (c : ℕ) (l : List ℕ) → begins (c ∷ []) l ≡ true → is_digit c ≡ false → ref_in l ≡ None
begun c [] h d = absurd (false≢true h)
begun c (b ∷ bs) h d = let q : c ≡ b = eqb-true c b (both_true (eqb c b) true h).0 in subst (λ (x : ℕ). ref_in (x ∷ bs) ≡ None) q (marked c bs d)

peeled_mark : (l : List ℕ) → is_peeled l ≡ true → under "^" l ≡ true
unfolding is_peeled
peeled_mark l h = (both_true (under "^" l) (eqb (length l) 41) (both_true (under "^" l && eqb (length l) 41) (all is_digit (drop 1 l)) h).0).0

pub says_nothing : (direct : Bool) (l : List ℕ) → (is_comment l || (direct && is_peeled l)) ≡ true → ref_in l ≡ None
says_nothing direct l h =
    either (is_comment l) (direct && is_peeled l) h
    (λ e. begun 35 l e refl)
    (λ e. begun 94 l (peeled_mark l (both_true direct (is_peeled l) e).1) refl)

-- the refs that a text says can be loaded, and rise
pub read_chain : (ps : List (List ℕ)) (i : ℕ) (last : List ℕ) (direct : Bool) → Chain last (read_lines ps i last direct).refs
unfolding read_lines
read_chain [] i last direct = tt
read_chain (l ∷ []) i last direct = tt
read_chain (l ∷ m ∷ ls) i last direct = go (read_chain (m ∷ ls)) (line_said i last direct l) (line_says i last direct l)
  where
    go : ((i : ℕ) (last : List ℕ) (direct : Bool) → Chain last (read_lines (m ∷ ls) i last direct).refs)
        → (o : Result (Option Ref) Refusal) → Says last direct l o → Chain last (read_on i last o (read_lines (m ∷ ls))).refs
    go rec (Err x) h = tt
    go rec (Ok None) h = rec (i + 1) last false
    go rec (Ok (Some r)) h = (h.1, h.2, rec (i + 1) r.name true)

-- ---- what was written is read

digit_past : (d : ℕ) → 48 ≤ digit d
digit_past d = go (ltb d 10)
  where
    go : (t : Bool) → 48 ≤ cond t (48 + d) (87 + d)
    go true = omega arith
    go false = omega arith

abbrev InLine : ℕ → Type 0
InLine b = b ≡ 10 → ⊥

in_digits : (k x : ℕ) (acc : List ℕ) → Each InLine acc → Each InLine (digits_on k x acc)
unfolding digits_on
in_digits zero x acc h = h
in_digits (suc k) x acc h = in_digits k (x / 16) (digit (x % 16) ∷ acc) ((λ e. past (digit_past (x % 16)) e), h)
  where
    past : 48 ≤ digit (x % 16) → digit (x % 16) ≡ 10 → ⊥
    past l e = omega arith

in_name : (n : List ℕ) → Each NameByte n → Each InLine n
in_name [] h = tt
in_name (b ∷ bs) h = ((λ e. let l : 45 ≤ b = h.0.0 in omega arith), in_name bs h.1)

body_pieces : (r : Ref) (rest : List ℕ) → is_name r.name ≡ true → pieces 10 (ref_line r ++ rest) ≡ body_of r ∷ pieces 10 rest
body_pieces r rest h =
    ap (λ (l : List ℕ). pieces 10 (l ++ rest)) (line_body r)
    ∙ ap (pieces 10) (append_assoc (body_of r) (10 ∷ []) rest)
    ∙ first_piece 10 (body_of r) rest (in_digits 40 r.object (32 ∷ r.name) ((λ e. space e), in_name r.name (is_named r.name h).bytes))
  where
    space : ◌≡◌ {A = ℕ} 32 10 → ⊥
    space e = omega arith

unpeeled : (l : List ℕ) → under "^" l ≡ false → is_peeled l ≡ false
unfolding is_peeled
unpeeled l h = rw h

-- a ref line is no other line
body_says : (r : Ref) (i : ℕ) (last : List ℕ) (direct : Bool) → Loadable r → before last r.name ≡ true → line_said i last direct (body_of r) ≡ Ok (Some r)
unfolding line_said
body_says r i last direct h b = rw (comment, peeled, and-false direct, ref_read r small h.name, b, h.id, h.packs)
  where
    small : r.object < 2 ^ 64
    small = ltb-true r.object (2 ^ 64) (both_true (ltb 0 r.object) _ h.id).1

    comment : is_comment (body_of r) ≡ false
    comment = ap is_comment (body_zeros r small)

    peeled : is_peeled (body_of r) ≡ false
    peeled = unpeeled (body_of r) (ap (under "^") (body_zeros r small))

pub read_more : (l : List ℕ) (ps : List (List ℕ)) (i : ℕ) (last : List ℕ) (direct : Bool) → 1 ≤ length ps
    → read_lines (l ∷ ps) i last direct ≡ read_on i last (line_said i last direct l) (read_lines ps)
unfolding read_lines
read_more l [] i last direct h = absurd (omega arith)
read_more l (m ∷ ls) i last direct h = refl

pub written_read : (rs : List Ref) (i : ℕ) (last : List ℕ) (direct : Bool) → Chain last rs
    → read_lines (pieces 10 (collect ref_line rs)) i last direct ≡ record { refs = rs; end = whole }
unfolding read_lines
written_read [] i last direct h = refl
written_read (r ∷ rs) i last direct h =
    let more : List ℕ = collect ref_line rs in
    ap (λ (ps : List (List ℕ)). read_lines ps i last direct) (body_pieces r more h.0.name)
    ∙ read_more (body_of r) (pieces 10 more) i last direct (some_piece 10 more)
    ∙ ap (λ (o : Result (Option Ref) Refusal). read_on i last o (read_lines (pieces 10 more))) (body_says r i last direct h.0 h.1)
    ∙ ap (λ (x : Reading). record { refs = r ∷ x.refs; end = x.end }) (written_read rs (i + 1) r.name true h.2)

-- ---- what was read is written, where every line is a ref line

faulty_whole : {i : ℕ} {x : Refusal} → faulty i x ≡ whole → ⊥
faulty_whole e = let z : ◌≡◌ {A = ℕ} 0 1 = cc in omega arith

refs_of_lem : {rs rs' : List Ref} {e e' : End} → ◌≡◌ {A = Reading} (record { refs = rs; end = e }) (record { refs = rs'; end = e' }) → rs ≡ rs'
refs_of_lem q = ap (λ (x : Reading). x.refs) q

end_of : {rs rs' : List Ref} {e e' : End} → ◌≡◌ {A = Reading} (record { refs = rs; end = e }) (record { refs = rs'; end = e' }) → e ≡ e'
end_of q = ap (λ (x : Reading). x.end) q

-- a line that is no comment and begins with no `^` is a ref line, or at fault
plain_line_lem : (direct : Bool) (l : List ℕ) → plain_line l ≡ true → (is_comment l || (direct && is_peeled l)) ≡ false
plain_line_lem direct l h =
    let t : (not (is_comment l) ≡ true) × (not (under "^" l) ≡ true) = both_true (not (is_comment l)) (not (under "^" l)) h in
    rw (not-true (is_comment l) t.0, unpeeled l (not-true (under "^" l) t.1), and-false direct)

pub read_written : (ps : List (List ℕ)) (i : ℕ) (last : List ℕ) (direct : Bool) (rs : List Ref) → all plain_line ps ≡ true
    → read_lines ps i last direct ≡ record { refs = rs; end = whole } → joined 10 ps ≡ collect ref_line rs
unfolding read_lines
read_written [] i last direct rs h e = ap (collect ref_line) (refs_of_lem e)
read_written ([] ∷ []) i last direct rs h e = ap (collect ref_line) (refs_of_lem e)
read_written ((x ∷ l) ∷ []) i last direct rs h e = absurd (faulty_whole (end_of e))
read_written (l ∷ m ∷ ls) i last direct rs h e = go (read_written (m ∷ ls)) (line_said i last direct l) (line_says i last direct l) e
  where
    t : (plain_line l ≡ true) × (all plain_line (m ∷ ls) ≡ true)
    t = both_true (plain_line l) (all plain_line (m ∷ ls)) h

    go : ((i : ℕ) (last : List ℕ) (direct : Bool) (rs : List Ref) → all plain_line (m ∷ ls) ≡ true
        → read_lines (m ∷ ls) i last direct ≡ record { refs = rs; end = whole } → joined 10 (m ∷ ls) ≡ collect ref_line rs)
        → (o : Result (Option Ref) Refusal) → Says last direct l o → read_on i last o (read_lines (m ∷ ls)) ≡ record { refs = rs; end = whole }
        → l ++ (10 ∷ joined 10 (m ∷ ls)) ≡ collect ref_line rs
    go rec (Err x) q e = absurd (faulty_whole (end_of e))
    go rec (Ok None) q e = absurd (true≢false (sym q ∙ plain_line_lem direct l t.0))
    go rec (Ok (Some r)) q e =
        let rest : Reading = read_lines (m ∷ ls) (i + 1) r.name true in
        let ends : rest.end ≡ whole = end_of e in
        let says : rest ≡ record { refs = rest.refs; end = whole } = ap (λ (x : End). record { refs = rest.refs; end = x }) ends in
        ap₂ (λ (a b : List ℕ). a ++ (10 ∷ b)) (ref_written l r q.0).0 (rec (i + 1) r.name true rest.refs t.1 says)
        ∙ sym (append_assoc (body_of r) (10 ∷ []) (collect ref_line rest.refs))
        ∙ ap (λ (a : List ℕ). a ++ collect ref_line rest.refs) (sym (line_body r))
        ∙ ap (collect ref_line) (refs_of_lem e)
