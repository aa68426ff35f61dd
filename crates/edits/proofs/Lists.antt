-- The records of a list that is framed, and of one that is well formed. Assumes nothing.
use Rattle.std.specs.Prelude.{Option, Some, None, unwrap_or}
use mathlib.Core.Path.{◌≡◌, refl, sym, ap, subst, ◌∙◌}
use mathlib.Core.Bool.{Bool, true, false, ◌&&◌, and-true}
use mathlib.Core.List.{List, [], ◌∷◌, ◌++◌}
use Prim.Native.Nat.{ℕ, zero, suc, ◌+◌, ◌-◌, ◌*◌, ◌≤◌, ◌<◌}
use native.Mathlib.Omega.{arith}
use lib.ListN.{length, get_or, take, drop}
use Rattle.std.proofs.lemmas.List.{take_all, take_rest, drop-drop, length-drop, length-append}
use Rattle.std.proofs.lemmas.List.Prefix.{front_rest}
use lib.Seq.{get_or-take, get_or-drop}
use lib.Dec.{lit<, eqb, leb}
use lib.Pow.{are_bytes}
use mir.Syntax.{w8, w64}
use mir.Val.{Fits}
use borrow.Author.Tests.{leb-true, eqb-true, eq-eqb, ne_eqb, le-leb, lt-leb}
use Rattle.word.specs.Be.{cut, val}
use Rattle.word.specs.Codec.{is_some}
use Rattle.word.proofs.Be.{bytes_all, bytes_are, val_cut}
use Rattle.word.proofs.Cut.{cut_left}
use Rattle.word.proofs.Tests.{every_at, every_false}
use Rattle.transaction.specs.declared.RefEdit.{RefEdit}
use Rattle.model.specs.Basic.{collect}
use Rattle.model.specs.EditList.{◌>>=◌, flag_of, target_of, byte_at, edit_of, edits_from, is_framed, edits_of, numbers_of, first_out}
use Rattle.model.proofs.Binds.{none_some, some_is, some_then, cond_some}
use Rattle.edits.specs.Edits.{no_edit, edit_in, edits_in, Registered}
use Rattle.edits.specs.Read.{target_low, change_by, edit_by}
use Rattle.edits.proofs.Model.{edit_parts, same_edit}
use Rattle.edits.proofs.Numbers.{is_in, out_append, out_front, each_under, links_under}

-- ---- the frame

abbrev frame_tests : List ℕ → List Bool
frame_tests l =
    are_bytes l
    ∷ eqb (byte_at 0 l) 1
    ∷ eqb (3 + val (cut 1 2 l)) (length l)
    ∷ leb (byte_at 3 l) 32
    ∷ eqb (4 + byte_at 3 l * 27) (length l)
    ∷ []

pub record Framed (l : List ℕ) : Type 0 where
  pub few : byte_at 3 l ≤ 32
  pub size : 4 + byte_at 3 l * 27 ≡ length l

pub framed : (l : List ℕ) → is_framed l ≡ true → Framed l
unfolding is_framed
framed l e = record {
  few = leb-true _ _ (every_at (frame_tests l) 3 e);
  size = eqb-true _ _ (every_at (frame_tests l) 4 e);
}

module _ (l : List ℕ) where
  pub frame_short : length l < 4 → false ≡ is_framed l
  unfolding is_framed
  frame_short h =
      let d : 4 + byte_at 3 l * 27 ≡ length l → ⊥ = λ e. omega arith in
      sym (every_false (frame_tests l) 4 (ne_eqb _ _ d))

  pub frame_version : (x : ℕ) → x ≡ byte_at 0 l → (x ≡ 1 → ⊥) → false ≡ is_framed l
  unfolding is_framed
  frame_version x e h = sym (every_false (frame_tests l) 1 (ne_eqb _ _ (λ q. h (e ∙ q))))

  pub frame_length : (x : ℕ) → x ≡ val (cut 1 2 l) → (3 + x ≡ length l → ⊥) → false ≡ is_framed l
  unfolding is_framed
  frame_length x e h = sym (every_false (frame_tests l) 2 (ne_eqb _ _ (λ q. h (ap (λ (n : ℕ). 3 + n) e ∙ q))))

  pub frame_many : (x : ℕ) → x ≡ byte_at 3 l → 32 < x → false ≡ is_framed l
  unfolding is_framed
  frame_many x e h = sym (every_false (frame_tests l) 3 (lt-leb (byte_at 3 l) 32 (omega arith)))

  -- every slice holds bytes
  module _ (h : (i : ℕ) → Fits w8 (get_or l i 0)) where
    pub length_fits : (x : ℕ) → x ≡ val (cut 1 2 l) → x < 65536
    length_fits x e = let k : val (cut 1 2 l) < 65536 = val_cut 1 2 (bytes_all l (λ i. (h i).fits)) in omega arith

    pub frame_rest : (v x n : ℕ) → v ≡ byte_at 0 l → v ≡ 1 → x ≡ val (cut 1 2 l) → 3 + x ≡ length l → n ≡ byte_at 3 l → n ≤ 32
        → eqb (4 + n * 27) (length l) ≡ is_framed l
    unfolding is_framed
    frame_rest v x n ev v1 ex x1 en n1 =
        rw (
          en,
          bytes_are (bytes_all l (λ i. (h i).fits)),
          eq-eqb (byte_at 0 l) 1 (sym ev ∙ v1),
          eq-eqb (3 + val (cut 1 2 l)) (length l) (ap (λ (k : ℕ). 3 + k) (sym ex) ∙ x1),
          le-leb (byte_at 3 l) 32 (omega arith),
        )
        (sym (and-true _))

-- ---- the records, one after the other

-- one, and those behind it
record Step (k at : ℕ) (l : List ℕ) (es : List RefEdit) : Type 0 where
  e : RefEdit
  rest : List RefEdit
  first : edit_of (cut at 27 l) ≡ Some e
  others : edits_from k (at + 27) l ≡ Some rest
  whole : e ∷ rest ≡ es

step : (k at : ℕ) (l : List ℕ) (es : List RefEdit) → edits_from (suc k) at l ≡ Some es → Step k at l es
unfolding edits_from
step k at l es h =
    some_then (edit_of (cut at 27 l)) _ es h λ e p h₁.
    some_then (edits_from k (at + 27) l) _ es h₁ λ rest q h₂.
    record { e = e; rest = rest; first = p; others = q; whole = some_is h₂ }

edits_length : (k at : ℕ) (l : List ℕ) (es : List RefEdit) → edits_from k at l ≡ Some es → length es ≡ k
unfolding edits_from
edits_length zero at l es h = ap length (sym (some_is h))
edits_length (suc k) at l es h =
    let s = step k at l es h in
    ap length (sym s.whole) ∙ ap suc (edits_length k (at + 27) l s.rest s.others)

record_in : (k at : ℕ) (l : List ℕ) (es : List RefEdit) (i : ℕ) → edits_from k at l ≡ Some es → i < k
    → edit_of (cut (at + i * 27) 27 l) ≡ Some (get_or es i no_edit)
record_in zero at l es i h g = absurd (omega arith)
record_in (suc k) at l es zero h g =
    let s = step k at l es h in
    let q : at + 0 * 27 ≡ at = omega arith in
    ap (λ (a : ℕ). edit_of (cut a 27 l)) q ∙ s.first ∙ ap (λ (xs : List RefEdit). Some (get_or xs 0 no_edit)) s.whole
record_in (suc k) at l es (suc i) h g =
    let s = step k at l es h in
    let q : at + suc i * 27 ≡ at + 27 + i * 27 = omega arith in
    ap (λ (a : ℕ). edit_of (cut a 27 l)) q
    ∙ record_in k (at + 27) l s.rest i s.others (omega arith)
    ∙ ap (λ (xs : List RefEdit). Some (get_or xs (suc i) no_edit)) s.whole

-- ---- a list that is well formed

pub record Formed (l : List ℕ) : Type 0 where
  pub frame : Framed l
  pub read : edits_from (byte_at 3 l) 4 l ≡ Some (edits_in l)
  pub count : length (edits_in l) ≡ byte_at 3 l

pub formed : (l : List ℕ) → is_some (edits_of l) ≡ true → Formed l
unfolding edits_of edits_in
formed l h =
    let i = cond_some (is_framed l) (edits_from (byte_at 3 l) 4 l) _ (is_in (edits_of l) [] h) in
    record { frame = framed l i.0; read = i.1; count = edits_length _ _ l _ i.1 }

pub not_framed : (l : List ℕ) (t : Bool) → t ≡ is_framed l → t ≡ false → t ≡ is_some (edits_of l)
unfolding edits_of
not_framed l t e h = rw (sym e ∙ h) h

pub are_edits : (l : List ℕ) (t b : Bool) → t ≡ is_framed l → t ≡ true → b ≡ is_some (edits_from (byte_at 3 l) 4 l)
    → b ≡ is_some (edits_of l)
unfolding edits_of
are_edits l t b e h q = rw (sym e ∙ h) q

pub counted : (l : List ℕ) (n : ℕ) → is_some (edits_of l) ≡ true → n ≡ byte_at 3 l → (n ≡ length (edits_in l)) × (n ≤ 32)
counted l n h e = let f = formed l h in (e ∙ sym f.count, omega arith)

-- the i-th record
module _ (l : List ℕ) (i : ℕ) (h : is_some (edits_of l) ≡ true) (g : i < length (edits_in l)) where
  pub times_fits : Fits w64 (i * 27)
  times_fits = let f = formed l h in record { fits = omega arith }

  pub place_fits : Fits w64 (4 + i * 27)
  place_fits = let f = formed l h in record { fits = omega arith }

  pub flag_fits : Fits w64 (4 + i * 27 + 1)
  flag_fits = let f = formed l h in record { fits = omega arith }

  pub flag_room : 4 + i * 27 + 1 < length l
  flag_room = let f = formed l h in omega arith

  pub end_fits : Fits w64 (4 + i * 27 + 27)
  end_fits = let f = formed l h in record { fits = omega arith }

  pub record_room : 4 + i * 27 + 27 ≤ length l
  record_room = let f = formed l h in omega arith

  pub record_is : edit_of (cut (4 + i * 27) 27 l) ≡ Some (get_or (edits_in l) i no_edit)
  record_is = let f = formed l h in record_in (byte_at 3 l) 4 l (edits_in l) i f.read (omega arith)

flag_in : (x : ℕ) (b : Bool) → flag_of x ≡ Some b → eqb x 1 ≡ b
flag_in zero b e = some_is e
flag_in (suc zero) b e = some_is e
flag_in (suc (suc x)) b e = absurd (none_some e)

deref_in : (r : List ℕ) (e : RefEdit) → edit_of r ≡ Some e → eqb (byte_at 1 r) 1 ≡ e.deref
unfolding edit_by
deref_in r e h =
    some_then (flag_of (byte_at 1 r)) _ e (sym (edit_parts r) ∙ h) λ deref p h₁.
    some_then (change_by target_of r) _ e h₁ λ change _ h₂.
    flag_in (byte_at 1 r) deref p ∙ ap (λ (x : RefEdit). x.deref) (some_is h₂)

pub followed : (l : List ℕ) (i x : ℕ) → is_some (edits_of l) ≡ true → i < length (edits_in l) → x ≡ byte_at (4 + i * 27 + 1) l
    → eqb x 1 ≡ (get_or (edits_in l) i no_edit).deref
followed l i x h g e =
    let at : ℕ = 4 + i * 27 in
    ap (λ (b : ℕ). eqb b 1) (e ∙ sym (get_or-take 27 (drop at l) 1 0 (lit< tt) ∙ get_or-drop at l 1 0))
    ∙ deref_in (cut at 27 l) _ (record_is l i h g)

-- the part that a record's place lends
lent : (at : ℕ) (l : List ℕ) → take (at + 27 - at) (drop at l) ≡ cut at 27 l
lent at l = let k : at + 27 - at ≡ 27 = omega arith in ap (λ (n : ℕ). take n (drop at l)) k

-- where every number is registered, a link's has 16 bits
module _ (l : List ℕ) (i : ℕ) (o : Option RefEdit) (u : Registered l) (g : i < length (edits_in l))
    (e : o ≡ edit_by target_low (take (4 + i * 27 + 27 - (4 + i * 27)) (drop (4 + i * 27) l))) where
  registered_is : o ≡ Some (get_or (edits_in l) i no_edit)
  registered_is =
      let r : List ℕ = cut (4 + i * 27) 27 l in
      let x : edit_of r ≡ Some (get_or (edits_in l) i no_edit) = record_is l i u.formed g in
      let k = links_under u.names r _ x (each_under u.names (edits_in l) i u.all g) in
      let f : u.names ≤ 256 = u.few in
      e
      ∙ ap (edit_by target_low) (lent (4 + i * 27) l)
      ∙ same_edit r (λ q. omega (arith, k.0 q)) (λ q. omega (arith, k.1 q))
      ∙ x

  pub registered_or : (d r : RefEdit) → r ≡ unwrap_or o d → r ≡ get_or (edits_in l) i no_edit
  registered_or d r p = p ∙ ap (λ (x : Option RefEdit). unwrap_or x d) registered_is

-- ---- the loops

-- what is left of the list begins at a place up to which P holds
pub record Rest (P : ℕ → Type 0) (l rest : List ℕ) : Type 0 where
  pub at : ℕ
  pub is : rest ≡ drop at l
  pub there : P at

-- the record that is next, and what is left behind it
module _ (l rest r t : List ℕ) (at : ℕ) (is : rest ≡ drop at l) (parts : rest ≡ r ++ t) (size : length r ≡ 27) where
  front : r ≡ cut at 27 l
  front = sym (take_all 27 r (omega arith)) ∙ sym (cut_left 0 27 r t (omega arith)) ∙ ap (take 27) (sym parts ∙ is)

  behind : t ≡ drop (at + 27) l
  behind =
      sym (front_rest rest r t parts) ∙ ap (λ (n : ℕ). drop n rest) size ∙ ap (drop 27) is ∙ drop-drop 27 at l

  room : at < length l
  room = omega (arith, ap length is, ap length parts, length-drop at l, length-append r t)

-- the records begin at place 4
rest_start : (P : ℕ → Type 0) (l rest : List ℕ) → rest ≡ take (length l - 4) (drop 4 l) → P 4 → Rest P l rest
rest_start P l rest e p = record { at = 4; is = e ∙ take_rest l 4; there = p }

-- what is left to be read comes to what is asked
pub record Left (l : List ℕ) (at : ℕ) : Type 0 where
  pub left : ℕ
  pub size : at + left * 27 ≡ length l
  pub same : is_some (edits_from left at l) ≡ is_some (edits_from (byte_at 3 l) 4 l)

one_more : (o : Option RefEdit) (p : Option (List RefEdit)) → is_some (o >>= λ e. p >>= λ es. Some (e ∷ es)) ≡ (is_some o && is_some p)
one_more None p = refl
one_more (Some e) None = refl
one_more (Some e) (Some es) = refl

pub left_start : (l rest : List ℕ) → is_framed l ≡ true → rest ≡ take (length l - 4) (drop 4 l) → Rest (Left l) l rest
left_start l rest h e = rest_start (Left l) l rest e (record { left = byte_at 3 l; size = (framed l h).size; same = refl })

pub records_room : (l : List ℕ) → is_framed l ≡ true → 4 ≤ length l
records_room l h = omega (arith, (framed l h).size)

-- the one that is next, and those behind it
record Next (b : Bool) (l : List ℕ) (at : ℕ) : Type 0 where
  left : ℕ
  size : at + 27 + left * 27 ≡ length l
  same : (b && is_some (edits_from left (at + 27) l)) ≡ is_some (edits_from (byte_at 3 l) 4 l)

next : (l : List ℕ) (at : ℕ) (v : Left l at) (h : at < length l) (b : Bool) → b ≡ is_some (edit_of (cut at 27 l)) → Next b l at
unfolding edits_from
next l at v h b e = go v.left v.size v.same
  where
    go : (k : ℕ) → at + k * 27 ≡ length l → is_some (edits_from k at l) ≡ is_some (edits_from (byte_at 3 l) 4 l) → Next b l at
    go zero s q = absurd (omega arith)
    go (suc k) s q = record {
      left = k;
      size = omega arith;
      same = rw (e) (sym (one_more (edit_of (cut at 27 l)) (edits_from k (at + 27) l)) ∙ q);
    }

module _ (l rest r t : List ℕ) (v : Rest (Left l) l rest) (parts : rest ≡ r ++ t) (size : length r ≡ 27) (b : Bool)
    (e : b ≡ is_some (edit_of r)) where
  next_is : Next b l v.at
  next_is =
      next l v.at v.there (room l rest r t v.at v.is parts size) b
      (e ∙ ap (λ (x : List ℕ). is_some (edit_of x)) (front l rest r t v.at v.is parts size))

  pub left_more : b ≡ true → Rest (Left l) l t
  left_more p =
      let n : Next true l v.at = subst (λ (b : Bool). Next b l v.at) p next_is in
      record {
        at = v.at + 27;
        is = behind l rest r t v.at v.is parts size;
        there = record { left = n.left; size = n.size; same = n.same };
      }

  pub left_fails : b ≡ false → false ≡ is_some (edits_from (byte_at 3 l) 4 l)
  left_fails p = (subst (λ (b : Bool). Next b l v.at) p next_is).same

pub left_end : (l rest : List ℕ) → Rest (Left l) l rest → length rest < 27 → true ≡ is_some (edits_from (byte_at 3 l) 4 l)
unfolding edits_from
left_end l rest v h =
    let z : v.there.left ≡ 0 = omega (arith, ap length v.is, length-drop v.at l) in
    ap (λ (k : ℕ). is_some (edits_from k v.at l)) (sym z) ∙ v.there.same

-- no number is out yet: what is left has the list's first
pub record Ahead (n : ℕ) (l : List ℕ) (at : ℕ) : Type 0 where
  pub left : ℕ
  pub size : at + left * 27 ≡ length l
  pub edits : List RefEdit
  pub read : edits_from left at l ≡ Some edits
  pub same : first_out n (collect numbers_of edits) ≡ first_out n (collect numbers_of (edits_in l))

-- the edit that is next, and those behind it
record Turn (n : ℕ) (l : List ℕ) (at : ℕ) : Type 0 where
  left : ℕ
  size : at + 27 + left * 27 ≡ length l
  e : RefEdit
  first : edit_of (cut at 27 l) ≡ Some e
  rest : List RefEdit
  others : edits_from left (at + 27) l ≡ Some rest
  same : first_out n (numbers_of e ++ collect numbers_of rest) ≡ first_out n (collect numbers_of (edits_in l))

pub ahead_start : (n : ℕ) (l rest : List ℕ) → is_some (edits_of l) ≡ true → rest ≡ take (length l - 4) (drop 4 l)
    → Rest (Ahead n l) l rest
ahead_start n l rest h e =
    let f = formed l h in
    rest_start (Ahead n l) l rest e
    (record { left = byte_at 3 l; size = f.frame.size; edits = edits_in l; read = f.read; same = refl })

pub edits_room : (l : List ℕ) → is_some (edits_of l) ≡ true → 4 ≤ length l
edits_room l h = omega (arith, (formed l h).frame.size)

turn : (n : ℕ) (l : List ℕ) (at : ℕ) (v : Ahead n l at) → at < length l → Turn n l at
turn n l at v h = go v.left v.size v.read
  where
    go : (k : ℕ) → at + k * 27 ≡ length l → edits_from k at l ≡ Some v.edits → Turn n l at
    go zero s r = absurd (omega arith)
    go (suc k) s r =
        let q = step k at l v.edits r in
        record {
          left = k;
          size = omega arith;
          e = q.e;
          first = q.first;
          rest = q.rest;
          others = q.others;
          same = ap (λ (es : List RefEdit). first_out n (collect numbers_of es)) q.whole ∙ v.same;
        }

module _ (n : ℕ) (l rest r t : List ℕ) (v : Rest (Ahead n l) l rest) (parts : rest ≡ r ++ t) (size : length r ≡ 27) where
  turn_is : Turn n l v.at
  turn_is = turn n l v.at v.there (room l rest r t v.at v.is parts size)

  read_is : edit_of r ≡ Some (turn_is.e)
  read_is = ap edit_of (front l rest r t v.at v.is parts size) ∙ turn_is.first

  pub ahead_part : is_some (edit_of r) ≡ true
  ahead_part = ap is_some read_is

  module _ (o : Option ℕ) (e : o ≡ first_out n (numbers_of (edit_in r))) where
    out_is : o ≡ first_out n (numbers_of turn_is.e)
    unfolding edit_in
    out_is = e ∙ ap (λ (x : Option RefEdit). first_out n (numbers_of (unwrap_or x no_edit))) read_is

    pub ahead_more : o ≡ None → Rest (Ahead n l) l t
    ahead_more p =
        let q = turn_is in
        record {
          at = v.at + 27;
          is = behind l rest r t v.at v.is parts size;
          there = record {
            left = q.left;
            size = q.size;
            edits = q.rest;
            read = q.others;
            same = sym (out_append n (numbers_of q.e) (collect numbers_of q.rest) (sym out_is ∙ p)) ∙ q.same;
          };
        }

    pub ahead_out : (x : ℕ) → o ≡ Some x → Some x ≡ first_out n (collect numbers_of (edits_in l))
    ahead_out x p =
        let q = turn_is in
        sym (out_front n (numbers_of q.e) (collect numbers_of q.rest) x (sym out_is ∙ p)) ∙ q.same

pub ahead_end : (n : ℕ) (l rest : List ℕ) → Rest (Ahead n l) l rest → length rest < 27
    → None ≡ first_out n (collect numbers_of (edits_in l))
unfolding edits_from
ahead_end n l rest v h =
    let a = v.there in
    let z : a.left ≡ 0 = omega (arith, ap length v.is, length-drop v.at l) in
    let e : Some [] ≡ Some a.edits = ap (λ (k : ℕ). edits_from k v.at l) (sym z) ∙ a.read in
    ap (λ (es : List RefEdit). first_out n (collect numbers_of es)) (some_is e) ∙ a.same
