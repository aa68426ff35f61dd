-- What the accessors that read answer, over variables, in the shape of their goals. Assumes nothing.
use Rattle.std.specs.Result.{result_unwrap_or}
use Rattle.target.specs.declared.NoSuchNumber.{NoSuchNumber}
use Rattle.std.specs.Prelude.{ok_or, Result, Option, Some, None, unwrap_or}
use mathlib.Core.Path.{◌≡◌, refl, sym, ap, ap₂, ◌∙◌}
use mathlib.Core.Bool.{false}
use mathlib.Core.List.{List}
use Prim.Native.Nat.{ℕ, zero, suc, ◌+◌, ◌-◌, ◌*◌, ◌≤◌, ◌<◌}
use native.Mathlib.Nat.{add-zero}
use native.Mathlib.Omega.{arith}
use lib.ListN.{length, get_or}
use mir.Syntax.{w64}
use mir.Val.{Fits}
use Rattle.word.specs.Be.{cut, val}
use Rattle.word.specs.Codec.{slot}
use Rattle.word.specs.Fields.{unfields}
use Rattle.word.proofs.Cut.{cut_cut, length_cut}
use Rattle.target.specs.declared.NameNumber.{NameNumber}
use Rattle.target.specs.Fields.{name_below}
use Rattle.target.specs.declared.ObjectNumber.{ObjectNumber}
use Rattle.target.specs.declared.Target.TheVariants.{Object}
use Rattle.transaction.specs.declared.LogChange.{LogChange}
use Rattle.transaction.specs.declared.PreviousValue.TheVariants.{Any}
use Rattle.transaction.specs.declared.Change.TheVariants.{Update}
use Rattle.transaction.specs.declared.RefEdit.{RefEdit}
use Rattle.transaction.specs.declared.Edit.{Edit}
use Rattle.transaction.specs.declared.PackedRefs.{PackedRefs}
use Rattle.transaction.specs.declared.PackedRefs.TheVariants.{DeletionsOnly}
use Rattle.transaction.specs.Fields.{packed_refs_of}
use Rattle.transaction.specs.Change.{default_log, row_of}
use Rattle.model.specs.declared.Loose.{Loose}
use Rattle.model.specs.declared.Loose.TheVariants as loose
use Rattle.model.specs.declared.Lock.{Lock}
use Rattle.model.specs.declared.Lock.TheVariants.{Free}
use Rattle.model.specs.declared.WriteReflog.{WriteReflog}
use Rattle.model.specs.declared.WriteReflog.TheVariants.{Disable}
use Rattle.model.specs.declared.Line.{Line}
use Rattle.model.specs.Store.{Entry, no_line, no_row, count, entry_at, rows_in, mode_in}
use Rattle.model.specs.Rows as model
use Rattle.model.specs.Load.{setting_of}
use Rattle.slots.specs.Values.{loose_in, packed_in, packed_from, lock_in, line_in, line_from, line_widths}
use Rattle.model.specs.Store.{lock_from}
use Rattle.slots.specs.Row.{row_in}
use Rattle.region.specs.Layout.{lock_base, lock_width}
use Rattle.region.specs.Region.{mode_byte, name_count, line_count, mode_number, row_count, view, Laid}
use Rattle.region.proofs.Read.{count_view, lines_view, rows_view, mode_view, mode_in_view, setting_view, packed_lock_view, entry_view, line_view, row_view, name_length, name_short, name_read_lem}

-- ---- what was read or its default, and the part of a region that is lent

lent : (a w : ℕ) (r : List ℕ) → cut a (a + w - a) r ≡ cut a w r
lent a w r = let e : a + w - a ≡ w = omega arith in ap (λ (k : ℕ). cut a k r) e

pub slot_lent : (base w i : ℕ) (r : List ℕ) → cut (base + i * w) (base + i * w + w - (base + i * w)) r ≡ slot base w i r
slot_lent base w i r = lent (base + i * w) w r

-- a number tried, or its default
tried : {A E : Type 0} (o : Option A) (e : E) (d : A) → result_unwrap_or (ok_or o e) d ≡ unwrap_or o d
tried None e d = refl
tried (Some a) e d = refl

-- all of a part
whole : (a w : ℕ) (r : List ℕ) → cut 0 w (cut a w r) ≡ cut a w r
whole a w r = cut_cut a w 0 w r (omega arith) ∙ ap (λ (n : ℕ). cut n w r) (add-zero a)

-- ---- the head

module _ (r : List ℕ) where
  pub names_read : (x : ℕ) → x ≡ val (cut 6 2 r) → x ≡ count (view r)
  unfolding name_count
  names_read x e = e ∙ sym (count_view r)

  pub known_is : (k x : ℕ) (o : Option NameNumber) → k ≡ count (view r) → o ≡ name_below k x → o ≡ name_below (count (view r)) x
  known_is k x o e f = f ∙ ap (λ (k : ℕ). name_below k x) e

  pub lines_read : (x : ℕ) → x ≡ val (cut 8 2 r) → x ≡ length (view r).lines
  unfolding line_count
  lines_read x e = e ∙ sym (lines_view r)

  pub rows_read : (x : ℕ) → Laid r → x ≡ val (cut 11 1 r) → x ≡ length (rows_in (view r).prepared)
  unfolding row_count
  rows_read x l e = e ∙ sym (rows_view r l)

  pub number_read : (x : ℕ) → Laid r → x ≡ val (cut 10 1 r) → x ≡ mode_byte (view r).prepared
  unfolding mode_number
  number_read x l e = e ∙ sym (mode_view r l)

  pub mode_read : (m : ℕ) (q : Result PackedRefs NoSuchNumber) (v : PackedRefs) → Laid r → m ≡ mode_byte (view r).prepared
      → q ≡ ok_or (packed_refs_of m) (record { 0 = m }) → v ≡ result_unwrap_or q DeletionsOnly → v ≡ mode_in (view r).prepared
  mode_read m q v l e p f =
      f
      ∙ ap (λ (q : Result PackedRefs NoSuchNumber). result_unwrap_or q DeletionsOnly) p
      ∙ tried (packed_refs_of m) _ DeletionsOnly
      ∙ ap (λ (m : ℕ). unwrap_or (packed_refs_of m) DeletionsOnly) (e ∙ mode_view r l)
      ∙ sym (mode_in_view r)

  pub setting_read : (b : ℕ) (q : Result WriteReflog NoSuchNumber) (v : WriteReflog) → b ≡ val (cut 5 1 r)
      → q ≡ ok_or (setting_of b) (record { 0 = b }) → v ≡ result_unwrap_or q Disable → v ≡ (view r).setting
  setting_read b q v e p f =
      f
      ∙ ap (λ (q : Result WriteReflog NoSuchNumber). result_unwrap_or q Disable) p
      ∙ tried (setting_of b) _ Disable
      ∙ ap (λ (b : ℕ). unwrap_or (setting_of b) Disable) e
      ∙ sym (setting_view r)

  pub packed_lock_read : (x : ℕ) (q : Result Lock NoSuchNumber) (v : Lock) → x ≡ val (cut 12 1 r)
      → q ≡ ok_or (lock_from x) (record { 0 = x }) → v ≡ result_unwrap_or q Free → v ≡ (view r).packed_lock
  packed_lock_read x q v e p f =
      f
      ∙ ap (λ (q : Result Lock NoSuchNumber). result_unwrap_or q Free) p
      ∙ tried (lock_from x) _ Free
      ∙ ap (λ (x : ℕ). unwrap_or (lock_from x) Free) e
      ∙ sym (packed_lock_view r)

-- ---- names and values

module _ (r : List ℕ) (n : ℕ) (h : n < count (view r)) where
  module _ (l : Laid r) where
    pub name_fits : Fits w64 (get_or r (13 + n * 65) 0)
    name_fits =
        let e : get_or r (13 + n * 65) 0 ≡ length (entry_at (view r) n).name = name_length r l n h in
        let s : length (entry_at (view r) n).name ≤ 64 = name_short r l n h in
        record { fits = omega arith }

    pub name_end : 13 + n * 65 + 1 + get_or r (13 + n * 65) 0 ≤ length r
    name_end =
        let e : get_or r (13 + n * 65) 0 ≡ length (entry_at (view r) n).name = name_length r l n h in
        let s : length (entry_at (view r) n).name ≤ 64 = name_short r l n h in
        let c : count (view r) ≤ 256 = l.names in
        let d : length r ≡ 49549 = l.size in
        omega arith

    pub name_end_fits : Fits w64 (13 + n * 65 + 1 + get_or r (13 + n * 65) 0)
    name_end_fits =
        let e : 13 + n * 65 + 1 + get_or r (13 + n * 65) 0 ≤ length r = name_end in
        let d : length r ≡ 49549 = l.size in
        record { fits = omega arith }

    name_here : cut (13 + n * 65 + 1) (13 + n * 65 + 1 + get_or r (13 + n * 65) 0 - (13 + n * 65 + 1)) r ≡ (entry_at (view r) n).name
    name_here =
        lent (13 + n * 65 + 1) (get_or r (13 + n * 65) 0) r
        ∙ ap (λ (k : ℕ). cut (13 + n * 65 + 1) k r) (name_length r l n h)
        ∙ name_read_lem r l n h

    pub name_is : (p : ℕ) → p ≡ n → cut (13 + p * 65 + 1) (13 + p * 65 + 1 + get_or r (13 + p * 65) 0 - (13 + p * 65 + 1)) r ≡ (entry_at (view r) n).name
    name_is p e = ap (λ (p : ℕ). cut (13 + p * 65 + 1) (13 + p * 65 + 1 + get_or r (13 + p * 65) 0 - (13 + p * 65 + 1)) r) e ∙ name_here

  -- p is the name's place, and s its slot
  module _ (p : ℕ) (s : List ℕ) (ep : p ≡ n) where
    pub loose_read : (o : Option Loose) (v : Loose) → s ≡ slot 16653 9 p r → o ≡ loose_in s → v ≡ unwrap_or o loose.None → v ≡ (entry_at (view r) n).loose
    loose_read o v es e f =
        f
        ∙ ap (λ (o : Option Loose). unwrap_or o loose.None) (e ∙ ap loose_in (es ∙ ap (λ (p : ℕ). slot 16653 9 p r) ep))
        ∙ ap (λ (e : Entry). e.loose) (sym (entry_view r n h))

    pub packed_read : (x : Option ObjectNumber) → s ≡ slot 18957 8 p r → x ≡ packed_from (val s) → x ≡ (entry_at (view r) n).packed
    unfolding packed_in
    packed_read x es e =
        e
        ∙ ap (λ (s : List ℕ). packed_from (val s)) (es ∙ ap (λ (p : ℕ). slot 18957 8 p r) ep ∙ sym (whole (18957 + n * 8) 8 r))
        ∙ ap (λ (e : Entry). e.packed) (sym (entry_view r n h))

    pub lock_read : (o : Option Lock) (v : Lock) → s ≡ slot 21005 1 p r → o ≡ lock_in s → v ≡ unwrap_or o Free → v ≡ (entry_at (view r) n).lock
    lock_read o v es e f =
        f
        ∙ ap (λ (o : Option Lock). unwrap_or o Free) (e ∙ ap lock_in (es ∙ ap (λ (p : ℕ). slot 21005 1 p r) ep))
        ∙ ap (λ (e : Entry). e.lock) (sym (entry_view r n h))

-- ---- rows and lines

pub no_row_is : (l : LogChange) (o : ObjectNumber) (n : NameNumber) (u : RefEdit) (x : Edit) → l ≡ default_log → o.0 ≡ 0 → n ≡ record { 0 = 0 }
    → u ≡ record { change = Update l Any (Object o); name = n; deref = false } → x ≡ row_of u → x ≡ no_row
no_row_is l o n u x p q m e f = f ∙ ap row_of (e ∙ ap (λ (n : NameNumber). record { change = Update l Any (Object o); name = n; deref = false }) m ∙ ap₂ edit p q)
  where
    edit : LogChange → ℕ → RefEdit
    edit l k = record { change = Update l Any (Object (record { 0 = k })); name = record { 0 = 0 }; deref = false }

pub row_read : (r : List ℕ) (l : Laid r) (i : ℕ) → i < length (rows_in (view r).prepared) → (s : List ℕ) (o : Option Edit) (x d : Edit)
    → s ≡ slot 21261 36 i r → o ≡ row_in s → d ≡ no_row → x ≡ unwrap_or o d → x ≡ model.row_at (rows_in (view r).prepared) i
row_read r l i h s o x d es e ed f = f ∙ ap₂ (λ (o : Option Edit) (d : Edit). unwrap_or o d) (e ∙ ap row_in es) ed ∙ sym (row_view r l i h)

pub row_long : (r : List ℕ) (l : Laid r) (i : ℕ) → i < length (rows_in (view r).prepared) → (s : List ℕ) → s ≡ slot 21261 36 i r → length s ≡ 36
row_long r l i h s es =
    let n : length r ≡ 49549 = l.size in
    let m : length (rows_in (view r).prepared) ≤ 160 = l.rows in
    ap length es ∙ length_cut (21261 + i * 36) 36 r (omega arith)

pub line_read_lem : (r : List ℕ) (i : ℕ) (x : Line) (s : List ℕ) → i < length (view r).lines → s ≡ slot 27021 22 i r
    → x ≡ line_from (unfields 0 line_widths s) → x ≡ get_or (view r).lines i no_line
unfolding line_in
line_read_lem r i x s h es e = e ∙ ap (λ (s : List ℕ). line_from (unfields 0 line_widths s)) es ∙ sym (line_view r i h)
