-- What a write does to the entry of one name, and to its log. Assumes nothing.
use mathlib.Core.Path.{◌≡◌, refl, sym, ap, ◌∙◌}
use mathlib.Core.Bool.{Bool, true, false, not, cond}
use mathlib.Core.List.{List, [], ◌∷◌, ◌++◌}
use Prim.Native.Nat.{ℕ, ◌≤◌, ◌<◌}
use native.Mathlib.Omega.{arith}
use lib.ListN.{length, get_or, length-set, get_or-eq_default}
use lib.Seq.{get_or-set_same, get_or-set_other}
use lib.Dec.{eqb}
use borrow.Author.Tests.{eqb-true, eqb-false, ne_eqb}
use Rattle.target.specs.declared.NameNumber.{NameNumber}
use Rattle.model.specs.declared.Loose.TheVariants as loose
use Rattle.model.specs.declared.Line.{Line}
use Rattle.model.specs.Basic.{select}
use Rattle.model.specs.Store.{Store, Entry, no_entry, count, entry_at, lines_of, is_of, put_loose, put_packed, change_at}
use Rattle.model.specs.Writes.{Write, PackedEdit, apply, apply_packed}
use Rattle.model.specs.Writes.Write.{append_line, write_loose, remove_log, write_packed, remove_loose}
use Rattle.model.specs.Demand3.{apply_all}
use Rattle.model.proofs.Switch.{through}

-- ---- an entry

abbrev pub touch_packed : ℕ → PackedEdit → Entry → Entry
touch_packed n p e = cond (eqb p.name.0 n) (put_packed p.value e) e

-- what a write does to the entry of name n
abbrev pub touch : ℕ → Write → Entry → Entry
touch n (append_line l) e = e
touch n (write_loose k t) e = cond (eqb k.0 n) (put_loose (loose.Target t) e) e
touch n (remove_log k) e = e
touch n (write_packed ps) e = through (touch_packed n) ps e
touch n (remove_loose k) e = cond (eqb k.0 n) (put_loose loose.None e) e

change_at_lem : (f : Entry → Entry) (k n : ℕ) (es : List Entry) → n < length es
    → get_or (change_at f k es) n no_entry ≡ cond (eqb k n) (f (get_or es n no_entry)) (get_or es n no_entry)
change_at_lem f k n es h = go (eqb k n) refl
  where
    go : (t : Bool) → eqb k n ≡ t → get_or (change_at f k es) n no_entry ≡ cond t (f (get_or es n no_entry)) (get_or es n no_entry)
    go true e = rw (eqb-true k n e) (get_or-set_same es n (f (get_or es n no_entry)) no_entry h)
    go false e = get_or-set_other es k n (f (get_or es k no_entry)) no_entry (λ q. eqb-false k n e (sym q))

packed_at : (ps : List PackedEdit) (n : ℕ) (es : List Entry) → n < length es
    → get_or (apply_packed ps es) n no_entry ≡ through (touch_packed n) ps (get_or es n no_entry)
packed_at [] n es h = refl
packed_at (p ∷ ps) n es h =
    packed_at ps n (change_at (put_packed p.value) p.name.0 es) (rw length-set h)
    ∙ ap (through (touch_packed n) ps) (change_at_lem (put_packed p.value) p.name.0 n es h)

packed_length : (ps : List PackedEdit) (es : List Entry) → length (apply_packed ps es) ≡ length es
packed_length [] es = refl
packed_length (p ∷ ps) es = packed_length ps (change_at (put_packed p.value) p.name.0 es) ∙ simp length-set

-- no write adds a name
count_same : (w : Write) (s : Store) → count (apply w s) ≡ count s
unfolding apply
count_same (append_line l) s = refl
count_same (write_loose k t) s = simp length-set
count_same (remove_log k) s = refl
count_same (write_packed ps) s = packed_length ps s.entries
count_same (remove_loose k) s = simp length-set

entry_by : (w : Write) (s : Store) (n : ℕ) → n < count s → entry_at (apply w s) n ≡ touch n w (entry_at s n)
unfolding apply
entry_by (append_line l) s n h = refl
entry_by (write_loose k t) s n h = change_at_lem (put_loose (loose.Target t)) k.0 n s.entries h
entry_by (remove_log k) s n h = refl
entry_by (write_packed ps) s n h = packed_at ps n s.entries h
entry_by (remove_loose k) s n h = change_at_lem (put_loose loose.None) k.0 n s.entries h

pub entry_after : (ws : List Write) (s : Store) (n : ℕ) → n < count s → entry_at (apply_all ws s) n ≡ through (touch n) ws (entry_at s n)
entry_after [] s n h = refl
entry_after (w ∷ ws) s n h =
    entry_after ws (apply w s) n (rw count_same h) ∙ ap (through (touch n) ws) (entry_by w s n h)

-- past the names there is nothing, whatever is written
pub nothing_after : (ws : List Write) (s : Store) (n : ℕ) → count s ≤ n → entry_at (apply_all ws s) n ≡ no_entry
nothing_after [] s n h = get_or-eq_default s.entries no_entry h
nothing_after (w ∷ ws) s n h = nothing_after ws (apply w s) n (rw count_same h)

-- ---- a log

-- what a write does to the log of name n
abbrev pub log_by : NameNumber → Write → List Line → List Line
log_by n (append_line l) ls = ls ++ select (is_of n) (l ∷ [])
log_by n (write_loose k t) ls = ls
log_by n (remove_log k) ls = cond (eqb k.0 n.0) [] ls
log_by n (write_packed ps) ls = ls
log_by n (remove_loose k) ls = ls

select_append : {A : Type 0} (p : A → Bool) (xs ys : List A) → select p (xs ++ ys) ≡ select p xs ++ select p ys
select_append p [] ys = refl
select_append {A} p (x ∷ xs) ys = go (select_append p xs ys) (p x)
  where
    go : select p (xs ++ ys) ≡ select p xs ++ select p ys → (t : Bool)
        → cond t (x ∷ select p (xs ++ ys)) (select p (xs ++ ys)) ≡ cond t (x ∷ select p xs) (select p xs) ++ select p ys
    go h true = ap (λ (l : List A). x ∷ l) h
    go h false = h

-- of what fails a test, none passes it
select_none : {A : Type 0} (p : A → Bool) (xs : List A) → select p (select (λ x. not (p x)) xs) ≡ []
select_none p [] = refl
select_none p (x ∷ xs) = go (select_none p xs) (p x) refl
  where
    go : select p (select (λ y. not (p y)) xs) ≡ [] → (t : Bool) → p x ≡ t
        → select p (cond (not t) (x ∷ select (λ y. not (p y)) xs) (select (λ y. not (p y)) xs)) ≡ []
    go h true e = h
    go h false e = rw e h

-- what passes a test is still there, if it fails the other
select_same : {A : Type 0} (p q : A → Bool) → ((x : A) → p x ≡ true → q x ≡ false)
    → (xs : List A) → select p (select (λ x. not (q x)) xs) ≡ select p xs
select_same p q a [] = refl
select_same {A} p q a (x ∷ xs) = go (select_same p q a xs) (p x) refl (q x) refl
  where
    go : select p (select (λ y. not (q y)) xs) ≡ select p xs → (t : Bool) → p x ≡ t → (u : Bool) → q x ≡ u
        → select p (cond (not u) (x ∷ select (λ y. not (q y)) xs) (select (λ y. not (q y)) xs)) ≡ cond t (x ∷ select p xs) (select p xs)
    go h true e true f = absurd (let z : true ≡ false = sym f ∙ a x e in let y : ◌≡◌ {A = ℕ} 0 1 = cc in omega arith)
    go h true e false f = rw e (ap (λ (l : List A). x ∷ l) h)
    go h false e true f = h
    go h false e false f = rw e h

log_removed : (k n : NameNumber) (ls : List Line)
    → select (is_of n) (select (λ l. not (is_of k l)) ls) ≡ cond (eqb k.0 n.0) [] (select (is_of n) ls)
log_removed k n ls = go (eqb k.0 n.0) refl
  where
    go : (t : Bool) → eqb k.0 n.0 ≡ t → select (is_of n) (select (λ l. not (is_of k l)) ls) ≡ cond t [] (select (is_of n) ls)
    go true e = rw (eqb-true k.0 n.0 e) (select_none (is_of n) ls)
    go false e = select_same (is_of n) (is_of k) apart ls
      where
        apart : (l : Line) → is_of n l ≡ true → is_of k l ≡ false
        apart l h = rw (eqb-true l.name.0 n.0 h) (ne_eqb n.0 k.0 (λ q. eqb-false k.0 n.0 e (sym q)))

log_by_lem : (w : Write) (s : Store) (n : NameNumber) → lines_of (apply w s) n ≡ log_by n w (lines_of s n)
unfolding apply lines_of
log_by_lem (append_line l) s n = select_append (is_of n) s.lines (l ∷ [])
log_by_lem (write_loose k t) s n = refl
log_by_lem (remove_log k) s n = log_removed k n s.lines
log_by_lem (write_packed ps) s n = refl
log_by_lem (remove_loose k) s n = refl

pub log_after : (ws : List Write) (s : Store) (n : NameNumber) → lines_of (apply_all ws s) n ≡ through (log_by n) ws (lines_of s n)
log_after [] s n = refl
log_after (w ∷ ws) s n = log_after ws (apply w s) n ∙ ap (through (log_by n) ws) (log_by_lem w s n)
