-- The model's reading of a record is the reading by parts. Assumes nothing.
use Rattle.std.specs.Prelude.{Option, Some, None}
use mathlib.Core.Path.{◌≡◌, refl, sym, ap}
use mathlib.Core.Bool.{Bool, true, false, not, ◌&&◌, cond, false≢true}
use mathlib.Core.List.{List}
use Prim.Native.Nat.{ℕ, zero, suc, ◌<◌}
use native.Mathlib.Nat.{mod-eq_of_lt}
use lib.Dec.{eqb}
use Rattle.word.specs.Codec.{is_some}
use Rattle.target.specs.declared.Target.{Target}
use Rattle.target.specs.declared.Target.TheVariants.{Object, Symbolic}
use Rattle.transaction.specs.declared.RefLog.{RefLog}
use Rattle.transaction.specs.declared.PreviousValue.{PreviousValue}
use Rattle.transaction.specs.declared.Change.TheVariants.{Delete}
use Rattle.word.specs.Be.{cut, val}
use Rattle.transaction.specs.declared.Change.{Change}
use Rattle.transaction.specs.declared.RefEdit.{RefEdit}
use Rattle.transaction.specs.Fields.{ref_log_of, previous_of}
use Rattle.model.specs.EditList.{◌>>=◌, flag_of, target_of, change_of, byte_at, edit_of}
use Rattle.edits.specs.Read.{target_low, target_by, expected_by, change_by, edit_by}

-- two steps after a value are one
assoc : {A B C : Type 0} (m : Option A) (f : A → Option B) (k : B → Option C) → (m >>= λ a. f a >>= k) ≡ ((m >>= f) >>= k)
assoc None f k = refl
assoc (Some a) f k = refl

later : {C D E F : Type 0} (x : Option D) (n : Option C) (c : D → C → Option E) (k : E → Option F)
    → (x >>= λ x. n >>= λ n. c x n >>= k) ≡ ((x >>= λ x. n >>= λ n. c x n) >>= k)
later None n c k = refl
later (Some x) n c k = assoc n (c x) k

chain : {A B C D E F G : Type 0} (d : Option G) (l : Option A) (b : Option B) (w : Option C) (x : C → Option D) (n : Option C)
    (c : A → B → D → C → Option E) (k : G → E → Option F)
    → (do
      d ← d
      l ← l
      b ← b
      w ← w
      x ← x w
      n ← n
      c ← c l b x n
      k d c)
    ≡ (do
      d ← d
      c ← do
        l ← l
        b ← b
        x ← do
          w ← w
          x w
        n ← n
        c l b x n
      k d c)
chain None l b w x n c k = refl
chain (Some d) None b w x n c k = refl
chain (Some d) (Some l) None w x n c k = refl
chain (Some d) (Some l) (Some b) None x n c k = refl
chain (Some d) (Some l) (Some b) (Some w) x n c k = later (x w) n (c l b) (k d)

abbrev last : List ℕ → Bool → Change → Option RefEdit
last r deref change = Some (record { change = change; name = record { 0 = val (cut 23 2 r) }; deref = deref })

pub edit_parts : (r : List ℕ) → edit_of r ≡ edit_by target_of r
unfolding edit_of edit_by change_by expected_by target_by
edit_parts r =
    chain (flag_of (byte_at 1 r)) ((ref_log_of (byte_at 2 r))) (flag_of (byte_at 3 r)) (target_of (byte_at 5 r) (val (cut 6 8 r)))
    (λ w. (previous_of (byte_at 4 r) w)) (target_of (byte_at 14 r) (val (cut 15 8 r)))
    (λ l b x n. change_of (byte_at 0 r) l b x n (val (cut 25 2 r))) (last r)

-- ---- whether a record is well formed does not depend on a link's number

data Like : Option (Option Target) → Option (Option Target) → Type 0 where
  neither : Like None None
  absent : Like (Some None) (Some None)
  present : {t u : Target} → Like (Some (Some t)) (Some (Some u))

low_like : (k x : ℕ) → Like (target_low k x) (target_of k x)
low_like zero x = go (eqb x 0)
  where
    go : (b : Bool) → Like (cond b (Some None) None) (cond b (Some None) None)
    go true = absent
    go false = neither
low_like (suc zero) x = go (eqb x 0)
  where
    go : (b : Bool) → Like (cond b None (Some (Some (Object (record { 0 = x }))))) (cond b None (Some (Some (Object (record { 0 = x })))))
    go true = neither
    go false = present
low_like (suc (suc zero)) x = present
low_like (suc (suc (suc k))) x = neither

each : {A B : Type 0} (m : Option A) (f g : A → Option B) → ((a : A) → is_some (f a) ≡ is_some (g a)) → is_some (m >>= f) ≡ is_some (m >>= g)
each None f g h = refl
each (Some a) f g h = h a

both : {A B : Type 0} (m n : Option A) (f g : A → Option B) → is_some m ≡ is_some n → ((a b : A) → is_some (f a) ≡ is_some (g b))
    → is_some (m >>= f) ≡ is_some (n >>= g)
both None None f g e h = refl
both None (Some b) f g e h = absurd (false≢true e)
both (Some a) None f g e h = absurd (false≢true (sym e))
both (Some a) (Some b) f g e h = h a b

previous_like : (k : ℕ) {a b : Option (Option Target)} → Like a b
    → is_some (a >>= λ w. (previous_of k w)) ≡ is_some (b >>= λ w. (previous_of k w))
previous_like k neither = refl
previous_like k absent = refl
previous_like zero present = refl
previous_like (suc zero) present = refl
previous_like (suc (suc zero)) present = refl
previous_like (suc (suc (suc zero))) present = refl
previous_like (suc (suc (suc (suc zero)))) present = refl
previous_like (suc (suc (suc (suc (suc k))))) present = refl

module _ (l : RefLog) (f : Bool) (e e' : PreviousValue) (m : ℕ) where
  change_like : (k : ℕ) {a b : Option (Option Target)} → Like a b
      → is_some (a >>= λ n. change_of k l f e n m) ≡ is_some (b >>= λ n. change_of k l f e' n m)
  change_like k neither = refl
  change_like zero absent = refl
  change_like (suc zero) absent = refl
  change_like (suc (suc zero)) absent = go (not f && eqb m 0)
    where
      go : (b : Bool) → is_some (cond b (Some (Delete e l)) None) ≡ is_some (cond b (Some (Delete e' l)) None)
      go true = refl
      go false = refl
  change_like (suc (suc (suc k))) absent = refl
  change_like zero present = refl
  change_like (suc zero) present = refl
  change_like (suc (suc zero)) present = refl
  change_like (suc (suc (suc k))) present = refl

-- a record is read exactly if the model reads it
pub same_form : (r : List ℕ) → is_some (edit_by target_low r) ≡ is_some (edit_of r)
unfolding edit_by change_by expected_by target_by
same_form r =
    rw (edit_parts r)
    (each (flag_of (byte_at 1 r)) _ _ λ d.
    both (change_by target_low r) (change_by target_of r) _ _
    (each ((ref_log_of (byte_at 2 r))) _ _ λ l.
    each (flag_of (byte_at 3 r)) _ _ λ f.
    both (expected_by target_low r) (expected_by target_of r) _ _ (previous_like (byte_at 4 r) (low_like (byte_at 5 r) (val (cut 6 8 r)))) λ e e'.
    change_like l f e e' (val (cut 25 2 r)) (byte_at 0 r) (low_like (byte_at 14 r) (val (cut 15 8 r))))
    λ c c'. refl)

-- ---- and where its link numbers have 16 bits, the edit is the model's

low_is : (k x : ℕ) → (k ≡ 2 → x < 65536) → target_low k x ≡ target_of k x
low_is zero x h = refl
low_is (suc zero) x h = refl
low_is (suc (suc zero)) x h = ap (λ (n : ℕ). Some (Some (Symbolic (record { 0 = n })))) (mod-eq_of_lt (h refl))
low_is (suc (suc (suc k))) x h = refl

pub same_edit : (r : List ℕ) → (byte_at 5 r ≡ 2 → val (cut 6 8 r) < 65536) → (byte_at 14 r ≡ 2 → val (cut 15 8 r) < 65536)
    → edit_by target_low r ≡ edit_of r
unfolding edit_by change_by expected_by target_by
same_edit r h g =
    rw (low_is (byte_at 5 r) (val (cut 6 8 r)) h, low_is (byte_at 14 r) (val (cut 15 8 r)) g) (sym (edit_parts r))
