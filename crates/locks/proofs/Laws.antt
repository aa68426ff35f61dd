-- Foreign locks: what is locked, its lock, and what each way out of the two calls answers. Assumes nothing.
use Rattle.std.specs.Prelude.{Option, Some, None, Result, Ok, Err, IsErrAnd, ok_or}
use mathlib.Core.Path.{◌≡◌, refl, sym, ap, subst, ◌∙◌}
use mathlib.Core.Bool.{Bool, true, false, not, cond}
use mathlib.Core.List.{List, []}
use Prim.Native.Nat.{ℕ, zero, suc, ◌<◌}
use lib.Dec.{eqb, ltb}
use borrow.Author.Tests.{ltb-true, not-true, not-false}
use denote.Enum.Bare.{sameb}
use Rattle.target.specs.declared.NameNumber.{NameNumber}
use Rattle.target.specs.Fields.{name_below}
use Rattle.model.specs.contracts.Lock.{the_type}
use Rattle.model.specs.declared.Lock.{Lock}
use Rattle.model.specs.declared.Lock.TheVariants.{Free, Ours, Foreign}
use Rattle.model.specs.declared.Lockable.{Lockable}
use Rattle.model.specs.declared.Lockable.TheVariants.{Name, PackedTable}
use Rattle.model.specs.declared.Refusal.{Refusal}
use Rattle.model.specs.declared.Refusal.TheVariants.{Malformed, NotRegistered, WrongLock}
use Rattle.model.specs.Store.{Store, count, entry_of, is_lock, put_lock, change_entry, with_packed_lock}
use Rattle.model.specs.Reply.{Call, Reply}
use Rattle.model.specs.Reply.Call.{place_lock, lift_lock}
use Rattle.model.specs.Calls.{step}
use Rattle.model.specs.Load.{lockable, lock_of, set_lock, relocked, placed, lifted}
use Rattle.model.specs.Numbers.{answer, answer_of}
use Rattle.model.proofs.Binds.{refuse_pass, pass_is}
use Rattle.region.specs.Region.{view, good, Became}
use Rattle.region.proofs.Decode.{became_image}
use Rattle.answers.specs.declared.Verdict.{Verdict}
use Rattle.answers.specs.Answers.{answer_by}
use Rattle.answers.proofs.Apart.{ends}
use Rattle.calls.specs.Call.{is_start, reply_to, Replied}
use Rattle.calls.proofs.Replies.{refuses, replies, handed, nothing}
use Rattle.calls.proofs.Known.{is_far, is_below}
use Rattle.locks.specs.Locks.{is_there}

-- ---- what a kind and a number stand for

module _ (kind n : ℕ) (s : Store) where
  pub kind_name_far : (o : Option NameNumber) (w : Result NameNumber Refusal) (x : Refusal) (v : Result Lockable Refusal) → kind ≡ 0 → o ≡ name_below (count s) n
      → w ≡ ok_or o (NotRegistered n) → w ≡ Err x → IsErrAnd v (λ (e : Refusal). e ≡ x) → v ≡ lockable kind n s
  kind_name_far o w x v k e f h u =
      let p = nothing f h in
      handed v u ∙ ap Err p.1 ∙ (rw (k, is_far n s o e p.0))

  pub kind_name : (o : Option NameNumber) (m : NameNumber) → kind ≡ 0 → o ≡ name_below (count s) n → o ≡ Some m → Ok (Name m) ≡ lockable kind n s
  kind_name o m k e h = let is = is_below n s o e m h in rw (k, is.0, is.1)

  pub kind_table : kind ≡ 1 → Ok PackedTable ≡ lockable kind n s
  kind_table k = rw k

pub kind_other : (kind n : ℕ) (s : Store) → (kind ≡ 0 → ⊥) → (kind ≡ 1 → ⊥) → Err Malformed ≡ lockable kind n s
kind_other zero n s p q = absurd (p refl)
kind_other (suc zero) n s p q = absurd (q refl)
kind_other (suc (suc k)) n s p q = refl

-- ---- its lock

module _ (what : Lockable) (s : Store) (m : NameNumber) where
  pub there_near : what ≡ Name m → is_there what s ≡ true → m.0 < count s
  there_near h t = ltb-true m.0 (count s) (subst (λ (w : Lockable). is_there w s ≡ true) h t)

  pub lock_name_lem : (l : Lock) → what ≡ Name m → l ≡ (entry_of s m).lock → l ≡ lock_of what s
  lock_name_lem l h e = rw h e

  pub set_name : (l : Lock) (r : List ℕ) → what ≡ Name m → Became r (change_entry (put_lock l) m.0 s) → Became r (set_lock what l s)
  set_name l r h b = rw h b

module _ (what : Lockable) (s : Store) where
  pub lock_table : (l : Lock) → what ≡ PackedTable → l ≡ s.packed_lock → l ≡ lock_of what s
  lock_table l h e = rw h e

  pub set_table : (l : Lock) (r : List ℕ) → what ≡ PackedTable → Became r (with_packed_lock s l) → Became r (set_lock what l s)
  set_table l r h b = rw h b

-- the code's comparison of two locks is the model's
same_lock : (l must : Lock) → sameb the_type l must ≡ is_lock must l
same_lock Free Free = refl
same_lock Free Ours = refl
same_lock Free Foreign = refl
same_lock Ours Free = refl
same_lock Ours Ours = refl
same_lock Ours Foreign = refl
same_lock Foreign Free = refl
same_lock Foreign Ours = refl
same_lock Foreign Foreign = refl

-- what is found is there
pub found_there : (kind n : ℕ) (s : Store) (o : Result Lockable Refusal) (what : Lockable) → o ≡ lockable kind n s → o ≡ Ok what → is_there what s ≡ true
found_there kind n s o what is h = go kind (sym is ∙ h)
  where
    named : (b : Bool) → ltb n (count s) ≡ b → cond b (Ok (Name (record { 0 = n }))) (Err (NotRegistered n)) ≡ Ok what → is_there what s ≡ true
    named true p e = subst (λ (w : Lockable). is_there w s ≡ true) (pass_is e) p
    named false p e = absurd (refuse_pass e)

    go : (kind : ℕ) → lockable kind n s ≡ Ok what → is_there what s ≡ true
    go zero e = named (ltb n (count s)) refl e
    go (suc zero) e = subst (λ (w : Lockable). is_there w s ≡ true) (pass_is e) refl
    go (suc (suc k)) e = absurd (refuse_pass e)

-- ---- the ways out

module _ (must becomes : Lock) (kind n : ℕ) (r : List ℕ) (o : Result Lockable Refusal) (is : o ≡ lockable kind n (view r)) where
  pub relock_refused : (why : Refusal) → o ≡ Err why → Replied (Err why) r r (relocked must becomes kind n (view r))
  unfolding relocked
  relock_refused why h = refuses _ r why (rw (← is, h))

  module _ (what : Lockable) (h : o ≡ Ok what) (l : Lock) (el : l ≡ lock_of what (view r)) (b : Bool) (eb : b ≡ not (sameb the_type l must)) where
    same : (t : Bool) → sameb the_type l must ≡ t → is_lock must l ≡ t
    same t e = sym (same_lock l must) ∙ e

    pub relock_wrong : b ≡ true → Replied (Err WrongLock) r r (relocked must becomes kind n (view r))
    unfolding relocked
    relock_wrong y = refuses _ r WrongLock (rw (← is, h, ← el, same false (not-true _ (sym eb ∙ y))))

    pub relock_done : (x : Verdict) (r' : List ℕ) → b ≡ false → Became r' (set_lock what becomes (view r)) → answer_by x ≡ answer 0 []
        → Replied (Ok x) r r' (relocked must becomes kind n (view r))
    unfolding relocked answer_of
    relock_done x r' y d a = rw (← is, h, ← el, same true (not-false _ (sym eb ∙ y))) (record { answer = a; apart = ends x _ refl a; region = became_image r' _ d })

-- on a good region the call is the model's step
module _ (kind n : ℕ) (r r' : List ℕ) (ok : Bool) (is : ok ≡ good r) (y : not ok ≡ false) (x : Result Verdict Refusal) where
  stepped : (c : Call) → is_start c ≡ false → Replied x r r' (step c (view r)) → Replied x r r' (reply_to c r)
  stepped c looks d = subst (λ (reply : Reply). Replied x r r' reply) (sym (replies c r ok is looks y)) d

  pub placed_so : Replied x r r' (relocked Free Foreign kind n (view r)) → Replied x r r' (reply_to (place_lock kind n) r)
  unfolding step placed
  placed_so d = stepped (place_lock kind n) refl d

  pub lifted_so : Replied x r r' (relocked Foreign Free kind n (view r)) → Replied x r r' (reply_to (lift_lock kind n) r)
  unfolding step lifted
  lifted_so d = stepped (lift_lock kind n) refl d
