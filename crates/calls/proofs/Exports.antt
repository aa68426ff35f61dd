-- What specs/Exports.antt states, proved. Assumes nothing.
use Rattle.std.specs.Prelude.{Option, Some, None, Result, Ok, Err}
use mathlib.Core.Path.{◌≡◌, refl, sym, ap, subst, ◌∙◌}
use mathlib.Core.Bool.{Bool, true, false, cond}
use mathlib.Core.List.{List, [], ◌∷◌}
use Prim.Native.Nat.{ℕ}
use native.Mathlib.Omega.{arith}
use lib.ListN.{length}
use lib.Dec.{eqb, ltb}
use borrow.Author.Tests.{eq-eqb}
use Rattle.model.specs.declared.WriteReflog.{WriteReflog}
use Rattle.model.specs.declared.WriteReflog.TheVariants.{Disable}
use Rattle.model.specs.declared.Refusal.{Refusal}
use Rattle.model.specs.declared.Refusal.TheVariants.{BadRegion, Malformed, NotRegistered, ReferenceCycle, TooManyRows, MultipleEdits, PackedTransactionAcquire, LockAcquire, DeleteReferenceMustExist, MustNotExist, MustExist, ReferenceOutOfDate, DeleteMustNotExist, LogFull, WrongState, BadName, NamesFull, WrongLock, BadLoad, NothingThere, MalformedRecord, UnknownVersion, NameConflict, ReceiverFull, MalformedLine, TextTooLong, ShortBuffer}
use Rattle.model.specs.Store.{Store, Prepared, empty}
use Rattle.model.specs.Commit.Stop.{no_committer, used_up}
use Rattle.model.specs.Outcome.{refuse_if, or_refuse}
use Rattle.model.specs.Reply.{Call, Given, Reply, ◌>>=◌, ◌>>◌}
use Rattle.model.specs.Reply.Call.{start, add_name, name_bytes, load_loose, load_packed, place_lock, lift_lock, prepare, commit, rollback, read_name, read_line, read_row, write_packed, read_packed}
use Rattle.model.specs.Reply.Reply.{done, stopped, refused}
use Rattle.model.specs.Reply.Given.{nothing, number, written}
use Rattle.model.specs.Load.{setting_of, started}
use Rattle.model.specs.PackedText.{packed_text}
use Rattle.model.specs.Calls.{step, rows_prepared, text_written}
use Rattle.model.specs.Prepare.{rows_for, held as holds}
use Rattle.model.specs.Numbers.{answer_of, refusal_answer}
use Rattle.answers.proofs.Apart.{one_result}
use Rattle.model.specs.Reached.{Reached, leaves}
use Rattle.model.specs.Reached.Reached.{begun, after}
use Rattle.model.proofs.Kept.{reached_sound}
use Rattle.model.proofs.Locks.{as_before}
use Rattle.settings.specs.Format.{Settings, read}
use Rattle.receiver.specs.Receiver.{held, is_receiver, closing, closed}
use Rattle.region.specs.Layout.{region_size}
use Rattle.region.specs.Region.{image, decode}
use Rattle.region.proofs.Sized.{length_image}
use Rattle.region.proofs.Decode.{decoded, decode_image}
use Rattle.calls.specs.Call.{sized, start_from, step_on, reply_to, reply_to_record, reply_or, reply_to_closing, region_after, Out, out_of, untouched, call, start_call, beside, close_call, buffer_after, reply_to_writing, write_call, Did}
use Rattle.calls.specs.Exports.{Determined, BelowDetermined, WroteDetermined, KeepsDetermined, PartDetermined, Unchanged, StartUnchanged, CloseUnchanged, WriteUnchanged, GotReached, LocksAsBefore}
use Rattle.calls.specs.Exports.Got.{begun as got·begun, begun_with as got·begun_with, after as got·after, after_with as got·after_with, after_closing as got·after_closing, after_writing as got·after_writing}

-- ---- determined

pub determined : Determined
determined o n n' a₁ a₂ lent₁ lent₂ d e = (d.code ∙ sym e.code, d.answer ∙ sym e.answer, d.lent ∙ sym e.lent)

pub below_determined : BelowDetermined
below_determined reply r v v' r₁ r₂ d e = (one_result v v' d.apart e.apart (d.answer ∙ sym e.answer), d.region ∙ sym e.region)

pub wrote_determined : WroteDetermined
wrote_determined r b v v' b₁ b₂ d e = (one_result v v' d.apart e.apart (d.answer ∙ sym e.answer), d.buffer ∙ sym e.buffer)

pub keeps_determined : KeepsDetermined
keeps_determined k v v' b₁ b₂ d e = (one_result v v' d.apart e.apart (d.answer ∙ sym e.answer), d.buffer ∙ sym e.buffer)

pub part_determined : PartDetermined
part_determined n r p q d e = d ∙ sym e

-- the record's size decides
abbrev chosen : Bool → Reply → List ℕ → List ℕ → Out
unfolding out_of
chosen b reply r a = cond b (out_of reply r) (untouched a (r ∷ []))

-- ---- a refusal changes no byte of the region

pub unchanged : Unchanged
unfolding call out_of answer_of
unchanged c r a n a' lent d not_done not_16 not-17 = go (eqb (length a) 128) (reply_to c r) d.code d.lent
  where
    go : (b : Bool) (reply : Reply) → n ≡ (chosen b reply r a).code → lent ≡ (chosen b reply r a).lent → lent ≡ r ∷ []
    go false reply e f = f
    go true (done s given) e f = absurd (not_done e)
    go true (stopped no_committer s made) e f = absurd (not_16 e)
    go true (stopped used_up s made) e f = absurd (not-17 e)
    go true (refused x) e f = f

-- ---- what is got decodes to a reached store

-- of one lent buffer, what holds of the list holds of it
pub only : (r r' : List ℕ) → r ∷ [] ≡ r' ∷ [] → r ≡ r'
only r r' e = cc

-- a region that decodes has the size that start asks for
decoded_size : (r : List ℕ) (s : Store) → decode r ≡ Some s → length r ≡ region_size
decoded_size r s e = ap length (sym (decoded r s e).1) ∙ length_image s

-- every call finds the store that is decoded; start does not look at it
pub replies_to : (c : Call) (r : List ℕ) (s : Store) → decode r ≡ Some s → reply_to c r ≡ step c s
unfolding reply_to step
replies_to (start k) r s e = rw (eq-eqb (length r) region_size (decoded_size r s e))
replies_to (add_name bytes) r s e = rw e
replies_to (name_bytes n) r s e = rw e
replies_to (load_loose n kind x) r s e = rw e
replies_to (load_packed n kind x) r s e = rw e
replies_to (place_lock kind n) r s e = rw e
replies_to (lift_lock kind n) r s e = rw e
replies_to (prepare list mode) r s e = rw e
replies_to (commit committer allowance) r s e = rw e
replies_to rollback r s e = rw e
replies_to (read_name n) r s e = rw e
replies_to (read_line n place) r s e = rw e
replies_to (read_row place) r s e = rw e
replies_to (write_packed room) r s e = rw e
replies_to (read_packed bytes) r s e = rw e

left_image : (reply : Reply) (r : List ℕ) (s : Store) → r ≡ image s → region_after reply r ≡ image (leaves reply s)
left_image (done t given) r s e = refl
left_image (stopped why t made) r s e = refl
left_image (refused x) r s e = e

reached_image : (r : List ℕ) (s : Store) → Reached s → r ≡ image s → (t : Store) × (decode r ≡ Some t) × Reached t
reached_image r s reached e = (s, ap decode e ∙ decode_image s (reached_sound s reached).fine, reached)

-- a call with a record of 128 bytes does the model's step,
pub does_step : (c : Call) (r a : List ℕ) (s : Store) → decode r ≡ Some s → length a ≡ 128 → call c r a ≡ out_of (step c s) r
unfolding call
does_step c r a s e l = rw (eq-eqb (length a) 128 l) (ap (λ (reply : Reply). out_of reply r) (replies_to c r s e))

-- and the region is the image of the store that the step leaves
pub step_image : (c : Call) (r r' : List ℕ) (s : Store) → decode r ≡ Some s → r' ∷ [] ≡ (out_of (step c s) r).lent
    → r' ≡ image (leaves (step c s) s)
unfolding out_of
step_image c r r' s e f = only r' (region_after (step c s) r) f ∙ left_image (step c s) r s (sym (decoded r s e).1)

-- one call more
goes_on : (c : Call) (r a : List ℕ) (n : ℕ) (a' r' : List ℕ) (s : Store) → decode r ≡ Some s → Reached s → Did (call c r a) n a' (r' ∷ [])
    → (t : Store) × (decode r' ≡ Some t) × Reached t
unfolding call out_of
goes_on c r a n a' r' s e reached d = go (eqb (length a) 128) d.lent
  where
    go : (b : Bool) → r' ∷ [] ≡ (chosen b (reply_to c r) r a).lent → (t : Store) × (decode r' ≡ Some t) × Reached t
    go false f = (s, ap decode (only r' r f) ∙ e, reached)
    go true f =
        reached_image r' (leaves (step c s) s) (after reached c)
        (step_image c r r' s e (f ∙ ap (λ (reply : Reply). (out_of reply r).lent) (replies_to c r s e)))

-- ---- start

abbrev start_reply : Bool → Option WriteReflog → Reply
start_reply false o = refused BadRegion
start_reply true None = refused Malformed
start_reply true (Some setting) = done (empty setting) nothing

start_replies : (k : ℕ) (r : List ℕ) → reply_to (start k) r ≡ start_reply (eqb (length r) region_size) (setting_of k)
unfolding reply_to step started
start_replies k r = go (eqb (length r) region_size)
  where
    known : (o : Option WriteReflog) → (or_refuse Malformed o >>= λ setting. done (empty setting) nothing) ≡ start_reply true o
    known None = refl
    known (Some setting) = refl

    go : (b : Bool) → step_on (start k) (cond b (Some (empty Disable)) None) ≡ start_reply b (setting_of k)
    go false = refl
    go true = known (setting_of k)

starts : (k : ℕ) (r a a' r' : List ℕ) → Did (call (start k) r a) 0 a' (r' ∷ []) → (t : Store) × (decode r' ≡ Some t) × Reached t
unfolding call out_of answer_of refusal_answer
starts k r a a' r' d = go (eqb (length a) 128) (eqb (length r) region_size) (setting_of k) code region
  where
    code : 0 ≡ (chosen (eqb (length a) 128) (start_reply (eqb (length r) region_size) (setting_of k)) r a).code
    code = rw (← start_replies k r) d.code

    region : r' ∷ [] ≡ (chosen (eqb (length a) 128) (start_reply (eqb (length r) region_size) (setting_of k)) r a).lent
    region = rw (← start_replies k r) d.lent

    go : (b sized : Bool) (o : Option WriteReflog) → 0 ≡ (chosen b (start_reply sized o) r a).code → r' ∷ [] ≡ (chosen b (start_reply sized o) r a).lent
        → (t : Store) × (decode r' ≡ Some t) × Reached t
    go false sized o e f = absurd (omega arith)
    go true false o e f = absurd (omega arith)
    go true true None e f = absurd (omega arith)
    go true true (Some setting) e f = reached_image r' (empty setting) (begun setting) (only r' (image (empty setting)) f)

-- ---- start with a record

-- it comes to a refusal, or to an empty store
record_replies : (P : Reply → Type 0) (bytes r : List ℕ) → ((x : Refusal) → P (refused x)) → ((setting : WriteReflog) → P (done (empty setting) nothing))
    → P (reply_to_record bytes r)
unfolding reply_to_record step started
record_replies P bytes r f g = go (eqb (length r) region_size) (read 2 bytes)
  where
    known : (o : Option WriteReflog) → P (or_refuse Malformed o >>= λ setting. done (empty setting) nothing)
    known None = f Malformed
    known (Some setting) = g setting

    go : (b : Bool) (o : Result Settings Refusal) → P (start_from o (cond b (Some (empty Disable)) None))
    go false (Err x) = f BadRegion
    go false (Ok settings) = f BadRegion
    go true (Err x) = f x
    go true (Ok settings) = known (setting_of settings.log)

pub start_unchanged : StartUnchanged
unfolding start_call out_of answer_of
start_unchanged bytes r a n a' lent d not_done =
    record_replies (λ (reply : Reply). Kept (eqb (length a) 128) reply) bytes r (λ x. same (eqb (length a) 128) x) (λ setting. new (eqb (length a) 128) setting) d.code d.lent
  where
    Kept : Bool → Reply → Type 0
    Kept b reply = n ≡ (chosen b reply r a).code → lent ≡ (chosen b reply r a).lent → lent ≡ r ∷ []

    same : (b : Bool) (x : Refusal) → Kept b (refused x)
    same false x e f = f
    same true x e f = f

    new : (b : Bool) (setting : WriteReflog) → Kept b (done (empty setting) nothing)
    new false setting e f = f
    new true setting e f = absurd (not_done e)

-- a refusal's number is not that of done
pub refusal_number : (x : Refusal) → 0 ≡ (refusal_answer x).number → ⊥
unfolding refusal_answer
refusal_number BadRegion e = omega arith
refusal_number Malformed e = omega arith
refusal_number (NotRegistered n) e = omega arith
refusal_number ReferenceCycle e = omega arith
refusal_number TooManyRows e = omega arith
refusal_number (MultipleEdits n) e = omega arith
refusal_number PackedTransactionAcquire e = omega arith
refusal_number (LockAcquire n) e = omega arith
refusal_number (DeleteReferenceMustExist n) e = omega arith
refusal_number (MustNotExist n t u) e = omega arith
refusal_number (MustExist n t) e = omega arith
refusal_number (ReferenceOutOfDate n t u) e = omega arith
refusal_number (DeleteMustNotExist n) e = omega arith
refusal_number LogFull e = omega arith
refusal_number WrongState e = omega arith
refusal_number BadName e = omega arith
refusal_number NamesFull e = omega arith
refusal_number WrongLock e = omega arith
refusal_number BadLoad e = omega arith
refusal_number NothingThere e = omega arith
refusal_number MalformedRecord e = omega arith
refusal_number UnknownVersion e = omega arith
refusal_number (NameConflict n) e = omega arith
refusal_number ReceiverFull e = omega arith
refusal_number (MalformedLine i) e = omega arith
refusal_number TextTooLong e = omega arith
refusal_number ShortBuffer e = omega arith

abbrev Held : List ℕ → Type 0
Held r = (t : Store) × (decode r ≡ Some t) × Reached t

-- a region that held a reached store, or one that was started, holds one
starts_with : (bytes r a : List ℕ) (n : ℕ) (a' r' : List ℕ) → Did (start_call bytes r a) n a' (r' ∷ []) → ((n ≡ 0 → ⊥) → Held r) → Held r'
unfolding start_call out_of answer_of
starts_with bytes r a n a' r' d before =
    record_replies (λ (reply : Reply). Ends (eqb (length a) 128) reply) bytes r (λ x. same (eqb (length a) 128) x) (λ setting. new (eqb (length a) 128) setting) d.code d.lent
  where
    Ends : Bool → Reply → Type 0
    Ends b reply = n ≡ (chosen b reply r a).code → r' ∷ [] ≡ (chosen b reply r a).lent → Held r'

    still : (n ≡ 0 → ⊥) → r' ∷ [] ≡ r ∷ [] → Held r'
    still h f = subst Held (sym (only r' r f)) (before h)

    same : (b : Bool) (x : Refusal) → Ends b (refused x)
    same false x e f = still (λ q. omega arith) f
    same true x e f = still (λ q. refusal_number x (sym q ∙ e)) f

    new : (b : Bool) (setting : WriteReflog) → Ends b (done (empty setting) nothing)
    new false setting e f = still (λ q. omega arith) f
    new true setting e f = reached_image r' (empty setting) (begun setting) (only r' (image (empty setting)) f)

-- ---- closing a receiver

-- of two lent buffers, what holds of the list holds of the first
first : (r r' b b' : List ℕ) → r ∷ b ∷ [] ≡ r' ∷ b' ∷ [] → r ≡ r'
first r r' b b' e = cc

-- the record's size decides
abbrev closed_by : Bool → Reply → List ℕ → List ℕ → List ℕ → Out
unfolding out_of
closed_by t reply r b a = cond t (beside (out_of reply r) (closed b)) (untouched a (r ∷ b ∷ []))

-- it comes to a refusal, or to a prepared store
closing_replies : (P : Reply → Type 0) (b : List ℕ) (mode : ℕ) (r : List ℕ) → ((x : Refusal) → P (refused x))
    → ((s : Store) (given : Given) → P (done s given)) → P (reply_to_closing b mode r)
unfolding reply_to_closing closing reply_to step rows_prepared
closing_replies P b mode r f g = go (is_receiver b)
  where
    judged : (s : Store) (o : Result Prepared Refusal) → P (o >>= λ p. done (holds p s) (number (length p.rows)))
    judged s (Err x) = f x
    judged s (Ok p) = g (holds p s) (number (length p.rows))

    called : (o : Option Store) → P (step_on (prepare (held b) mode) o)
    called None = f BadRegion
    called (Some s) = judged s (rows_for (held b) mode s)

    go : (t : Bool) → P (reply_or (cond t (Ok (prepare (held b) mode)) (Err BadRegion)) r)
    go false = f BadRegion
    go true = called (decode r)

pub close_unchanged : CloseUnchanged
unfolding close_call out_of answer_of
close_unchanged mode r b a n a' r' b' d not_done =
    closing_replies (λ (reply : Reply). Stays (eqb (length a) 128) reply) b mode r (λ x. same (eqb (length a) 128) x) (λ s given. new (eqb (length a) 128) s given) d.code d.lent
  where
    Stays : Bool → Reply → Type 0
    Stays t reply = n ≡ (closed_by t reply r b a).code → r' ∷ b' ∷ [] ≡ (closed_by t reply r b a).lent → r' ≡ r

    same : (t : Bool) (x : Refusal) → Stays t (refused x)
    same false x e f = first r' r b' b f
    same true x e f = first r' r b' (closed b) f

    new : (t : Bool) (s : Store) (given : Given) → Stays t (done s given)
    new false s given e f = first r' r b' b f
    new true s given e f = absurd (not_done e)

-- what closing calls goes on as any call does
closes_on : (mode : ℕ) (r b a : List ℕ) (n : ℕ) (a' r' b' : List ℕ) → Held r → Did (close_call mode r b a) n a' (r' ∷ b' ∷ []) → Held r'
unfolding close_call reply_to_closing out_of
closes_on mode r b a n a' r' b' (s, e, reached) d = go (eqb (length a) 128) (closing b mode) d.lent
  where
    still : (c : List ℕ) → r' ∷ b' ∷ [] ≡ r ∷ c ∷ [] → Held r'
    still c f = (s, ap decode (first r' r b' c f) ∙ e, reached)

    go : (t : Bool) (o : Result Call Refusal) → r' ∷ b' ∷ [] ≡ (closed_by t (reply_or o r) r b a).lent → Held r'
    go false o f = still b f
    go true (Err x) f = still (closed b) f
    go true (Ok c) f =
        reached_image r' (leaves (step c s) s) (after reached c)
        (first r' (region_after (reply_to c r) r) b' (closed b) f
        ∙ ap (λ (reply : Reply). region_after reply r) (replies_to c r s e)
        ∙ left_image (step c s) r s (sym (decoded r s e).1))

-- ---- writing the packed table's text

-- of two lent buffers, what holds of the list holds of the second
pub second : (r r' b b' : List ℕ) → r ∷ b ∷ [] ≡ r' ∷ b' ∷ [] → b ≡ b'
second r r' b b' e = cc

-- the record's size decides
abbrev written_by : Bool → Reply → List ℕ → List ℕ → List ℕ → Out
unfolding out_of
written_by t reply r b a = cond t (beside (out_of reply r) (buffer_after reply b)) (untouched a (r ∷ b ∷ []))

-- it comes to a refusal, or to the text of the store that is there
writing_replies : (P : Reply → Type 0) (b r : List ℕ) → ((x : Refusal) → P (refused x))
    → ((s : Store) → decode r ≡ Some s → P (done s (written (packed_text s)))) → P (reply_to_writing b r)
unfolding reply_to_writing reply_to step text_written
writing_replies P b r f g = go (decode r) refl
  where
    wrote : (s : Store) → decode r ≡ Some s → (t : Bool) → P (refuse_if t TextTooLong >> done s (written (packed_text s)))
    wrote s e true = f TextTooLong
    wrote s e false = g s e

    go : (o : Option Store) → decode r ≡ o → P (step_on (write_packed (length b)) o)
    go None e = f BadRegion
    go (Some s) e = wrote s e (ltb (length b) (length (packed_text s)))

-- the region stays
pub writing_region : (b r : List ℕ) → region_after (reply_to_writing b r) r ≡ r
writing_region b r = writing_replies (λ (reply : Reply). region_after reply r ≡ r) b r (λ x. refl) (λ s e. (decoded r s e).1)

pub write_unchanged : WriteUnchanged
unfolding write_call out_of answer_of
write_unchanged r b a n a' r' b' d =
    writing_replies (λ (reply : Reply). Stays (eqb (length a) 128) reply) b r (λ x. same (eqb (length a) 128) x) (λ s e. new (eqb (length a) 128) s e) d.code d.lent
  where
    Stays : Bool → Reply → Type 0
    Stays t reply =
        n ≡ (written_by t reply r b a).code → r' ∷ b' ∷ [] ≡ (written_by t reply r b a).lent → (r' ≡ r) × ((n ≡ 0 → ⊥) → b' ≡ b)

    same : (t : Bool) (x : Refusal) → Stays t (refused x)
    same false x e f = (first r' r b' b f, λ h. second r' r b' b f)
    same true x e f = (first r' r b' b f, λ h. second r' r b' b f)

    new : (t : Bool) (s : Store) → decode r ≡ Some s → Stays t (done s (written (packed_text s)))
    new false s q e f = (first r' r b' b f, λ h. second r' r b' b f)
    new true s q e f = (first r' (image s) b' _ f ∙ (decoded r s q).1, λ h. absurd (h e))

writes_on : (r b a : List ℕ) (n : ℕ) (a' r' b' : List ℕ) → Held r → Did (write_call r b a) n a' (r' ∷ b' ∷ []) → Held r'
writes_on r b a n a' r' b' held d = subst Held (sym (write_unchanged r b a n a' r' b' d).0) held

-- ---- any calls

pub got_reached : GotReached
got_reached r (got·begun k r₀ a a' _ d) = starts k r₀ a a' r d
got_reached r (got·begun_with bytes r₀ a a' _ d) = starts_with bytes r₀ a 0 a' r d (λ h. absurd (h refl))
got_reached r (got·after {r = r₀} g c n a a' _ d) =
    let h = got_reached r₀ g in goes_on c r₀ a n a' r h.0 h.1 h.2 d
got_reached r (got·after_with {r = r₀} g bytes n a a' _ d) =
    let held = got_reached r₀ g in starts_with bytes r₀ a n a' r d (λ _. held)
got_reached r (got·after_closing {r = r₀} g mode n b a a' _ b' d) = closes_on mode r₀ b a n a' r b' (got_reached r₀ g) d
got_reached r (got·after_writing {r = r₀} g n b a a' _ b' d) = writes_on r₀ b a n a' r b' (got_reached r₀ g) d

-- ---- the lock calls

pub locks_as_before : LocksAsBefore
locks_as_before kind n r a s e l =
    let was = as_before kind n s in (
      does_step (place_lock kind n) r a s e l ∙ ap (λ (reply : Reply). out_of reply r) was.0,
      does_step (lift_lock kind n) r a s e l ∙ ap (λ (reply : Reply). out_of reply r) was.1,
    )
