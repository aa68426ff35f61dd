-- What a call answers, by the verdict of the function below it. Assumes nothing.
use Rattle.std.specs.Prelude.{Result}
use mathlib.Core.Path.{◌≡◌, refl, sym, ap, ap₂, ◌∙◌}
use mathlib.Core.List.{List, [], ◌∷◌}
use Prim.Native.Nat.{ℕ}
use lib.ListN.{length}
use borrow.Author.Tests.{eq-eqb, ne_eqb}
use Rattle.model.specs.declared.Refusal.{Refusal}
use Rattle.model.specs.Reply.{Call, Reply}
use Rattle.model.specs.Numbers.{Answer}
use Rattle.answers.specs.declared.Verdict.{Verdict}
use Rattle.answers.specs.Answers.{record_of, answered}
use Rattle.receiver.specs.Receiver.{closed}
use Rattle.calls.specs.Call.{reply_to, reply_to_record, reply_to_closing, Out, out_of, recorded, replied, call, start_call, beside, close_call, buffer_after, reply_to_writing, write_call, Kept, kept_out, kept_call, Did, Replied, Closed, Wrote, Keeps}
use Rattle.calls.proofs.Exports.{writing_region}
use Rattle.records.specs.Record.{RecordCall, kept, record_call}
use Rattle.receiving.specs.Fragments.{ReceiverCall, received, receiver_call}

-- ---- whatever is to come out

-- an answer record of another size
small : (o : Out) (lent : List (List ℕ)) (a : List ℕ) → (length a ≡ 128 → ⊥) → Did (recorded o lent a) 1 a lent
small o lent a h = rw (ne_eqb (length a) 128 h) (record { code = refl; answer = refl; lent = refl })

-- the number and the record are those of the answer x, and the buffers are as they are to be
filled : (o : Out) (x : Answer) (lent lent' : List (List ℕ)) (a a' : List ℕ) (v : Result Verdict Refusal) (n : ℕ) → length a ≡ 128 → answered v ≡ x → lent' ≡ o.lent
    → x.number ≡ o.code → record_of x.places ≡ o.answer → (n ≡ (answered v).number) × (a' ≡ record_of (answered v).places)
    → Did (recorded o lent a) n a' lent'
filled o x lent lent' a a' v n l e s c d f =
    rw (eq-eqb (length a) 128 l)
    (record {
      code = f.0 ∙ ap (λ (x : Answer). x.number) e ∙ c;
      answer = f.1 ∙ ap (λ (x : Answer). record_of x.places) e ∙ d;
      lent = s;
    })

-- ---- any reply of a region

replies : (reply : Reply) (r r' a a' : List ℕ) (v : Result Verdict Refusal) (n : ℕ) → length a ≡ 128 → Replied v r r' reply
    → (n ≡ (answered v).number) × (a' ≡ record_of (answered v).places) → Did (replied reply r a) n a' (r' ∷ [])
unfolding out_of
replies reply r r' a a' v n l d f =
    filled (out_of reply r) _ (r ∷ []) (r' ∷ []) a a' v n l d.answer (ap (λ (r : List ℕ). r ∷ []) d.region) refl refl f

-- ---- a call: with an answer record of another size, and with the model's reply

pub small_record : (c : Call) (r a : List ℕ) → (length a ≡ 128 → ⊥) → Did (call c r a) 1 a (r ∷ [])
unfolding call
small_record c r a h = small (out_of (reply_to c r) r) (r ∷ []) a h

pub finished : (c : Call) (r r' a a' : List ℕ) (v : Result Verdict Refusal) (n : ℕ) → length a ≡ 128 → Replied v r r' (reply_to c r)
    → (n ≡ (answered v).number) × (a' ≡ record_of (answered v).places) → Did (call c r a) n a' (r' ∷ [])
unfolding call
finished c r r' a a' v n l d f = replies (reply_to c r) r r' a a' v n l d f

-- ---- the same of start with a settings record

pub small_start : (bytes r a : List ℕ) → (length a ≡ 128 → ⊥) → Did (start_call bytes r a) 1 a (r ∷ [])
unfolding start_call
small_start bytes r a h = small (out_of (reply_to_record bytes r) r) (r ∷ []) a h

pub finished_start : (bytes r r' a a' : List ℕ) (v : Result Verdict Refusal) (n : ℕ) → length a ≡ 128 → Replied v r r' (reply_to_record bytes r)
    → (n ≡ (answered v).number) × (a' ≡ record_of (answered v).places) → Did (start_call bytes r a) n a' (r' ∷ [])
unfolding start_call
finished_start bytes r r' a a' v n l d f = replies (reply_to_record bytes r) r r' a a' v n l d f

-- ---- of closing a receiver, which is lent beside the region

pub small_closing : (mode : ℕ) (r b a : List ℕ) → (length a ≡ 128 → ⊥) → Did (close_call mode r b a) 1 a (r ∷ b ∷ [])
unfolding close_call
small_closing mode r b a h = small (beside (out_of (reply_to_closing b mode r) r) (closed b)) (r ∷ b ∷ []) a h

pub finished_closing : (mode : ℕ) (r r' b b' a a' : List ℕ) (v : Result Verdict Refusal) (n : ℕ) → length a ≡ 128
    → Closed v r r' b b' mode
    → (n ≡ (answered v).number) × (a' ≡ record_of (answered v).places) → Did (close_call mode r b a) n a' (r' ∷ b' ∷ [])
unfolding close_call out_of
finished_closing mode r r' b b' a a' v n l d f =
    filled (beside (out_of (reply_to_closing b mode r) r) (closed b)) _ (r ∷ b ∷ []) (r' ∷ b' ∷ []) a a' v n l d.answer
    (ap₂ (λ (r b : List ℕ). r ∷ b ∷ []) d.region d.receiver) refl refl f

-- ---- of writing the packed table's text, into a buffer that is lent beside the region

pub small_writing : (r b a : List ℕ) → (length a ≡ 128 → ⊥) → Did (write_call r b a) 1 a (r ∷ b ∷ [])
unfolding write_call
small_writing r b a h = small (beside (out_of (reply_to_writing b r) r) (buffer_after (reply_to_writing b r) b)) (r ∷ b ∷ []) a h

pub finished_writing : (r b b' a a' : List ℕ) (v : Result Verdict Refusal) (n : ℕ) → length a ≡ 128 → Wrote v r b b'
    → (n ≡ (answered v).number) × (a' ≡ record_of (answered v).places) → Did (write_call r b a) n a' (r ∷ b' ∷ [])
unfolding write_call out_of
finished_writing r b b' a a' v n l d f =
    filled (beside (out_of (reply_to_writing b r) r) (buffer_after (reply_to_writing b r) b)) _ (r ∷ b ∷ []) (r ∷ b' ∷ []) a a' v n l d.answer
    (ap₂ (λ (r b : List ℕ). r ∷ b ∷ []) (sym (writing_region b r)) d.buffer) refl refl f

-- ---- of any call on one buffer that is no region

small_kept : (k : Kept) (b a : List ℕ) → (length a ≡ 128 → ⊥) → Did (kept_call k b a) 1 a (b ∷ [])
small_kept k b a h = small (kept_out k) (b ∷ []) a h

finished_kept : (k : Kept) (b b' a a' : List ℕ) (v : Result Verdict Refusal) (n : ℕ) → length a ≡ 128 → Keeps v b' k
    → (n ≡ (answered v).number) × (a' ≡ record_of (answered v).places) → Did (kept_call k b a) n a' (b' ∷ [])
finished_kept k b b' a a' v n l d f =
    filled (kept_out k) _ (b ∷ []) (b' ∷ []) a a' v n l d.answer (ap (λ (b : List ℕ). b ∷ []) d.buffer) refl refl f

-- a settings record

pub small_settings : (c : RecordCall) (b a : List ℕ) → (length a ≡ 128 → ⊥) → Did (record_call c b a) 1 a (b ∷ [])
unfolding record_call
small_settings c b a h = small_kept (kept c b) b a h

pub finished_settings : (c : RecordCall) (b b' a a' : List ℕ) (v : Result Verdict Refusal) (n : ℕ) → length a ≡ 128 → Keeps v b' (kept c b)
    → (n ≡ (answered v).number) × (a' ≡ record_of (answered v).places) → Did (record_call c b a) n a' (b' ∷ [])
unfolding record_call
finished_settings c b b' a a' v n l d f = finished_kept (kept c b) b b' a a' v n l d f

-- a receiver

pub small_receiver : (c : ReceiverCall) (b a : List ℕ) → (length a ≡ 128 → ⊥) → Did (receiver_call c b a) 1 a (b ∷ [])
unfolding receiver_call
small_receiver c b a h = small_kept (received c b) b a h

pub finished_receiver : (c : ReceiverCall) (b b' a a' : List ℕ) (v : Result Verdict Refusal) (n : ℕ) → length a ≡ 128 → Keeps v b' (received c b)
    → (n ≡ (answered v).number) × (a' ≡ record_of (answered v).places) → Did (receiver_call c b a) n a' (b' ∷ [])
unfolding receiver_call
finished_receiver c b b' a a' v n l d f = finished_kept (received c b) b b' a a' v n l d f
