-- What specs/Exports.antt states of the packed table's text in a caller's hands, proved. Assumes nothing.
use Rattle.std.specs.Prelude.{Some}
use mathlib.Core.Path.{◌≡◌, refl, sym, ap, subst, ◌∙◌}
use mathlib.Core.Bool.{false}
use mathlib.Core.List.{List, [], ◌∷◌, ◌++◌}
use Prim.Native.Nat.{ℕ, ◌≤◌, ◌<◌}
use native.Mathlib.Omega.{arith}
use lib.ListN.{length, take, drop}
use lib.Seq.{take-append_seam, drop-append_seam}
use borrow.Author.Tests.{eq-eqb, lt-ltb, le-ltb}
use Rattle.model.specs.declared.Refusal.TheVariants.{TextTooLong}
use Rattle.model.specs.Store.{Store, is_prepared}
use Rattle.model.specs.Commit.Stop.{no_committer, used_up}
use Rattle.model.specs.Reply.{Call, Reply, Given}
use Rattle.model.specs.Reply.Call.{write_packed, read_packed}
use Rattle.model.specs.Reply.Reply.{done, stopped, refused}
use Rattle.model.specs.Reply.Given.{number, written}
use Rattle.model.specs.PackedText.{packed_table, packed_text}
use Rattle.model.specs.Calls.{step, text_written}
use Rattle.model.specs.Numbers.{answer_of, refusal_answer}
use Rattle.model.specs.Fine.{Fine}
use Rattle.model.specs.Reached.{Reached, leaves}
use Rattle.model.proofs.Binds.{some_is}
use Rattle.model.proofs.Kept.{kept}
use Rattle.model.proofs.Texts.{same_table, same_store, same_text}
use Rattle.region.specs.Region.{image, decode}
use Rattle.region.proofs.Decode.{decoded, decode_image}
use Rattle.calls.specs.Call.{Out, out_of, call, beside, buffer_after, reply_to_writing, write_call, Did}
use Rattle.calls.specs.Exports.{Got, WritesText, ReadsText, WrittenThenRead, ReadThenWritten}
use Rattle.calls.proofs.Exports.{refusal_number, only, replies_to, second, does_step, step_image, write_unchanged, got_reached}

-- ---- writing

module _ (s : Store) (b : List ℕ) where
  pub text_fits : length (packed_text s) ≤ length b → step (write_packed (length b)) s ≡ done s (written (packed_text s))
  unfolding step text_written
  text_fits h = rw (le-ltb (length b) (length (packed_text s)) h)

  pub text_short : length b < length (packed_text s) → step (write_packed (length b)) s ≡ refused TextTooLong
  unfolding step text_written
  text_short h = rw (lt-ltb (length b) (length (packed_text s)) h)

-- with a record of 128 bytes it comes to this
written_as : (r b a : List ℕ) (s : Store) (reply : Reply) → decode r ≡ Some s → length a ≡ 128 → step (write_packed (length b)) s ≡ reply
    → write_call r b a ≡ beside (out_of reply r) (buffer_after reply b)
unfolding write_call reply_to_writing
written_as r b a s reply e l q =
    rw (eq-eqb (length a) 128 l)
    (ap (λ (x : Reply). beside (out_of x r) (buffer_after x b)) (replies_to (write_packed (length b)) r s e ∙ q))

module _ (r b a : List ℕ) (s : Store) (n : ℕ) (a' r' b' : List ℕ) (e : decode r ≡ Some s) (l : length a ≡ 128) (d : Did (write_call r b a) n a' (r' ∷ b' ∷ [])) where
  comes : (reply : Reply) → step (write_packed (length b)) s ≡ reply → Did (beside (out_of reply r) (buffer_after reply b)) n a' (r' ∷ b' ∷ [])
  comes reply q = subst (λ (o : Out). Did o n a' (r' ∷ b' ∷ [])) (written_as r b a s reply e l q) d

  fits : length (packed_text s) ≤ length b
      → (n ≡ 0) × (take (length (packed_text s)) b' ≡ packed_text s) × (drop (length (packed_text s)) b' ≡ drop (length (packed_text s)) b)
  unfolding out_of answer_of
  fits h =
      let t : List ℕ = packed_text s in
      let x = comes (done s (written t)) (text_fits s b h) in
      let q : b' ≡ t ++ drop (length t) b = second r' (image s) b' (t ++ drop (length t) b) x.lent in
      (x.code, ap (take (length t)) q ∙ take-append_seam t (drop (length t) b), ap (drop (length t)) q ∙ drop-append_seam t (drop (length t) b))

  short : length b < length (packed_text s) → (n ≡ 32) × (b' ≡ b)
  unfolding out_of answer_of refusal_answer
  short h = let x = comes (refused TextTooLong) (text_short s b h) in (x.code, second r' r b' b x.lent)

pub writes_text : WritesText
writes_text r b a s n a' r' b' e l d = (fits r b a s n a' r' b' e l d, short r b a s n a' r' b' e l d)

-- ---- reading

-- a call that returns 0 is done
done_code : (reply : Reply) (r : List ℕ) → 0 ≡ (out_of reply r).code → (u : Store) × ((g : Given) × (reply ≡ done u g))
unfolding out_of answer_of
done_code (done u g) r e = (u, (g, refl))
done_code (stopped no_committer s made) r e = absurd (omega arith)
done_code (stopped used_up s made) r e = absurd (omega arith)
done_code (refused x) r e = absurd (refusal_number x e)

-- what a call that returns 0 did, and the store in the region that it leaves
pub record Does (c : Call) (s : Store) (r' : List ℕ) : Type 0 where
  pub store : Store
  pub given : Given
  pub steps : step c s ≡ done store given
  pub holds : decode r' ≡ Some store

does : (c : Call) (r a : List ℕ) (s : Store) (a' r' : List ℕ) → decode r ≡ Some s → length a ≡ 128 → Did (call c r a) 0 a' (r' ∷ [])
    → Does c s r'
does c r a s a' r' e l d =
    let o : call c r a ≡ out_of (step c s) r = does_step c r a s e l in
    let x = done_code (step c s) r (d.code ∙ ap (λ (o : Out). o.code) o) in
    let i : r' ≡ image (leaves (step c s) s) = step_image c r r' s e (d.lent ∙ ap (λ (o : Out). o.lent) o) in
    let f : Fine (leaves (step c s) s) = kept s (decoded r s e).0 c in
    let u : leaves (step c s) s ≡ x.0 = ap (λ (reply : Reply). leaves reply s) x.1.1 in
    record {
      store = x.0;
      given = x.1.0;
      steps = x.1.1;
      holds = ap decode i ∙ decode_image (leaves (step c s) s) f ∙ ap Some u;
    }

pub reads_text : ReadsText
reads_text r a s a' r' t e h l d =
    let x = does (read_packed (packed_text t)) r a s a' r' e l d in
    (x.store, x.holds, same_table t h s x.store x.given x.steps)

-- ---- there and back

-- the text of the store that is there is taken, and leaves the region
taken : (r c : List ℕ) (s : Store) (m : ℕ) (c₁ r₂ : List ℕ) → Got r → decode r ≡ Some s → is_prepared s.prepared ≡ false → length c ≡ 128
    → Did (call (read_packed (packed_text s)) r c) m c₁ (r₂ ∷ [])
    → (m ≡ 0) × (r₂ ≡ r)
unfolding out_of answer_of
taken r c s m c₁ r₂ g e p l d =
    let x = got_reached r g in
    let h : Reached s = subst Reached (some_is (sym x.1 ∙ e)) x.2 in
    let q : step (read_packed (packed_text s)) s ≡ done s (number (length (packed_table s))) = same_store s h p in
    let o : call (read_packed (packed_text s)) r c ≡ out_of (done s (number (length (packed_table s)))) r =
    does_step (read_packed (packed_text s)) r c s e l ∙ ap (λ (reply : Reply). out_of reply r) q in
    (d.code ∙ ap (λ (o : Out). o.code) o, only r₂ (image s) (d.lent ∙ ap (λ (o : Out). o.lent) o) ∙ (decoded r s e).1)

pub written_then_read : WrittenThenRead
written_then_read r b a c s n a₁ r₁ b₁ m c₁ r₂ g e p l k fit w d =
    let t : take (length (packed_text s)) b₁ ≡ packed_text s = (fits r b a s n a₁ r₁ b₁ e l w fit).1 in
    let same : r₁ ≡ r = (write_unchanged r b a n a₁ r₁ b₁ w).0 in
    let text : Did (call (read_packed (packed_text s)) r₁ c) m c₁ (r₂ ∷ []) = subst (λ (z : List ℕ). Did (call (read_packed z) r₁ c) m c₁ (r₂ ∷ [])) t d in
    taken r c s m c₁ r₂ g e p k (subst (λ (z : List ℕ). Did (call (read_packed (packed_text s)) z c) m c₁ (r₂ ∷ [])) same text)

pub read_then_written : ReadThenWritten
read_then_written t r b a c s a₁ r₁ n c₁ r₂ b₁ p e l k d fit w =
    let x = does (read_packed t) r a s a₁ r₁ e l d in
    let q : packed_text x.store ≡ t = same_text t p s x.store x.given x.steps in
    let y = fits r₁ b c x.store n c₁ r₂ b₁ x.holds k w (subst (λ (z : List ℕ). length z ≤ length b) (sym q) fit) in
    (y.0, subst (λ (z : List ℕ). take (length z) b₁ ≡ z) q y.1)
