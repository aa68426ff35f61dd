-- Writing the text: what each way out answers, and leaves in the buffer. Assumes nothing.
use mathlib.Core.Path.{◌≡◌, refl, sym, ap, ap₂, subst, ◌∙◌}
use mathlib.Core.Bool.{Bool, true, false, not}
use mathlib.Core.List.{List, [], ◌∷◌, ◌++◌}
use Prim.Native.Nat.{ℕ, ◌+◌, ◌≤◌, ◌<◌}
use native.Mathlib.Omega.{arith}
use lib.ListN.{length, drop}
use borrow.Author.Tests.{not-true, not-false}
use Rattle.std.specs.Prelude.{Result, Ok, Err}
use Rattle.model.specs.declared.Refusal.{Refusal}
use Rattle.model.specs.declared.Refusal.TheVariants.{BadRegion, TextTooLong}
use Rattle.model.specs.Basic.{collect}
use Rattle.model.specs.Store.{Store}
use Rattle.model.specs.Reply.{Reply}
use Rattle.model.specs.Reply.Call.{write_packed}
use Rattle.model.specs.Reply.Reply.{done, refused}
use Rattle.model.specs.Reply.Given.{written}
use Rattle.model.specs.PackedText.{ref_line, packed_table, packed_text}
use Rattle.model.specs.Texts.{lengths}
use Rattle.model.specs.Numbers.{answer, answer_of}
use Rattle.model.proofs.Texts.{text_length}
use Rattle.ordering.specs.Order.{first_at, Ordered}
use Rattle.region.specs.Region.{view, good, name_offset}
use Rattle.region.proofs.Decode.{decode_bad}
use Rattle.answers.specs.declared.Verdict.{Verdict}
use Rattle.answers.specs.Answers.{answer_by, answered, is_apart}
use Rattle.answers.proofs.Apart.{ends}
use Rattle.calls.specs.Call.{step_on, reply_to, reply_to_writing, buffer_after, Wrote}
use Rattle.calls.proofs.Replies.{replies}
use Rattle.calls.proofs.Texts.{text_fits, text_short}

-- ---- the numbers in order stand for the table

module _ (s : Store) (numbers : List ℕ) (held : ℕ) (o : Ordered s 0 numbers held) where
  table : first_at s held numbers ≡ packed_table s
  unfolding packed_table
  table = o.sorts

  pub ordered_few : held ≤ 256
  ordered_few = let f : held + 0 ≤ 256 = o.few in omega arith

  pub ordered_there : held ≤ length numbers
  ordered_there =
      let f : held + 0 ≤ 256 = o.few in
      let l : length numbers ≡ 256 = o.size in
      omega arith

  length_is : lengths (first_at s held numbers) ≡ length (packed_text s)
  length_is = ap lengths table ∙ sym (text_length s)

  text_is : collect ref_line (first_at s held numbers) ≡ packed_text s
  unfolding packed_text
  text_is = ap (collect ref_line) table

-- ---- each way out

-- writing comes to this reply, and leaves this buffer
wrote_so : (v : Result Verdict Refusal) (r b b' : List ℕ) (reply : Reply) → reply_to_writing b r ≡ reply → answered v ≡ answer_of name_offset reply → is_apart v ≡ true
    → b' ≡ buffer_after reply b
    → Wrote v r b b'
wrote_so v r b b' reply e a p q = record {
  answer = a ∙ ap (answer_of name_offset) (sym e);
  apart = p;
  buffer = q ∙ ap (λ (x : Reply). buffer_after x b) (sym e);
}

module _ (r b : List ℕ) (ok : Bool) (is : ok ≡ good r) where
  pub write_bad : not ok ≡ true → Wrote (Err BadRegion) r b b
  unfolding reply_to_writing reply_to answer_of
  write_bad n = wrote_so (Err BadRegion) r b b (refused BadRegion) (ap (step_on (write_packed (length b))) (decode_bad r (sym is ∙ not-true ok n))) refl refl refl

  module _ (y : not ok ≡ false) where
    pub write_good : good r ≡ true
    write_good = sym is ∙ not-false ok y

    module _ (numbers : List ℕ) (held : ℕ) (o : Ordered (view r) 0 numbers held) (n : ℕ) (e : n ≡ lengths (first_at (view r) held numbers)) where
      is_length : n ≡ length (packed_text (view r))
      is_length = e ∙ length_is (view r) numbers held o

      pub write_short : length b < n → Wrote (Err TextTooLong) r b b
      unfolding reply_to_writing answer_of
      write_short h =
          wrote_so (Err TextTooLong) r b b (refused TextTooLong)
          (replies (write_packed (length b)) r ok is refl y ∙ text_short (view r) b (subst (λ (k : ℕ). length b < k) is_length h)) refl refl refl

      pub write_room : n ≤ length b → lengths (first_at (view r) held numbers) ≤ length b
      write_room h = subst (λ (k : ℕ). k ≤ length b) e h

      pub write_done : (v : Verdict) (b' : List ℕ) → n ≤ length b
          → b' ≡ collect ref_line (first_at (view r) held numbers) ++ drop (lengths (first_at (view r) held numbers)) b
          → answer_by v ≡ answer 0 (n ∷ []) → Wrote (Ok v) r b b'
      unfolding reply_to_writing answer_of
      write_done v b' h q a =
          wrote_so (Ok v) r b b' (done (view r) (written (packed_text (view r))))
          (replies (write_packed (length b)) r ok is refl y ∙ text_fits (view r) b (subst (λ (k : ℕ). k ≤ length b) is_length h))
          (a ∙ ap (λ (k : ℕ). answer 0 (k ∷ [])) is_length)
          (ends v _ refl a)
          (q ∙ ap₂ (λ (t : List ℕ) (k : ℕ). t ++ drop k b) (text_is (view r) numbers held o) (length_is (view r) numbers held o))
