-- The codec of a text of at most w bytes, over w. Assumes nothing.
use mathlib.Core.Path.{◌≡◌, refl, sym, ap, ap₂, ◌∙◌}
use mathlib.Core.List.{List, [], ◌∷◌, ◌++◌}
use mathlib.Core.Bool.{true}
use Prim.Native.Nat.{ℕ, ◌+◌, ◌-◌, ◌≤◌, ◌<◌}
use native.Mathlib.Omega.{arith}
use lib.ListN.{length, get_or, take, drop, replicate, length-replicate, length-append, length-take, length-drop, take-append-drop}
use lib.Seq.{take_at, drop_at, take_all, length-take-le}
use lib.Dec.{leb}
use borrow.Author.Tests.{leb-true, le-leb}
use Rattle.word.specs.Be.{Bytes}
use Rattle.word.specs.Be.Bytes.{more}
use Rattle.word.specs.Codec.{Codec, zeros}
use Rattle.word.specs.Text.{FineText, enc_text, dec_text, test_text}
use Rattle.word.proofs.Be.{bytes_append, bytes_cut, bytes_zeros}
use Rattle.word.proofs.Tests.{both_true, true_both}
use Rattle.word.proofs.Slots.{zeros_true, zeros_replicate}

module _ (w : ℕ) where
  pub length_text : (xs : List ℕ) → length (enc_text w xs) ≡ w + 1
  unfolding enc_text
  length_text xs =
      let h : length (take w xs) ≤ w = rw length-take (omega arith) in
      rw (length-append, length-replicate) (omega arith)

  -- the form of a text that is not cut
  pub text_form : (xs : List ℕ) → length xs ≤ w → enc_text w xs ≡ length xs ∷ (xs ++ replicate (w - length xs) 0)
  unfolding enc_text
  text_form xs h = rw (take_all w xs h)

  pub bytes_text : (xs : List ℕ) → w < 256 → FineText w xs → Bytes (enc_text w xs)
  bytes_text xs h f =
      let l : length xs ≤ w = f.short in
      rw (text_form xs l) (more {b = length xs} (omega arith) (bytes_append f.bytes (bytes_zeros (w - length xs))))

  -- what was written is read, and passes the test
  pub read_text_lem : (xs : List ℕ) → length xs ≤ w → dec_text (enc_text w xs) ≡ xs
  unfolding dec_text
  read_text_lem xs h = rw (text_form xs h) (take_at xs (replicate (w - length xs) 0) (length xs) refl)

  pub test_text_lem : (xs : List ℕ) → length xs ≤ w → test_text w (enc_text w xs) ≡ true
  unfolding test_text
  test_text_lem xs h =
      let z : zeros (drop (length xs) (xs ++ replicate (w - length xs) 0)) ≡ true =
      ap zeros (drop_at xs (replicate (w - length xs) 0) (length xs) refl) ∙ zeros_replicate (w - length xs) in
      rw (text_form xs h) (true_both (le-leb _ _ h) z)

  -- what was read is written, and is at most w bytes
  pub back_text : (r : List ℕ) → length r ≡ w + 1 → test_text w r ≡ true → enc_text w (dec_text r) ≡ r
  unfolding dec_text test_text
  back_text [] l t = absurd (omega arith)
  back_text (n ∷ r) l t =
      let s : (leb n w ≡ true) × (zeros (drop n r) ≡ true) = both_true _ _ t in
      let h : n ≤ w = leb-true n w s.0 in
      let k : length (take n r) ≡ n = length-take-le n r (omega arith) in
      let d : length (drop n r) ≡ w - n = rw length-drop (omega arith) in
      text_form (take n r) (rw k h)
      ∙ ap₂ (λ (a b : ℕ). a ∷ (take n r ++ replicate b 0)) k (ap (λ (m : ℕ). w - m) k ∙ sym d)
      ∙ ap (λ (t : List ℕ). n ∷ (take n r ++ t)) (sym (zeros_true (drop n r) s.1))
      ∙ ap (λ (t : List ℕ). n ∷ t) (take-append-drop n r)

  pub fine_text : (r : List ℕ) → Bytes r → test_text w r ≡ true → FineText w (dec_text r)
  unfolding dec_text test_text
  fine_text r b t =
      record {
        short = (let h : get_or r 0 0 ≤ w = leb-true _ _ (both_true _ _ t).0 in rw length-take (omega arith));
        bytes = bytes_cut 1 (get_or r 0 0) b;
      }

  unfoldable pub texts : w < 256 → Codec (List ℕ) (FineText w)
  texts small = record {
    w = w + 1;
    enc = enc_text w;
    dec = dec_text;
    test = test_text w;
    wide = length_text;
    bytes = λ xs f. bytes_text xs small f;
    dec_enc = λ xs f. read_text_lem xs f.short;
    test_enc = λ xs f. test_text_lem xs f.short;
    enc_dec = λ r b l t. back_text r l t;
    fits_dec = λ r b l t. fine_text r b t;
  }
