-- What a codec gives of a whole table: an accepted stretch is the table of its elements, and a table of fitting elements is
-- accepted and holds them. And the codec of what is read partially. Passes on the laws of slots. Assumes nothing.
use Rattle.std.specs.Prelude.{Option, Some, None, unwrap_or}
use mathlib.Core.Path.{◌≡◌, refl, sym, ap, ◌∙◌, subst}
use mathlib.Core.List.{List}
use mathlib.Core.Bool.{true, false≢true}
use Prim.Native.Nat.{ℕ, ◌+◌, ◌*◌, ◌<◌, ◌≤◌}
use native.Mathlib.Omega.{arith}
use lib.ListN.{length, get_or}
use Rattle.word.specs.Be.{Bytes, cut}
use Rattle.word.specs.Table.{table, tabulate}
use Rattle.word.specs.Codec.{Codec, is_some, slot, ok_table, elements}
use Rattle.word.proofs.Table.{length_tabulate, get_d_tabulate, tabulate_get_d}
pub use Rattle.word.proofs.Slots.{slot_room, slot_end, slot_in, zeros_replicate, zeros_true, ok_below, ok_above}
pub use Rattle.word.proofs.Slots.{ok_table_none, ok_table_more, ok_table_false, ok_table_rest, true_ok_table, ok_table_held, ok_table_free}
pub use Rattle.word.proofs.Slots.{slots_table, table_slot, table_free, slot_form, slot_fits}
use Rattle.word.proofs.Column.{column_back, column_forth, column_part}

-- ---- the elements of a table

pub length_elements : {A : Type 0} (w : ℕ) (dec : List ℕ → A) (n base : ℕ) (r : List ℕ) → length (elements w dec n base r) ≡ n
unfolding elements
length_elements w dec n base r = length_tabulate n (λ i. dec (slot base w i r))

-- an element is what its slot decodes to
pub element : {A : Type 0} (w : ℕ) (dec : List ℕ → A) (n base : ℕ) (r : List ℕ) (i : ℕ) (d : A) → i < n
    → get_or (elements w dec n base r) i d ≡ dec (slot base w i r)
unfolding elements
element w dec n base r i d h = get_d_tabulate n (λ i. dec (slot base w i r)) i d h

module _ {A : Type 0} {Fits : A → Type 0} (C : Codec A Fits) (c n base : ℕ) (r : List ℕ) where
  -- an accepted stretch is the table of its elements, and these fit
  pub back : Bytes r → base + c * C.w ≤ length r → ok_table C.w C.test c n base r ≡ true
      → table c C.enc C.w (elements C.w C.dec n base r) ≡ cut base (c * C.w) r
  back b g ok =
      column_back C (λ x. x) (C.dec r) c n base r (elements C.w C.dec n base r) b g ok
      (length_elements C.w C.dec n base r) (λ i h. element C.w C.dec n base r i (C.dec r) h)

  pub back_fits : Bytes r → base + c * C.w ≤ length r → n ≤ c → ok_table C.w C.test c n base r ≡ true
      → (i : ℕ) (d : A) → i < n → Fits (get_or (elements C.w C.dec n base r) i d)
  back_fits b g k ok i d h =
      subst Fits (sym (element C.w C.dec n base r i d h)) (slot_fits C c n base r b g ok i (omega arith) h)

  -- a table of fitting elements is accepted, and holds those elements
  module _ (xs : List A) (d : A) (few : n ≡ length xs) (small : length xs ≤ c)
      (fits : (i : ℕ) → i < length xs → Fits (get_or xs i d))
      (is : cut base (c * C.w) r ≡ table c C.enc C.w xs) where
    pub forth : ok_table C.w C.test c n base r ≡ true
    forth = column_forth C (λ x. x) d c n base r xs few small fits is

    pub forth_elements : elements C.w C.dec n base r ≡ xs
    unfolding elements
    forth_elements =
        ap (λ (n : ℕ). tabulate n (λ i. C.dec (slot base C.w i r))) few
        ∙ tabulate_get_d xs d (λ i. C.dec (slot base C.w i r))
        (column_part C (λ x. x) d c n base r xs few small fits is)

-- ---- the codec of what is read partially

-- what was read, where something was
pub some_get_d : {A : Type 0} (o : Option A) (d : A) → is_some o ≡ true → o ≡ Some (unwrap_or o d)
some_get_d None d e = absurd (false≢true e)
some_get_d (Some x) d e = refl

-- `parse` reads an element, or nothing; d stands where nothing is read
module _ {A : Type 0} {Fits : A → Type 0} (w : ℕ) (enc : A → List ℕ) (parse : List ℕ → Option A) (d : A)
    (wide : (x : A) → length (enc x) ≡ w)
    (bytes : (x : A) → Fits x → Bytes (enc x))
    (parse-enc : (x : A) → Fits x → parse (enc x) ≡ Some x)
    (enc-parse : (r : List ℕ) (x : A) → parse r ≡ Some x → Bytes r → length r ≡ w → (enc x ≡ r) × Fits x) where
  unfoldable pub partly : Codec A Fits
  partly = record {
    w = w;
    enc = enc;
    dec = λ r. unwrap_or (parse r) d;
    test = λ r. is_some (parse r);
    wide = wide;
    bytes = bytes;
    dec_enc = λ x f. ap (λ (o : Option A). unwrap_or o d) (parse-enc x f);
    test_enc = λ x f. ap is_some (parse-enc x f);
    enc_dec = λ r b l t. (enc-parse r (unwrap_or (parse r) d) (some_get_d (parse r) d t) b l).0;
    fits_dec = λ r b l t. (enc-parse r (unwrap_or (parse r) d) (some_get_d (parse r) d t) b l).1;
  }
