-- A column: a table that holds one part of each element. Assumes nothing.
use mathlib.Core.Path.{◌≡◌, sym, ap, ◌∙◌}
use mathlib.Core.List.{List}
use mathlib.Core.Bool.{true}
use Prim.Native.Nat.{ℕ, ◌+◌, ◌*◌, ◌<◌, ◌≤◌}
use native.Mathlib.Omega.{arith}
use lib.ListN.{length, get_or, set}
use Rattle.word.specs.Be.{Bytes, cut}
use Rattle.word.specs.Cut.{put}
use Rattle.word.specs.Table.{table}
use Rattle.word.specs.Codec.{Codec, slot, ok_table}
use Rattle.word.proofs.Table.{bytes_table, put_table, table_same}
use Rattle.word.proofs.Slots.{slots_table, table_slot, table_free, slot_form, ok_table_free, true_ok_table}

module _ {A B : Type 0} {Fits : B → Type 0} (C : Codec B Fits) (p : A → B) where
  module _ (d : A) (c n base : ℕ) (r : List ℕ) (xs : List A) where
    -- an accepted stretch is the column of the elements that have for their parts what the slots decode to
    pub column_back : Bytes r → base + c * C.w ≤ length r → ok_table C.w C.test c n base r ≡ true → length xs ≡ n
        → ((i : ℕ) → i < n → p (get_or xs i d) ≡ C.dec (slot base C.w i r))
        → table c (λ x. C.enc (p x)) C.w xs ≡ cut base (c * C.w) r
    column_back b g ok m q =
        slots_table C.w (λ x. C.enc (p x)) c base r xs d g
        (λ i h l. slot_form C c n base r b g ok i h (omega arith) ∙ ap C.enc (sym (q i (omega arith))))
        (λ i h l. ok_table_free C.w C.test c n base r ok i h g (omega arith))

    -- a column of fitting parts is accepted
    module _ (few : n ≡ length xs) (small : length xs ≤ c) (fits : (i : ℕ) → i < length xs → Fits (p (get_or xs i d)))
        (is : cut base (c * C.w) r ≡ table c (λ x. C.enc (p x)) C.w xs) where
      slot_is : (i : ℕ) → i < length xs → slot base C.w i r ≡ C.enc (p (get_or xs i d))
      slot_is i l = table_slot C.w (λ x. C.enc (p x)) c base r xs (λ x. C.wide (p x)) is i (omega arith) d l

      pub column_forth : ok_table C.w C.test c n base r ≡ true
      column_forth =
          true_ok_table C.w C.test c n base r
          (λ i h l. ap C.test (slot_is i (omega arith)) ∙ C.test_enc (p (get_or xs i d)) (fits i (omega arith)))
          (λ i h l. table_free C.w (λ x. C.enc (p x)) c base r xs (λ x. C.wide (p x)) is i h (omega arith))

      -- each slot decodes to the element's part
      pub column_part : (i : ℕ) → i < length xs → C.dec (slot base C.w i r) ≡ p (get_or xs i d)
      column_part i l = ap C.dec (slot_is i l) ∙ C.dec_enc (p (get_or xs i d)) (fits i l)

  -- a column of fitting parts is bytes
  pub column_bytes : (d : A) (c : ℕ) (xs : List A) → ((i : ℕ) → i < length xs → Fits (p (get_or xs i d)))
      → Bytes (table c (λ x. C.enc (p x)) C.w xs)
  column_bytes d c xs fits = bytes_table C.w (λ x. C.enc (p x)) c xs d (λ i l. C.bytes (p (get_or xs i d)) (fits i l))

  -- a part written is an element set that has this part
  pub column_put : (c i : ℕ) (xs : List A) (y : A) (b : B) → p y ≡ b → i < c → i < length xs
      → put (i * C.w) C.w (table c (λ x. C.enc (p x)) C.w xs) (C.enc b) ≡ table c (λ x. C.enc (p x)) C.w (set xs i y)
  column_put c i xs y b e h l =
      ap (λ (v : B). put (i * C.w) C.w (table c (λ x. C.enc (p x)) C.w xs) (C.enc v)) (sym e)
      ∙ put_table C.w (λ x. C.enc (p x)) (λ x. C.wide (p x)) c i xs y h l

  -- an element set that has the old one's part leaves the column
  pub column_same : (c i : ℕ) (xs : List A) (y d : A) → p y ≡ p (get_or xs i d)
      → table c (λ x. C.enc (p x)) C.w (set xs i y) ≡ table c (λ x. C.enc (p x)) C.w xs
  column_same c i xs y d e = table_same C.w (λ x. C.enc (p x)) c i xs y d (ap C.enc e)
