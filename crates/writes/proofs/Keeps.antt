-- Each write leaves the places behind it as they are. Assumes nothing.
use mathlib.Core.Path.{◌≡◌, refl, sym, ap, ◌∙◌}
use mathlib.Core.Bool.{Bool, true, false, not, false≢true}
use mathlib.Core.List.{List, [], ◌∷◌, ◌++◌}
use Prim.Native.Nat.{ℕ, suc, ◌+◌, ◌≤◌, ◌<◌}
use native.Mathlib.Omega.{arith}
use lib.ListN.{length}
use lib.Dec.{eqb}
use borrow.Author.Tests.{eqb-true, eqb-false}
use Rattle.target.specs.declared.NameNumber.{NameNumber}
use Rattle.transaction.specs.Change.{is_delete}
use Rattle.model.specs.declared.Loose.{Loose}
use Rattle.model.specs.declared.Line.{Line}
use Rattle.model.specs.Basic.{select}
use Rattle.model.specs.Store.{Store, is_of, put_loose, change_entry, with_entries, with_lines}
use Rattle.model.specs.Rows.{name_in, change_in, is_direct}
use Rattle.model.specs.Due.{Stamp, has_lines}
use Rattle.model.specs.Writes.{PackedEdit, apply_packed, w2, w4}
use Rattle.writes.specs.Next.{rows_of, mode_of, the_row}
use Rattle.writes.proofs.Stable.{Same, lines_loose, lines_w3, lines_w4, lines_due, lines_w2, update_w2, line_other, log_other, loose_due, loose_loose, loose_lines, loose_w2, loose_w3, loose_w4, still_w4, packed_w4}
use Rattle.rows.specs.Rows.{Apart}

module _ (stamp : Stamp) (s : Store) (a : Apart (rows_of s)) (k : ℕ) where
  -- W1, the line of row k
  pub keeps_line : (l : Line) → k < length (rows_of s) → l.name ≡ name_in (the_row s k) → is_delete (change_in (the_row s k)) ≡ false
      → Same stamp s (with_lines s (s.lines ++ (l ∷ []))) (suc k)
  keeps_line l h en d =
      record {
        rest = refl;
        lined = λ i m g. other i g (λ e. absurd (omega arith));
        logged = λ i m g e. other i g (λ q. deleted i e (sym q));
        due = λ i m g. lines_due s _ (the_row s i) (other i g (λ e. absurd (omega arith))) stamp;
        loose = λ i m g. lines_loose s _ (mode_of s) (the_row s i);
        two = λ i m g. two i g (eqb i k) refl;
        three = λ m. lines_w3 s _ (mode_of s) (rows_of s);
        four = λ i m g. lines_w4 s _ (mode_of s) (the_row s i);
      }
    where
      after : Store
      after = with_lines s (s.lines ++ (l ∷ []))

      other : (i : ℕ) → i < length (rows_of s) → (k ≡ i → ⊥) → has_lines after (name_in (the_row s i)) ≡ has_lines s (name_in (the_row s i))
      other i g q = line_other s (name_in (the_row s k)) (name_in (the_row s i)) (a.apart k i h g q) l (ap (λ (n : NameNumber). n.0) en)

      update : (i : ℕ) → i ≡ k → is_delete (change_in (the_row s i)) ≡ false
      update i e = ap (λ (j : ℕ). is_delete (change_in (the_row s j))) e ∙ d

      deleted : (i : ℕ) → is_delete (change_in (the_row s i)) ≡ true → i ≡ k → ⊥
      deleted i e q = false≢true (sym (update i q) ∙ e)

      two : (i : ℕ) → i < length (rows_of s) → (b : Bool) → eqb i k ≡ b → w2 after (the_row s i) ≡ w2 s (the_row s i)
      two i g true e = update_w2 _ (the_row s i) (update i (eqb-true i k e)) ∙ sym (update_w2 s (the_row s i) (update i (eqb-true i k e)))
      two i g false e = lines_w2 s _ (the_row s i) (other i g (λ q. eqb-false i k e (sym q)))

  -- W1, the loose value of row k, which is neither a deletion nor direct
  pub keeps_loose : (v : Loose) → k < length (rows_of s) → is_delete (change_in (the_row s k)) ≡ false → is_direct s (mode_of s) (the_row s k) ≡ false
      → Same stamp s (change_entry (put_loose v) (name_in (the_row s k)).0 s) (suc k)
  keeps_loose v h d p =
      record {
        rest = refl;
        lined = λ i m g. loose_lines s _ v (name_in (the_row s i));
        logged = λ i m g d. loose_lines s _ v (name_in (the_row s i));
        due = λ i m g. loose_due s _ v stamp (the_row s i);
        loose = λ i m g. loose_loose s _ v (mode_of s) (the_row s i);
        two = λ i m g. loose_w2 s _ v (the_row s i);
        three = λ m. loose_w3 s _ v (mode_of s) (rows_of s);
        four = four;
      }
    where
      four : (i : ℕ) → suc k ≤ length (rows_of s) + length (rows_of s) + 1 + i → i < length (rows_of s)
          → w4 (change_entry (put_loose v) (name_in (the_row s k)).0 s) (mode_of s) (the_row s i) ≡ w4 s (mode_of s) (the_row s i)
      four i m g = go (eqb i k) refl
        where
          go : (b : Bool) → eqb i k ≡ b → w4 (change_entry (put_loose v) (name_in (the_row s k)).0 s) (mode_of s) (the_row s i) ≡ w4 s (mode_of s) (the_row s i)
          go true e =
              still_w4 s _ v (mode_of s) (the_row s i)
              (ap (λ (j : ℕ). is_delete (change_in (the_row s j))) (eqb-true i k e) ∙ d)
              (ap (λ (j : ℕ). is_direct s (mode_of s) (the_row s j)) (eqb-true i k e) ∙ p)
          go false e = loose_w4 s _ v (mode_of s) (the_row s i) (a.apart k i h g (λ q. eqb-false i k e (sym q)))

  -- W2, the log of row j removed, at its place
  pub keeps_log : (j : ℕ) → j < length (rows_of s) → k ≡ length (rows_of s) + j
      → Same stamp s (with_lines s (select (λ l. not (is_of (name_in (the_row s j)) l)) s.lines)) (suc k)
  keeps_log j h e =
      record {
        rest = refl;
        lined = λ i m g. absurd (omega arith);
        logged = λ i m g d. other i g (λ q. absurd (omega arith));
        due = λ i m g. absurd (omega arith);
        loose = λ i m g. absurd (omega arith);
        two = λ i m g. lines_w2 s _ (the_row s i) (other i g (λ q. absurd (omega arith)));
        three = λ m. lines_w3 s _ (mode_of s) (rows_of s);
        four = λ i m g. lines_w4 s _ (mode_of s) (the_row s i);
      }
    where
      other : (i : ℕ) → i < length (rows_of s) → (j ≡ i → ⊥)
          → has_lines (with_lines s (select (λ l. not (is_of (name_in (the_row s j)) l)) s.lines)) (name_in (the_row s i)) ≡ has_lines s (name_in (the_row s i))
      other i g q = log_other s (name_in (the_row s j)) (name_in (the_row s i)) (a.apart j i h g q)

  -- past W2 only W4 is left
  late : (t : Store) → t.prepared ≡ s.prepared → length (rows_of s) + length (rows_of s) ≤ k
      → ((i : ℕ) → suc k ≤ length (rows_of s) + length (rows_of s) + 1 + i → i < length (rows_of s) → w4 t (mode_of s) (the_row s i) ≡ w4 s (mode_of s) (the_row s i))
      → Same stamp s t (suc k)
  late t e l four =
      record {
        rest = e;
        lined = λ i m g. absurd (omega arith);
        logged = λ i m g d. absurd (omega arith);
        due = λ i m g. absurd (omega arith);
        loose = λ i m g. absurd (omega arith);
        two = λ i m g. absurd (omega arith);
        three = λ m. absurd (omega arith);
        four = four;
      }

  -- W3
  pub keeps_packed : (ps : List PackedEdit) → k ≡ length (rows_of s) + length (rows_of s) → Same stamp s (with_entries s (apply_packed ps s.entries)) (suc k)
  keeps_packed ps e = late (with_entries s (apply_packed ps s.entries)) refl (omega arith) (λ i m g. packed_w4 s ps (mode_of s) (the_row s i))

  -- W4, the loose value of row j removed, at its place
  pub keeps_gone : (v : Loose) (j : ℕ) → j < length (rows_of s) → k ≡ length (rows_of s) + length (rows_of s) + 1 + j
      → Same stamp s (change_entry (put_loose v) (name_in (the_row s j)).0 s) (suc k)
  keeps_gone v j h e =
      late (change_entry (put_loose v) (name_in (the_row s j)).0 s) refl (omega arith)
      (λ i m g. loose_w4 s _ v (mode_of s) (the_row s i) (a.apart j i h g (λ q. absurd (omega arith))))
