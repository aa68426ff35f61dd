-- Prepare: the model's rows are those that are judged; what each way out answers, and that a refusal gives every byte back.
-- Assumes nothing.
use Rattle.std.specs.Prelude.{Option, Some, None, Result, Ok, Err, ok_or}
use Rattle.target.specs.declared.NoSuchNumber.{NoSuchNumber}
use mathlib.Core.Path.{◌≡◌, refl, sym, ap, ◌∙◌, subst}
use mathlib.Core.Bool.{Bool, true, false, not, ◌&&◌, cond, false≢true}
use mathlib.Core.List.{List, [], ◌∷◌, map}
use Prim.Native.Nat.{ℕ, ◌+◌}
use lib.ListN.{length, length-set}
use lib.Dec.{ltb}
use borrow.Author.Tests.{not-true, not-false}
use Rattle.word.specs.Codec.{is_some}
use Rattle.transaction.specs.declared.PackedRefs.{PackedRefs}
use Rattle.transaction.specs.declared.RefEdit.{RefEdit}
use Rattle.transaction.specs.declared.Edit.{Edit}
use Rattle.transaction.specs.Change.{row_of}
use Rattle.transaction.specs.Fields.{packed_refs_number, packed_refs_of}
use Rattle.transaction.proofs.Fields.{packed_refs_back}
use Rattle.model.specs.declared.Lock.TheVariants.{Foreign, Ours}
use Rattle.model.specs.declared.Refusal.{Refusal}
use Rattle.model.specs.declared.Refusal.TheVariants.{Malformed, NotRegistered, PackedTransactionAcquire, LogFull, WrongState}
use Rattle.model.specs.Basic.{any, collect}
use Rattle.model.specs.Store.{Store, Entry, Prepared, count, rows_in, mode_in, is_prepared, is_lock, put_lock, change_at, with_prepared, with_rows}
use Rattle.model.specs.Rows.{name_in, counts, opens, keeps_lock}
use Rattle.model.specs.EditList.{edits_of, numbers_of, first_out}
use Rattle.model.specs.Outcome.{◌>>=◌, ◌>>◌, refuse_if}
use Rattle.model.specs.Split.{splits, one_name_one_edit}
use Rattle.model.specs.Due.{due_lines}
use Rattle.model.specs.Prepare.{registered, opening, turns_from, rows_for, holding, held}
use Rattle.model.specs.Fine.{fine_row, Fine}
use Rattle.model.specs.Reached.{Sound}
use Rattle.model.specs.Reply as reply
use Rattle.model.specs.Reply.Call.{prepare}
use Rattle.model.specs.Reply.Reply.{done, refused}
use Rattle.model.specs.Reply.Given.{number}
use Rattle.model.specs.Calls.{rows_prepared, step}
use Rattle.model.specs.Numbers.{answer, answer_of}
use Rattle.model.proofs.FineEdit.{row_name}
use Rattle.model.proofs.PrepareSound.{prepare_sound}
use Rattle.region.specs.Region.{mode_byte, image, view, good, Laid, Became}
use Rattle.region.proofs.Read.{is_prepared_lem, not_prepared}
use Rattle.region.proofs.Decode.{laid_image, became_image}
use Rattle.rows.specs.Rows.{Named}
use Rattle.writers.specs.Taken.{Taken, outcome_by}
use Rattle.edits.specs.Edits.{edits_in, Registered}
use Rattle.edits.proofs.Numbers.{is_in}
use Rattle.answers.specs.declared.Verdict.{Verdict}
use Rattle.answers.specs.Answers.{answer_by}
use Rattle.answers.proofs.Apart.{ends}
use Rattle.calls.specs.Call.{reply_to, Replied}
use Rattle.calls.proofs.Replies.{replies, says_no}
use Rattle.preparing.specs.Rows.{names_judged, turns_judged, split_judged, judged_rows, list_judged, Begun, names_held, table_held, prepared_with}
use Rattle.preparing.proofs.Judging.{judged_of}
use Rattle.preparing.proofs.Holding.{held_is}

-- ---- the model's rows are those that are judged

abbrev under : PackedRefs → List Edit → Prepared
under mode rows = record { mode = mode; rows = rows }

-- a chain in a chain is one chain, where the parts agree
bound : {A B C : Type 0} (m : Result A Refusal) (h : A → Result C Refusal) (f : A → Result B Refusal) (g : B → Result C Refusal)
    → ((a : A) → h a ≡ (f a >>= g)) → (m >>= h) ≡ ((m >>= f) >>= g)
bound (Err x) h f g e = refl
bound (Ok a) h f g e = e a

-- 6, 7, the turns and 14, in the model's order and in the code's
module _ (opened : Bool) (turns : Bool → Result (List Edit) Refusal) (full : List Edit → Bool) (mode : PackedRefs) where
  full_end : (b : Bool) (rows : List Edit)
      → (refuse_if b LogFull >> Ok (under mode rows)) ≡ ((refuse_if b LogFull >> Ok rows) >>= λ rows. Ok (under mode rows))
  full_end true rows = refl
  full_end false rows = refl

  chain : (one : Result (Unit {0}) Refusal) (b : Bool)
      → (one >> (cond b (Err PackedTransactionAcquire) (Ok opened) >>= λ o. turns o >>= λ rows. refuse_if (full rows) LogFull >> Ok (under mode rows)))
      ≡ (((one >> refuse_if b PackedTransactionAcquire) >> (turns opened >>= λ rows. refuse_if (full rows) LogFull >> Ok rows)) >>= λ rows. Ok (under mode rows))
  chain (Err x) b = refl
  chain (Ok u) true = refl
  chain (Ok u) false =
      bound (turns opened) (λ rows. refuse_if (full rows) LogFull >> Ok (under mode rows)) (λ rows. refuse_if (full rows) LogFull >> Ok rows)
      (λ rows. Ok (under mode rows)) (λ rows. full_end (full rows) rows)

-- what the model does with a split
abbrev modelled : Store → PackedRefs → List Edit → Result Prepared Refusal
modelled s mode split =
    one_name_one_edit s split
    >> (opening s mode split
    >>= λ opened. turns_from s mode opened (length split) 0 split
    >>= λ rows. refuse_if (ltb 1024 (length s.lines + length (due_lines s rows))) LogFull >> Ok (under mode rows))

split_same : (s : Store) (mode : PackedRefs) (split : List Edit) → modelled s mode split ≡ (split_judged s mode split >>= λ rows. Ok (under mode rows))
unfolding opening split_judged names_judged turns_judged
split_same s mode split =
    chain (opens s mode split) (λ (o : Bool). turns_from s mode o (length split) 0 split)
    (λ (rows : List Edit). ltb 1024 (length s.lines + length (due_lines s rows))) mode
    (one_name_one_edit s split) (any (counts s) split && is_lock Foreign s.packed_lock)

-- ---- the reply, by what is judged

as_reply : (s : Store) (mode : PackedRefs) (o : Result (List Edit) Refusal)
    → reply.◌>>=◌ (o >>= λ rows. Ok (under mode rows)) (λ (p : Prepared). done (held p s) (number (length p.rows))) ≡ prepared_with mode s o
as_reply s mode (Err x) = refl
as_reply s mode (Ok rows) = refl

-- 3 is asked first
pub listed : (s : Store) (mode : PackedRefs) (edits : List RefEdit) → first_out (count s) (collect numbers_of edits) ≡ None
    → list_judged s mode edits ≡ judged_rows s mode edits
unfolding list_judged registered
listed s mode edits e = rw e

module _ (list : List ℕ) (k : ℕ) (s : Store) where
  busy : is_prepared s.prepared ≡ true → step (prepare list k) s ≡ refused WrongState
  unfolding step rows_prepared rows_for
  busy e = rw e

  module _ (idle : is_prepared s.prepared ≡ false) where
    unformed : edits_of list ≡ None → step (prepare list k) s ≡ refused Malformed
    unfolding step rows_prepared rows_for
    unformed e = rw (idle, e)

    module _ (edits : List RefEdit) (formed : edits_of list ≡ Some edits) where
      unmoded : (packed_refs_of k) ≡ None → step (prepare list k) s ≡ refused Malformed
      unfolding step rows_prepared rows_for
      unmoded e = rw (idle, formed, e)

      module _ (mode : PackedRefs) (known : (packed_refs_of k) ≡ Some mode) where
        rows_for_lem : rows_for list k s ≡ (list_judged s mode edits >>= λ rows. Ok (under mode rows))
        unfolding rows_for list_judged judged_rows
        rows_for_lem =
            rw (idle, formed, known)
            (bound (registered s edits) (λ _. splits s (map row_of edits) >>= modelled s mode) (λ _. splits s (map row_of edits) >>= split_judged s mode)
            (λ rows. Ok (under mode rows))
            (λ _. bound (splits s (map row_of edits)) (modelled s mode) (split_judged s mode) (λ rows. Ok (under mode rows)) (split_same s mode)))

        steps_to : step (prepare list k) s ≡ prepared_with mode s (list_judged s mode edits)
        unfolding step rows_prepared
        steps_to =
            ap (λ (o : Result Prepared Refusal). reply.◌>>=◌ o (λ (p : Prepared). done (held p s) (number (length p.rows)))) rows_for_lem
            ∙ as_reply s mode (list_judged s mode edits)

-- ---- what is read of the arguments

-- a list that is well formed
none_in : (o : Option (List RefEdit)) → is_some o ≡ false → o ≡ None
none_in None e = refl
none_in (Some x) e = absurd (false≢true (sym e))

formed_in : (list : List ℕ) → is_some (edits_of list) ≡ true → edits_of list ≡ Some (edits_in list)
unfolding edits_in
formed_in list e = is_in (edits_of list) [] e

-- ---- the names of rows that are held

holding_length : (s : Store) (mode : PackedRefs) (rows : List Edit) (es : List Entry) → length (holding s mode rows es) ≡ length es
holding_length s mode [] es = refl
holding_length s mode (r ∷ rs) es =
    holding_length s mode rs (cond (keeps_lock s mode r) (change_at (put_lock Ours) (name_in r).0 es) es) ∙ go (keeps_lock s mode r)
  where
    go : (b : Bool) → length (cond b (change_at (put_lock Ours) (name_in r).0 es) es) ≡ length es
    go true = length-set es _ _
    go false = refl

held_named : (s : Store) (p : Prepared) → Fine (held p s) → Named (with_prepared s (Some p))
unfolding held
held_named s p f = record {
  named = λ i h. row_name (count s) p.rows i
      (subst (λ (n : ℕ). fine_row n p.rows i ≡ true) (holding_length s p.mode p.rows s.entries) (f.rows i h));
}

-- ---- the rows, in the region's own table

pub begun_registered : (r list : List ℕ) → Laid r → is_some (edits_of list) ≡ true → first_out (count (view r)) (collect numbers_of (edits_in list)) ≡ None
    → Registered list
begun_registered r list l f a = record { formed = f; names = count (view r); few = l.names; all = a }

module _ (r₀ r₁ : List ℕ) (mode : PackedRefs) (b : Became r₁ (with_prepared (view r₀) (Some (record { mode = mode; rows = [] })))) where
  pub begun_prepared : is_prepared (view r₁).prepared ≡ true
  begun_prepared = ap (λ (t : Store). is_prepared t.prepared) b.seen

  pub begun_empty : rows_in (view r₁).prepared ≡ []
  begun_empty = ap (λ (t : Store). rows_in t.prepared) b.seen

  pub begun : (r₂ : List ℕ) (edits : List RefEdit) (j : (Result (Unit {0}) Refusal)) → Taken r₁ r₂ j (judged_rows (view r₁) (mode_in (view r₁).prepared) edits)
      → Begun r₀ r₂ j mode (judged_rows (view r₀) mode edits)
  begun r₂ edits j t = record {
    laid = t.laid;
    seen = t.seen ∙ ap (λ (u : Store). with_rows u (rows_in (view r₂).prepared)) b.seen;
    whole =
        t.whole
        ∙ ap (λ (u : Store). judged_rows u (mode_in u.prepared) edits) b.seen
        ∙ judged_of (view r₀) (Some (record { mode = mode; rows = [] })) mode edits;
  }

module _ (r₀ r₂ list : List ℕ) (mode : PackedRefs) (j : (Result (Unit {0}) Refusal)) (w : Begun r₀ r₂ j mode (judged_rows (view r₀) mode (edits_in list))) where
  abbrev rows : List Edit
  rows = rows_in (view r₂).prepared

  -- a refusal gives every byte back
  pub refused_back : (r₃ : List ℕ) (why : Refusal) → Laid r₀ → (view r₀).prepared ≡ None → j ≡ Err why
      → Became r₃ (with_prepared (view r₂) None)
      → Replied (Err why) r₀ r₃ (prepared_with mode (view r₀) (judged_rows (view r₀) mode (edits_in list)))
  unfolding answer_of
  refused_back r₃ why l idle e c =
      subst (λ (o : Result (List Edit) Refusal). Replied (Err why) r₀ r₃ (prepared_with mode (view r₀) o))
      (ap (λ (j : (Result (Unit {0}) Refusal)). outcome_by j rows) (sym e) ∙ w.whole)
      (record { answer = refl; apart = refl; region = became_image r₃ _ c ∙ ap image back ∙ sym (laid_image r₀ l).0 })
    where
      back : with_prepared (view r₂) None ≡ view r₀
      back = ap (λ (u : Store). with_prepared u None) w.seen ∙ ap (with_prepared (view r₀)) (sym idle)

  module _ (e : j ≡ (Ok tt)) where
    passed_as : judged_rows (view r₀) mode (edits_in list) ≡ Ok rows
    passed_as = sym w.whole ∙ ap (λ (j : (Result (Unit {0}) Refusal)). outcome_by j rows) e

    -- the locks are taken
    pub taken_done : (r₃ : List ℕ) (v : Verdict)
        → (answer_by v ≡ answer 0 (length (rows_in (view r₂).prepared) ∷ [])) × Became r₃ (names_held (table_held (view r₂)))
        → Replied (Ok v) r₀ r₃ (prepared_with mode (view r₀) (judged_rows (view r₀) mode (edits_in list)))
    unfolding answer_of
    taken_done r₃ v h =
        subst (λ (o : Result (List Edit) Refusal). Replied (Ok v) r₀ r₃ (prepared_with mode (view r₀) o)) (sym passed_as)
        (record {
          answer = h.0;
          apart = ends v _ refl h.0;
          region = became_image r₃ _ h.1 ∙ ap image (ap (λ (u : Store). names_held (table_held u)) w.seen ∙ held_is (view r₀) mode rows);
        })

    -- the model's rows are fine, so their names are registered
    pub taken_named : Fine (view r₀) → (view r₀).prepared ≡ None → is_some (edits_of list) ≡ true
        → first_out (count (view r₀)) (collect numbers_of (edits_in list)) ≡ None → Named (view r₂)
    taken_named f idle formed all = subst Named (sym w.seen) (held_named (view r₀) (under mode rows) sound.fine)
      where
        sound : Sound (held (under mode rows) (view r₀))
        sound =
            prepare_sound (view r₀) f list (packed_refs_number mode) (under mode rows)
            (rows_for_lem list (packed_refs_number mode) (view r₀) (ap is_prepared idle) (edits_in list) (formed_in list formed) mode
            ((packed_refs_back mode))
            ∙ ap (λ (o : Result (List Edit) Refusal). o >>= λ rows. Ok (under mode rows)) (listed (view r₀) mode (edits_in list) all ∙ passed_as))

-- ---- 3

module _ (r list : List ℕ) (mode : PackedRefs) (n : ℕ) (x : Option ℕ) (en : n ≡ count (view r))
    (ex : x ≡ first_out n (collect numbers_of (edits_in list))) where
  out_is : x ≡ first_out (count (view r)) (collect numbers_of (edits_in list))
  out_is = ex ∙ ap (λ (n : ℕ). first_out n (collect numbers_of (edits_in list))) en

  pub all_in : x ≡ None → first_out (count (view r)) (collect numbers_of (edits_in list)) ≡ None
  all_in p = sym out_is ∙ p

  pub list_out : (i : ℕ) → x ≡ Some i → Replied (Err (NotRegistered i)) r r (prepared_with mode (view r) (list_judged (view r) mode (edits_in list)))
  unfolding answer_of list_judged registered
  list_out i p = rw (sym out_is ∙ p) (record { answer = refl; apart = refl; region = refl })

  pub list_done : (r' : List ℕ) (v : Result Verdict Refusal) → x ≡ None → Replied v r r' (prepared_with mode (view r) (judged_rows (view r) mode (edits_in list)))
      → Replied v r r' (prepared_with mode (view r) (list_judged (view r) mode (edits_in list)))
  list_done r' v p w =
      subst (λ (o : Result (List Edit) Refusal). Replied v r r' (prepared_with mode (view r) o)) (sym (listed (view r) mode (edits_in list) (all_in p))) w

-- ---- 2

pub formed_is : (list : List ℕ) (b : Bool) → b ≡ is_some (edits_of list) → not b ≡ false → is_some (edits_of list) ≡ true
formed_is list b eb h = sym eb ∙ not-false b h

module _ (list r : List ℕ) (k : ℕ) (idle : (view r).prepared ≡ None) (b : Bool) (eb : b ≡ is_some (edits_of list)) where
  no_way : (x : Refusal) → step (prepare list k) (view r) ≡ refused x → Replied (Err x) r r (step (prepare list k) (view r))
  unfolding answer_of
  no_way x e = rw e (record { answer = refl; apart = refl; region = refl })

  pub idle_unformed : not b ≡ true → Replied (Err Malformed) r r (step (prepare list k) (view r))
  idle_unformed h = no_way Malformed (unformed list k (view r) (ap is_prepared idle) (none_in (edits_of list) (sym eb ∙ not-true b h)))

  module _ (h : not b ≡ false) (o : Result PackedRefs NoSuchNumber) (eo : o ≡ ok_or (packed_refs_of k) (record { 0 = k })) where
    edits_are : edits_of list ≡ Some (edits_in list)
    edits_are = formed_in list (formed_is list b eb h)

    mode_is : (p : Option PackedRefs) (m : PackedRefs) → ok_or {E = NoSuchNumber} p (record { 0 = k }) ≡ Ok m → p ≡ Some m
    mode_is None m e = cc
    mode_is (Some n) m e = cc

    mode_none : (p : Option PackedRefs) (x : NoSuchNumber) → ok_or {E = NoSuchNumber} p (record { 0 = k }) ≡ Err x → p ≡ None
    mode_none None x e = refl
    mode_none (Some n) x e = cc

    pub idle_unmoded : (x : NoSuchNumber) → o ≡ Err x → Replied (Err Malformed) r r (step (prepare list k) (view r))
    idle_unmoded x q =
        no_way Malformed
        (unmoded list k (view r) (ap is_prepared idle) (edits_in list) edits_are (mode_none (packed_refs_of k) x (sym eo ∙ q)))

    pub idle_done : (mode : PackedRefs) (r' : List ℕ) (v : Result Verdict Refusal) → o ≡ Ok mode
        → Replied v r r' (prepared_with mode (view r) (list_judged (view r) mode (edits_in list))) → Replied v r r' (step (prepare list k) (view r))
    idle_done mode r' v q w =
        subst (Replied v r r')
        (sym (steps_to list k (view r) (ap is_prepared idle) (edits_in list) edits_are mode (mode_is (packed_refs_of k) mode (sym eo ∙ q)))) w

-- ---- 1 and 15

pub idle_none : (r : List ℕ) (m : ℕ) → m ≡ mode_byte (view r).prepared → m ≡ 0 → (view r).prepared ≡ None
idle_none r m em z = not_prepared (view r).prepared (sym em ∙ z)

module _ (list : List ℕ) (k : ℕ) (r : List ℕ) (ok : Bool) (is : ok ≡ good r) (y : not ok ≡ false) where
  pub prepare_busy : (m : ℕ) → m ≡ mode_byte (view r).prepared → (m ≡ 0 → ⊥) → Replied (Err WrongState) r r (reply_to (prepare list k) r)
  prepare_busy m em h =
      says_no (prepare list k) r ok is refl y WrongState
      (busy list k (view r) (is_prepared_lem (view r).prepared (λ (q : mode_byte (view r).prepared ≡ 0). h (em ∙ q))))

  pub prepare_done : (r' : List ℕ) (v : Result Verdict Refusal) → Replied v r r' (step (prepare list k) (view r)) → Replied v r r' (reply_to (prepare list k) r)
  prepare_done r' v w = subst (Replied v r r') (sym (replies (prepare list k) r ok is refl y)) w
