-- Names: what each way out answers. Assumes nothing.
use Rattle.std.specs.Prelude.{Option, Some, None, Ok, Err}
use mathlib.Core.Path.{◌≡◌, refl, sym, ap, ◌∙◌}
use mathlib.Core.Bool.{Bool, true, false, not, ◌&&◌, ◌||◌}
use mathlib.Core.List.{List, [], ◌∷◌, ◌++◌}
use Prim.Native.Nat.{ℕ, ◌+◌, ◌*◌, ◌<◌, ◌≤◌, ◌^◌}
use native.Mathlib.Omega.{arith}
use lib.ListN.{length}
use lib.Dec.{ltb, leb}
use borrow.Author.Tests.{le-leb, lt-leb, leb-true, lt-ltb, le-ltb, ltb-true, ltb-false, not-true, not-false}
use mir.Val.{Fits}
use mir.Syntax.{w64}
use Rattle.word.specs.Be.{cut}
use Rattle.word.proofs.Tests.{both_true, every_at}
use Rattle.target.specs.declared.NameNumber.{NameNumber}
use Rattle.target.specs.Fields.{name_below}
use Rattle.model.specs.declared.Refusal.TheVariants.{NotRegistered, BadName, NamesFull}
use Rattle.model.specs.Names.{is_special, is_ref, is_name}
use Rattle.model.specs.Store.{count, entry_at, entry_of, with_entries}
use Rattle.model.specs.Fine.{entry_tests, fine_entry}
use Rattle.model.specs.Reply.Call.{add_name, name_bytes}
use Rattle.model.specs.Reply.Reply.{refused}
use Rattle.model.specs.Reply.Given.{number, bytes_of}
use Rattle.model.specs.Calls.{step}
use Rattle.model.specs.Load.{number_from, new_entry, added_as, name_added, bytes_given}
use Rattle.model.specs.Numbers.{answer, answer_of, refusal_answer}
use Rattle.region.specs.Region.{view, good, name_offset, Laid, Became}
use Rattle.region.proofs.Decode.{good_parts}
use Rattle.region.proofs.Read.{name_read_lem}
use Rattle.steps.specs.Steps.{found_option}
use Rattle.answers.specs.declared.Verdict.{Verdict}
use Rattle.answers.specs.Answers.{answer_by}
use Rattle.calls.specs.Call.{reply_to, Replied, name_part}
use Rattle.calls.proofs.Replies.{good_laid, bad_region, replies, says_no, says_done, says_read}
use Rattle.calls.proofs.Known.{known_far, known_near, known_as, near}

-- ---- adding a name

name_sized : (name : List ℕ) → is_name name ≡ true → (1 ≤ length name) × (length name ≤ 64)
unfolding is_name
name_sized name e =
    let b = both_true (leb 1 (length name) && leb (length name) 64) (is_special name || is_ref name) e in
    let c = both_true (leb 1 (length name)) (leb (length name) 64) b.0 in
    (leb-true 1 (length name) c.0, leb-true (length name) 64 c.1)

pub name_room : (name : List ℕ) (b : Bool) → b ≡ is_name name → not b ≡ false → length name ≤ 64
name_room name b e h = (name_sized name (sym e ∙ not-false b h)).1

pub count_room : (r : List ℕ) (k : ℕ) → k ≡ count (view r) → k < 256 → count (view r) < 256
count_room r k e l = rw e at l

module _ (name : List ℕ) (r : List ℕ) (ok : Bool) (is : ok ≡ good r) (y : not ok ≡ false) (b : Bool) (eb : b ≡ is_name name) where
  pub add_bad : not b ≡ true → Replied (Err BadName) r r (reply_to (add_name name) r)
  unfolding step name_added
  add_bad h = says_no (add_name name) r ok is refl y BadName (rw (sym eb ∙ not-true b h))

  module _ (h : not b ≡ false) (o : Option NameNumber) (eo : found_option o ≡ number_from 0 name (view r).entries) where
    adds : step (add_name name) (view r) ≡ added_as name (view r) (found_option o)
    unfolding step name_added
    adds = rw (sym eb ∙ not-false b h, ← eo)

    pub add_found : (v : Verdict) (n : NameNumber) → o ≡ Some n → answer_by v ≡ answer 0 (n.0 ∷ []) → Replied (Ok v) r r (reply_to (add_name name) r)
    add_found v n q a = says_read (add_name name) r ok is refl y v (number n.0) (adds ∙ (rw q)) a

    module _ (q : o ≡ None) (k : ℕ) (ek : k ≡ count (view r)) where
      pub add_full : 256 ≤ k → Replied (Err NamesFull) r r (reply_to (add_name name) r)
      add_full l =
          let m : 256 ≤ count (view r) = rw ek at l in
          says_no (add_name name) r ok is refl y NamesFull (adds ∙ (rw (q, le-leb 256 (count (view r)) m)))

      pub add_done : (v : Verdict) → k < 256 → (r' : List ℕ) → Became r' (with_entries (view r) ((view r).entries ++ (new_entry name ∷ []))) → answer_by v ≡ answer 0 (k ∷ [])
          → Replied (Ok v) r r' (reply_to (add_name name) r)
      add_done v l r' m a =
          let z : count (view r) < 256 = rw ek at l in
          says_done (add_name name) r ok is refl y v _ (number (count (view r))) r' (adds ∙ (rw (q, lt-leb 256 (count (view r)) z)))
          (a ∙ ap (λ (k : ℕ). answer 0 (k ∷ [])) ek) m

-- ---- the part of a name

module _ (n : ℕ) (r : List ℕ) (ok : Bool) (is : ok ≡ good r) where
  pub part_bad : not ok ≡ true → [] ≡ name_part n r
  unfolding name_part refusal_answer
  part_bad h = rw (← (bad_region (name_bytes n) r ok is refl h).answer)

  module _ (y : not ok ≡ false) (o : Option NameNumber) (e : o ≡ name_below (count (view r)) n) where
    part_far : o ≡ None → [] ≡ name_part n r
    unfolding name_part step bytes_given answer_of refusal_answer
    part_far h = rw (replies (name_bytes n) r ok is refl y, known_far n (view r) o e h)

    part_is : (m : NameNumber) → o ≡ Some m → (p : List ℕ) → p ≡ (entry_of (view r) m).name → p ≡ name_part n r
    unfolding name_part step bytes_given answer_of
    part_is m h p q =
        let l : m.0 < count (view r) = near n r o m e h in
        let a : m ≡ record { 0 = n } = known_as n (view r) o e m h in
        rw (replies (name_bytes n) r ok is refl y, known_near n (view r) o e m h)
        (q ∙ sym (name_read_lem r (good_laid r ok is y) m.0 l) ∙ ap (λ (m : NameNumber). cut (name_offset m.0) (length (entry_of (view r) m).name) r) a)

-- the same of a region that is known to be good
pub good_is_laid : (r : List ℕ) → good r ≡ true → Laid r
good_is_laid r g = good_laid r true (sym g) refl

module _ (n : ℕ) (r : List ℕ) (g : good r ≡ true) (o : Option NameNumber) (e : o ≡ name_below (count (view r)) n) where
  pub part_none : o ≡ None → [] ≡ name_part n r
  part_none = part_far n r true (sym g) refl o e

  pub part_there : (m : NameNumber) → o ≡ Some m → (p : List ℕ) → p ≡ (entry_of (view r) m).name → p ≡ name_part n r
  part_there = part_is n r true (sym g) refl o e

pub tested : (r : List ℕ) (ok : Bool) → ok ≡ good r → not ok ≡ false → good r ≡ true
tested r ok is y = sym is ∙ not-false ok y

-- a number below the count is known
below_known : (n k : ℕ) → n < k → Some (record { 0 = n }) ≡ name_below k n
below_known n k l = rw (lt-ltb n k l)

past_known : (n k : ℕ) → k ≤ n → None ≡ name_below k n
past_known n k l = rw (le-ltb n k l)

-- ---- where the part stands: no name is empty, so that an empty part is a refusal

name_full : (r : List ℕ) (n : ℕ) → good r ≡ true → n < count (view r) → 1 ≤ length (entry_at (view r) n).name
unfolding fine_entry
name_full r n g l =
    let e = entry_at (view r) n in
    let f : fine_entry (count (view r)) e ≡ true = (good_parts r g).1.entries n l in
    (name_sized e.name (every_at (entry_tests (count (view r)) e) 0 f)).0

module _ (n : ℕ) (r p : List ℕ) (e : p ≡ name_part n r) where
  full_known : (length p ≡ 0 → ⊥) → (good r ≡ true) × (n < count (view r))
  full_known h = go (good r) (ltb n (count (view r))) refl refl
    where
      empty : [] ≡ name_part n r → length p ≡ 0
      empty q = ap length (e ∙ sym q)

      go : (g k : Bool) → good r ≡ g → ltb n (count (view r)) ≡ k → (good r ≡ true) × (n < count (view r))
      go false k eg ek = absurd (h (empty (part_bad n r false (sym eg) refl)))
      go true false eg ek = absurd (h (empty (part_far n r true (sym eg) refl None (past_known n (count (view r)) (ltb-false n (count (view r)) ek)) refl)))
      go true true eg ek = (eg, ltb-true n (count (view r)) ek)

  module _ (h : length p ≡ 0 → ⊥) where
    small : n < 256
    small =
        let k : n < count (view r) = (full_known h).1 in
        let most : count (view r) ≤ 256 = (good_laid r true (sym (full_known h).0) refl).names in
        omega arith

    pub fits_product : Fits w64 (n * 65)
    fits_product = record { fits = let k : n < 256 = small in let q : n * 65 < 2 ^ 64 = omega arith in q }

    pub fits_base : Fits w64 (13 + n * 65)
    fits_base = record { fits = let k : n < 256 = small in let q : 13 + n * 65 < 2 ^ 64 = omega arith in q }

    pub fits_offset : Fits w64 (13 + n * 65 + 1)
    fits_offset = record { fits = let k : n < 256 = small in let q : 13 + n * 65 + 1 < 2 ^ 64 = omega arith in q }

    pub bytes_done : (v : Verdict) → answer_by v ≡ answer 0 ((13 + n * 65 + 1) ∷ length p ∷ []) → Replied (Ok v) r r (reply_to (name_bytes n) r)
    unfolding step bytes_given
    bytes_done v a =
        let f = full_known h in
        let g : true ≡ good r = sym f.0 in
        let q : Some (record { 0 = n }) ≡ name_below (count (view r)) n = below_known n (count (view r)) f.1 in
        let name : (entry_at (view r) n).name ≡ name_part n r = part_is n r true g refl (Some (record { 0 = n })) q (record { 0 = n }) refl (entry_at (view r) n).name refl in
        says_read (name_bytes n) r true g refl refl v (bytes_of n) (rw (known_near n (view r) (Some (record { 0 = n })) q (record { 0 = n }) refl))
        (a ∙ ap (λ (p : List ℕ). answer 0 (name_offset n ∷ length p ∷ [])) (e ∙ sym name))

  pub bytes_far : (ok : Bool) → ok ≡ good r → not ok ≡ false → length p ≡ 0 → Replied (Err (NotRegistered n)) r r (reply_to (name_bytes n) r)
  unfolding step bytes_given
  bytes_far ok is y h = says_no (name_bytes n) r ok is refl y (NotRegistered n) (go (ltb n (count (view r))) refl)
    where
      go : (k : Bool) → ltb n (count (view r)) ≡ k → step (name_bytes n) (view r) ≡ refused (NotRegistered n)
      go true ek =
          let l : n < count (view r) = ltb-true n (count (view r)) ek in
          let q : Some (record { 0 = n }) ≡ name_below (count (view r)) n = below_known n (count (view r)) l in
          let name : (entry_at (view r) n).name ≡ p = part_is n r ok is y (Some (record { 0 = n })) q (record { 0 = n }) refl (entry_at (view r) n).name refl ∙ sym e in
          let full : 1 ≤ length (entry_at (view r) n).name = name_full r n (sym is ∙ not-false ok y) l in
          absurd (let z : 1 ≤ length p = rw name at full in omega arith)
      go false ek = rw (known_far n (view r) None (past_known n (count (view r)) (ltb-false n (count (view r)) ek)) refl)
