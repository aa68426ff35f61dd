-- The five rounds over the region: how far their loop is, and what it leaves. Assumes nothing.
use Rattle.std.specs.Prelude.{Result, Ok, Err}
use Rattle.model.specs.declared.Refusal.{Refusal}
use mathlib.Core.Path.{◌≡◌, refl, sym, ap, ◌∙◌}
use mathlib.Core.Bool.{Bool, true, false}
use mathlib.Core.List.{List, [], map}
use Prim.Native.Nat.{ℕ, suc, ◌+◌, ◌-◌, ◌*◌, ◌<◌, ◌≤◌}
use native.Mathlib.Omega.{arith}
use lib.ListN.{length, replicate, length-map}
use Rattle.word.specs.Codec.{is_some}
use Rattle.transaction.specs.declared.RefEdit.{RefEdit}
use Rattle.transaction.specs.declared.Edit.{Edit}
use Rattle.transaction.specs.Change.{row_of}
use Rattle.model.specs.declared.Refusal.TheVariants.{ReferenceCycle}
use Rattle.model.specs.EditList.{edits_of}
use Rattle.model.specs.Store.{Store, rows_in, is_prepared, with_rows}
use Rattle.model.specs.Split.{splits}
use Rattle.model.proofs.EditsFine.{edits_few}
use Rattle.region.specs.Region.{view, Laid, Became}
use Rattle.region.proofs.Decode.{laid_image}
use Rattle.writers.specs.Taken.{outcome_by, Taken}
use Rattle.edits.specs.Edits.{edits_in}
use Rattle.edits.proofs.Numbers.{is_in}
use Rattle.splits.specs.Round.{hidden_rows, leads_on, steps}
use Rattle.splits.proofs.Model.{asked}
use Rattle.writers.proofs.OtherRows.{own_rows, other_rows, rows_seen, still_prepared}
use Rattle.splits.proofs.Rounds.{Hidden, steps_of, onward, onward_of, onward_round, round_length, onward_passes, onward_cycles, first_length, onward_first}

-- no row of the table has a mark
hidden_laid : (r : List ℕ) → Laid r → Hidden (rows_in (view r).prepared)
hidden_laid r l i h = ((laid_image r l).1.row i h).deref

edits_32 : (list : List ℕ) → is_some (edits_of list) ≡ true → length (edits_in list) ≤ 32
unfolding edits_in
edits_32 list h = edits_few list (edits_in list) (is_in (edits_of list) [] h)

pub rows_many : (rows : List Edit) (es : List RefEdit) → rows ≡ hidden_rows es → length rows ≡ length es
rows_many rows es e = ap length e ∙ length-map es _

-- how far the rounds after the first are, of which there are n: at most 32 rows are newest, there is room for the rounds that are
-- left, and what these give of the rows is what all give of the rows that the first one made
pub record Ahead (r₁ : List ℕ) (first₁ n : ℕ) (r : List ℕ) (first left : ℕ) : Type 0 where
  pub laid : Laid r
  pub same : length r ≡ length r₁
  pub prepared : is_prepared (view r).prepared ≡ true
  pub few : first ≤ length (rows_in (view r).prepared)
  pub newest : length (rows_in (view r).prepared) ≤ first + 32
  pub room : first + left * 32 ≤ 32 + n * 32
  pub seen : view r ≡ with_rows (view r₁) (rows_in (view r).prepared)
  pub whole : onward (view r₁) (suc left) first (rows_in (view r).prepared) ≡ onward (view r₁) (suc n) first₁ (rows_in (view r₁).prepared)

pub ahead_more : (r₁ r r' : List ℕ) (first₁ n first k end : ℕ) → Ahead r₁ first₁ n r first (n - k) → k < n → end ≡ length (rows_in (view r).prepared)
    → length r' ≡ length r
    → Became r' (with_rows (view r) (steps (view r) (replicate (length (rows_in (view r).prepared) - first) true) first (rows_in (view r).prepared)))
    → Ahead r₁ first₁ n r' end (n - (k + 1))
ahead_more r₁ r r' first₁ n first k end f h ee el w =
    let left : ℕ = n - (k + 1) in
    let s : Store = view r₁ in
    let l : List Edit = rows_in (view r).prepared in
    let fs : List Bool = replicate (length l - first) true in
    let d : Hidden l = hidden_laid r f.laid in
    let e₁ : steps (view r) fs first l ≡ steps s fs first l = ap (λ (t : Store). steps t fs first l) f.seen ∙ steps_of s l fs first l in
    let e₂ : rows_in (view r').prepared ≡ steps s fs first l = rows_seen r' (view r) _ w f.prepared ∙ e₁ in
    let m : length (rows_in (view r').prepared) ≡ length (steps s fs first l) = ap length e₂ in
    let g = round_length s first l f.few d in
    let q : suc left ≡ n - k = omega arith in
    record {
      laid = w.laid;
      same = el ∙ f.same;
      prepared = still_prepared r' (view r) _ w f.prepared;
      few = omega (arith, g.0);
      newest = omega (arith, g.1, f.newest, f.few);
      room = omega (arith, f.room, f.newest);
      seen = w.seen ∙ other_rows s (view r) l (steps (view r) fs first l) f.seen ∙ ap (with_rows s) (e₁ ∙ sym e₂);
      whole =
          ap (onward s (suc left) end) e₂
          ∙ ap (λ (end : ℕ). onward s (suc left) end (steps s fs first l)) ee
          ∙ onward_round s first l f.few d (suc left) f.laid.rows
          ∙ ap (λ (k : ℕ). onward s (suc k) first l) q
          ∙ f.whole;
    }

-- the first round, from r₀ to r₁
module _ (r₀ r₁ list : List ℕ) (first₁ : ℕ) (y : is_prepared (view r₀).prepared ≡ true) (hl : is_some (edits_of list) ≡ true)
    (el : rows_in (view r₀).prepared ≡ hidden_rows (edits_in list)) (en : first₁ ≡ length (rows_in (view r₀).prepared))
    (b : Became r₁ (with_rows (view r₀) (steps (view r₀) (asked (edits_in list)) 0 (rows_in (view r₀).prepared)))) where
  es_length : first₁ ≡ length (edits_in list)
  es_length = en ∙ rows_many _ (edits_in list) el

  first_rows : rows_in (view r₁).prepared ≡ steps (view r₀) (asked (edits_in list)) 0 (hidden_rows (edits_in list))
  first_rows = rows_seen r₁ (view r₀) _ b y ∙ ap (steps (view r₀) (asked (edits_in list)) 0) el

  pub ahead_start : (n : ℕ) → Ahead r₁ first₁ n r₁ first₁ n
  ahead_start n =
      let g = first_length (view r₀) (edits_in list) in
      let m : length (rows_in (view r₁).prepared) ≡ _ = ap length first_rows in
      let t = es_length in
      let u = edits_32 list hl in
      record {
        laid = b.laid;
        same = refl;
        prepared = still_prepared r₁ (view r₀) _ b y;
        few = omega (arith, g.0);
        newest = omega (arith, g.1);
        room = omega arith;
        seen = own_rows (view r₁);
        whole = refl;
      }

  begun : onward (view r₁) 4 first₁ (rows_in (view r₁).prepared) ≡ splits (view r₀) (map row_of (edits_in list))
  begun =
      ap (λ (s : Store). onward s 4 first₁ (rows_in (view r₁).prepared)) b.seen
      ∙ onward_of (view r₀) _ 4 first₁ (rows_in (view r₁).prepared)
      ∙ ap (onward (view r₀) 4 first₁) first_rows
      ∙ ap (λ (k : ℕ). onward (view r₀) 4 k (steps (view r₀) (asked (edits_in list)) 0 (hidden_rows (edits_in list)))) es_length
      ∙ onward_first (view r₀) (edits_in list) (edits_32 list hl)

  module _ (r : List ℕ) (first k : ℕ) (f : Ahead r₁ first₁ 3 r first (3 - k)) (z : 3 ≤ k) where
    taken_by : (j : (Result (Unit {0}) Refusal)) → onward (view r₁) 1 first (rows_in (view r).prepared) ≡ outcome_by j (rows_in (view r).prepared)
        → Taken r₀ r j (splits (view r₀) (map row_of (edits_in list)))
    taken_by j e =
        let q : 0 ≡ 3 - k = omega arith in
        record {
          laid = f.laid;
          seen = f.seen ∙ other_rows (view r₀) (view r₁) _ (rows_in (view r).prepared) b.seen;
          whole = sym e ∙ ap (λ (k : ℕ). onward (view r₁) (suc k) first (rows_in (view r).prepared)) q ∙ f.whole ∙ begun;
        }

    leads_is : (t : Bool) → t ≡ leads_on (view r) first (rows_in (view r).prepared) → leads_on (view r₁) first (rows_in (view r).prepared) ≡ t
    unfolding leads_on
    leads_is t e = sym (e ∙ ap (λ (s : Store). leads_on s first (rows_in (view r).prepared)) f.seen)

    pub taken_passed : (t : Bool) → t ≡ leads_on (view r) first (rows_in (view r).prepared) → t ≡ false
        → Taken r₀ r (Ok tt) (splits (view r₀) (map row_of (edits_in list)))
    taken_passed t e q =
        taken_by (Ok tt) (onward_passes (view r₁) first (rows_in (view r).prepared) f.few (hidden_laid r f.laid) f.laid.rows (leads_is t e ∙ q))

    pub taken_cycle : (t : Bool) → t ≡ leads_on (view r) first (rows_in (view r).prepared) → t ≡ true
        → Taken r₀ r (Err ReferenceCycle) (splits (view r₀) (map row_of (edits_in list)))
    taken_cycle t e q =
        taken_by (Err ReferenceCycle) (onward_cycles (view r₁) first (rows_in (view r).prepared) f.few (hidden_laid r f.laid) f.laid.rows (leads_is t e ∙ q))
