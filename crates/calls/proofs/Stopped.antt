-- What a commit leaves of a region with a transaction prepared: the image of the model's stop, and what names read there. Assumes nothing.
use Rattle.std.specs.Prelude.{Option, Some}
use Rattle.target.specs.declared.Target.{Target}
use mathlib.Core.Path.{◌≡◌, sym, ap, ◌∙◌, subst}
use mathlib.Core.List.{List, [], ◌∷◌}
use Prim.Native.Nat.{ℕ, ◌<◌}
use lib.ListN.{length}
use Rattle.target.specs.declared.NameNumber.{NameNumber}
use Rattle.model.specs.Store.{Store, count}
use Rattle.model.specs.Read.{reading}
use Rattle.model.specs.Rows.{name_in}
use Rattle.model.specs.Fine.{Fine}
use Rattle.model.specs.Reply.Call.{commit}
use Rattle.model.specs.Calls.{step}
use Rattle.model.specs.Reached.{Reached}
use Rattle.model.specs.Demand3.{stop_at}
use Rattle.model.proofs.Kept.{kept, reached_sound}
use Rattle.model.proofs.RowFacts.{held}
use Rattle.slots.specs.Row.{FitsOption}
use Rattle.region.specs.Region.{decode, view}
use Rattle.region.proofs.Fits.{fine_fits}
use Rattle.region.proofs.Image.{view_image}
use Rattle.region.proofs.Decode.{decoded}
use Rattle.calls.specs.Call.{Out, out_of, Did}
use Rattle.calls.specs.Exports.{Got}
use Rattle.calls.specs.Exports.Got.{after as got·after}
use Rattle.calls.specs.Demand3.{Committed, Reads, value_bytes, prepared_rows, prepared_row}
use Rattle.calls.proofs.Exports.{got_reached, does_step, step_image}
use Rattle.calls.proofs.Answered.{reads_to, reads_as}
use Rattle.calls.proofs.Ended.{stop_count}

-- what is got holds the store that is seen in it, and that is reached
got_seen : (r : List ℕ) → Got r → (decode r ≡ Some (view r)) × Reached (view r)
got_seen r g = (h.1 ∙ ap Some (sym seen), subst Reached (sym seen) h.2)
  where
    h : (s : Store) × (decode r ≡ Some s) × Reached s
    h = got_reached r g

    seen : view r ≡ h.0
    seen = ap view (sym (decoded r h.0 h.1).1) ∙ view_image h.0 (fine_fits h.0 (decoded r h.0 h.1).0)

module _ {c k : ℕ} {r : List ℕ} {n : ℕ} {a r' : List ℕ} (x : Committed c k r n a r') where
  pub before : (decode r ≡ Some (view r)) × Reached (view r)
  before = got_seen r x.got

  pub after : (decode r' ≡ Some (view r')) × Reached (view r')
  after = got_seen r' (got·after x.got (commit c k) n x.lent a r' x.did)

  pub ruled : Fine (view r)
  ruled = (reached_sound (view r) before.1).fine

  -- the number and the record are the reply's
  pub answered : Did (out_of (step (commit c k) (view r)) r) n a (r' ∷ [])
  answered = subst (λ (o : Out). Did o n a (r' ∷ [])) (does_step (commit c k) r x.lent (view r) before.0 x.sized) x.did

  -- the store that is left is the model's
  pub left_by : view r' ≡ stop_at c k (view r)
  left_by =
      ap view (step_image (commit c k) r r' (view r) before.0 answered.lent)
      ∙ view_image (stop_at c k (view r)) (fine_fits (stop_at c k (view r)) (kept (view r) ruled (commit c k)))

  -- so a name reads as it does there
  pub stop_reads : (m : NameNumber) → m.0 < count (view r) → (t : Option Target)
      → value_bytes (reading (stop_at c k (view r)) m) ≡ value_bytes t → Reads m.0 r' t
  stop_reads m h t e =
      reads_to r' after.0 m (rw (left_by, stop_count (view r) x.prepared c k) h) t
      (ap (λ (s : Store). value_bytes (reading s m)) left_by ∙ e)

  -- and so does a row's name
  pub row_reads : {t : (Option Target)} (i : ℕ) → i < length (prepared_rows r) → reading (stop_at c k (view r)) (name_in (prepared_row r i)) ≡ t
      → Reads (name_in (prepared_row r i)).0 r' t
  row_reads {t} i h e =
      stop_reads (name_in (prepared_row r i)) (held (view r) ruled i h) t (ap value_bytes e)

  pub row_reading : {t : (Option Target)} (i : ℕ) → FitsOption t → Reads (name_in (prepared_row r i)).0 r' t
      → reading (stop_at c k (view r)) (name_in (prepared_row r i)) ≡ t
  row_reading {t} i f reads =
      ap (λ (s : Store). reading s (name_in (prepared_row r i))) (sym left_by)
      ∙ reads_as r' after.0 (name_in (prepared_row r i)) t f reads
