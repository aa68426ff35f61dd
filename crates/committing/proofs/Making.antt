-- Each write, made; and what it needs. Assumes nothing.
use Rattle.std.specs.Prelude.{Option, Some, None}
use mathlib.Core.Path.{◌≡◌, refl, ap, ◌∙◌, subst}
use mathlib.Core.Bool.{not}
use mathlib.Core.List.{List, [], ◌∷◌, ◌++◌}
use Prim.Native.Nat.{ℕ, ◌<◌}
use lib.ListN.{length}
use Rattle.target.specs.declared.NameNumber.{NameNumber}
use Rattle.target.specs.declared.Target.{Target}
use Rattle.model.specs.declared.Loose.TheVariants as loose
use Rattle.model.specs.declared.Line.{Line}
use Rattle.model.specs.Basic.{select}
use Rattle.model.specs.Store.{Store, count, is_of, put_loose, change_entry, with_entries, with_lines}
use Rattle.model.specs.Writes.{apply, apply_packed, packed_edits}
use Rattle.model.specs.Demand3.{apply_all}
use Rattle.slots.specs.Values.{FitsTarget, FitsLine}
use Rattle.region.specs.Region.{view, Laid, Became}
use Rattle.writes.specs.declared.NextWrite.{NextWrite}
use Rattle.writes.specs.declared.NextWrite.TheVariants as next
use Rattle.writes.specs.Next.{rows_of, mode_of, write_list}
use Rattle.rows.specs.Rows.{Named, Apart}
use Rattle.committing.specs.Running.{Makes}

-- ---- each write, made

pub makes_nothing : (r : List ℕ) (x : Option NextWrite) → Laid r → x ≡ None → Became r (apply_all (write_list (view r) x) (view r))
unfolding write_list
makes_nothing r x l e = rw e (record { laid = l; seen = refl })

module _ (r r' : List ℕ) (x : Option NextWrite) (w : NextWrite) (is : x ≡ Some w) where
  pub makes_line : (l : Line) → w ≡ next.AppendLine l → Became r' (with_lines (view r) ((view r).lines ++ (l ∷ [])))
      → Became r' (apply_all (write_list (view r) x) (view r))
  unfolding write_list apply
  makes_line l e b = rw (is, e) b

  pub makes_loose : (n : NameNumber) (t : Target) → w ≡ next.WriteLoose n t → Became r' (change_entry (put_loose (loose.Target t)) n.0 (view r))
      → Became r' (apply_all (write_list (view r) x) (view r))
  unfolding write_list apply
  makes_loose n t e b = rw (is, e) b

  pub makes_log : (n : NameNumber) → w ≡ next.RemoveLog n → Became r' (with_lines (view r) (select (λ l. not (is_of n l)) (view r).lines))
      → Became r' (apply_all (write_list (view r) x) (view r))
  unfolding write_list apply
  makes_log n e b = rw (is, e) b

  pub makes_packed : w ≡ next.WritePacked
      → Became r' (with_entries (view r) (apply_packed (packed_edits (view r) (mode_of (view r)) (rows_of (view r))) (view r).entries))
      → Became r' (apply_all (write_list (view r) x) (view r))
  unfolding write_list apply
  makes_packed e b = rw (is, e) b

  pub makes_gone : (n : NameNumber) → w ≡ next.RemoveLoose n → Became r' (change_entry (put_loose loose.None) n.0 (view r))
      → Became r' (apply_all (write_list (view r) x) (view r))
  unfolding write_list apply
  makes_gone n e b = rw (is, e) b

module _ (s : Store) (x : Option NextWrite) (m : Makes s x) (w : NextWrite) (is : x ≡ Some w) where
  needs : (v : NextWrite) → w ≡ v → Makes s (Some v)
  needs v e = subst (Makes s) (is ∙ ap Some e) m

  pub line_room : (l : Line) → w ≡ next.AppendLine l → length s.lines < 1024
  unfolding Makes
  line_room l e = (needs (next.AppendLine l) e).0

  pub line_fits : (l : Line) → w ≡ next.AppendLine l → FitsLine l
  unfolding Makes
  line_fits l e = (needs (next.AppendLine l) e).1

  pub loose_named : (n : NameNumber) (t : Target) → w ≡ next.WriteLoose n t → n.0 < count s
  unfolding Makes
  loose_named n t e = (needs (next.WriteLoose n t) e).0

  pub loose_fits : (n : NameNumber) (t : Target) → w ≡ next.WriteLoose n t → FitsTarget t
  unfolding Makes
  loose_fits n t e = (needs (next.WriteLoose n t) e).1

  pub pack_named : w ≡ next.WritePacked → Named s
  unfolding Makes
  pack_named e = (needs next.WritePacked e).0

  pub pack_apart : w ≡ next.WritePacked → Apart (rows_of s)
  unfolding Makes
  pack_apart e = (needs next.WritePacked e).1

  pub removed_named : (n : NameNumber) → w ≡ next.RemoveLoose n → n.0 < count s
  unfolding Makes
  removed_named n e = needs (next.RemoveLoose n) e
