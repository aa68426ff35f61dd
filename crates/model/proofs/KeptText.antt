-- Reading a text keeps the rules, and what holds of every reached store; writing one changes nothing. Assumes nothing.
use Rattle.std.specs.Prelude.{Option, Some, None, Ok}
use mathlib.Core.Path.{◌≡◌, refl, ap, subst, ◌∙◌}
use mathlib.Core.Bool.{Bool, true, false}
use mathlib.Core.List.{List, [], ◌∷◌, ◌++◌, map}
use Prim.Native.Nat.{ℕ, ◌+◌, ◌<◌}
use native.Mathlib.Omega.{arith}
use lib.ListN.{length, get_or, length-append, length-map}
use lib.Seq.{get_or-append_seam}
use lib.Dec.{ltb, leb}
use borrow.Author.Tests.{lt-ltb}
use Rattle.model.specs.declared.Lock.TheVariants.{Ours}
use Rattle.model.specs.Names.{pieces}
use Rattle.model.specs.Store.{Store, Entry, no_entry, count, entry_at, is_prepared, is_lock, put_packed, with_entries}
use Rattle.model.specs.Reply.Call.{add_name, load_packed, write_packed, read_packed}
use Rattle.model.specs.Load.{number_from, new_entry, name_added, packed_loaded}
use Rattle.model.specs.PackedText.{Ref, packed_text, line_feed, read_text, unpacked, packed_as, ref_loaded_as, ref_loaded, loaded, judged}
use Rattle.model.specs.Calls.{text_written, text_read, step}
use Rattle.model.specs.Reached.{leaves}
use Rattle.model.proofs.Binds.{not_prepared, pass_is, refuse_pass, pass_then}
use Rattle.model.proofs.Base.{mapped_at, Base, base, base_changed, entry_packed, idle_fine, idle_free}
use Rattle.model.proofs.Beneath.{alone_is, alone_moved}
use Rattle.model.proofs.KeptSimple.{Rule, passed, tested, add_name_kept, load_packed_kept}
use Rattle.model.proofs.TextLines.{Loadable, Chain, read_chain}
use Rattle.model.proofs.TextTable.{Found, number_found, put_is}

-- a store with the name added
abbrev with_name : Ref → Store → Store
with_name r t = with_entries t (t.entries ++ (new_entry r.name ∷ []))

-- loading a ref is load_packed on its name, and where that is not known, add_name first
module _ (r : Ref) (can : Loadable r) (t : Store) where
  as_load : (n : ℕ) → is_prepared t.prepared ≡ false → n < count t → (entry_at t n).name ≡ r.name
      → leaves (step (load_packed n 1 r.object) t) t ≡ packed_as r n t
  unfolding step packed_loaded
  as_load n e h name = rw (e, lt-ltb n (count t) h, name, can.id, can.packs)

  as_add : number_from 0 r.name t.entries ≡ None → leb 256 (count t) ≡ false → leaves (step (add_name r.name) t) t ≡ with_name r t
  unfolding step name_added
  as_add o p = rw (can.name, o, p)

ref_prepared : (r : Ref) (t u : Store) → ref_loaded r t ≡ Ok u → u.prepared ≡ t.prepared
ref_prepared r t u e = ap (λ (x : Store). x.prepared) (put_is r t u e)

unpacked_idle : (s : Store) → is_prepared s.prepared ≡ false → is_prepared (unpacked s).prepared ≡ false
unfolding unpacked
unpacked_idle s e = e

module _ (P : Store → Type 0) (rule : Rule P) where
  -- ---- no packed values

  unpacked_kept : (s : Store) → P s → s.prepared ≡ None → P (unpacked s)
  unfolding unpacked
  unpacked_kept s here e =
      rule.idle (unpacked s)
      (idle_fine (unpacked s) bases (alone_moved s (unpacked s) (record { name = λ n h. rw (at n); loose = λ n h. rw (at n) at h }) (alone_is s (rule.fine s here).alone)) e
      (λ n h. rw (at n) (free.0 n (rw length-map at h)))
      free.1)
      e
    where
      at : (n : ℕ) → get_or (map (put_packed None) s.entries) n no_entry ≡ put_packed None (entry_at s n)
      at n = mapped_at (put_packed None) refl n s.entries

      free : ((m : ℕ) → m < count s → is_lock Ours (entry_at s m).lock ≡ false) × (is_lock Ours s.packed_lock ≡ false)
      free = idle_free s (rule.fine s here) e

      bases : Base (unpacked s)
      bases =
          base_changed s (unpacked s) (base s (rule.fine s here)) (length-map s.entries _)
          (λ n h. rw (at n))
          (λ n h. rw (at n) (entry_packed (count s) (entry_at s n) None ((rule.fine s here).entries n h) refl))
          (rule.fine s here).short
          (rule.fine s here).lines

  -- ---- refs

  module _ (r : Ref) (can : Loadable r) where
    packed_kept : (t : Store) → P t → is_prepared t.prepared ≡ false → (n : ℕ) → n < count t → (entry_at t n).name ≡ r.name → P (packed_as r n t)
    packed_kept t here e n h name = subst P (as_load r can t n e h name) (load_packed_kept P rule t here n 1 r.object)

    new_kept : (t : Store) → P t → is_prepared t.prepared ≡ false → number_from 0 r.name t.entries ≡ None → leb 256 (count t) ≡ false
        → P (packed_as r (count t) (with_name r t))
    new_kept t here e o p =
        packed_kept (with_name r t) (subst P (as_add r can t o p) (add_name_kept P rule t here r.name)) e (count t)
        (rw length-append (omega arith))
        (ap (λ (x : Entry). x.name) (get_or-append_seam t.entries (new_entry r.name) [] no_entry))

    ref_kept : (t u : Store) → P t → is_prepared t.prepared ≡ false → ref_loaded r t ≡ Ok u → P u
    unfolding ref_loaded
    ref_kept t u here e q = go (number_from 0 r.name t.entries) refl q
      where
        new : number_from 0 r.name t.entries ≡ None → (b : Bool) → leb 256 (count t) ≡ b → ref_loaded_as r t None ≡ Ok u → P u
        new o true p q = absurd (refuse_pass (rw p at q))
        new o false p q = subst P (pass_is (rw p at q)) (new_kept t here e o p)

        go : (o : Option ℕ) → number_from 0 r.name t.entries ≡ o → ref_loaded_as r t o ≡ Ok u → P u
        go (Some n) o q =
            let f : Found r t.entries 0 n = number_found r t.entries 0 n o in
            let a : n ≡ 0 + f.place = f.at in
            let b : f.place ≡ n = omega arith in
            subst P (pass_is q)
            (packed_kept t here e n (subst (λ (k : ℕ). k < count t) b f.near) (subst (λ (k : ℕ). (entry_at t k).name ≡ r.name) b f.name))
        go None o q = new o (leb 256 (count t)) refl q

  loaded_kept : (rs : List Ref) (last : List ℕ) (t u : Store) → Chain last rs → P t → is_prepared t.prepared ≡ false → loaded rs t ≡ Ok u → P u
  unfolding loaded
  loaded_kept [] last t u c here e q = subst P (pass_is q) here
  loaded_kept (r ∷ rs) last t u c here e q =
      pass_then (ref_loaded r t) (loaded rs) u q (λ m p k.
      loaded_kept rs r.name m u c.2 (ref_kept r c.0 t m here e p)
      (ap is_prepared (ref_prepared r t m p) ∙ e) k)

  -- ---- the calls

  module _ (s : Store) (here : P s) where
    pub write_packed_kept : (room : ℕ) → P (leaves (step (write_packed room) s) s)
    unfolding step text_written
    write_packed_kept room = tested P s here (ltb room (length (packed_text s))) _ _ (λ e. here)

    pub read_packed_kept : (bytes : List ℕ) → P (leaves (step (read_packed bytes) s) s)
    unfolding step text_read read_text
    read_packed_kept bytes =
        tested P s here (is_prepared s.prepared) _ _ (λ e.
        passed P s here (loaded (read_text bytes).refs (unpacked s)) _ (λ t q.
        passed P s here (judged (read_text bytes).end) _ (λ u p.
        loaded_kept (read_text bytes).refs [] (unpacked s) t (read_chain (pieces line_feed bytes) 1 [] false)
        (unpacked_kept s here (not_prepared s.prepared e)) (unpacked_idle s e) q)))
