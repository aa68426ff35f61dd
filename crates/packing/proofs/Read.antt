-- Reading a text: what each way out answers. Assumes nothing.
use Rattle.std.specs.Prelude.{Ok, Err}
use mathlib.Core.Path.{◌≡◌, refl, sym, ap, subst, ◌∙◌}
use mathlib.Core.Bool.{Bool, true, false, not}
use mathlib.Core.List.{List, [], ◌∷◌}
use Prim.Native.Nat.{ℕ, ◌+◌, ◌≤◌, ◌<◌}
use lib.ListN.{length}
use borrow.Author.Tests.{not-true, not-false}
use Rattle.model.specs.declared.Refusal.{Refusal}
use Rattle.model.specs.declared.Refusal.TheVariants.{NamesFull, BadLoad, MalformedLine, WrongState}
use Rattle.model.specs.Names.{pieces}
use Rattle.model.specs.Store.{Store, count, is_prepared}
use Rattle.model.specs.Reply.Call.{read_packed}
use Rattle.model.specs.Reply.Reply.{done, refused}
use Rattle.model.specs.Reply.Given.{number}
use Rattle.model.specs.PackedText.{Ref, line_feed, Reading, read_text, unpacked, loaded}
use Rattle.model.specs.PackedText.End.{whole, faulty}
use Rattle.model.specs.Calls.{text_read, step}
use Rattle.model.specs.Numbers.{answer}
use Rattle.model.proofs.TextLines.{Chain, read_chain}
use Rattle.texts.specs.declared.walk.Ending.{Ending}
use Rattle.texts.specs.declared.walk.Ending.TheVariants as ending
use Rattle.texts.specs.declared.walk.Checked.{Checked}
use Rattle.texts.specs.Walk.{first_refs, end_by, Checks}
use Rattle.region.specs.Region.{view, good, mode_byte, Became}
use Rattle.region.proofs.Read.{is_prepared_lem, not_prepared}
use Rattle.answers.specs.declared.Verdict.{Verdict}
use Rattle.answers.specs.Answers.{answer_by}
use Rattle.calls.specs.Call.{reply_to, Replied}
use Rattle.calls.proofs.Replies.{good_fine, says_no, says_done}
use Rattle.packing.specs.Load.{fits, after_refs, LinesLoad, LinesLoaded}
use Rattle.packing.proofs.Room.{room_there, room_gone, after_refs_lem, chain_can}

-- ---- what the model's reading comes to, by its parts

module _ (t : List ℕ) (s : Store) (idle : is_prepared s.prepared ≡ false) where
  pub reads_full : loaded (read_text t).refs (unpacked s) ≡ Err NamesFull → step (read_packed t) s ≡ refused NamesFull
  unfolding step text_read
  reads_full e = rw (idle, e)

  pub reads_faulty : (u : Store) (i : ℕ) (x : Refusal) → loaded (read_text t).refs (unpacked s) ≡ Ok u → (read_text t).end ≡ faulty i x
      → step (read_packed t) s ≡ refused x
  unfolding step text_read
  reads_faulty u i x e f = rw (idle, e, f)

  pub reads_whole : (u : Store) → loaded (read_text t).refs (unpacked s) ≡ Ok u → (read_text t).end ≡ whole
      → step (read_packed t) s ≡ done u (number (length (read_text t).refs))
  unfolding step text_read
  reads_whole u e f = rw (idle, e, f)

-- the refs that a text says rise, and can be loaded
chain_of : (t : List ℕ) → Chain [] (read_text t).refs
unfolding read_text
chain_of t = read_chain (pieces line_feed t) 1 [] false

-- ---- each way out

module _ (t r : List ℕ) (ok : Bool) (is : ok ≡ good r) (y : not ok ≡ false) (m : ℕ) (em : m ≡ mode_byte (view r).prepared) where
  pub read_busy : (m ≡ 0 → ⊥) → Replied (Err WrongState) r r (reply_to (read_packed t) r)
  unfolding step text_read
  read_busy h = says_no (read_packed t) r ok is refl y WrongState (rw (is_prepared_lem (view r).prepared (λ (q : mode_byte (view r).prepared ≡ 0). h (em ∙ q))))

  module _ (c : Checked) (k : Checks t c) where
    pub checked_lines : c.lines < length (pieces 10 t)
    checked_lines = k.lines

    refs : (read_text t).refs ≡ first_refs c.lines t
    refs = ap (λ (x : Reading). x.refs) k.reads

    end : (read_text t).end ≡ end_by c.ending (c.lines + 1)
    end = ap (λ (x : Reading). x.end) k.reads

    chain : Chain [] (first_refs c.lines t)
    chain = subst (Chain []) refs (chain_of t)

    few : count (view r) ≤ 256
    few = (good_fine r ok is y).few

    module _ (z : m ≡ 0) (b : Bool) (eb : b ≡ fits (view r).entries (count (view r)) (first_refs c.lines t)) where
      idle : is_prepared (view r).prepared ≡ false
      idle = ap is_prepared (not_prepared (view r).prepared (sym em ∙ z))

      pub read_full : not b ≡ true → Replied (Err NamesFull) r r (reply_to (read_packed t) r)
      read_full h =
          says_no (read_packed t) r ok is refl y NamesFull
          (reads_full t (view r) idle
          (ap (λ (rs : List Ref). loaded rs (unpacked (view r))) refs ∙ room_gone (first_refs c.lines t) [] (view r) chain few (sym eb ∙ not-true b h)))

      module _ (h : not b ≡ false) where
        there : (u : Store) × (loaded (first_refs c.lines t) (unpacked (view r)) ≡ Ok u)
        there = room_there (first_refs c.lines t) [] (view r) chain few (sym eb ∙ not-false b h)

        loads : loaded (read_text t).refs (unpacked (view r)) ≡ Ok there.0
        loads = ap (λ (rs : List Ref). loaded rs (unpacked (view r))) refs ∙ there.1

        pub read_malformed : c.ending ≡ ending.Malformed → Replied (Err (MalformedLine (c.lines + 1))) r r (reply_to (read_packed t) r)
        read_malformed q =
            says_no (read_packed t) r ok is refl y (MalformedLine (c.lines + 1))
            (reads_faulty t (view r) idle there.0 (c.lines + 1) (MalformedLine (c.lines + 1)) loads (end ∙ ap (λ (e : Ending). end_by e (c.lines + 1)) q))

        pub read_unpackable : c.ending ≡ ending.Unpackable → Replied (Err BadLoad) r r (reply_to (read_packed t) r)
        read_unpackable q =
            says_no (read_packed t) r ok is refl y BadLoad
            (reads_faulty t (view r) idle there.0 (c.lines + 1) BadLoad loads (end ∙ ap (λ (e : Ending). end_by e (c.lines + 1)) q))

        -- past all, the packed values go first
        pub read_loads : (r₁ : List ℕ) → Became r₁ (unpacked (view r)) → LinesLoad (first_refs c.lines t) (view r₁)
        read_loads r₁ g = record {
          can = chain_can [] (first_refs c.lines t) chain;
          then = there.0;
          loads = ap (loaded (first_refs c.lines t)) g.seen ∙ there.1;
        }

        pub read_done : (v : Verdict) (r₁ r₂ : List ℕ) → c.ending ≡ ending.Whole → Became r₁ (unpacked (view r)) → LinesLoaded (first_refs c.lines t) (view r₁) r₂
            → answer_by v ≡ answer 0 (c.refs ∷ []) → Replied (Ok v) r r₂ (reply_to (read_packed t) r)
        read_done v r₁ r₂ q g w a =
            let n : c.refs ≡ length (read_text t).refs = k.refs ∙ ap length (sym refs) in
            let s : view r₂ ≡ there.0 =
            w.seen ∙ ap (after_refs (first_refs c.lines t)) g.seen ∙ sym (after_refs_lem (first_refs c.lines t) (unpacked (view r)) there.0 there.1) in
            says_done (read_packed t) r ok is refl y v there.0 (number (length (read_text t).refs)) r₂
            (reads_whole t (view r) idle there.0 loads (end ∙ ap (λ (e : Ending). end_by e (c.lines + 1)) q))
            (a ∙ ap (λ (n : ℕ). answer 0 (n ∷ [])) n)
            (record { laid = w.laid; seen = s })
