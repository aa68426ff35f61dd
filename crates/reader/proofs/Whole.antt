-- The whole record: the site, what stands behind the settings of one byte, all entries, and the frame. Assumes nothing.
use Rattle.std.specs.Prelude.{Option, Some, None}
use mathlib.Core.Path.{◌≡◌, refl, sym, ap, ap₂, ◌∙◌}
use mathlib.Core.Bool.{Bool, cond}
use mathlib.Core.List.{List, [], ◌∷◌}
use Prim.Native.Nat.{ℕ, ◌+◌, ◌-◌, ◌≤◌, ◌<◌}
use native.Mathlib.Omega.{arith}
use lib.ListN.{length, get_or, drop, length-drop}
use lib.Seq.{drop-drop}
use lib.Dec.{eqb}
use mir.Syntax.{w8, w64}
use mir.Val.{Fits}
use borrow.Author.Tests.{eq-eqb, ne_eqb}
use Rattle.word.specs.Be.{cut, val}
use Rattle.word.proofs.Be.{bytes_all, val_cut}
use Rattle.model.specs.EditList.{◌>>=◌}
use Rattle.model.proofs.Binds.{none_some}
use Rattle.settings.specs.Format.{Committer, Settings, Split, Number, has_site, entry_in, number_in, committers_in, ended, site_in, entries_in, settings_in}
use Rattle.reader.specs.declared.Tail.{Tail}
use Rattle.reader.specs.declared.Summary.{Summary}
use Rattle.reader.specs.Reading.{size_in, value_in, count_in, tail_in, summary_in}
use Rattle.settings.proofs.Splits.{to_end, split_at, split_past}
use Rattle.reader.proofs.Entries.{content_stands, number_behind, number_stands}

-- ---- the site

module _ (v : ℕ) (r : List ℕ) where
  pub site_none : (v ≡ 2 → ⊥) → length r ≡ 0 → Some 0 ≡ site_in (has_site v) r
  unfolding site_in
  site_none h e = rw (ne_eqb v 2 h) (go r e)
    where
      go : (r : List ℕ) → length r ≡ 0 → Some 0 ≡ ended r 0
      go [] e = refl
      go (b ∷ r) e = absurd (omega arith)

  pub site_left : (v ≡ 2 → ⊥) → (length r ≡ 0 → ⊥) → None ≡ site_in (has_site v) r
  unfolding site_in
  site_left h e = rw (ne_eqb v 2 h) (left r e 0)
    where
      left : (r : List ℕ) → (length r ≡ 0 → ⊥) → (x : ℕ) → None ≡ ended r x
      left [] e x = absurd (e refl)
      left (b ∷ r) e x = refl

  pub site_sized : v ≡ 2 → (length r ≡ 5 → ⊥) → None ≡ site_in (has_site v) r
  unfolding site_in
  site_sized h e = rw (eq-eqb v 2 h) (go (number_in 4 2 0 65535 r) refl)
    where
      left : (r : List ℕ) → (length r ≡ 0 → ⊥) → (x : ℕ) → None ≡ ended r x
      left [] e x = absurd (e refl)
      left (b ∷ r) e x = refl

      go : (y : Option Number) → number_in 4 2 0 65535 r ≡ y → None ≡ (y >>= λ site. ended site.behind site.value)
      go None p = refl
      go (Some n) p =
          let b = number_behind 4 2 0 65535 r n p in
          let l : length n.behind ≡ length r - 5 = ap length b.1 ∙ length-drop 5 r in
          left n.behind (λ q. e (omega (arith, b.0))) n.value

  pub site_is : (o : Option ℕ) → v ≡ 2 → length r ≡ 5 → o ≡ value_in (number_in 4 2 0 65535 r) → o ≡ site_in (has_site v) r
  unfolding site_in
  site_is o h e f = f ∙ rw (eq-eqb v 2 h) (go (number_in 4 2 0 65535 r) refl)
    where
      whole : (l : List ℕ) → length l ≡ 0 → (x : ℕ) → Some x ≡ ended l x
      whole [] e x = refl
      whole (b ∷ l) e x = absurd (omega arith)

      go : (y : Option Number) → number_in 4 2 0 65535 r ≡ y → value_in y ≡ (y >>= λ site. ended site.behind site.value)
      go None p = refl
      go (Some n) p =
          let b = number_behind 4 2 0 65535 r n p in
          let l : length n.behind ≡ length r - 5 = ap length b.1 ∙ length-drop 5 r in
          whole n.behind (omega arith) n.value

-- ---- committers and site

abbrev joined : Option ℕ → Option ℕ → Option Tail
joined count site = count >>= λ n. site >>= λ x. Some (record { committers = n; site = x })

module _ (v : ℕ) (r : List ℕ) (o : Option ℕ) (e : o ≡ size_in (entry_in 3 r)) where
  pub tail_none : o ≡ None → None ≡ tail_in v r
  unfolding tail_in
  tail_none h = go (entry_in 3 r) (sym (h) ∙ e)
    where
      go : (y : Option Split) → None ≡ size_in y
          → ◌≡◌ {A = Option Tail} None
          (y >>= λ list. committers_in 16 0 list.front >>= λ committers. site_in (has_site v) list.behind >>= λ site. Some (record { committers = length committers; site = site }))
      go None q = refl
      go (Some s) q = absurd (none_some q)

  module _ (k : ℕ) (h : o ≡ Some k) where
    pub content_room : 3 + k ≤ length r
    content_room = (content_stands 3 r o k e h).0

    module _ (u : Option ℕ) (g : u ≡ count_in (committers_in 16 0 (cut 3 (3 + k - 3) r))) where
      by_count : tail_in v r ≡ joined (u) (site_in (has_site v) (drop (3 + k) r))
      unfolding tail_in
      by_count =
          let s = content_stands 3 r o k e h in
          let w : k ≡ 3 + k - 3 = omega arith in
          rw s.1
          (counted (committers_in 16 0 (cut 3 k r))
          ∙ ap (λ (n : ℕ). joined (count_in (committers_in 16 0 (cut 3 n r))) (site_in (has_site v) (drop (3 + k) r))) w
          ∙ ap (λ (c : Option ℕ). joined c (site_in (has_site v) (drop (3 + k) r))) (sym g))
        where
          counted : (cs : Option (List Committer))
              → (cs >>= λ committers. site_in (has_site v) (drop (3 + k) r) >>= λ site. Some (record { committers = length committers; site = site }))
              ≡ joined (count_in cs) (site_in (has_site v) (drop (3 + k) r))
          counted None = refl
          counted (Some cs) = refl

      pub tail_count : u ≡ None → None ≡ tail_in v r
      tail_count q = sym (by_count ∙ ap (λ (u : Option ℕ). joined (u) (site_in (has_site v) (drop (3 + k) r))) q)

      module _ (n : ℕ) (q : u ≡ Some n) (w : Option ℕ)
          (f : w ≡ site_in (has_site v) (cut (3 + k) (length r - (3 + k)) r)) where
        by_site : tail_in v r ≡ joined (Some n) (w)
        by_site =
            by_count
            ∙ ap₂ (λ (u : Option ℕ) (l : List ℕ). joined (u) (site_in (has_site v) l)) q (sym (to_end (3 + k) r))
            ∙ ap (joined (Some n)) (sym f)

        pub tail_site : w ≡ None → None ≡ tail_in v r
        tail_site j = sym (by_site ∙ ap (λ (w : Option ℕ). joined (Some n) (w)) j)

        pub tail_is : (x : ℕ) → w ≡ Some x → (t : Tail) → t ≡ record { committers = n; site = x } → Some t ≡ tail_in v r
        tail_is x j t i = ap (λ (t : Tail). Some t) i ∙ sym (by_site ∙ ap (λ (w : Option ℕ). joined (Some n) (w)) j)

-- ---- all entries

-- the tail behind a log setting and a mode
abbrev with_tail : ℕ → ℕ → Option Tail → Option Summary
with_tail log mode None = None
with_tail log mode (Some t) = Some (record { log = log; mode = mode; site = t.site; committers = t.committers })

abbrev settings_from : ℕ → ℕ → ℕ → List ℕ → Option Settings
settings_from v log mode r = do
  list ← entry_in 3 r
  committers ← committers_in 16 0 list.front
  site ← site_in (has_site v) list.behind
  Some (record { log = log; mode = mode; committers = committers; site = site })

by_tail : (v log mode : ℕ) (r : List ℕ) → summary_in (settings_from v log mode r) ≡ with_tail log mode (tail_in v r)
unfolding tail_in
by_tail v log mode r = list (entry_in 3 r)
  where
    site : (cs : List Committer) (x : Option ℕ)
        → summary_in (x >>= λ site. Some (record { log = log; mode = mode; committers = cs; site = site }))
        ≡ with_tail log mode (x >>= λ site. Some (record { committers = length cs; site = site }))
    site cs None = refl
    site cs (Some x) = refl

    committers : (l : List ℕ) (w : Option (List Committer))
        → summary_in (w >>= λ cs. site_in (has_site v) l >>= λ site. Some (record { log = log; mode = mode; committers = cs; site = site }))
        ≡ with_tail log mode (w >>= λ cs. site_in (has_site v) l >>= λ site. Some (record { committers = length cs; site = site }))
    committers l None = refl
    committers l (Some cs) = site cs (site_in (has_site v) l)

    list : (y : Option Split)
        → summary_in (y >>= λ list. committers_in 16 0 list.front >>= λ cs. site_in (has_site v) list.behind >>= λ site. Some (record { log = log; mode = mode; committers = cs; site = site }))
        ≡ with_tail log mode (y >>= λ list. committers_in 16 0 list.front >>= λ cs. site_in (has_site v) list.behind >>= λ site. Some (record { committers = length cs; site = site }))
    list None = refl
    list (Some e) = committers e.behind (committers_in 16 0 e.front)

module _ (v : ℕ) (r : List ℕ) (o : Option ℕ) (e : o ≡ value_in (number_in 1 1 0 2 r)) where
  pub entries_log : o ≡ None → None ≡ summary_in (entries_in v r)
  unfolding entries_in
  entries_log h = go (number_in 1 1 0 2 r) (sym (h) ∙ e)
    where
      go : (y : Option Number) → None ≡ value_in y
          → None ≡ summary_in (y >>= λ log. number_in 2 1 1 3 log.behind >>= λ mode. settings_from v log.value mode.value mode.behind)
      go None q = refl
      go (Some n) q = absurd (none_some q)

  module _ (log : ℕ) (h : o ≡ Some log) where
    pub log_room : 4 ≤ length r
    log_room = (number_stands 1 1 0 2 r o log e h).0

    behind_log : entries_in v r ≡ (number_in 2 1 1 3 (drop 4 r) >>= λ mode. settings_from v log mode.value mode.behind)
    unfolding entries_in
    behind_log = rw (number_stands 1 1 0 2 r o log e h).1

    module _ (w : Option ℕ) (f : w ≡ value_in (number_in 2 1 1 3 (cut 4 (length r - 4) r))) where
      mode_told : w ≡ value_in (number_in 2 1 1 3 (drop 4 r))
      mode_told = f ∙ ap (λ (l : List ℕ). value_in (number_in 2 1 1 3 l)) (to_end 4 r)

      pub entries_mode : w ≡ None → None ≡ summary_in (entries_in v r)
      entries_mode q = sym (ap summary_in behind_log ∙ go (number_in 2 1 1 3 (drop 4 r)) (sym (q) ∙ mode_told))
        where
          go : (y : Option Number) → None ≡ value_in y → summary_in (y >>= λ mode. settings_from v log mode.value mode.behind) ≡ None
          go None q = refl
          go (Some n) q = absurd (none_some q)

      module _ (mode : ℕ) (q : w ≡ Some mode) where
        pub mode_room : 4 ≤ length (cut 4 (length r - 4) r)
        mode_room =
            let s : 4 ≤ length (drop 4 r) = (number_stands 2 1 1 3 (drop 4 r) w mode mode_told q).0 in
            let l : length (cut 4 (length r - 4) r) ≡ length (drop 4 r) = ap length (to_end 4 r) in
            omega arith

        behind_mode : summary_in (entries_in v r) ≡ with_tail log mode (tail_in v (drop 4 (drop 4 r)))
        behind_mode =
            ap summary_in behind_log
            ∙ ap (λ (y : Option Number). summary_in (y >>= λ mode. settings_from v log mode.value mode.behind))
            (number_stands 2 1 1 3 (drop 4 r) w mode mode_told q).1
            ∙ by_tail v log mode (drop 4 (drop 4 r))

        module _ (t : Option Tail)
            (g : t ≡ tail_in v (cut 4 (length (cut 4 (length r - 4) r) - 4) (cut 4 (length r - 4) r))) where
          behind_tail : summary_in (entries_in v r) ≡ with_tail log mode (t)
          behind_tail =
              behind_mode
              ∙ ap (λ (l : List ℕ). with_tail log mode (tail_in v (drop 4 l))) (sym (to_end 4 r))
              ∙ ap (λ (l : List ℕ). with_tail log mode (tail_in v l)) (sym (to_end 4 (cut 4 (length r - 4) r)))
              ∙ ap (with_tail log mode) (sym g)

          pub entries_tail : t ≡ None → None ≡ summary_in (entries_in v r)
          entries_tail j = sym (behind_tail ∙ ap (λ (t : Option Tail). with_tail log mode (t)) j)

          pub entries_are : (x : Tail) → t ≡ Some x → (s : Summary)
              → s ≡ record { log = log; mode = mode; site = x.site; committers = x.committers } → Some s ≡ summary_in (entries_in v r)
          entries_are x j s i =
              ap (λ (s : Summary). Some s) i ∙ sym (behind_tail ∙ ap (λ (t : Option Tail). with_tail log mode (t)) j)

-- ---- the frame

module _ (v : ℕ) (r : List ℕ) where
  pub frame_short : length r < 3 → None ≡ summary_in (settings_in v (drop 1 r))
  unfolding settings_in
  frame_short h =
      let l : length (drop 1 r) ≡ length r - 1 = length-drop 1 r in
      let q : length (drop 1 r) < 2 = omega arith in
      rw (split_past 2 (drop 1 r) q)

  module _ (n : ℕ) (l : 3 ≤ length r) (e : n ≡ val (cut 1 2 r)) where
    in_frame : settings_in v (drop 1 r) ≡ cond (eqb n (length r - 3)) (entries_in v (drop 3 r)) None
    unfolding settings_in
    in_frame =
        let d : length (drop 1 r) ≡ length r - 1 = length-drop 1 r in
        let q : 2 ≤ length (drop 1 r) = omega arith in
        rw (split_at 2 (drop 1 r) q)
        (ap₂ (λ (n : ℕ) (l : List ℕ). cond (eqb n (length l)) (entries_in v l) None) (sym e) (drop-drop 2 1 r)
        ∙ ap (λ (k : ℕ). cond (eqb n k) (entries_in v (drop 3 r)) None) (length-drop 3 r))

    pub frame_other : (3 + n ≡ length r → ⊥) → None ≡ summary_in (settings_in v (drop 1 r))
    frame_other h =
        let d : n ≡ length r - 3 → ⊥ = λ q. h (omega arith) in
        sym (ap summary_in (in_frame ∙ ap (λ (t : Bool). cond t (entries_in v (drop 3 r)) None) (ne_eqb n (length r - 3) d)))

    pub frame_is : 3 + n ≡ length r → (o : Option Summary) → o ≡ summary_in (entries_in v (cut 3 (length r - 3) r))
        → o ≡ summary_in (settings_in v (drop 1 r))
    frame_is h o f =
        let d : n ≡ length r - 3 = omega arith in
        f
        ∙ ap (λ (l : List ℕ). summary_in (entries_in v l)) (to_end 3 r)
        ∙ sym (ap summary_in (in_frame ∙ ap (λ (t : Bool). cond t (entries_in v (drop 3 r)) None) (eq-eqb n (length r - 3) d)))

-- the length of the rest is short
pub rest_fits : (r : List ℕ) (n : ℕ) → ((i : ℕ) → Fits w8 (get_or r i 0)) → n ≡ val (cut 1 2 r) → Fits w64 (3 + n)
rest_fits r n b e =
    let q : val (cut 1 2 r) < 65536 = val_cut 1 2 (bytes_all r (λ i. (b i).fits)) in
    record { fits = omega arith }
