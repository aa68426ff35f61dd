-- The whole record: read as it was written, written as it was read, how long it is, and where the committers stand. Assumes nothing.
use Rattle.std.specs.Prelude.{Some, Ok}
use mathlib.Core.Path.{◌≡◌, refl, sym, ap, ap₂, subst, ◌∙◌}
use mathlib.Core.Bool.{Bool, true, false, ◌&&◌, ◌||◌, cond}
use mathlib.Core.List.{List, [], ◌∷◌, ◌++◌, append_assoc, append-nil}
use Prim.Native.Nat.{ℕ, ◌+◌, ◌*◌, ◌-◌, ◌≤◌, ◌<◌, ◌^◌}
use native.Mathlib.Omega.{arith}
use lib.ListN.{length, get_or, length-append}
use lib.Dec.{eqb, leb, lit<}
use lib.Pow.{are_bytes}
use borrow.Author.Tests.{leb-true, le-leb, eqb-true, eq-eqb}
use Rattle.word.specs.Be.{Bytes, cut, val, be}
use Rattle.word.specs.Be.Bytes.{none as no_bytes}
use Rattle.word.proofs.Be.{length_be, val_be, bytes_append, bytes_be, bytes_are, are_bytes_lem}
use Rattle.word.proofs.Cut.{cut_right}
use Rattle.word.proofs.Tests.{both_true, true_both, every_at}
use Rattle.model.specs.declared.Refusal.TheVariants.{MalformedRecord, UnknownVersion}
use Rattle.model.specs.Basic.{every, collect}
use Rattle.model.proofs.Binds.{none_some, some_is, some_then, cond_some, pass_is, refuse_pass, or_refuse_inv}
use Rattle.word.proofs.Fields.{at_seam}
use Rattle.settings.specs.Format.{Committer, Settings, within, rising, in_bounds, is_version, has_site, entry, listed}
use Rattle.settings.specs.Format.{site_entry, entries, form, writable, write, split, entry_in, number_in, committers_in, ended, site_in}
use Rattle.settings.specs.Format.{entries_in, settings_in, read}
use Rattle.settings.specs.Lent.{committer_at, name_at, name_in}
use Rattle.settings.proofs.Splits.{passed, split_in, Pieces, split_back}
use Rattle.settings.proofs.Entries.{entry_length, entry_bytes, entry_in_lem, Entered, entry_back, number_in_lem, Numbered, number_back}
use Rattle.settings.proofs.Committers.{committers_in_lem, Listed, committers_back, all_short, all_bytes, name_in_lem}

-- ---- what is written

-- settings within bounds, of which the version says all
pub record Writable (v : ℕ) (s : Settings) : Type 0 where
  pub log : within 0 2 s.log ≡ true
  pub mode : within 1 3 s.mode ≡ true
  pub few : length s.committers ≤ 16
  pub order : rising 0 s.committers ≡ true
  pub site : within 0 65535 s.site ≡ true
  pub said : (has_site v || eqb s.site 0) ≡ true

-- the test says so
pub writable_is : (v : ℕ) (s : Settings) → writable v s ≡ true → Writable v s
unfolding writable in_bounds
writable_is v s h =
    let ts : List Bool =
    within 0 2 s.log ∷ within 1 3 s.mode ∷ leb (length s.committers) 16 ∷ rising 0 s.committers
    ∷ within 0 65535 s.site ∷ [] in
    let b = both_true (every ts) _ h in
    record {
      log = every_at ts 0 b.0;
      mode = every_at ts 1 b.0;
      few = leb-true _ _ (every_at ts 2 b.0);
      order = every_at ts 3 b.0;
      site = every_at ts 4 b.0;
      said = b.1;
    }

-- and passes where it is so
pub is_writable : (v : ℕ) (s : Settings) → Writable v s → writable v s ≡ true
unfolding writable in_bounds
is_writable v s w =
    true_both
    (true_both w.log (true_both w.mode (true_both (le-leb _ 16 w.few) (true_both w.order (true_both w.site refl)))))
    w.said

-- a number within bounds fits where the upper one does
fits : (least most x n : ℕ) → within least most x ≡ true → most < n → x < n
fits least most x n h g = let e : x ≤ most = leb-true x most (both_true (leb least x) _ h).1 in omega arith

-- ---- how long it is

-- what the committers' entry holds
abbrev content : Settings → List ℕ
content s = collect listed s.committers

-- a record with a site is 5 bytes longer
with_site : (t : Bool) (site n : ℕ) → n + length (site_entry t site) ≡ cond t (n + 3 + 2) n
unfolding site_entry
with_site false site n = omega arith
with_site true site n = rw (entry_length, length_be) (omega arith)

-- its entry is 5 bytes or none
site_short : (t : Bool) (site : ℕ) → length (site_entry t site) ≤ 5
unfolding site_entry
site_short false site = omega arith
site_short true site = rw (entry_length, length_be) (omega arith)

-- its entry is bytes
site_bytes : (t : Bool) (site : ℕ) → Bytes (site_entry t site)
unfolding site_entry
site_bytes false site = no_bytes
site_bytes true site = entry_bytes 4 _ (lit< tt) (bytes_be 2 site)

module _ (v : ℕ) (s : Settings) where
  -- the entries' lengths together
  entries_length : length (entries v s) ≡ 11 + length (content s) + length (site_entry (has_site v) s.site)
  unfolding entries
  entries_length = simp (length-append, entry_length, length_be) (omega arith)

  -- the record's length, with the site's entry as it is
  form_sum : length (form v s) ≡ 14 + length (content s) + length (site_entry (has_site v) s.site)
  unfolding form
  form_sum = simp (length-append, length_be, entries_length) (omega arith)

  -- 14 bytes more than the committers, and the site's 5
  pub form_length : length (form v s)
      ≡ cond (has_site v) (14 + length (collect listed s.committers) + 3 + 2) (14 + length (collect listed s.committers))
  form_length = form_sum ∙ with_site (has_site v) s.site _

  -- 16 committers of 35 bytes are the most
  committers_short : Writable v s → length (content s) ≤ 560
  committers_short w =
      let h : length (content s) ≤ length s.committers * 35 = all_short 0 s.committers w.order in
      omega arith

  -- the most with the other entries
  entries_short : Writable v s → length (entries v s) ≤ 576
  entries_short w =
      omega (arith, entries_length, committers_short w, site_short (has_site v) s.site)

  -- the most with the version and the length
  pub form_short : Writable v s → length (form v s) ≤ 579
  unfolding form
  form_short w = let h = entries_short w in simp (length-append, length_be) (omega arith)

  -- the entries are bytes
  entries_bytes : Writable v s → Bytes (entries v s)
  unfolding entries
  entries_bytes w =
      bytes_append (entry_bytes 1 _ (lit< tt) (bytes_be 1 s.log))
      (bytes_append (entry_bytes 2 _ (lit< tt) (bytes_be 1 s.mode))
      (bytes_append (entry_bytes 3 _ (lit< tt) (all_bytes 0 s.committers w.order)) (site_bytes (has_site v) s.site)))

-- ---- the site

-- a site that was written is read
site_in_lem : (t : Bool) (site : ℕ) → within 0 65535 site ≡ true → (t || eqb site 0) ≡ true → site_in t (site_entry t site) ≡ Some site
unfolding site_in site_entry
site_in_lem false site h g = ap Some (sym (eqb-true site 0 g))
site_in_lem true site h g =
    ap (site_in true) (sym (append-nil (entry 4 (be 2 site))))
    ∙ rw (number_in_lem 4 2 0 65535 site [] (lit< tt) (fits 0 65535 site 65536 h (lit< tt)) h)

-- a site that was read, of bytes
record Sited (t : Bool) (r : List ℕ) (x : ℕ) : Type 0 where
  whole : site_entry t x ≡ r
  bound : within 0 65535 x ≡ true
  said : (t || eqb x 0) ≡ true

-- nothing stood behind the last entry
ended_back : (r : List ℕ) (x y : ℕ) → ended r x ≡ Some y → (r ≡ []) × (x ≡ y)
ended_back [] x y h = (refl, some_is h)
ended_back (b ∷ r) x y h = absurd (none_some h)

-- what is read is what the writer makes of the site
site_back : (t : Bool) (r : List ℕ) (x : ℕ) → Bytes r → site_in t r ≡ Some x → Sited t r x
unfolding site_in site_entry
site_back false r x b h =
    let e = ended_back r 0 x h in
    subst (Sited false r) e.1 (record { whole = sym e.0; bound = refl; said = refl })
site_back true r x b h =
    some_then (number_in 4 2 0 65535 r) _ x h λ n p q.
    let s : Numbered 4 2 0 65535 r n = number_back 4 2 0 65535 r n b p in
    let e = ended_back n.behind n.value x q in
    subst (Sited true r) e.1 (record {
      whole = sym (append-nil (entry 4 (be 2 n.value))) ∙ ap (λ (l : List ℕ). entry 4 (be 2 n.value) ++ l) (sym e.0) ∙ s.whole;
      bound = s.bound;
      said = refl;
    })

-- ---- the entries

-- settings that were written are read
entries_in_lem : (v : ℕ) (s : Settings) → Writable v s → entries_in v (entries v s) ≡ Some s
unfolding entries_in entries
entries_in_lem v s w =
    let short : length (content s) < 65535 = omega (arith, committers_short v s w) in
    rw (
      number_in_lem 1 1 0 2 s.log _ (lit< tt) (fits 0 2 s.log 256 w.log (lit< tt)) w.log,
      number_in_lem 2 1 1 3 s.mode _ (lit< tt) (fits 1 3 s.mode 256 w.mode (lit< tt)) w.mode,
      entry_in_lem 3 (content s) _ short,
      committers_in_lem 16 0 s.committers w.few w.order,
      site_in_lem (has_site v) s.site w.site w.said,
    )

-- settings that were read of their entries, of bytes
record Entries (v : ℕ) (r : List ℕ) (s : Settings) : Type 0 where
  whole : entries v s ≡ r
  fine : Writable v s

-- what is read is what the writer makes of the settings
entries_back : (v : ℕ) (r : List ℕ) (s : Settings) → Bytes r → entries_in v r ≡ Some s → Entries v r s
unfolding entries_in entries
entries_back v r s b h =
    some_then (number_in 1 1 0 2 r) _ s h λ log p₁ h₁.
    some_then (number_in 2 1 1 3 log.behind) _ s h₁ λ mode p₂ h₂.
    some_then (entry_in 3 mode.behind) _ s h₂ λ list p₃ h₃.
    some_then (committers_in 16 0 list.front) _ s h₃ λ cs p₄ h₄.
    some_then (site_in (has_site v) list.behind) _ s h₄ λ site p₅ h₅.
    let l : Numbered 1 1 0 2 r log = number_back 1 1 0 2 r log b p₁ in
    let m : Numbered 2 1 1 3 log.behind mode = number_back 2 1 1 3 log.behind mode l.rest p₂ in
    let e : Entered 3 mode.behind list = entry_back 3 mode.behind list m.rest p₃ in
    let c : Listed 16 0 list.front cs = committers_back 16 0 list.front cs e.content p₄ in
    let t : Sited (has_site v) list.behind site = site_back (has_site v) list.behind site e.rest p₅ in
    subst (Entries v r) (some_is h₅) (record {
      whole =
          ap (λ (x : List ℕ). entry 1 (be 1 log.value) ++ x)
          (ap (λ (x : List ℕ). entry 2 (be 1 mode.value) ++ x)
          (ap₂ (λ (x y : List ℕ). entry 3 x ++ y) c.whole t.whole ∙ e.whole) ∙ m.whole)
          ∙ l.whole;
      fine = record { log = l.bound; mode = m.bound; few = c.few; order = c.order; site = t.bound; said = t.said };
    })

-- ---- the record

-- what stands behind the version
abbrev rest : ℕ → Settings → List ℕ
rest v s = be 2 (length (entries v s)) ++ entries v s

-- behind the version, what was written is read
settings_in_lem : (v : ℕ) (s : Settings) → Writable v s → settings_in v (rest v s) ≡ Some s
unfolding settings_in
settings_in_lem v s w =
    let n : ℕ = length (entries v s) in
    let small : n < 256 ^ 2 = omega (arith, entries_short v s w) in
    rw (split_in 2 (be 2 n) (entries v s) (length_be 2 n), val_be 2 n small, eq-eqb n n refl) (entries_in_lem v s w)

-- and what is read was written
settings_back : (v : ℕ) (r : List ℕ) (s : Settings) → Bytes r → settings_in v r ≡ Some s → (rest v s ≡ r) × Writable v s
unfolding settings_in
settings_back v r s b h =
    some_then (split 2 r) _ s h λ size p q.
    let i = cond_some (eqb (val size.front) (length size.behind)) _ s q in
    let t : Pieces 2 r size = split_back 2 r size b p in
    let e : Entries v size.behind s = entries_back v size.behind s t.rest i.1 in (
      ap (λ (l : List ℕ). be 2 (length l) ++ l) e.whole
          ∙ ap (λ (l : List ℕ). l ++ size.behind) (ap (be 2) (sym (eqb-true _ _ i.0)) ∙ t.number)
          ∙ t.whole,
      e.fine,
    )

-- a record that was written: in a version, of settings that it can say
pub record Written (v : ℕ) (s : Settings) (r : List ℕ) : Type 0 where
  pub version : is_version v ≡ true
  pub fine : Writable v s
  pub whole : form v s ≡ r

-- what the writer gave was written so
pub written : (v : ℕ) (s : Settings) (r : List ℕ) → write v s ≡ Ok r → Written v s r
unfolding write
written v s r h =
    let i = passed (is_version v) _ UnknownVersion r h in
    let j = passed (writable v s) _ MalformedRecord r i.1 in
    record { version = i.0; fine = writable_is v s j.0; whole = pass_is j.1 }

-- what is written so the writer gives
pub is_written : (v : ℕ) (s : Settings) (r : List ℕ) → Written v s r → write v s ≡ Ok r
unfolding write
is_written v s r w = rw (w.version, is_writable v s w.fine) (ap Ok w.whole)

-- what was written is read by a reader that knows the version
pub read_form : (known v : ℕ) (s : Settings) → is_version known ≡ true → is_version v ≡ true → v ≤ known → Writable v s
    → read known (form v s) ≡ Ok s
unfolding read form
read_form known v s h g k w =
    let b : Bytes (rest v s) = bytes_append (bytes_be 2 (length (entries v s))) (entries_bytes v s w) in
    rw (h, g, le-leb v known k, bytes_are b, settings_in_lem v s w)

-- what was read was written, in the version that it has
pub was_written : (known : ℕ) (r : List ℕ) (s : Settings) → read known r ≡ Ok s → Written (get_or r 0 0) s r
unfolding read form
was_written known [] s h = absurd (refuse_pass (passed (is_version known) _ UnknownVersion s h).1)
was_written known (v ∷ r) s h =
    let i = passed (is_version known) _ UnknownVersion s h in
    let j = passed (is_version v && leb v known) _ UnknownVersion s i.1 in
    let o = cond_some (are_bytes r) _ s (or_refuse_inv MalformedRecord _ s j.1) in
    let e = settings_back v r s (are_bytes_lem r o.0) o.1 in
    record { version = (both_true (is_version v) _ j.0).0; fine = e.1; whole = ap (λ (l : List ℕ). v ∷ l) e.0 }

-- ---- where the committers stand

-- the 11 bytes before their entry, its length, and its content, which begins at byte 14
abbrev heading : ℕ → Settings → List ℕ
heading v s = v ∷ (be 2 (length (entries v s)) ++ (entry 1 (be 1 s.log) ++ entry 2 (be 1 s.mode)))

abbrev size : Settings → List ℕ
size s = be 2 (length (3 ∷ content s))

abbrev before : ℕ → Settings → List ℕ
before v s = heading v s ++ (size s ++ (3 ∷ []))

abbrev onward : ℕ → Settings → List ℕ
onward v s = content s ++ site_entry (has_site v) s.site

-- what a reader finds there: the length of the rest of the entry, which the record has, and the content
abbrev pub Stands : List ℕ → List Committer → Type 0
Stands r cs =
    (1 ≤ val (cut 11 2 r)) × (13 + val (cut 11 2 r) ≤ length r) × (committers_in 16 0 (cut 14 (val (cut 11 2 r) - 1) r) ≡ Some cs)

module _ (v : ℕ) (s : Settings) where
  -- the committers' entry begins at byte 11
  heading_length : length (heading v s) ≡ 11
  heading_length = simp (length-append, entry_length, length_be) (omega arith)

  -- its content at byte 14
  before_length : length (before v s) ≡ 14
  before_length = simp (length-append, entry_length, length_be) (omega arith)

  -- the record in pieces, at the length of that entry
  at_size : form v s ≡ heading v s ++ (size s ++ (3 ∷ onward v s))
  unfolding form entries entry
  at_size = simp append_assoc

  -- and at its content
  at_content : form v s ≡ before v s ++ onward v s
  at_content = at_size ∙ simp append_assoc

  -- the length of that entry's rest
  size_is : Writable v s → val (cut 11 2 (form v s)) ≡ 1 + length (content s)
  size_is w =
      let n : ℕ = length (3 ∷ content s) in
      let small : n < 256 ^ 2 = omega (arith, committers_short v s w) in
      ap val (ap (cut 11 2) at_size ∙ at_seam (heading v s) (size s) _ 11 2 heading_length (length_be 2 n))
      ∙ val_be 2 n small
      ∙ omega arith

  -- the committers stand in what is written
  form_stands : Writable v s → Stands (form v s) s.committers
  form_stands w =
      let k : ℕ = length (content s) in
      let e : val (cut 11 2 (form v s)) ≡ 1 + k = size_is w in
      let f : val (cut 11 2 (form v s)) - 1 ≡ k = omega arith in
      let c : cut 14 k (form v s) ≡ content s =
      ap (cut 14 k) at_content ∙ at_seam (before v s) _ (site_entry (has_site v) s.site) 14 k before_length refl in (
        omega arith,
        omega (arith, form_sum v s),
        ap (λ (n : ℕ). committers_in 16 0 (cut 14 n (form v s))) f
            ∙ ap (committers_in 16 0) c
            ∙ committers_in_lem 16 0 s.committers w.few w.order,
      )

  -- a name is that stretch of the record
  pub name_at_lem : (i : ℕ) → i < length s.committers
      → cut (name_at i s) (length (committer_at s i).name) (form v s) ≡ (committer_at s i).name
  name_at_lem i h =
      let k : ℕ = length (committer_at s i).name in
      let a : ℕ = name_in i s.committers in
      ap (cut (14 + a) k) at_content
      ∙ ap (λ (n : ℕ). cut (n + a) k (before v s ++ onward v s)) (sym before_length)
      ∙ cut_right a k (before v s) (onward v s)
      ∙ name_in_lem s.committers i (site_entry (has_site v) s.site) h

-- the committers stand in every record that is read
pub list_stands : (known : ℕ) (r : List ℕ) (s : Settings) → read known r ≡ Ok s → Stands r s.committers
list_stands known r s h =
    let w = was_written known r s h in
    subst (λ (l : List ℕ). Stands l s.committers) w.whole (form_stands (get_or r 0 0) s w.fine)
