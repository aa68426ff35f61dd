-- Tables for the place where a value was found: all five through both calls, in each mode, with the packed table opened and
-- not. The same claim: every line comes out so. They are several, so that each is computed by itself.
use mathlib.Core.Path.{refl}
use mathlib.Core.List.{List, [], ◌∷◌, ◌++◌}
use Prim.Native.Nat.{ℕ}
use Rattle.model.specs.Basic.{text}
use Rattle.model.specs.Reply.{Call}
use Rattle.model.specs.Reply.Call.{start, add_name, load_loose, load_packed, place_lock, prepare, commit, rollback, read_name, read_row}
use Rattle.model.specs.Numbers.{answer}
use Rattle.model.proofs.AtWork.Cases.{Case, Right, Wish, HEAD, blank, update, delete, through, log_only, object, list, ◌⇒◌}
use Rattle.model.proofs.AtWork.Open.{open_all}

-- ---- a name for each place, and a link

abbrev laid : ℕ
laid = 1

abbrev packed : ℕ
packed = 2

abbrev bent : ℕ
bent = 3

abbrev none : ℕ
none = 4

abbrev gone : ℕ
gone = 5

abbrev names : List Call
names =
    start 1
    ∷ add_name (text "HEAD")
    ∷ add_name (text "refs/heads/laid")
    ∷ add_name (text "refs/heads/packed")
    ∷ add_name (text "refs/heads/bent")
    ∷ add_name (text "refs/heads/none")
    ∷ add_name (text "refs/heads/gone")
    ∷ []

-- `laid` has a packed value too, which its loose one hides; `bent` and `gone` are broken
abbrev valued : List Call
valued =
    names
    ++ (load_loose HEAD 2 bent
    ∷ load_loose laid 1 11
    ∷ load_packed laid 1 10
    ∷ load_packed packed 1 12
    ∷ load_loose bent 3 0
    ∷ load_packed bent 1 13
    ∷ load_loose gone 3 0
    ∷ [])

-- ---- read_name

unfoldable pub of_names : List Case
of_names =
    record {
      title = "a name's value and its place: loose, a link and an object; packed; packed behind a broken loose; absent; absent behind one";
      store = blank;
      made = valued;
      lines =
          read_name HEAD ⇒ answer 0 (2 ∷ bent ∷ 1 ∷ [])
          ∷ read_name laid ⇒ answer 0 (1 ∷ 11 ∷ 1 ∷ [])
          ∷ read_name packed ⇒ answer 0 (1 ∷ 12 ∷ 2 ∷ [])
          ∷ read_name bent ⇒ answer 0 (1 ∷ 13 ∷ 3 ∷ [])
          ∷ read_name none ⇒ answer 0 (0 ∷ 0 ∷ 4 ∷ [])
          ∷ read_name gone ⇒ answer 0 (0 ∷ 0 ∷ 5 ∷ [])
          ∷ [];
    }
    ∷ []

pub of_names_right : Right of_names
unfolding open_all Right of_names
of_names_right = refl

-- ---- read_row

-- an update of each to object 7, and its row: whether of the log only, what is expected, the place
abbrev each : (Wish → Wish) → List ℕ
each f =
    list
    (f (update laid (object 7))
    ∷ f (update packed (object 7))
    ∷ f (update bent (object 7))
    ∷ f (update none (object 7))
    ∷ f (update gone (object 7))
    ∷ [])

abbrev row : ℕ → ℕ → List ℕ → ℕ → List ℕ
row n log was place = n ∷ 1 ∷ log ∷ 0 ∷ 3 ∷ was ++ (1 ∷ 7 ∷ 0 ∷ 0 ∷ 0 ∷ place ∷ [])

-- what R3 makes of the expected value: it was there, or it was not and nothing was expected
abbrev there : ℕ → List ℕ
there o = 3 ∷ 1 ∷ o ∷ []

abbrev nowhere : List ℕ
nowhere = 0 ∷ 0 ∷ 0 ∷ []

abbrev whole : Wish → Wish
whole w = w

unfoldable pub opened : ℕ → List Case
opened mode =
    record {
      title = "rows of a transaction that opens the packed table: each place is the name's own";
      store = blank;
      made = valued ++ (prepare (each whole) mode ∷ []);
      lines =
          read_row 0 ⇒ answer 0 (row laid 0 (there 11) 1)
          ∷ read_row 1 ⇒ answer 0 (row packed 0 (there 12) 2)
          ∷ read_row 2 ⇒ answer 0 (row bent 0 (there 13) 3)
          ∷ read_row 3 ⇒ answer 0 (row none 0 nowhere 4)
          ∷ read_row 4 ⇒ answer 0 (row gone 0 nowhere 5)
          ∷ [];
    }
    ∷ []

pub opened₁_right : Right (opened 1)
unfolding open_all Right opened
opened₁_right = refl

pub opened₂_right : Right (opened 2)
unfolding open_all Right opened
opened₂_right = refl

pub opened₃_right : Right (opened 3)
unfolding open_all Right opened
opened₃_right = refl

unfoldable pub unopened : ℕ → List Case
unopened mode =
    record {
      title = "no row counts, so the packed table is not opened: what is packed alone is absent to a row, and not to read_name";
      store = blank;
      made = valued ++ (prepare (each log_only) mode ∷ []);
      lines =
          read_row 0 ⇒ answer 0 (row laid 1 (there 11) 1)
          ∷ read_row 1 ⇒ answer 0 (row packed 1 nowhere 4)
          ∷ read_row 2 ⇒ answer 0 (row bent 1 nowhere 5)
          ∷ read_row 3 ⇒ answer 0 (row none 1 nowhere 4)
          ∷ read_row 4 ⇒ answer 0 (row gone 1 nowhere 5)
          ∷ read_name packed ⇒ answer 0 (1 ∷ 12 ∷ 2 ∷ [])
          ∷ read_name bent ⇒ answer 0 (1 ∷ 13 ∷ 3 ∷ [])
          ∷ [];
    }
    ∷ []

pub unopened₁_right : Right (unopened 1)
unfolding open_all Right unopened
unopened₁_right = refl

pub unopened₂_right : Right (unopened 2)
unfolding open_all Right unopened
unopened₂_right = refl

pub unopened₃_right : Right (unopened 3)
unfolding open_all Right unopened
unopened₃_right = refl

-- ---- while it is prepared, and afterwards

unfoldable pub split : List Case
split =
    record {
      title = "a parent's link is loose, its child packed behind a broken loose; other names and locks change neither";
      store = blank;
      made = valued ++ (prepare (list (through (update HEAD (object 7)) ∷ [])) 1 ∷ []);
      lines =
          add_name (text "refs/heads/new") ⇒ answer 0 (6 ∷ [])
          ∷ place_lock 0 none ⇒ answer 0 []
          ∷ read_row 0 ⇒ answer 0 (HEAD ∷ 1 ∷ 1 ∷ 0 ∷ 3 ∷ 3 ∷ 2 ∷ bent ∷ 1 ∷ 7 ∷ 0 ∷ 0 ∷ 13 ∷ 1 ∷ [])
          ∷ read_row 1 ⇒ answer 0 (bent ∷ 1 ∷ 0 ∷ 0 ∷ 3 ∷ 3 ∷ 1 ∷ 13 ∷ 1 ∷ 7 ∷ 1 ∷ 0 ∷ 0 ∷ 3 ∷ [])
          ∷ commit 1 100 ⇒ answer 0 (3 ∷ [])
          ∷ read_name bent ⇒ answer 0 (1 ∷ 7 ∷ 1 ∷ [])
          ∷ [];
    }
    ∷ record {
      title = "a delete of a broken value leaves nothing, and a rollback leaves all";
      store = blank;
      made = valued ++ (prepare (list (delete bent ∷ delete gone ∷ [])) 1 ∷ []);
      lines =
          read_row 1 ⇒ answer 0 (gone ∷ 2 ∷ 0 ∷ 0 ∷ 0 ∷ 0 ∷ 0 ∷ 0 ∷ 0 ∷ 0 ∷ 0 ∷ 0 ∷ 0 ∷ 5 ∷ [])
          ∷ rollback ⇒ answer 0 (2 ∷ [])
          ∷ read_name gone ⇒ answer 0 (0 ∷ 0 ∷ 5 ∷ [])
          ∷ prepare (list (delete bent ∷ delete gone ∷ [])) 1 ⇒ answer 0 (2 ∷ [])
          ∷ commit 1 100 ⇒ answer 0 (3 ∷ [])
          ∷ read_name bent ⇒ answer 0 (0 ∷ 0 ∷ 4 ∷ [])
          ∷ read_name gone ⇒ answer 0 (0 ∷ 0 ∷ 4 ∷ [])
          ∷ [];
    }
    ∷ []

pub split_right : Right split
unfolding open_all Right split
split_right = refl
