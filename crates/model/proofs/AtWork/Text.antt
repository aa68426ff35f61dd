-- The example of docs/PACKED-TEXT.md: the text of its store, what git's text does to it, and the lines that are refused. The same claim:
-- every line comes out so.
use Rattle.std.specs.Prelude.{Option, Some, None}
use mathlib.Core.Path.{◌≡◌, refl}
use mathlib.Core.List.{List, [], ◌∷◌, ◌++◌}
use Prim.Native.Nat.{ℕ}
use Prim.Native.String.{String}
use Rattle.model.specs.Basic.{text}
use Rattle.model.specs.Reply.{Call}
use Rattle.model.specs.Reply.Call.{start, add_name, load_loose, load_packed, prepare, read_name, write_packed, read_packed}
use Rattle.model.specs.PackedText.{digits_on, ref_line, packed_table, packed_text, digits_from, ref_in, is_peeled, line_said, read_lines, read_text, unpacked, ref_loaded, loaded}
use Rattle.model.specs.Calls.{text_written, text_read}
use Rattle.model.specs.Store.{Store}
use Rattle.model.specs.Numbers.{answer}
use Rattle.model.proofs.AtWork.Cases.{Case, Right, HEAD, blank, making, update, object, list, ◌⇒◌}
use Rattle.model.proofs.AtWork.Open.{open_all}

-- ---- the store, and the texts

abbrev stored : List Call
stored =
    start 1
    ∷ add_name (text "HEAD")
    ∷ add_name (text "refs/heads/aisle-7")
    ∷ add_name (text "refs/tags/2026-11")
    ∷ add_name (text "refs/heads/aisle-10")
    ∷ add_name (text "refs/heads/dock")
    ∷ load_loose HEAD 2 1
    ∷ load_loose 1 1 12
    ∷ load_packed 1 1 7
    ∷ load_packed 2 1 65537
    ∷ load_packed 3 1 255
    ∷ load_loose 4 1 9
    ∷ []

abbrev line : String → List ℕ
line t = text t ++ (10 ∷ [])

abbrev ours : List ℕ
ours =
    line "00000000000000000000000000000000000000ff refs/heads/aisle-10"
    ++ line "0000000000000000000000000000000000000007 refs/heads/aisle-7"
    ++ line "0000000000000000000000000000000000010001 refs/tags/2026-11"

abbrev front : List ℕ
front =
    line "# pack-refs with: peeled fully-peeled sorted "
    ++ line "00000000000000000000000000000000000000ff refs/heads/aisle-10"
    ++ line "0000000000000000000000000000000000010001 refs/tags/2026-11"
    ++ line "^8f3a52c0d1e6b7948f3a52c0d1e6b7948f3a52c0"

abbrev gits : List ℕ
gits = front ++ line "0000000000000000000000000000000000000003 refs/tags/2026-12"

abbrev text_of : Option Store → List ℕ
text_of None = []
text_of (Some s) = packed_text s

unfoldable pub open_text : Unit {0}
unfolding open_all digits_on ref_line packed_table packed_text digits_from ref_in is_peeled line_said read_lines read_text unpacked ref_loaded loaded text_written text_read
open_text = tt

-- ---- written

pub written : text_of (making stored (Some blank)) ≡ ours
unfolding open_text
written = refl

-- ---- read

unfoldable pub reading : List Case
reading =
    record {
      title = "180 bytes, and 32 where there is room for 179";
      store = blank;
      made = stored;
      lines = write_packed 180 ⇒ answer 0 (180 ∷ []) ∷ write_packed 179 ⇒ answer 32 [] ∷ read_packed ours ⇒ answer 0 (3 ∷ []) ∷ write_packed 180 ⇒ answer 0 (180 ∷ []) ∷ [];
    }
    ∷ record {
      title = "git's text: aisle-7 loses its packed value, 2026-12 is new, and all else stays";
      store = blank;
      made = stored;
      lines =
          read_packed gits ⇒ answer 0 (3 ∷ [])
          ∷ read_name 1 ⇒ answer 0 (1 ∷ 12 ∷ 1 ∷ [])
          ∷ read_name 2 ⇒ answer 0 (1 ∷ 65537 ∷ 2 ∷ [])
          ∷ read_name 3 ⇒ answer 0 (1 ∷ 255 ∷ 2 ∷ [])
          ∷ read_name 4 ⇒ answer 0 (1 ∷ 9 ∷ 1 ∷ [])
          ∷ read_name 5 ⇒ answer 0 (1 ∷ 3 ∷ 2 ∷ [])
          ∷ add_name (text "refs/tags/2026-12") ⇒ answer 0 (5 ∷ [])
          ∷ [];
    }
    ∷ []

pub reading_right : Right reading
unfolding open_text Right reading
reading_right = refl

-- ---- refused

unfoldable pub refusing : List Case
refusing =
    record {
      title = "the lines that are refused, each as the last one; and what comes before what";
      store = blank;
      made = stored;
      lines =
          read_packed (gits ++ line "0000000000000000000000010000000000000007 refs/tags/2026-13") ⇒ answer 27 (6 ∷ [])
          ∷ read_packed (gits ++ line "0000000000000000000000000000000000000003 refs/tags/2026-12") ⇒ answer 27 (6 ∷ [])
          ∷ read_packed (gits ++ line "0000000000000000000000000000000000000000 refs/tags/2026-13") ⇒ answer 21 []
          ∷ read_packed (gits ++ line "0000000000000000000000000000000000000004 refs/worktree/a") ⇒ answer 21 []
          ∷ read_packed (line "# pack-refs with: peeled fully-peeled sorted " ++ line "00000000000000000000000000000000000000FF refs/heads/aisle-10") ⇒ answer 27 (2 ∷ [])
          ∷ read_packed (front ++ front) ⇒ answer 27 (6 ∷ [])
          ∷ read_packed (text "#") ⇒ answer 27 (1 ∷ [])
          ∷ read_packed (line "") ⇒ answer 27 (1 ∷ [])
          ∷ read_packed (line "^8f3a52c0d1e6b7948f3a52c0d1e6b7948f3a52c0") ⇒ answer 27 (1 ∷ [])
          ∷ add_name (text "refs/tags/2026-12") ⇒ answer 0 (5 ∷ [])
          ∷ read_packed [] ⇒ answer 0 (0 ∷ [])
          ∷ write_packed 0 ⇒ answer 0 (0 ∷ [])
          ∷ prepare (list (update HEAD (object 7) ∷ [])) 1 ⇒ answer 0 (1 ∷ [])
          ∷ read_packed [] ⇒ answer 15 []
          ∷ write_packed 0 ⇒ answer 0 (0 ∷ [])
          ∷ [];
    }
    ∷ []

pub refusing_right : Right refusing
unfolding open_text Right refusing
refusing_right = refl
