-- The marked examples P1 to P11: one table, and the claim that every line of it comes out so.
-- Names 0 `HEAD`, 1 `refs/heads/aisle`; HEAD loose links to 1; setting 1; mode 1.
use Rattle.std.specs.Prelude.{Some, None}
use mathlib.Core.Path.{refl}
use mathlib.Core.List.{List, [], ◌∷◌, ◌++◌}
use Prim.Native.Nat.{ℕ, zero, suc, ◌+◌}
use Rattle.model.specs.Basic.{text}
use Rattle.model.specs.Writes.Write.{write_packed}
use Rattle.model.specs.Reply.{Call}
use Rattle.model.specs.Reply.Call.{start, add_name, load_loose, load_packed, prepare, commit, read_name, read_line, read_row}
use Rattle.model.specs.Numbers.{answer}
use Rattle.model.proofs.AtWork.Cases.{Case, Right, HEAD, aisle, site, blank, update, delete, through, log_only, expecting, matching, object, list, log_moves, loose_becomes, loose_goes, packed_goes, the, ◌⇒◌, in_order, at_every_stop}
use Rattle.model.proofs.AtWork.Open.{open_all}

-- update name 0 through its link to object 7, message 3, byte by byte
abbrev whole : List ℕ
whole =
    0x01 ∷ 0x00 ∷ 0x1C ∷ 0x01
    ∷ 0x01 ∷ 0x01 ∷ 0x00 ∷ 0x00 ∷ 0x00
    ∷ 0x00 ∷ 0x00 ∷ 0x00 ∷ 0x00 ∷ 0x00 ∷ 0x00 ∷ 0x00 ∷ 0x00 ∷ 0x00
    ∷ 0x01 ∷ 0x00 ∷ 0x00 ∷ 0x00 ∷ 0x00 ∷ 0x00 ∷ 0x00 ∷ 0x00 ∷ 0x07
    ∷ 0x00 ∷ 0x00 ∷ 0x00 ∷ 0x03 ∷ []

-- prepared and committed by committer 1, with room for every write
abbrev moved : List ℕ → List Call
moved l = prepare l 1 ∷ commit 1 100 ∷ []

-- names `A`, `AA`, .. and so on, each but the last a link to the next
abbrev names : ℕ → List ℕ → List Call
names zero n = []
names (suc k) n = add_name n ∷ names k (65 ∷ n)

abbrev links : ℕ → ℕ → List Call
links zero n = []
links (suc k) n = load_loose n 2 (n + 1) ∷ links k (n + 1)

abbrev hops : ℕ → List Call
hops k = start 1 ∷ names (suc k) (text "A") ++ links k 0

unfoldable pub marked : List Case
marked =
    record {
      title = "P1: through HEAD to object 7: row 0 log-only, row 1 its child; three writes in this order";
      store = blank;
      made = site;
      lines =
          prepare whole 1 ⇒ answer 0 (2 ∷ [])
          ∷ read_row 0 ⇒ answer 0 (HEAD ∷ 1 ∷ 1 ∷ 0 ∷ 3 ∷ 3 ∷ 2 ∷ aisle ∷ 1 ∷ 7 ∷ 0 ∷ 0 ∷ 0 ∷ 1 ∷ [])
          ∷ read_row 1 ⇒ answer 0 (aisle ∷ 1 ∷ 0 ∷ 0 ∷ 3 ∷ 0 ∷ 0 ∷ 0 ∷ 1 ∷ 7 ∷ 1 ∷ 0 ∷ 0 ∷ 4 ∷ [])
          ∷ in_order (log_moves HEAD 0 7 ∷ log_moves aisle 0 7 ∷ loose_becomes aisle (the 7) ∷ [])
          ∷ commit 1 100 ⇒ answer 0 (3 ∷ [])
          ∷ read_line HEAD 0 ⇒ answer 0 (0 ∷ 7 ∷ 1 ∷ 3 ∷ [])
          ∷ read_line aisle 0 ⇒ answer 0 (0 ∷ 7 ∷ 1 ∷ 3 ∷ [])
          ∷ read_name aisle ⇒ answer 0 (1 ∷ 7 ∷ 1 ∷ [])
          ∷ [];
    }
    ∷ record {
      title = "P2: then object 9: both lines 7 to 9";
      store = blank;
      made = site ++ moved whole;
      lines =
          prepare (list (through (update HEAD (object 9)) ∷ [])) 1 ⇒ answer 0 (2 ∷ [])
          ∷ in_order (log_moves HEAD 7 9 ∷ log_moves aisle 7 9 ∷ loose_becomes aisle (the 9) ∷ [])
          ∷ [];
    }
    ∷ record {
      title = "P3: 9 again: no write, done";
      store = blank;
      made = site ++ moved whole ++ moved (list (through (update HEAD (object 9)) ∷ []));
      lines =
          prepare (list (through (update HEAD (object 9)) ∷ [])) 1 ⇒ answer 0 (2 ∷ [])
          ∷ in_order []
          ∷ commit 1 100 ⇒ answer 0 (0 ∷ [])
          ∷ read_name aisle ⇒ answer 0 (1 ∷ 9 ∷ 1 ∷ [])
          ∷ [];
    }
    ∷ record {
      title = "P4: delete through HEAD, expecting object 9: 12 on HEAD, actual the link";
      store = blank;
      made = site;
      lines = prepare (list (through (matching 3 (object 9) (delete HEAD)) ∷ [])) 1 ⇒ answer 12 (HEAD ∷ 1 ∷ 9 ∷ 2 ∷ aisle ∷ []) ∷ [];
    }
    ∷ record {
      title = "P4 after P3, where the aisle that HEAD leads to reads 9: 12 on HEAD all the same, actual the link";
      store = blank;
      made = site ++ moved whole ++ moved (list (through (update HEAD (object 9)) ∷ [])) ++ moved (list (through (update HEAD (object 9)) ∷ []));
      lines =
          read_name aisle ⇒ answer 0 (1 ∷ 9 ∷ 1 ∷ [])
          ∷ prepare (list (through (matching 3 (object 9) (delete HEAD)) ∷ [])) 1 ⇒ answer 12 (HEAD ∷ 1 ∷ 9 ∷ 2 ∷ aisle ∷ [])
          ∷ [];
    }
    ∷ record {
      title = "P5: four hops pass";
      store = blank;
      made = hops 4;
      lines = prepare (list (through (update 0 (object 7)) ∷ [])) 1 ⇒ answer 0 (5 ∷ []) ∷ [];
    }
    ∷ record {
      title = "P6: five hops give 4";
      store = blank;
      made = hops 5;
      lines = prepare (list (through (update 0 (object 7)) ∷ [])) 1 ⇒ answer 4 [] ∷ [];
    }
    ∷ record {
      title = "P7: a link to itself gives 4, not 6";
      store = blank;
      made = site ++ (load_loose HEAD 2 HEAD ∷ []);
      lines = prepare (list (through (update HEAD (object 7)) ∷ [])) 1 ⇒ answer 4 [] ∷ [];
    }
    ∷ record {
      title = "P8: an update that expects nothing there passes where the existing value equals the new one";
      store = blank;
      made = site ++ (load_loose aisle 1 7 ∷ []);
      lines = prepare (list (expecting 2 (update aisle (object 7)) ∷ [])) 1 ⇒ answer 0 (1 ∷ []) ∷ [];
    }
    ∷ record {
      title = "P9: an empty list prepares zero rows";
      store = blank;
      made = site;
      lines = prepare (list []) 1 ⇒ answer 0 (0 ∷ []) ∷ commit 1 100 ⇒ answer 0 (0 ∷ []) ∷ [];
    }
    ∷ record {
      title = "P10: the aisle packed 3 and loose 5, deleted: at no stop does it read 3";
      store = blank;
      made = site ++ (load_packed aisle 1 3 ∷ load_loose aisle 1 5 ∷ []);
      lines =
          prepare (list (delete aisle ∷ [])) 1 ⇒ answer 0 (1 ∷ [])
          ∷ in_order (write_packed (packed_goes aisle ∷ []) ∷ loose_goes aisle ∷ [])
          ∷ at_every_stop aisle (Some (the 5) ∷ Some (the 5) ∷ None ∷ [])
          ∷ [];
    }
    ∷ record {
      title = "P11: a log-only update that expects 1, alone, on a packed-only name: 11";
      store = blank;
      made = site ++ (load_packed aisle 1 7 ∷ []);
      lines = prepare (list (log_only (expecting 1 (update aisle (object 9))) ∷ [])) 1 ⇒ answer 11 (aisle ∷ 1 ∷ 0 ∷ []) ∷ [];
    }
    ∷ []

pub marked_right : Right marked
unfolding open_all Right marked
marked_right = refl
