-- A second table, for what the marked examples leave: each refusal, the packing modes write by write, and the corners of the
-- rules. The same claim: every line of it comes out so.
use Rattle.std.specs.Prelude.{Some, None}
use mathlib.Core.Path.{refl}
use mathlib.Core.List.{List, [], ◌∷◌, ◌++◌}
use Prim.Native.Nat.{ℕ, zero, suc, ◌+◌, ◌/◌, ◌%◌}
use lib.ListN.{replicate}
use Rattle.model.specs.declared.Line.{Line}
use Rattle.model.specs.Basic.{text}
use Rattle.model.specs.Store.{Store, Entry, with_entries, with_lines}
use Rattle.model.specs.Writes.Write.{write_packed}
use Rattle.model.specs.Reply.{Call}
use Rattle.model.specs.Reply.Call.{start, add_name, name_bytes, load_loose, load_packed, place_lock, lift_lock, prepare, commit, rollback, read_name, read_line, read_row}
use Rattle.model.specs.Load.{new_entry}
use Rattle.model.specs.Numbers.{answer}
use Rattle.model.proofs.AtWork.Cases.{Case, Right, HEAD, aisle, site, blank, update, delete, through, log_only, expecting, matching, object, link, list, log_moves, loose_becomes, loose_goes, log_goes, packed_becomes, packed_goes, the, to, ◌⇒◌, in_order, at_every_stop}
use Rattle.model.proofs.AtWork.Open.{open_all}

-- a third name
abbrev bay : ℕ
bay = 2

abbrev with_bay : List Call
with_bay = site ++ (add_name (text "refs/heads/Bay") ∷ [])

-- HEAD leads to the aisle, and the aisle to the bay
abbrev chain : List Call
chain = with_bay ++ (load_loose aisle 2 bay ∷ [])

-- 256 names, written down: `A`, `AA`, .. of 1 to 64 letters `A`, then of `B`, of `C` and of `D`
abbrev name_no : ℕ → List ℕ
name_no n = replicate (n % 64 + 1) (65 + n / 64)

abbrev entries_from : ℕ → ℕ → List Entry
entries_from zero n = []
entries_from (suc k) n = new_entry (name_no n) ∷ entries_from k (n + 1)

abbrev full : Store
full = with_entries blank (entries_from 256 0)

-- 1,024 log lines of HEAD, written down
abbrev head_line : Line
head_line = record { name = record { 0 = HEAD }; previous = record { 0 = 0 }; new = record { 0 = 7 }; committer = 1; message = 3 }

abbrev long_log : Store
long_log = with_lines (with_entries blank (new_entry (text "HEAD") ∷ [])) (replicate 1024 head_line)

unfoldable pub worked : List Case
worked =
    record {
      title = "2: a list, a mode, a setting or a committer that is malformed; a bad committer leaves what is prepared";
      store = blank;
      made = site;
      lines =
          prepare (text "no list") 1 ⇒ answer 2 []
          ∷ prepare (list (update aisle (object 0) ∷ [])) 1 ⇒ answer 2 []
          ∷ prepare (list (matching 2 (object 9) (update aisle (object 7)) ∷ [])) 1 ⇒ answer 2 []
          ∷ prepare (list []) 4 ⇒ answer 2 []
          ∷ start 3 ⇒ answer 2 []
          ∷ prepare (list (update aisle (object 7) ∷ [])) 1 ⇒ answer 0 (1 ∷ [])
          ∷ commit 65536 100 ⇒ answer 2 []
          ∷ rollback ⇒ answer 0 (1 ∷ [])
          ∷ rollback ⇒ answer 0 (0 ∷ [])
          ∷ [];
    }
    ∷ record {
      title = "3: a name number past 16 bits comes back whole, the first by place in the list";
      store = blank;
      made = site;
      lines =
          read_name 2 ⇒ answer 3 (2 ∷ [])
          ∷ name_bytes 65536 ⇒ answer 3 (65536 ∷ [])
          ∷ load_loose HEAD 2 65537 ⇒ answer 3 (65537 ∷ [])
          ∷ prepare (list (update 300 (object 7) ∷ matching 4 (link 65537) (update 2 (link 9)) ∷ [])) 1 ⇒ answer 3 (300 ∷ [])
          ∷ prepare (list (matching 4 (link 65537) (update 2 (link 9)) ∷ [])) 1 ⇒ answer 3 (65537 ∷ [])
          ∷ prepare (list (update 2 (link 9) ∷ [])) 1 ⇒ answer 3 (9 ∷ [])
          ∷ [];
    }
    ∷ record {
      title = "4: two names that link to each other";
      store = blank;
      made = site ++ (load_loose aisle 2 HEAD ∷ []);
      lines = prepare (list (through (delete aisle) ∷ [])) 1 ⇒ answer 4 [] ∷ [];
    }
    ∷ record {
      title = "6: only a split's child meets an edit's name";
      store = blank;
      made = site;
      lines = prepare (list (through (update HEAD (object 7)) ∷ update aisle (object 9) ∷ [])) 1 ⇒ answer 6 (aisle ∷ []) ∷ [];
    }
    ∷ record {
      title = "6: of two names that stand twice, the least in byte order";
      store = blank;
      made = with_bay;
      lines =
          prepare (list (update aisle (object 7) ∷ update bay (object 7) ∷ delete bay ∷ delete aisle ∷ [])) 1 ⇒ answer 6 (bay ∷ [])
          ∷ [];
    }
    ∷ record {
      title = "7: a foreign packed lock, with a counting row and nothing packed; HEAD does not count";
      store = blank;
      made = site ++ (place_lock 1 0 ∷ []);
      lines =
          prepare (list (update aisle (object 7) ∷ [])) 1 ⇒ answer 7 []
          ∷ prepare (list (update HEAD (object 7) ∷ [])) 3 ⇒ answer 0 (1 ∷ [])
          ∷ [];
    }
    ∷ record {
      title = "8: the lock of the aisle is foreign, and HEAD, through which it was reached, is named";
      store = blank;
      made = site ++ (place_lock 0 aisle ∷ []);
      lines =
          prepare (list (through (update HEAD (object 7)) ∷ [])) 1 ⇒ answer 8 (HEAD ∷ [])
          ∷ prepare (list (expecting 2 (delete aisle) ∷ [])) 1 ⇒ answer 8 (aisle ∷ [])
          ∷ lift_lock 0 aisle ⇒ answer 0 []
          ∷ prepare (list (expecting 2 (delete aisle) ∷ [])) 1 ⇒ answer 13 (aisle ∷ [])
          ∷ [];
    }
    ∷ record {
      title = "9, 11: nothing there where something must be";
      store = blank;
      made = site;
      lines =
          prepare (list (expecting 1 (delete aisle) ∷ [])) 1 ⇒ answer 9 (aisle ∷ [])
          ∷ prepare (list (matching 3 (object 5) (delete aisle) ∷ [])) 1 ⇒ answer 9 (aisle ∷ [])
          ∷ prepare (list (matching 3 (object 5) (update aisle (object 7)) ∷ [])) 1 ⇒ answer 11 (aisle ∷ 1 ∷ 5 ∷ [])
          ∷ prepare (list (expecting 1 (update aisle (object 7)) ∷ [])) 1 ⇒ answer 11 (aisle ∷ 1 ∷ 0 ∷ [])
          ∷ [];
    }
    ∷ record {
      title = "10, 12, 13: something else there";
      store = blank;
      made = site ++ (load_loose aisle 1 5 ∷ []);
      lines =
          prepare (list (expecting 2 (update aisle (object 7)) ∷ [])) 1 ⇒ answer 10 (aisle ∷ 1 ∷ 5 ∷ 1 ∷ 7 ∷ [])
          ∷ prepare (list (matching 4 (link HEAD) (update aisle (object 7)) ∷ [])) 1 ⇒ answer 12 (aisle ∷ 2 ∷ HEAD ∷ 1 ∷ 5 ∷ [])
          ∷ prepare (list (expecting 2 (delete aisle) ∷ [])) 1 ⇒ answer 13 (aisle ∷ [])
          ∷ [];
    }
    ∷ record {
      title = "14: one line more than 1,024";
      store = long_log;
      made = [];
      lines = prepare (list (update HEAD (object 9) ∷ [])) 1 ⇒ answer 14 [] ∷ [];
    }
    ∷ record {
      title = "15: prepare and loads while prepared, commit while not; names, locks and reads go on";
      store = blank;
      made = site;
      lines =
          commit 65536 100 ⇒ answer 15 []
          ∷ prepare (list (update aisle (object 7) ∷ [])) 1 ⇒ answer 0 (1 ∷ [])
          ∷ prepare (text "no list") 1 ⇒ answer 15 []
          ∷ load_loose 9 0 0 ⇒ answer 15 []
          ∷ load_packed 9 0 0 ⇒ answer 15 []
          ∷ add_name (text "refs/heads/Bay") ⇒ answer 0 (bay ∷ [])
          ∷ place_lock 0 bay ⇒ answer 0 []
          ∷ [];
    }
    ∷ record {
      title = "16, 17: commit stopped. Used up comes before no committer, and no write follows";
      store = blank;
      made = site ++ (prepare (list (through (update HEAD (object 7)) ∷ [])) 1 ∷ []);
      lines =
          commit 0 0 ⇒ answer 17 (0 ∷ [])
          ∷ prepare (list (through (update HEAD (object 7)) ∷ [])) 1 ⇒ answer 0 (2 ∷ [])
          ∷ commit 0 100 ⇒ answer 16 (0 ∷ [])
          ∷ prepare (list (through (update HEAD (object 7)) ∷ [])) 1 ⇒ answer 0 (2 ∷ [])
          ∷ commit 1 2 ⇒ answer 17 (2 ∷ [])
          ∷ read_name aisle ⇒ answer 0 (0 ∷ 0 ∷ 4 ∷ [])
          ∷ read_line aisle 0 ⇒ answer 0 (0 ∷ 7 ∷ 1 ∷ 3 ∷ [])
          ∷ read_row 0 ⇒ answer 22 []
          ∷ [];
    }
    ∷ record {
      title = "18: no name; a dot may end a component, but not the name";
      store = blank;
      made = site;
      lines =
          add_name [] ⇒ answer 18 []
          ∷ add_name (text "head") ⇒ answer 18 []
          ∷ add_name (text "_HEAD") ⇒ answer 18 []
          ∷ add_name (text "refs/") ⇒ answer 18 []
          ∷ add_name (text "refs/heads//a") ⇒ answer 18 []
          ∷ add_name (text "refs/heads/.a") ⇒ answer 18 []
          ∷ add_name (text "refs/heads/a.lock/b") ⇒ answer 18 []
          ∷ add_name (text "refs/heads/a..b") ⇒ answer 18 []
          ∷ add_name (text "refs/heads/a.") ⇒ answer 18 []
          ∷ add_name (text "refs/a./b") ⇒ answer 0 (2 ∷ [])
          ∷ add_name (text "refs/heads/aisle") ⇒ answer 0 (aisle ∷ [])
          ∷ name_bytes aisle ⇒ answer 0 (0 ∷ 16 ∷ [])
          ∷ [];
    }
    ∷ record {
      title = "19: a new name where 256 are held; a known one keeps its number";
      store = full;
      made = [];
      lines =
          add_name (text "HEAD") ⇒ answer 19 []
          ∷ add_name (text "DD") ⇒ answer 0 (193 ∷ [])
          ∷ read_name 256 ⇒ answer 3 (256 ∷ [])
          ∷ [];
    }
    ∷ record {
      title = "2: a kind of lock that is neither, before 3; beside the packed table no number is looked at, and no name is meant";
      store = blank;
      made = site;
      lines =
          place_lock 2 9 ⇒ answer 2 []
          ∷ lift_lock 2 aisle ⇒ answer 2 []
          ∷ place_lock 0 9 ⇒ answer 3 (9 ∷ [])
          ∷ lift_lock 0 9 ⇒ answer 3 (9 ∷ [])
          ∷ place_lock 1 9 ⇒ answer 0 []
          ∷ place_lock 1 aisle ⇒ answer 20 []
          ∷ lift_lock 0 aisle ⇒ answer 20 []
          ∷ place_lock 0 aisle ⇒ answer 0 []
          ∷ lift_lock 1 256 ⇒ answer 0 []
          ∷ lift_lock 0 aisle ⇒ answer 0 []
          ∷ [];
    }
    ∷ record {
      title = "20: placing a lock that is not free, lifting one that is not foreign";
      store = blank;
      made = site ++ (place_lock 0 HEAD ∷ place_lock 1 0 ∷ []);
      lines =
          place_lock 0 HEAD ⇒ answer 20 []
          ∷ lift_lock 0 aisle ⇒ answer 20 []
          ∷ place_lock 1 0 ⇒ answer 20 []
          ∷ lift_lock 1 0 ⇒ answer 0 []
          ∷ lift_lock 1 0 ⇒ answer 20 []
          ∷ [];
    }
    ∷ record {
      title = "20: mode 3, the aisle loose 7 and updated to 7: the lock is kept, so no other may place one";
      store = blank;
      made = site ++ (load_loose aisle 1 7 ∷ prepare (list (update aisle (object 7) ∷ [])) 3 ∷ []);
      lines =
          place_lock 0 aisle ⇒ answer 20 []
          ∷ lift_lock 0 aisle ⇒ answer 20 []
          ∷ in_order (write_packed (packed_becomes aisle 7 ∷ []) ∷ loose_goes aisle ∷ [])
          ∷ at_every_stop aisle (Some (the 7) ∷ Some (the 7) ∷ Some (the 7) ∷ [])
          ∷ [];
    }
    ∷ record {
      title = "a lock that was dropped is free: another takes it, and commit leaves it";
      store = blank;
      made = site ++ (load_loose aisle 1 7 ∷ prepare (list (update aisle (object 7) ∷ [])) 1 ∷ []);
      lines =
          place_lock 0 aisle ⇒ answer 0 []
          ∷ commit 1 100 ⇒ answer 0 (0 ∷ [])
          ∷ place_lock 0 aisle ⇒ answer 20 []
          ∷ [];
    }
    ∷ record {
      title = "21: loads that are no value";
      store = blank;
      made = site;
      lines =
          load_loose aisle 1 0 ⇒ answer 21 []
          ∷ load_loose aisle 4 0 ⇒ answer 21 []
          ∷ load_loose aisle 0 7 ⇒ answer 21 []
          ∷ load_loose aisle 3 7 ⇒ answer 21 []
          ∷ load_packed aisle 2 65537 ⇒ answer 21 []
          ∷ load_packed HEAD 1 7 ⇒ answer 21 []
          ∷ load_packed HEAD 0 0 ⇒ answer 0 []
          ∷ [];
    }
    ∷ record {
      title = "22: no such log line, no such row";
      store = blank;
      made = site;
      lines = read_line HEAD 0 ⇒ answer 22 [] ∷ read_row 0 ⇒ answer 22 [] ∷ [];
    }
    ∷ record {
      title = "mode 2, write by write: the aisle is written loose and packed, the bay is deleted with its log, broken loose value and packed value";
      store = blank;
      made =
          with_bay
          ++ (prepare (list (update bay (object 4) ∷ [])) 1 ∷ commit 1 100 ∷ load_loose bay 3 0 ∷ load_packed bay 1 4 ∷ [])
          ++ (prepare (list (delete bay ∷ update aisle (object 7) ∷ [])) 2 ∷ []);
      lines =
          in_order
          (log_moves aisle 0 7
          ∷ loose_becomes aisle (the 7)
          ∷ log_goes bay
          ∷ write_packed (packed_goes bay ∷ packed_becomes aisle 7 ∷ [])
          ∷ loose_goes bay
          ∷ [])
          ∷ at_every_stop aisle (None ∷ None ∷ Some (the 7) ∷ Some (the 7) ∷ Some (the 7) ∷ Some (the 7) ∷ [])
          ∷ at_every_stop bay (Some (the 4) ∷ Some (the 4) ∷ Some (the 4) ∷ Some (the 4) ∷ None ∷ None ∷ [])
          ∷ commit 1 5 ⇒ answer 0 (5 ∷ [])
          ∷ [];
    }
    ∷ record {
      title = "mode 3, write by write: the aisle goes straight to the packed table, and its loose value goes last; a link is written loose";
      store = blank;
      made =
          with_bay
          ++ (load_loose aisle 1 5 ∷ load_packed aisle 1 3 ∷ prepare (list (update aisle (object 7) ∷ update bay (link aisle) ∷ [])) 3 ∷ []);
      lines =
          in_order
          (log_moves aisle 5 7
          ∷ loose_becomes bay (to aisle)
          ∷ write_packed (packed_becomes aisle 7 ∷ [])
          ∷ loose_goes aisle
          ∷ [])
          ∷ at_every_stop aisle (Some (the 5) ∷ Some (the 5) ∷ Some (the 5) ∷ Some (the 5) ∷ Some (the 7) ∷ [])
          ∷ at_every_stop bay (None ∷ None ∷ Some (to aisle) ∷ Some (to aisle) ∷ Some (to aisle) ∷ [])
          ∷ [];
    }
    ∷ record {
      title = "mode 3 on an unpackable name, a listed difference: HEAD from 5 to 7 is written loose, as in mode 2";
      store = blank;
      made = site ++ (load_loose HEAD 1 5 ∷ prepare (list (update HEAD (object 7) ∷ [])) 3 ∷ []);
      lines =
          in_order (log_moves HEAD 5 7 ∷ loose_becomes HEAD (the 7) ∷ [])
          ∷ at_every_stop HEAD (Some (the 5) ∷ Some (the 5) ∷ Some (the 7) ∷ [])
          ∷ [];
    }
    ∷ record {
      title = "a log-only delete removes the log and leaves the value";
      store = blank;
      made =
          site
          ++ (prepare (list (update aisle (object 7) ∷ [])) 1 ∷ commit 1 100 ∷ prepare (list (log_only (delete aisle) ∷ [])) 1 ∷ []);
      lines =
          in_order (log_goes aisle ∷ [])
          ∷ commit 0 100 ⇒ answer 0 (1 ∷ [])
          ∷ read_name aisle ⇒ answer 0 (1 ∷ 7 ∷ 1 ∷ [])
          ∷ read_line aisle 0 ⇒ answer 22 []
          ∷ [];
    }
    ∷ record {
      title = "leaf-previous through two parents: both parents' lines tell the bay's move";
      store = blank;
      made = chain ++ (load_loose bay 1 5 ∷ []);
      lines =
          prepare (list (through (update HEAD (object 7)) ∷ [])) 1 ⇒ answer 0 (3 ∷ [])
          ∷ read_row 0 ⇒ answer 0 (HEAD ∷ 1 ∷ 1 ∷ 0 ∷ 3 ∷ 3 ∷ 2 ∷ aisle ∷ 1 ∷ 7 ∷ 0 ∷ 0 ∷ 5 ∷ 1 ∷ [])
          ∷ read_row 1 ⇒ answer 0 (aisle ∷ 1 ∷ 1 ∷ 0 ∷ 3 ∷ 3 ∷ 2 ∷ bay ∷ 1 ∷ 7 ∷ 1 ∷ 0 ∷ 5 ∷ 1 ∷ [])
          ∷ read_row 2 ⇒ answer 0 (bay ∷ 1 ∷ 0 ∷ 0 ∷ 3 ∷ 3 ∷ 1 ∷ 5 ∷ 1 ∷ 7 ∷ 1 ∷ 1 ∷ 0 ∷ 1 ∷ [])
          ∷ in_order (log_moves HEAD 5 7 ∷ log_moves aisle 5 7 ∷ log_moves bay 5 7 ∷ loose_becomes bay (the 7) ∷ [])
          ∷ [];
    }
    ∷ record {
      title = "expected 4 with an object on an absent leaf: HEAD's line tells that object, the aisle's tells none";
      store = blank;
      made = site;
      lines =
          prepare (list (through (matching 4 (object 5) (update HEAD (object 7))) ∷ [])) 1 ⇒ answer 0 (2 ∷ [])
          ∷ in_order (log_moves HEAD 5 7 ∷ log_moves aisle 0 7 ∷ loose_becomes aisle (the 7) ∷ [])
          ∷ [];
    }
    ∷ record {
      title = "a symbolic new target has a line only where expected is still 4 with an object";
      store = blank;
      made = site;
      lines =
          prepare (list (matching 4 (object 5) (update aisle (link HEAD)) ∷ [])) 1 ⇒ answer 0 (1 ∷ [])
          ∷ in_order (log_moves aisle 0 5 ∷ loose_becomes aisle (to HEAD) ∷ [])
          ∷ [];
    }
    ∷ []

pub worked_right : Right worked
unfolding open_all Right worked
worked_right = refl
