-- Tables for names beneath names: number 25 in its three cases, what is no such case, and loads. The same claim: every line comes
-- out so. They are several, so that each is computed by itself.
use mathlib.Core.Path.{refl}
use mathlib.Core.List.{List, [], ◌∷◌, ◌++◌}
use Prim.Native.Nat.{ℕ}
use Rattle.model.specs.Basic.{text}
use Rattle.model.specs.Writes.Write.{write_packed}
use Rattle.model.specs.Reply.{Call}
use Rattle.model.specs.Reply.Call.{start, add_name, load_loose, load_packed, place_lock, prepare, commit, read_name}
use Rattle.model.specs.Numbers.{answer}
use Rattle.model.proofs.AtWork.Cases.{Case, Right, HEAD, blank, update, delete, through, log_only, expecting, object, link, list, log_moves, packed_becomes, ◌⇒◌, in_order}
use Rattle.model.proofs.AtWork.Open.{open_all}

-- a name, one beneath it, and one that only begins alike
abbrev a : ℕ
a = 1

abbrev b : ℕ
b = 2

abbrev ab : ℕ
ab = 3

abbrev names : List Call
names =
    start 1
    ∷ add_name (text "HEAD")
    ∷ add_name (text "refs/heads/a")
    ∷ add_name (text "refs/heads/a/b")
    ∷ add_name (text "refs/heads/ab")
    ∷ []

unfoldable pub beneath_loose : List Case
beneath_loose =
    record {
      title = "(a) beneath a loose object: an update, to an object or a link, whatever it expects; a name that only begins alike is not beneath";
      store = blank;
      made = names ++ (load_loose a 1 5 ∷ []);
      lines =
          prepare (list (update b (object 7) ∷ [])) 1 ⇒ answer 25 (b ∷ [])
          ∷ prepare (list (update b (link HEAD) ∷ [])) 2 ⇒ answer 25 (b ∷ [])
          ∷ prepare (list (update b (object 7) ∷ [])) 3 ⇒ answer 25 (b ∷ [])
          ∷ prepare (list (expecting 1 (update b (object 7)) ∷ [])) 1 ⇒ answer 25 (b ∷ [])
          ∷ prepare (list (update ab (object 7) ∷ update a (object 6) ∷ [])) 1 ⇒ answer 0 (2 ∷ [])
          ∷ [];
    }
    ∷ record {
      title = "(a) beneath a broken value";
      store = blank;
      made = names ++ (load_loose a 3 0 ∷ []);
      lines = prepare (list (update b (object 7) ∷ [])) 1 ⇒ answer 25 (b ∷ []) ∷ [];
    }
    ∷ []

pub beneath_loose_right : Right beneath_loose
unfolding open_all Right beneath_loose
beneath_loose_right = refl

unfoldable pub beneath_anyway : List Case
beneath_anyway =
    record {
      title = "(a) a delete beneath, and rows of the log only";
      store = blank;
      made = names ++ (load_loose a 1 5 ∷ load_packed b 1 4 ∷ []);
      lines =
          prepare (list (delete b ∷ [])) 1 ⇒ answer 25 (b ∷ [])
          ∷ prepare (list (log_only (delete b) ∷ [])) 1 ⇒ answer 25 (b ∷ [])
          ∷ prepare (list (log_only (update b (object 7)) ∷ [])) 1 ⇒ answer 25 (b ∷ [])
          ∷ [];
    }
    ∷ record {
      title = "(a) a split's child that is beneath is named itself, not HEAD";
      store = blank;
      made = names ++ (load_loose a 1 5 ∷ load_loose HEAD 2 b ∷ []);
      lines = prepare (list (through (update HEAD (object 7)) ∷ [])) 1 ⇒ answer 25 (b ∷ []) ∷ [];
    }
    ∷ []

pub beneath_anyway_right : Right beneath_anyway
unfolding open_all Right beneath_anyway
beneath_anyway_right = refl

unfoldable pub above_loose : List Case
above_loose =
    record {
      title = "(b) above a loose value: an update that would write one; not a delete, not a row of the log only";
      store = blank;
      made = names ++ (load_loose b 1 5 ∷ []);
      lines =
          prepare (list (update a (object 7) ∷ [])) 1 ⇒ answer 25 (a ∷ [])
          ∷ prepare (list (update a (link HEAD) ∷ [])) 3 ⇒ answer 25 (a ∷ [])
          ∷ prepare (list (delete a ∷ [])) 1 ⇒ answer 0 (1 ∷ [])
          ∷ commit 1 100 ⇒ answer 0 (0 ∷ [])
          ∷ prepare (list (log_only (update a (object 7)) ∷ [])) 1 ⇒ answer 0 (1 ∷ [])
          ∷ [];
    }
    ∷ record {
      title = "(b) above a broken value";
      store = blank;
      made = names ++ (load_loose b 3 0 ∷ []);
      lines = prepare (list (update a (object 7) ∷ [])) 1 ⇒ answer 25 (a ∷ []) ∷ [];
    }
    ∷ []

pub above_loose_right : Right above_loose
unfolding open_all Right above_loose
above_loose_right = refl

unfoldable pub above_writing : List Case
above_writing =
    record {
      title = "a direct row above, in mode 3, writes no loose value";
      store = blank;
      made = names ++ (load_loose b 1 5 ∷ prepare (list (update a (object 7) ∷ [])) 3 ∷ []);
      lines =
          in_order (log_moves a 0 7 ∷ write_packed (packed_becomes a 7 ∷ []) ∷ [])
          ∷ commit 1 100 ⇒ answer 0 (2 ∷ [])
          ∷ read_name a ⇒ answer 0 (1 ∷ 7 ∷ 2 ∷ [])
          ∷ read_name b ⇒ answer 0 (1 ∷ 5 ∷ 1 ∷ [])
          ∷ [];
    }
    ∷ record {
      title = "nor does a row above that changes nothing";
      store = blank;
      made = names ++ (load_loose b 1 5 ∷ load_packed a 1 7 ∷ []);
      lines =
          prepare (list (update a (object 6) ∷ [])) 1 ⇒ answer 25 (a ∷ [])
          ∷ prepare (list (update a (object 7) ∷ [])) 1 ⇒ answer 0 (1 ∷ [])
          ∷ in_order []
          ∷ [];
    }
    ∷ []

pub above_writing_right : Right above_writing
unfolding open_all Right above_writing
above_writing_right = refl

unfoldable pub together : List Case
together =
    record {
      title = "(c) two rows in one list: the later one is refused; not where one of them writes no loose value";
      store = blank;
      made = names;
      lines =
          prepare (list (update a (object 7) ∷ update b (object 8) ∷ [])) 1 ⇒ answer 25 (b ∷ [])
          ∷ prepare (list (update b (object 8) ∷ update a (object 7) ∷ [])) 1 ⇒ answer 25 (a ∷ [])
          ∷ prepare (list (update b (object 8) ∷ update ab (object 9) ∷ update a (link HEAD) ∷ [])) 3 ⇒ answer 0 (3 ∷ [])
          ∷ commit 1 0 ⇒ answer 17 (0 ∷ [])
          ∷ prepare (list (log_only (update a (object 7)) ∷ update b (object 8) ∷ [])) 1 ⇒ answer 0 (2 ∷ [])
          ∷ [];
    }
    ∷ []

pub together_right : Right together
unfolding open_all Right together
together_right = refl

unfoldable pub packed_alone : List Case
packed_alone =
    record {
      title = "packed values play no part";
      store = blank;
      made = names ++ (load_packed a 1 5 ∷ load_packed b 1 4 ∷ []);
      lines =
          prepare (list (update b (object 7) ∷ [])) 1 ⇒ answer 0 (1 ∷ [])
          ∷ commit 1 100 ⇒ answer 0 (2 ∷ [])
          ∷ prepare (list (update a (object 7) ∷ [])) 2 ⇒ answer 25 (a ∷ [])
          ∷ [];
    }
    ∷ record {
      title = "deleting a and making a/b takes two transactions";
      store = blank;
      made = names ++ (load_loose a 1 5 ∷ []);
      lines =
          prepare (list (delete a ∷ update b (object 7) ∷ [])) 1 ⇒ answer 25 (b ∷ [])
          ∷ prepare (list (delete a ∷ [])) 1 ⇒ answer 0 (1 ∷ [])
          ∷ commit 1 100 ⇒ answer 0 (1 ∷ [])
          ∷ prepare (list (update b (object 7) ∷ [])) 1 ⇒ answer 0 (1 ∷ [])
          ∷ commit 1 100 ⇒ answer 0 (2 ∷ [])
          ∷ read_name b ⇒ answer 0 (1 ∷ 7 ∷ 1 ∷ [])
          ∷ [];
    }
    ∷ []

pub packed_alone_right : Right packed_alone
unfolding open_all Right packed_alone
packed_alone_right = refl

unfoldable pub packed_beneath : List Case
packed_beneath =
    record {
      title = "loose a beside packed a/b is reached; every row on a/b is refused until a's loose value goes";
      store = blank;
      made = names ++ (prepare (list (update b (object 7) ∷ [])) 3 ∷ commit 1 100 ∷ prepare (list (update a (object 5) ∷ [])) 1 ∷ commit 1 100 ∷ []);
      lines =
          read_name b ⇒ answer 0 (1 ∷ 7 ∷ 2 ∷ [])
          ∷ prepare (list (delete b ∷ [])) 1 ⇒ answer 25 (b ∷ [])
          ∷ prepare (list (delete a ∷ [])) 1 ⇒ answer 0 (1 ∷ [])
          ∷ commit 1 100 ⇒ answer 0 (2 ∷ [])
          ∷ prepare (list (delete b ∷ [])) 1 ⇒ answer 0 (1 ∷ [])
          ∷ [];
    }
    ∷ record {
      title = "25 comes before 8 and before 9 to 13 in a row's turn, and after an earlier row's";
      store = blank;
      made = names ++ (load_loose a 1 5 ∷ place_lock 0 b ∷ []);
      lines =
          prepare (list (expecting 2 (delete b) ∷ [])) 1 ⇒ answer 25 (b ∷ [])
          ∷ prepare (list (expecting 2 (delete ab) ∷ delete b ∷ [])) 1 ⇒ answer 13 (ab ∷ [])
          ∷ [];
    }
    ∷ []

pub packed_beneath_right : Right packed_beneath
unfolding open_all Right packed_beneath
packed_beneath_right = refl

unfoldable pub loads_beneath : List Case
loads_beneath =
    record {
      title = "21: a load of an object, a link or a broken value beneath a loose value, after 3; never of none";
      store = blank;
      made = names ++ (load_loose a 1 5 ∷ []);
      lines =
          load_loose b 1 7 ⇒ answer 21 []
          ∷ load_loose b 2 HEAD ⇒ answer 21 []
          ∷ load_loose b 2 9 ⇒ answer 3 (9 ∷ [])
          ∷ load_loose b 3 0 ⇒ answer 21 []
          ∷ load_loose b 0 0 ⇒ answer 0 []
          ∷ [];
    }
    ∷ record {
      title = "a packed value may stand there, and a name that only begins alike may have a loose one";
      store = blank;
      made = names ++ (load_loose a 3 0 ∷ []);
      lines = load_packed b 1 7 ⇒ answer 0 [] ∷ load_loose ab 1 7 ⇒ answer 0 [] ∷ load_loose b 1 7 ⇒ answer 21 [] ∷ [];
    }
    ∷ []

pub loads_beneath_right : Right loads_beneath
unfolding open_all Right loads_beneath
loads_beneath_right = refl

unfoldable pub loads_above : List Case
loads_above =
    record {
      title = "21: a load above a loose value, broken too";
      store = blank;
      made = names ++ (load_loose b 3 0 ∷ []);
      lines = load_loose a 1 7 ⇒ answer 21 [] ∷ load_loose a 3 0 ⇒ answer 21 [] ∷ load_loose a 0 0 ⇒ answer 0 [] ∷ [];
    }
    ∷ []

pub loads_above_right : Right loads_above
unfolding open_all Right loads_above
loads_above_right = refl
