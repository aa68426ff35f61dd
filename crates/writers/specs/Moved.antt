-- W2, one line of the table looked at: it is dropped, or moves up to place j.
use Rattle.std.specs.Prelude.{cond, List, ℕ, ◌+◌, get_or, set}
use Rattle.target.specs.declared.NameNumber.{NameNumber}
use Rattle.model.specs.declared.Line.{Line}
use Rattle.model.specs.Store.{no_line, is_of}

unfoldable pub moved : NameNumber → ℕ → ℕ → List Line → List Line
moved n i j ls = cond (is_of n (get_or ls i no_line)) ls (set ls j (get_or ls i no_line))

unfoldable pub placed : NameNumber → ℕ → ℕ → List Line → ℕ
placed n i j ls = cond (is_of n (get_or ls i no_line)) j (j + 1)
