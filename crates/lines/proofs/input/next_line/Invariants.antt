use Rattle.std.proofs.Common.{◌≤◌, vec_len}
use Rattle.lines.proofs.input.next_line.Given as goal

-- A byte is kept only while there are 120 or fewer.
abbrev pub invariant-loop-byte : goal.invariant-loop-byte
invariant-loop-byte g l = vec_len l.line ≤ 121
