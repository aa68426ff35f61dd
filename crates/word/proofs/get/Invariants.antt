use Prim.Native.Nat.{◌≤◌, ◌<◌, ◌^◌}
use mathlib.Core.Path.{◌≡◌}
use lib.ListN.{length, drop}
use Rattle.word.specs.Be.{val, val_on}
use Rattle.word.proofs.get.Given as goal

-- `word::get` meets its contract: the bytes that are left, put after what was read, make the whole number.
-- Assumes nothing.
abbrev pub invariant-loop-byte : goal.invariant-loop-byte
invariant-loop-byte l = (l.byte-index ≤ length l.s) × (l.acc < 256 ^ l.byte-index) × (val_on l.acc (drop l.byte-index l.s) ≡ val l.s)
