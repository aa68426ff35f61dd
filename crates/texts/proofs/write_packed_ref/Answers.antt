use mathlib.Core.Path.{sym}
use native.Mathlib.Omega.{arith}
use lib.ListN.{drop}
use lib.Seq.{length-take-le}
use Rattle.texts.proofs.Digits.{line_done}
use Rattle.texts.proofs.write_packed_ref.Goals as goal

pub slice_bounds-put_digits-end-2 : goal.slice_bounds-put_digits-end-2
slice_bounds-put_digits-end-2 c = sym (length-take-le 40 c.args.line.now (omega arith))

pub returns : goal.returns
returns c =
    line_done c.args.line.now c.put_digits.new.s c.put_name.new.rest (drop 40 c.args.line.now) c.args.name.now c.args.object
    c.requires c.put_digits.ensures c.put_name.ensures
