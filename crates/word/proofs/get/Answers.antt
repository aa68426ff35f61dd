use Prim.Native.Nat.{ℕ, ◌≤◌, ◌<◌, ◌+◌, ◌*◌, ◌^◌}
use mathlib.Core.Path.{◌≡◌, refl, sym, ap, ◌∙◌}
use mathlib.Core.List.{List}
use native.Mathlib.Nat.{pow-suc, pow-le-pow_right}
use native.Mathlib.Numerals.{add-one}
use native.Mathlib.Omega.{arith}
use lib.ListN.{length, drop, get_or, drop_of_length-le}
use lib.Seq.{drop-cons}
use lib.Dec.{lit<}
use Rattle.word.specs.Be.{val, val_on}
use Rattle.word.proofs.get.Goals as goal

-- one byte more still fits eight bytes
room : (a b i n : ℕ) → a < 256 ^ i → i < n → n ≤ 8 → b < 256 → a * 256 + b < 2 ^ 64
room a b i n ha hi hn hb =
    let q : i ≤ 7 = omega arith in
    let p : 256 ^ i ≤ 256 ^ 7 = pow-le-pow_right (lit< tt) q in omega arith

wider : (a b i : ℕ) → a < 256 ^ i → b < 256 → a * 256 + b < 256 ^ (i + 1)
wider a b i ha hb = rw (add-one, pow-suc) (omega arith)

turn : (s : List ℕ) (acc i : ℕ) → i < length s → val_on acc (drop i s) ≡ val s
    → val_on (acc * 256 + get_or s i 0) (drop (i + 1) s) ≡ val s
unfolding val_on
turn s acc i h e = rw add-one (sym (ap (val_on acc) (drop-cons s i 0 h)) ∙ e)

end : (s : List ℕ) (acc i : ℕ) → length s ≤ i → val_on acc (drop i s) ≡ val s → acc ≡ val s
unfolding val_on
end s acc i h e = sym (ap (val_on acc) (drop_of_length-le s h)) ∙ e

pub loop-byte-init : goal.loop-byte-init
unfolding val
loop-byte-init c = (omega arith, lit< tt, refl)

pub overflow_mul-acc : goal.overflow_mul-acc
overflow_mul-acc c =
    let l = c.loop-byte in
    let p : l.acc * 256 + 0 < 2 ^ 64 = room _ 0 l.byte-index _ l.invariant.1 c.loop-byte-test.true c.requires (lit< tt) in
    record { fits = omega arith }

pub overflow_add-acc : goal.overflow_add-acc
overflow_add-acc c = record { fits = rw c.from.ensures (search (room, c.type_inv.s c.loop-byte.byte-index)) }

pub loop-byte-preserved : goal.loop-byte-preserved
loop-byte-preserved c = rw c.from.ensures (omega arith, search (wider, c.type_inv.s c.loop-byte.byte-index), search turn)

pub returns : goal.returns
returns c = search end
