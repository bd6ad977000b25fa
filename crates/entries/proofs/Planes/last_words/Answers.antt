-- `last_words`: the last bytes of each plane, and no bits behind them.
-- Assumes nothing.
use mathlib.Core.Path.{◌≡◌, ap}
use Prim.Native.Nat.{ℕ, ◌+◌, ◌*◌, ◌≤◌}
use native.Mathlib.Omega.{arith}
use lib.ListN.{length}
use borrow.Author.Rules.{rules}
use Rattle.laws.proofs.Widths.{in_slice}
use Rattle.memory.proofs.Reading.{to_the_end}
use Rattle.entries.proofs.Cut.{in_parts}
use Rattle.entries.proofs.Planes.last_words.Goals as goal

pub overflow_mul-at : goal.overflow_mul-at
overflow_mul-at g c =
    let e : c.BYTES.result * c.args.i ≡ g.W.FromBytes.BYTES * c.args.i = ap (λ (x : ℕ). x * c.args.i) c.BYTES.ensures in
    in_slice c.args.self.now.lows.now (omega arith) (search rules)

pub returns : goal.returns
returns g c =
    let a = c.args in
    let n = c.BYTES.ensures in
    let w = g.W.FromBytes.BYTES in
    let left : w * a.i ≤ length a.self.now.highs.now = omega (arith, c.requires.0, c.requires.1.1) in
    let few : length a.self.now.highs.now ≤ w * a.i + w = omega (arith, c.requires.1.0, c.requires.1.1) in
    in_parts w a.self.now.lows.now a.self.now.highs.now a.i _ _
    (to_the_end a.self.now.lows.now (w * a.i) w _ c.requires.0 c.requires.1.0 (rw n at c.last_bits.ensures))
    (to_the_end a.self.now.highs.now (w * a.i) w _ left few (rw n at c.last_bits-2.ensures))
