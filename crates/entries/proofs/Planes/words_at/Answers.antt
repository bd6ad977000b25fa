-- `words_at`: four bytes of each plane are 32 entries.
-- Assumes nothing.
use mathlib.Core.Path.{◌≡◌, ap}
use Prim.Native.Nat.{ℕ, ◌*◌}
use native.Mathlib.Omega.{arith}
use borrow.Author.Rules.{rules}
use Rattle.laws.proofs.Widths.{in_slice}
use Rattle.entries.proofs.Cut.{in_parts}
use Rattle.entries.proofs.Planes.words_at.Goals as goal

pub overflow_mul-at : goal.overflow_mul-at
overflow_mul-at g c =
    let e : c.BYTES.result * c.args.i ≡ g.W.FromBytes.BYTES * c.args.i = ap (λ (x : ℕ). x * c.args.i) c.BYTES.ensures in
    in_slice c.args.self.now.lows.now (omega arith) (search rules)

pub returns : goal.returns
returns g c =
    let a = c.args in
    let n = c.BYTES.ensures in
    in_parts g.W.FromBytes.BYTES a.self.now.lows.now a.self.now.highs.now a.i _ _ (rw n at c.bits.ensures) (rw n at c.bits-2.ensures)
