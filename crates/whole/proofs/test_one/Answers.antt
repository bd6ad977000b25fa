-- `test_one`: a byte of each plane has eight entries.
-- Assumes nothing.
use Rattle.std.proofs.Common.{◌≡◌, ℕ, ◌+◌, ◌*◌, ◌<◌, List, get_or, ◌∙◌}
use Rattle.rules.specs.Tables.{entry_at}
use Rattle.laws.proofs.Bits.{bit_at_byte}
use Rattle.entries.specs.Groups.{lane, InPlanes}
use Rattle.whole.proofs.test_one.Goals as goal

byte_lanes : (es lows highs : List ℕ) (at : ℕ) → InPlanes es lows highs → (j : ℕ) → j < 8 → entry_at es (8 * at + j) ≡ lane (get_or lows at 0) (get_or highs at 0) j
byte_lanes es lows highs at planes j h = planes (8 * at + j) ∙ rw (bit_at_byte lows at j h, bit_at_byte highs at j h)

pub returns : goal.returns
returns c es planes is =
    let a = c.args in
    c.test.ensures.1 es (8 * a.at) (rw (c.from.ensures, c.from-2.ensures) (byte_lanes es a.planes.now.lows.now a.planes.now.highs.now a.at planes)) is
