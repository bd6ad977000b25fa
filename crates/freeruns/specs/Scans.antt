-- What is known of the runs of FREE blocks when the table is read from its front as far as block p.
-- Assumes nothing.
use Rattle.std.specs.Prelude.{◌≡◌, List, ℕ, suc, ◌+◌, ◌*◌, ◌≤◌, ◌<◌, get_or}
use Rattle.rules.specs.Entries.{FREE, HEAD}
use Rattle.laws.specs.Meaning.{Run}
use Rattle.freeruns.specs.Rows.{FreeIn}

pub record Scanned (es : List ℕ) (p longest ending : ℕ) : Type 0 where
  -- there is a run of `longest` blocks
  pub start : ℕ
  pub run : Run es longest start
  -- the last `ending` blocks before p are FREE
  pub room : ending ≤ p
  pub free : (k : ℕ) → p ≤ k + ending → k < p → get_or es k HEAD ≡ FREE
  -- no run that starts before them is longer
  pub most : (b s : ℕ) → s + ending < p → Run es b s → b ≤ longest

-- in every table in which 32 blocks from block 32 * i on are FREE by these bits: what is known there of the first two numbers is known behind them of the others
abbrev pub ReadOn : ℕ → ℕ → ℕ → ℕ → ℕ → Type 0
ReadOn free longest ending longest' ending' =
    (es : List ℕ) (i : ℕ) → FreeIn es i free → Scanned es (32 * i) longest ending → Scanned es (32 * suc i) longest' ending'
