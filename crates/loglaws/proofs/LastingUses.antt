-- The log lasts through one call of each kind that may spare it, over variables: `Spares`, if it asked for more, would not give these. That a call writes beside the log is said of the entries, none
-- of which has its head there.
-- Assumes nothing.
use mathlib.Core.Path.{refl}
use mathlib.Core.Logic.{◌≢◌}
use mathlib.Core.List.{List, Memᴰ}
use Prim.Native.Nat.{ℕ}
use Rattle.rules.specs.Words.{words_of}
use Rattle.rules.specs.Forms.{Form}
use Rattle.laws.specs.Faithful.{Faithful}
use Rattle.rules.specs.Runs.{Call, Allocate, Free, Reallocate, Collect, Survey, Load, Store, WriteImage}
use Rattle.rules.specs.Memory.{Memory, heap_in, perform}
use Rattle.loglaws.specs.Chains.{Entry, Chain}
use Rattle.loglaws.specs.Lasting.{Apart, Spares}
use Rattle.loglaws.proofs.Lasting.{lasts_once}
use Rattle.loglaws.proofs.Beside.{beside}

-- Each call on any base, but for a collection; with any mark stack; on any block but an entry's where it writes, and on any block at all where it reads
module _ (f : Form) (faithful : Faithful f) (base first : ℕ) (m : Memory) (es : List Entry) (chain : Chain base (heap_in f m) first es) (b : ℕ) (stack : List ℕ) where
  abbrev After : Call → Type 0
  After c = Chain base (heap_in f (perform f c stack m).memory) first es

  once : (c : Call) → Spares base first es c → After c
  once c spares = lasts_once f faithful base first es c stack m spares chain

  pub through_reading : (k i bytes room : ℕ) (roots : List ℕ) → After (Allocate b bytes) × After (Survey b) × After (Load b k i) × After (WriteImage b roots room)
  unfolding Spares
  through_reading k i bytes room roots = (once (Allocate b bytes) tt, once (Survey b) tt, once (Load b k i) tt, once (WriteImage b roots room) tt)

  pub through_writing : (k i w bytes : ℕ) → ((e : Entry) → Memᴰ e es → k ≢ e.head) → After (Free b k) × After (Reallocate b k bytes) × After (Store b k i w)
  unfolding Spares
  through_writing k i w bytes no_entry = let apart : Apart es k = beside es k no_entry in (once (Free b k) apart, once (Reallocate b k bytes) apart, once (Store b k i w) apart)

  pub through_collection : (roots : List ℕ) → Memᴰ first (words_of roots) → After (Collect base roots)
  unfolding Spares
  through_collection roots among = once (Collect base roots) (refl, among)
