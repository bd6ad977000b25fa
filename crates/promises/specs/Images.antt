-- What an image says of its heap: exactly what is allocated in it, reachable or not. Two images are the same if and only if the heaps have the same t, base, roots, entries and bytes of used blocks.
-- Assumes nothing.
use Rattle.std.specs.Prelude.{◌≡◌, ◌≢◌, ◌↔◌, List, [], ℕ, ◌+◌, ◌*◌, ◌<◌}
use Rattle.rules.specs.Entries.{FREE}
use Rattle.rules.specs.Tables.{entry_at}
use Rattle.rules.specs.Outcomes.{Heap}
use Rattle.rules.specs.Planes.{planes}
use Rattle.rules.specs.Runs.{Call, WriteImage}
use Rattle.rules.specs.Memory.{Memory, heap_in, AcceptedIn, perform}
use Rattle.promises.specs.Promises.{byte_at}

-- the same is allocated in both heaps: the bytes of FREE blocks may differ
pub record SameAllocated (h h'' : Heap) : Type 0 where
  pub entries : h.entries ≡ h''.entries
  pub bytes : (k : ℕ) → entry_at h.entries k ≢ FREE → (j : ℕ) → j < 16 → byte_at h (16 * k + j) ≡ byte_at h'' (16 * k + j)

-- of two images that were written, with any t, base, roots and buffer
abbrev pub ImageSaysAll : Type 0
ImageSaysAll =
    (t t' base base' room room' : ℕ) (roots roots' : List ℕ) (m m' : Memory)
    → let c : Call = WriteImage base roots room in
    let c' : Call = WriteImage base' roots' room' in
    AcceptedIn (perform (planes t) c [] m) → AcceptedIn (perform (planes t') c' [] m')
    → ((perform (planes t) c [] m).filled ≡ (perform (planes t') c' [] m').filled)
    ↔ ((t ≡ t') × (base ≡ base') × (roots ≡ roots') × SameAllocated (heap_in (planes t) m) (heap_in (planes t') m'))
