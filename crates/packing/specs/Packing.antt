-- Eight entries in one number: each is a digit in base 4, so that the number's two bytes are the packed entries. How far a table is unpacked.
-- Assumes nothing.
use Rattle.std.specs.Prelude.{◌≡◌, List, ℕ, zero, suc, ◌+◌, ◌*◌, ◌<◌}
use Rattle.rules.specs.Bits.{bit_of}
use Rattle.rules.specs.Entries.{entry_of}
use Rattle.rules.specs.Tables.{entry_at}
use Rattle.rules.specs.Planes.{plane_bytes, entry_in}
use Rattle.entries.specs.Groups.{lane}

-- the number with these n digits in base 4, the lowest first
unfoldable pub base4 : ℕ → (ℕ → ℕ) → ℕ
base4 zero digit = 0
base4 (suc n) digit = base4 n (λ (j : ℕ). digit (suc j)) * 4 + digit 0

-- bit j of the byte is digit j of r
abbrev pub Spread : ℕ → ℕ → Type 0
Spread b r = r ≡ base4 8 (bit_of b)

-- entry j is digit j of r
abbrev pub Interleaved : ℕ → ℕ → ℕ → Type 0
Interleaved low high r = r ≡ base4 8 (lane low high)

-- bit j of the byte r is bit 2 * j of the number
abbrev pub Gathered : ℕ → ℕ → Type 0
Gathered x r = (j : ℕ) → j < 8 → bit_of r j ≡ bit_of x (2 * j)

-- the entries in the first i bytes of each plane are those of the list
abbrev pub UnpackedTo : ℕ → List ℕ → List ℕ → ℕ → Type 0
UnpackedTo t es table i = (k : ℕ) → k < 8 * i → entry_in t table k ≡ entry_at es k

-- a table that is unpacked as far as byte i of each plane of `half` bytes is unpacked a byte further, where x has the eight entries from there on
abbrev pub UnpacksOn : ℕ → ℕ → ℕ → List ℕ → List ℕ → Type 0
UnpacksOn half i x before after =
    (t : ℕ) (es : List ℕ) → half ≡ plane_bytes t → ((j : ℕ) → j < 8 → entry_of x j ≡ entry_at es (8 * i + j)) → UnpackedTo t es before i → UnpackedTo t es after (i + 1)
