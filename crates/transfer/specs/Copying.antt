-- The used blocks among 64, and the pool that they are stored in.
-- Assumes nothing.
use Rattle.std.specs.Prelude.{◌≢◌, List, [], ◌∷◌, ℕ, suc, ◌+◌, ◌*◌, ◌≤◌, ◌<◌, length, take, drop}
use Rattle.std.proofs.lemmas.List.Edits.{sets}
use Rattle.rules.specs.Tests.{pick, tabulate}
use Rattle.rules.specs.Bits.{bit_of}
use Rattle.rules.specs.Tables.{is_free}
use Rattle.rules.specs.Images.{used_from}

-- 64 entries, of which a bit says whether each is used: a bit is 0 as FREE is
abbrev pub lanes : ℕ → List ℕ
lanes bits = tabulate 64 (bit_of bits)

-- those of the 64 blocks from block 64 * i on that have a bit lie in the pool
abbrev pub Inside : List ℕ → ℕ → ℕ → Type 0
Inside pool i bits = (j : ℕ) → j < 64 → bit_of bits j ≢ 0 → 16 * (64 * i + j) + 16 ≤ length pool

-- their bytes
abbrev pub blocks_in : List ℕ → ℕ → ℕ → List ℕ
blocks_in pool i bits = used_from pool (64 * i) (lanes bits)

-- the entries of the 64 blocks from block 64 * i on, or of as many as there are
abbrev pub group_in : List ℕ → ℕ → List ℕ
group_in es i = take 64 (drop (64 * i) es)

-- the pool once each used block has got the next 16 of the bytes, where es are the entries from block k on: the other blocks stay
unfoldable pub with_used : List ℕ → ℕ → List ℕ → List ℕ → List ℕ
with_used pool k [] bytes = pool
with_used pool k (e ∷ es) bytes = pick (is_free e) (with_used pool (suc k) es bytes) (with_used (sets pool (16 * k) (take 16 bytes)) (suc k) es (drop 16 bytes))
