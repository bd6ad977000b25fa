-- Laws of packed bytes: which entries a byte has, and that a packed table and its entries say the same.
-- Assumes nothing.
use mathlib.Core.Path.{◌≡◌, refl, sym, ap, ◌∙◌}
use mathlib.Core.List.{List, [], ◌∷◌}
use Prim.Native.Nat.{ℕ, zero, suc, ◌+◌, ◌*◌, ◌/◌, ◌%◌, ◌^◌, ◌≤◌, ◌<◌}
use native.Mathlib.Nat.{zero-div}
use native.Mathlib.Omega.{arith}
use lib.ListN.{length, get_or}
use Rattle.rules.specs.Entries.{entry_of, entries_of, table_of}
use Rattle.laws.specs.Meaning.{TableIsEntries}
use Rattle.laws.proofs.Below.{equal_below}

-- what holds at 0, 1, 2 and 3 holds below 4
pub four : (P : ℕ → Type 0) → P 0 → P 1 → P 2 → P 3 → (j : ℕ) → j < 4 → P j
four P a b c d zero h = a
four P a b c d (suc zero) h = b
four P a b c d (suc (suc zero)) h = c
four P a b c d (suc (suc (suc zero))) h = d
four P a b c d (suc (suc (suc (suc j)))) h = absurd (omega arith)

-- ---- one byte

pub entry_of_zero : (j : ℕ) → entry_of 0 j ≡ 0
unfolding entry_of
entry_of_zero j = rw (zero-div (4 ^ j))

pub entry_of_lt : (b j : ℕ) → entry_of b j < 4
unfolding entry_of
entry_of_lt b j = omega arith

-- a byte is its four entries
pub byte_entries : (b : ℕ) → b < 256 → entry_of b 0 + 4 * entry_of b 1 + 16 * entry_of b 2 + 64 * entry_of b 3 ≡ b
unfolding entry_of
byte_entries = equal_below 256 (λ (b : ℕ). entry_of b 0 + 4 * entry_of b 1 + 16 * entry_of b 2 + 64 * entry_of b 3) (λ (b : ℕ). b) tt

-- ---- the entries of a table

pub length_entries_of : (t : List ℕ) → length (entries_of t) ≡ 4 * length t
unfolding entries_of
length_entries_of [] = refl
length_entries_of (b ∷ t) = omega (arith, length_entries_of t)

-- block k is in byte k / 4, entry k mod 4
pub get_d_entries_of : (t : List ℕ) (k : ℕ) → get_or (entries_of t) k 0 ≡ entry_of (get_or t (k / 4) 0) (k % 4)
unfolding entries_of
get_d_entries_of [] k = sym (entry_of_zero (k % 4))
get_d_entries_of (b ∷ t) zero = refl
get_d_entries_of (b ∷ t) (suc zero) = refl
get_d_entries_of (b ∷ t) (suc (suc zero)) = refl
get_d_entries_of (b ∷ t) (suc (suc (suc zero))) = refl
get_d_entries_of (b ∷ t) (suc (suc (suc (suc k)))) =
    let d : suc (suc (suc (suc k))) / 4 ≡ suc (k / 4) = omega arith in
    let m : suc (suc (suc (suc k))) % 4 ≡ k % 4 = omega arith in
    rw (d, m) (get_d_entries_of t k)

pub entries_of_lt : (t : List ℕ) (k : ℕ) → get_or (entries_of t) k 0 < 4
entries_of_lt t k = rw get_d_entries_of (entry_of_lt (get_or t (k / 4) 0) (k % 4))

-- ---- there and back

pub table_of_entries_of : (t : List ℕ) → ((i : ℕ) → get_or t i 0 < 256) → table_of (entries_of t) ≡ t
unfolding entries_of table_of
table_of_entries_of [] small = refl
table_of_entries_of (b ∷ t) small = rw (byte_entries b (small 0), table_of_entries_of t (λ i. small (suc i)))

-- the entries of the byte of four entries
pub entries_byte : (a b c d : ℕ) → a < 4 → b < 4 → c < 4 → d < 4 → (j : ℕ) → j < 4
    → entry_of (a + 4 * b + 16 * c + 64 * d) j ≡ get_or (a ∷ b ∷ c ∷ d ∷ []) j 0
unfolding entry_of
entries_byte a b c d ha hb hc hd j hj =
    four (λ (j : ℕ). (a + 4 * b + 16 * c + 64 * d) / 4 ^ j % 4 ≡ get_or (a ∷ b ∷ c ∷ d ∷ []) j 0) (omega arith) (omega arith) (omega arith) (omega arith) j hj

-- four entries to a byte
pub length_table_of : (es : List ℕ) → length (table_of es) ≡ length es / 4
unfolding table_of
length_table_of [] = refl
length_table_of (a ∷ []) = omega arith
length_table_of (a ∷ b ∷ []) = omega arith
length_table_of (a ∷ b ∷ c ∷ []) = omega arith
length_table_of (a ∷ b ∷ c ∷ d ∷ es) = let r = length_table_of es in omega arith

-- byte i holds the entries of blocks 4i to 4i + 3
pub get_d_table_of : (es : List ℕ) (i : ℕ) → 4 * i + 4 ≤ length es
    → get_or (table_of es) i 0 ≡ get_or es (4 * i) 0 + 4 * get_or es (4 * i + 1) 0 + 16 * get_or es (4 * i + 2) 0 + 64 * get_or es (4 * i + 3) 0
unfolding table_of
get_d_table_of [] i room = absurd (omega arith)
get_d_table_of (a ∷ []) i room = absurd (omega arith)
get_d_table_of (a ∷ b ∷ []) i room = absurd (omega arith)
get_d_table_of (a ∷ b ∷ c ∷ []) i room = absurd (omega arith)
get_d_table_of (a ∷ b ∷ c ∷ d ∷ es) zero room = refl
get_d_table_of (a ∷ b ∷ c ∷ d ∷ es) (suc i) room =
    let here : 4 * suc i + 0 ≡ 4 * suc i = omega arith in
    let there : 4 * i + 0 ≡ 4 * i = omega arith in
    rw (rw (here, there) at (past 0), past 1, past 2, past 3) (get_d_table_of es i (omega arith))
  where
    past : (j : ℕ) → get_or (a ∷ b ∷ c ∷ d ∷ es) (4 * suc i + j) 0 ≡ get_or es (4 * i + j) 0
    past j = let e : 4 * suc i + j ≡ suc (suc (suc (suc (4 * i + j)))) = omega arith in rw e

pub entries_of_table_of : (es : List ℕ) → length es % 4 ≡ 0 → ((k : ℕ) → get_or es k 0 < 4) → entries_of (table_of es) ≡ es
unfolding entries_of table_of
entries_of_table_of [] m small = refl
entries_of_table_of (a ∷ []) m small = absurd (omega arith)
entries_of_table_of (a ∷ b ∷ []) m small = absurd (omega arith)
entries_of_table_of (a ∷ b ∷ c ∷ []) m small = absurd (omega arith)
entries_of_table_of (a ∷ b ∷ c ∷ d ∷ es) m small =
    let at = entries_byte a b c d (small 0) (small 1) (small 2) (small 3) in
    rw (at 0 (omega arith), at 1 (omega arith), at 2 (omega arith), at 3 (omega arith), entries_of_table_of es (omega arith) (λ k. small (suc (suc (suc (suc k))))))

-- two tables with the same entries are the same
pub entries_of_injective : TableIsEntries
entries_of_injective t u st su e = sym (table_of_entries_of t st) ∙ ap table_of e ∙ table_of_entries_of u su
