-- The width of each sum and product in the code. A usize has 64 bits where the code is proved and 32 on a small host. So each sum and product of usize is shown
-- to fit 32 bits (`in_32_bits`), or to be at most the length of a slice that is lent (`in_slice`), which the host's usize holds. The proofs answer those of the other
-- types by name, so that none is passed over: hosts/portable/widths reads these words.
-- Assumes nothing.
use mathlib.Core.List.{List}
use Prim.Native.Nat.{ℕ, ◌≤◌}
use native.Mathlib.Omega.{arith}
use lib.IntN.{ℤ}
use lib.ListN.{length}
use mir.Syntax.{w8, w16, w32, w64}
use mir.Val.{Fits, SFits}

-- ---- of usize

pub in_32_bits : {n : ℕ} → Fits w32 n → Fits w64 n
in_32_bits h = record { fits = omega (arith, h.fits) }

pub in_slice : {n : ℕ} → (slice : List ℕ) → n ≤ length slice → Fits w64 (length slice) → Fits w64 n
in_slice slice l h = record { fits = omega (arith, h.fits) }

-- ---- of other types: as wide on every host

pub as_u8 : {n : ℕ} → Fits w8 n → Fits w8 n
as_u8 h = h

pub as_u16 : {n : ℕ} → Fits w16 n → Fits w16 n
as_u16 h = h

pub as_u32 : {n : ℕ} → Fits w32 n → Fits w32 n
as_u32 h = h

pub as_u64 : {n : ℕ} → Fits w64 n → Fits w64 n
as_u64 h = h

pub as_i32 : {z : ℤ} → SFits w32 z → SFits w32 z
as_i32 h = h
