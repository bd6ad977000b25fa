-- Two planes in bytes: the shape, the spare bits, and the planes of FREE blocks.
-- Assumes nothing.
use mathlib.Core.Path.{◌≡◌, refl, sym, ap, ◌∙◌}
use mathlib.Core.Logic.{◌≢◌, ◌↔◌}
use mathlib.Core.Bool.{true}
use mathlib.Core.List.{List}
use Prim.Native.Nat.{ℕ, ◌+◌, ◌-◌, ◌*◌, ◌/◌, ◌%◌, ◌^◌, ◌≤◌, ◌<◌}
use native.Mathlib.Nat.{lt_of_lt_of_le}
use native.Mathlib.Decide.{ℕ_discrete}
use native.Mathlib.Omega.{arith}
use lib.ListN.{length, get_or, replicate, length-replicate}
use lib.Pow.{pow_mono}
use lib.Seq.{ext_get_or}
use borrow.Author.Tests.{eqb-true, eq-eqb}
use Rattle.rules.specs.Bits.{bit_of, bit_at, byte_of}
use Rattle.rules.specs.Entries.{FREE}
use Rattle.laws.specs.Meaning.{AllBytes, Shape, ShapeInBytes}
use Rattle.rules.specs.Planes.{plane_bytes, entry_in, entries_in, spare_free, planes_of, planes, heap_at}
use Rattle.laws.proofs.Bits.{bit_of_lt, bit_of_zero, bit_of_above, byte_bits}
use Rattle.laws.proofs.Planes.{length_entries_in, get_d_entries_in, entry_in_byte, past_free, spare_clean, write_planes}
use Rattle.promises.proofs.Initialising.{all_free}

-- ---- the shape

pub shape_in_bytes : (base t : ℕ) (pool table : List ℕ) → (Shape base (heap_at t pool table) × ((planes t).fits table ≡ true)) ↔ ShapeInBytes base t pool table
unfolding plane_bytes
shape_in_bytes base t pool table = (there, back)
  where
    n : length (entries_in t table) ≡ 4 * t
    n = length_entries_in t table

    there : Shape base (heap_at t pool table) × ((planes t).fits table ≡ true) → ShapeInBytes base t pool table
    there (s, fits) = record {
      some = omega (arith, n, s.some);
      few = omega (arith, n, s.few);
      planes = eqb-true (length table) (2 * plane_bytes t) fits;
      size = omega (arith, n, s.pool);
      aligned = s.aligned;
      above = s.above;
      below = omega (arith, n, s.below);
    }

    back : ShapeInBytes base t pool table → Shape base (heap_at t pool table) × ((planes t).fits table ≡ true)
    back s = (
      record {
        some = omega (arith, n, s.some);
        few = omega (arith, n, s.few);
        pool = omega (arith, n, s.size);
        aligned = s.aligned;
        above = s.above;
        below = omega (arith, n, s.below);
      },
      eq-eqb (length table) (2 * plane_bytes t) s.planes,
    )

-- ---- the spare bits

-- where t is odd the last four places of each plane are spare
spare_last : (t : ℕ) → t % 2 ≡ 1 → 8 * plane_bytes t ≡ 4 * t + 4
unfolding plane_bytes
spare_last t odd = omega arith

-- else none is
spare_none : (t k : ℕ) → t % 2 ≢ 1 → 4 * t ≤ k → k < 8 * plane_bytes t → ⊥
unfolding plane_bytes
spare_none t k even g h = omega arith

-- those of place j are bit 4 + j of the last byte of each plane
spare_entry : (t : ℕ) (table : List ℕ) → t % 2 ≡ 1 → (j : ℕ) → j < 4
    → entry_in t table (4 * t + j) ≡ bit_of (get_or table (plane_bytes t - 1) 0) (4 + j) + 2 * bit_of (get_or table (2 * plane_bytes t - 1) 0) (4 + j)
spare_entry t table odd j h =
    let e : 8 * (plane_bytes t - 1) + (4 + j) ≡ 4 * t + j = omega (arith, spare_last t odd) in
    let q : plane_bytes t + (plane_bytes t - 1) ≡ 2 * plane_bytes t - 1 = omega (arith, spare_last t odd) in
    rw (e, q) at (entry_in_byte t table (plane_bytes t - 1) (4 + j) (omega arith))

-- a byte is below 16 if its upper four bits are 0, and only then
upper_none : (b : ℕ) → b < 256 → ((j : ℕ) → j < 4 → bit_of b (4 + j) ≡ 0) → b < 16
unfolding byte_of
upper_none b small zero =
    omega (arith, byte_bits b small, bit_of_lt b 0, bit_of_lt b 1, bit_of_lt b 2, bit_of_lt b 3, zero 0 (omega arith), zero 1 (omega arith), zero 2 (omega arith), zero 3 (omega arith))

none_upper : (b j : ℕ) → b < 16 → bit_of b (4 + j) ≡ 0
none_upper b j small = let more : 2 ^ 4 ≤ 2 ^ (4 + j) = pow_mono {i = 4} (omega arith) in bit_of_above b (4 + j) (lt_of_lt_of_le small more)

pub spare_in_bytes : (t : ℕ) (table : List ℕ) → AllBytes table
    → (spare_free t table ≡ true) ↔ (t % 2 ≡ 1 → (get_or table (plane_bytes t - 1) 0 < 16) × (get_or table (2 * plane_bytes t - 1) 0 < 16))
spare_in_bytes t table bytes = (there, back)
  where
    there : spare_free t table ≡ true → t % 2 ≡ 1 → (get_or table (plane_bytes t - 1) 0 < 16) × (get_or table (2 * plane_bytes t - 1) 0 < 16)
    there clean odd =
        let free : (j : ℕ) → j < 4 → entry_in t table (4 * t + j) ≡ 0 = λ j h. past_free t table clean (4 * t + j) (omega arith) (omega (arith, spare_last t odd)) in (
          upper_none (get_or table (plane_bytes t - 1) 0) (bytes (plane_bytes t - 1)) (λ j h. omega (arith, free j h, spare_entry t table odd j h)),
          upper_none (get_or table (2 * plane_bytes t - 1) 0) (bytes (2 * plane_bytes t - 1)) (λ j h. omega (arith, free j h, spare_entry t table odd j h)),
        )

    free : (t % 2 ≡ 1 → (get_or table (plane_bytes t - 1) 0 < 16) × (get_or table (2 * plane_bytes t - 1) 0 < 16)) → (k : ℕ) → 4 * t ≤ k → k < 8 * plane_bytes t → Dec (t % 2 ≡ 1)
        → entry_in t table k ≡ FREE
    free small k g h (yes odd) =
        let e : 4 * t + (k - 4 * t) ≡ k = omega (arith, g) in
        let low = none_upper (get_or table (plane_bytes t - 1) 0) (k - 4 * t) (small odd).0 in
        let high = none_upper (get_or table (2 * plane_bytes t - 1) 0) (k - 4 * t) (small odd).1 in
        let here : entry_in t table (4 * t + (k - 4 * t)) ≡ FREE = omega (arith, spare_entry t table odd (k - 4 * t) (omega (arith, g, h, spare_last t odd)), low, high) in
        rw e at here
    free small k g h (no even) = absurd (spare_none t k even g h)

    back : (t % 2 ≡ 1 → (get_or table (plane_bytes t - 1) 0 < 16) × (get_or table (2 * plane_bytes t - 1) 0 < 16)) → spare_free t table ≡ true
    back small = spare_clean t table (λ k g h. free small k g h (ℕ_discrete (t % 2) 1))

-- ---- FREE blocks

-- the entries of zero bytes
zero_entry : (t n k : ℕ) → entry_in t (replicate n 0) k ≡ FREE
unfolding entry_in bit_at
zero_entry t n k = rw (all_free n (k / 8), all_free n ((8 * plane_bytes t + k) / 8), bit_of_zero (k % 8), bit_of_zero ((8 * plane_bytes t + k) % 8)) refl

-- their planes are zero bytes
pub free_planes : (t : ℕ) → planes_of t (replicate (4 * t) FREE) ≡ replicate (2 * plane_bytes t) 0
free_planes t =
    ap (planes_of t) (sym same)
    ∙ write_planes t zeros (λ i. omega (arith, all_free (2 * plane_bytes t) i)) (length-replicate (2 * plane_bytes t) 0) (spare_clean t zeros (λ k _ _. zero_entry t (2 * plane_bytes t) k))
  where
    zeros : List ℕ
    zeros = replicate (2 * plane_bytes t) 0

    same : entries_in t zeros ≡ replicate (4 * t) FREE
    same =
        ext_get_or FREE (entries_in t zeros) (replicate (4 * t) FREE) (length_entries_in t zeros ∙ sym (length-replicate (4 * t) FREE))
        (λ k h. get_d_entries_in t zeros k FREE (omega (arith, h, length_entries_in t zeros)) ∙ zero_entry t (2 * plane_bytes t) k ∙ sym (all_free (4 * t) k))
