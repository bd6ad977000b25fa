-- `last_bits`: each turn puts a byte below those that are read already.
-- Assumes nothing.
use mathlib.Core.Path.{◌≡◌}
use mathlib.Core.List.{List}
use Prim.Native.Nat.{ℕ, suc, ◌+◌, ◌-◌, ◌*◌, ◌^◌, ◌≤◌, ◌<◌}
use native.Mathlib.Nat.{pow-le-pow_right}
use native.Mathlib.Omega.{arith}
use lib.ListN.{get_or}
use lib.Pow.{pow-add}
use Rattle.memory.proofs.Reading.{no_bytes, one_more}
use Rattle.memory.proofs.last_bits.Invariants.{Read}
use Rattle.memory.proofs.last_bits.Goals as goal

none_read : (bytes : List ℕ) (from to r : ℕ) → from ≤ to → r ≡ 0 → Read bytes from to to r
none_read bytes from to r h e =
    let z : to - to ≡ 0 = omega arith in
    rw e (record { some = h; small = rw z (omega arith); has = rw z (no_bytes bytes to) })

module _ (bytes : List ℕ) (from to n i r : ℕ) (left : from < i) (inside : i ≤ to) (few : to ≤ from + n) (read : Read bytes from to i r) where
  wider : 2 ^ (8 * (to - i) + 8) ≡ 2 ^ (8 * (to - i)) * 2 ^ 8
  wider = pow-add 2 (8 * (to - i)) 8

  -- there is room for another byte
  room : r * 256 < 2 ^ (8 * n)
  room =
      let w : 8 * (to - i) + 8 ≤ 8 * n = omega arith in
      omega (arith, wider, read.small, pow-le-pow_right {n = 2} (omega arith) w)

  turn : get_or bytes (i - 1) 0 < 256 → (r' : ℕ) → r' ≡ r * 256 + get_or bytes (i - 1) 0 → Read bytes from to (i - 1) r'
  turn small r' e =
      let m : to - (i - 1) ≡ suc (to - i) = omega arith in
      let w : 8 * suc (to - i) ≡ 8 * (to - i) + 8 = omega arith in
      rw e (record {
        some = omega arith;
        small = rw (m, w) (omega (arith, wider, small, read.small));
        has = rw m (one_more bytes (i - 1) i (to - i) r (omega arith) small read.has);
      })

pub loop-i-init : goal.loop-i-init
loop-i-init g c = none_read _ _ _ _ c.requires.0 c.zero-bits.ensures

pub above-bits-requires : goal.above-bits-requires
above-bits-requires g c =
    let a = c.args in
    room a.bytes.now a.from a.to g.W.FromBytes.BYTES c.loop-i.i (g.W.FromBytes.value c.loop-i.bits) (omega arith) (omega arith) c.requires.1.0 c.loop-i.invariant

pub loop-i-preserved : goal.loop-i-preserved
loop-i-preserved g c =
    let a = c.args in
    turn a.bytes.now a.from a.to g.W.FromBytes.BYTES c.loop-i.i (g.W.FromBytes.value c.loop-i.bits) (omega arith) (omega arith) c.requires.1.0 c.loop-i.invariant
    (c.type_inv.bytes (c.loop-i.i - 1)).fits _ c.above-bits.ensures

pub returns : goal.returns
returns g c =
    let e : c.loop-i.i ≡ c.args.from = omega (arith, c.loop-i.invariant.some) in
    rw e at c.loop-i.invariant.has
