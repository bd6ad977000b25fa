-- Reading the table 32 blocks at a time: what is known of its runs at one place is known at the next, and at the end it is all.
-- Assumes nothing.
use mathlib.Core.Path.{◌≡◌, refl, ap}
use mathlib.Core.Logic.{◌≢◌, ◌⊎◌, inl, ⊎_elim}
use mathlib.Core.List.{List}
use Prim.Native.Nat.{ℕ, suc, ◌+◌, ◌-◌, ◌*◌, ◌^◌, ◌≤◌, ◌<◌, max}
use native.Mathlib.Decide.{ℕ_discrete, dec_lt}
use native.Mathlib.Omega.{arith}
use lib.ListN.{length, get_or}
use Rattle.rules.specs.Bits.{bit_of}
use Rattle.rules.specs.Entries.{FREE, HEAD}
use Rattle.laws.specs.Meaning.{Run, Longest}
use Rattle.laws.proofs.Bits.{bit_of_lt, bit_of_zero, bit_of_not}
use Rattle.laws.proofs.Tables.{run_shorter}
use Rattle.freeruns.specs.Rows.{FreeIn, ZerosOf, ZerosAbove, LongestRow}
use Rattle.freeruns.specs.Scans.{Scanned}
use Rattle.freeruns.proofs.Rows.{ALL, first_of}
use Rattle.freeruns.proofs.Frees.{inside, free_run, run_free, bit_free, free_bit, row_run, run_row}

-- ---- 32 blocks more

module _ (es : List ℕ) (i bits : ℕ) (small : bits < 2 ^ 32) (holds : FreeIn es i bits) where
  abbrev p : ℕ
  p = 32 * i

  -- the bits of those that are used
  abbrev used : ℕ
  used = ALL - bits

  used_bit : (j : ℕ) → j < 32 → bit_of used j ≡ 1 - bit_of bits j
  used_bit j l = bit_of_not 32 bits j small l

  free_at : (k : ℕ) → p ≤ k → k < p + 32 → bit_of used (k - p) ≡ 0 → get_or es k HEAD ≡ FREE
  free_at k h l z =
      let e : p + (k - p) ≡ k = omega arith in
      rw e at (bit_free es i bits holds (k - p) (omega arith) (omega (arith, used_bit (k - p) (omega arith), z, bit_of_lt bits (k - p))))

  used_at : (j : ℕ) → j < 32 → bit_of used j ≡ 1 → get_or es (p + j) HEAD ≡ FREE → ⊥
  used_at j l set free = omega (arith, used_bit j l, set, free_bit es i bits holds j l free)

  module _ (longest ending : ℕ) (known : Scanned es p longest ending) where
    next : p + 32 ≡ 32 * suc i
    next = omega arith

    -- all are FREE: the run at the end goes on
    pub all_free : used ≡ 0 → Scanned es (32 * suc i) longest (ending + 32)
    all_free z = rw (← next) record {
      start = known.start;
      run = known.run;
      room = omega (arith, known.room);
      free = λ k h l. go k h l (dec_lt k p);
      most = λ c s h r. known.most c s (omega arith) r;
    }
      where
        go : (k : ℕ) → p + 32 ≤ k + (ending + 32) → k < p + 32 → Dec (k < p) → get_or es k HEAD ≡ FREE
        go k h l (yes m) = known.free k (omega arith) m
        go k h l (no m) = free_at k (omega arith) l (rw z (bit_of_zero (k - p)))

    -- some are not: the run at the end stops at the first of these, and a new one starts behind the last
    module _ (some : used ≢ 0) (front back best : ℕ) (at_front : ZerosOf 32 used front) (at_back : ZerosAbove used back) where
      front_lt : front < 32
      front_lt = first_of 32 used front (omega arith) some at_front

      back_lt : back < 32
      back_lt = go (dec_lt back 32)
        where
          go : Dec (back < 32) → back < 32
          go (yes l) = l
          go (no l) =
              let e : 31 - (31 - front) ≡ front = omega (arith, front_lt) in
              absurd (omega (arith, at_front.next front_lt, rw e at (at_back.above (31 - front) (omega arith))))

      -- no run reaches over a block that is used
      stops : (j c s : ℕ) → j < 32 → bit_of used j ≡ 1 → Run es c s → s ≤ p + j → s + c ≤ p + j
      stops j c s l taken r h = go (dec_lt (p + j) (s + c))
        where
          go : Dec (p + j < s + c) → s + c ≤ p + j
          go (yes m) = absurd (used_at j l taken (run_free es c s (p + j) r h m))
          go (no m) = omega arith

      -- the run that was at the end, with the FREE blocks at the front
      closed : 0 < ending + front → Run es (ending + front) (p - ending)
      closed h = free_run es (ending + front) (p - ending) h (λ d l. go d l (dec_lt (p - ending + d) p))
        where
          go : (d : ℕ) → d < ending + front → Dec (p - ending + d < p) → get_or es (p - ending + d) HEAD ≡ FREE
          go d l (yes m) = known.free (p - ending + d) (omega (arith, known.room)) m
          go d l (no m) = free_at (p - ending + d) (omega arith) (omega (arith, known.room, front_lt)) (at_front.before (p - ending + d - p) (omega (arith, known.room)))

      -- what is the longest behind them: the longest before, the run that stopped at the front, and the rows
      module _ (r : ℕ) (row : LongestRow bits best r) (greatest : best ≡ max longest (ending + front)) where
        found : longest < r → (s : ℕ) × Run es r s
        found l = ⊎_elim same (λ f. (p + f.0, row_run es i bits small holds r f.0 (omega arith) f.1)) row.found
          where
            same : r ≡ best → (s : ℕ) × Run es r s
            same e = (p - ending, let q : r ≡ ending + front = omega arith in rw q (closed (omega arith)))

        most : (c s : ℕ) → s + back < p + 32 → Run es c s → c ≤ r
        most c s h run = go (dec_lt (s + ending) p) (dec_lt (p + front) s)
          where
            go : Dec (s + ending < p) → Dec (p + front < s) → c ≤ r
            go (yes l) _ = omega (arith, known.most c s l run, row.least)
            go (no l) (no m) = omega (arith, stops front c s front_lt (at_front.next front_lt) run (omega arith), row.least)
            go (no l) (yes m) =
                let reach = stops (31 - back) c s (omega arith) (at_back.next back_lt) run (omega (arith, back_lt)) in
                row.most c (s - p) (omega (arith, back_lt)) (run_row es i bits small holds c s (omega arith) (omega (arith, back_lt)) run)

        pub some_used : Scanned es (32 * suc i) r back
        some_used = rw (← next) (go (dec_lt longest r))
          where
            ends : (k : ℕ) → p + 32 ≤ k + back → k < p + 32 → get_or es k HEAD ≡ FREE
            ends k h l =
                let e : 31 - (31 - (k - p)) ≡ k - p = omega (arith, back_lt) in
                free_at k (omega (arith, back_lt)) l (rw e at (at_back.above (31 - (k - p)) (omega (arith, back_lt))))

            with_run : (s : ℕ) → Run es r s → Scanned es (p + 32) r back
            with_run s run = record { start = s; run = run; room = omega (arith, back_lt); free = ends; most = most }

            go : Dec (longest < r) → Scanned es (p + 32) r back
            go (yes l) = let f = found l in with_run f.0 f.1
            go (no l) = with_run known.start (run_shorter es longest r known.start (omega arith) known.run)

-- ---- the whole table

-- at the end of the table the run that is left is one of the runs, and there is no other
pub scan_end : (es : List ℕ) (p longest ending r : ℕ) → length es ≤ p → Scanned es p longest ending → longest ≤ r → ending ≤ r → (r ≡ longest) ⊎ (r ≡ ending)
    → Longest es r
scan_end es p longest ending r past known more reach one_of_lem = go (dec_lt longest r)
  where
    most : (c s : ℕ) → Run es c s → Dec (s + ending < p) → c ≤ r
    most c s run (yes l) = omega (arith, known.most c s l run)
    most c s run (no l) = omega (arith, run.room)

    with_run : (s : ℕ) → Run es r s → Longest es r
    with_run s run = record { start = s; run = run; most = λ c s r. most c s r (dec_lt (s + ending) p) }

    last : longest < r → Run es r (p - ending)
    last l =
        let e : r ≡ ending = ⊎_elim (λ o. absurd (omega arith)) (λ o. o) one_of_lem in
        free_run es r (p - ending) (omega arith) (λ d m. known.free (p - ending + d) (omega (arith, known.room)) (omega (arith, known.room)))

    go : Dec (longest < r) → Longest es r
    go (yes l) = with_run (p - ending) (last l)
    go (no l) = with_run known.start (run_shorter es longest r known.start (omega arith) known.run)

-- where fewer than 32 blocks are left, the last run ends in them or before
module _ (es : List ℕ) (i bits : ℕ) (small : bits < 2 ^ 32) (holds : FreeIn es i bits) (few : length es < 32 * i + 32) where
  last_used : bit_of (ALL - bits) 31 ≡ 1
  last_used = go (ℕ_discrete (bit_of bits 31) 1)
    where
      go : Dec (bit_of bits 31 ≡ 1) → bit_of (ALL - bits) 31 ≡ 1
      go (yes e) = absurd (omega (arith, inside es (32 * i + 31) (bit_free es i bits holds 31 (omega arith) e)))
      go (no e) = omega (arith, e, used_bit es i bits small holds 31 (omega arith), bit_of_lt bits 31)

  pub scan_rest : (longest ending front best r : ℕ) → Scanned es (32 * i) longest ending → ZerosOf 32 (ALL - bits) front → LongestRow bits best r
      → best ≡ max longest (ending + front) → Longest es r
  scan_rest longest ending front best r known at_front row greatest =
      scan_end es (32 * suc i) r 0 r (omega arith)
      (some_used es i bits small holds longest ending known (λ z. omega (arith, last_used, ap (λ (x : ℕ). bit_of x 31) z, bit_of_zero 31)) front 0 best at_front
      (record { few = omega arith; above = λ j l. absurd (omega arith); next = λ _. last_used }) r row greatest)
      (omega arith) (omega arith) (inl refl)
