-- What every call keeps: the number of entries and of bytes, that two bits hold each entry, and that the pool's elements are bytes.
-- Assumes nothing.
use mathlib.Core.Path.{◌≡◌, refl, ◌∙◌}
use mathlib.Core.Bool.{Bool, true, false}
use mathlib.Core.List.{List, [], ◌∷◌, ◌++◌}
use Prim.Native.Nat.{ℕ, zero, suc, ◌+◌, ◌*◌, ◌-◌, ◌<◌}
use native.Mathlib.Omega.{arith}
use lib.Dec.{eqb}
use lib.ListN.{length, take, drop, replicate, length-set, length-replicate}
use lib.Seq.{sets, length-sets}
use Rattle.rules.specs.Tests.{pick}
use Rattle.rules.specs.Entries.{FREE, HEAD, TAIL, MARK}
use Rattle.rules.specs.Words.{bytes_of, with_word}
use Rattle.rules.specs.Tables.{placed, released, extended}
use Rattle.laws.specs.Faithful.{Small}
use Rattle.rules.specs.Outcomes.{Heap, Answer, Outcome, only_refusal, leaves_with, fills, unless_refused, cleared_blocks}
use Rattle.laws.specs.Meaning.{AllBytes}
use Rattle.rules.specs.Marking.{Context, State, state, walk, trace, mark_root, mark_roots, pass_block, pass, mark_all, swept_entry, freeing_after, sweep_from, sweep}
use Rattle.rules.specs.Calls.{init, taken, placing, allocate, freed, free, Way, stay, shrink, grow, move, no_way, shrunk, grown, moved, along, reallocate, collecting, collect, survey, load, store, write_image, open_image}
use Rattle.rules.specs.Files.{File, file_of, entries_for, heap_of_file, roots_of}
use Rattle.rules.specs.Runs.{Call, Init, Allocate, Free, Reallocate, Collect, Survey, Load, Store, WriteImage, OpenImage, step, FileIs}
use Rattle.laws.proofs.Lists.{bounded_sets, bounded_replicate, bounded_append, bounded_take, bounded_drop}
use Rattle.laws.proofs.Entries.{entries_of_lt}
use Rattle.laws.proofs.Words.{bytes_of_lt, length_with_word}
use Rattle.laws.proofs.Pools.{cleared_length, moved_length}
use Rattle.laws.proofs.Files.{length_pool, pool_bytes}
use Rattle.laws.proofs.Faults.{length_blocks, bytes_blocks}
use Rattle.laws.proofs.Opening.{Opens, open_passed}
use Rattle.laws.proofs.Marking.{Rooted, idle, takes, rooted, Passed, skips, walks, passed, drain_keeps, pass_keeps, rescan_keeps, Sane, sane_start, sane_pop, sane_walk, sweep_length}

-- ---- the number of entries

module _ {c : Context} {n : ℕ} where
  sane_trace : (k : ℕ) (s : State) → Sane c n s → Sane c n (trace c k s)
  unfolding trace
  sane_trace k s g = drain_keeps c (Sane c n) (λ es j st o p. sane_walk j (state es st o) (sane_pop p)) (walk c k s) (sane_walk k s g)

  sane_root : (w : ℕ) (s : State) → Sane c n s → Sane c n (mark_root c w s)
  sane_root w s g = go (rooted c w s)
    where
      go : {z : State} → Rooted c w s z → Sane c n z
      go (idle _) = g
      go (takes k q h) = sane_trace k _ (record { long = simp length-set g.long; below = g.below; fits = g.fits })

  sane_roots : (ws : List ℕ) (s : State) → Sane c n s → Sane c n (mark_roots c ws s)
  unfolding mark_roots
  sane_roots [] s g = g
  sane_roots (w ∷ ws) s g = sane_roots ws (mark_root c w s) (sane_root w s g)

  sane_block : (k : ℕ) (s : State) → Sane c n s → Sane c n (pass_block c k s)
  sane_block k s g = go (passed c k s)
    where
      go : {z : State} → Passed c k s z → Sane c n z
      go (skips _) = g
      go (walks h) = sane_trace k s g

  sane_pass : (s : State) → Sane c n s → Sane c n (pass c s)
  unfolding pass
  sane_pass s g = pass_keeps c (λ k z. Sane c n z) sane_block 0 (length s.entries) _ (record { long = g.long; below = g.below; fits = g.fits })

marking_length : (c : Context) (ws es : List ℕ) → length (mark_all c ws es).last.entries ≡ length es
unfolding mark_all
marking_length c ws es = (rescan_keeps c (Sane c (length es)) sane_pass _ 0 (sane_roots ws _ (sane_start es false refl))).long

-- ---- entries of two bits

small_swept : (freeing : Bool) (es : List ℕ) → Small (sweep_from freeing es)
unfolding sweep_from swept_entry
small_swept freeing [] i = omega arith
small_swept freeing (e ∷ es) zero = go (eqb e HEAD) (eqb e MARK) (eqb e TAIL) freeing
  where
    go : (a b c d : Bool) → pick a FREE (pick b HEAD (pick c (pick d FREE TAIL) FREE)) < 4
    go true b c d = omega arith
    go false true c d = omega arith
    go false false true true = omega arith
    go false false true false = omega arith
    go false false false d = omega arith
small_swept freeing (e ∷ es) (suc i) = small_swept (freeing_after freeing e) es i

-- ---- a pool of bytes

bytes_cleared : (pool : List ℕ) (s b : ℕ) → AllBytes pool → AllBytes (cleared_blocks pool s b)
unfolding cleared_blocks
bytes_cleared pool s b y = bounded_sets pool (16 * s) (replicate (16 * b) 0) y (bounded_replicate (16 * b) 0 (omega arith))

bytes_moved : (h : Heap) (k b c s : ℕ) → AllBytes h.pool → AllBytes (moved h k b c s).pool
unfolding moved
bytes_moved h k b c s y =
    let old : List ℕ = drop (16 * k) h.pool in
    let front : List ℕ = take (16 * b) old in
    let rest : List ℕ = replicate (16 * (c - b)) 0 in
    bounded_sets h.pool (16 * s) (front ++ rest) y
    (bounded_append front rest (bounded_take (16 * b) old (bounded_drop (16 * k) h.pool y)) (bounded_replicate (16 * (c - b)) 0 (omega arith)))

bytes_stored : (pool : List ℕ) (i w : ℕ) → AllBytes pool → AllBytes (with_word pool i w)
unfolding with_word
bytes_stored pool i w y = bounded_sets pool (4 * i) (bytes_of w) y (bytes_of_lt w)

-- ---- every call

pub record Kept (es es' : List ℕ) : Type 0 where
  pub long : length es' ≡ length es
  pub small : Small es → Small es'

kept_same : (es : List ℕ) → Kept es es
kept_same es = record { long = refl; small = λ s. s }

kept_sets : (es : List ℕ) (at : ℕ) (vs : List ℕ) → Small vs → Kept es (sets es at vs)
kept_sets es at vs h = record { long = length-sets es at vs; small = λ s. bounded_sets es at vs s h }

kept_placed : (es : List ℕ) (s b : ℕ) → Kept es (placed es s b)
unfolding placed
kept_placed es s b = kept_sets es s (HEAD ∷ replicate (b - 1) TAIL) go
  where
    go : Small (HEAD ∷ replicate (b - 1) TAIL)
    go zero = omega arith
    go (suc i) = bounded_replicate (b - 1) TAIL (omega arith) i

kept_released : (es : List ℕ) (s b : ℕ) → Kept es (released es s b)
unfolding released
kept_released es s b = kept_sets es s (replicate b FREE) (bounded_replicate b FREE (omega arith))

kept_extended : (es : List ℕ) (s b : ℕ) → Kept es (extended es s b)
unfolding extended
kept_extended es s b = kept_sets es s (replicate b TAIL) (bounded_replicate b TAIL (omega arith))

-- the pool's elements stay bytes if those of the call's file are
pub record Keeps (c : Call) (h : Heap) (o : Outcome) : Type 0 where
  pub entries : Kept h.entries o.heap.entries
  pub bytes : length o.heap.pool ≡ length h.pool
  pub all_bytes : FileIs AllBytes c → AllBytes h.pool → AllBytes o.heap.pool

keeps_all : (c : Call) (h : Heap) (a : Answer) (stack : List ℕ) → Keeps c h (leaves_with a h stack)
keeps_all c h a stack = record { entries = kept_same h.entries; bytes = refl; all_bytes = λ _ y. y }

-- a call that is not refused has passed its tests
keeps_if : (c : Call) (n : ℕ) (h : Heap) (stack : List ℕ) {acted : Outcome} → (n ≡ 0 → Keeps c h acted) → Keeps c h (unless_refused n h stack acted)
unfolding unless_refused
keeps_if c zero h stack k = k refl
keeps_if c (suc r) h stack k = keeps_all c h (only_refusal (suc r)) stack

keeps_unless : (c : Call) (n : ℕ) (h : Heap) (stack : List ℕ) {acted : Outcome} → Keeps c h acted → Keeps c h (unless_refused n h stack acted)
keeps_unless c n h stack k = keeps_if c n h stack (λ _. k)

keeps_opened : (h : Heap) (image : List ℕ) (room : ℕ) (a : Answer) → Opens h image room → Keeps (OpenImage image room) h (fills a (heap_of_file (file_of image)) (roots_of (file_of image)))
keeps_opened h image room a o =
    let f : File = file_of image in
    let bytes = length_blocks image o.faultless in
    record {
      entries = record { long = o.long; small = λ _. entries_of_lt f.table.body };
      bytes = length_pool (entries_for f.table) f.blocks.body (omega (arith, bytes)) ∙ omega (arith, o.long, o.shape.pool);
      all_bytes = λ given _. pool_bytes (entries_for f.table) f.blocks.body (bytes_blocks image (given image refl));
    }

keeps_along : (call : Call) (way : Way) (h : Heap) (k b c : ℕ) → Keeps call h (along way h k b c)
unfolding along placing shrunk grown moved
keeps_along call stay h k b c = keeps_all call h _ []
keeps_along call shrink h k b c = record { entries = kept_released h.entries (k + c) (b - c); bytes = refl; all_bytes = λ _ y. y }
keeps_along call grow h k b c = record { entries = kept_extended h.entries (k + b) (c - b); bytes = cleared_length h.pool (k + b) (c - b); all_bytes = λ _. bytes_cleared h.pool (k + b) (c - b) }
keeps_along call (move s) h k b c =
    let p = kept_placed h.entries s c in
    let r = kept_released (placed h.entries s c) k b in
    record { entries = record { long = r.long ∙ p.long; small = λ x. r.small (p.small x) }; bytes = moved_length h k b c s; all_bytes = λ _. bytes_moved h k b c s }
keeps_along call no_way h k b c = keeps_all call h _ []

pub step_keeps : (c : Call) (stack : List ℕ) (h : Heap) → Keeps c h (step c stack h)
unfolding step init allocate free reallocate collect survey load store write_image open_image placing taken freed collecting sweep
step_keeps (Init base) stack h =
    keeps_unless _ _ h []
    (record { entries = record { long = length-replicate {A = ℕ} (length h.entries) FREE; small = λ s. bounded_replicate (length h.entries) FREE (omega arith) }; bytes = refl; all_bytes = λ _ y. y })
step_keeps (Allocate base bytes) stack h = keeps_unless _ _ h [] (record { entries = kept_placed h.entries _ _; bytes = cleared_length h.pool _ _; all_bytes = λ _. bytes_cleared h.pool _ _ })
step_keeps (Free base k) stack h = keeps_unless _ _ h [] (record { entries = kept_released h.entries k _; bytes = refl; all_bytes = λ _ y. y })
step_keeps (Reallocate base k bytes) stack h = keeps_unless _ _ h [] (keeps_along _ _ h k _ _)
step_keeps (Collect base roots) stack h =
    keeps_unless _ _ h stack
    (record { entries = record { long = sweep_length false _ ∙ marking_length _ _ h.entries; small = λ s. small_swept false _ }; bytes = refl; all_bytes = λ _ y. y })
step_keeps (Survey base) stack h = keeps_unless _ _ h [] (keeps_all _ h _ [])
step_keeps (Load base k i) stack h = keeps_unless _ _ h [] (keeps_all _ h _ [])
step_keeps (Store base k i w) stack h = keeps_unless _ _ h [] (record { entries = kept_same h.entries; bytes = length_with_word h.pool (4 * k + i) w; all_bytes = λ _. bytes_stored h.pool (4 * k + i) w })
step_keeps (WriteImage base roots room) stack h = keeps_unless _ _ h [] (record { entries = kept_same h.entries; bytes = refl; all_bytes = λ _ y. y })
step_keeps (OpenImage image room) stack h = keeps_if _ _ h [] (λ e. keeps_opened h image room _ (open_passed h image room e))
