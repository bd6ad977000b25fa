-- `objects::relocate` meets its contract: where a start was found its blocks are a run, which the old object does not meet; so what is
-- copied is the old bytes, and copying and clearing are one run of stores. Where none was found the refusal is 9.
-- Assumes nothing.
use mathlib.Core.Path.{◌≡◌, sym, ap, ◌∙◌}
use mathlib.Core.Logic.{◌⊎◌, inl, inr, ⊎_elim}
use mathlib.Core.List.{List}
use mathlib.Core.Option.{some, none}
use Prim.Native.Nat.{ℕ, ◌+◌, ◌-◌, ◌*◌, ◌≤◌, ◌<◌}
use native.Mathlib.Omega.{arith}
use lib.IntN.{ℤ, sub_ℕ}
use lib.ListN.{length, take, drop}
use lib.Seq.{sets}
use mir.Syntax.{w32}
use mir.Val.{to_z, of_z}
use Rattle.rules.specs.Tables.{first_fit, placed, released}
use Rattle.rules.specs.Outcomes.{placed_at, only_refusal, leaves, cleared_blocks}
use Rattle.rules.specs.Planes.{entries_in, IsTable, Holds, heap_at}
use Rattle.laws.specs.Meaning.{Run}
use Rattle.rules.specs.Calls.{placing, moved, moves_to, along}
use Rattle.laws.proofs.Tables.{first_fits}
use Rattle.laws.proofs.Changes.{placed_length}
use Rattle.laws.proofs.Pools.{moved_steps}
use Rattle.laws.proofs.Calls.{move_change, run_beside}
use Rattle.std.proofs.lemmas.Result.{err_from_is_err_and}
use Rattle.objects.specs.Held.{Held}
use Rattle.objects.proofs.Starts.{start, nowhere, no_room}
use Rattle.objects.proofs.Held.{held_few, held_room, change_is}
use Rattle.objects.proofs.relocate.Goals as goal

-- the start s was found
module _ {t : ℕ} {pool table : List ℕ} {k old new s : ℕ} (held : Held t pool table k old) (more : (old < new) × (new ≤ 4096)) (start : first_fit (entries_in t table) new ≡ some s) where
  run : Run (entries_in t table) new s
  run = (first_fits (entries_in t table) new s (omega arith) start).run

  apart : (from to count : ℕ) → from ≡ 16 * k → to ≡ 16 * s → count ≡ 16 * old → (from + count ≤ to) ⊎ (to + count ≤ from)
  apart from to count f g n =
      ⊎_elim (λ below. inr (omega arith)) (λ above. inl (omega (arith, held.count)))
      (run_beside (entries_in t table) new s k (omega arith) run held.head)

  moves : (pool1 pool2 table1 table2 : List ℕ) (from to count end : ℕ) (d : ℤ) → Holds t (placed (entries_in t table) s new) table1
      → from ≡ 16 * k → to ≡ 16 * s → count ≡ 16 * old → pool1 ≡ sets pool to (take count (drop from pool))
      → end ≡ s + old → pool2 ≡ cleared_blocks pool1 end (new - old)
      → Holds t (released (entries_in t table1) k old) table2 → d ≡ sub_ℕ new old
      → IsTable t table2 × (leaves (placed_at s (to_z w32 (of_z w32 d))) (heap_at t pool2 table2) ≡ along (moves_to (first_fit (entries_in t table) new)) (heap_at t pool table) k old new)
  unfolding along moves_to placing moved
  moves pool1 pool2 table1 table2 from to count end d p f g n copied e cleared r q =
      let few = held_few held in
      let room = held_room held in
      let steps = moved_steps (heap_at t pool table) k old new s (omega (arith, held.long)) (omega arith) in
      let change = move_change (entries_in t table) k new s held.head (omega arith) run in
      (r.is_table, rw (start, change_is new old d (omega arith) (omega arith) q, r.entries, p.entries, cleared, e, copied, f, g, n, steps, rw (sym held.count) at change))

-- no start was found
stays : (t : ℕ) (pool table : List ℕ) (k old new : ℕ) {r : ℕ} → first_fit (entries_in t table) new ≡ none → r ≡ 9
    → leaves (only_refusal r) (heap_at t pool table) ≡ along (moves_to (first_fit (entries_in t table) new)) (heap_at t pool table) k old new
unfolding along moves_to
stays t pool table k old new e q = rw (e, q)

pub returns-in_err-s : goal.returns-in_err-s
returns-in_err-s c =
    let p = err_from_is_err_and c.from_residual.result c.from_residual.ensures.1 in
    let none = c.in_err-s.ensures.ok_part in
    (c.requires.held.is_table, rw (p.1, p.2) (stays _ _ _ _ _ _ (nowhere (rw c.new.ensures at c.first_fit.ensures) none) (no_room _ _ none c.in_err-s.ensures.value)))

pub place-requires : goal.place-requires
place-requires c = (c.requires.held.is_table, (omega arith, (run c.requires.held c.requires.lt (start (rw c.new.ensures at c.first_fit.ensures) c.in_ok-s.ensures.ok_part)).room))

pub offset-requires : goal.offset-requires
offset-requires c =
    let held = c.requires.held in
    omega (arith, held_room held, held_few held)

pub offset-requires-2 : goal.offset-requires-2
offset-requires-2 c = omega (arith, (run c.requires.held c.requires.lt (start (rw c.new.ensures at c.first_fit.ensures) c.in_ok-s.ensures.ok_part)).room, held_few c.requires.held)

pub copy-requires : goal.copy-requires
copy-requires c =
    let room = (run c.requires.held c.requires.lt (start (rw c.new.ensures at c.first_fit.ensures) c.in_ok-s.ensures.ok_part)).room in
    let long = c.requires.held.long in
    let from = c.offset.ensures in
    let to = c.offset-2.ensures in
    let count = c.of_blocks.ensures in
    record {
      count_in_bounds = (omega (arith, held_room c.requires.held), omega arith);
      apart = apart c.requires.held c.requires.lt (start (rw c.new.ensures at c.first_fit.ensures) c.in_ok-s.ensures.ok_part) _ _ _ from to count;
    }

pub plus-requires : goal.plus-requires
plus-requires c = omega (arith, (run c.requires.held c.requires.lt (start (rw c.new.ensures at c.first_fit.ensures) c.in_ok-s.ensures.ok_part)).room, c.requires.lt, held_few c.requires.held)

pub clear_blocks-requires : goal.clear_blocks-requires
clear_blocks-requires c =
    let room = (run c.requires.held c.requires.lt (start (rw c.new.ensures at c.first_fit.ensures) c.in_ok-s.ensures.ok_part)).room in
    let few = held_few c.requires.held in
    let end = c.plus.ensures in
    let more = c.requires.lt in
    (omega arith, omega (arith, c.copy.auto.pool, c.requires.held.long))

pub release-requires : goal.release-requires
release-requires c = (c.place.ensures.is_table, omega (arith, held_room c.requires.held, ap length c.place.ensures.entries ∙ placed_length _ _ _))

pub returns : goal.returns
returns c =
    moves c.requires.held c.requires.lt (start (rw c.new.ensures at c.first_fit.ensures) c.in_ok-s.ensures.ok_part) _ _ _ _ _ _ _ _ _
    c.place.ensures
    c.offset.ensures c.offset-2.ensures c.of_blocks.ensures c.copy.ensures
    c.plus.ensures c.clear_blocks.ensures
    c.release.ensures
    c.difference.ensures
