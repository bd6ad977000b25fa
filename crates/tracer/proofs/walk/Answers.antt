-- What is left to walk from the present state ends where all the words end from the state at the start. The measure is the words left.
-- Assumes nothing.
use mathlib.Core.Path.{refl, ◌∙◌}
use Prim.Native.Nat.{◌+◌, ◌*◌, ◌≤◌}
use native.Mathlib.Omega.{arith}
use lib.ListN.{length}
use Rattle.laws.proofs.Planes.{few_entries}
use Rattle.laws.proofs.Widths.{in_32_bits}
use Rattle.visitor.specs.Variables.{state_of}
use Rattle.tracer.proofs.Turning.{in_space, walk_turn, walk_end}
use Rattle.tracer.proofs.walk.Goals as goal

pub first_word-first-requires : goal.first_word-first-requires
first_word-first-requires c = omega (arith, c.requires.depth_in_bounds.1.0, few_entries c.args.t c.args.table.now c.requires.shape.is_table)

pub overflow_mul-words : goal.overflow_mul-words
overflow_mul-words c = in_32_bits (omega (arith, (rw c.new.ensures at c.block_count-words.ensures).1, few_entries c.args.t c.args.table.now c.requires.shape.is_table))

pub loop-i-init : goal.loop-i-init
loop-i-init c = (omega arith, c.requires.depth_in_bounds.0, c.requires.shape.is_table, refl, refl, c.requires.depth_in_bounds.1.1, refl)

pub overflow_add-first : goal.overflow_add-first
overflow_add-first c =
    let within : 4 * (c.first_word-first.result + c.loop-i.i) ≤ length c.args.pool.now = omega (arith, c.loop-i.invariant.0, (rw c.new.ensures at c.block_count-words.ensures).1, c.first_word-first.ensures, c.requires.shape.whole) in
    in_32_bits (omega (arith, within, c.requires.shape.whole, few_entries c.args.t c.args.table.now c.requires.shape.is_table))

pub word-requires : goal.word-requires
word-requires c =
    let within : 4 * (c.first_word-first.result + c.loop-i.i) ≤ length c.args.pool.now = omega (arith, c.loop-i.invariant.0, (rw c.new.ensures at c.block_count-words.ensures).1, c.first_word-first.ensures, c.requires.shape.whole) in
    omega (arith, within, c.loop-i-test.true)

pub visit-walked-requires : goal.visit-walked-requires
visit-walked-requires c =
    let l = c.loop-i in record { base_bound = in_space c.args.base.0 c.args.t c.args.pool.now c.args.table.now l.table c.args.k.0 c.requires.shape c.requires.depth_in_bounds.1.0; table = (l.invariant.2, (l.invariant.1, l.invariant.5)) }

pub loop-i-preserved : goal.loop-i-preserved
loop-i-preserved c =
    let a = c.args in
    let l = c.loop-i in
    let v = c.visit-walked in (
      omega arith,
      (v.ensures a.pool.now).deep,
      (v.ensures a.pool.now).is_table,
      v.auto.table ∙ l.invariant.3,
      v.auto.stack ∙ l.invariant.4,
      (v.ensures a.pool.now).knows,
      walk_turn a.base.0 a.pool.now a.stack.now c.first_word-first.result l.i c.word.result l.stack
          (state_of a.t l.table l.stack l.walked) (omega arith) l.invariant.4 c.word.ensures (v.ensures a.pool.now).same l.invariant.6,
    )

pub returns : goal.returns
returns c =
    let a = c.args in
    let l = c.loop-i in
    record {
      same =
          walk_end a.base.0 a.pool.now a.stack.now a.k.0 c.block_count-words.result c.first_word-first.result l.i
          (state_of a.t l.table l.stack l.walked) (state_of a.t a.table.now a.stack.now a.m)
          c.loop-i-test.false c.first_word-first.ensures (rw c.new.ensures at c.block_count-words.ensures).0 l.invariant.6;
      is_table = l.invariant.2;
      deep = l.invariant.1;
      knows = l.invariant.5;
    }
