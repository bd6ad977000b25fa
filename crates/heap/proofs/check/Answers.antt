-- `heap::check` gives the number of a survey. Assumes nothing.
use mathlib.Core.Path.{◌≡◌, sym, ◌∙◌}
use mathlib.Core.HLevel.{Π_prop, is_prop→PathP}
use native.Mathlib.Bridge.{le_prop}
use Rattle.laws.specs.Meaning.{AllBytes}
use Rattle.checks.specs.declared.HeapView.{HeapView}
use Rattle.std.proofs.lemmas.Result.{err_from_is_err_and}
use Rattle.heap.proofs.Ends.{survey_number}
use Rattle.heap.proofs.check.Goals as goal

pub returns-in_err-heap-clause-refusal : goal.returns-in_err-heap-clause-refusal
returns-in_err-heap-clause-refusal c =
    let p = err_from_is_err_and c.from_residual.result c.from_residual.ensures.1 in
    rw (p.1, p.2) (c.in_err-heap.ensures ∙ survey_number _ _ _ _)

pub returns-clause-refusal : goal.returns-clause-refusal
returns-clause-refusal c = c.in_ok-heap.ensures ∙ survey_number _ _ _ _

pub invariant_of-result : goal.invariant_of-result
invariant_of-result c = let v = c.new.ensures in record { accepted = rw (v.base, v.t, v.pool, v.table) (sym (c.in_ok-heap.ensures ∙ survey_number _ _ _ _)) }

-- a view with the same four is the same
same_view : (v w : HeapView) → v.base ≡ w.base → v.t ≡ w.t → v.pool ≡ w.pool → v.table ≡ w.table → v ≡ w
same_view v w b n p q = λ i. record {
  base = b i;
  t = n i;
  pool = p i;
  table = q i;
  are_bytes = is_prop→PathP (λ j. AllBytes (q j).now) (λ j. Π_prop (λ k. le_prop)) v.are_bytes w.are_bytes i;
}

pub returns-clause-heap : goal.returns-clause-heap
returns-clause-heap c = let v = c.new.ensures in same_view c.new.result c.args.heap.now v.base v.t v.slices.0 v.slices.1
