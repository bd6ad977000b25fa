-- An accepted call that spares the log leaves its chain. Only promises are used, never how a call is defined.
-- Assumes nothing.
use mathlib.Core.Path.{sym, subst}
use mathlib.Core.List.{List}
use Prim.Native.Nat.{ℕ}
use Rattle.rules.specs.Words.{words_of}
use Rattle.laws.specs.Meaning.{Accepted}
use Rattle.rules.specs.Outcomes.{Heap}
use Rattle.rules.specs.Forms.{Form}
use Rattle.laws.specs.Faithful.{Faithful}
use Rattle.rules.specs.Runs.{Call, Init, Allocate, Free, Reallocate, Collect, Survey, Load, Store, WriteImage, OpenImage, step}
use Rattle.rules.specs.Memory.{Memory, heap_in}
use Rattle.promises.proofs.Promised.{promises}
use Rattle.loglaws.specs.Chains.{Entry, Chain}
use Rattle.loglaws.specs.Lasting.{Spares}
use Rattle.loglaws.proofs.Chaining.{chain_object, chain_same, chain_apart, chain_reachable}

module _ (f : Form) (faithful : Faithful f) (base first : ℕ) (es : List Entry) where
  -- an accepted call that spares the log leaves its chain
  pub spared : (c : Call) (stack : List ℕ) (m : Memory) → Spares base first es c → Chain base (heap_in f m) first es → Accepted (step c stack (heap_in f m))
      → Chain base (step c stack (heap_in f m)).heap first es
  unfolding step Spares
  spared (Init b) stack m spares chain accepted = absurd spares
  spared (Allocate b bytes) stack m spares chain accepted =
      chain_same base (heap_in f m) _ chain (λ o among. (promises.allocated b (heap_in f m) bytes accepted).others o (chain_object base (heap_in f m) chain o among))
  spared (Free b k) stack m spares chain accepted = chain_apart base (heap_in f m) _ chain k spares (promises.freed b (heap_in f m) k accepted).others
  spared (Reallocate b k bytes) stack m spares chain accepted = chain_apart base (heap_in f m) _ chain k spares (promises.reallocated b (heap_in f m) k bytes accepted).others
  spared (Collect b roots) stack m spares chain accepted =
      let h : Heap = heap_in f m in
      let there : Chain b h first es = subst (λ (a : ℕ). Chain a h first es) (sym spares.0) chain in
      let p = promises.reclaimed f faithful b m roots stack accepted in
      chain_same base h _ chain (λ o among. p.others o (chain_reachable b h (words_of roots) there spares.1 o among))
  spared (Survey b) stack m spares chain accepted = subst (λ (h : Heap). Chain base h first es) (sym (promises.survey_leaves b (heap_in f m))) chain
  spared (Load b k i) stack m spares chain accepted = subst (λ (h : Heap). Chain base h first es) (sym (promises.load_leaves b (heap_in f m) k i)) chain
  spared (Store b k i w) stack m spares chain accepted = chain_apart base (heap_in f m) _ chain k spares (promises.stored b (heap_in f m) k i w accepted).others
  spared (WriteImage b roots room) stack m spares chain accepted = subst (λ (h : Heap). Chain base h first es) (sym (promises.image_leaves b (heap_in f m) roots room)) chain
  spared (OpenImage image room) stack m spares chain accepted = absurd spares
