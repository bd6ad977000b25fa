-- The first address of a log is of 32 bits, and the calls on the words of an entry are accepted.
-- Assumes nothing.
use mathlib.Core.Path.{◌≡◌, sym, ap, ◌∙◌}
use mathlib.Core.List.{List, [], Memᴰ}
use mathlib.Core.Option.{some}
use Prim.Native.Nat.{ℕ, ◌^◌, ◌<◌}
use native.Mathlib.Omega.{arith}
use Rattle.rules.specs.Outcomes.{Heap, Answer}
use Rattle.rules.specs.Runs.{Free, Survey, Load, step}
use Rattle.rules.specs.Planes.{planes, heap_at}
use Rattle.rules.specs.Memory.{Memory, memory, Sound, AcceptedIn, perform}
use Rattle.laws.specs.Meaning.{Passed}
use Rattle.laws.proofs.Planes.{planes_faithful}
use Rattle.promises.specs.Promises.{Object, blocks_of}
use Rattle.promises.proofs.Bytes.{on_bytes}
use Rattle.promises.proofs.Observed.{load_inside}
use Rattle.loglaws.specs.Chains.{heads}
use Rattle.loglaws.proofs.Chaining.{chain_word, chain_object, chain_blocks}
use Rattle.loglaws.proofs.Lasting.{survey_sound}
use Rattle.loglaws.proofs.Following.{looks}
use Rattle.loglaws.proofs.Finding.{Found, found_says}
use Rattle.loglaws.proofs.Reading.{free_accepted}
use Rattle.logs.specs.Heads.{Loads, heads_from}
use Rattle.chain.specs.Walks.{loads_in}

module _ (t base : ℕ) (pool table : List ℕ) where
  abbrev m : Memory
  m = memory pool table

  abbrev h : Heap
  h = heap_at t pool table

  -- what loads answer in lent memory that has passed is what they answer on the heap in it
  loads_on_heap : Sound (planes t) m → loads_in base t pool table ≡ looks base h
  unfolding step
  loads_on_heap s = λ i k j. (on_bytes.as_on_heap (planes t) (planes_faithful t) (Load base k j) [] m s).answer i

  module _ (z : AcceptedIn (perform (planes t) (Survey base) [] m)) where
    sound : Sound (planes t) m × Passed base h
    sound = survey_sound (planes t) base m z

    -- the heads that were found are those of a chain
    module _ (first : ℕ) (ks : List ℕ) (e : heads_from (loads_in base t pool table) base 4096 first ≡ some ks) where
      found : Found base h first ks
      found = found_says base h sound.1 4096 first ks (sym (ap (λ (l : Loads). heads_from l base 4096 first) (loads_on_heap sound.0)) ∙ e)

      pub first_small : first < 2 ^ 32
      first_small = chain_word base h sound.1 found.chain

      -- an entry is an object of two blocks
      pub entry_is : (k : ℕ) → Memᴰ k ks → Object h k × (blocks_of h k ≡ 2)
      entry_is k among = let n : Memᴰ k (heads found.entries) = rw found.are among in (chain_object base h found.chain k n, chain_blocks base h found.chain k n)

    module _ (k : ℕ) (head : Object h k) where
      pub load_accepted : (i : ℕ) → i < 8 → blocks_of h k ≡ 2 → AcceptedIn (perform (planes t) (Load base k i) [] m)
      unfolding step
      load_accepted i l two =
          ap (λ (a : Answer). a.refusal) ((on_bytes.as_on_heap (planes t) (planes_faithful t) (Load base k i) [] m sound.0).answer ∙ load_inside base h sound.1 k i head (omega (arith, l, two)))

      pub dropped_accepted : AcceptedIn (perform (planes t) (Free base k) [] m)
      unfolding step
      dropped_accepted =
          ap (λ (a : Answer). a.refusal) (on_bytes.as_on_heap (planes t) (planes_faithful t) (Free base k) [] m sound.0).answer ∙ free_accepted base h sound.1 k head
