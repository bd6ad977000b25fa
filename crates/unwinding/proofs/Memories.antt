-- Two lent memories that no call tells apart: the same table, and pools that match in every allocated block. Each call made alike on both is answered alike, and leaves two such memories; and so does a
-- first collection from roots from which the heaps agree.
-- Assumes nothing.
use mathlib.Core.Path.{◌≡◌, sym, ap, subst, ◌∙◌}
use mathlib.Core.Logic.{◌≢◌}
use mathlib.Core.List.{List}
use Prim.Native.Nat.{ℕ, ◌+◌, ◌*◌, ◌/◌, ◌<◌}
use native.Mathlib.Omega.{arith}
use lib.ListN.{get_or}
use Rattle.rules.specs.Words.{words_of}
use Rattle.rules.specs.Entries.{FREE}
use Rattle.rules.specs.Tables.{entry_at}
use Rattle.rules.specs.Forms.{Form}
use Rattle.rules.specs.Outcomes.{Heap, Outcome}
use Rattle.rules.specs.Runs.{Call, Collect, step}
use Rattle.rules.specs.Memory.{Memory, Result, heap_in, Sound, AcceptedIn, perform}
use Rattle.laws.specs.Faithful.{Faithful}
use Rattle.laws.proofs.Matching.{Matching}
use Rattle.laws.proofs.Memory.{Written, Follows, follows_sound, follows_accepted, sound_next, kept_by, passes_in}
use Rattle.keeping.specs.Keeping.{Agree}
use Rattle.unwinding.specs.Answers.{SameStacks, SameAnswer}
use Rattle.unwinding.proofs.Same.{Same}
use Rattle.unwinding.proofs.Heaps.{same_call}
use Rattle.unwinding.proofs.Collections.{same_first}

pub record Twins (f : Form) (m m' : Memory) : Type 0 where
  pub sound : Sound f m
  pub sound' : Sound f m'
  -- each table is what its entries are written as
  pub written : Written f m
  pub written' : Written f m'
  pub entries : f.read m.table ≡ f.read m'.table
  pub match : Matching (f.read m.table) m.pool m'.pool

module _ (f : Form) {m m' : Memory} (w : Twins f m m') where
  -- the tables are the same, byte by byte
  pub twin_tables : m.table ≡ m'.table
  twin_tables = w.written ∙ ap f.write w.entries ∙ sym w.written'

  -- and so is every byte of an allocated block
  pub twin_bytes : (k : ℕ) → entry_at (f.read m.table) k ≢ FREE → (j : ℕ) → j < 16 → get_or m.pool (16 * k + j) 0 ≡ get_or m'.pool (16 * k + j) 0
  twin_bytes k u j l = let e : (16 * k + j) / 16 ≡ k = omega arith in w.match.bytes (16 * k + j) (rw e u)

-- a call made on both
pub record CalledAlike (f : Form) (c : Call) (stack stack' : List ℕ) (r r' : Result) : Type 0 where
  pub answer : SameAnswer stack stack' r.answer r'.answer c
  pub filled : r.filled ≡ r'.filled
  pub memory : Twins f r.memory r'.memory

-- the calls on the heaps in them do not tell them apart
from_heaps : (f : Form) (c : Call) (stack stack' : List ℕ) {r r' : Result} {o o' : Outcome} → Follows f r o → Follows f r' o' → Sound f r.memory → Sound f r'.memory → Written f r.memory
    → Written f r'.memory → Same c stack stack' o o' → CalledAlike f c stack stack' r r'
from_heaps f c stack stack' {r = r} {r' = r'} {o = o} x x' s s' w w' same =
    record {
      answer = rw (x.answer, x'.answer) same.answer;
      filled = x.filled ∙ same.filled ∙ sym x'.filled;
      memory = record {
        sound = s;
        sound' = s';
        written = w;
        written' = w';
        entries = ap (λ (h : Heap). h.entries) x.heap ∙ same.table ∙ sym (ap (λ (h : Heap). h.entries) x'.heap);
        match = subst (λ (h : Heap). Matching h.entries h.pool r'.memory.pool) (sym x.heap)
            (subst (λ (h : Heap). Matching o.heap.entries o.heap.pool h.pool) (sym x'.heap) same.match);
      };
    }

module _ (f : Form) (faithful : Faithful f) where
  written_next : (c : Call) (stack : List ℕ) (m : Memory) → Sound f m → Written f m → Written f (perform f c stack m).memory
  written_next c stack m s w = kept_by (Written f) f c stack m (follows_sound f faithful c stack m s).written w

  pub call_alike : (c : Call) (stack stack' : List ℕ) (m m' : Memory) → SameStacks stack stack' → Twins f m m' → CalledAlike f c stack stack' (perform f c stack m) (perform f c stack' m')
  call_alike c stack stack' m m' same w =
      from_heaps f c stack stack' (follows_sound f faithful c stack m w.sound) (follows_sound f faithful c stack' m' w.sound') (sound_next f faithful c stack m w.sound)
      (sound_next f faithful c stack' m' w.sound') (written_next c stack m w.sound w.written) (written_next c stack' m' w.sound' w.written')
      (same_call c (heap_in f m) (heap_in f m') stack stack' w.entries w.match same)

  -- the first collection, accepted on both, from roots from which the heaps agree
  pub first_alike : (base : ℕ) (roots stack stack' : List ℕ) (m m' : Memory) → m.table ≡ m'.table → Agree base (words_of roots) (heap_in f m) (heap_in f m')
      → AcceptedIn (perform f (Collect base roots) stack m) → AcceptedIn (perform f (Collect base roots) stack' m')
      → CalledAlike f (Collect base roots) stack stack' (perform f (Collect base roots) stack m) (perform f (Collect base roots) stack' m')
  unfolding step
  first_alike base roots stack stack' m m' table agree z z' =
      let c : Call = Collect base roots in
      let x = follows_accepted f faithful c stack m z in
      let x' = follows_accepted f faithful c stack' m' z' in
      from_heaps f c stack stack' x x' (x.sound z) (x'.sound z') (x.written z) (x'.written z')
      (rw (← table)
      (same_first base roots (f.read m.table) m.pool m'.pool stack stack' (faithful.small m.table) (rw (← table) at agree) (passes_in f c stack m z).own
      (rw (← table) at (passes_in f c stack' m' z').own)))
