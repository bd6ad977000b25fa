-- How little is asked: mark stacks need only be equally long, or each have 0 to 64 whole entries; services need only be the same, each with the same t, which may be any; and a collection that is
-- accepted on one of two pools of one length is accepted on the other.
-- Assumes nothing.
use mathlib.Core.Path.{◌≡◌, refl, sym, ap, ◌∙◌}
use mathlib.Core.List.{List, [], ◌∷◌, map}
use Prim.Native.Nat.{ℕ, ◌+◌, ◌*◌, ◌≤◌, ◌<◌}
use native.Mathlib.Omega.{arith}
use lib.ListN.{length, get_or}
use Rattle.rules.specs.Tables.{block_count}
use Rattle.rules.specs.Planes.{planes}
use Rattle.rules.specs.Outcomes.{Heap}
use Rattle.rules.specs.Refusals.{first_of, collection_tests}
use Rattle.rules.specs.Reach.{Reachable}
use Rattle.rules.specs.Calls.{collecting, collect}
use Rattle.rules.specs.Runs.{Collect, step}
use Rattle.rules.specs.Memory.{Memory, AcceptedIn, perform}
use Rattle.rules.specs.Lent.{Lent}
use Rattle.laws.specs.Meaning.{Accepted}
use Rattle.laws.proofs.Refusals.{accepts, accepted_none}
use Rattle.laws.proofs.Twice.{heap, shape_same}
use Rattle.laws.proofs.Memory.{same_table_sound, accepted_sound, refusal_in}
use Rattle.laws.proofs.Planes.{planes_faithful}
use Rattle.keeping.specs.Keeping.{Agree}
use Rattle.keeping.proofs.Collections.{acted, collect_from}
use Rattle.unwinding.specs.Answers.{SameStacks, equally_long, both_good}
use Rattle.unwinding.proofs.Collections.{stacks_whole, stacks_short}
use Rattle.services.specs.Services.{Service, HeapCall, refusal_of, Asked, asked, served_to}
use Rattle.noninterference.specs.Noninterference.{Alike, done, SameButPools}
use Rattle.noninterference.specs.Unseen.{without_stacks, stack_lengths}
use Rattle.services.proofs.Laws.{act, serve_is}
use Rattle.noninterference.proofs.AlikeServices.{alike_next}

-- ---- mark stacks

-- any two of one length, whatever they hold and however long
pub stacks_long : (stack stack' : List ℕ) → length stack ≡ length stack' → SameStacks stack stack'
stacks_long stack stack' l = equally_long l

-- any two of n and of m whole entries, each at most 64
pub stacks_good : (stack stack' : List ℕ) (n m : ℕ) → length stack ≡ 4 * n → n ≤ 64 → length stack' ≡ 4 * m → m ≤ 64 → SameStacks stack stack'
stacks_good stack stack' n m e l f k =
    both_good (record { whole = omega arith; short = omega arith }) (record { whole = omega arith; short = omega arith })

-- ---- services

-- a service, a t of its own, and two such mark stacks
pub record Paired : Type 0 where
  pub t : ℕ
  pub service : Service
  pub stack : List ℕ
  pub stack' : List ℕ
  pub same : SameStacks stack stack'

-- so any services, each with any t and any such mark stacks
pub alike_paired : (ps : List Paired) → Alike (map (λ (p : Paired). asked p.t p.service p.stack) ps) (map (λ (p : Paired). asked p.t p.service p.stack') ps)
alike_paired [] = done
alike_paired (p ∷ ps) = alike_next p.t p.service p.same (alike_paired ps)

-- the same services, with mark stacks of the same lengths
pub alike_long : (xs ys : List Asked) → without_stacks xs ≡ without_stacks ys → stack_lengths xs ≡ stack_lengths ys → Alike xs ys
unfolding without_stacks stack_lengths
alike_long [] [] w l = done
alike_long [] (y ∷ ys) w l = let x : ◌≡◌ {A = ℕ} 0 1 = cc in absurd (omega arith)
alike_long (x ∷ xs) [] w l = let x : ◌≡◌ {A = ℕ} 0 1 = cc in absurd (omega arith)
alike_long (x ∷ xs) (y ∷ ys) w l =
    let b : asked x.t x.service [] ≡ asked y.t y.service [] = cc in
    let u : x.t ≡ y.t = ap (λ (z : Asked). z.t) b in
    let e : x.service ≡ y.service = ap (λ (z : Asked). z.service) b in
    let f : length x.stack ≡ length y.stack = cc in
    let d : without_stacks xs ≡ without_stacks ys = cc in
    let m : stack_lengths xs ≡ stack_lengths ys = cc in
    rw (u, e) (alike_next y.t y.service (stacks_long x.stack y.stack f) (alike_long xs ys d m))

-- ---- the heaps

-- the tables, and the bytes of reachable objects alone
pub agree_of : (base : ℕ) (roots : List ℕ) (h h'' : Heap) → h.entries ≡ h''.entries
    → ((o : ℕ) → Reachable base h roots o → (i : ℕ) → i < 16 * block_count h.entries o → get_or h.pool (16 * o + i) 0 ≡ get_or h''.pool (16 * o + i) 0)
    → Agree base roots h h''
agree_of base roots h h'' table bytes = record { table = table; bytes = bytes }

-- a collection of heaps is accepted on both or on neither, if the pools are equally long
also_collected : (base : ℕ) (roots es p q stack stack' : List ℕ) → length p ≡ length q → SameStacks stack stack'
    → Accepted (collect base (heap p es) roots stack) → Accepted (collect base (heap q es) roots stack')
unfolding collecting
also_collected base roots es p q stack stack' l s x =
    let h = heap p es in
    let h'' = heap q es in
    let z : first_of (collection_tests base h roots stack) ≡ 0 = accepted_none _ h stack _ (rw collect_from at x) in
    let z' : first_of (collection_tests base h'' roots stack') ≡ 0 = rw (← shape_same base es p q l, ← stacks_whole s, ← stacks_short s) z in
    rw (collect_from base h'' roots stack', accepts h'' stack' (acted base h'' roots stack') z') refl

-- and so is one of memories that are the same but for the pools
also_performed : (t base : ℕ) (roots stack stack' : List ℕ) (m m' : Memory) → length m.pool ≡ length m'.pool → m.table ≡ m'.table → SameStacks stack stack'
    → AcceptedIn (perform (planes t) (Collect base roots) stack m) → AcceptedIn (perform (planes t) (Collect base roots) stack' m')
unfolding step
also_performed t base roots stack stack' m m' l e s x =
    let c = Collect base roots in
    let w = accepted_sound (planes t) c stack m refl x in
    let y = sym (refusal_in (planes t) (planes_faithful t) c stack m w) ∙ x in
    refusal_in (planes t) (planes_faithful t) c stack' m' (same_table_sound (planes t) m m' e w)
    ∙ rw (← e) (also_collected base roots ((planes t).read m.table) m.pool m'.pool stack stack' l s y)

-- and one of all that is lent
pub also_accepted : (t base : ℕ) (roots stack stack' : List ℕ) (l l' : Lent) → length l.memory.pool ≡ length l'.memory.pool → SameButPools l l' → SameStacks stack stack'
    → refusal_of (served_to (asked t (HeapCall (Collect base roots)) stack) l).reply ≡ 0 → refusal_of (served_to (asked t (HeapCall (Collect base roots)) stack') l').reply ≡ 0
unfolding act
also_accepted t base roots stack stack' l l' long beside s x =
    rw (serve_is (planes t) (HeapCall (Collect base roots)) stack' l')
    (also_performed t base roots stack stack' l.memory l'.memory long beside.table s (rw (serve_is (planes t) (HeapCall (Collect base roots)) stack l) at x))
