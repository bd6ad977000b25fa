-- No entry of a chain comes twice, so a chain has no more entries than there are objects.
-- Assumes nothing.
use mathlib.Core.Path.{◌≡◌, refl, ap, sym, ◌∙◌}
use mathlib.Core.Logic.{⊎_elim}
use mathlib.Core.List.Memᴰ
use mathlib.Core.List.{List, [], ◌∷◌, Memᴰ}
use Prim.Native.Nat.{ℕ, ◌+◌, ◌≤◌}
use native.Mathlib.Omega.{arith}
use lib.ListN.{length, set, length-map}
use lib.Seq.{get_or-set_other}
use Rattle.rules.specs.Tests.{count}
use Rattle.rules.specs.Entries.{FREE, HEAD}
use Rattle.rules.specs.Tables.{entry_at, is_head, objects}
use Rattle.rules.specs.Pointers.{address_of}
use Rattle.laws.specs.Meaning.{Shape}
use Rattle.rules.specs.Outcomes.{Heap}
use Rattle.laws.proofs.Lists.{one, count_set}
use Rattle.laws.proofs.Tables.{entry_inside, objects_le}
use Rattle.loglaws.specs.Chains.{Entry, entry_in, Chain, ends, leads, heads, Distinct, empty, fresh}
use Rattle.loglaws.proofs.Chaining.{chain_one, chain_object, distinct_front}

-- ---- no repetition

-- the part of a chain that starts at one of its entries
record From (base : ℕ) (h : Heap) (k n : ℕ) : Type 0 where
  entries : List Entry
  chain : Chain base h (address_of base k) entries
  short : length entries ≤ n

module _ (base : ℕ) (h : Heap) where
  part_from : {w : ℕ} {es : List Entry} → Chain base h w es → (k : ℕ) → Memᴰ k (heads es) → From base h k (length es)
  part_from ends k m = absurd (Memᴰ.not-nil m)
  part_from (leads {k = j} {es = es} head two c) k m =
      ⊎_elim
      (λ e. record { entries = entry_in h j ∷ es; chain = rw e (leads head two c); short = omega arith })
      (λ n. let p = part_from c k n in record { entries = p.entries; chain = p.chain; short = omega (arith, p.short) })
      (Memᴰ.cases_cons m)

-- a chain that came back to an entry would be as long as a part of itself
pub no_repetition : (base : ℕ) → 16 ≤ base → (h : Heap) {w : ℕ} {es : List Entry} → Chain base h w es → Distinct (heads es)
no_repetition base high h ends = empty
no_repetition base high h (leads {k = k} {es = es} head two c) =
    fresh
    (λ m.
    let p = part_from base h c k m in
    let same : p.entries ≡ entry_in h k ∷ es = chain_one base high h p.chain (leads head two c) in
    omega (arith, p.short, ap length same))
    (no_repetition base high h c)

-- ---- a bound

-- there are no more heads than the table has, without repetition
heads_few : (ks es : List ℕ) → Distinct ks → ((k : ℕ) → Memᴰ k ks → entry_at es k ≡ HEAD) → length ks ≤ objects es
unfolding objects
heads_few [] es distinct at = omega arith
heads_few (k ∷ ks) es distinct at =
    let d = distinct_front distinct in
    let here : entry_at es k ≡ HEAD = at k (Memᴰ.head refl) in
    let less : count is_head (set es k FREE) + one (is_head HEAD) ≡ count is_head es + 0 = rw here at (count_set is_head es k FREE FREE (entry_inside es k (λ f. omega arith))) in
    let rest = heads_few ks (set es k FREE) d.1 (λ j m. get_or-set_other es k j FREE FREE (λ e. d.0 (Memᴰ.cast (sym e) m)) ∙ at j (Memᴰ.tail m)) in
    omega (arith, less, rest)

-- a chain is no longer than there are objects
pub chain_few : (base : ℕ) → 16 ≤ base → (h : Heap) {w : ℕ} {es : List Entry} → Chain base h w es → length es ≤ objects h.entries
chain_few base high h {es = es} c =
    let few = heads_few (heads es) h.entries (no_repetition base high h c) (chain_object base h c) in
    omega (arith, few, length-map es (λ (e : Entry). e.head))

-- so no longer than there are blocks, of which a heap has at most 4,096
pub chain_short : (base : ℕ) (h : Heap) → Shape base h → {w : ℕ} {es : List Entry} → Chain base h w es → length es ≤ length h.entries
chain_short base h shape c = omega (arith, chain_few base shape.above h c, objects_le h.entries)

pub chain_4096 : (base : ℕ) (h : Heap) → Shape base h → {w : ℕ} {es : List Entry} → Chain base h w es → length es ≤ 4096
chain_4096 base h shape c = omega (arith, chain_short base h shape c, shape.few)
