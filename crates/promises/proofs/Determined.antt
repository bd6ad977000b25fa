-- Each record leaves one outcome: every block and every byte falls under one of its fields, and two outcomes agree there.
-- Only the fields are used, never how a call is defined, so a field that said less would leave a block or a byte open.
-- Assumes nothing.
use mathlib.Core.Path.{◌≡◌, ap, sym, subst, ◌∙◌}
use mathlib.Core.Logic.{⊎_elim, inl, inr}
use mathlib.Core.List.{List, [], ◌∷◌}
use mathlib.Core.Option.{some, none}
use Prim.Native.Nat.{ℕ, zero, suc, ◌+◌, ◌*◌, ◌-◌, ◌/◌, ◌%◌, ◌≤◌, ◌<◌}
use native.Mathlib.Decide.{dec_lt, ℕ_discrete}
use native.Mathlib.Omega.{arith}
use lib.IntN.{neg_ℤ, pos}
use lib.ListN.{length, get_or, take}
use lib.Seq.{ext_get_or}
use Rattle.rules.specs.Entries.{FREE, TAIL}
use Rattle.rules.specs.Tables.{entry_at, used}
use Rattle.laws.specs.Meaning.{Lowest}
use Rattle.rules.specs.Outcomes.{Heap, Outcome, only_refusal, loaded}
use Rattle.laws.proofs.Images.{used_nth}
use Rattle.laws.proofs.Tables.{entry_inside, extent_of, lowest_one, longest_one}
use Rattle.keeping.specs.Keeping.{Collected}
use Rattle.keeping.proofs.Same.{keeps_one}
use Rattle.promises.specs.Conditions.{Condition, First, RoomAfter, file_entries, root_count}
use Rattle.promises.specs.Promises.{blocks_of, byte_at, Object, Among, Within, Refused, Initialised, Allocated, Freed, Reallocated, Stored, Loaded, Surveyed, Count, Imaged, Opened, Reclaimed}
use Rattle.promises.specs.Determined.{SameHeap, SameEffect, SamePlace, SameFindings, SameOpening, Determined}

-- ---- numbers

pub first_one : (cs : List Condition) (n n' : ℕ) → First cs n → First cs n' → n ≡ n'
unfolding First
first_one [] n n' e e' = e ∙ sym e'
first_one (c ∷ cs) n n' f f' =
    ⊎_elim
    (λ here. ⊎_elim (λ here'. here.1 ∙ sym here'.1) (λ later'. absurd (later'.0 here.0)) f')
    (λ later. ⊎_elim (λ here'. absurd (later.0 here'.0)) (λ later'. first_one cs n n' later.1 later'.1) f')
    f

-- the start that a search gives
pub start_one : (es : List ℕ) (b s s' : ℕ) → Lowest es b (some s) → Lowest es b (some s') → s ≡ s'
start_one es b s s' low low' = ap (elim [ none ↦ 0 | some x ↦ x ]) (lowest_one es b (some s) (some s') low low')

-- ---- every place is one of the n from s on, or none of them

by_place : (P : ℕ → Type 0) (s n : ℕ) → ((j : ℕ) → j < n → P (s + j)) → ((i : ℕ) → ¬ ((s ≤ i) × (i < s + n)) → P i) → (i : ℕ) → P i
by_place P s n inside outside i = go (dec_lt i s) (dec_lt i (s + n))
  where
    go : Dec (i < s) → Dec (i < s + n) → P i
    go (yes before) _ = outside i (λ both. omega (arith, both.0))
    go (no from) (no past) = outside i (λ both. past both.1)
    go (no from) (yes to) = let e : s + (i - s) ≡ i = omega arith in subst P e (inside (i - s) (omega arith))

-- the bytes of b blocks from s on, and the others
by_bytes : (h h' : Heap) (s b : ℕ) → ((i : ℕ) → i < 16 * b → byte_at h (16 * s + i) ≡ byte_at h' (16 * s + i)) → ((i : ℕ) → ¬ Within s b i → byte_at h i ≡ byte_at h' i)
    → (i : ℕ) → byte_at h i ≡ byte_at h' i
by_bytes h h' s b inside outside =
    by_place (λ (i : ℕ). byte_at h i ≡ byte_at h' i) (16 * s) (16 * b) inside (λ i out. outside i (λ within. out (within.0, omega (arith, within.1))))

-- an object's blocks, from its head and the number of its blocks
object_entry : (h h' : Heap) (s b : ℕ) → Object h s → Object h' s → blocks_of h s ≡ b → blocks_of h' s ≡ b
    → (j : ℕ) → j < b → entry_at h.entries (s + j) ≡ entry_at h'.entries (s + j)
object_entry h h' s b head head' count count' zero l = let e : s + 0 ≡ s = omega arith in rw e (head ∙ sym head')
object_entry h h' s b head head' count count' (suc j) l =
    let x = extent_of h.entries s (entry_inside h.entries s (λ f. omega arith)) in
    let x' = extent_of h'.entries s (entry_inside h'.entries s (λ f. omega arith)) in
    x.tail (suc j) (omega arith) (omega arith) ∙ sym (x'.tail (suc j) (omega arith) (omega arith))

-- ---- the calls

pub refused_one : (h : Heap) (r r' : Outcome) → Refused h r → Refused h r' → r.answer.refusal ≡ r'.answer.refusal
    → (r.answer ≡ r'.answer) × (r.heap ≡ r'.heap) × (r.filled ≡ r'.filled)
refused_one h r r' a a' e = (a.answer ∙ ap only_refusal e ∙ sym a'.answer, a.heap ∙ sym a'.heap, a.filled ∙ sym a'.filled)

pub initialised_one : (base : ℕ) (h : Heap) (r r' : Outcome) → Initialised base h r → Initialised base h r' → SameHeap r.heap r'.heap
initialised_one base h r r' a a' = record {
  entries = λ i. a.free i ∙ sym (a'.free i);
  bytes = λ i. ap (λ (bytes : List ℕ). get_or bytes i 0) (a.bytes ∙ sym a'.bytes);
}

pub allocated_one : (base : ℕ) (h : Heap) (b : ℕ) (r r' : Outcome) → Allocated base h b r → Allocated base h b r' → SamePlace r r'
allocated_one base h b r r' a a' = record {
  block = e;
  effect = record {
    change = a.change ∙ sym a'.change;
    heap = record {
      entries = by_place (λ (i : ℕ). entry_at r.heap.entries i ≡ entry_at r'.heap.entries i) s b among (λ i out. a.entries i (λ in-it. out (omega arith)) ∙ sym (out_entry i out));
      bytes =
          by_bytes r.heap r'.heap s b
          (λ i l. a.zero i (omega arith) ∙ sym (in_byte i l))
          (λ i out. a.bytes i (λ in-it. out (omega arith)) ∙ sym (out_byte i out));
    };
  };
}
  where
    e : r.answer.block ≡ r'.answer.block
    e = start_one h.entries b r.answer.block r'.answer.block a.start a'.start

    s : ℕ
    s = r.answer.block

    -- what the second outcome says, said of the first one's block
    out_entry : (i : ℕ) → ¬ Among s b i → entry_at r'.heap.entries i ≡ entry_at h.entries i
    out_entry i out = a'.entries i (λ in-it. out (omega (arith, e)))

    in_byte : (i : ℕ) → i < 16 * b → byte_at r'.heap (16 * s + i) ≡ 0
    in_byte i l = rw e (a'.zero i (omega arith))

    out_byte : (i : ℕ) → ¬ Within s b i → byte_at r'.heap i ≡ byte_at h i
    out_byte i out = a'.bytes i (λ in-it. out (omega (arith, e)))

    head' : Object r'.heap s
    head' = rw e a'.head

    tail' : (j : ℕ) → 0 < j → j < b → entry_at r'.heap.entries (s + j) ≡ TAIL
    tail' j p l = rw e (a'.tail j p (omega arith))

    among : (j : ℕ) → j < b → entry_at r.heap.entries (s + j) ≡ entry_at r'.heap.entries (s + j)
    among zero l = let z : s + 0 ≡ s = omega arith in rw z (a.head ∙ sym head')
    among (suc j) l = a.tail (suc j) (omega arith) (omega arith) ∙ sym (tail' (suc j) (omega arith) l)

pub freed_one : (base : ℕ) (h : Heap) (k : ℕ) (r r' : Outcome) → Freed base h k r → Freed base h k r' → SameEffect r r'
freed_one base h k r r' a a' = record {
  change = a.change ∙ sym a'.change;
  heap = record {
    entries =
        by_place (λ (i : ℕ). entry_at r.heap.entries i ≡ entry_at r'.heap.entries i) k (blocks_of h k)
        (λ j l. a.free (k + j) (omega arith) ∙ sym (a'.free (k + j) (omega arith)))
        (λ i out. a.entries i (λ in-it. out (omega arith)) ∙ sym (a'.entries i (λ in-it. out (omega arith))));
    bytes = λ i. ap (λ (bytes : List ℕ). get_or bytes i 0) (a.bytes ∙ sym a'.bytes);
  };
}

pub reallocated_one : (base : ℕ) (h : Heap) (k b' : ℕ) (r r' : Outcome) → Reallocated base h k b' r → Reallocated base h k b' r' → SamePlace r r'
reallocated_one base h k b' r r' a a' = record {
  block = e;
  effect = record {
    change = a.change ∙ sym a'.change;
    heap = record {
      entries = by_place (λ (i : ℕ). entry_at r.heap.entries i ≡ entry_at r'.heap.entries i) s b' among not_among;
      bytes = by_bytes r.heap r'.heap s b' within (λ i out. a.bytes i (λ in-it. out (omega arith)) ∙ sym (out_byte i out));
    };
  };
}
  where
    b : ℕ
    b = blocks_of h k

    -- where there is room after the object both stay, and else both move to the lowest start
    same : Dec (r.answer.block ≡ r'.answer.block) → Dec (b < b') → r.answer.block ≡ r'.answer.block
    same (yes q) _ = q
    same (no q) (no fewer) = a.in_place (inl (omega arith)) ∙ sym (a'.in_place (inl (omega arith)))
    same (no q) (yes more) =
        let full : ¬ RoomAfter h k b' = λ room. q (a.in_place (inr room) ∙ sym (a'.in_place (inr room))) in
        start_one h.entries b' r.answer.block r'.answer.block (a.elsewhere more full) (a'.elsewhere more full)

    e : r.answer.block ≡ r'.answer.block
    e = same (ℕ_discrete r.answer.block r'.answer.block) (dec_lt b b')

    s : ℕ
    s = r.answer.block

    -- what the second outcome says, said of the first one's block
    freed' : (i : ℕ) → Among k b i → ¬ Among s b' i → entry_at r'.heap.entries i ≡ FREE
    freed' i old out = a'.free i (omega arith) (λ in-it. out (omega (arith, e)))

    out_entry : (i : ℕ) → ¬ Among k b i → ¬ Among s b' i → entry_at r'.heap.entries i ≡ entry_at h.entries i
    out_entry i old out =
        a'.entries i (λ in-it. old (omega arith)) (λ in-it. out (omega (arith, e)))

    kept' : (i : ℕ) → i < 16 * b → i < 16 * b' → byte_at r'.heap (16 * s + i) ≡ byte_at h (16 * k + i)
    kept' i l m = rw e (a'.kept i (omega arith) (omega arith))

    zero' : (i : ℕ) → 16 * b ≤ i → i < 16 * b' → byte_at r'.heap (16 * s + i) ≡ 0
    zero' i l m = rw e (a'.zero i (omega arith) (omega arith))

    out_byte : (i : ℕ) → ¬ Within s b' i → byte_at r'.heap i ≡ byte_at h i
    out_byte i out = a'.bytes i (λ in-it. out (omega (arith, e)))

    among : (j : ℕ) → j < b' → entry_at r.heap.entries (s + j) ≡ entry_at r'.heap.entries (s + j)
    among = object_entry r.heap r'.heap s b' a.head (rw e a'.head) a.blocks (rw e a'.blocks)

    not_among : (i : ℕ) → ¬ Among s b' i → entry_at r.heap.entries i ≡ entry_at r'.heap.entries i
    not_among i out =
        by_place (λ (i : ℕ). ¬ Among s b' i → entry_at r.heap.entries i ≡ entry_at r'.heap.entries i) k b
        (λ j l out. a.free (k + j) (omega arith) (λ in-it. out (omega arith)) ∙ sym (freed' (k + j) (omega arith) out))
        (λ i old out. a.entries i (λ in-it. old (omega arith)) (λ in-it. out (omega arith)) ∙ sym (out_entry i old out))
        i out

    within : (i : ℕ) → i < 16 * b' → byte_at r.heap (16 * s + i) ≡ byte_at r'.heap (16 * s + i)
    within i l = go (dec_lt i (16 * b))
      where
        go : Dec (i < 16 * b) → byte_at r.heap (16 * s + i) ≡ byte_at r'.heap (16 * s + i)
        go (yes old) = a.kept i (omega arith) (omega arith) ∙ sym (kept' i old l)
        go (no new) = a.zero i (omega arith) (omega arith) ∙ sym (zero' i (omega arith) l)

pub stored_one : (base : ℕ) (h : Heap) (k i w : ℕ) (r r' : Outcome) → Stored base h k i w r → Stored base h k i w r' → SameHeap r.heap r'.heap
stored_one base h k i w r r' a a' = record {
  entries = λ j. ap (λ (es : List ℕ). entry_at es j) (a.table ∙ sym a'.table);
  bytes =
      by_place (λ (j : ℕ). byte_at r.heap j ≡ byte_at r'.heap j) (16 * k + 4 * i) 4
      (λ j l. a.four j (omega arith) ∙ sym (a'.four j (omega arith)))
      (λ j out. a.bytes j (λ in-it. out (omega arith)) ∙ sym (a'.bytes j (λ in-it. out (omega arith))));
}

pub loaded_one : (h : Heap) (k i : ℕ) (r r' : Outcome) → Loaded h k i r → Loaded h k i r' → r.answer ≡ r'.answer
loaded_one h k i r r' a a' = a.only ∙ ap loaded (a.value ∙ sym a'.value) ∙ sym a'.only

pub surveyed_one : (h : Heap) (r r' : Outcome) → Surveyed h r → Surveyed h r' → SameFindings r r'
surveyed_one h r r' a a' = record {
  used = a.used ∙ sym a'.used;
  objects = a.objects ∙ sym a'.objects;
  longest = longest_one h.entries r.answer.longest r'.answer.longest a.longest a'.longest;
}

pub reclaimed_one : (base : ℕ) (h : Heap) (roots stack : List ℕ) (r r' : Outcome) → Reclaimed base h roots r → Reclaimed base h roots r'
    → Collected base h roots stack r → Collected base h roots stack r' → SameEffect r r'
reclaimed_one base h roots stack r r' a a' c c' =
    let e : r.heap.entries ≡ r'.heap.entries = keeps_one c.table c'.table in
    record {
      change = a.change ∙ ap (λ (es : List ℕ). neg_ℤ (pos (used h.entries - used es))) e ∙ sym a'.change;
      heap = record {
        entries = λ i. ap (λ (es : List ℕ). entry_at es i) e;
        bytes = λ i. ap (λ (bytes : List ℕ). get_or bytes i 0) (a.bytes ∙ sym a'.bytes);
      };
    }

-- every place in an image is of a count, the base, the table, a used block or the roots
pub imaged_one : (base : ℕ) (h : Heap) (roots : List ℕ) (r r' : Outcome) → let t = length h.entries / 4 in let u = used h.entries in
    Imaged base h roots t u r → Imaged base h roots t u r' → (r.answer.length ≡ r'.answer.length) × (r.filled ≡ r'.filled)
imaged_one base h roots r r' a a' =
    let same : r.filled ≡ r'.filled = ext_get_or 0 r.filled r'.filled (a.long ∙ sym a'.long) (λ i l. at i (omega (arith, a.long))) in
    (a.answered ∙ ap (λ (bytes : List ℕ). length bytes) same ∙ sym a'.answered, same)
  where
    t : ℕ
    t = length h.entries / 4

    u : ℕ
    u = used h.entries

    P : ℕ → Type 0
    P i = get_or r.filled i 0 ≡ get_or r'.filled i 0

    counted : (i n : ℕ) → Count r.filled i n → Count r'.filled i n → (j : ℕ) → j < 2 → P (i + j)
    counted i n c c' zero l = let e : i + 0 ≡ i = omega arith in rw e (c.0 ∙ sym c'.0)
    counted i n c c' (suc j) l = let e : i + suc j ≡ suc i = omega arith in rw e (c.1 ∙ sym c'.1)

    block : (j : ℕ) → j < 16 * u → P (10 + t + j)
    block j l =
        let (k, held, q) = used_nth h.entries (j / 16) (omega arith) in
        let e : 10 + t + j ≡ 10 + t + 16 * used (take k h.entries) + j % 16 = omega arith in
        rw e (a.block_bytes k held (j % 16) (omega arith) ∙ sym (a'.block_bytes k held (j % 16) (omega arith)))

    -- section by section
    at : (i : ℕ) → i < 12 + t + 16 * u + length roots → P i
    at i l = go (dec_lt i 2) (dec_lt i 6) (dec_lt i 8) (dec_lt i (8 + t)) (dec_lt i (10 + t)) (dec_lt i (10 + t + 16 * u)) (dec_lt i (12 + t + 16 * u))
      where
        from : (s : ℕ) → s ≤ i → P (s + (i - s)) → P i
        from s le p = let e : s + (i - s) ≡ i = omega arith in rw e at p

        go : Dec (i < 2) → Dec (i < 6) → Dec (i < 8) → Dec (i < 8 + t) → Dec (i < 10 + t) → Dec (i < 10 + t + 16 * u) → Dec (i < 12 + t + 16 * u) → P i
        go (yes b) _ _ _ _ _ _ = from 0 (omega arith) (counted 0 1 a.base_count a'.base_count (i - 0) (omega arith))
        go (no n2) (yes b) _ _ _ _ _ = from 2 (omega arith) (a.base_bytes (i - 2) (omega arith) ∙ sym (a'.base_bytes (i - 2) (omega arith)))
        go (no n2) (no n6) (yes b) _ _ _ _ = from 6 (omega arith) (counted 6 t a.table_count_is a'.table_count_is (i - 6) (omega arith))
        go (no n2) (no n6) (no n8) (yes b) _ _ _ = from 8 (omega arith) (a.table_bytes_are (i - 8) (omega arith) ∙ sym (a'.table_bytes_are (i - 8) (omega arith)))
        go (no n2) (no n6) (no n8) (no nt) (yes b) _ _ = from (8 + t) (omega arith) (counted (8 + t) u a.block_count_is a'.block_count_is (i - (8 + t)) (omega arith))
        go (no n2) (no n6) (no n8) (no nt) (no n10) (yes b) _ = from (10 + t) (omega arith) (block (i - (10 + t)) (omega arith))
        go (no n2) (no n6) (no n8) (no nt) (no n10) (no nb) (yes b) =
            from (10 + t + 16 * u) (omega arith) (counted (10 + t + 16 * u) (length roots / 4) a.root_count_is a'.root_count_is (i - (10 + t + 16 * u)) (omega arith))
        go (no n2) (no n6) (no n8) (no nt) (no n10) (no nb) (no b) =
            let n = i - (12 + t + 16 * u) in
            from (12 + t + 16 * u) (omega arith) (a.root_bytes n (omega arith) ∙ sym (a'.root_bytes n (omega arith)))

-- every place in the pool is of a used block or of a FREE one
pub opened_one : (image : List ℕ) (h : Heap) (r r' : Outcome) → Opened image h r → Opened image h r' → SameOpening r r'
opened_one image h r r' a a' = record {
  base = a.base ∙ sym a'.base;
  roots = a.roots ∙ sym a'.roots;
  left = record { entries = λ i. ap (λ (es : List ℕ). entry_at es i) (a.entries ∙ sym a'.entries); bytes = bytes };
  filled = ext_get_or 0 r.filled r'.filled (a.long ∙ sym a'.long) (λ i l. let m : i < 4 * root_count image = omega (arith, l, a.long) in a.root_bytes i m ∙ sym (a'.root_bytes i m));
}
  where
    bytes : (i : ℕ) → byte_at r.heap i ≡ byte_at r'.heap i
    bytes i =
        let e : i ≡ 16 * (i / 16) + i % 16 = omega arith in
        let l : i % 16 < 16 = omega arith in
        rw e (go (i / 16) (i % 16) l (ℕ_discrete (entry_at (file_entries image) (i / 16)) FREE))
      where
        go : (k j : ℕ) → j < 16 → Dec (entry_at (file_entries image) k ≡ FREE) → byte_at r.heap (16 * k + j) ≡ byte_at r'.heap (16 * k + j)
        go k j l (yes free) = a.free_bytes k free j l ∙ sym (a'.free_bytes k free j l)
        go k j l (no held) = a.used_bytes k held j l ∙ sym (a'.used_bytes k held j l)

pub determined : Determined
determined = record {
  number = first_one;
  refused = refused_one;
  initialised = initialised_one;
  allocated = allocated_one;
  freed = freed_one;
  reallocated = reallocated_one;
  stored = stored_one;
  loaded = loaded_one;
  surveyed = surveyed_one;
  imaged = imaged_one;
  opened = opened_one;
  reclaimed = reclaimed_one;
}
