-- The rain log: a list of entries, the oldest first, each an object of 32 bytes. Its words 0 to 2 are the address of the next one, a time and a tip count, the others 0; the
-- address 0 ends the list. Each call of the log is a program made of heap calls: it sees what these answer, and nothing else of the heap.
-- Assumes nothing.
use Rattle.std.specs.Prelude.{Bool, true, false, List, [], ◌∷◌, ◌++◌, ℕ, zero, suc, ◌/◌, eqb, leb, ltb, ℤ, pos, ◌+ℤ◌, length}
use Rattle.std.proofs.Math.Option.{Option, some, none}
use Rattle.rules.specs.Tests.{pick, both}
use Rattle.rules.specs.Words.{bytes_of}
use Rattle.rules.specs.Pointers.{address_of, target_of}
use Rattle.rules.specs.Outcomes.{Answer}
use Rattle.rules.specs.Refusals.{whole_words}
use Rattle.rules.specs.Runs.{Allocate, Free, Collect, Survey, Load, Store}
use Rattle.programs.specs.Programs.{Program, give, ask}

-- the refusal number, 0 if accepted, and every other part that some call of the log answers; a part that a call does not answer is zero
pub record Reply : Type 0 where
  pub refusal : ℕ
  -- the log's first address, and the change in used blocks
  pub first : ℕ
  pub change : ℤ
  pub time : ℕ
  pub tips : ℕ

-- of a call that answers the log's first address and the change
abbrev pub logged : ℕ → ℕ → ℤ → Reply
logged r first d = record { refusal = r; first = first; change = d; time = 0; tips = 0 }

-- of a call that answers an entry
abbrev pub readout : ℕ → ℕ → ℕ → Reply
readout r time tips = record { refusal = r; first = 0; change = pos 0; time = time; tips = tips }

-- only a refusal number, all other parts zero
abbrev pub declined : ℕ → Reply
declined r = logged r 0 (pos 0)

-- a program that is refused
abbrev pub decline : ℕ → Program Reply
decline r = give (declined r)

-- the call was accepted
abbrev pub is_accepted : Answer → Bool
is_accepted a = eqb a.refusal 0

-- ---- the entries

-- an entry that was met: the block of its object, and its next word
pub record Link : Type 0 where
  pub head : ℕ
  pub next : ℕ

-- the link in the object at block k, if it has two blocks: its word 7 can be read, and word 8 is refused with 8
unfoldable pub link_in : ℕ → Answer → Answer → Answer → Option Link
link_in k seventh eighth next =
    pick (both (is_accepted seventh) (eqb eighth.refusal 8)) (some (record { head = k; next = next.value })) none

unfoldable pub link_to : {A : Type 0} → ℕ → Option ℕ → (Option Link → Program A) → Program A
link_to base none go = go none
link_to base (some k) go = ask (Load base k 7) (λ a. ask (Load base k 8) (λ b. ask (Load base k 0) (λ c. go (link_in k a b c))))

-- goes on with the link at the address w, if that is the address of a head of a two-block object. A heap has at most 4,096 blocks
unfoldable pub link_at : {A : Type 0} → ℕ → ℕ → (Option Link → Program A) → Program A
link_at base w go = link_to base (target_of base 4096 w) go

-- the heads with one more in front, if there is a chain
abbrev pub prepended : ℕ → Option (List ℕ) → Option (List ℕ)
prepended k none = none
prepended k (some ks) = some (k ∷ ks)

-- goes on with the heads of the chain that leads from the address w to a next word of 0, if it has at most m entries; none if it has more or there is none
unfoldable pub follow : {A : Type 0} → ℕ → ℕ → ℕ → (Option (List ℕ) → Program A) → Program A
follow base zero w go = go (pick (eqb w 0) (some []) none)
follow base (suc m) w go =
    pick (eqb w 0) (go (some []))
    (link_at base w (λ x. elim x [ none ↦ go none | some l ↦ follow base m l.next (λ ks. go (prepended l.head ks)) ]))

-- 18: there is no such chain. One with more entries than a heap has blocks would repeat itself, and so not end
unfoldable pub on_log : ℕ → ℕ → (List ℕ → Program Reply) → Program Reply
on_log base first go = follow base 4096 first (λ x. elim x [ none ↦ decline 18 | some ks ↦ go ks ])

-- ---- the tests that come first

-- refused by r if the test holds, else what comes next
abbrev pub decline_if : Bool → ℕ → Program Reply → Program Reply
decline_if true r next = decline r
decline_if false r next = next

-- 1 and 2, of the heap; 1 also if what else is lent is not as it should be
unfoldable pub checked : ℕ → Bool → Program Reply → Program Reply
checked base good next =
    pick good (ask (Survey base) (λ s. pick (is_accepted s) next (decline s.refusal))) (decline 1)

-- ---- the calls

-- the last of the heads, and the one at an index
unfoldable pub last_of : List ℕ → Option ℕ
last_of [] = none
last_of (k ∷ ks) = elim (last_of ks) [ none ↦ some k | some l ↦ some l ]

unfoldable pub at_index : List ℕ → ℕ → Option ℕ
at_index [] i = none
at_index (k ∷ ks) zero = some k
at_index (k ∷ ks) (suc i) = at_index ks i

-- the new object at block k joins the log behind the last entry, if there is one: else the log starts with it
unfoldable pub join : ℕ → ℕ → Option ℕ → ℕ → ℤ → Program Reply
join base first none k d = give (logged 0 (address_of base k) d)
join base first (some l) k d = ask (Store base l 0 (address_of base k)) (λ a. give (logged 0 first d))

-- its time and tip count are stored, and it joins
unfoldable pub enter : ℕ → ℕ → ℕ → ℕ → List ℕ → ℕ → ℤ → Program Reply
enter base first time tips ks k d = ask (Store base k 1 time) (λ a. ask (Store base k 2 tips) (λ b. join base first (last_of ks) k d))

-- Append: asks for room; if there is none, collects once from the log's first address and the caller's roots, and asks again.
-- 9 if there is still none: the collection stands, and its change is answered
unfoldable pub append_to : ℕ → ℕ → ℕ → ℕ → List ℕ → List ℕ → Program Reply
append_to base first time tips roots ks =
    ask (Allocate base 32) (λ a.
    pick (is_accepted a) (enter base first time tips ks a.block a.change)
    (ask (Collect base (bytes_of first ++ roots)) (λ c.
    ask (Allocate base 32) (λ b.
    pick (is_accepted b) (enter base first time tips ks b.block (c.change +ℤ b.change))
    (give (logged 9 0 c.change))))))

-- refusals 1 2 3 4 18 9. With the first address there is room for 4,095 roots of the caller's. Of the mark stack only its length is looked at
unfoldable pub append : ℕ → ℕ → ℕ → ℕ → List ℕ → List ℕ → Program Reply
append base first time tips roots stack =
    checked base (both (whole_words roots) (whole_words stack))
    (decline_if (leb 4096 (length roots / 4)) 3
    (decline_if (ltb 64 (length stack / 4)) 4
    (on_log base first (append_to base first time tips roots))))

-- Read: the time and the tip count of an entry, counted from 0. 19 if there is none
unfoldable pub read_from : ℕ → Option ℕ → Program Reply
read_from base none = decline 19
read_from base (some k) = ask (Load base k 1) (λ a. ask (Load base k 2) (λ b. give (readout 0 a.value b.value)))

-- refusals 1 2 18 19
unfoldable pub read : ℕ → ℕ → ℕ → Program Reply
read base first index = checked base true (on_log base first (λ ks. read_from base (at_index ks index)))

-- Drop: the oldest entry's object is freed, and the next is the first. 19 if there is none
unfoldable pub drop_from : ℕ → Option ℕ → Program Reply
drop_from base none = decline 19
drop_from base (some k) = ask (Load base k 0) (λ a. ask (Free base k) (λ b. give (logged 0 a.value b.change)))

-- refusals 1 2 18 19
unfoldable pub drop : ℕ → ℕ → Program Reply
drop base first = checked base true (on_log base first (λ ks. drop_from base (at_index ks 0)))
