-- What it comes to that the heap is a plain list, said of any services at variables: nothing counts that was lent or listed before the accepted start; each later service is answered as on the list,
-- whatever was asked for in between, with any t; the used blocks change by what is answered; an image is that of the list; a collection leaves exactly what is reachable.
-- Assumes nothing.
use mathlib.Core.Path.{◌≡◌, refl, sym, ap, subst, ◌∙◌}
use mathlib.Core.Logic.{◌≢◌}
use mathlib.Core.Bool.{Bool, true, false, not}
use mathlib.Core.List.{List, [], ◌∷◌, ◌++◌, Memᴰ}
use mathlib.Core.Option.{Option, some, none, none-ne-some}
use Prim.Native.Nat.{ℕ, ◌*◌, ◌≤◌, ◌<◌, ◌/◌}
use native.Mathlib.Omega.{arith}
use lib.Dec.{T, ltb}
use lib.IntN.{ℤ, pos, ◌+ℤ◌}
use lib.ListN.{length}
use borrow.Author.Tests.{eq-eqb, ne_eqb}
use Rattle.rules.specs.Tests.{pick, both, is_none, or_else}
use Rattle.rules.specs.Words.{words_of}
use Rattle.rules.specs.Pointers.{good_base}
use Rattle.rules.specs.Tables.{used}
use Rattle.rules.specs.Planes.{entries_in, planes}
use Rattle.rules.specs.Refusals.{whole_words}
use Rattle.rules.specs.Runs.{Call, Init, Collect, WriteImage, file_in, starts_anew}
use Rattle.rules.specs.Memory.{heap_in, AcceptedIn, perform}
use Rattle.rules.specs.Lent.{Lent, Served}
use Rattle.laws.specs.Meaning.{AllBytes}
use Rattle.laws.proofs.Below.{all_bytes, bytes_below}
use Rattle.laws.proofs.Refusals.{true_not_false}
use Rattle.laws.proofs.Memory.{passes_in}
use Rattle.laws.proofs.Planes.{length_entries_in}
use Rattle.plain.specs.Objects.{Object, Plain, end, Rising, done as ends, next as rises}
use Rattle.plain.specs.Tracing.{is_in, led_to, trace, among}
use Rattle.plain.specs.Reaching.{Reachable, root, edge, Keeps}
use Rattle.plain.specs.Replies.{Reply, refuse_if, collected_by, reply}
use Rattle.simulation.proofs.Laid as lie
use Rattle.simulation.proofs.Inits.{anew, anew_few}
use Rattle.simulation.proofs.Reached.{blank, blank_represents, led_member}
use Rattle.programs.specs.AsList.{run_list}
use Rattle.programs.proofs.Laws.{heads_same, tails_same}
use Rattle.logs.specs.Log.{append}
use Rattle.services.specs.Services.{told_other_t, Service, HeapCall, Append, Read, Drop, Response, answered, replied, refusal_of, Asked, asked, served_to, responses, buffers, lent_after, responses_by, buffers_by, lent_after_by}
use Rattle.refinement.specs.AsList.{ServedList, serve_list, served_list_to, list_responses, list_buffers, list_after, change_of, used_first, counted_in, sum_of, OpensBytes, AllOpenBytes, done, next, from}
use Rattle.services.proofs.Laws.{act, serve_is}
use Rattle.refinement.proofs.Keeping.{after_represented}
use Rattle.refinement.proofs.AsList.{MirrorsAt, sizes, served_agrees, first_agrees_with, as_list}
use Rattle.refinement.proofs.ListAlike.{Started}

-- ---- the number of blocks of the list

-- it is the heap's, and stays so
after_mirrors : (t : ℕ) (xs : List Asked) (l : Lent) (p : Plain) → MirrorsAt t l p → MirrorsAt t (lent_after xs l) (list_after xs p)
unfolding lent_after_by list_after
after_mirrors t [] l p n = n
after_mirrors t (x ∷ xs) l p n = after_mirrors t xs (served_to x l).lent (served_list_to x p).heap (served_agrees t l p n x).heap

-- so a service with the t of the list is served on it, and one with another is not
pub own_served : (t : ℕ) (s : Service) (stack : List ℕ) (p : Plain) → p.size ≡ 4 * t → served_list_to (asked t s stack) p ≡ serve_list s stack p
own_served t s stack p size = rw (eq-eqb (4 * t) p.size (sym size))

pub other_served : (t : ℕ) (x : Asked) (p : Plain) → x.t ≢ t → p.size ≡ 4 * t → served_list_to x p ≡ record { reply = told_other_t x.service; heap = p; filled = [] }
other_served t x p other size = rw (ne_eqb (4 * x.t) p.size (λ e. other (omega (arith, e, size))))

-- ---- lists of services, cut in two

pub responses_on : (xs ys : List Asked) (l : Lent) (p : Plain) → responses (xs ++ ys) l ≡ list_responses (xs ++ ys) p → responses ys (lent_after xs l) ≡ list_responses ys (list_after xs p)
unfolding responses_by list_responses lent_after_by list_after
responses_on [] ys l p e = e
responses_on (x ∷ xs) ys l p e = responses_on xs ys (served_to x l).lent (served_list_to x p).heap (tails_same e)

pub buffers_on : (xs ys : List Asked) (l : Lent) (p : Plain) → buffers (xs ++ ys) l ≡ list_buffers (xs ++ ys) p → buffers ys (lent_after xs l) ≡ list_buffers ys (list_after xs p)
unfolding buffers_by list_buffers lent_after_by list_after
buffers_on [] ys l p e = e
buffers_on (x ∷ xs) ys l p e = buffers_on xs ys (served_to x l).lent (served_list_to x p).heap (tails_same e)

list_on : (xs ys : List Asked) (p : Plain) → list_after (xs ++ ys) p ≡ list_after ys (list_after xs p)
unfolding list_after
list_on [] ys p = refl
list_on (x ∷ xs) ys p = list_on xs ys (served_list_to x p).heap

files_on : {xs ys : List Asked} → AllOpenBytes xs → AllOpenBytes ys → AllOpenBytes (xs ++ ys)
files_on done files = files
files_on (next file rest) files = next file (files_on rest files)

-- ---- after any services

module _ (t : ℕ) (c : Call) (l : Lent) (p : Plain) (xs : List Asked) (starts : starts_anew c ≡ true) (z : Started t c l) (size : p.size ≡ 4 * t) where
  -- all that is lent, and the list, after the start and services with any t
  abbrev pub now : Lent
  now = lent_after (from t c xs) l

  abbrev pub list : Plain
  list = list_after (from t c xs) p

  same_size : list.size ≡ 4 * t
  unfolding lent_after_by list_after
  same_size = (sizes t now list (after_mirrors t xs _ _ (first_agrees_with t c l p starts z size).heap)).0

  -- further services
  pub later_responses : (ys : List Asked) → responses ys now ≡ list_responses ys list
  later_responses ys = responses_on (from t c xs) ys l p (as_list.same_responses t c l p (xs ++ ys) starts z size)

  -- one with the t of the heap
  pub own_as_list : (s : Service) (stack : List ℕ) → (served_to (asked t s stack) now).reply ≡ (serve_list s stack list).reply
  unfolding responses_by list_responses
  own_as_list s stack = heads_same (later_responses (asked t s stack ∷ [])) ∙ ap (λ (y : ServedList). y.reply) (own_served t s stack list same_size)

  -- a call of the heap: its whole answer, with the rescans
  pub call_as_list : (k : Call) (stack : List ℕ) → (served_to (asked t (HeapCall k) stack) now).reply ≡ answered (reply k stack list).answer
  unfolding serve_list
  call_as_list k stack = own_as_list (HeapCall k) stack

  -- an append
  pub append_as_list : (base first time tips : ℕ) (roots stack : List ℕ)
      → (served_to (asked t (Append base first time tips roots) stack) now).reply ≡ replied (run_list (append base first time tips roots stack) stack list).reply
  unfolding serve_list
  append_as_list base first time tips roots stack = own_as_list (Append base first time tips roots) stack

  -- with another t
  pub other_refused : (x : Asked) → x.t ≢ t → (served_to x now).reply ≡ told_other_t x.service
  unfolding responses_by list_responses
  other_refused x other = heads_same (later_responses (x ∷ [])) ∙ ap (λ (y : ServedList). y.reply) (other_served t x list other same_size)

  -- and no later response tells that it was asked for
  pub other_unseen : (x : Asked) → x.t ≢ t → (ys : List Asked) → responses ys (served_to x now).lent ≡ responses ys now
  unfolding responses_by list_responses
  other_unseen x other ys =
      tails_same (later_responses (x ∷ ys)) ∙ ap (λ (y : ServedList). list_responses ys y.heap) (other_served t x list other same_size) ∙ sym (later_responses ys)

  -- what further services write into buffers
  pub later_buffers : AllBytes l.memory.pool → AllOpenBytes (from t c xs) → (ys : List Asked) → AllOpenBytes ys → buffers ys now ≡ list_buffers ys list
  later_buffers bytes files ys more = buffers_on (from t c xs) ys l p (as_list.same_buffers t c l p (xs ++ ys) starts z size bytes (files_on files more))

  -- an image is that of the list
  pub image_as_list : AllBytes l.memory.pool → AllOpenBytes (from t c xs) → (base room : ℕ) (roots stack : List ℕ)
      → (served_to (asked t (HeapCall (WriteImage base roots room)) stack) now).filled ≡ (reply (WriteImage base roots room) stack list).filled
  unfolding buffers_by list_buffers serve_list
  image_as_list bytes files base room roots stack =
      let s : Service = HeapCall (WriteImage base roots room) in
      heads_same (later_buffers bytes files (asked t s stack ∷ []) (next (λ image q. absurd (none-ne-some image q)) done))
      ∙ ap (λ (y : ServedList). y.filled) (own_served t s stack list same_size)

-- of an append too, and of a service with any t behind it, of which nothing is asked
pub image_after_append : (t t' base b first time tips room : ℕ) (roots lent stack given : List ℕ) (l : Lent) (p : Plain) → Started t (Init base) l → p.size ≡ 4 * t → AllBytes l.memory.pool
    → let xs : List Asked = from t (Init base) (asked t (Append b first time tips roots) lent ∷ asked t' (Drop b first) given ∷ []) in
    (served_to (asked t (HeapCall (WriteImage b roots room)) stack) (lent_after xs l)).filled ≡ (reply (WriteImage b roots room) stack (list_after xs p)).filled
image_after_append t t' base b first time tips room roots lent stack given l p z size bytes =
    image_as_list t (Init base) l p (asked t (Append b first time tips roots) lent ∷ asked t' (Drop b first) given ∷ []) refl z size bytes
    (next (λ image q. absurd (none-ne-some image q)) (next tt (next tt done))) b room roots stack

-- ---- the used blocks

-- a sum over two lists of services
sum_on : (xs ys : List Asked) (l : Lent) (d : ℤ)
    → (sum_of (xs ++ ys) l d ≡ sum_of ys (lent_after xs l) (sum_of xs l d)) × (lent_after (xs ++ ys) l ≡ lent_after ys (lent_after xs l))
unfolding sum_of lent_after_by
sum_on [] ys l d = (refl, refl)
sum_on (x ∷ xs) ys l d = sum_on xs ys (served_to x l).lent (counted_in x.service (served_to x l).reply d)

-- the blocks that are used in the heap of 4t blocks
abbrev pub used_now : ℕ → Lent → ℤ
used_now t l = pos (used (entries_in t l.memory.table))

module _ (t : ℕ) (c : Call) (l : Lent) (xs : List Asked) (starts : starts_anew c ≡ true) (z : Started t c l) where
  abbrev here : Lent
  here = lent_after (from t c xs) l

  -- further services count from what is used
  pub later_sums : (ys : List Asked) → sum_of ys here (used_now t here) ≡ used_now t (lent_after ys here)
  later_sums ys =
      let e = sum_on (from t c xs) ys l (pos 0) in
      ap (sum_of ys here) (sym (as_list.used_is_sum t c l xs (pos 0) starts z)) ∙ sym e.0 ∙ as_list.used_is_sum t c l (xs ++ ys) (pos 0) starts z
      ∙ ap (used_now t) e.1

  one_more : (x : Asked) → used_now t (served_to x here).lent ≡ counted_in x.service (served_to x here).reply (used_now t here)
  unfolding sum_of lent_after_by
  one_more x = sym (later_sums (x ∷ []))

  -- whatever an append comes to, by a 9 too, and with any t, the used blocks change by what it answers
  pub append_adds : (t' base first time tips : ℕ) (roots stack : List ℕ)
      → let r : Served Response = served_to (asked t' (Append base first time tips roots) stack) here in
      used_now t r.lent ≡ used_now t here +ℤ change_of r.reply
  unfolding counted_in
  append_adds t' base first time tips roots stack = one_more (asked t' (Append base first time tips roots) stack)

  pub drop_adds : (t' base first : ℕ) (stack : List ℕ)
      → let r : Served Response = served_to (asked t' (Drop base first) stack) here in
      used_now t r.lent ≡ used_now t here +ℤ change_of r.reply
  unfolding counted_in
  drop_adds t' base first stack = one_more (asked t' (Drop base first) stack)

  -- and so by what a call of the heap answers that does not start anew
  pub call_adds : (t' : ℕ) (k : Call) (stack : List ℕ) → starts_anew k ≡ false
      → let r : Served Response = served_to (asked t' (HeapCall k) stack) here in
      used_now t r.lent ≡ used_now t here +ℤ change_of r.reply
  unfolding counted_in
  call_adds t' k stack old = rw old at (one_more (asked t' (HeapCall k) stack))

  -- one that does, and is accepted: no block is used, or those of its file
  pub start_counts : (t' : ℕ) (k : Call) (stack : List ℕ) → starts_anew k ≡ true → refusal_of (served_to (asked t' (HeapCall k) stack) here).reply ≡ 0
      → used_now t (served_to (asked t' (HeapCall k) stack) here).lent ≡ pos (used_first (HeapCall k))
  unfolding counted_in
  start_counts t' k stack new accepted = rw (new, accepted) at (one_more (asked t' (HeapCall k) stack))

-- the sum d and the changes in the responses to the services
unfoldable pub summed : List Asked → List Response → ℤ → ℤ
summed [] rs d = d
summed (x ∷ xs) [] d = d
summed (x ∷ xs) (r ∷ rs) d = summed xs rs (counted_in x.service r d)

-- a caller who sees nothing but the responses can add it up
pub sum_answered : (xs : List Asked) (l : Lent) (d : ℤ) → sum_of xs l d ≡ summed xs (responses xs l) d
unfolding sum_of responses_by summed
sum_answered [] l d = refl
sum_answered (x ∷ xs) l d = sum_answered xs (served_to x l).lent (counted_in x.service (served_to x l).reply d)

-- and then knows how many blocks are used
pub used_answered : (t : ℕ) (c : Call) (l : Lent) (xs : List Asked) (d : ℤ) → starts_anew c ≡ true → Started t c l
    → used_now t (lent_after (from t c xs) l) ≡ summed (from t c xs) (responses (from t c xs) l) d
used_answered t c l xs d starts z = sym (as_list.used_is_sum t c l xs d starts z) ∙ sum_answered (from t c xs) l d

-- ---- what is kept

-- all that an init or an opening accepts, with services of any t and on any base after it
pub heap_keeps : (t : ℕ) (c : Call) (l : Lent) (xs : List Asked) (at room : ℕ) (roots : List ℕ) → starts_anew c ≡ true → Started t c l
    → let os : List Object = (list_after (from t c xs) (record { size = 4 * t; objects = [] })).objects in
    Keeps at os roots (among (trace (record { base = at; objects = os; room = room }) roots).reached os)
unfolding act
heap_keeps t c l xs at room roots starts z =
    let accepted : AcceptedIn (perform (planes t) c [] l.memory) = rw (serve_is (planes t) (HeapCall c) [] l) at z in
    let few = anew_few (anew c [] (heap_in (planes t) l.memory) starts (passes_in (planes t) c [] l.memory accepted).own) in
    let e : length (entries_in t l.memory.table) ≡ 4 * t = length_entries_in t l.memory.table in
    as_list.keeps_reachable (4 * t) (from t c xs) at room roots (subst (λ (n : ℕ). 1 ≤ n) e few.0) (subst (λ (n : ℕ). n ≤ 4096) e few.1)

-- an accepted call passes each test, and its reply is what comes after
passes : (b : Bool) (r : ℕ) (p : Plain) (x : Reply) → 0 < r → (refuse_if b r p x).answer.refusal ≡ 0 → refuse_if b r p x ≡ x
passes true r p x l e = absurd (omega arith)
passes false r p x l e = refl

-- so an accepted collection leaves the reachable objects, whatever services have made the list of an empty one, and with any mark stack
pub collection_keeps : (n : ℕ) (xs : List Asked) (base : ℕ) (roots stack : List ℕ) → 1 ≤ n → n ≤ 4096
    → let p : Plain = list_after xs (record { size = n; objects = [] }) in
    (reply (Collect base roots) stack p).answer.refusal ≡ 0 → Keeps base p.objects (words_of roots) (reply (Collect base roots) stack p).heap.objects
unfolding reply collected_by
collection_keeps n xs base roots stack l u z =
    let p = list_after xs (record { size = n; objects = [] }) in
    let c = collected_by p (trace (record { base = base; objects = p.objects; room = length stack / 4 }) (words_of roots)) in
    let e = passes (not (both (good_base base p.size) (both (whole_words roots) (whole_words stack)))) 1 p _ (omega arith) z in
    let f = passes (ltb 4096 (length roots / 4)) 3 p _ (omega arith) (rw e at z) in
    let g = passes (ltb 64 (length stack / 4)) 4 p c (omega arith) (rw (e, f) at z) in
    rw (e, f, g) (as_list.keeps_reachable n xs base (length stack / 4) (words_of roots) l u)

-- two lists of which both are what is to be kept have the same objects
pub keeps_one : {base : ℕ} {os : List Object} {roots : List ℕ} {xs ys : List Object} → Keeps base os roots xs → Keeps base os roots ys
    → (o : Object) → Memᴰ o xs → Memᴰ o ys
keeps_one x y o m = y.all o (x.only o m)

-- ---- in rising order

-- from a lower block on
rising_from : {a b : ℕ} {os : List Object} → a ≤ b → Rising b os → Rising a os
rising_from l ends = ends
rising_from {a} l (rises {o = o} m b r) = let e : a ≤ o.start = omega arith in rises e b r

-- a list that lies in a pool and a table
laid_rising : {pool es : List ℕ} {from : ℕ} {os : List Object} → lie.Laid pool es from os → Rising from os
laid_rising (lie.done r g) = ends
laid_rising (lie.next l g y e r) = rises l y.some_block (laid_rising r)

-- those that are among given starts
among_rising : (m : List ℕ) {from : ℕ} {os : List Object} → Rising from os → Rising from (among m os)
unfolding among
among_rising m ends = ends
among_rising m (rises {from = from} {o = o} {os = os} l b r) = go (is_in o.start m) (among_rising m r)
  where
    go : (t : Bool) → Rising (end o) (among m os) → Rising from (pick t (o ∷ among m os) (among m os))
    go true rest = rises l b rest
    go false rest = rising_from (omega arith) rest

-- the objects after any services
pub after_rising : (n : ℕ) (xs : List Asked) → 1 ≤ n → n ≤ 4096 → Rising 0 (list_after xs (record { size = n; objects = [] })).objects
after_rising n xs l u = laid_rising (after_represented xs (record { size = n; objects = [] }) (blank n, blank_represents n l u)).1.laid

-- as a collection keeps them
pub kept_rising : (n : ℕ) (xs : List Asked) (base room : ℕ) (roots : List ℕ) → 1 ≤ n → n ≤ 4096
    → let os : List Object = (list_after xs (record { size = n; objects = [] })).objects in
    Rising 0 (among (trace (record { base = base; objects = os; room = room }) roots).reached os)
kept_rising n xs base room roots l u = among_rising _ (after_rising n xs l u)

-- ---- what is not reachable

-- each element passes the test
unfoldable pub all_of : {A : Type 0} → (A → Bool) → List A → Bool
all_of f [] = true
all_of f (x ∷ xs) = both (f x) (all_of f xs)

-- two tests that both hold
both_parts : (a b : Bool) → T (both a b) → T a × T b
both_parts true b t = (tt, t)
both_parts false b t = absurd t

-- read at one element
all_at : {A : Type 0} (f : A → Bool) {x : A} {xs : List A} → T (all_of f xs) → Memᴰ x xs → T (f x)
unfolding all_of
all_at f {x} t (Memᴰ.head {x = y} {xs = ys} e) = subst (λ z. T (f z)) (sym e) (both_parts (f y) (all_of f ys) t).0
all_at f {x} t (Memᴰ.tail {x = y} {xs = ys} m) = all_at f (both_parts (f y) (all_of f ys) t).1 m

-- a word that leads to an object leads to one of the set s
unfoldable pub leads_into : ℕ → List Object → (Object → Bool) → ℕ → Bool
leads_into base os s w = elim (led_to base w os) [ none ↦ true | some o ↦ s o ]

-- the set s of objects holds what the roots lead to, and what the words of its objects lead to
pub record Closed (base : ℕ) (os : List Object) (roots : List ℕ) (s : Object → Bool) : Type 0 where
  pub roots_in : T (all_of (leads_into base os s) roots)
  pub words_in : T (all_of (λ (o : Object). pick (s o) (all_of (leads_into base os s) o.words) true) os)

module _ (base : ℕ) (os : List Object) (roots : List ℕ) (s : Object → Bool) (c : Closed base os roots s) where
  -- what such a word leads to
  leads_in : (w : ℕ) (o : Object) → led_to base w os ≡ some o → T (leads_into base os s w) → T (s o)
  unfolding leads_into
  leads_in w o e t = subst (λ (x : Option Object). T (elim x as (λ y. Bool) [ none ↦ true | some z ↦ s z ])) e t

  -- a reachable object is one of the list
  member : {o : Object} → Reachable base os roots o → Memᴰ o os
  member (root {w = w} m e) = led_member base w os e
  member (edge {w = w} r m e) = led_member base w os e

  -- so every reachable object is one of it
  pub reachable_in : {o : Object} → Reachable base os roots o → T (s o)
  reachable_in {o} (root {w = w} m e) = leads_in w o e (all_at (leads_into base os s) c.roots_in m)
  reachable_in {o} (edge {x = x} {w = w} r m e) = leads_in w o e (all_at (leads_into base os s) (go (s x) (reachable_in r) (all_at _ c.words_in (member r))) m)
    where
      go : (b : Bool) → T b → T (pick b (all_of (leads_into base os s) x.words) true) → T (all_of (leads_into base os s) x.words)
      go true t u = u
      go false t u = absurd t

-- ---- files of bytes

-- computed: every element of the file that a service reads is a byte
abbrev bytes_in : Option (List ℕ) → Bool
bytes_in none = true
bytes_in (some image) = all_bytes image

abbrev pub opens_bytes : Service → Bool
opens_bytes (HeapCall c) = bytes_in (file_in c)
opens_bytes (Append base first time tips roots) = true
opens_bytes (Read base first index) = true
opens_bytes (Drop base first) = true

all_bytes_in : (x : Option (List ℕ)) → T (bytes_in x) → (image : List ℕ) → x ≡ some image → AllBytes image
all_bytes_in none t image e = absurd (true_not_false (sym (ap is_none e)) refl)
all_bytes_in (some bs) t image e = subst AllBytes (ap (λ (x : Option (List ℕ)). or_else x []) e) (bytes_below bs t)

opens_bytes_of : (s : Service) → T (opens_bytes s) → OpensBytes s
opens_bytes_of (HeapCall c) t = all_bytes_in (file_in c) t
opens_bytes_of (Append base first time tips roots) t = tt
opens_bytes_of (Read base first index) t = tt
opens_bytes_of (Drop base first) t = tt

-- so are all files that the services read
pub files_of : (xs : List Asked) → T (all_of (λ (x : Asked). opens_bytes x.service) xs) → AllOpenBytes xs
unfolding all_of
files_of [] h = done
files_of (x ∷ xs) h = let p = both_parts (opens_bytes x.service) _ h in next (opens_bytes_of x.service p.0) (files_of xs p.1)
