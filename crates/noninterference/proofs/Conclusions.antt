-- What services that do not tell two heaps apart have in common, said without the words of the statement: the responses as lists, buffers and tables in bytes, what lies beside, and the words of
-- allocated blocks.
-- Assumes nothing.
use mathlib.Core.Path.{◌≡◌, refl, sym, ap}
use mathlib.Core.Logic.{◌≢◌}
use mathlib.Core.Bool.{Bool, true, false, not, true≢false}
use mathlib.Core.List.{List, [], ◌∷◌, ◌++◌, map}
use Prim.Native.Nat.{ℕ, ◌+◌, ◌*◌, ◌<◌}
use native.Mathlib.Omega.{arith}
use lib.Dec.{eqb}
use lib.ListN.{length}
use borrow.Author.Tests.{eqb-true}
use Rattle.rules.specs.Tests.{both, either}
use Rattle.rules.specs.Words.{word_at}
use Rattle.rules.specs.Entries.{FREE}
use Rattle.rules.specs.Tables.{entry_at}
use Rattle.rules.specs.Planes.{entries_in}
use Rattle.rules.specs.Lent.{Lent}
use Rattle.laws.proofs.Refusals.{both_left, both_right}
use Rattle.laws.proofs.Words.{word_at_same}
use Rattle.keeping.specs.Keeping.{with_rescans, but_rescans}
use Rattle.programs.specs.Programs.{collects}
use Rattle.programs.proofs.Laws.{cons_same}
use Rattle.services.specs.Services.{Service, HeapCall, Append, Read, Drop, Response, answered, replied, refusal_of, Asked, responses, buffers, lent_after}
use Rattle.noninterference.specs.Noninterference.{SameResponse, equal, alike_but_rescans, SameResponses, done, next, Indistinct}
use Rattle.noninterference.specs.Unseen.{stack_lengths}

-- ---- one response

-- with this number of rescans, if it is an answer of the heap
abbrev pub told_rescans : ℕ → Response → Response
told_rescans r (answered a) = answered (with_rescans r a)
told_rescans r (replied y) = replied y

-- without it
abbrev pub not_rescans : Response → Response
not_rescans (answered a) = answered (but_rescans a)
not_rescans (replied y) = replied y

-- the number
abbrev pub rescans_of : Response → ℕ
rescans_of (answered a) = a.rescans
rescans_of (replied y) = 0

-- every part but the rescans is always the same
pub response_but_rescans : {s : Service} {stack stack' : List ℕ} {a b : Response} → SameResponse stack stack' s a b → not_rescans a ≡ not_rescans b
response_but_rescans (equal e) = ap not_rescans e
response_but_rescans (alike_but_rescans z l e) = ap answered e

-- every part is, if the mark stacks are equally long
pub response_long : {s : Service} {stack stack' : List ℕ} {a b : Response} → SameResponse stack stack' s a b → length stack ≡ length stack' → a ≡ b
response_long (equal e) l = e
response_long (alike_but_rescans z n e) l = absurd (n l)

-- or if the service is refused
pub response_refused : {s : Service} {stack stack' : List ℕ} {a b : Response} → SameResponse stack stack' s a b → refusal_of a ≢ 0 → a ≡ b
response_refused (equal e) r = e
response_refused (alike_but_rescans z n e) r = absurd (r z)

-- or if it is no collection. No service of the log is one, though an append may make one
abbrev pub is_collection : Service → Bool
is_collection (HeapCall c) = collects c
is_collection (Append base first time tips roots) = false
is_collection (Read base first index) = false
is_collection (Drop base first) = false

pub response_other : {s : Service} {stack stack' : List ℕ} {a b : Response} → SameResponse stack stack' s a b → is_collection s ≡ false → a ≡ b
response_other (equal e) c = e
response_other (alike_but_rescans z n e) c = absurd (true≢false c)

-- ---- all responses

-- every part but the rescans, one by one
pub responses_but_rescans : {xs ys : List Asked} {ps qs : List Response} → SameResponses xs ys ps qs → map not_rescans ps ≡ map not_rescans qs
responses_but_rescans done = refl
responses_but_rescans (next x r) = cons_same (response_but_rescans x) (responses_but_rescans r)

-- every part, if each two mark stacks are equally long
pub responses_long : {xs ys : List Asked} {ps qs : List Response} → SameResponses xs ys ps qs → stack_lengths xs ≡ stack_lengths ys → ps ≡ qs
unfolding stack_lengths
responses_long done l = refl
responses_long (next {stack = s} {stack' = s'} {xs = xs} {ys = ys} x r) l =
    let e : length s ≡ length s' = cc in
    let f : stack_lengths xs ≡ stack_lengths ys = cc in
    cons_same (response_long x e) (responses_long r f)

-- or if those of each collection are
abbrev pub long_if_collection : Service → List ℕ → List ℕ → Bool
long_if_collection s stack stack' = either (not (is_collection s)) (eqb (length stack) (length stack'))

unfoldable pub collections_long : List Asked → List Asked → Bool
collections_long [] [] = true
collections_long [] (y ∷ ys) = false
collections_long (x ∷ xs) [] = false
collections_long (x ∷ xs) (y ∷ ys) = both (long_if_collection x.service x.stack y.stack) (collections_long xs ys)

response_settled : {s : Service} {stack stack' : List ℕ} {a b : Response} → SameResponse stack stack' s a b → long_if_collection s stack stack' ≡ true → a ≡ b
response_settled {s = s} {a = a} {b = b} x e = go (is_collection s) refl
  where
    go : (c : Bool) → is_collection s ≡ c → a ≡ b
    go true c = response_long x (eqb-true _ _ (rw c at e))
    go false c = response_other x c

pub responses_settled : {xs ys : List Asked} {ps qs : List Response} → SameResponses xs ys ps qs → collections_long xs ys ≡ true → ps ≡ qs
unfolding collections_long
responses_settled done e = refl
responses_settled (next {s = s} {stack = stack} {stack' = stack'} {xs = xs} {ys = ys} x r) e =
    let here = both_left (long_if_collection s stack stack') (collections_long xs ys) e in
    let rest = both_right (long_if_collection s stack stack') (collections_long xs ys) e in
    cons_same (response_settled x here) (responses_settled r rest)

-- and but for the rescans of the first, if those of each collection behind it are
pub responses_later : {x y : Asked} {xs ys : List Asked} {a : Response} {ps qs : List Response} → SameResponses (x ∷ xs) (y ∷ ys) (a ∷ ps) qs
    → collections_long xs ys ≡ true → (r : ℕ) × (qs ≡ told_rescans r a ∷ ps)
responses_later (next {a = a} {b = b} x rest) e = (rescans_of b, sym (cons_same (told a b (response_but_rescans x)) (responses_settled rest e)))
  where
    told : (a b : Response) → not_rescans a ≡ not_rescans b → told_rescans (rescans_of b) a ≡ b
    told (answered a) (answered b) e = ap (told_rescans b.rescans) e
    told (answered a) (replied y) e = cc
    told (replied y) (answered b) e = cc
    told (replied y) (replied z) e = e

-- the responses to services that are followed by others are the same, and so are those to the others
pub responses_joined : (xs ys : List Asked) {xs' ys' : List Asked} (ps : List Response) {ps' qs : List Response} → length xs ≡ length ps → length ys ≡ length ps
    → SameResponses (xs ++ xs') (ys ++ ys') (ps ++ ps') qs
    → (zs : List Response) × (ws : List Response) × (qs ≡ zs ++ ws) × SameResponses xs ys ps zs × SameResponses xs' ys' ps' ws
responses_joined [] [] [] l m same = ([], _, refl, done, same)
responses_joined [] [] (a ∷ ps) l m same = absurd (omega arith)
responses_joined [] (y ∷ ys) ps l m same = absurd (omega arith)
responses_joined (x ∷ xs) [] ps l m same = absurd (omega arith)
responses_joined (x ∷ xs) (y ∷ ys) [] l m same = absurd (omega arith)
responses_joined (x ∷ xs) (y ∷ ys) (a ∷ ps) l m (next {b = b} z rest) =
    let (zs, ws, e, u, v) = responses_joined xs ys ps (omega arith) (omega arith) rest in
    (b ∷ zs, ws, cc, next z u, v)

-- ---- all that is lent

module _ {t : ℕ} {xs ys : List Asked} {l l' : Lent} (same : Indistinct t xs ys l l') where
  -- the responses but for the rescans
  pub same_but_rescans : map not_rescans (responses xs l) ≡ map not_rescans (responses ys l')
  same_but_rescans = responses_but_rescans same.same_responses

  -- the responses, where each two mark stacks are equally long
  pub same_lists : stack_lengths xs ≡ stack_lengths ys → responses xs l ≡ responses ys l'
  same_lists e = responses_long same.same_responses e

  -- what the services wrote into buffers
  pub same_buffers : buffers xs l ≡ buffers ys l'
  same_buffers = same.same_buffers

  -- the bytes of the tables
  pub same_tables : (lent_after xs l).memory.table ≡ (lent_after ys l').memory.table
  same_tables = same.same_lent.table

  -- what lies beside
  pub same_beside : (lent_after xs l).beside ≡ (lent_after ys l').beside
  same_beside = same.same_lent.beside

  -- the four words of an allocated block
  pub same_words : (k : ℕ) → entry_at (entries_in t (lent_after xs l).memory.table) k ≢ FREE → (i : ℕ) → i < 4
      → word_at (lent_after xs l).memory.pool (4 * k + i) ≡ word_at (lent_after ys l').memory.pool (4 * k + i)
  same_words k u i n =
      word_at_same (lent_after xs l).memory.pool (lent_after ys l').memory.pool (4 * k + i) (4 * k + i)
      (λ j m. let e : 4 * (4 * k + i) + j ≡ 16 * k + (4 * i + j) = omega arith in rw e (same.same_bytes k u (4 * i + j) (omega arith)))
