-- The heap is a plain list: from an accepted init or opening on, every list of services is answered, and fills buffers, as a plain list of objects does.
-- Assumes nothing.
use Rattle.std.specs.Prelude.{◌≡◌, Bool, true, false, List, [], ◌∷◌, ℕ, ◌*◌, ◌≤◌, eqb, ℤ, pos, ◌+ℤ◌}
use Rattle.std.proofs.Math.Option.{Option, some, none}
use Rattle.rules.specs.Tests.{pick, both}
use Rattle.rules.specs.Tables.{used}
use Rattle.rules.specs.Planes.{entries_in}
use Rattle.rules.specs.Files.{entries_for, file_of}
use Rattle.rules.specs.Runs.{Call, file_in, FileIs, starts_anew}
use Rattle.rules.specs.Lent.{Lent}
use Rattle.laws.specs.Meaning.{AllBytes}
use Rattle.plain.specs.Objects.{Object, Plain}
use Rattle.plain.specs.Tracing.{trace, among}
use Rattle.plain.specs.Reaching.{Keeps}
use Rattle.plain.specs.Replies.{Reply as ListReply, reply}
use Rattle.programs.specs.AsList.{RanList, run_list}
use Rattle.logs.specs.Log.{Reply, append, read, drop}
use Rattle.services.specs.Services.{Service, HeapCall, Append, Read, Drop, Response, answered, replied, refusal_of, told_other_t, Asked, asked, served_to, responses, buffers, lent_after}

-- ---- services on a plain list

-- what is replied, the list that is left, and what is written into a buffer that was lent for it
pub record ServedList : Type 0 where
  pub reply : Response
  pub heap : Plain
  pub filled : List ℕ

abbrev pub ran_by : RanList Reply → ServedList
ran_by r = record { reply = replied r.reply; heap = r.heap; filled = [] }

-- a service with the t of the list
unfoldable pub serve_list : Service → List ℕ → Plain → ServedList
serve_list (HeapCall c) stack p = let r : ListReply = reply c stack p in record { reply = answered r.answer; heap = r.heap; filled = r.filled }
serve_list (Append base first time tips roots) stack p = ran_by (run_list (append base first time tips roots stack) stack p)
serve_list (Read base first index) stack p = ran_by (run_list (read base first index) stack p)
serve_list (Drop base first) stack p = ran_by (run_list (drop base first) stack p)

-- the list has 4t blocks, or the t is another
abbrev pub served_list_to : Asked → Plain → ServedList
served_list_to x p = pick (eqb (4 * x.t) p.size) (serve_list x.service x.stack p) (record { reply = told_other_t x.service; heap = p; filled = [] })

-- ---- lists of services, each on the list as the one before left it

unfoldable pub list_responses : List Asked → Plain → List Response
list_responses [] p = []
list_responses (x ∷ xs) p = (served_list_to x p).reply ∷ list_responses xs (served_list_to x p).heap

unfoldable pub list_buffers : List Asked → Plain → List (List ℕ)
list_buffers [] p = []
list_buffers (x ∷ xs) p = (served_list_to x p).filled ∷ list_buffers xs (served_list_to x p).heap

unfoldable pub list_after : List Asked → Plain → Plain
list_after [] p = p
list_after (x ∷ xs) p = list_after xs (served_list_to x p).heap

-- ---- the sum of the changes

-- the change that was answered
abbrev pub change_of : Response → ℤ
change_of (answered a) = a.change
change_of (replied y) = y.change

-- whether the service fills a whole heap, and how many blocks are then used in it: none, or those of the file that it reads
abbrev pub fills_heap : Service → Bool
fills_heap (HeapCall c) = starts_anew c
fills_heap (Append base first time tips roots) = false
fills_heap (Read base first index) = false
fills_heap (Drop base first) = false

abbrev pub used_in : Option (List ℕ) → ℕ
used_in none = 0
used_in (some image) = used (entries_for (file_of image).table)

abbrev pub used_first : Service → ℕ
used_first (HeapCall c) = used_in (file_in c)
used_first (Append base first time tips roots) = 0
used_first (Read base first index) = 0
used_first (Drop base first) = 0

-- the sum d, one response further: an accepted service that fills a whole heap sets it to the blocks that are then used, and every other adds its change
unfoldable pub counted_in : Service → Response → ℤ → ℤ
counted_in s a d = pick (both (fills_heap s) (eqb (refusal_of a) 0)) (pos (used_first s)) (d +ℤ change_of a)

-- of all changes in the responses to the services since the latest that filled a whole heap, or since d before them
unfoldable pub sum_of : List Asked → Lent → ℤ → ℤ
sum_of [] l d = d
sum_of (x ∷ xs) l d = sum_of xs (served_to x l).lent (counted_in x.service (served_to x l).reply d)

-- ---- the statement

-- a file that a service opens is bytes, and so are those of all services
abbrev pub OpensBytes : Service → Type 0
OpensBytes (HeapCall c) = FileIs AllBytes c
OpensBytes (Append base first time tips roots) = Unit {0}
OpensBytes (Read base first index) = Unit {0}
OpensBytes (Drop base first) = Unit {0}

pub data AllOpenBytes : List Asked → Type 0 where
  done : AllOpenBytes []
  next : {x : Asked} {xs : List Asked} → OpensBytes x.service → AllOpenBytes xs → AllOpenBytes (x ∷ xs)

-- a call that starts anew, and then any services, with any t and on any bases, refused ones among them
abbrev pub from : ℕ → Call → List Asked → List Asked
from t c xs = asked t (HeapCall c) [] ∷ xs

-- From an init or an opening that is accepted on. What was lent and the list held before it does not matter.
pub record AsList : Type 0 where
  -- all responses are the list's, whole answers with their rescans
  pub same_responses : (t : ℕ) (c : Call) (l : Lent) (p : Plain) (xs : List Asked) → starts_anew c ≡ true → refusal_of (served_to (asked t (HeapCall c) []) l).reply ≡ 0 → p.size ≡ 4 * t
      → responses (from t c xs) l ≡ list_responses (from t c xs) p
  -- and so is what is written into buffers: an image is that of the list's objects. Pool and files are bytes
  pub same_buffers : (t : ℕ) (c : Call) (l : Lent) (p : Plain) (xs : List Asked) → starts_anew c ≡ true → refusal_of (served_to (asked t (HeapCall c) []) l).reply ≡ 0 → p.size ≡ 4 * t
      → AllBytes l.memory.pool → AllOpenBytes (from t c xs) → buffers (from t c xs) l ≡ list_buffers (from t c xs) p
  -- a collection of the list keeps exactly the reachable objects, whatever services have made the list of an empty one, and with any mark stack
  pub keeps_reachable : (n : ℕ) (xs : List Asked) (base room : ℕ) (roots : List ℕ) → 1 ≤ n → n ≤ 4096
      → let os : List Object = (list_after xs (record { size = n; objects = [] })).objects in
      Keeps base os roots (among (trace (record { base = base; objects = os; room = room }) roots).reached os)
  -- the used blocks are those after the latest accepted init or opening and the sum of the changes that were answered since, whatever came before it
  pub used_is_sum : (t : ℕ) (c : Call) (l : Lent) (xs : List Asked) (d : ℤ) → starts_anew c ≡ true → refusal_of (served_to (asked t (HeapCall c) []) l).reply ≡ 0
      → sum_of (from t c xs) l d ≡ pos (used (entries_in t (lent_after (from t c xs) l).memory.table))
