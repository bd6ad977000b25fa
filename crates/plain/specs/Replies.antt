-- The rules applied to a plain list: what each call answers, and the list it leaves.
-- Assumes nothing.
use Rattle.std.specs.Prelude.{Bool, true, false, not, List, [], ◌∷◌, ℕ, ◌+◌, ◌*◌, ◌/◌, ◌%◌, ◌^◌, eqb, leb, ltb, length, get_or, set, take, replicate}
use Rattle.std.proofs.Math.Option.{Option, some, none}
use Rattle.std.proofs.Math.IntN.{sub_ℕ}
use Rattle.rules.specs.Tests.{pick, both}
use Rattle.rules.specs.Words.{words_of}
use Rattle.rules.specs.Tables.{well_formed}
use Rattle.rules.specs.Pointers.{good_base}
use Rattle.rules.specs.Outcomes.{Answer, only_refusal, placed_at, collected_to, surveyed, loaded, written_to, opened_at}
use Rattle.rules.specs.Refusals.{whole_words}
use Rattle.rules.specs.Files.{File, file_of, fault_of, entries_for, base_of, roots_of}
use Rattle.rules.specs.Calls.{blocks_for}
use Rattle.rules.specs.Runs.{Call, Init, Allocate, Free, Reallocate, Collect, Survey, Load, Store, WriteImage, OpenImage, Turn}
use Rattle.plain.specs.Objects.{Object, object, Plain, padded, total, find, place_from, lowest_gap, longest_gap, next_start, insert, remove, replace}
use Rattle.plain.specs.Tracing.{Traced, trace, among}
use Rattle.plain.specs.Images.{image_of_list, objects_from}

-- an answer, the heap that is left, and what is written into a buffer that was lent for it
pub record Reply : Type 0 where
  pub answer : Answer
  pub heap : Plain
  pub filled : List ℕ

-- the heap with these objects instead
abbrev pub becomes : Answer → Plain → List Object → Reply
becomes a p os = record { answer = a; heap = record { size = p.size; objects = os }; filled = [] }

-- a refusal: nothing but its number is answered, and nothing is changed
abbrev pub refuse : ℕ → Plain → Reply
refuse r p = record { answer = only_refusal r; heap = p; filled = [] }

-- refusal r if the test holds, else what comes next
abbrev pub refuse_if : Bool → ℕ → Plain → Reply → Reply
refuse_if true r p next = refuse r p
refuse_if false r p next = next

-- accepted, with a block and the change in used blocks
unfoldable pub places : Plain → ℕ → List Object → Reply
places p k os = becomes (placed_at k (sub_ℕ (total os) (total p.objects))) p os

-- Allocate: a new object of zeros in the lowest gap that has room
unfoldable pub allocated_at : Plain → ℕ → Option ℕ → Reply
allocated_at p b none = refuse 9 p
allocated_at p b (some s) = places p s (insert (object s b (replicate (4 * b) 0)) p.objects)

-- the calls that name an object by its start: 6 if there is no such block, 7 if no object starts there
unfoldable pub on_object : Plain → Option Object → (Object → Reply) → Reply
on_object p none f = refuse 7 p
on_object p (some o) f = f o

unfoldable pub named : Plain → ℕ → (Object → Reply) → Reply
named p k f = refuse_if (leb p.size k) 6 p (on_object p (find k p.objects) f)

-- Reallocate by a move: the object, with zeros after its words, in the lowest gap found while the old one is still there
unfoldable pub moved_into : Plain → Object → ℕ → Option ℕ → Reply
moved_into p o c none = refuse 9 p
moved_into p o c (some s) = places p s (remove o.start (insert (object s c (padded o c)) p.objects))

-- Reallocate to c blocks: as it is, fewer blocks, more in place where the object's start is a place for c, or by a move
unfoldable pub resized : Plain → Object → ℕ → Reply
resized p o c =
    pick (eqb c o.blocks) (places p o.start p.objects)
    (pick (ltb c o.blocks) (places p o.start (replace (object o.start c (take (4 * c) o.words)) p.objects))
    (pick (both (eqb (place_from c o.start) o.start) (leb (o.start + c) (next_start p.size o.start p.objects)))
    (places p o.start (replace (object o.start c (padded o c)) p.objects))
    (moved_into p o c (lowest_gap p.size c 0 p.objects))))

-- Collect: the objects that the marking reached are kept
unfoldable pub collected_by : Plain → Traced → Reply
collected_by p t =
    let kept : List Object = among t.reached p.objects in
    becomes (collected_to (length kept) t.rescans (sub_ℕ (total kept) (total p.objects))) p kept

-- Load and store: word i of the object, of which 32 bits are stored; 8 if the object has no such word
unfoldable pub loaded_from : Plain → ℕ → Object → Reply
loaded_from p i o = refuse_if (leb (4 * o.blocks) i) 8 p (becomes (loaded (get_or o.words i 0)) p p.objects)

unfoldable pub stored_in : Plain → ℕ → ℕ → Object → Reply
stored_in p i w o =
    refuse_if (leb (4 * o.blocks) i) 8 p
    (becomes (only_refusal 0) p (replace (object o.start o.blocks (set o.words i (w % 2 ^ 32))) p.objects))

-- Write an image into a buffer of `room` bytes: 10 if that is shorter
unfoldable pub image_in : Plain → ℕ → List ℕ → Reply
image_in p room image = refuse_if (ltb room (length image)) 10 p (record { answer = written_to (length image); heap = p; filled = image })

-- 1, of a file that is opened: it has as many blocks as the list, its base suits them, and the root list of `room` bytes is whole words
abbrev pub suited : File → ℕ → Plain → Bool
suited f room p = both (both (good_base (base_of f) p.size) (eqb (length (entries_for f.table)) p.size)) (eqb (room % 4) 0)

-- the file's objects, whatever the list held, and its roots
abbrev pub opens : File → Plain → Reply
opens f p = record {
  answer = opened_at (base_of f) (length (roots_of f) / 4);
  heap = record { size = p.size; objects = objects_from 0 (entries_for f.table) f.blocks.body };
  filled = roots_of f;
}

-- Open an image, whose file has no fault: 2 if its table is not well-formed, 17 if the root list is shorter than its roots
unfoldable pub opened_in : File → ℕ → Plain → Reply
opened_in f room p =
    refuse_if (not (suited f room p)) 1 p
    (refuse_if (not (well_formed (entries_for f.table))) 2 p
    (refuse_if (ltb room (length (roots_of f))) 17 p
    (opens f p)))

-- 1: the base does not suit the blocks
abbrev pub misplaced : ℕ → Plain → Bool
misplaced base p = not (good_base base p.size)

-- what a call answers, and the list it leaves. The mark stack is lent to a collection; roots and mark stack are bytes, four to an entry
unfoldable pub reply : Call → List ℕ → Plain → Reply
reply (Init base) stack p = refuse_if (misplaced base p) 1 p (becomes (only_refusal 0) p [])
reply (Allocate base bytes) stack p =
    refuse_if (misplaced base p) 1 p
    (refuse_if (eqb bytes 0) 5 p
    (allocated_at p (blocks_for bytes) (lowest_gap p.size (blocks_for bytes) 0 p.objects)))
reply (Free base k) stack p =
    refuse_if (misplaced base p) 1 p
    (named p k (λ o. places p 0 (remove k p.objects)))
reply (Reallocate base k bytes) stack p =
    refuse_if (misplaced base p) 1 p
    (refuse_if (eqb bytes 0) 5 p
    (named p k (λ o. resized p o (blocks_for bytes))))
reply (Collect base roots) stack p =
    refuse_if (not (both (good_base base p.size) (both (whole_words roots) (whole_words stack)))) 1 p
    (refuse_if (ltb 4096 (length roots / 4)) 3 p
    (refuse_if (ltb 64 (length stack / 4)) 4 p
    (collected_by p (trace (record { base = base; objects = p.objects; room = length stack / 4 }) (words_of roots)))))
reply (Survey base) stack p =
    refuse_if (misplaced base p) 1 p
    (becomes (surveyed (total p.objects) (length p.objects) (longest_gap p.size 0 p.objects)) p p.objects)
reply (Load base k i) stack p = refuse_if (misplaced base p) 1 p (named p k (loaded_from p i))
reply (Store base k i w) stack p = refuse_if (misplaced base p) 1 p (named p k (stored_in p i w))
reply (WriteImage base roots room) stack p =
    refuse_if (not (both (good_base base p.size) (whole_words roots))) 1 p
    (refuse_if (ltb 4096 (length roots / 4)) 3 p
    (image_in p room (image_of_list base p roots)))
reply (OpenImage image room) stack p = refuse_if (not (eqb (fault_of image) 0)) (fault_of image) p (opened_in (file_of image) room p)

-- a call, and then the calls
abbrev pub from : Call → List Turn → List Turn
from c ts = record { call = c; stack = [] } ∷ ts

-- the answers to calls in a row: each finds the list as the one before left it
unfoldable pub replies : List Turn → Plain → List Answer
replies [] p = []
replies (t ∷ ts) p = (reply t.call t.stack p).answer ∷ replies ts (reply t.call t.stack p).heap

-- what they write into buffers, in order
unfoldable pub fillings : List Turn → Plain → List (List ℕ)
fillings [] p = []
fillings (t ∷ ts) p = (reply t.call t.stack p).filled ∷ fillings ts (reply t.call t.stack p).heap

-- the list after the calls
unfoldable pub left : List Turn → Plain → Plain
left [] p = p
left (t ∷ ts) p = left ts (reply t.call t.stack p).heap
