-- What this project promises, on one page. Each field names a statement; to read it, open the module that its `use` line names. The numbers are those of the promises in README.md.
-- All of them are proved, with no assumption (proofs/Guaranteed.antt).
-- Assumes nothing.
use Rattle.std.specs.Prelude.{◌≡◌, [], ◌∷◌, map, length}
use Rattle.rules.specs.Words.{word_at, bytes_of}
use Rattle.rules.specs.Examples.{Example, examples}
use Rattle.rules.specs.Limits.{limits, Lengths}
use Rattle.rules.specs.Orders.{orders}
use Rattle.rules.specs.PlaneExamples.{PlaneExample, plane_examples, PlaneRefusals}
use Rattle.rules.specs.ImageExamples.{ImageExample, image_examples, ManyRoots}
use Rattle.rules.specs.FileExamples.{FileExample, file_examples, LongList, PrefixesCutShort}
use Rattle.keeping.specs.Keeping.{KeepsExactly, AnyStack}
use Rattle.promises.specs.Bytes.{OnBytes}
use Rattle.promises.specs.Images.{ImageSaysAll}
use Rattle.promises.specs.Files.{WriteThenOpen, OpenThenWrite, OpensExactly, OneFile}
use Rattle.promises.specs.Promises.{Promises}
use Rattle.promises.specs.Determined.{Determined, Whole}
use Rattle.promises.specs.Alignment.{NewObjectsAligned, AlignedFromStart}
use Rattle.algebra.specs.Algebra.{FreesCommute, RootsAreASet, RootsJoin, CollectIdempotent}
use Rattle.logs.specs.Examples.{accepted, refused, found, expected}
use Rattle.loglaws.specs.Promises.{LogPromises}
use Rattle.loglaws.specs.Cycle.{LogIsList}
use Rattle.services.specs.OnMemory.{OnMemory}
use Rattle.noninterference.specs.Noninterference.{Noninterference}
use Rattle.refinement.specs.AsList.{AsList}
use Rattle.packed.specs.AsPacked.{AsPacked}
use Rattle.lasting.specs.Lasting.{LogLasts}
use Rattle.guarantees.specs.EntryPoints.{EntryPoints}

pub record Guarantees : Type 2 where
  -- 1 and 2. Nobody is trusted, and the calls do what the rules say: each function that C calls asks nothing of its caller, and does to all that is lent, for every input, what its service is by the rules.
  pub entry_points : EntryPoints
  -- A service is the heap's call on the memory, or the log's program of such calls: so what is promised below of calls and programs is promised of services. One that is given another t than the heap's is refused, and changes nothing.
  pub on_memory : OnMemory
  -- A refused call leaves every byte that was lent, and an accepted one the bytes of the heap that the call leaves; what that means of two planes, and of their spare bits.
  pub on_bytes : OnBytes
  -- Each call of the rules: by which number it is refused, that it then changes nothing, and what it does otherwise. That leaves one outcome, and no call changes the size of the heap.
  pub promises : Promises
  pub determined : Determined
  pub whole : Whole
  -- An object of four blocks or more that is made or gets more blocks starts at a block divisible by four, and from an accepted init or opening on, after any list of heap calls, every such object does, if those of the files that are to be opened do.
  pub new_objects_aligned : NewObjectsAligned
  pub aligned_from_start : AlignedFromStart
  -- A collection keeps exactly the reachable objects, and the mark stack has no influence on it.
  pub keeps_exactly : KeepsExactly
  pub any_stack : AnyStack
  -- Every list of services that are given the heap's t is answered as on a packed table, and leaves the same entries and mark stacks.
  pub as_packed : AsPacked
  -- 3. What is not reachable has no influence on any later list of services: not on a response, a buffer, the table, what lies beside it or a used block.
  pub noninterference : Noninterference
  -- 4. From an accepted init or opening on, every list of services is answered as a plain list of objects answers it, and so is what is written into buffers; a collection of that list keeps exactly what is reachable in it; the used
  -- blocks are the sum of all changes.
  pub as_list : AsList
  -- 5. Order does not matter: frees commute, roots are a set, joined root lists keep what one or the other keeps, and a second collection at once from the same roots changes nothing.
  pub frees_commute : FreesCommute
  pub roots_are_a_set : RootsAreASet
  pub roots_join : RootsJoin
  pub collect_idempotent : CollectIdempotent
  -- 6. An image says exactly what is allocated in the heap, reachable or not: two are the same if and only if t, the base, the roots, the entries and the bytes of used blocks are.
  pub image_says_all : ImageSaysAll
  -- 7. A heap that is written and opened elsewhere is the same, but for its FREE blocks, which are zero. A file that is opened and written is the same file. A file can be opened exactly if it is the
  -- image of a heap that is not refused, and no two files open alike.
  pub write_then_open : WriteThenOpen
  pub open_then_write : OpenThenWrite
  pub opens_exactly : OpensExactly
  pub one_file : OneFile
  -- 8. Each call of the rain log: by which number it is refused, that it then changes nothing, but that append's collection stands after its 9, and what it does otherwise.
  pub log_promises : LogPromises
  -- The log is as it was, and reads as before, after any services that leave its objects alone and collect with its first address among the roots.
  pub log_lasts : LogLasts
  -- From an accepted init on, any appends and drops are answered, and then read, as by a plain list of pairs with room for as many as the heap has pairs of blocks.
  pub log_is_list : LogIsList
  -- Of no number: the worked examples 1 to 12, a chain through the middle of an object, a rescan, large objects and a load come out, the order of the marking shows in its rescans, words have their lowest byte first, and the limits, with
  -- the worked examples 13 to 15, are held from both sides; 1 to 12 come out in the bytes of two planes too, where a spare bit is refused by 2, and another t or another length by 1.
  pub examples_hold : map (λ (x : Example). x.is) examples ≡ map (λ (x : Example). x.ought) examples
  pub orders_hold : map (λ (x : Example). x.is) orders ≡ map (λ (x : Example). x.ought) orders
  pub examples_number : length examples ≡ 44
  pub orders_number : length orders ≡ 4
  pub words_hold : (word_at (0 ∷ 16 ∷ 0 ∷ 0 ∷ []) 0 ≡ 4096) × (bytes_of 4096 ≡ 0 ∷ 16 ∷ 0 ∷ 0 ∷ [])
  pub limits_hold : map (λ (x : Example). x.is) limits ≡ map (λ (x : Example). x.ought) limits
  pub limits_number : length limits ≡ 11
  pub lengths_hold : Lengths
  pub plane_examples_hold : map (λ (x : PlaneExample). x.is) plane_examples ≡ map (λ (x : PlaneExample). x.ought) plane_examples
  pub plane_examples_number : length plane_examples ≡ 29
  pub plane_refusals : PlaneRefusals
  -- Images of heaps come out byte by byte, with what is behind them in the buffer, and where they are refused.
  pub image_examples_hold : map (λ (x : ImageExample). x.is) image_examples ≡ map (λ (x : ImageExample). x.ought) image_examples
  pub image_examples_number : length image_examples ≡ 9
  pub many_roots : ManyRoots
  -- Files come out byte by byte, with what is behind their roots in the root list, and where they are refused; each beginning of an image is cut short.
  pub file_examples_hold : map (λ (x : FileExample). x.is) file_examples ≡ map (λ (x : FileExample). x.ought) file_examples
  pub file_examples_number : length file_examples ≡ 35
  pub long_list : LongList
  pub prefixes_cut_short : PrefixesCutShort
  -- Logs come out call by call, with every byte of pool, table and mark stack, and where they are refused.
  pub log_examples_accepted : found accepted ≡ expected accepted
  pub log_examples_refused : found refused ≡ expected refused
  pub log_examples_number : (length accepted ≡ 13) × (length refused ≡ 27)
