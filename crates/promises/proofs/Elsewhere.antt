-- The round trips used: on the sample heap, whose image is opened in memory full of ones and written again, and then on every heap and every file.
-- Assumes nothing.
use mathlib.Core.Path.{◌≡◌, refl, sym, ap, ◌∙◌}
use mathlib.Core.Logic.{◌≢◌}
use mathlib.Core.Bool.{true}
use mathlib.Core.List.{List, [], ◌∷◌, ◌++◌}
use Prim.Native.Nat.{ℕ, suc, ◌*◌, ◌/◌, ◌%◌, ◌≤◌}
use native.Mathlib.Decide.{ℕ_discrete}
use native.Mathlib.Omega.{arith}
use lib.Dec.{T}
use lib.ListN.{length, get_or, take, drop, replicate, length-replicate}
use Rattle.rules.specs.Tests.{count, tabulate}
use Rattle.rules.specs.Bits.{bit_of, bit_at, byte_of}
use Rattle.rules.specs.Words.{number, bytes_of, two_bytes_of, first_two, word_at, with_word}
use Rattle.rules.specs.Entries.{FREE, entry_of, entries_of, table_of}
use Rattle.rules.specs.Tables.{entry_at, may_follow, well_after, well_formed, used}
use Rattle.rules.specs.Pointers.{address_of, good_base}
use Rattle.laws.specs.Meaning.{AllBytes}
use Rattle.rules.specs.Forms.{Form}
use Rattle.rules.specs.Outcomes.{Heap, Answer, only_refusal, opened_at, written_to, unless_refused}
use Rattle.rules.specs.Refusals.{first_of, good_shape, whole_words}
use Rattle.rules.specs.Images.{section, sections, block_bytes, used_from, image_of}
use Rattle.rules.specs.Files.{section_in, section_tests, file_of, file_tests, fault_of, roots_of}
use Rattle.rules.specs.Calls.{write_image, open_image}
use Rattle.rules.specs.Planes.{plane_bytes, entry_in, entries_in, spare, spare_free, plane, planes_of, planes}
use Rattle.rules.specs.Runs.{WriteImage, OpenImage, step}
use Rattle.rules.specs.Memory.{Memory, memory, Result, result, filling, with_buffer, AcceptedIn, or_refused, perform}
use Rattle.laws.proofs.Below.{all_bytes, bytes_below}
use Rattle.promises.specs.Files.{BroughtOver, IsImage, Lends}
use Rattle.promises.specs.Determined.{Sized}
use Rattle.promises.proofs.Bytes.{on_bytes, first_at}
use Rattle.promises.specs.Samples.{sample_base, sample_table, sample_pool, sample_memory, sample_roots}
use Rattle.promises.proofs.Whole.{whole}
use Rattle.promises.proofs.OtherT.{one_call}
use Rattle.promises.proofs.RoundTrips.{write_then_open, open_then_write, opens_exactly, one_file}

-- the image, in a buffer that is just long enough
abbrev wrote : Result
wrote = perform (planes 3) (WriteImage sample_base sample_roots 131) [] sample_memory

abbrev image : List ℕ
image = wrote.filled

abbrev longer : List ℕ
longer = image ++ 0 ∷ []

-- memory of those lengths in which every block is MARK and every spare bit is set, and a list with room for three roots
abbrev ones : Memory
ones = memory (replicate 192 255) (replicate 4 255)

abbrev list : List ℕ
list = replicate 12 7

record Computed : Type 0 where
  writes : AcceptedIn wrote
  long : length image ≡ 131
  pool_long : length sample_pool ≡ 192
  roots_long : length sample_roots ≡ 4
  bytes : T (all_bytes image)
  table_bytes_are : T (all_bytes sample_table)
  free : entry_at (entries_in 3 sample_table) 5 ≡ FREE
  held : entry_at (entries_in 3 sample_table) 4 ≡ 2
  word : number (get_or sample_pool 76 0) (get_or sample_pool 77 0) (get_or sample_pool 78 0) (get_or sample_pool 79 0) ≡ 305419896
  -- with one byte more it is refused
  longer_refused : (perform (planes 3) (OpenImage longer 12) [] ones).answer.refusal ≡ 16
  longer_bytes : T (all_bytes longer)

computed : Computed
unfolding count tabulate bit_of bit_at byte_of number bytes_of two_bytes_of first_two word_at with_word entry_of entries_of table_of plane_bytes entry_in entries_in spare spare_free plane planes_of may_follow well_after well_formed used address_of good_base unless_refused first_of good_shape whole_words section sections block_bytes used_from image_of section_in section_tests file_of file_tests fault_of write_image open_image step or_refused perform
computed = record { writes = refl; long = refl; pool_long = refl; roots_long = refl; bytes = tt; table_bytes_are = tt; free = refl; held = refl; word = refl; longer_refused = refl; longer_bytes = tt }

-- ---- written, and opened elsewhere

abbrev opened : Result
opened = perform (planes 3) (OpenImage image (length list)) [] ones

pub brought : BroughtOver 3 sample_base sample_roots sample_memory list (with_buffer list opened)
brought =
    write_then_open 3 sample_base 131 sample_roots list sample_memory ones (bytes_below sample_table computed.table_bytes_are) (sym computed.pool_long) refl refl (omega (arith, computed.roots_long))
    computed.writes

-- a list that has just room for the root will do
pub brought_exactly : BroughtOver 3 sample_base sample_roots sample_memory (replicate 4 7) (with_buffer (replicate 4 7) (perform (planes 3) (OpenImage image 4) [] ones))
brought_exactly =
    write_then_open 3 sample_base 131 sample_roots (replicate 4 7) sample_memory ones (bytes_below sample_table computed.table_bytes_are) (sym computed.pool_long) refl refl
    (omega (arith, computed.roots_long)) computed.writes

-- it answers the base and one root; behind this the list is as it was
pub brought_answer : opened.answer ≡ opened_at sample_base 1
unfolding bytes_of
brought_answer = brought.answer

pub brought_list : (with_buffer list opened).filled ≡ sample_roots ++ replicate 8 7
unfolding bytes_of
brought_list = brought.root_list

-- the last word of the second object, in block 4, is there, and block 5, which is FREE, is zero
pub brought_word : let p = opened.memory.pool in number (get_or p 76 0) (get_or p 77 0) (get_or p 78 0) (get_or p 79 0) ≡ 305419896
brought_word =
    let held : entry_at (entries_in 3 sample_table) 4 ≢ FREE = λ e. omega (arith, e, computed.held) in
    let at = brought.used_bytes 4 held in
    rw (at 12 (omega arith), at 13 (omega arith), at 14 (omega arith), at 15 (omega arith)) computed.word

pub brought_zero : get_or opened.memory.pool 95 0 ≡ 0
brought_zero = brought.free_bytes 5 computed.free 15 (omega arith)

-- ---- and written again, with the one root that it answers

accepted : AcceptedIn opened
accepted = ap (λ (a : Answer). a.refusal) brought_answer

pub written_again : perform (planes 3) (WriteImage sample_base (take 4 (with_buffer list opened).filled) 131) [] opened.memory ≡ filling (written_to 131) opened.memory image
written_again =
    rw (brought_answer, computed.long) at (open_then_write 3 131 image list ones (bytes_below image computed.bytes) accepted (omega (arith, computed.long)))

-- ---- what can be opened

-- the image, since it is one, with a list that has just room for its root
pub opens : AcceptedIn (perform (planes 3) (OpenImage image 4) [] ones)
unfolding plane_bytes
opens =
    (opens_exactly 3 4 image ones (bytes_below image computed.bytes)).1 (
      record {
        base = sample_base;
        roots = sample_roots;
        memory = sample_memory;
        accepted = rw computed.long computed.writes;
        bytes = rw computed.long refl;
        enough = omega (arith, computed.roots_long);
      },
      record { pool = refl; table = refl; words = refl },
    )

-- no heap has the image with one byte more
pub no_image : IsImage 3 12 longer → ⊥
unfolding plane_bytes
no_image x =
    let z = (opens_exactly 3 12 longer ones (bytes_below longer computed.longer_bytes)).1 (x, record { pool = refl; table = refl; words = refl }) in
    omega (arith, z, computed.longer_refused)

-- where the image can be opened there are 192 bytes of a pool
pub pool_lent : (m : Memory) → AcceptedIn (perform (planes 3) (OpenImage image 4) [] m) → length m.pool ≡ 192
pool_lent m z = ((opens_exactly 3 4 image m (bytes_below image computed.bytes)).0 z).1.pool

-- a file that opens as the image does is the image
pub same_file : (file : List ℕ) → AllBytes file → opened ≡ perform (planes 3) (OpenImage file 4) [] ones → image ≡ file
same_file file bytes same = one_file 3 3 (length list) 4 image file ones ones (bytes_below image computed.bytes) bytes accepted same

-- ---- in bytes

-- the list begins with the file's roots, and from place 4 on it is as it was
pub list_front : (with_buffer list opened).filled ≡ roots_of (file_of image) ++ drop (length (roots_of (file_of image))) list
list_front = on_bytes.open_front (planes 3) image list ones accepted

pub list_behind : (length (with_buffer list opened).filled ≡ 12) × (get_or (with_buffer list opened).filled 4 0 ≡ 7)
list_behind = let b = on_bytes.open_behind (planes 3) image list ones in (b.0, b.1 4 (rw (ap (λ (a : Answer). a.roots) brought_answer) (omega arith)))

-- ---- for every heap and every file

-- a heap that is written, opened elsewhere and written again is the same file
pub written_twice : (t base room room' : ℕ) (roots list : List ℕ) (m m' : Memory) → AllBytes m.table
    → length m'.pool ≡ length m.pool → length m'.table ≡ length m.table → length list % 4 ≡ 0 → length roots ≤ length list
    → let w : Result = perform (planes t) (WriteImage base roots room) [] m in
    let r : Result = perform (planes t) (OpenImage w.filled (length list)) [] m' in
    AcceptedIn w → AllBytes w.filled → length w.filled ≤ room'
    → (perform (planes t) (WriteImage base (take (4 * (length roots / 4)) (with_buffer list r).filled) room') [] r.memory).filled ≡ w.filled
written_twice t base room room' roots list m m' table pools tables words enough accepted bytes long =
    let w : Result = perform (planes t) (WriteImage base roots room) [] m in
    let b = write_then_open t base room roots list m m' table pools tables words enough accepted in
    let e = open_then_write t room' w.filled list m' bytes (ap (λ (a : Answer). a.refusal) b.answer) long in
    ap (λ (x : Result). x.filled) (rw b.answer at e)

-- what can be opened can be opened in all memory of those lengths, with a list of whole words that is as long or longer
pub opens_wherever : (t room room' : ℕ) (image : List ℕ) (m m' : Memory) → AllBytes image → room ≤ room' → Lends t room' m'
    → AcceptedIn (perform (planes t) (OpenImage image room) [] m) → AcceptedIn (perform (planes t) (OpenImage image room') [] m')
opens_wherever t room room' image m m' bytes more lends accepted =
    let x = ((opens_exactly t room image m bytes).0 accepted).0 in
    (opens_exactly t room' image m' bytes).1
    (record { base = x.base; roots = x.roots; memory = x.memory; accepted = x.accepted; bytes = x.bytes; enough = omega (arith, x.enough, more) }, lends)

-- files that are not equally long open differently, wherever
pub lengths_tell : (t t' room room' : ℕ) (image image' : List ℕ) (m m' : Memory) → AllBytes image → AllBytes image'
    → AcceptedIn (perform (planes t) (OpenImage image room) [] m) → length image ≢ length image'
    → perform (planes t) (OpenImage image room) [] m ≢ perform (planes t') (OpenImage image' room') [] m'
lengths_tell t t' room room' image image' m m' bytes bytes' accepted other same = other (ap length (one_file t t' room room' image image' m m' bytes bytes' accepted same))

-- a file that opens somewhere opens alike where all was zero
pub zeros_as_well : (t room : ℕ) (image : List ℕ) (m : Memory) → AcceptedIn (perform (planes t) (OpenImage image room) [] m)
    → perform (planes t) (OpenImage image room) [] (memory (replicate (length m.pool) 0) (replicate (length m.table) 0)) ≡ perform (planes t) (OpenImage image room) [] m
zeros_as_well t room image m accepted =
    on_bytes.open_anywhere t image room m _ (sym (length-replicate (length m.pool) 0)) (sym (length-replicate (length m.table) 0)) accepted

-- it leaves pool and table as long as they were, and no spare bit
pub opened_sized : (image : List ℕ) (room : ℕ) (h : Heap) → Sized h (open_image h image room)
unfolding step
opened_sized image room h = whole.sized (OpenImage image room) [] h

pub opened_clean : (t room : ℕ) (image : List ℕ) (m : Memory) → AcceptedIn (perform (planes t) (OpenImage image room) [] m)
    → spare_free t (perform (planes t) (OpenImage image room) [] m).memory.table ≡ true
opened_clean t room image m accepted = on_bytes.clean_after t (OpenImage image room) [] m accepted

-- what is opened has no fault
opened_faultless : (t room : ℕ) (image : List ℕ) (m : Memory) → AcceptedIn (perform (planes t) (OpenImage image room) [] m) → fault_of image ≡ 0
opened_faultless t room image m accepted = go (ℕ_discrete (fault_of image) 0)
  where
    go : Dec (fault_of image ≡ 0) → fault_of image ≡ 0
    go (yes e) = e
    go (no fault) = sym (first_at _ _ _ (on_bytes.number (planes t) (OpenImage image room) [] m) fault) ∙ accepted

-- two files that open in one memory open by one t, and by another a file without a fault is refused by 1
pub opened_by_one_t : (t t' room room' : ℕ) (image image' : List ℕ) (m : Memory) → AcceptedIn (perform (planes t) (OpenImage image room) [] m)
    → AcceptedIn (perform (planes t') (OpenImage image' room') [] m) → t ≡ t'
opened_by_one_t t t' room room' image image' m accepted accepted' =
    on_bytes.one_t t t' (OpenImage image room) (OpenImage image' room') [] [] m (opened_faultless t room image m accepted) (opened_faultless t' room' image' m accepted')
    (λ e. omega (arith, e, accepted)) (λ e. omega (arith, e, accepted'))

pub other_t_refuses : (t t' room : ℕ) (image : List ℕ) (m : Memory) → length m.pool ≡ 64 * t → t' ≢ t → fault_of image ≡ 0
    → perform (planes t') (OpenImage image room) [] m ≡ result (only_refusal 1) m []
other_t_refuses t t' room image m size other faultless = rw faultless at (one_call t t' (OpenImage image room) [] m size other)

-- a refusal, by whichever number, leaves the list
pub refused_list : (f : Form) (image list : List ℕ) (m : Memory) (r : ℕ) → (perform f (OpenImage image (length list)) [] m).answer.refusal ≡ suc r
    → (with_buffer list (perform f (OpenImage image (length list)) [] m)).filled ≡ list
refused_list f image list m r refused = on_bytes.open_refused f image list m (λ z. omega (arith, z, refused))
