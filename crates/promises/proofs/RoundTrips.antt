-- Images on another host: what is written is what is opened, and what is opened is what is written.
-- Assumes nothing.
use mathlib.Core.Path.{◌≡◌, refl, sym, ap, subst, ◌∙◌}
use mathlib.Core.Logic.{◌≢◌}
use mathlib.Core.Bool.{true, not}
use mathlib.Core.List.{List, []}
use Prim.Native.Nat.{ℕ, ◌+◌, ◌*◌, ◌/◌, ◌%◌, ◌≤◌, ◌<◌}
use native.Mathlib.Omega.{arith}
use lib.ListN.{length, get_or, take, drop}
use lib.Seq.{take_at}
use borrow.Author.Tests.{eqb-true, le-ltb}
use Rattle.rules.specs.Entries.{FREE}
use Rattle.rules.specs.Tables.{entry_at, used, well_formed}
use Rattle.laws.specs.Faithful.{Small}
use Rattle.laws.specs.Meaning.{AllBytes, Passed, Accepted}
use Rattle.rules.specs.Outcomes.{Heap, Outcome, opened_at, written_to, fills}
use Rattle.rules.specs.Refusals.{short_buffer}
use Rattle.rules.specs.Images.{used_from, image_of}
use Rattle.rules.specs.Files.{File, root_words, section_in, file_of, entries_for, pool_of, base_of, heap_of_file, roots_of}
use Rattle.rules.specs.Calls.{write_image, open_image}
use Rattle.rules.specs.Planes.{planes}
use Rattle.rules.specs.Runs.{WriteImage, OpenImage, step}
use Rattle.rules.specs.Memory.{Memory, memory, heap_in, lengths_fit, Result, filling, with_buffer, AcceptedIn, perform}
use Rattle.laws.proofs.Refusals.{shape_lengths, first_last, roots_pass}
use Rattle.laws.proofs.Memory.{perform_accepted, passes_in, accepted_sound, follows_accepted}
use Rattle.laws.proofs.Planes.{length_entries_in, planes_faithful}
use Rattle.laws.proofs.Images.{block_at, length_used}
use Rattle.laws.proofs.Files.{length_pool, pool_used, pool_zero}
use Rattle.laws.proofs.Faults.{length_body, no_fault}
use Rattle.laws.proofs.Opening.{Opens, open_passed, open_passes, opened_passed}
use Rattle.laws.proofs.RoundTrips.{file_image, written, image_file, image_entries, image_base, image_faultless}
use Rattle.promises.specs.Files.{WriteThenOpen, OpenThenWrite, IsImage, Lends, OpensExactly, OneFile}
use Rattle.promises.proofs.Checked.{number, acts, no_refusal, image_checked, open_checked}
use Rattle.promises.proofs.Imaging.{passed, filled_is}
use Rattle.promises.proofs.Bytes.{on_bytes, pool_of_is}

-- ---- a heap that was written

module _ (t base room : ℕ) (roots : List ℕ) (m : Memory) (accepted : AcceptedIn (perform (planes t) (WriteImage base roots room) [] m)) where
  abbrev h : Heap
  h = heap_in (planes t) m

  abbrev image : List ℕ
  image = image_of base h roots

  on_heap : Accepted (write_image base h roots room)
  unfolding step
  on_heap = (on_bytes.accepted_bytes (planes t) (WriteImage base roots room) [] m accepted).0

  -- what was written is its image
  filled_image : (perform (planes t) (WriteImage base roots room) [] m).filled ≡ image
  unfolding step
  filled_image = ap (λ (r : Result). r.filled) (on_bytes.accepted_bytes (planes t) (WriteImage base roots room) [] m accepted).1 ∙ filled_is base h roots room on_heap

  good : Passed base h
  good = (passed base h roots room on_heap).0

  whole_words_are : length roots % 4 ≡ 0
  whole_words_are = (passed base h roots room on_heap).1

  few_roots : length roots / 4 ≤ 4096
  few_roots = (passed base h roots room on_heap).2

  fours : length h.entries % 4 ≡ 0
  fours = omega (arith, length_entries_in t m.table)

  small : Small h.entries
  small = (planes_faithful t).small m.table

  file_is : file_of image ≡ written base h roots good.shape small fours whole_words_are few_roots
  file_is = image_file base h roots good.shape small fours whole_words_are few_roots

  base_is : base_of (file_of image) ≡ base
  base_is = ap base_of file_is ∙ image_base base h roots good.shape small fours whole_words_are few_roots

  entries_are : entries_for (file_of image).table ≡ h.entries
  entries_are = ap (λ (f : File). entries_for f.table) file_is ∙ image_entries base h roots good.shape small fours whole_words_are few_roots

  blocks_are : (file_of image).blocks.body ≡ used_from h.pool 0 h.entries
  blocks_are = ap (λ (f : File). f.blocks.body) file_is

  roots_are : roots_of (file_of image) ≡ roots
  roots_are = ap roots_of file_is

  -- it can be opened wherever there is room for it
  opens : (h'' : Heap) (lent : ℕ) → length h''.pool ≡ length h.pool → length h''.entries ≡ length h.entries → lent % 4 ≡ 0 → length roots ≤ lent → Opens h'' image lent
  opens h'' lent pools entries words enough =
      let s = good.shape in
      record {
        faultless = image_faultless base h roots s small fours whole_words_are few_roots;
        shape = rw base_is (shape_lengths base h h'' (sym pools) (sym entries) s);
        long = ap length entries_are ∙ sym entries;
        words = words;
        well = ap well_formed entries_are ∙ good.well;
        enough = rw roots_are enough;
      }

  -- its used blocks in a pool of zeros
  abbrev brought : List ℕ
  brought = pool_of h.entries (used_from h.pool 0 h.entries)

  opened_is : (h'' : Heap) (lent : ℕ) → Opens h'' image lent → open_image h'' image lent ≡ fills (opened_at base (length roots / 4)) (record { pool = brought; entries = h.entries }) roots
  opened_is h'' lent o = acts (open_checked h'' image lent) (number (open_checked h'' image lent) ∙ open_passes h'' image lent o) ∙ rw (base_is, roots_are, entries_are, blocks_are)

  pool_long : length h.pool ≡ 16 * length h.entries
  pool_long = good.shape.pool

  blocks_long : length (used_from h.pool 0 h.entries) ≡ 16 * used h.entries
  blocks_long = length_used h.pool 0 h.entries (omega (arith, pool_long))

  brought_long : length brought ≡ 16 * length h.entries
  brought_long = length_pool h.entries (used_from h.pool 0 h.entries) (omega (arith, blocks_long))

  used_bytes : (k : ℕ) → entry_at h.entries k ≢ FREE → (j : ℕ) → j < 16 → get_or brought (16 * k + j) 0 ≡ get_or h.pool (16 * k + j) 0
  used_bytes k held j l =
      sym (block_at brought k j l) ∙ ap (λ (b : List ℕ). get_or b j 0) (pool_used h.entries h.pool k (omega (arith, pool_long)) held) ∙ block_at h.pool k j l

  free_bytes : (k : ℕ) → entry_at h.entries k ≡ FREE → (j : ℕ) → j < 16 → get_or brought (16 * k + j) 0 ≡ 0
  free_bytes k free j l = pool_zero h.entries (used_from h.pool 0 h.entries) k j (omega (arith, blocks_long)) free l

  module _ (m' : Memory) (pools : length m'.pool ≡ length m.pool) (tables : length m'.table ≡ length m.table) (lent : ℕ) (words : lent % 4 ≡ 0) (enough : length roots ≤ lent) where
    opens_there : Opens (heap_in (planes t) m') image lent
    opens_there = opens (heap_in (planes t) m') lent pools (length_entries_in t m'.table ∙ sym (length_entries_in t m.table)) words enough

    opened_there : perform (planes t) (OpenImage image lent) [] m' ≡ filling (opened_at base (length roots / 4)) (memory brought ((planes t).write h.entries)) roots
    unfolding step
    opened_there =
        let fits : lengths_fit (planes t) m' ≡ true = rw tables (passes_in (planes t) (WriteImage base roots room) [] m accepted).fits in
        let e = opened_is (heap_in (planes t) m') lent opens_there in
        perform_accepted (planes t) (OpenImage image lent) [] m' fits refl (ap (λ (o : Outcome). o.answer.refusal) e) ∙ rw e

pub write_then_open : WriteThenOpen
write_then_open t base room roots list m m' bytes pools tables words enough accepted =
    let s = accepted_sound (planes t) (WriteImage base roots room) [] m refl accepted in
    let there = opened_there t base room roots m accepted m' pools tables (length list) words enough in
    rw (filled_image t base room roots m accepted, there)
    (record {
      answer = refl;
      table = (planes_faithful t).write_read m.table bytes s.fits s.clean;
      size = brought_long t base room roots m accepted ∙ sym (pool_long t base room roots m accepted);
      used_bytes = used_bytes t base room roots m accepted;
      free_bytes = free_bytes t base room roots m accepted;
      root_list = refl;
    })

-- ---- a file that was opened

module _ (t lent : ℕ) (image : List ℕ) (m : Memory) (file_bytes : AllBytes image) (accepted : AcceptedIn (perform (planes t) (OpenImage image lent) [] m)) where
  abbrev f : File
  f = file_of image

  abbrev r : Result
  r = perform (planes t) (OpenImage image lent) [] m

  on_file : Accepted (open_image (heap_in (planes t) m) image lent)
  unfolding step
  on_file = (on_bytes.accepted_bytes (planes t) (OpenImage image lent) [] m accepted).0

  opening : Opens (heap_in (planes t) m) image lent
  opening = open_passed (heap_in (planes t) m) image lent (no_refusal (open_checked (heap_in (planes t) m) image lent) on_file)

  -- its answer and its roots, and the heap that the memory then holds
  result_is : r ≡ filling (opened_at (base_of f) (length (roots_of f) / 4)) (memory (heap_of_file f).pool ((planes t).write (heap_of_file f).entries)) (roots_of f)
  unfolding step
  result_is = (on_bytes.accepted_bytes (planes t) (OpenImage image lent) [] m accepted).1 ∙ rw (acts (open_checked (heap_in (planes t) m) image lent) on_file)

  heap_is : heap_in (planes t) r.memory ≡ heap_of_file f
  unfolding step
  heap_is = (follows_accepted (planes t) (planes_faithful t) (OpenImage image lent) [] m accepted).heap ∙ ap (λ (o : Outcome). o.heap) (acts (open_checked (heap_in (planes t) m) image lent) on_file)

  root_words_are : length (roots_of f) ≡ 4 * f.roots.count
  unfolding file_of section_in
  root_words_are = length_body root_words f.blocks.rest opening.faultless.roots

  few_words : f.roots.count ≤ 4096
  unfolding file_of section_in
  few_words = opening.faultless.roots.most

  abbrev after : Heap
  after = heap_in (planes t) r.memory

  image_is : image_of (base_of f) after (roots_of f) ≡ image
  image_is = ap (λ (h : Heap). image_of (base_of f) h (roots_of f)) heap_is ∙ file_image image file_bytes opening.faultless

  -- a buffer that is long enough is not refused
  writes_fine : (room : ℕ) → length image ≤ room → Accepted (write_image (base_of f) after (roots_of f) room)
  writes_fine room long =
      let good = subst (Passed (base_of f)) (sym heap_is) (opened_passed (heap_in (planes t) m) image lent opening) in
      number (image_checked (base_of f) after (roots_of f) room) ∙ roots_pass (base_of f) after (roots_of f) _ good (omega (arith, root_words_are)) (omega (arith, root_words_are, few_words))
      ∙ first_last (short_buffer room (image_of (base_of f) after (roots_of f))) (le-ltb room _ (omega (arith, ap length image_is, long)))

  -- it is written again
  writes : (room : ℕ) → length image ≤ room → perform (planes t) (WriteImage (base_of f) (roots_of f) room) [] r.memory ≡ filling (written_to (length image)) r.memory image
  unfolding step
  writes room long =
      let x = follows_accepted (planes t) (planes_faithful t) (OpenImage image lent) [] m accepted in
      let s = x.sound accepted in
      let fine = writes_fine room long in
      perform_accepted (planes t) (WriteImage (base_of f) (roots_of f) room) [] r.memory s.fits (ap not s.clean) fine
      ∙ rw (acts (image_checked (base_of f) after (roots_of f) room) fine, image_is, ← x.written accepted)

  base_answered : r.answer.base ≡ base_of f
  base_answered = ap (λ (x : Result). x.answer.base) result_is

  -- as many roots from the front of the list as were answered are the file's
  roots_front : (list : List ℕ) → take (4 * r.answer.roots) (with_buffer list r).filled ≡ roots_of f
  roots_front list = rw result_is (take_at (roots_of f) (drop (length (roots_of f)) list) (4 * (length (roots_of f) / 4)) (omega (arith, root_words_are)))

  is_image : IsImage t lent image
  is_image =
      let w = writes (length image) (omega arith) in
      record {
        base = base_of f;
        roots = roots_of f;
        memory = r.memory;
        accepted = ap (λ (x : Result). x.answer.refusal) w;
        bytes = ap (λ (x : Result). x.filled) w;
        enough = opening.enough;
      }

pub open_then_write : OpenThenWrite
open_then_write t room image list m bytes accepted long =
    rw (roots_front t (length list) image m bytes accepted list, base_answered t (length list) image m bytes accepted) (writes t (length list) image m bytes accepted room long)

-- what was lent for it has the lengths that t asks for
lends : (t room : ℕ) (image : List ℕ) (m : Memory) → AllBytes image → AcceptedIn (perform (planes t) (OpenImage image room) [] m) → Lends t room m
lends t room image m bytes accepted =
    let o = opening t room image m bytes accepted in
    record {
      pool = pool_of_is t (OpenImage image room) [] m (no_fault image o.faultless) (λ e. omega (arith, e, accepted));
      table = eqb-true _ _ (passes_in (planes t) (OpenImage image room) [] m accepted).fits;
      words = o.words;
    }

pub opens_exactly : OpensExactly
opens_exactly t room image m bytes = (λ accepted. (is_image t room image m bytes accepted, lends t room image m bytes accepted), λ given. opens_again given.0 given.1)
  where
    opens_again : IsImage t room image → Lends t room m → AcceptedIn (perform (planes t) (OpenImage image room) [] m)
    opens_again x lent =
        let size = pool_of_is t (WriteImage x.base x.roots (length image)) [] x.memory refl (λ e. omega (arith, e, x.accepted)) in
        let fits = eqb-true _ _ (passes_in (planes t) (WriteImage x.base x.roots (length image)) [] x.memory x.accepted).fits in
        let e = sym (filled_image t x.base (length image) x.roots x.memory x.accepted) ∙ x.bytes in
        subst (λ (file : List ℕ). AcceptedIn (perform (planes t) (OpenImage file room) [] m)) e
        (ap (λ (r : Result). r.answer.refusal) (opened_there t x.base (length image) x.roots x.memory x.accepted m (lent.pool ∙ sym size) (lent.table ∙ sym fits) room lent.words x.enough))

-- the memory, base and roots of a result, written
abbrev written_from : ℕ → ℕ → Result → Result
written_from t room r = perform (planes t) (WriteImage r.answer.base r.filled room) [] r.memory

module _ (t lent room : ℕ) (image : List ℕ) (m : Memory) (bytes : AllBytes image) (accepted : AcceptedIn (perform (planes t) (OpenImage image lent) [] m)) (long : length image ≤ room) where
  abbrev opened_file : Result
  opened_file = perform (planes t) (OpenImage image lent) [] m

  same_file : written_from t room opened_file ≡ filling (written_to (length image)) opened_file.memory image
  same_file = rw (base_answered t lent image m bytes accepted, ap (λ (x : Result). x.filled) (result_is t lent image m bytes accepted)) (writes t lent image m bytes accepted room long)

  size_is : length opened_file.memory.pool ≡ 64 * t
  size_is =
      pool_of_is t (WriteImage opened_file.answer.base opened_file.filled room) [] opened_file.memory refl (λ e. omega (arith, e, ap (λ (x : Result). x.answer.refusal) same_file))

pub one_file : OneFile
one_file t t' room room' image image' m m' bytes bytes' accepted same =
    let accepted' = subst AcceptedIn same accepted in
    let r' : Result = perform (planes t') (OpenImage image' room') [] m' in
    let both = length image + length image' in
    let sizes = ap (λ (x : Result). length x.memory.pool) same in
    let one_t : t ≡ t' = omega (arith, sizes, size_is t room both image m bytes accepted (omega arith), size_is t' room' both image' m' bytes' accepted' (omega arith)) in
    ap (λ (x : Result). x.filled) (sym (same_file t room both image m bytes accepted (omega arith))) ∙ ap (λ (x : Result). (written_from t both x).filled) same
    ∙ ap (λ (n : ℕ). (written_from n both r').filled) one_t ∙ ap (λ (x : Result). x.filled) (same_file t' room' both image' m' bytes' accepted' (omega arith))
