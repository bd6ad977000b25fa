-- An image says exactly what is allocated in its heap: each part is read off at its place, and no other part is written.
-- Assumes nothing.
use mathlib.Core.Path.{◌≡◌, sym, ap, subst, ◌∙◌}
use mathlib.Core.Logic.{◌≢◌}
use mathlib.Core.List.{List, []}
use Prim.Native.Nat.{ℕ, ◌+◌, ◌*◌, ◌/◌, ◌%◌, ◌^◌, ◌<◌}
use native.Mathlib.Omega.{arith}
use lib.ListN.{length, get_or, take}
use lib.Seq.{ext_get_or}
use Rattle.rules.specs.Words.{bytes_of}
use Rattle.rules.specs.Entries.{FREE, entries_of, table_of}
use Rattle.rules.specs.Tables.{entry_at, used}
use Rattle.laws.specs.Faithful.{Small}
use Rattle.laws.specs.Meaning.{Accepted}
use Rattle.rules.specs.Outcomes.{Heap}
use Rattle.rules.specs.Planes.{planes}
use Rattle.rules.specs.Images.{image_of}
use Rattle.rules.specs.Calls.{write_image}
use Rattle.rules.specs.Runs.{WriteImage, step}
use Rattle.rules.specs.Memory.{heap_in, Result}
use Rattle.laws.proofs.Words.{number_bytes_of}
use Rattle.laws.proofs.Entries.{length_table_of, get_d_table_of, entries_of_table_of}
use Rattle.laws.proofs.Matching.{Matching}
use Rattle.laws.proofs.Twice.{image_same}
use Rattle.laws.proofs.Planes.{length_entries_in, planes_faithful}
use Rattle.promises.specs.Promises.{Imaged}
use Rattle.promises.specs.Images.{SameAllocated, ImageSaysAll}
use Rattle.promises.proofs.Imaging.{passed, filled_is}
use Rattle.promises.proofs.Promised.{promises}
use Rattle.promises.proofs.Bytes.{on_bytes}

-- its four bytes tell a number
bytes_same : (a b : ℕ) → a < 2 ^ 32 → b < 2 ^ 32 → ((j : ℕ) → j < 4 → get_or (bytes_of a) j 0 ≡ get_or (bytes_of b) j 0) → a ≡ b
unfolding bytes_of
bytes_same a b la lb same = sym (number_bytes_of a la) ∙ rw (same 0 (omega arith), same 1 (omega arith), same 2 (omega arith), same 3 (omega arith)) (number_bytes_of b lb)

-- the packed bytes tell the entries, whose number is a multiple of four
entries_same : (es fs : List ℕ) (t : ℕ) → length es ≡ 4 * t → length fs ≡ 4 * t → Small es → Small fs → ((i : ℕ) → i < t → get_or (table_of es) i 0 ≡ get_or (table_of fs) i 0) → es ≡ fs
entries_same es fs t le lf small small' same =
    let e : table_of es ≡ table_of fs = ext_get_or 0 (table_of es) (table_of fs) (length_table_of es ∙ omega (arith, length_table_of fs)) (λ i l. same i (omega (arith, length_table_of es))) in
    sym (entries_of_table_of es (omega arith) small) ∙ ap entries_of e ∙ entries_of_table_of fs (omega arith) small'

-- two images that are written of heaps
module _ (base base' room room' : ℕ) (roots roots' : List ℕ) (h h'' : Heap) (z : Accepted (write_image base h roots room)) (z' : Accepted (write_image base' h'' roots' room')) where
  abbrev image : List ℕ
  image = (write_image base h roots room).filled

  abbrev image' : List ℕ
  image' = (write_image base' h'' roots' room').filled

  abbrev es : List ℕ
  es = h.entries

  abbrev es' : List ℕ
  es' = h''.entries

  said : Imaged base h roots (length es / 4) (used es) (write_image base h roots room)
  said = promises.imaged base h roots room z

  said' : Imaged base' h'' roots' (length es' / 4) (used es') (write_image base' h'' roots' room')
  said' = promises.imaged base' h'' roots' room' z'

  -- they are the same
  module _ (same : image ≡ image') where
    at : (i : ℕ) → get_or image i 0 ≡ get_or image' i 0
    at i = ap (λ (bytes : List ℕ). get_or bytes i 0) same

    base_same : base ≡ base'
    base_same =
        let s = (passed base h roots room z).0.shape in
        let s' = (passed base' h'' roots' room' z').0.shape in
        bytes_same base base' (omega (arith, s.below, s.some)) (omega (arith, s'.below, s'.some)) (λ j l. sym (said.base_bytes j l) ∙ at (2 + j) ∙ said'.base_bytes j l)

    blocks_same : length es / 4 ≡ length es' / 4
    blocks_same =
        let low = sym said.table_count_is.0 ∙ at 6 ∙ said'.table_count_is.0 in
        let high = sym said.table_count_is.1 ∙ at 7 ∙ said'.table_count_is.1 in
        omega (arith, low, high)

    -- the table's bytes
    table_same : (i : ℕ) → i < length es / 4 → get_or (table_of es) i 0 ≡ get_or (table_of es') i 0
    table_same i l =
        get_d_table_of es i (omega arith) ∙ sym (said.table_bytes_are i l) ∙ at (8 + i) ∙ said'.table_bytes_are i (omega (arith, blocks_same)) ∙ sym (get_d_table_of es' i (omega (arith, blocks_same)))

    module _ (e : es ≡ es') where
      roots_same : roots ≡ roots'
      roots_same =
          ext_get_or 0 roots roots' long
          (λ i l. sym (said.root_bytes i l) ∙ at (12 + length es / 4 + 16 * used es + i) ∙ ap (λ (es : List ℕ). get_or image' (12 + length es / 4 + 16 * used es + i) 0) e
          ∙ said'.root_bytes i (omega (arith, long)))
        where
          long : length roots ≡ length roots'
          long =
              let u : used es ≡ used es' = ap used e in
              omega (arith, blocks_same, u, said.long, said'.long, ap (λ (bytes : List ℕ). length bytes) same)

      allocated_same : SameAllocated h h''
      allocated_same = record {
        entries = e;
        bytes = λ k held j l.
            sym (said.block_bytes k held j (omega (arith, l))) ∙ at (10 + length es / 4 + 16 * used (take k es) + j)
            ∙ ap (λ (es : List ℕ). get_or image' (10 + length es / 4 + 16 * used (take k es) + j) 0) e
            ∙ said'.block_bytes k (subst (λ (es : List ℕ). entry_at es k ≢ FREE) e held) j (omega (arith, l));
      }

  -- what is allocated is the same: the pools match
  pub pools_match : SameAllocated h h'' → Matching es h.pool h''.pool
  pools_match allocated = record {
    long =
        let n : length es ≡ length es' = ap (λ (es : List ℕ). length es) allocated.entries in
        omega (arith, n, (passed base h roots room z).0.shape.pool, (passed base' h'' roots' room' z').0.shape.pool);
    bytes = λ i held. let e : 16 * (i / 16) + i % 16 ≡ i = omega arith in rw e at (allocated.bytes (i / 16) held (i % 16) (omega arith));
  }

  -- so the images are
  same_image : base ≡ base' → roots ≡ roots' → SameAllocated h h'' → image ≡ image'
  same_image eb er allocated =
      filled_is base h roots room z
      ∙ ap (λ (b : ℕ). image_of b h roots) eb ∙ ap (image_of base' h) er
      ∙ image_same base' es h.pool h''.pool (pools_match allocated) roots'
      ∙ ap (λ (es : List ℕ). image_of base' (record { pool = h''.pool; entries = es }) roots') allocated.entries
      ∙ sym (filled_is base' h'' roots' room' z')

pub image_says_all : ImageSaysAll
unfolding step
image_says_all t t' base base' room room' roots roots' m m' z z' =
    let a = on_bytes.accepted_bytes (planes t) (WriteImage base roots room) [] m z in
    let a' = on_bytes.accepted_bytes (planes t') (WriteImage base' roots' room') [] m' z' in
    let w = ap (λ (r : Result). r.filled) a.1 in
    let w' = ap (λ (r : Result). r.filled) a'.1 in (
      λ same. all a.0 a'.0 (sym w ∙ same ∙ w'),
      λ (_, eb, er, allocated). w ∙ same_image base base' room room' roots roots' (heap_in (planes t) m) (heap_in (planes t') m') a.0 a'.0 eb er allocated ∙ sym w',
    )
  where
    h : Heap
    h = heap_in (planes t) m

    h'' : Heap
    h'' = heap_in (planes t') m'

    all : (x : Accepted (write_image base h roots room)) (x' : Accepted (write_image base' h'' roots' room'))
        → (write_image base h roots room).filled ≡ (write_image base' h'' roots' room').filled → (t ≡ t') × (base ≡ base') × (roots ≡ roots') × SameAllocated h h''
    all x x' same =
        let n = length_entries_in t m.table in
        let n' = length_entries_in t' m'.table in
        let b = blocks_same base base' room room' roots roots' h h'' x x' same in
        let e : h.entries ≡ h''.entries =
        entries_same h.entries h''.entries t n (omega (arith, n, n', b)) ((planes_faithful t).small m.table) ((planes_faithful t').small m'.table)
        (λ i l. table_same base base' room room' roots roots' h h'' x x' same i (omega (arith, n))) in (
          omega (arith, n, n', b),
          base_same base base' room room' roots roots' h h'' x x' same,
          roots_same base base' room room' roots roots' h h'' x x' same e,
          allocated_same base base' room room' roots roots' h h'' x x' same e,
        )
