-- An image that is written: it leaves the heap, it fits its buffer, and where its bytes lie.
-- Assumes nothing.
use mathlib.Core.Path.{◌≡◌, refl, ap, ◌∙◌}
use mathlib.Core.Logic.{◌≢◌}
use mathlib.Core.List.{List, [], ◌∷◌}
use Prim.Native.Nat.{ℕ, suc, ◌+◌, ◌*◌, ◌/◌, ◌%◌, ◌≤◌, ◌<◌}
use native.Mathlib.Omega.{arith}
use lib.ListN.{length, get_or, take}
use borrow.Author.Tests.{ltb-false}
use Rattle.rules.specs.Words.{bytes_of}
use Rattle.rules.specs.Entries.{FREE, table_of}
use Rattle.rules.specs.Tables.{entry_at, used}
use Rattle.laws.specs.Meaning.{Passed, Accepted}
use Rattle.rules.specs.Outcomes.{Heap, Outcome}
use Rattle.rules.specs.Refusals.{first_of, short_buffer}
use Rattle.rules.specs.Images.{section, used_from, image_of}
use Rattle.rules.specs.Calls.{write_image}
use Rattle.laws.proofs.Refusals.{first_none, roots_passed}
use Rattle.laws.proofs.Entries.{get_d_table_of}
use Rattle.laws.proofs.Tables.{used_le}
use Rattle.laws.proofs.Images.{used_at, used_before, length_image, section_low, section_high, section_body, in_base, in_table, in_blocks, in_roots}
use Rattle.promises.specs.Promises.{byte_at, Count, packed_byte, Imaged}
use Rattle.promises.proofs.Checked.{acts, no_refusal, image_checked}
use Rattle.promises.proofs.Storing.{same_heap}

module _ (base : ℕ) (h : Heap) (roots : List ℕ) (room : ℕ) where
  abbrev image : List ℕ
  image = image_of base h roots

  pub image_leaves : (write_image base h roots room).heap ≡ h
  image_leaves = ap (λ (r : Outcome). r.heap) (image_checked base h roots room).is ∙ same_heap _ h _ refl

  module _ (accepted : Accepted (write_image base h roots room)) where
    pub passed : Passed base h × (length roots % 4 ≡ 0) × (length roots / 4 ≤ 4096) × (first_of (short_buffer room image ∷ []) ≡ 0)
    passed = roots_passed base h roots (short_buffer room image ∷ []) (no_refusal (image_checked base h roots room) accepted)

    pub filled_is : (write_image base h roots room).filled ≡ image
    filled_is = ap (λ (r : Outcome). r.filled) (acts (image_checked base h roots room) accepted)

    -- it answers how much it wrote, for which there was room
    pub image_fits : ((write_image base h roots room).answer.length ≡ length (write_image base h roots room).filled) × (length (write_image base h roots room).filled ≤ room)
    image_fits =
        rw (acts (image_checked base h roots room) accepted)
        (refl, ltb-false room (length image) (first_none (short_buffer room image) [] (omega arith) passed.3).0)

    abbrev t : ℕ
    t = length h.entries / 4

    abbrev u : ℕ
    u = used h.entries

    long : length h.pool ≡ 16 * length h.entries
    long = passed.0.shape.pool

    -- a section of n that lies at a place has its count there
    count_at : (at n : ℕ) (body : List ℕ) → n < 65536 → ((i : ℕ) → i < 2 → get_or image (at + i) 0 ≡ get_or (section n body) i 0) → Count image at n
    count_at at n body few lies =
        let low : at ≡ at + 0 = omega arith in
        let high : suc at ≡ at + 1 = omega arith in
        let top : n / 256 ≡ n / 256 % 256 = omega arith in
        (rw low (lies 0 (omega arith) ∙ section_low n body), rw (high, top) (lies 1 (omega arith) ∙ section_high n body))

    base_count : Count image 0 1
    base_count = count_at 0 1 (bytes_of base) (omega arith) (λ i l. let here : 0 + i ≡ i = omega arith in rw here (in_base base h roots long i (omega arith)))

    base_bytes : (j : ℕ) → j < 4 → get_or image (2 + j) 0 ≡ get_or (bytes_of base) j 0
    base_bytes j l = in_base base h roots long (2 + j) (omega arith) ∙ section_body 1 (bytes_of base) j

    table_count_is : Count image 6 t
    table_count_is = count_at 6 t (table_of h.entries) (omega (arith, passed.0.shape.few)) (λ i l. in_table base h roots long i (omega arith))

    table_bytes_are : (i : ℕ) → i < t → get_or image (8 + i) 0 ≡ packed_byte h i
    table_bytes_are i l =
        let e : 8 + i ≡ 6 + (2 + i) = omega arith in
        rw e (in_table base h roots long (2 + i) (omega arith) ∙ section_body t (table_of h.entries) i ∙ get_d_table_of h.entries i (omega arith))

    block_count_is : Count image (8 + t) u
    block_count_is =
        count_at (8 + t) u (used_from h.pool 0 h.entries) (omega (arith, used_le h.entries, passed.0.shape.few)) (λ i l. in_blocks base h roots long i (omega arith))

    block_bytes : (k : ℕ) → entry_at h.entries k ≢ FREE → (j : ℕ) → j < 16 → get_or image (10 + t + 16 * used (take k h.entries) + j) 0 ≡ byte_at h (16 * k + j)
    block_bytes k some j l =
        let n : ℕ = used (take k h.entries) in
        let e : 10 + t + 16 * n + j ≡ 8 + t + (2 + (16 * n + j)) = omega arith in
        let here : 0 + k ≡ k = omega arith in
        rw e
        (in_blocks base h roots long (2 + (16 * n + j)) (omega (arith, used_before h.entries k some)) ∙ section_body u (used_from h.pool 0 h.entries) (16 * n + j)
        ∙ rw here at (used_at h.pool 0 h.entries k j (omega (arith, long)) some l))

    root_count_is : Count image (10 + t + 16 * u) (length roots / 4)
    root_count_is = count_at (10 + t + 16 * u) (length roots / 4) roots (omega (arith, passed.2)) (λ i l. in_roots base h roots long i)

    root_bytes : (i : ℕ) → i < length roots → get_or image (12 + t + 16 * u + i) 0 ≡ get_or roots i 0
    root_bytes i l =
        let e : 12 + t + 16 * u + i ≡ 10 + t + 16 * u + (2 + i) = omega arith in
        rw e (in_roots base h roots long (2 + i) ∙ section_body (length roots / 4) roots i)

    pub imaged : Imaged base h roots t u (write_image base h roots room)
    imaged =
        rw (acts (image_checked base h roots room) accepted)
        (record {
          answered = refl;
          long = length_image base h roots long;
          base_count = base_count;
          base_bytes = base_bytes;
          table_count_is = table_count_is;
          table_bytes_are = table_bytes_are;
          block_count_is = block_count_is;
          block_bytes = λ k held j l. block_bytes k held j (omega (arith, l));
          root_count_is = root_count_is;
          root_bytes = root_bytes;
        })
