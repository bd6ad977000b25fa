-- The sections of an image, as the code stores them one behind the other.
-- Assumes nothing.
use mathlib.Core.Path.{◌≡◌, refl, ◌∙◌}
use mathlib.Core.List.{List, [], ◌++◌}
use Prim.Native.Nat.{ℕ, ◌+◌, ◌/◌}
use native.Mathlib.Omega.{arith}
use lib.ListN.{length, length-append}
use lib.Seq.{sets}
use Rattle.rules.specs.Words.{bytes_of, two_bytes_of}
use Rattle.rules.specs.Entries.{table_of}
use Rattle.rules.specs.Tables.{used}
use Rattle.rules.specs.Outcomes.{Heap}
use Rattle.rules.specs.Images.{section, sections, used_from, image_of}
use Rattle.laws.proofs.Lists.{sets_next}
use Rattle.laws.proofs.Images.{length_section}

-- the image begins with `front`, which is n bytes, and behind it is as it was
pub record Begins (image₀ front image : List ℕ) (n : ℕ) : Type 0 where
  pub long : length front ≡ n
  pub same : image ≡ sets image₀ 0 front

-- at first with nothing
pub begins_empty : (image : List ℕ) → Begins image [] image 0
begins_empty image = record { long = refl; same = refl }

-- a section more: its count is stored behind the others, and its bytes behind the count
pub section_next : (count : ℕ) (body : List ℕ) {image₀ front image counted filled : List ℕ} {n at to number m : ℕ} → Begins image₀ front image n
    → counted ≡ sets image at (two_bytes_of number) → filled ≡ sets counted to body → at ≡ n → to ≡ n + 2 → number ≡ count → n + 2 + length body ≡ m
    → Begins image₀ (front ++ section count body) filled m
unfolding section two_bytes_of
section_next count body {image₀} {front} {n = n} b counts fills here behind is-count long =
    rw (fills, counts, b.same, here, behind, is-count) record {
      long = omega (arith, length-append front (section count body), length_section count body, b.long, long);
      same = sets_next (sets image₀ 0 front) n (n + 2) (two_bytes_of count) body refl ∙ sets_next image₀ 0 n front (two_bytes_of count ++ body) (omega (arith, b.long));
    }

-- the four of them are the image
pub all_sections : (base : ℕ) (h : Heap) (roots image₀ image : List ℕ) (m : ℕ)
    → Begins image₀ (section 1 (bytes_of base) ++ section (length h.entries / 4) (table_of h.entries) ++ section (used h.entries) (used_from h.pool 0 h.entries) ++ section (length roots / 4) roots) image m
    → image ≡ sets image₀ 0 (image_of base h roots)
unfolding image_of sections
all_sections base h roots image₀ image m b = b.same
