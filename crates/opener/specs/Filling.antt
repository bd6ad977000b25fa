-- A file without a fault and what is lent for it: the tests of both, and what the lent memory becomes.
-- Assumes nothing.
use Rattle.std.specs.Prelude.{◌≡◌, List, [], ◌∷◌, ℕ, ◌*◌, ◌≤◌, length}
use Rattle.std.proofs.lemmas.List.Edits.{sets}
use Rattle.rules.specs.Tests.{both}
use Rattle.rules.specs.Refusals.{Test, bad_shape, ill_formed, short_roots}
use Rattle.rules.specs.Planes.{planes, Sized, Holds, heap_at}
use Rattle.rules.specs.Files.{file_of, entries_for, heap_of_file, roots_of}
use Rattle.rules.specs.Calls.{good_target}
use Rattle.parser.specs.declared.File.{File}
use Rattle.parser.specs.Reading.{Says}

-- 1 2 17, where the root list has `room` bytes: 1 is also a table of another length
abbrev pub lent_tests : ℕ → List ℕ → List ℕ → List ℕ → ℕ → List Test
lent_tests t image pool table room =
    bad_shape (both (good_target (file_of image) (heap_at t pool table) room) ((planes t).fits table))
    ∷ ill_formed (heap_of_file (file_of image))
    ∷ short_roots room (roots_of (file_of image))
    ∷ []

-- the file and what is lent suit each other
pub record Suits (image : List ℕ) (file : File) (t : ℕ) (pool table roots : List ℕ) : Type 0 where
  pub says : Says image file
  pub bytes : file.t ≡ t
  pub sized : Sized t table
  pub whole : length pool ≡ 64 * t
  pub room : 4 * file.roots ≤ length roots

-- what was lent is now what the file says
pub record Filled (image : List ℕ) (t : ℕ) (roots₀ pool table roots : List ℕ) : Type 0 where
  pub entries : Holds t (entries_for (file_of image).table) table
  pub blocks : pool ≡ (heap_of_file (file_of image)).pool
  pub words : roots ≡ sets roots₀ 0 (roots_of (file_of image))
