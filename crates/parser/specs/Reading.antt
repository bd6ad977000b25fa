-- What is read of a section, and what of a file.
-- Assumes nothing.
use Rattle.std.specs.Prelude.{◌≡◌, List, ℕ, ◌+◌, ◌*◌, ◌≤◌, ◌<◌, length, take, drop, Result, IfOk}
use Rattle.rules.specs.Words.{first_two}
use Rattle.rules.specs.Tables.{used}
use Rattle.rules.specs.Refusals.{first_of}
use Rattle.rules.specs.Files.{Kind as KindOf, section_tests, file_of, entries_for, base_of}
use Rattle.refusals.specs.declared.Refusal.{Refusal}
use Rattle.refusals.specs.Codes.{code, refused_by}
use Rattle.parser.specs.declared.Kind.{Kind}
use Rattle.parser.specs.declared.Section.{Section}
use Rattle.parser.specs.declared.File.{File}

-- the kind of a section, as the rules have it
abbrev pub kind_by : Kind → KindOf
kind_by k = record { size = k.size; fewest = k.fewest; most = k.most; wrong = code k.wrong }

-- its numbers are small, and a wrong count is a fault
pub record Small (k : KindOf) : Type 0 where
  pub size : k.size ≤ 16
  pub most : k.most ≤ 4096
  pub wrong : 0 < k.wrong

-- of the section from `at` on: its first fault; if there is none, its count and the place behind it
pub record Reads (image : List ℕ) (at : ℕ) (k : KindOf) (r : Result Section Refusal) : Type 0 where
  pub fault : refused_by r ≡ first_of (section_tests k (drop at image))
  pub count : IfOk r (λ s. s.count ≡ first_two (drop at image))
  pub end : IfOk r (λ s. s.end ≡ at + 2 + k.size * s.count)

-- of a file without a fault: its numbers, and the places of what it holds
pub record Says (image : List ℕ) (r : File) : Type 0 where
  pub base : r.base ≡ base_of (file_of image)
  -- the table has t bytes, four blocks to each
  pub t : r.t ≡ (file_of image).table.count
  pub table : (file_of image).table.body ≡ take r.t (drop 8 image)
  -- then the used blocks
  pub used : r.used ≡ used (entries_for (file_of image).table)
  pub blocks : (file_of image).blocks.body ≡ take (16 * r.used) (drop (10 + r.t) image)
  -- then the roots
  pub roots : r.roots ≡ (file_of image).roots.count
  pub few_roots : r.roots ≤ 4096
  pub words : (file_of image).roots.body ≡ take (4 * r.roots) (drop (12 + r.t + 16 * r.used) image)
  -- and nothing else
  pub long : length image ≡ 12 + r.t + 16 * r.used + 4 * r.roots
