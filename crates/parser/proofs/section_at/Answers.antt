-- `section_at`: one law for each way out.
-- Assumes nothing.
use mathlib.Core.Path.{◌≡◌, refl, sym, ◌∙◌}
use mathlib.Core.Bool.{true, false}
use mathlib.Core.List.{List}
use Prim.Native.Nat.{ℕ, ◌+◌, ◌-◌, ◌*◌, ◌≤◌, ◌<◌}
use native.Mathlib.Nat.{mul-le-mul}
use native.Mathlib.Omega.{arith}
use lib.Dec.{leb}
use lib.ListN.{length, drop, length-drop}
use borrow.Author.Rules.{rules}
use borrow.Author.Tests.{leb-true}
use Rattle.std.specs.Prelude.{Ok, Err}
use Rattle.rules.specs.Words.{first_two}
use Rattle.rules.specs.Refusals.{first_of}
use Rattle.rules.specs.Files.{Kind, section_tests}
use Rattle.laws.proofs.Refusals.{both_left, both_right}
use Rattle.laws.proofs.Faults.{whole_section}
use Rattle.laws.proofs.Sections.{right_count, count_cut, count_wrong, body_cut}
use Rattle.laws.proofs.Widths.{in_32_bits, in_slice}
use Rattle.refusals.specs.declared.Refusal.{Refusal}
use Rattle.refusals.specs.declared.Refusal.TheVariants.{ImageTruncated}
use Rattle.refusals.specs.Codes.{code}
use Rattle.parser.specs.Reading.{kind_by, Small, Reads}
use Rattle.parser.proofs.section_at.Goals as goal
use Rattle.parser.proofs.section_at.Goals.{After-allows}

-- what is counted, and all of its bytes, are few
few : (k : Kind) (bs : List ℕ) {n : ℕ} → Small k → right_count k bs ≡ true → n ≡ first_two bs → k.size * n ≤ 65536
few k bs s right count = mul-le-mul {m₂ = 4096} s.size (omega (arith, s.most, leb-true (first_two bs) k.most (both_right (leb k.fewest (first_two bs)) _ right), count))

module _ (image : List ℕ) (at : ℕ) (k : Kind) where
  abbrev bs : List ℕ
  bs = drop at image

  -- a fault
  faulty : (fault : Refusal) → code fault ≡ first_of (section_tests k bs) → Reads image at k (Err fault)
  faulty fault q = record { fault = q; count = tt; end = tt }

  cut : length image - at < 2 → Reads image at k (Err ImageTruncated)
  cut l = faulty ImageTruncated (count_cut k bs (rw length-drop l))

  module _ (counts : 2 ≤ length image - at) where
    wrong : (fault : Refusal) → code fault ≡ k.wrong → right_count k bs ≡ false → Reads image at k (Err fault)
    wrong fault e w = faulty fault (e ∙ count_wrong k bs (rw length-drop counts) w)

    module _ (right : right_count k bs ≡ true) {n : ℕ} (count : n ≡ first_two bs) where
      short : length image - at - 2 < k.size * n → Reads image at k (Err ImageTruncated)
      short l = faulty ImageTruncated (body_cut k bs (rw length-drop counts) right (rw (length-drop, ← count) l))

      whole : k.size * n ≤ length image - at - 2 → Reads image at k (Ok (record { count = n; end = at + 2 + k.size * n }))
      whole l = record {
        fault =
            sym
            (whole_section k bs record {
              fewest = leb-true _ _ (both_left (leb k.fewest (first_two bs)) _ right);
              most = leb-true _ _ (both_right (leb k.fewest (first_two bs)) _ right);
              long = rw (length-drop, ← count) (omega arith);
            });
        count = count;
        end = refl;
      }

-- there may be as many as are counted
counted : (c : After-allows) → right_count (kind_by c.args.kind) (drop c.args.at c.args.image.now) ≡ c.allows.result
counted c = rw c.two_bytes-count.ensures at (sym c.allows.ensures)

pub returns-then-left-lt2 : goal.returns-then-left-lt2
returns-then-left-lt2 c = cut _ _ _ c.if-left-lt2.true

pub returns-then-not-allows : goal.returns-then-not-allows
returns-then-not-allows c = wrong _ _ _ c.if-left-lt2.false c.args.kind.wrong refl (counted (goal.at.returns-then-not-allows c).After-allows ∙ c.if-not-allows.true)

pub overflow_mul-size : goal.overflow_mul-size
overflow_mul-size c =
    let right = counted (goal.at.overflow_mul-size c).After-allows ∙ c.if-not-allows.false in
    in_32_bits (record { fits = omega (arith, few _ _ c.requires.1 right c.two_bytes-count.ensures) })

pub returns-then-left-size : goal.returns-then-left-size
returns-then-left-size c =
    let right = counted (goal.at.returns-then-left-size c).After-allows ∙ c.if-not-allows.false in
    short _ _ _ c.if-left-lt2.false right c.two_bytes-count.ensures c.if-left-size.true

pub overflow_add-result : goal.overflow_add-result
overflow_add-result c = in_slice c.args.image.now (search rules) (search rules)

pub overflow_add-result-2 : goal.overflow_add-result-2
overflow_add-result-2 c = in_slice c.args.image.now (search rules) (search rules)

pub returns : goal.returns
returns c =
    let right = counted (goal.at.returns c).After-allows ∙ c.if-not-allows.false in
    whole _ _ _ c.if-left-lt2.false right c.two_bytes-count.ensures c.if-left-size.false
