-- Each way the writing of an image can end, as the result that the rules give on lent memory: refused by a test, the buffer too short, or done.
-- Assumes nothing.
use mathlib.Core.Path.{◌≡◌, refl, sym, ap, ◌∙◌}
use mathlib.Core.Bool.{not}
use mathlib.Core.List.{List, [], ◌∷◌}
use Prim.Native.Nat.{ℕ, ◌+◌, ◌*◌, ◌^◌, ◌≤◌, ◌<◌}
use native.Mathlib.Omega.{arith}
use lib.ListN.{length}
use lib.Seq.{sets, sets-eq}
use borrow.Author.Tests.{lt-ltb, le-ltb}
use Rattle.std.specs.Prelude.{Ok, Err}
use Rattle.rules.specs.Tables.{used}
use Rattle.laws.specs.Meaning.{AllBytes}
use Rattle.rules.specs.Outcomes.{Heap, writing}
use Rattle.rules.specs.Refusals.{first_of, short_buffer, root_tests}
use Rattle.rules.specs.Planes.{planes, entries_in, IsTable, heap_at}
use Rattle.rules.specs.Images.{image_of}
use Rattle.rules.specs.Calls.{image_tests, write_image}
use Rattle.rules.specs.Runs.{Call, WriteImage, step}
use Rattle.rules.specs.Memory.{Memory, memory, Sound, with_buffer, tests_in, perform}
use Rattle.laws.proofs.Tables.{used_le}
use Rattle.laws.proofs.Planes.{length_entries_in, planes_faithful}
use Rattle.laws.proofs.Refusals.{refusal_is, first_yes, first_last, first_more, accepts, roots_passed}
use Rattle.laws.proofs.Images.{length_image}
use Rattle.laws.proofs.Memory.{sound_of, refused_first_in, refused_next_in, left_in, acted_filling}
use Rattle.refusals.specs.declared.Refusal.{Refusal}
use Rattle.refusals.specs.declared.Refusal.TheVariants.{OutputTooShort}
use Rattle.refusals.specs.Codes.{code}
use Rattle.refusals.proofs.Codes.{not_accepted}
use Rattle.checks.specs.Refusal.{refusal_by}
use Rattle.checks.proofs.FirstTests.{is_table_roots}
use Rattle.image.specs.Answers.{written}

module _ (t base : ℕ) (pool table roots buffer : List ℕ) where
  abbrev h : Heap
  h = heap_at t pool table

  abbrev m : Memory
  m = memory pool table

  abbrev call : Call
  call = WriteImage base roots (length buffer)

  abbrev image : List ℕ
  image = image_of base h roots

  -- ---- refused

  -- the number of a call on the heap
  number : (write_image base h roots (length buffer)).answer.refusal ≡ first_of (image_tests base h roots (length buffer))
  unfolding write_image
  number = refusal_is (first_of (image_tests base h roots (length buffer))) h [] _ (λ _. refl)

  -- a refusal writes nothing
  refused : (r : Refusal) → code r ≡ first_of (tests_in (planes t) call m (first_of (image_tests base h roots (length buffer))))
      → written (Err r) pool table buffer ≡ with_buffer buffer (perform (planes t) call [] m)
  unfolding step
  refused r e = rw (← left_in (planes t) call [] m (code r) (ap (λ (n : ℕ). first_of (tests_in (planes t) call m n)) number ∙ sym e) (omega (arith, not_accepted r)))

  -- by the tests of the heap and the roots
  pub image_refused : (r : Refusal) → code r ≡ refusal_by t pool table (λ (h : Heap). root_tests base h roots)
      → written (Err r) pool table buffer ≡ with_buffer buffer (perform (planes t) call [] m)
  image_refused r first = refused r (refused_first_in (planes t) m (root_tests base h roots) (short_buffer (length buffer) image ∷ []) refl refl first (not_accepted r))

  -- ---- where those do not refuse

  module _ (first : 0 ≡ refusal_by t pool table (λ (h : Heap). root_tests base h roots)) where
    passes : Sound (planes t) m × (first_of (root_tests base h roots) ≡ 0)
    passes = sound_of (planes t) m (root_tests base h roots) first refl

    -- what is known then
    pub record Known : Type 0 where
      pub is : IsTable t table
      pub whole : length pool ≡ 16 * length (entries_in t table)
      pub address : base < 2 ^ 32
      pub few : used (entries_in t table) ≤ 4096
      pub few_roots : length roots < 16388
      pub long : length image ≡ 12 + t + 16 * used (entries_in t table) + length roots

    pub known : Known
    known =
        let (good, whole_words_are, few_words, _) = roots_passed base h roots [] passes.1 in
        let shape = good.shape in
        record {
          is = (is_table_roots base t pool table roots first refl).0;
          whole = shape.pool;
          address = omega (arith, shape.below, shape.some);
          few = omega (arith, used_le (entries_in t table), shape.few);
          few_roots = omega (arith, few_words);
          long = omega (arith, length_image base h roots shape.pool, length_entries_in t table);
        }

    -- the buffer is too short
    pub image_short : length buffer < length image → written (Err OutputTooShort) pool table buffer ≡ with_buffer buffer (perform (planes t) call [] m)
    image_short short =
        refused OutputTooShort
        (refused_next_in (planes t) m (root_tests base h roots) (short_buffer (length buffer) image ∷ []) refl first refl
        (sym (first_yes (short_buffer (length buffer) image) [] (lt-ltb (length buffer) (length image) short))))

    -- it is long enough, and the image is written from its front on
    pub image_done : {n : ℕ} {buffer' : List ℕ} → length image ≤ length buffer → n ≡ length image → AllBytes table → buffer' ≡ sets buffer 0 image
        → written (Ok n) pool table buffer' ≡ with_buffer buffer (perform (planes t) call [] m)
    unfolding step write_image
    image_done fits long bytes e =
        let s = passes.0 in
        let from_front : 0 + length image ≡ length image = omega arith in
        let done =
        acted_filling (planes t) (planes_faithful t) call [] m m [] image (writing 0 (length image)) s.fits (ap not s.clean) bytes s refl
        (sym (accepts h [] _ (first_more (root_tests base h roots) (short_buffer (length buffer) image ∷ []) refl passes.1 ∙ first_last (short_buffer (length buffer) image) (le-ltb (length buffer) (length image) fits)))) in
        rw (← done, e, long, sets-eq image buffer 0 (omega (arith, fits)), from_front)
