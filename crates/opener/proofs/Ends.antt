-- Each way an opening can end, as the result that the rules give on lent memory: refused by a fault of the file, refused because it does not suit what is lent, or done.
-- Assumes nothing.
use mathlib.Core.Path.{◌≡◌, refl, sym, ap, ◌∙◌}
use mathlib.Core.Bool.{Bool, true, false, not}
use mathlib.Core.List.{List, [], ◌∷◌, ◌++◌, append_assoc}
use Prim.Native.Nat.{ℕ, ◌+◌, ◌*◌, ◌/◌}
use native.Mathlib.Omega.{arith}
use lib.Dec.{eqb, ltb}
use lib.ListN.{length, drop, length-drop}
use lib.Seq.{sets-eq, length-take-le}
use borrow.Author.Tests.{eqb-true, ne_eqb}
use Rattle.std.specs.Prelude.{Ok, Err}
use Rattle.rules.specs.Tests.{pick, both, either}
use Rattle.rules.specs.Tables.{well_formed}
use Rattle.laws.specs.Meaning.{AllBytes}
use Rattle.rules.specs.Outcomes.{Heap, opened_at}
use Rattle.rules.specs.Refusals.{first_of, first_tests, short_roots}
use Rattle.rules.specs.Planes.{planes, heap_at}
use Rattle.rules.specs.Files.{File as FileOf, section_tests, file_of, file_tests, fault_of, entries_for, base_of, heap_of_file, roots_of}
use Rattle.rules.specs.Calls.{good_target, open_tests, open_image}
use Rattle.rules.specs.Runs.{Call, OpenImage, step}
use Rattle.rules.specs.Memory.{Memory, memory, with_buffer, tests_in, perform}
use Rattle.laws.proofs.Refusals.{refusal_is, first_yes, first_more, accepts}
use Rattle.laws.proofs.Entries.{length_entries_of}
use Rattle.laws.proofs.Planes.{length_entries_in, planes_faithful, table_sound}
use Rattle.laws.proofs.Memory.{Passes, tests_passed, left_in, acted_filling}
use Rattle.laws.proofs.Opening.{Opens, open_passed}
use Rattle.refusals.specs.declared.Refusal.{Refusal}
use Rattle.refusals.specs.Codes.{code}
use Rattle.refusals.proofs.Codes.{not_accepted}
use Rattle.parser.specs.declared.File.{File}
use Rattle.parser.specs.Reading.{Says}
use Rattle.opener.specs.Answers.{opened}
use Rattle.opener.specs.Filling.{lent_tests, Suits, Filled}

-- ---- what a file says of its lengths

module _ {image : List ℕ} {file : File} (says : Says image file) where
  pub table_long : length (file_of image).table.body ≡ file.t
  table_long = ap (length {A = ℕ}) says.table ∙ length-take-le file.t (drop 8 image) (omega (arith, says.long, length-drop 8 image))

  pub blocks_long : length (file_of image).blocks.body ≡ 16 * file.used
  blocks_long = ap (length {A = ℕ}) says.blocks ∙ length-take-le (16 * file.used) (drop (10 + file.t) image) (omega (arith, says.long, length-drop (10 + file.t) image))

  pub roots_long : length (roots_of (file_of image)) ≡ 4 * file.roots
  roots_long = ap (length {A = ℕ}) says.words ∙ length-take-le (4 * file.roots) (drop (12 + file.t + 16 * file.used) image) (omega (arith, says.long, length-drop (12 + file.t + 16 * file.used) image))

module _ (t : ℕ) (image pool table roots : List ℕ) where
  abbrev f : FileOf
  f = file_of image

  abbrev h : Heap
  h = heap_at t pool table

  abbrev m : Memory
  m = memory pool table

  abbrev room : ℕ
  room = length roots

  abbrev call : Call
  call = OpenImage image room

  -- ---- refused

  -- the number of a call on the heap
  number : (open_image h image room).answer.refusal ≡ first_of (open_tests h image room)
  unfolding open_image
  number = refusal_is (first_of (open_tests h image room)) h [] _ (λ _. refl)

  -- a refusal writes nothing
  refused : (r : Refusal) → code r ≡ first_of (tests_in (planes t) call m (first_of (open_tests h image room)))
      → opened (Err r) pool table roots ≡ with_buffer roots (perform (planes t) call [] m)
  unfolding step
  refused r e = rw (← left_in (planes t) call [] m (code r) (ap (λ (n : ℕ). first_of (tests_in (planes t) call m n)) number ∙ sym e) (omega (arith, not_accepted r)))

  -- by a fault
  pub open_faulty : (r : Refusal) → code r ≡ fault_of image → opened (Err r) pool table roots ≡ with_buffer roots (perform (planes t) call [] m)
  open_faulty r e = refused r (e ∙ sym (first_yes _ _ (ap not (ne_eqb (fault_of image) 0 (λ z. not_accepted r (e ∙ z))))))

  -- ---- where the file has no fault

  module _ (sound : fault_of image ≡ 0) where
    -- the tests behind it
    behind : first_of (open_tests h image room) ≡ first_of (first_tests (good_target f h room) (heap_of_file f) ++ short_roots room (roots_of f) ∷ [])
    unfolding fault_of file_tests section_tests
    behind =
        ap first_of (append_assoc (file_tests image) (first_tests (good_target f h room) (heap_of_file f)) (short_roots room (roots_of f) ∷ []))
        ∙ first_more (file_tests image) (first_tests (good_target f h room) (heap_of_file f) ++ short_roots room (roots_of f) ∷ []) refl sound

    -- with what the form adds to 1 they are those of the file and what is lent
    as_lent : first_of (lent_tests t image pool table room) ≡ first_of (tests_in (planes t) call m (first_of (open_tests h image room)))
    unfolding first_of
    as_lent = rw (behind, sound) (go (good_target f h room) (well_formed (entries_for f.table)) (ltb room (length (roots_of f))) ((planes t).fits table))
      where
        go : (g w s d : Bool)
            → let r : ℕ = pick (not g) 1 (pick (not w) 2 (pick s 17 0)) in
            pick (not (both g d)) 1 (pick (not w) 2 (pick s 17 0)) ≡ pick (either (eqb r 1) (not d)) 1 (pick (either (eqb r 2) false) 2 (pick (not (eqb r 0)) r 0))
        go false w s d = refl
        go true false s false = refl
        go true false s true = refl
        go true true false false = refl
        go true true false true = refl
        go true true true false = refl
        go true true true true = refl

    pub open_unsuited : (r : Refusal) → code r ≡ first_of (lent_tests t image pool table room) → opened (Err r) pool table roots ≡ with_buffer roots (perform (planes t) call [] m)
    open_unsuited r e = refused r (e ∙ as_lent)

    -- ---- where nothing refuses

    module _ {file : File} (says : Says image file) (accepted : 0 ≡ first_of (lent_tests t image pool table room)) where
      passes : Passes (planes t) call m (first_of (open_tests h image room))
      passes = tests_passed (planes t) call m (first_of (open_tests h image room)) (sym (accepted ∙ as_lent))

      opens : Opens h image room
      opens = open_passed h image room passes.own

      -- the file suits what is lent
      pub suits : Suits image file t pool table roots
      suits = record {
        says = says;
        bytes = omega (arith, opens.long, length_entries_of f.table.body, table_long says, length_entries_in t table);
        sized = record { few = omega (arith, opens.shape.few, length_entries_in t table); long = eqb-true _ _ passes.fits };
        whole = omega (arith, opens.shape.pool, length_entries_in t table);
        room = omega (arith, opens.enough, roots_long says);
      }

      -- and is opened
      pub open_done : {pool' table' roots' : List ℕ} → AllBytes table' → Filled image t roots pool' table' roots'
          → opened (Ok (record { base = file.base; roots = file.roots })) pool' table' roots' ≡ with_buffer roots (perform (planes t) call [] m)
      unfolding step open_image
      open_done {pool' = pool'} {table' = table'} bytes filled =
          let words : length (roots_of f) / 4 ≡ file.roots = omega (arith, roots_long says) in
          let from_front : 0 + length (roots_of f) ≡ length (roots_of f) = omega arith in
          let done =
          acted_filling (planes t) (planes_faithful t) call [] m (memory pool' table') [] (roots_of f) (opened_at (base_of f) (length (roots_of f) / 4)) passes.fits refl bytes (table_sound t pool' table' filled.entries.is_table) refl
          (rw (filled.blocks, filled.entries.entries) (sym (accepts h [] _ passes.own))) in
          rw (← done, filled.words, says.base, words, sets-eq (roots_of f) roots 0 (omega (arith, opens.enough)), from_front)
