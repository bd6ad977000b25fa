-- Two faithful forms agree, entry by entry and call by call. So the planes agree with the packed table, and each has a counterpart in the other.
-- Assumes nothing.
use mathlib.Core.Path.{◌≡◌, refl, sym, ap, ◌∙◌}
use mathlib.Core.List.{List}
use Prim.Native.Nat.{ℕ, ◌*◌}
use native.Mathlib.Omega.{arith}
use lib.ListN.{length, set}
use lib.Seq.{ext_get_or}
use borrow.Author.Tests.{eq-eqb}
use Rattle.rules.specs.Entries.{FREE, entries_of, table_of}
use Rattle.rules.specs.Forms.{Form, packed}
use Rattle.laws.specs.Faithful.{Faithful}
use Rattle.rules.specs.Outcomes.{Heap, Outcome}
use Rattle.rules.specs.Runs.{step}
use Rattle.rules.specs.Memory.{Memory, memory, heap_in, Sound, perform}
use Rattle.rules.specs.Planes.{plane_bytes, entries_in, planes_of, planes}
use Rattle.laws.specs.Agreement.{with_entry, HoldSame, WritingAgrees, CallsAlike, FormsAgree}
use Rattle.laws.proofs.Memory.{follows_sound, sound_next, packed_faithful, packed_sound}
use Rattle.laws.proofs.Entries.{length_entries_of, entries_of_lt, entries_of_table_of}
use Rattle.laws.proofs.Planes.{length_entries_in, length_planes_of, read_planes, planes_clean, entries_small, planes_faithful}
use Rattle.laws.proofs.Holding.{written, hold_same}

module _ (f g : Form) (faithful : Faithful f) (faithful' : Faithful g) where
  -- the same entries are the same list of them
  pub same_entries : (m m' : Memory) → HoldSame f g m m' → f.read m.table ≡ g.read m'.table
  same_entries m m' h = ext_get_or FREE (f.read m.table) (g.read m'.table) h.blocks (λ k _. h.reading k)

  same_heap : (m m' : Memory) → HoldSame f g m m' → heap_in f m ≡ heap_in g m'
  same_heap m m' h = rw (h.pool, same_entries m m' h)

  -- ---- an entry

  writing : WritingAgrees f g
  writing m m' k e h inside small =
      let es : List ℕ = f.read m.table in
      let same : es ≡ g.read m'.table = same_entries m m' h in
      let w = written f faithful m k e h.sound small in
      let w' = written g faithful' m' k e h.sound' small in
      (w.1, w'.1, hold_same f g (with_entry f m k e) (with_entry g m' k e) w.0 w'.0 h.pool (w.1 ∙ ap (λ (es : List ℕ). set es k e) same ∙ sym w'.1))

  -- ---- a call

  calls : CallsAlike f g
  calls c stack m m' h =
      let there : heap_in f m ≡ heap_in g m' = same_heap m m' h in
      let o : step c stack (heap_in f m) ≡ step c stack (heap_in g m') = ap (step c stack) there in
      let x = follows_sound f faithful c stack m h.sound in
      let y = follows_sound g faithful' c stack m' h.sound' in
      let left : heap_in f (perform f c stack m).memory ≡ heap_in g (perform g c stack m').memory = x.heap ∙ ap (λ (o : Outcome). o.heap) o ∙ sym y.heap in
      record {
        answer = x.answer ∙ ap (λ (o : Outcome). o.answer) o ∙ sym y.answer;
        stack = x.stack ∙ ap (λ (o : Outcome). o.stack) o ∙ sym y.stack;
        filled = x.filled ∙ ap (λ (o : Outcome). o.filled) o ∙ sym y.filled;
        memory =
            hold_same f g (perform f c stack m).memory (perform g c stack m').memory (sound_next f faithful c stack m h.sound) (sound_next g faithful' c stack m' h.sound')
            (ap (λ (h : Heap). h.pool) left) (ap (λ (h : Heap). h.entries) left);
      }

  pub forms_agree : FormsAgree f g
  forms_agree = record { writing = writing; calls = calls }

-- ---- packed and planes

-- the planes of a packed table of t bytes hold the same
pub held_in_planes : (t : ℕ) (m : Memory) → length m.table ≡ t → HoldSame packed (planes t) m (memory m.pool (planes_of t (entries_of m.table)))
held_in_planes t m long =
    let es : List ℕ = entries_of m.table in
    let number : length es ≡ 4 * t = length_entries_of m.table ∙ ap (λ (n : ℕ). 4 * n) long in
    hold_same packed (planes t) m (memory m.pool (planes_of t es)) (packed_sound m refl)
    (record { fits = eq-eqb (length (planes_of t es)) (2 * plane_bytes t) (length_planes_of t es); clean = planes_clean t es number }) refl
    (sym (read_planes t es (entries_of_lt m.table) number))

-- and so does the packed table of what planes hold
pub in_packed : (t : ℕ) (m : Memory) → Sound (planes t) m → HoldSame packed (planes t) (memory m.pool (table_of (entries_in t m.table))) m
in_packed t m s =
    let es : List ℕ = entries_in t m.table in
    let back : entries_of (table_of es) ≡ es = entries_of_table_of es (omega (arith, length_entries_in t m.table)) (entries_small t m.table) in
    hold_same packed (planes t) (memory m.pool (table_of es)) m (packed_sound (memory m.pool (table_of es)) refl) s refl back

-- reading and writing an entry agree on the packed table and on the planes, and so does every call
pub planes_agree : (t : ℕ) → FormsAgree packed (planes t)
planes_agree t = forms_agree packed (planes t) packed_faithful (planes_faithful t)
