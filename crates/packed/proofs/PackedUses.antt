-- As on the packed table, used at variables and written out: lists of services on a packed table and on its planes, and on planes and their packed table. A statement that asked for more, or said less,
-- would not give these.
-- Assumes nothing.
use mathlib.Core.Path.{◌≡◌, refl, sym, ap, subst, ◌∙◌}
use mathlib.Core.List.{List, [], ◌∷◌, Memᴰ}
use Prim.Native.Nat.{ℕ, ◌<◌}
use lib.ListN.{length, set}
use Rattle.rules.specs.Entries.{entries_of, table_of}
use Rattle.rules.specs.Forms.{packed}
use Rattle.rules.specs.Planes.{entries_in, planes_of, planes}
use Rattle.rules.specs.Memory.{Memory, memory, Sound}
use Rattle.rules.specs.Lent.{Lent, lent}
use Rattle.laws.specs.Meaning.{AllBytes}
use Rattle.laws.specs.Agreement.{HoldSame}
use Rattle.laws.proofs.Memory.{packed_faithful}
use Rattle.laws.proofs.Planes.{planes_faithful}
use Rattle.laws.proofs.Agreement.{same_entries}
use Rattle.laws.proofs.Planes.{planes_bytes}
use Rattle.loglaws.proofs.Ending.{written_of}
use Rattle.services.specs.Services.{Service, serve_in, serve, Asked, served_to, responses, buffers, lent_after, responses_by, buffers_by, lent_after_by}
use Rattle.packed.specs.AsPacked.{AllGiven, done, next, served_packed}
use Rattle.services.proofs.Laws.{act_bytes, serve_is}
use Rattle.packed.proofs.AsPacked.{as_packed}

-- memories that hold the same have the same entries
entries_same : (t : ℕ) (m m' : Memory) → HoldSame packed (planes t) m m' → entries_of m.table ≡ entries_in t m'.table
entries_same t m m' h = same_entries packed (planes t) packed_faithful (planes_faithful t) m m' h

module _ (t : ℕ) where
  -- services that are all given this t
  abbrev Given : List Asked → Type 0
  Given xs = (x : Asked) → Memᴰ x xs → x.t ≡ t

  given : (xs : List Asked) → Given xs → AllGiven t xs
  given [] all = done
  given (x ∷ xs) all = next (all x (Memᴰ.head refl)) (given xs (λ y among. all y (Memᴰ.tail among)))

  -- the table stays bytes
  bytes_after : (xs : List Asked) (l : Lent) → Given xs → AllBytes l.memory.table → AllBytes (lent_after xs l).memory.table
  unfolding lent_after_by
  bytes_after [] l all bytes = bytes
  bytes_after (x ∷ xs) l all bytes =
      let s = ap (λ (u : ℕ). served_to (record { t = u; service = x.service; stack = x.stack }) l) (all x (Memᴰ.head refl)) ∙ serve_is (planes t) x.service x.stack l in
      bytes_after xs (served_to x l).lent (λ y among. all y (Memᴰ.tail among))
      (subst (λ (k : Lent). AllBytes k.memory.table) (sym (ap (λ r. r.lent) s)) (act_bytes t x.service x.stack l.memory bytes))

  -- ---- from a packed table

  -- on a packed table of t bytes and on its planes: the same is told and written into buffers, and what is lent is the planes of what the packed table becomes, byte by byte
  pub on_its_planes : (xs : List Asked) → Given xs → (l : Lent) → length l.memory.table ≡ t
      → let p : Lent = lent_after_by served_packed xs l in
      let l' : Lent = lent (memory l.memory.pool (planes_of t (entries_of l.memory.table))) l.beside in
      (responses xs l' ≡ responses_by served_packed xs l) × (buffers xs l' ≡ buffers_by served_packed xs l)
      × (lent_after xs l' ≡ lent (memory p.memory.pool (planes_of t (entries_of p.memory.table))) p.beside)
  on_its_planes xs all l long =
      let p : Lent = lent_after_by served_packed xs l in
      let l' : Lent = lent (memory l.memory.pool (planes_of t (entries_of l.memory.table))) l.beside in
      let (told, filled, same, beside) = as_packed.services t xs l l' (as_packed.held_in_planes t l.memory long) refl (given xs all) in
      let n : Memory = (lent_after xs l').memory in
      let written : n.table ≡ planes_of t (entries_in t n.table) = written_of (planes t) (planes_faithful t) n (bytes_after xs l' all (planes_bytes t (entries_of l.memory.table))) same.sound' in
      (told, filled, lent_same _ _ (sym same.pool) (written ∙ ap (planes_of t) (sym (entries_same t p.memory n same))) (sym beside))
    where
      lent_same : (a b : Lent) → a.memory.pool ≡ b.memory.pool → a.memory.table ≡ b.memory.table → a.beside ≡ b.beside → a ≡ b
      lent_same a b p q r = rw (p, q, r)

  -- ---- from planes

  -- on planes that are as their form asks, and on the packed table of their entries: the same is told and written into buffers, and pool, entries and what lies beside are the same
  pub on_its_packed : (xs : List Asked) → Given xs → (l : Lent) → Sound (planes t) l.memory
      → let p : Lent = lent (memory l.memory.pool (table_of (entries_in t l.memory.table))) l.beside in
      let n : Lent = lent_after_by served_packed xs p in
      (responses_by served_packed xs p ≡ responses xs l) × (buffers_by served_packed xs p ≡ buffers xs l)
      × (n.memory.pool ≡ (lent_after xs l).memory.pool) × (entries_of n.memory.table ≡ entries_in t (lent_after xs l).memory.table) × (n.beside ≡ (lent_after xs l).beside)
      × Sound (planes t) (lent_after xs l).memory
  on_its_packed xs all l sound =
      let p : Lent = lent (memory l.memory.pool (table_of (entries_in t l.memory.table))) l.beside in
      let (told, filled, same, beside) = as_packed.services t xs p l (as_packed.in_packed t l.memory sound) refl (given xs all) in
      (sym told, sym filled, same.pool, entries_same t _ _ same, beside, same.sound')

  -- ---- an entry

  -- that is written in both is read from both, and no other is changed
  pub entry_in_both : (m m' : Memory) → HoldSame packed (planes t) m m' → (k e : ℕ) → k < length (entries_of m.table) → e < 4
      → (entries_of (table_of (set (entries_of m.table) k e)) ≡ set (entries_of m.table) k e)
      × (entries_in t (planes_of t (set (entries_in t m'.table) k e)) ≡ set (entries_of m.table) k e)
      × HoldSame packed (planes t) (memory m.pool (table_of (set (entries_of m.table) k e))) (memory m'.pool (planes_of t (set (entries_in t m'.table) k e)))
  entry_in_both m m' h k e inside small =
      let x = as_packed.entries t m m' k e h inside small in
      (x.0, x.1 ∙ ap (λ (es : List ℕ). set es k e) (sym (entries_same t m m' h)), x.2)

  -- ---- the mark stack

  -- is left the same by every service on a packed table of t bytes and on its planes
  pub same_stack : (s : Service) (stack : List ℕ) (l : Lent) → length l.memory.table ≡ t
      → (serve t s stack (lent (memory l.memory.pool (planes_of t (entries_of l.memory.table))) l.beside)).stack ≡ (serve_in packed s stack l).stack
  same_stack s stack l long = as_packed.stacks t s stack l (lent (memory l.memory.pool (planes_of t (entries_of l.memory.table))) l.beside) (as_packed.held_in_planes t l.memory long) refl
