-- The log lasts, used at variables and written out: through one service of each kind that may spare it, through any number of services with another t, and beside another log. A statement that asked
-- for more, or said less, would not give these.
-- Assumes nothing.
use mathlib.Core.Path.{◌≡◌, refl, ap, subst, ◌∙◌}
use mathlib.Core.Logic.{◌≢◌}
use mathlib.Core.List.{List, [], ◌∷◌, ◌++◌, Memᴰ}
use Prim.Native.Nat.{ℕ, suc, ◌*◌, ◌^◌, ◌≤◌, ◌<◌}
use lib.ListN.{length}
use Rattle.rules.specs.Words.{bytes_of, words_of}
use Rattle.rules.specs.Planes.{planes}
use Rattle.rules.specs.Runs.{Init, Allocate, Free, Reallocate, Collect, Survey, Load, Store, WriteImage, OpenImage}
use Rattle.rules.specs.Memory.{heap_in}
use Rattle.rules.specs.Lent.{Lent}
use Rattle.laws.specs.Meaning.{AllBytes}
use Rattle.promises.specs.Conditions.{NoFit}
use Rattle.programs.proofs.Laws.{heads_same}
use Rattle.logs.specs.Log.{declined}
use Rattle.loglaws.specs.Chains.{Entry, Chain}
use Rattle.loglaws.specs.Lasting.{Spares as SparesByCall}
use Rattle.loglaws.specs.Promises.{survey_in, LastOf}
use Rattle.loglaws.proofs.Chaining.{chain_one}
use Rattle.loglaws.proofs.Beside.{beside}
use Rattle.services.specs.Services.{HeapCall, Append, Read, Drop, replied, serve, Asked, asked, served_to, lent_after, lent_after_by}
use Rattle.lasting.specs.Lasting.{Spares, AllSpare, done, next}
use Rattle.services.proofs.Laws.{act, serve_is}
use Rattle.lasting.proofs.Reading.{refused_read}
use Rattle.lasting.proofs.Through.{LastsThrough, through}

-- 4t blocks, and a log in them
module _ (t base first : ℕ) (l : Lent) (es : List Entry) (long : length l.memory.pool ≡ 64 * t) (bytes : AllBytes l.memory.table)
    (chain : Chain base (heap_in (planes t) l.memory) first es) where
  all_through : (xs : List Asked) → AllSpare t base first es xs l → LastsThrough t base first l es xs
  all_through = through t base first l es long bytes chain

  -- ---- services with another t, however many

  all_other : (xs : List Asked) (k : Lent) → ((x : Asked) → Memᴰ x xs → x.t ≢ t) → AllSpare t base first es xs k
  all_other [] k other = done
  all_other (x ∷ xs) k other = next (λ e. absurd (other x (Memᴰ.head refl) e)) (all_other xs (served_to x k).lent (λ y among. other y (Memᴰ.tail among)))

  pub through_others : (xs : List Asked) → ((x : Asked) → Memᴰ x xs → x.t ≢ t) → LastsThrough t base first l es xs
  through_others xs other = all_through xs (all_other xs l other)

  -- where a survey of the log's base is refused, each read stays refused by that number
  pub refused_as_before : (xs : List Asked) → ((x : Asked) → Memᴰ x xs → x.t ≢ t) → (r : ℕ) → survey_in (planes t) base l.memory ≡ suc r
      → (index : ℕ) (stack : List ℕ) → (serve t (Read base first index) stack (lent_after xs l)).reply ≡ replied (declined (suc r))
  unfolding act
  refused_as_before xs other r refused index stack =
      (through_others xs other).1 index stack ∙ rw (serve_is (planes t) (Read base first index) stack l) (ap replied (refused_read t base first index r stack l.memory refused))

  -- ---- one service of each kind

  -- no entry of the log has its head there
  abbrev NoEntry : ℕ → Type 0
  NoEntry k = (e : Entry) → Memᴰ e es → k ≢ e.head

  -- An append to another log and a drop from one, then every other service that may spare the log: on any base but where it collects, with any mark stack, on any block but an entry's where it writes, and
  -- on any block and of any log where it reads. Those that are given u are refused, and need not spare it: an init, an opening, and calls of the log itself. Any number of these may follow. The bases
  -- and the mark stacks are counted by the services
  pub through_each : (other time tips : ℕ) (roots : List ℕ) (base_of : ℕ → ℕ) (stack_of : ℕ → List ℕ)
      → time < 2 ^ 32 → tips < 2 ^ 32
      → (NoFit (heap_in (planes t) l.memory) 2 → (base_of 0 ≡ base) × Memᴰ first (words_of (bytes_of other ++ roots)))
      → ((ds : List Entry) → Chain (base_of 0) (heap_in (planes t) l.memory) other ds → (o : ℕ) → LastOf ds o → NoEntry o)
      → (another : ℕ)
      → ((d : Entry) (ds : List Entry) → Chain (base_of 1) (heap_in (planes t) (serve t (Append (base_of 0) other time tips roots) (stack_of 0) l).lent.memory) another (d ∷ ds) → NoEntry d.head)
      → (list : List ℕ) → Memᴰ first (words_of list) → (k n o : ℕ) → NoEntry k → NoEntry n → NoEntry o
      → (p i j w size bytes room index any : ℕ) (lists image : List ℕ) → (u : ℕ) → u ≢ t → (others : List Asked) → ((x : Asked) → Memᴰ x others → x.t ≢ t)
      → LastsThrough t base first l es
      (asked t (Append (base_of 0) other time tips roots) (stack_of 0)
      ∷ asked t (Drop (base_of 1) another) (stack_of 1)
      ∷ asked t (Read (base_of 2) any index) (stack_of 2)
      ∷ asked t (HeapCall (Collect base list)) (stack_of 3)
      ∷ asked t (HeapCall (Allocate (base_of 4) bytes)) (stack_of 4)
      ∷ asked t (HeapCall (Free (base_of 5) k)) (stack_of 5)
      ∷ asked t (HeapCall (Reallocate (base_of 6) n size)) (stack_of 6)
      ∷ asked t (HeapCall (Survey (base_of 7))) (stack_of 7)
      ∷ asked t (HeapCall (Load (base_of 8) p i)) (stack_of 8)
      ∷ asked t (HeapCall (Store (base_of 9) o j w)) (stack_of 9)
      ∷ asked t (HeapCall (WriteImage (base_of 10) lists room)) (stack_of 10)
      ∷ asked u (HeapCall (Init (base_of 11))) (stack_of 11)
      ∷ asked u (HeapCall (OpenImage image room)) (stack_of 12)
      ∷ asked u (Append (base_of 13) first time tips roots) (stack_of 13)
      ∷ asked u (Drop base first) (stack_of 14)
      ∷ others)
  unfolding Spares SparesByCall
  through_each other time tips roots base_of stack_of small small' collects last another front list among' k n o no-k no-n no-o p i j w size bytes room index any lists image u other_t others all =
      all_through _
      (next (λ _. (small, small', collects, λ ds own o at. beside es o (last ds own o at)))
      (next (λ _. λ d ds own. beside es d.head (front d ds own))
      (next (λ _. tt) (next (λ _. (refl, among')) (next (λ _. tt)
      (next (λ _. beside es k no-k) (next (λ _. beside es n no-n)
      (next (λ _. tt) (next (λ _. tt) (next (λ _. beside es o no-o) (next (λ _. tt)
      (next (λ e. absurd (other_t e)) (next (λ e. absurd (other_t e)) (next (λ e. absurd (other_t e)) (next (λ e. absurd (other_t e))
      (all_other others _ all))))))))))))))))

  -- ---- two logs

  -- an append to the log with the entries ds, of which the last is no entry of this one, on whatever base where it does not collect
  pub append_beside : (b other time tips : ℕ) (roots stack : List ℕ) → time < 2 ^ 32 → tips < 2 ^ 32 → 16 ≤ b → (ds : List Entry) → Chain b (heap_in (planes t) l.memory) other ds
      → (NoFit (heap_in (planes t) l.memory) 2 → (b ≡ base) × Memᴰ first (words_of (bytes_of other ++ roots))) → ((o : ℕ) → LastOf ds o → NoEntry o)
      → Chain base (heap_in (planes t) (serve t (Append b other time tips roots) stack l).lent.memory) first es
  unfolding Spares lent_after_by
  append_beside b other time tips roots stack small small' high ds own collects last =
      (all_through (asked t (Append b other time tips roots) stack ∷ [])
      (next (λ _. (
        small,
        small',
        collects,
        λ gs its o at. beside es o (last o (subst (λ (xs : List Entry). LastOf xs o) (chain_one b high (heap_in (planes t) l.memory) its own) at)),
      )) done)).0

  -- so where there is room, on any base and with any roots
  pub append_in_room : (b other time tips : ℕ) (roots stack : List ℕ) → time < 2 ^ 32 → tips < 2 ^ 32 → 16 ≤ b → (ds : List Entry) → Chain b (heap_in (planes t) l.memory) other ds
      → ¬ NoFit (heap_in (planes t) l.memory) 2 → ((o : ℕ) → LastOf ds o → NoEntry o)
      → Chain base (heap_in (planes t) (serve t (Append b other time tips roots) stack l).lent.memory) first es
  append_in_room b other time tips roots stack small small' high ds own fit last =
      append_beside b other time tips roots stack small small' high ds own (λ no-fit. absurd (fit no-fit)) last

  -- a drop from the log with the entries d and ds, of which d is no entry of this one, on whatever base
  pub drop_beside : (b other : ℕ) (stack : List ℕ) → 16 ≤ b → (d : Entry) (ds : List Entry) → Chain b (heap_in (planes t) l.memory) other (d ∷ ds) → NoEntry d.head
      → Chain base (heap_in (planes t) (serve t (Drop b other) stack l).lent.memory) first es
  unfolding Spares lent_after_by
  drop_beside b other stack high d ds own no_entry =
      (all_through (asked t (Drop b other) stack ∷ [])
      (next (λ _. λ g gs its. beside es g.head (subst (λ (e : Entry). NoEntry e.head) (heads_same (chain_one b high (heap_in (planes t) l.memory) own its)) no_entry)) done)).0
