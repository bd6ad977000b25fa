-- The statements of Agreement, used at variables: each law says one anew, from hypotheses that are written out, down to equations. A statement that said less, or asked more, would not give it.
-- Assumes nothing.
use mathlib.Core.Path.{◌≡◌, ap}
use mathlib.Core.List.{List}
use Prim.Native.Nat.{ℕ, ◌<◌}
use lib.ListN.{length, set}
use Rattle.rules.specs.Tables.{entry_at}
use Rattle.rules.specs.Forms.{Form}
use Rattle.laws.specs.Faithful.{Faithful}
use Rattle.rules.specs.Runs.{Call}
use Rattle.rules.specs.Memory.{Memory, memory, Sound, Result, perform}
use Rattle.laws.specs.Agreement.{HoldSame}
use Rattle.laws.proofs.Agreement.{same_entries, forms_agree}

-- two memories, each as its form asks, with the same pool and the same entries
module _ (f g : Form) (faithful : Faithful f) (faithful' : Faithful g) (m m' : Memory) (sound : Sound f m) (sound' : Sound g m') (pools : m.pool ≡ m'.pool)
    (tables : f.read m.table ≡ g.read m'.table) where
  same : HoldSame f g m m'
  same = record { sound = sound; sound' = sound'; pool = pools; blocks = ap length tables; reading = λ k. ap (λ (es : List ℕ). entry_at es k) tables }

  -- an entry that is written in both is read from both, and again they hold the same
  pub written_alike : (k e : ℕ) → k < length (f.read m.table) → e < 4
      → let t : List ℕ = f.write (set (f.read m.table) k e) in
      let t' : List ℕ = g.write (set (g.read m'.table) k e) in
      (f.read t ≡ set (f.read m.table) k e) × (g.read t' ≡ set (g.read m'.table) k e) × Sound f (memory m.pool t) × Sound g (memory m'.pool t') × (f.read t ≡ g.read t')
  written_alike k e inside small =
      let (there, there', h) = (forms_agree f g faithful faithful').writing m m' k e same inside small in
      (there, there', h.sound, h.sound', same_entries f g faithful faithful' _ _ h)

  -- a call answers the same, writes the same, and leaves memories that hold the same
  pub performed_alike : (c : Call) (stack : List ℕ)
      → let r : Result = perform f c stack m in
      let r' : Result = perform g c stack m' in
      (r.answer ≡ r'.answer) × (r.stack ≡ r'.stack) × (r.filled ≡ r'.filled) × Sound f r.memory × Sound g r'.memory × (r.memory.pool ≡ r'.memory.pool)
      × (f.read r.memory.table ≡ g.read r'.memory.table)
  performed_alike c stack =
      let x = (forms_agree f g faithful faithful').calls c stack m m' same in
      let h = x.memory in
      (x.answer, x.stack, x.filled, h.sound, h.sound', h.pool, same_entries f g faithful faithful' _ _ h)
