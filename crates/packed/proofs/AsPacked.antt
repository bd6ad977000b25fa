-- Services on a packed table and on two planes that hold the same: each call does the same on both, so each program of the log does, and each service.
-- Assumes nothing.
use mathlib.Core.Path.{◌≡◌, refl, sym, ap, subst, ◌∙◌}
use mathlib.Core.List.{List, [], ◌∷◌}
use Prim.Native.Nat.{ℕ}
use Rattle.rules.specs.Forms.{Form, packed}
use Rattle.rules.specs.Outcomes.{Answer}
use Rattle.rules.specs.Planes.{planes}
use Rattle.rules.specs.Runs.{Call}
use Rattle.rules.specs.Memory.{Memory, Result, perform}
use Rattle.rules.specs.Lent.{Lent}
use Rattle.laws.specs.Agreement.{HoldSame, CallsAlike}
use Rattle.laws.proofs.Agreement.{held_in_planes, in_packed, planes_agree}
use Rattle.keeping.specs.Keeping.{but_rescans}
use Rattle.programs.specs.Programs.{Program, give, ask, Ran, stack_after, run}
use Rattle.programs.proofs.Laws.{cons_same}
use Rattle.logs.specs.Log.{Reply, append, read, drop}
use Rattle.services.specs.Services.{Service, HeapCall, Append, Read, Drop, answered, replied, serve_in, serve, Asked, served_to, responses_by, buffers_by, lent_after_by}
use Rattle.packed.specs.AsPacked.{AllGiven, done, next, served_packed, AsPacked}
use Rattle.services.proofs.Laws.{Acted, log_acted, act, serve_is}

module _ (f g : Form) (calls : CallsAlike f g) where
  -- a program on both
  record RanAlike {A : Type 0} (r r' : Ran A) : Type 0 where
    pub reply : r.reply ≡ r'.reply
    pub memory : HoldSame f g r.memory r'.memory
    pub stack : r.stack ≡ r'.stack

  run_alike : {A : Type 0} (p : Program A) (stack : List ℕ) (m m' : Memory) → HoldSame f g m m' → RanAlike (run f p stack m) (run g p stack m')
  unfolding run
  run_alike (give a) stack m m' h = record { reply = refl; memory = h; stack = refl }
  run_alike (ask c go) stack m m' h =
      let r : Result = perform f c stack m in
      let r' : Result = perform g c stack m' in
      let x = calls c stack m m' h in
      subst (λ (a : Answer). RanAlike (run f (ask c go) stack m) (run g (go (but_rescans a)) (stack_after c r' stack) r'.memory)) x.answer
      (subst (λ (s : List ℕ). RanAlike (run f (ask c go) stack m) (run g (go (but_rescans r.answer)) s r'.memory)) (stacks c r r' x.stack)
      (run_alike (go (but_rescans r.answer)) (stack_after c r stack) r.memory r'.memory x.memory))
    where
      stacks : (c : Call) (r r' : Result) → r.stack ≡ r'.stack → stack_after c r stack ≡ stack_after c r' stack
      stacks c r r' e = rw e

  -- a service on both
  record ActedAlike (x x' : Acted) : Type 0 where
    pub reply : x.reply ≡ x'.reply
    pub memory : HoldSame f g x.memory x'.memory
    pub filled : x.filled ≡ x'.filled
    pub stack : x.stack ≡ x'.stack

  log_alike : {r r' : Ran Reply} → RanAlike r r' → ActedAlike (log_acted r) (log_acted r')
  log_alike x = record { reply = ap replied x.reply; memory = x.memory; filled = refl; stack = x.stack }

  act_alike : (s : Service) (stack : List ℕ) (m m' : Memory) → HoldSame f g m m' → ActedAlike (act f s stack m) (act g s stack m')
  unfolding act
  act_alike (HeapCall c) stack m m' h = let x = calls c stack m m' h in record { reply = ap answered x.answer; memory = x.memory; filled = x.filled; stack = x.stack }
  act_alike (Append base first time tips roots) stack m m' h = log_alike (run_alike (append base first time tips roots stack) stack m m' h)
  act_alike (Read base first index) stack m m' h = log_alike (run_alike (read base first index) stack m m' h)
  act_alike (Drop base first) stack m m' h = log_alike (run_alike (drop base first) stack m m' h)

services : (t : ℕ) (xs : List Asked) (l l' : Lent) → HoldSame packed (planes t) l.memory l'.memory → l.beside ≡ l'.beside → AllGiven t xs
    → (responses_by served_to xs l' ≡ responses_by served_packed xs l) × (buffers_by served_to xs l' ≡ buffers_by served_packed xs l)
    × HoldSame packed (planes t) (lent_after_by served_packed xs l).memory (lent_after_by served_to xs l').memory × ((lent_after_by served_packed xs l).beside ≡ (lent_after_by served_to xs l').beside)
unfolding responses_by buffers_by lent_after_by
services t [] l l' h b done = (refl, refl, h, b)
services t (x ∷ xs) l l' h b (next e all) =
    let s = serve_is packed x.service x.stack l in
    let s' = ap (λ (u : ℕ). served_to (record { t = u; service = x.service; stack = x.stack }) l') e ∙ serve_is (planes t) x.service x.stack l' in
    let a = act_alike packed (planes t) (planes_agree t).calls x.service x.stack l.memory l'.memory h in
    let rest = services t xs (served_packed x l).lent (served_to x l').lent (rw (s, s') a.memory) (rw (s, s') b) all in
    (cons_same (rw (s, s') (sym a.reply)) rest.0, cons_same (rw (s, s') (sym a.filled)) rest.1, rest.2, rest.3)

stacks : (t : ℕ) (s : Service) (stack : List ℕ) (l l' : Lent) → HoldSame packed (planes t) l.memory l'.memory → l.beside ≡ l'.beside → (serve t s stack l').stack ≡ (serve_in packed s stack l).stack
stacks t s stack l l' h b =
    rw (serve_is packed s stack l, serve_is (planes t) s stack l') (sym (act_alike packed (planes t) (planes_agree t).calls s stack l.memory l'.memory h).stack)

pub as_packed : AsPacked
as_packed = record { entries = λ t. (planes_agree t).writing; held_in_planes = held_in_planes; in_packed = in_packed; services = services; stacks = stacks }
