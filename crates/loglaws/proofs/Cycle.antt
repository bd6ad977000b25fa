-- The log is a plain list of pairs: what holds of the heap after an init and after every deed, and that each deed keeps it. Only promises are used, never how a call is defined.
-- Assumes nothing.
use mathlib.Core.Path.{◌≡◌, refl, ap, ap₂, sym, subst, ◌∙◌}
use mathlib.Core.List.{List, [], ◌∷◌, map}
use Prim.Native.Nat.{ℕ}
use native.Mathlib.Omega.{arith}
use Rattle.rules.specs.Outcomes.{Heap}
use Rattle.rules.specs.Calls.{init}
use Rattle.rules.specs.Forms.{Form}
use Rattle.rules.specs.Planes.{planes}
use Rattle.rules.specs.Runs.{Init, step}
use Rattle.rules.specs.Memory.{Memory, heap_in, AcceptedIn, perform}
use Rattle.laws.proofs.Planes.{planes_faithful}
use Rattle.laws.proofs.Memory.{follows_accepted}
use Rattle.promises.proofs.Promised.{promises}
use Rattle.promises.proofs.Bytes.{on_bytes}
use Rattle.programs.specs.Programs.{Ran}
use Rattle.logs.specs.Log.{Reply}
use Rattle.loglaws.specs.Chains.{ends}
use Rattle.loglaws.specs.Pairs.{Pair, read_pairs}
use Rattle.loglaws.specs.Cycle.{Deed, Append, Drop, ran_to, first_by, replies_to, first_after, memory_after, told, told_on, pairs_on, told_by, pairs_after, InWords, AllInWords, done, next, room_in, LogIsList}
use Rattle.loglaws.proofs.Lasting.{sound_survey}
use Rattle.loglaws.proofs.Reading.{read_as}
use Rattle.loglaws.proofs.Paired.{free_paired}
use Rattle.loglaws.proofs.EachDeed.{Only, Logged, as_on_list, append_does, drop_does}

-- ---- every deed

-- each deed is as on the list
deed : (t base : ℕ) (m : Memory) (first : ℕ) (ps : List Pair) (d : Deed) → InWords d → Logged t base m first ps
    → let r : Ran Reply = ran_to (planes t) base d first m in
    Logged t base r.memory (first_by first r.reply) (pairs_on (room_in t) d ps) × (told r.reply ≡ told_on (room_in t) d ps)
unfolding InWords
deed t base m first ps (Append time tips roots stack) small l =
    as_on_list t base m first ps l (Append time tips roots stack) (append_does t base m first ps l time tips roots stack small.0 small.1)
deed t base m first ps Drop small l = as_on_list t base m first ps l Drop (drop_does t base m first ps l)

-- and so is a list of them
deeds : (t base : ℕ) (m : Memory) (first : ℕ) (ps : List Pair) (ds : List Deed) → AllInWords ds → Logged t base m first ps
    → (map told (replies_to (planes t) base ds first m) ≡ told_by (room_in t) ds ps)
    × Logged t base (memory_after (planes t) base ds first m) (first_after (planes t) base ds first m) (pairs_after (room_in t) ds ps)
unfolding replies_to first_after memory_after told_by pairs_after
deeds t base m first ps [] done l = (refl, l)
deeds t base m first ps (d ∷ ds) (next small rest) l =
    let x = deed t base m first ps d small l in
    let r : Ran Reply = ran_to (planes t) base d first m in
    let y = deeds t base r.memory (first_by first r.reply) (pairs_on (room_in t) d ps) ds rest x.0 in
    (ap₂ ◌∷◌ x.1 y.0, y.1)

-- after an init the log is empty
started : (t base : ℕ) (m : Memory) → AcceptedIn (perform (planes t) (Init base) [] m) → Logged t base (perform (planes t) (Init base) [] m).memory 0 []
unfolding step
started t base m accepted =
    let f : Form = planes t in
    let x = follows_accepted f (planes_faithful t) (Init base) [] m accepted in
    let p = promises.initialised base (heap_in f m) (on_bytes.accepted_bytes f (Init base) [] m accepted).0 in
    record {
      sound = x.sound accepted;
      written = x.written accepted;
      only =
          subst (λ (g : Heap). Only base g 0 []) (sym x.heap)
          (record {
            good = p.good;
            entries = [];
            chain = ends;
            all = λ o object. absurd (omega (arith, object, p.free o));
            paired = free_paired (init base (heap_in f m)).heap.entries p.free;
            counted = omega (arith, p.none_used);
            are = refl;
          });
    }

pub log_is_list : LogIsList
unfolding LogIsList
log_is_list t base m ds small accepted =
    let x = deeds t base (perform (planes t) (Init base) [] m).memory 0 [] ds small (started t base m accepted) in
    let l = x.1 in (
      x.0,
      λ index.
          read_as (planes t) (planes_faithful t) base _ index [] _ (sound_survey (planes t) (planes_faithful t) base _ l.sound l.only.good) l.only.entries l.only.chain
          ∙ ap (λ (ps : List Pair). read_pairs ps index) l.only.are,
    )
