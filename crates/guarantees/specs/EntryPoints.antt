-- What is proved of the code that C calls: each entry point meets its contract, and asks nothing of its caller; and its contract says the equation with the service that stands here, for every input.
-- The contracts themselves stand in crates/blockheap/src/lib.rt: with one that says less, or more, this page is not proved. C calls the functions of the same
-- names in the crate blockheap_c, whose specs/Exports.antt says that their contracts are these.
-- Assumes nothing.
use Rattle.std.specs.Prelude.{◌≡◌, List, [], ◌∷◌, ℕ, length as length_of}
use seplogic.Ra.Ura.{Ura}
use base.Logic.{SProp, emp}
use prog.Memory.{Memory}
use prog.Routine.{Routine}
use types.Logic.{Logic}
use contract.Lifetimes.{Lfts}
use contract.Monad.{Fun, fact}
use denote.Exit.{Seen}
use denote.RattleType.{Denots}
use denote.Signature.{Signature, Slot, types_at}
use denote.Triple.Both.{Both}
use denote.Triple.Clauses.{Ended}
use denote.Triple.End.{Kepts, Outs}
use denote.Triple.Entry.{Args, Res}
use denote.Triple.Spec.{Spec, exits}
use Rattle.rules.specs.Outcomes.{only_refusal, placement, collection, findings, reading, writing, opening}
use Rattle.rules.specs.Runs.{Init, Allocate, Free, Reallocate, Collect, Survey, Load, Store, WriteImage, OpenImage}
use Rattle.rules.specs.Lent.{lending, served, into_buffer}
use Rattle.logs.specs.Log.{logged, readout}
use Rattle.services.specs.Services.{HeapCall, Append, Read, Drop, answered, replied, serve}
use Rattle.blockheap.specs.contracts.blockheap_init as init
use Rattle.blockheap.proofs.blockheap_init.Statement as init_statement
use Rattle.blockheap.specs.contracts.blockheap_allocate as allocate
use Rattle.blockheap.proofs.blockheap_allocate.Statement as allocate_statement
use Rattle.blockheap.specs.contracts.blockheap_free as free
use Rattle.blockheap.proofs.blockheap_free.Statement as free_statement
use Rattle.blockheap.specs.contracts.blockheap_reallocate as reallocate
use Rattle.blockheap.proofs.blockheap_reallocate.Statement as reallocate_statement
use Rattle.blockheap.specs.contracts.blockheap_collect as collect
use Rattle.blockheap.proofs.blockheap_collect.Statement as collect_statement
use Rattle.blockheap.specs.contracts.blockheap_survey as survey
use Rattle.blockheap.proofs.blockheap_survey.Statement as survey_statement
use Rattle.blockheap.specs.contracts.blockheap_load as load
use Rattle.blockheap.proofs.blockheap_load.Statement as load_statement
use Rattle.blockheap.specs.contracts.blockheap_store as store
use Rattle.blockheap.proofs.blockheap_store.Statement as store_statement
use Rattle.blockheap.specs.contracts.blockheap_write_image as write_image
use Rattle.blockheap.proofs.blockheap_write_image.Statement as write_image_statement
use Rattle.blockheap.specs.contracts.blockheap_open_image as open_image
use Rattle.blockheap.proofs.blockheap_open_image.Statement as open_image_statement
use Rattle.blockheap.specs.contracts.blockheap_log_append as log_append
use Rattle.blockheap.proofs.blockheap_log_append.Statement as log_append_statement
use Rattle.blockheap.specs.contracts.blockheap_log_read as log_read
use Rattle.blockheap.proofs.blockheap_log_read.Statement as log_read_statement
use Rattle.blockheap.specs.contracts.blockheap_log_drop as log_drop
use Rattle.blockheap.proofs.blockheap_log_drop.Statement as log_drop_statement

-- a function's contract, as the toolchain makes it of its `requires` and `ensures`
abbrev pub Contract : Signature → Type 2
Contract S = (M : Type 1) (𝓤 : Ura M) (𝓛 : Logic 𝓤) (mem : Memory → SProp 𝓤) (run : Routine → Fun 𝓤) → Spec 𝓤 S

-- it asks nothing: whatever the arguments, its precondition is the empty one
abbrev pub AsksNothing : (S : Signature) → Contract S → Type 2
AsksNothing S c =
    (M : Type 1) (𝓤 : Ura M) (𝓛 : Logic 𝓤) (mem : Memory → SProp 𝓤) (run : Routine → Fun 𝓤) (κs : Lfts S.lifetimes) (a : Args S κs)
    → (g : (c M 𝓤 𝓛 mem run κs a).ghost) × ((c M 𝓤 𝓛 mem run κs a).requires g ≡ emp 𝓤)

-- a function of the parameters, each with its value on entry and at exit, to R
abbrev pub OfEach : {n : ℕ} → Lfts n → (ss : List (Slot n)) → Kepts ss → Type 1 → Type 1
OfEach κs [] ks R = R
OfEach κs (s ∷ ss) ks R = Both (s.row κs).Denot (Seen ((s.row κs).exit ks.0)) → OfEach κs ss ks.1 R

-- its value at the parameters that were a on entry and are e at exit
abbrev pub at_each : {n : ℕ} (κs : Lfts n) (ss : List (Slot n)) (ks : Kepts ss) {R : Type 1} → OfEach κs ss ks R → Denots (types_at ss κs) → Outs κs ss ks → R
at_each κs [] ks f a e = f
at_each κs (s ∷ ss) ks f a e = at_each κs ss ks.1 (f (record { entry = a.0; exit = e.0 })) a.1 e.1

-- it says this: what it ensures is `said` of its parameters and its result r, neither less nor more. κs are the lifetimes of its references
abbrev pub Says : (T : Ended) → Contract T.signature → ((κs : Lfts T.signature.lifetimes) → OfEach κs T.signature.params T.kept (Res T.signature κs → Type 0)) → Type 2
Says T c said =
    (M : Type 1) (𝓤 : Ura M) (𝓛 : Logic 𝓤) (mem : Memory → SProp 𝓤) (run : Routine → Fun 𝓤) (κs : Lfts T.signature.lifetimes) (a : Args T.signature κs)
    → (g : (c M 𝓤 𝓛 mem run κs a).ghost) (r : Res T.signature κs)
    → (c M 𝓤 𝓛 mem run κs a).ensures g r ≡ exits 𝓛 T.signature T.kept κs a (λ e. fact 𝓤 (at_each κs T.signature.params T.kept (said κs) a e r))

pub record EntryPoints : Type 2 where
  -- of each function: it meets its contract; the contract asks nothing; and it says that what is answered and all that was lent at exit are those of the service
  pub init_meets : {M : Type 1} → init_statement.statement M
  pub init_asks_nothing : AsksNothing init.signature (λ M 𝓤. init.spec {M = M} {𝓤 = 𝓤})
  pub init_says : Says init.ended (λ M 𝓤. init.spec {M = M} {𝓤 = 𝓤}) (λ κs base t pool table r.
      served (answered (only_refusal r)) (lending pool.entry.now table.exit.now) [] []
      ≡ serve t.entry (HeapCall (Init base.entry)) [] (lending pool.entry.now table.entry.now))
  pub allocate_meets : {M : Type 1} → allocate_statement.statement M
  pub allocate_asks_nothing : AsksNothing allocate.signature (λ M 𝓤. allocate.spec {M = M} {𝓤 = 𝓤})
  pub allocate_says : Says allocate.ended (λ M 𝓤. allocate.spec {M = M} {𝓤 = 𝓤}) (λ κs base t pool table bytes block change r.
      served (answered (placement r block.exit.now change.exit.now)) (lending pool.exit.now table.exit.now) [] []
      ≡ serve t.entry (HeapCall (Allocate base.entry bytes.entry)) [] (lending pool.entry.now table.entry.now))
  pub free_meets : {M : Type 1} → free_statement.statement M
  pub free_asks_nothing : AsksNothing free.signature (λ M 𝓤. free.spec {M = M} {𝓤 = 𝓤})
  pub free_says : Says free.ended (λ M 𝓤. free.spec {M = M} {𝓤 = 𝓤}) (λ κs base t pool table block change r.
      served (answered (placement r 0 change.exit.now)) (lending pool.entry.now table.exit.now) [] []
      ≡ serve t.entry (HeapCall (Free base.entry block.entry)) [] (lending pool.entry.now table.entry.now))
  pub reallocate_meets : {M : Type 1} → reallocate_statement.statement M
  pub reallocate_asks_nothing : AsksNothing reallocate.signature (λ M 𝓤. reallocate.spec {M = M} {𝓤 = 𝓤})
  pub reallocate_says : Says reallocate.ended (λ M 𝓤. reallocate.spec {M = M} {𝓤 = 𝓤}) (λ κs base t pool table block bytes new_block change r.
      served (answered (placement r new_block.exit.now change.exit.now)) (lending pool.exit.now table.exit.now) [] []
      ≡ serve t.entry (HeapCall (Reallocate base.entry block.entry bytes.entry)) [] (lending pool.entry.now table.entry.now))
  pub collect_meets : {M : Type 1} → collect_statement.statement M
  pub collect_asks_nothing : AsksNothing collect.signature (λ M 𝓤. collect.spec {M = M} {𝓤 = 𝓤})
  pub collect_says : Says collect.ended (λ M 𝓤. collect.spec {M = M} {𝓤 = 𝓤}) (λ κs base t pool table roots stack kept rescans change r.
      served (answered (collection r kept.exit.now rescans.exit.now change.exit.now)) (lending pool.entry.now table.exit.now) stack.exit.now []
      ≡ serve t.entry (HeapCall (Collect base.entry roots.entry.now)) stack.entry.now (lending pool.entry.now table.entry.now))
  pub survey_meets : {M : Type 1} → survey_statement.statement M
  pub survey_asks_nothing : AsksNothing survey.signature (λ M 𝓤. survey.spec {M = M} {𝓤 = 𝓤})
  pub survey_says : Says survey.ended (λ M 𝓤. survey.spec {M = M} {𝓤 = 𝓤}) (λ κs base t pool table used objects longest r.
      served (answered (findings r used.exit.now objects.exit.now longest.exit.now)) (lending pool.entry.now table.entry.now) [] []
      ≡ serve t.entry (HeapCall (Survey base.entry)) [] (lending pool.entry.now table.entry.now))
  pub load_meets : {M : Type 1} → load_statement.statement M
  pub load_asks_nothing : AsksNothing load.signature (λ M 𝓤. load.spec {M = M} {𝓤 = 𝓤})
  pub load_says : Says load.ended (λ M 𝓤. load.spec {M = M} {𝓤 = 𝓤}) (λ κs base t pool table block word value r.
      served (answered (reading r value.exit.now)) (lending pool.entry.now table.entry.now) [] []
      ≡ serve t.entry (HeapCall (Load base.entry block.entry word.entry)) [] (lending pool.entry.now table.entry.now))
  pub store_meets : {M : Type 1} → store_statement.statement M
  pub store_asks_nothing : AsksNothing store.signature (λ M 𝓤. store.spec {M = M} {𝓤 = 𝓤})
  pub store_says : Says store.ended (λ M 𝓤. store.spec {M = M} {𝓤 = 𝓤}) (λ κs base t pool table block word value r.
      served (answered (only_refusal r)) (lending pool.exit.now table.entry.now) [] []
      ≡ serve t.entry (HeapCall (Store base.entry block.entry word.entry value.entry)) [] (lending pool.entry.now table.entry.now))
  pub write_image_meets : {M : Type 1} → write_image_statement.statement M
  pub write_image_asks_nothing : AsksNothing write_image.signature (λ M 𝓤. write_image.spec {M = M} {𝓤 = 𝓤})
  pub write_image_says : Says write_image.ended (λ M 𝓤. write_image.spec {M = M} {𝓤 = 𝓤}) (λ κs base t pool table roots image length r.
      served (answered (writing r length.exit.now)) (lending pool.entry.now table.entry.now) [] image.exit.now
      ≡ into_buffer image.entry.now (serve t.entry (HeapCall (WriteImage base.entry roots.entry.now (length_of image.entry.now))) [] (lending pool.entry.now table.entry.now)))
  pub open_image_meets : {M : Type 1} → open_image_statement.statement M
  pub open_image_asks_nothing : AsksNothing open_image.signature (λ M 𝓤. open_image.spec {M = M} {𝓤 = 𝓤})
  pub open_image_says : Says open_image.ended (λ M 𝓤. open_image.spec {M = M} {𝓤 = 𝓤}) (λ κs image t pool table roots base count r.
      served (answered (opening r base.exit.now count.exit.now)) (lending pool.exit.now table.exit.now) [] roots.exit.now
      ≡ into_buffer roots.entry.now (serve t.entry (HeapCall (OpenImage image.entry.now (length_of roots.entry.now))) [] (lending pool.entry.now table.entry.now)))
  pub log_append_meets : {M : Type 1} → log_append_statement.statement M
  pub log_append_asks_nothing : AsksNothing log_append.signature (λ M 𝓤. log_append.spec {M = M} {𝓤 = 𝓤})
  pub log_append_says : Says log_append.ended (λ M 𝓤. log_append.spec {M = M} {𝓤 = 𝓤}) (λ κs base t pool table first time tips roots stack new_first change r.
      served (replied (logged r new_first.exit.now change.exit.now)) (lending pool.exit.now table.exit.now) stack.exit.now []
      ≡ serve t.entry (Append base.entry first.entry time.entry tips.entry roots.entry.now) stack.entry.now (lending pool.entry.now table.entry.now))
  pub log_read_meets : {M : Type 1} → log_read_statement.statement M
  pub log_read_asks_nothing : AsksNothing log_read.signature (λ M 𝓤. log_read.spec {M = M} {𝓤 = 𝓤})
  pub log_read_says : Says log_read.ended (λ M 𝓤. log_read.spec {M = M} {𝓤 = 𝓤}) (λ κs base t pool table first index time tips r.
      served (replied (readout r time.exit.now tips.exit.now)) (lending pool.entry.now table.entry.now) [] []
      ≡ serve t.entry (Read base.entry first.entry index.entry) [] (lending pool.entry.now table.entry.now))
  pub log_drop_meets : {M : Type 1} → log_drop_statement.statement M
  pub log_drop_asks_nothing : AsksNothing log_drop.signature (λ M 𝓤. log_drop.spec {M = M} {𝓤 = 𝓤})
  pub log_drop_says : Says log_drop.ended (λ M 𝓤. log_drop.spec {M = M} {𝓤 = 𝓤}) (λ κs base t pool table first new_first change r.
      served (replied (logged r new_first.exit.now change.exit.now)) (lending pool.entry.now table.exit.now) [] []
      ≡ serve t.entry (Drop base.entry first.entry) [] (lending pool.entry.now table.entry.now))
