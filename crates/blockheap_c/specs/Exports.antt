-- What a C program calls promises what the function of the same name in the crate blockheap does, no less and no more: the two contracts are one.
-- So what the page of the crate guarantees says of those contracts is said of what C calls; that each function here meets its contract is what proves this crate.
-- Assumes nothing.
use Rattle.std.specs.Prelude.{◌≡◌}
use seplogic.Ra.Ura.{Ura}
use base.Logic.{SProp}
use prog.Memory.{Memory}
use prog.Routine.{Routine}
use types.Logic.{Logic}
use contract.Monad.{Fun}
use denote.Signature.{Signature}
use denote.Triple.Spec.{Spec}
use Rattle.blockheap.specs.contracts.blockheap_init as init
use Rattle.blockheap_c.specs.contracts.blockheap_init as init_for_c
use Rattle.blockheap.specs.contracts.blockheap_allocate as allocate
use Rattle.blockheap_c.specs.contracts.blockheap_allocate as allocate_for_c
use Rattle.blockheap.specs.contracts.blockheap_free as free
use Rattle.blockheap_c.specs.contracts.blockheap_free as free_for_c
use Rattle.blockheap.specs.contracts.blockheap_reallocate as reallocate
use Rattle.blockheap_c.specs.contracts.blockheap_reallocate as reallocate_for_c
use Rattle.blockheap.specs.contracts.blockheap_collect as collect
use Rattle.blockheap_c.specs.contracts.blockheap_collect as collect_for_c
use Rattle.blockheap.specs.contracts.blockheap_survey as survey
use Rattle.blockheap_c.specs.contracts.blockheap_survey as survey_for_c
use Rattle.blockheap.specs.contracts.blockheap_load as load
use Rattle.blockheap_c.specs.contracts.blockheap_load as load_for_c
use Rattle.blockheap.specs.contracts.blockheap_store as store
use Rattle.blockheap_c.specs.contracts.blockheap_store as store_for_c
use Rattle.blockheap.specs.contracts.blockheap_write_image as write_image
use Rattle.blockheap_c.specs.contracts.blockheap_write_image as write_image_for_c
use Rattle.blockheap.specs.contracts.blockheap_open_image as open_image
use Rattle.blockheap_c.specs.contracts.blockheap_open_image as open_image_for_c
use Rattle.blockheap.specs.contracts.blockheap_log_append as log_append
use Rattle.blockheap_c.specs.contracts.blockheap_log_append as log_append_for_c
use Rattle.blockheap.specs.contracts.blockheap_log_read as log_read
use Rattle.blockheap_c.specs.contracts.blockheap_log_read as log_read_for_c
use Rattle.blockheap.specs.contracts.blockheap_log_drop as log_drop
use Rattle.blockheap_c.specs.contracts.blockheap_log_drop as log_drop_for_c

-- a function's contract, as the toolchain makes it of its `requires` and `ensures`
abbrev pub Contract : Signature → Type 2
Contract S = (M : Type 1) (𝓤 : Ura M) (𝓛 : Logic 𝓤) (mem : Memory → SProp 𝓤) (run : Routine → Fun 𝓤) → Spec 𝓤 S

-- two contracts of functions with one signature are the same
abbrev pub Same : (S : Signature) → Contract S → Contract S → Type 2
Same S c d = c ≡ d

pub record Exports : Type 2 where
  pub init_same : Same init.signature (λ M 𝓤. init_for_c.spec {M = M} {𝓤 = 𝓤}) (λ M 𝓤. init.spec {M = M} {𝓤 = 𝓤})
  pub allocate_same : Same allocate.signature (λ M 𝓤. allocate_for_c.spec {M = M} {𝓤 = 𝓤}) (λ M 𝓤. allocate.spec {M = M} {𝓤 = 𝓤})
  pub free_same : Same free.signature (λ M 𝓤. free_for_c.spec {M = M} {𝓤 = 𝓤}) (λ M 𝓤. free.spec {M = M} {𝓤 = 𝓤})
  pub reallocate_same : Same reallocate.signature (λ M 𝓤. reallocate_for_c.spec {M = M} {𝓤 = 𝓤}) (λ M 𝓤. reallocate.spec {M = M} {𝓤 = 𝓤})
  pub collect_same : Same collect.signature (λ M 𝓤. collect_for_c.spec {M = M} {𝓤 = 𝓤}) (λ M 𝓤. collect.spec {M = M} {𝓤 = 𝓤})
  pub survey_same : Same survey.signature (λ M 𝓤. survey_for_c.spec {M = M} {𝓤 = 𝓤}) (λ M 𝓤. survey.spec {M = M} {𝓤 = 𝓤})
  pub load_same : Same load.signature (λ M 𝓤. load_for_c.spec {M = M} {𝓤 = 𝓤}) (λ M 𝓤. load.spec {M = M} {𝓤 = 𝓤})
  pub store_same : Same store.signature (λ M 𝓤. store_for_c.spec {M = M} {𝓤 = 𝓤}) (λ M 𝓤. store.spec {M = M} {𝓤 = 𝓤})
  pub write_image_same : Same write_image.signature (λ M 𝓤. write_image_for_c.spec {M = M} {𝓤 = 𝓤}) (λ M 𝓤. write_image.spec {M = M} {𝓤 = 𝓤})
  pub open_image_same : Same open_image.signature (λ M 𝓤. open_image_for_c.spec {M = M} {𝓤 = 𝓤}) (λ M 𝓤. open_image.spec {M = M} {𝓤 = 𝓤})
  pub log_append_same : Same log_append.signature (λ M 𝓤. log_append_for_c.spec {M = M} {𝓤 = 𝓤}) (λ M 𝓤. log_append.spec {M = M} {𝓤 = 𝓤})
  pub log_read_same : Same log_read.signature (λ M 𝓤. log_read_for_c.spec {M = M} {𝓤 = 𝓤}) (λ M 𝓤. log_read.spec {M = M} {𝓤 = 𝓤})
  pub log_drop_same : Same log_drop.signature (λ M 𝓤. log_drop_for_c.spec {M = M} {𝓤 = 𝓤}) (λ M 𝓤. log_drop.spec {M = M} {𝓤 = 𝓤})
