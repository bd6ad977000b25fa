-- A list of services, worked out: each is served on what the one before left, with its own t.
-- A heap of four blocks at base 4,096, whose pool and table hold anything before.
-- Assumes nothing.
use Rattle.std.specs.Prelude.{List, [], ◌∷◌, pos, replicate}
use Rattle.rules.specs.Outcomes.{only_refusal, placed_at, surveyed, loaded}
use Rattle.rules.specs.Runs.{Init, Allocate, Survey, Load}
use Rattle.rules.specs.Lent.{Lent, lending}
use Rattle.logs.specs.Log.{logged, readout, declined}
use Rattle.services.specs.Services.{HeapCall, Append, Read, Response, answered, replied, Asked, asked}

abbrev pub anything : Lent
anything = lending (replicate 64 7) (255 ∷ 255 ∷ [])

-- an init, an entry of a log in blocks 0 and 1, a survey, one with another t, an object in block 2, its first word, and the entry
abbrev pub some_services : List Asked
some_services =
    asked 1 (HeapCall (Init 4096)) []
    ∷ asked 1 (Append 4096 0 60 5 []) []
    ∷ asked 1 (HeapCall (Survey 4096)) []
    ∷ asked 2 (Read 4096 4096 0) []
    ∷ asked 1 (HeapCall (Allocate 4096 16)) []
    ∷ asked 1 (HeapCall (Load 4096 2 0)) []
    ∷ asked 1 (Read 4096 4096 0) []
    ∷ []

abbrev pub some_responses : List Response
some_responses =
    answered (only_refusal 0)
    ∷ replied (logged 0 4096 (pos 2))
    ∷ answered (surveyed 2 1 2)
    ∷ replied (declined 1)
    ∷ answered (placed_at 2 (pos 1))
    ∷ answered (loaded 0)
    ∷ replied (readout 0 60 5)
    ∷ []
