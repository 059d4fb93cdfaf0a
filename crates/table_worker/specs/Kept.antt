-- What holds of a worker between two turns. This project's own.
use Rattle.std.specs.Prelude.{◌≡◌, ℕ, List, true, false}
use Rattle.view_rules.specs.declared.entries.JournalEntry.{JournalEntry}
use Rattle.view_rules.specs.declared.entries.TableEntry.{TableEntry}
use Rattle.table_worker.specs.declared.stage.Stage.{Stage}
use Rattle.table_worker.specs.Stages.{does_lie, hand_carried, is_done}
use Rattle.table_worker.specs.Ties.{IsBrought, IsTied}

-- Until a worker is done, its hands are tied to those of its table.
abbrev pub TiedUntilDone : ℕ → ℕ → Stage → List JournalEntry → List TableEntry → Type 0
TiedUntilDone caller table stage journal history =
    is_done stage ≡ false → IsTied caller table journal history (hand_carried stage) (does_lie stage)

-- Once it is done, the tournament was stopped.
abbrev pub BroughtAtEnd : ℕ → ℕ → Stage → List JournalEntry → List TableEntry → Type 0
BroughtAtEnd caller table stage journal history =
    is_done stage ≡ true → IsBrought caller table journal history
