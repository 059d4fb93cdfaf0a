-- What a worker's stage says. This project's own.
use Rattle.std.specs.Prelude.{Bool, true, false, Option, Some, None}
use Rattle.table_engine.specs.Hands.{HandTerms}
use Rattle.dock_rules.specs.declared.asks.AskAnswer.{AskAnswer}
use Rattle.dock_rules.specs.declared.asks.AskAnswer.TheVariants.{NoOrder}
use Rattle.table_worker.specs.declared.stage.Stage.{Stage}
use Rattle.table_worker.specs.declared.stage.Stage.TheVariants.{Free, Asking, Carrying, Lying, Ended}

-- the hand that was begun and is still to be brought to the table, if there is one
abbrev pub hand_carried : Stage → Option HandTerms
hand_carried (Carrying hand) = Some hand
hand_carried stage = None

-- whether the hand lies at the table
abbrev pub does_lie : Stage → Bool
does_lie Lying = true
does_lie stage = false

-- whether the order that is owed is asked for before the next hand
abbrev pub does_ask : Stage → Bool
does_ask Asking = true
does_ask stage = false

-- Whether a turn looks first whether the tournament was stopped. A worker with no hand need not: then what it asks for
-- is refused.
abbrev pub looks_first : Stage → Bool
looks_first Free = false
looks_first Asking = false
looks_first stage = true

-- whether the worker is done
abbrev pub is_done : Stage → Bool
is_done Ended = true
is_done stage = false

-- whether the order that is owed is asked for again after an answer: until none is owed
abbrev pub asks_again : AskAnswer → Bool
asks_again NoOrder = false
asks_again answer = true
