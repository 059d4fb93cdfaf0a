use Rattle.std.proofs.Common.{[]}
use Rattle.table_engine.proofs.NoCards.{due-deck, refusal-deck, done-deck, time-deck, lawful-deck, play-deck, start-deck}
use Rattle.table_engine.proofs.laws.cards_do_not_bet.Goals as goal

pub returns-clause-due : goal.returns-clause-due
returns-clause-due c = due-deck

pub returns-clause-refusal : goal.returns-clause-refusal
returns-clause-refusal c = refusal-deck

pub returns-clause-done : goal.returns-clause-done
returns-clause-done c = done-deck

pub returns-clause-time : goal.returns-clause-time
returns-clause-time c = time-deck

pub returns-clause-play : goal.returns-clause-play
returns-clause-play c = λ start deck acts. lawful-deck start deck [] acts

pub returns-clause-start : goal.returns-clause-start
returns-clause-start c = start-deck

pub returns-clause-lawful : goal.returns-clause-lawful
returns-clause-lawful c = play-deck
