use Rattle.table_engine.proofs.Tabled.{dealt-apart}
use Rattle.table_engine.proofs.laws.cards_of_a_hand.Goals as goal

pub returns-clause-deck : goal.returns-clause-deck
returns-clause-deck c = λ start lawful. lawful.deck

pub returns-clause-apart : goal.returns-clause-apart
returns-clause-apart c = dealt-apart
