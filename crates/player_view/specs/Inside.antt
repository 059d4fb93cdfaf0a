-- What contracts see of a teller. This project's own.
use Rattle.view_rules.specs.Entries.{TableTold}
use Rattle.player_view.specs.declared.teller.TableTeller.TheInside.{Inside}
use Rattle.player_view.specs.Tellers.{IsTelling, hand_of}

-- the table, who is told, and the hand as far as it was told
abbrev pub told_by : Inside → TableTold
told_by fields = record { table = fields.table; who = fields.who; hand = hand_of fields.told }

-- a hand that is to be played again can be
abbrev pub tells_lawfully : Inside → Type 0
tells_lawfully fields = IsTelling fields.told
