use Rattle.std.proofs.Common.{◌∙◌, ap}
use Rattle.std.specs.Prelude.{find}
use Rattle.tournament_rules.specs.Moving.{is_called}
use Rattle.floor_book.proofs.Moved.{called-sits, called-entry}
use Rattle.floor_book.proofs.moving.find_called.Goals as goal

pub returns-clause-sits : goal.returns-clause-sits
returns-clause-sits c =
    called-sits c.args.seats.now c.args.table c.args.name c.find_in_slots.result c.table_slots.ensures.lawful
    (c.find_in_slots.ensures ∙ ap (find (is_called c.args.name)) c.table_slots.ensures.players)

pub returns-clause-entry : goal.returns-clause-entry
returns-clause-entry c =
    called-entry c.args.seats.now c.args.table c.args.name c.find_in_slots.result c.table_slots.ensures.lawful
    (c.find_in_slots.ensures ∙ ap (find (is_called c.args.name)) c.table_slots.ensures.players)
