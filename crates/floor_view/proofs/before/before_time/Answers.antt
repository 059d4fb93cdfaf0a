use Rattle.std.proofs.Common.{refl}
use Rattle.tournament_events.specs.declared.event.Event.TheVariants as events
use Rattle.floor_view.proofs.Looked.{turn-found, turn-missed}
use Rattle.floor_view.proofs.before.before_time.Goals as goal

pub returns-in-Some : goal.returns-in-Some
returns-in-Some c =
    turn-found c.args.tournament.now c.args.table (events.Time c.args.table) c.turn_of_time.result c.in-Some.turn refl
    c.turn_of_time.ensures c.in-Some.is

pub returns-in-None : goal.returns-in-None
returns-in-None c =
    turn-missed c.args.tournament.now c.args.table (events.Time c.args.table) c.turn_of_time.result c.requires refl
    c.turn_of_time.ensures c.in-None.is
