use Rattle.floor_view.proofs.Looked.{start-found, start-missed}
use Rattle.floor_view.proofs.before.before_settle.Goals as goal

pub returns-in-Some : goal.returns-in-Some
returns-in-Some c =
    start-found c.args.tournament.now c.args.table c.in_ok-found.found c.in-Some.start c.in_ok-found.ensures.start
    c.in_ok-found.ensures.lawful c.in-Some.is

pub returns-in-None : goal.returns-in-None
returns-in-None c =
    start-missed c.args.tournament.now c.args.table c.in_ok-found.found c.requires c.in_ok-found.ensures.start
    c.in-None.is
