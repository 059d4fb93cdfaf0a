use Rattle.player_view.proofs.Taking.{act-time, only-memory}
use Rattle.player_view.proofs.teller.play.Goals as goal

pub returns-then-act-clause-memory : goal.returns-then-act-clause-memory
returns-then-act-clause-memory c = only-memory c.time.result
    (act-time c.args.hand.now c.args.act.now.name c.args.act.now.act c.requires.free) c.time.ensures.answer
