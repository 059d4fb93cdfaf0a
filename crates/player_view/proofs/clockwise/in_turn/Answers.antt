use Rattle.player_view.proofs.Halves.{halves-are}
use Rattle.player_view.proofs.clockwise.in_turn.Goals as goal

pub returns-clause-turn : goal.returns-clause-turn
returns-clause-turn c = (halves-are c.args.start.now c.items-players.result.now c.count_before-before.result c.requires
    c.items-players.ensures c.count_before-before.ensures.count).turn

pub returns-clause-first : goal.returns-clause-first
returns-clause-first c = (halves-are c.args.start.now c.items-players.result.now c.count_before-before.result c.requires
    c.items-players.ensures c.count_before-before.ensures.count).first_sit

pub returns-clause-last : goal.returns-clause-last
returns-clause-last c = (halves-are c.args.start.now c.items-players.result.now c.count_before-before.result c.requires
    c.items-players.ensures c.count_before-before.ensures.count).last_sit
