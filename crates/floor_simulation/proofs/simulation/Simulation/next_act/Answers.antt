use Rattle.std.proofs.Common.{◌∙◌, sym}
use Rattle.floor_simulation.proofs.NextActs.{turn-next}
use Rattle.floor_simulation.proofs.simulation.Simulation.next_act.Goals as goal

pub returns-clause-act : goal.returns-clause-act
returns-clause-act c =
    let now = c.args.self.now in
    let turn = rw c.accepted.ensures at c.sim_turn.ensures in
    turn-next now.seed now.tournament.accepted now.place c.in_ok-hand.hand.now c.sim_turn.result now.tournament.play
    c.in_ok-book.field-0.now turn.name turn.act turn.nobody c.requires.under_way (sym c.in_ok-book.ensures.book)
    (sym c.is_stopped.ensures ∙ c.if-is_stopped.false) (sym c.in_ok-hand.ensures.none) (sym c.in_ok-hand.ensures.hand)
