use Rattle.std.proofs.Common.{◌∙◌}
use Rattle.betting_round.proofs.Steps.{street_more_acts}
use Rattle.betting_round.proofs.Turns.{allowed-covered, allowed-due, due-high, due-low, due-sits}
use Rattle.betting_round.proofs.round.Round.take.Goals as goal

pub take-requires-clause-first : goal.take-requires-clause-first
take-requires-clause-first c =
    due-low c.self.inside.street c.args.seat
    (allowed-due c.self.inside.street c.args.seat c.args.act (rw (← c.self.view_is) at c.requires))

pub take-requires-clause-last : goal.take-requires-clause-last
take-requires-clause-last c =
    due-high c.self.inside.street c.args.seat
    (allowed-due c.self.inside.street c.args.seat c.args.act (rw (← c.self.view_is) at c.requires))

pub take-requires-clause-held : goal.take-requires-clause-held
take-requires-clause-held c =
    allowed-covered c.self.inside.street c.args.seat c.args.act (rw (← c.self.view_is) at c.requires)

pub returns : goal.returns
returns c =
    let due =
    allowed-due c.self.inside.street c.args.seat c.args.act (rw (← c.self.view_is) at c.requires) in
    record {
      after = λ start acts right is.
          c.take.ensures.stepped
          ∙ street_more_acts c.self.inside.street c.args.seat c.args.act
          (due-low c.self.inside.street c.args.seat due) (due-sits c.self.inside.street c.args.seat due) start acts
          right (c.self.view_is ∙ is);
    }
