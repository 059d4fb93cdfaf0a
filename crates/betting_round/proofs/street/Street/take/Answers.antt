use Rattle.std.proofs.Common.{rules, ◌≤◌, arith}
use Rattle.betting_round.specs.Running.{amount_of}
use Rattle.betting_round.proofs.Steps.{few_in_pot, few_put, kept_placed}
use Rattle.betting_round.proofs.street.Street.take.Goals as goal

pub moved-after-requires-clause-few : goal.moved-after-requires-clause-few
moved-after-requires-clause-few c =
    let held : amount_of c.args.self.now.level c.in-Some.player c.args.act ≤ c.in-Some.player.bettor.behind =
    rw c.in-Some.is at c.requires.held in
    let few = few_put c.args.self.now c.args.seat c.in-Some.player _ c.requires.kept c.in-Some.is held in
    rw c.amount-amount.ensures (omega arith)

pub overflow_add-self : goal.overflow_add-self
overflow_add-self c =
    let held : amount_of c.args.self.now.level c.in-Some.player c.args.act ≤ c.in-Some.player.bettor.behind =
    rw c.in-Some.is at c.requires.held in
    let few = few_in_pot c.args.self.now c.args.seat c.in-Some.player _ c.requires.kept c.in-Some.is held in
    rw c.amount-amount.ensures (omega arith)

pub returns-clause-kept : goal.returns-clause-kept
returns-clause-kept c =
    let held : amount_of c.args.self.now.level c.in-Some.player c.args.act ≤ c.in-Some.player.bettor.behind =
    rw c.in-Some.is at c.requires.held in
    rw (
      c.max-self-2.ensures,
      c.max-self.ensures,
      c.saturating_sub.ensures,
      c.moved-after.ensures,
      c.amount-amount.ensures,
    )
    (kept_placed c.args.self.now c.args.seat c.in-Some.player c.args.act _ c.requires.kept c.in-Some.is held)

pub returns-clause-stepped : goal.returns-clause-stepped
returns-clause-stepped c = search rules
