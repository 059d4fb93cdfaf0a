use Rattle.std.proofs.Common.{◌≡◌, ◌∙◌, ℕ, ◌+◌, true, ap, sym, arith}
use Rattle.betting_round.specs.StreetActs.{put_by_all}
use Rattle.table_engine.specs.contracts.hand.Hand.{the_view}
use Rattle.table_engine.specs.declared.awards.Awards.TheVariants.{Sole}
use Rattle.table_engine.specs.Results.{is_won_by_folds, pot}
use Rattle.table_engine.proofs.Chips.{pot-is}
use Rattle.table_engine.proofs.Puts.{hand-few}
use Rattle.table_engine.proofs.Showdowns.{put-pot}
use Rattle.table_engine.proofs.hand.Hand.awards.Goals as goal

pub returns-then-is_won_by_folds-clause-awards : goal.returns-then-is_won_by_folds-clause-awards
returns-then-is_won_by_folds-clause-awards c =
    let hand = the_view c.self.inside in
    let won : is_won_by_folds hand ≡ true = rw (← c.self.view_is) at (sym c.if-is_won_by_folds.ensures) in
    let put = c.put.ensures.put ∙ ap put_by_all c.self.invariant.at.round in
    let before = c.self.invariant.at.before in
    let all = pot-is hand c.self.invariant.lawful c.self.invariant.played in
    let same : c.self.inside.betting.before + c.put.result ≡ pot hand = omega arith in
    rw (← c.self.view_is) (rw won (ap (λ (n : ℕ). Sole n) same))

pub returns-then-is_won_by_folds-clause-most : goal.returns-then-is_won_by_folds-clause-most
returns-then-is_won_by_folds-clause-most c =
    let hand = the_view c.self.inside in
    let put = c.put.ensures.put ∙ ap put_by_all c.self.invariant.at.round in
    let before = c.self.invariant.at.before in
    let all = pot-is hand c.self.invariant.lawful c.self.invariant.played in
    let puts = put-pot hand c.self.invariant.lawful in
    let few = hand-few hand c.self.invariant.lawful c.self.invariant.played in
    let chips = c.self.invariant.lawful.chips in
    omega arith
