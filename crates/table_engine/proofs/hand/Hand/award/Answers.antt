use Rattle.std.proofs.Common.{◌∙◌, ap}
use Rattle.table_engine.specs.declared.awards.Awards.{Awards}
use Rattle.table_engine.specs.Awards.{award_in}
use Rattle.table_engine.proofs.ChipsAfter.{award-is}
use Rattle.table_engine.proofs.hand.Hand.award.Goals as goal

pub returns : goal.returns
returns c =
    let hand = c.args.self.now in
    let player = c.args.player.now in
    c.award_in.ensures
    ∙ ap (λ (awards : Awards). award_in awards player.seat c.is_live.result) c.awards.ensures.awards
    ∙ ap (award_in _ player.seat) c.is_live.ensures
    ∙ award-is hand player
