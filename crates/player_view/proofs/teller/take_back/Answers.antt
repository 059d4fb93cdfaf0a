use Rattle.std.proofs.Common.{◌≡◌, ◌-◌, length, take, arith}
use Rattle.std.proofs.lemmas.Grind.{common_steps}
use Rattle.player_view.proofs.Telling.{playable-without_last}
use Rattle.player_view.proofs.teller.take_back.Goals as goal

pub returns-clause-playable : goal.returns-clause-playable
returns-clause-playable c =
    let hand = c.args.hand in
    let acts : c.from_vec.result ≡ take (length hand.acts - 1) hand.acts =
    grind (arith, common_steps) in
    rw (c.into_parts-start.ensures.start, acts)
    (playable-without_last hand c.into_parts-start.ensures.lawful c.into_parts-start.ensures.played)
