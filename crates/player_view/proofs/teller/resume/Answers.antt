use Rattle.std.proofs.Common.{◌∙◌, sym}
use Rattle.player_view.proofs.Telling.{playable-again}
use Rattle.player_view.proofs.teller.resume.Goals as goal

pub play_again-requires : goal.play_again-requires
play_again-requires c = playable-again c.args.told.now c.in-Again-replace.kept
    (sym c.replace.ensures.value ∙ c.in-Again-replace.is) c.requires
