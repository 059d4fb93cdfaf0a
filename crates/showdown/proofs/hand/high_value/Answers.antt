use Rattle.std.proofs.Common.{◌++◌, List, subst, sym}
use Rattle.card_set.specs.declared.card.Card.{Card}
use Rattle.card_set.specs.declared.game.Game.{Game}
use Rattle.card_choices.specs.Choices.{AreDistinct}
use Rattle.showdown.specs.Hands.{hole_cards}
use Rattle.showdown.proofs.Writes.{first-two}
use Rattle.showdown.proofs.hand.high_value.Goals as goal

pub best_holdem-requires : goal.best_holdem-requires
best_holdem-requires c = record {
  distinct =
      subst (λ (two : List Card). AreDistinct (two ++ c.args.board))
      (sym (first-two c.args.player.hole c.index-player-0.result c.index-player-1.result c.args.player.four))
      (subst (λ (game : Game). AreDistinct (hole_cards game c.args.player ++ c.args.board)) c.in-Holdem.is c.requires);
}
