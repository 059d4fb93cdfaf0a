use Rattle.deal_order.proofs.Apart.{player-rising}
use Rattle.deal_order.proofs.laws.a_player_and_the_board_have_other_cards.Goals as goal

pub returns : goal.returns
returns c = player-rising
