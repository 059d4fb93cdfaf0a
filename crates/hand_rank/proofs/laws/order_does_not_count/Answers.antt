use Rattle.hand_rank.proofs.ChangeLaws.{holdem-exchange_hole, holdem-exchange_board, omaha-exchange_of_hole, omaha-exchange_of_board}
use Rattle.hand_rank.proofs.laws.order_does_not_count.Goals as goal

pub returns : goal.returns
returns c = record {
  hole_of_holdem = λ front a b back board. holdem-exchange_hole board front a b back;
  board_of_holdem = λ hole front a b back. holdem-exchange_board hole front a b back;
  hole_of_omaha = λ front a b back board. omaha-exchange_of_hole board front a b back;
  board_of_omaha = λ hole front a b back. omaha-exchange_of_board hole front a b back;
}
