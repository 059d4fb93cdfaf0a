use Rattle.low_rank.proofs.ChangeLaws.{low-exchange_hole, low-exchange_board}
use Rattle.low_rank.proofs.laws.order_does_not_count.Goals as goal

pub returns : goal.returns
returns c = record {
  hole = λ front a b back board. low-exchange_hole board front a b back;
  board = λ hole front a b back. low-exchange_board hole front a b back;
}
