use Rattle.table_engine.proofs.Rising.{over-whole}
use Rattle.table_engine.proofs.laws.a_showdown_has_the_whole_board.Goals as goal

pub returns : goal.returns
returns c = over-whole
