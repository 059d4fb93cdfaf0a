use Rattle.std.proofs.Common.{arith}
use Rattle.place_list.proofs.laws.a_later_entry_moves_each_place_by_one.Goals as goal

pub returns : goal.returns
returns c entries busts bust within = omega (arith, within)
