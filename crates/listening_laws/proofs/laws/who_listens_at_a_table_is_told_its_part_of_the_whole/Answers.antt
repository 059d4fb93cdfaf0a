use Rattle.listening_laws.proofs.TheParts.{part-all, part-but_last, part-first}
use Rattle.listening_laws.proofs.laws.who_listens_at_a_table_is_told_its_part_of_the_whole.Goals as goal

pub returns : goal.returns
returns c = record { first = part-first; all = part-all; but_last = part-but_last }
