use Rattle.listening_laws.proofs.TheParts.{part-floor}
use Rattle.listening_laws.proofs.laws.who_listens_to_the_floor_is_told_its_part_of_the_whole.Goals as goal

pub returns : goal.returns
returns c = part-floor
