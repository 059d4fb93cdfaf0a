use Rattle.hand_rank.proofs.ChangeLaws.{holdem-renamed, omaha-renamed_high}
use Rattle.hand_rank.proofs.laws.suits_break_no_tie.Goals as goal

pub returns : goal.returns
returns c = record { holdem = holdem-renamed; omaha = omaha-renamed_high }
