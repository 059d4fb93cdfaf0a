use Rattle.whole_laws.proofs.TheWhole.{the-whole}
use Rattle.whole_laws.proofs.laws.the_whole_is_legal.Goals as goal

pub returns : goal.returns
returns c = the-whole
