use Rattle.pot_layers.proofs.Raised.{puts_of-folded, AreRight-folded}
use Rattle.pot_layers.proofs.reach.fold.Goals as goal

pub returns-clause-puts : goal.returns-clause-puts
returns-clause-puts c = puts_of-folded c.args.reaches.now c.args.index

pub returns-clause-right : goal.returns-clause-right
returns-clause-right c = AreRight-folded c.args.reaches.now c.args.index c.requires.right
