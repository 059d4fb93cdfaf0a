use Rattle.std.proofs.Common.{rules}
use Rattle.showdown.proofs.hand.low_value.Goals as goal

pub returns-in-Hilo : goal.returns-in-Hilo
returns-in-Hilo c = search rules
