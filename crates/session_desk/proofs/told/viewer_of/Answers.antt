use Rattle.std.proofs.Common.{rules}
use Rattle.session_desk.proofs.told.viewer_of.Goals as goal

pub returns-in-Player : goal.returns-in-Player
returns-in-Player c = search rules
