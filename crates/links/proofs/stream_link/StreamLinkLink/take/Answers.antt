use Rattle.std.proofs.Common.{rules}
use Rattle.links.proofs.stream_link.StreamLinkLink.take.Goals as goal

pub returns-clause-cause : goal.returns-clause-cause
returns-clause-cause g c = search rules
