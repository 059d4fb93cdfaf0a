use Rattle.floor_events.proofs.EventLaws.{one_text}
use Rattle.floor_events.proofs.laws.no_two_events_have_one_text.Goals as goal

pub returns : goal.returns
returns c = one_text
