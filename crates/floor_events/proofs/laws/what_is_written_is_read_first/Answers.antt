use Rattle.floor_events.proofs.EventLaws.{text_cut, event_again}
use Rattle.floor_events.proofs.laws.what_is_written_is_read_first.Goals as goal

pub returns-clause-cut : goal.returns-clause-cut
returns-clause-cut c = text_cut

pub returns-clause-read : goal.returns-clause-read
returns-clause-read c = event_again
