use Rattle.tournament_laws.proofs.Answered.{answered_alike}
use Rattle.tournament_laws.proofs.Reportable.{reportable}
use Rattle.floor_crew.proofs.laws.a_served_text_replays.Goals as goal

pub returns : goal.returns
returns c = λ plan events whole.
    answered_alike events whole.writable whole.legal (reportable events whole.writable)
