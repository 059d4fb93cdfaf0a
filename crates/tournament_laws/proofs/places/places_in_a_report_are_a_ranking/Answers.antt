use Rattle.tournament_rules.proofs.Steps.{valid_events}
use Rattle.tournament_laws.proofs.RankedPlaces.{ranked-report}
use Rattle.tournament_laws.proofs.places.places_in_a_report_are_a_ranking.Goals as goal

pub returns : goal.returns
returns c = λ events play is. ranked-report play.book ((valid_events events).play play is).book
