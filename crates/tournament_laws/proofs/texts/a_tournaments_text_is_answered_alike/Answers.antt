use Rattle.tournament_laws.proofs.Reportable.{reportable}
use Rattle.tournament_laws.proofs.Answered.{answered_alike}
use Rattle.tournament_laws.proofs.texts.a_tournaments_text_is_answered_alike.Goals as goal

pub returns : goal.returns
returns c = λ events writable taken. answered_alike events writable taken (reportable events writable)
