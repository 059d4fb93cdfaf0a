use Rattle.listening_laws.proofs.ToldClients.{told-floor, told-tables}
use Rattle.session_desk.specs.Desks.{Sights}
use Rattle.session_desk.specs.Standings.{standing_through}
use Rattle.session_desk.specs.Talks.{sights_through}
use Rattle.session_desk.specs.Telling.{viewer_of}
use Rattle.session_desk.proofs.DeskMoves.{later-trans}
use Rattle.floor_crew.proofs.laws.each_client_is_told_its_part_of_what_was_held.Goals as goal

pub returns-clause-tables : goal.returns-clause-tables
returns-clause-tables g c = λ plan words seed journal doors one table held its.
    let end : Sights = record { journal = journal; tables = held.histories } in
    told-tables words plan.tables its.numbers one.began one.log table journal held.histories its.was.moments
    (later-trans (sights_through one.began one.log) its.seen end its.was.earlier its.earlier) held.matched

pub returns-clause-floor : goal.returns-clause-floor
returns-clause-floor g c = λ plan words seed journal doors one held its.
    let end : Sights = record { journal = journal; tables = held.histories } in
    told-floor words plan.tables its.numbers one.began one.log
    (viewer_of (standing_through words plan.tables one.log).speaker) journal held.histories its.was.moments
    (later-trans (sights_through one.began one.log) its.seen end its.was.earlier its.earlier) held.matched
