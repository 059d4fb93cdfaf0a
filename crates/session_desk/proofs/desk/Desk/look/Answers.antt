use Rattle.std.proofs.Common.{◌≡◌, false, rules}
use Rattle.std.specs.Prelude.{is_some, vec_len}
use Rattle.session_desk.specs.Desks.{nothing, sights}
use Rattle.session_desk.specs.Telling.{reach_of}
use Rattle.session_desk.proofs.DeskMoves.{later-sights}
use Rattle.session_desk.proofs.NewsTold.{kept-later, nobody-there, told-stranger}
use Rattle.session_desk.proofs.desk.Desk.look.Goals as goal

pub returns-clause-news : goal.returns-clause-news
returns-clause-news g c =
    let none : is_some c.args.told.now.speaker ≡ false = search rules in
    told-stranger (vec_len c.args.docks.now) (sights c.stopped-desk.result.0) (reach_of c.args.told.now)
    c.args.out.now.items (nobody-there c.args.told.now.speaker none)

pub returns-clause-kept : goal.returns-clause-kept
returns-clause-kept g c =
    kept-later (sights c.args.self) (sights c.stopped-desk.result.0) (reach_of c.args.told.now)
    (later-sights 1 (λ table. 0) nothing c.args.self c.stopped-desk.result.0 c.stopped-desk.ensures.moved)
    c.requires.told
