use Rattle.std.proofs.Common.{◌≡◌, false, rules}
use Rattle.std.specs.Prelude.{is_some, vec_len}
use Rattle.session_desk.specs.Desks.{sights}
use Rattle.session_desk.specs.Telling.{reach_of}
use Rattle.session_desk.proofs.NewsTold.{nobody-there, told-stranger}
use Rattle.session_desk.proofs.desk.Desk.tell_known.Goals as goal

pub returns-then-is_none-clause-news : goal.returns-then-is_none-clause-news
returns-then-is_none-clause-news g c =
    let none : is_some c.args.told.now.speaker ≡ false = search rules in
    told-stranger (vec_len c.args.docks.now) (sights c.args.self) (reach_of c.args.told.now) c.args.out.now.items
    (nobody-there c.args.told.now.speaker none)
