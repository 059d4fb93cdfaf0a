use Rattle.std.proofs.Common.{◌≡◌, ◌+◌, ◌≤◌, length, arith}
use Rattle.std.specs.Prelude.{vec_len}
use Rattle.std.proofs.lemmas.List.Elements.{All-weaker}
use Rattle.floor_crew.proofs.Dealing.{pack-rows}
use Rattle.floor_crew.proofs.floor.open_floor.Goals as goal

pub make_crew-requires-clause-short : goal.make_crew-requires-clause-short
make_crew-requires-clause-short g c =
    All-weaker (λ row. vec_len row ≡ length c.in_ok-floor.floor.docks.items)
    (λ row. vec_len row + c.args.desks ≤ vec_len c.in_ok-floor.pack.books)
    (λ row is. omega (arith, is, c.in_ok-floor.ensures.books, c.in_ok-floor.ensures.floor.count))
    c.in_ok-floor.pack.rows.items
    (pack-rows c.in_ok-floor.floor c.in_ok-floor.pack c.in_ok-floor.ensures.pack)
