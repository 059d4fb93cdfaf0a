use Rattle.std.proofs.Common.{◌≡◌, drop}
use Rattle.seat_book.specs.Players.{players_in}
use Rattle.dock_rules.specs.Points.{place_named}
use Rattle.book_dock.proofs.hold.place_in.Given as goal

-- Who is found is found among the slots that are left.
abbrev pub invariant-loop-slot : goal.invariant-loop-slot
invariant-loop-slot l =
    place_named (players_in l.slots) l.name ≡ place_named (players_in (drop l.slot-index l.slots)) l.name
