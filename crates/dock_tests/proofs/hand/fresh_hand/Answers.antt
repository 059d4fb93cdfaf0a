-- The players are dealt in lawfully: each test of their list computes.
use Rattle.std.proofs.Common.{◌≡◌, ◌∙◌, List, [], ◌∷◌, arith, lit≤}
use Rattle.std.specs.Prelude.{codes}
use Rattle.table_engine.specs.declared.start.StartSeat.{StartSeat}
use Rattle.dock_tests.proofs.hand.fresh_hand.Goals as goal

abbrev both : List StartSeat
both = record { seat = 1; player = 0; name = codes "ann"; stack = 3000 }
    ∷ record { seat = 4; player = 1; name = codes "bob"; stack = 1000 } ∷ []

pub new-requires : goal.new-requires
new-requires c =
    let ann = rw c.unwrap.ensures at c.read.ensures.same in let bob = rw c.unwrap-2.ensures at c.read-2.ensures.same in
    let seats : c.start_of.result.seats ≡ both =
    c.start_of.ensures.seats ∙ c.in_ok-seats.ensures.items ∙ rw (c.player-ann.ensures, c.player-bob.ensures, ann, bob) in
    let start = c.start_of.ensures in
    record {
      two = rw seats (lit≤ tt);
      some_seats = rw start.seat_count (lit≤ tt);
      most_seats = rw start.seat_count (lit≤ tt);
      rising = rw seats;
      within = rw (seats, start.seat_count);
      numbers = rw seats;
      entries = rw seats;
      names = rw seats;
      stacks = rw (seats, start.blind);
      chips = rw seats (omega arith);
      marks = rw (start.seat_count, start.marks)
          (record { button = (lit≤ tt, lit≤ tt); small = (lit≤ tt, lit≤ tt); big = (lit≤ tt, lit≤ tt) });
      big = rw (seats, start.marks);
      small = rw start.marks (λ same. cc);
      blinds = rw start.blind;
      deck = start.deck;
    }
