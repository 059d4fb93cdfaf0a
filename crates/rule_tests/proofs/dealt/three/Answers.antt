-- The players are dealt in lawfully: each test of their list computes.
use Rattle.std.proofs.Common.{◌≡◌, ◌∙◌, ℕ, List, [], ◌∷◌, arith, lit≤}
use Rattle.std.specs.Prelude.{codes}
use Rattle.table_engine.specs.declared.start.StartSeat.{StartSeat}
use Rattle.rule_tests.proofs.dealt.three.Goals as goal

-- A player by his number, his name, his seat and his stack.
abbrev dealt : ℕ → List ℕ → ℕ → ℕ → StartSeat
dealt number name seat stack = record { seat = seat; player = number; name = name; stack = stack }

abbrev all_dealt : ℕ → ℕ → ℕ → List StartSeat
all_dealt first second third =
    dealt 0 (codes "ann") 1 first ∷ dealt 1 (codes "bob") 2 second ∷ dealt 2 (codes "cat") 3 third ∷ []

pub new-requires : goal.new-requires
new-requires c =
    let seats : c.start_of-start.result.seats ≡ all_dealt c.args.first c.args.second c.args.third =
    c.start_of-start.ensures.seats ∙ c.in_ok-from_array.ensures.items
    ∙ rw (
      c.player.ensures,
      c.player-2.ensures,
      c.player-3.ensures,
      c.in_ok-name.ensures,
      c.in_ok-name-2.ensures,
      c.in_ok-name-3.ensures,
    ) in
    let start = c.start_of-start.ensures in
    record {
      two = rw seats (lit≤ tt);
      some_seats = rw start.table (lit≤ tt);
      most_seats = rw start.table (lit≤ tt);
      rising = rw seats;
      within = rw (seats, start.table);
      numbers = rw seats;
      entries = rw seats;
      names = rw seats;
      stacks = rw (seats, c.requires.first, c.requires.second, c.requires.third);
      chips = rw seats (omega arith);
      marks = rw (start.table, start.marks)
          (record { button = (lit≤ tt, lit≤ tt); small = (lit≤ tt, lit≤ tt); big = (lit≤ tt, lit≤ tt) });
      big = rw (seats, start.marks);
      small = rw start.marks (λ same. cc);
      blinds = c.requires.blind;
      deck = start.deck;
    }
