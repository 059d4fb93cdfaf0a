-- What an accepted event makes of the book. This project's own.
use Rattle.std.specs.Prelude.{ℕ, zero, suc, ◌+◌, ◌==◌, nat_lt, Bool, true, false, if◌then◌else◌, List, [], ◌∷◌, ◌++◌, length, map, filter, replicate, slice_set, Option, Some, None}
use Rattle.std.specs.Option.{option_map_or}
use Rattle.card_set.specs.declared.card.Card.{Card}
use Rattle.level_plan.specs.Plans.{PlanTerms, unit_of_level}
use Rattle.button_blinds.specs.declared.marks.Marks.{Marks}
use Rattle.place_list.specs.declared.bust.Bust.{Bust}
use Rattle.place_list.specs.Places.{taken_back}
use Rattle.seat_book.specs.declared.place.Place.{Place}
use Rattle.seat_book.specs.declared.seated.Seated.{Seated}
use Rattle.seat_book.specs.declared.table_status.TableStatus.{TableStatus}
use Rattle.seat_book.specs.Seatings.{Seating, empty_seating}
use Rattle.seat_book.specs.Players.{sit_down}
use Rattle.seat_book.specs.Tables.{status_at, with_status, fresh_status}
use Rattle.balance_rule.specs.Balance.{balance_move, after_move}
use Rattle.hand_rounds.specs.Rounds.{round_closed, switched}
use Rattle.table_engine.specs.declared.start.StartSeat.{StartSeat}
use Rattle.table_engine.specs.Hands.{HandTerms}
use Rattle.table_engine.specs.Results.{stack_after_hand, players_after}
use Rattle.tournament_events.specs.declared.event.Event.{Event}
use Rattle.tournament_events.specs.declared.event.Event.TheVariants as events
use Rattle.tournament_rules.specs.Books.{BookState, number_in, start_at, no_hands}
use Rattle.tournament_rules.specs.Players.{dealt_in, put_back, stayed}
use Rattle.tournament_rules.specs.Dealing.{next_at, next_start}
use Rattle.tournament_rules.specs.Moving.{after_all}
use Rattle.tournament_rules.specs.Racing.{announced, race_at, restacked, raced_off}

-- a table before any hand, with the unit of the first level
abbrev pub first_status : PlanTerms → TableStatus
first_status plan = record fresh_status { unit = unit_of_level plan.blinds 1 }

-- nobody sits at the tables of a plan
abbrev pub first_seating : PlanTerms → Seating
first_seating plan =
    record (empty_seating plan.tables plan.seats) { tables = replicate plan.tables (first_status plan) }

-- the book before any entry
abbrev pub first_book : PlanTerms → BookState
first_book plan = record {
  plan = plan;
  entries = [];
  reentries = 0;
  seating = first_seating plan;
  started = no_hands plan.tables;
  busts = [];
  group = 0;
  level = 1;
  removed = 0;
  added = 0;
  begun = 0;
  accepted = 0;
  stopped = false;
}

-- the player of a number as he sits down, with the stack that a player starts with
abbrev pub starter : BookState → ℕ → List ℕ → ℕ → ℕ → Seated
starter book number name table seat = record {
  place = record { table = table; seat = seat };
  player = number;
  name = name;
  stack = book.plan.stack;
}

-- the book once a player sat down with that stack, which is sold to him
abbrev pub sold_to : BookState → Seated → BookState
sold_to book player = record book {
  seating = record book.seating { players = sit_down player book.seating.players };
  accepted = book.accepted + 1;
}

-- a player who enters as he sits down: he has the next number
abbrev pub newcomer : BookState → List ℕ → ℕ → ℕ → Seated
newcomer book name table seat = starter book (length book.entries) name table seat

-- the book once a player entered: he sits down, and his name is the last in the list
abbrev pub entered : BookState → List ℕ → ℕ → ℕ → BookState
entered book name table seat =
    record (sold_to book (newcomer book name table seat)) { entries = book.entries ++ name ∷ [] }

-- a player who re-enters as he sits down: he has the number that he had
abbrev pub returner : BookState → List ℕ → ℕ → ℕ → Seated
returner book name table seat = starter book (number_in book name) name table seat

-- the book once a player re-entered: he sits down, and his row leaves the list of those who are out
abbrev pub reentered : BookState → List ℕ → ℕ → ℕ → BookState
reentered book name table seat = record (sold_to book (returner book name table seat)) {
  reentries = book.reentries + 1;
  busts = taken_back (number_in book name) book.busts;
}

-- a table once a hand has begun: the new marks are kept, the table plays, and where hand-for-hand is on it has begun in
-- the round
abbrev pub playing_from : Marks → Bool → TableStatus → TableStatus
playing_from marks hands status = record status { marks = Some marks; playing = true; begun = hands }

-- a table once its hand has ended: its marks are kept
abbrev pub at_rest : TableStatus → TableStatus
at_rest status = record status { playing = false }

-- who sits where and how the tables stand, with another status of a table
abbrev pub with_table : Seating → ℕ → (TableStatus → TableStatus) → Seating
with_table seating table change =
    record seating { tables = with_status seating.tables table (change (status_at seating.tables table)) }

-- the book once a hand has begun: the chips of those who are dealt in are in the hand, and its start is kept
abbrev pub begun_book : BookState → ℕ → List Card → BookState
begun_book book table cards = record book {
  seating = record (with_table book.seating table (playing_from (next_at book table).marks book.seating.hands)) {
    players = dealt_in table (next_at book table).waiting book.seating.players;
  };
  started = slice_set book.started table (Some (next_start book table cards));
  begun = book.begun + 1;
  accepted = book.accepted + 1;
}

-- the book once the hand at a table has ended, with the stacks that go back to its players
abbrev pub ended : BookState → ℕ → List StartSeat → BookState
ended book table payees = record book {
  seating = record (with_table book.seating table at_rest) { players = put_back payees book.seating.players };
  started = slice_set book.started table None;
}

-- those whom a hand leaves without chips, as they began it, in rising seat
abbrev pub busted_by : HandTerms → List StartSeat
busted_by hand = filter (λ player. stack_after_hand hand player == 0) hand.start.seats

-- a player who goes out in a group, with the stack that he began his last hand with
abbrev pub bust_of : ℕ → StartSeat → Bust
bust_of group player = record { player = player.player; stack = player.stack; group = group }

-- the group of those who go out after a settle: a later one, and while hand-for-hand is on the same
abbrev pub next_group : BookState → ℕ
next_group book = if book.seating.hands then book.group else book.group + 1

-- the book once a hand is settled: its players have the stacks that they have after it, and those with none leave their
-- seats and are out
abbrev pub settled : BookState → HandTerms → BookState
settled book hand =
    let after = ended book hand.start.table (players_after hand) in
    record after {
      seating = record after.seating { players = stayed (busted_by hand) after.seating.players };
      busts = book.busts ++ map (bust_of book.group) (busted_by hand);
      group = next_group book;
      accepted = book.accepted + 1;
    }

-- the book once the hand at a table is void, if one is played: its players have the stacks with which they began it
abbrev pub void_at : BookState → ℕ → BookState
void_at book table = option_map_or (λ start. ended book table start.seats) (start_at book.started table) book

-- the book once the hands at the first so many tables are void
abbrev pub void_first : BookState → ℕ → BookState
void_first book zero = book
void_first book (suc tables) = void_at (void_first book tables) (suc tables)

-- the book once the tournament is stopped: every hand in play is void
abbrev pub stopped_book : BookState → BookState
stopped_book book = record (void_first book book.plan.tables) { stopped = true; accepted = book.accepted + 1 }

-- the book once two tables are balanced: the next big blind of the one moves to the other, with his stack
abbrev pub balanced : BookState → ℕ → ℕ → BookState
balanced book from to = record book {
  seating = option_map_or (λ move_. after_move move_ book.seating) (balance_move book.seating from to) book.seating;
  accepted = book.accepted + 1;
}

-- a table whose marks are forgotten
abbrev pub forgotten : TableStatus → TableStatus
forgotten status = record status { marks = None }

-- the book once a table broke: its marks are forgotten, and its players took places at other tables, in turn
abbrev pub broken : BookState → ℕ → List Place → List (List ℕ) → BookState
broken book table places names = record book {
  seating = after_all table names places (with_table book.seating table forgotten);
  accepted = book.accepted + 1;
}

-- The book once the next level is current. It holds from each table's next hand on. Where its unit is greater, a race
-- is pending at each open table, and a table that is not open has that unit.
abbrev pub leveled : BookState → BookState
leveled book =
    let unit = unit_of_level book.plan.blinds (book.level + 1) in
    record book {
      seating = if nat_lt (unit_of_level book.plan.blinds book.level) unit then announced unit book.seating
          else book.seating;
      level = book.level + 1;
      accepted = book.accepted + 1;
    }

-- the book once the race that is pending at a table is made with these cards: its players have their stacks after it,
-- what it takes away is removed, what it gives is added, and the table has the new unit
abbrev pub raced : BookState → ℕ → List Card → BookState
raced book table cards =
    let result = race_at book.seating table cards in
    record book {
      seating = record (with_table book.seating table raced_off) {
        players = map (restacked table result.stacks) book.seating.players;
      };
      removed = book.removed + result.removed;
      added = book.added + result.added;
      accepted = book.accepted + 1;
    }

-- the book once hand-for-hand is on or off: the playing tables are those that have begun in the round, or none is, and
-- who goes out after it is off is in a later group
abbrev pub with_hands : BookState → Bool → BookState
with_hands book on = record book {
  seating = switched on book.seating;
  group = if on then book.group else book.group + 1;
  accepted = book.accepted + 1;
}

-- the book once a round of hand-for-hand ended: no table has begun, and who goes out later is in a later group
abbrev pub round_ended : BookState → BookState
round_ended book = record book {
  seating = round_closed book.seating;
  group = book.group + 1;
  accepted = book.accepted + 1;
}

-- what an accepted event makes of the book, with the hand that it is about, if there is one
abbrev pub book_effect : BookState → Option HandTerms → Event → BookState
book_effect book hand (events.Plan line) = book
book_effect book hand events.Go = book
book_effect book hand (events.Enter name table seat) = entered book name table seat
book_effect book hand (events.Reenter name table seat) = reentered book name table seat
book_effect book hand (events.Begin table row) = begun_book book table row.cards
book_effect book hand (events.Act table name act) = book
book_effect book hand (events.Time table) = book
book_effect book hand (events.Settle table) = option_map_or (settled book) hand book
book_effect book hand (events.Balance from to) = balanced book from to
book_effect book hand (events.Break table places names) = broken book table places names
book_effect book hand events.Level = leveled book
book_effect book hand (events.Race table row) = raced book table row.cards
book_effect book hand (events.Hands on) = with_hands book on
book_effect book hand events.Round = round_ended book
book_effect book hand events.Stop = stopped_book book
