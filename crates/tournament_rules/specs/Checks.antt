-- The checks of an event, in groups, each said once. This project's own.
use Rattle.std.specs.Prelude.{ℕ, ◌+◌, Bool, true, false, not, nat_lt, nat_le, ◌==◌, ◌&&◌, ◌||◌, List, [], ◌∷◌, ◌++◌, length, Option, is_some}
use Rattle.std.specs.List.{list_any}
use Rattle.std.specs.Option.{option_map_or}
use Rattle.rulebook.specs.Checks.{first_that_holds}
use Rattle.rulebook.specs.Limits.{most_entries}
use Rattle.floor_text.specs.declared.refusal.Refusal.{Refusal}
use Rattle.floor_text.specs.declared.refusal.Refusal.TheVariants.{PlanLate, Stopped, NameKnown, NameUnknown, NoTable, NoSeat, SeatTaken, NotFewest, LateClosed, Playing, NotPlaying, Lone, Halted, RaceDue, DeckWrong, NotOver, NotNextToBreak, NoRoom, DrawWrong, LastLevel, RoundOpen, NoRace, Over, ListFull, StillIn}
use Rattle.card_set.specs.declared.card.CardRow.{CardRow}
use Rattle.card_set.specs.Decks.{repeats_a_card}
use Rattle.entry_list.specs.Entries.{is_known}
use Rattle.seat_book.specs.declared.place.Place.{Place}
use Rattle.seat_book.specs.Counts.{count_at, table_numbers}
use Rattle.seat_book.specs.Players.{player_at, place_of}
use Rattle.seat_book.specs.Tables.{status_at}
use Rattle.seat_book.specs.Seatings.{is_race_pending, is_round_open, is_not_last}
use Rattle.balance_rule.specs.Halting.{is_halted}
use Rattle.balance_rule.specs.Balance.{balance_checks}
use Rattle.balance_rule.specs.Filling.{lacks_room, fill_seats}
use Rattle.break_draw.specs.Draws.{is_draw}
use Rattle.hand_rounds.specs.Rounds.{begin_checks as turn_checks, round_checks as close_checks, switch_checks}
use Rattle.table_engine.specs.Hands.{HandTerms, is_over}
use Rattle.table_engine.specs.Acts.{act_checks, time_checks}
use Rattle.tournament_events.specs.declared.event.Event.{Event}
use Rattle.tournament_events.specs.declared.event.Event.TheVariants as events
use Rattle.tournament_rules.specs.Books.{BookState, has_table, has_seat_number, number_in}

-- a refusal, and whether its check holds
abbrev pub Check : Type 0
Check = Refusal × Bool

-- whether a table is open: at least one player sits there
abbrev pub is_table_open : BookState → ℕ → Bool
is_table_open book table = has_table book table && nat_lt 0 (count_at book.seating.players table)

-- whether a table may be entered: any table of the plan before the first `begin`, and an open one afterwards
abbrev pub may_be_entered : BookState → ℕ → Bool
may_be_entered book table = has_table book table && (book.begun == 0 || nat_lt 0 (count_at book.seating.players table))

-- whether another table that may be entered has fewer players
abbrev pub is_not_fewest : BookState → ℕ → Bool
is_not_fewest book table =
    let count = count_at book.seating.players in
    list_any (λ other. may_be_entered book other && nat_lt (count other) (count table)) (table_numbers book.plan.tables)

-- whether a player sits in a seat of a table
abbrev pub is_taken : BookState → ℕ → ℕ → Bool
is_taken book table seat = is_some (player_at book.seating.players (record { table = table; seat = seat }))

-- whether the level is above the last one for entries
abbrev pub is_late : BookState → Bool
is_late book = nat_lt book.plan.late book.level

-- whether the tournament is over: somebody is out, and exactly one player is in
abbrev pub is_over_for_all : BookState → Bool
is_over_for_all book = nat_lt 0 (length book.busts) && length book.seating.players == 1

-- whether a hand is played at a table: from `begin` to `settle` or `stop`
abbrev pub is_playing : BookState → ℕ → Bool
is_playing book table = (status_at book.seating.tables table).playing

-- the tournament goes on
abbrev pub going_checks : BookState → List Check
going_checks book = (Stopped, book.stopped) ∷ []

-- nobody of that name entered yet
abbrev pub newcomer_checks : BookState → List ℕ → List Check
newcomer_checks book name = (NameKnown, is_known book.entries name) ∷ []

-- a player may sit down at that table, in that seat
abbrev pub seat_checks : BookState → ℕ → ℕ → List Check
seat_checks book table seat =
    (NoTable, not (may_be_entered book table)) ∷
    (NoSeat, not (has_seat_number book seat)) ∷
    (SeatTaken, is_taken book table seat) ∷
    (NotFewest, is_not_fewest book table) ∷ []

-- the tournament is not over
abbrev pub over_checks : BookState → List Check
over_checks book = (Over, is_over_for_all book) ∷ []

-- entries are open
abbrev pub entry_checks : BookState → List Check
entry_checks book = (LateClosed, is_late book) ∷ over_checks book

-- whether there were as many entries and re-entries as there can be
abbrev pub is_sold_out : BookState → Bool
is_sold_out book = nat_le most_entries (length book.entries + book.reentries)

-- there is room for one entry or re-entry more
abbrev pub room_checks : BookState → List Check
room_checks book = (ListFull, is_sold_out book) ∷ []

-- a player may buy a stack and sit down with it at that table, in that seat
abbrev pub buy_checks : BookState → ℕ → ℕ → List Check
buy_checks book table seat = seat_checks book table seat ++ entry_checks book ++ room_checks book

-- all checks of an entry
abbrev pub enter_checks : BookState → List ℕ → ℕ → ℕ → List Check
enter_checks book name table seat = going_checks book ++ newcomer_checks book name ++ buy_checks book table seat

-- the table is open
abbrev pub open_table_checks : BookState → ℕ → List Check
open_table_checks book table = (NoTable, not (is_table_open book table)) ∷ []

-- no hand is played at that table
abbrev pub not_playing_checks : BookState → ℕ → List Check
not_playing_checks book table = (Playing, is_playing book table) ∷ []

-- no race is pending at any table
abbrev pub no_race_checks : BookState → List Check
no_race_checks book = (RaceDue, is_race_pending book.seating) ∷ []

-- that table has enough players: more than one, and it is not halted
abbrev pub enough_checks : BookState → ℕ → List Check
enough_checks book table =
    (Lone, count_at book.seating.players table == 1) ∷
    (Halted, is_halted book.seating table) ∷ []

-- a hand may begin at that table
abbrev pub table_checks : BookState → ℕ → List Check
table_checks book table = open_table_checks book table ++ not_playing_checks book table ++ enough_checks book table

-- the row is a deck
abbrev pub deck_checks : CardRow → List Check
deck_checks row = (DeckWrong, repeats_a_card row.cards) ∷ []

-- whether a chip race is pending at a table
abbrev pub is_race_due : BookState → ℕ → Bool
is_race_due book table = is_some (status_at book.seating.tables table).race

-- it is the table's turn: no race is pending there, and it has not begun in a round of hand-for-hand
abbrev pub due_checks : BookState → ℕ → List Check
due_checks book table = (RaceDue, is_race_due book table) ∷ turn_checks book.seating table

-- all checks of a hand that is to begin
abbrev pub begin_checks : BookState → ℕ → CardRow → List Check
begin_checks book table row =
    going_checks book ++ table_checks book table ++ due_checks book table ++ deck_checks row

-- somebody of that name entered
abbrev pub known_checks : BookState → List ℕ → List Check
known_checks book name = (NameUnknown, not (is_known book.entries name)) ∷ []

-- whether the player of a name has a seat
abbrev pub is_still_in : BookState → List ℕ → Bool
is_still_in book name = is_some (place_of book.seating.players (number_in book name))

-- the player of a name has no seat
abbrev pub out_checks : BookState → List ℕ → List Check
out_checks book name = (StillIn, is_still_in book name) ∷ []

-- all checks of a re-entry
abbrev pub reenter_checks : BookState → List ℕ → ℕ → ℕ → List Check
reenter_checks book name table seat =
    going_checks book ++ known_checks book name ++ buy_checks book table seat ++ out_checks book name

-- there is such a table, and a hand is played there
abbrev pub playing_checks : BookState → ℕ → List Check
playing_checks book table =
    (NoTable, not (has_table book table)) ∷
    (NotPlaying, not (is_playing book table)) ∷ []

-- all checks of an act before those of the hand
abbrev pub before_act_checks : BookState → ℕ → List ℕ → List Check
before_act_checks book table name = going_checks book ++ known_checks book name ++ playing_checks book table

-- all checks of a called time and of a settle before those of the hand
abbrev pub before_hand_checks : BookState → ℕ → List Check
before_hand_checks book table = going_checks book ++ playing_checks book table

-- the hand may be settled
abbrev pub end_checks : HandTerms → List Check
end_checks hand = (NotOver, not (is_over hand)) ∷ []

-- players may leave a table: no hand is played there, and no race is pending at any table
abbrev pub leaving_checks : BookState → ℕ → List Check
leaving_checks book table = not_playing_checks book table ++ no_race_checks book

-- no table has begun in a round of hand-for-hand
abbrev pub round_checks : BookState → List Check
round_checks book = (RoundOpen, is_round_open book.seating) ∷ []

-- both tables are open
abbrev pub both_open_checks : BookState → ℕ → ℕ → List Check
both_open_checks book from to = (NoTable, not (is_table_open book from && is_table_open book to)) ∷ []

-- all checks of a balance
abbrev pub all_balance_checks : BookState → ℕ → ℕ → List Check
all_balance_checks book from to =
    going_checks book ++ both_open_checks book from to ++ leaving_checks book from
    ++ balance_checks book.seating from to ++ round_checks book

-- whether the places and the names of a break are an order of the fill list of its table and of its players' names
abbrev pub is_right_draw : BookState → ℕ → List Place → List (List ℕ) → Bool
is_right_draw book table places names =
    option_map_or (λ fill. is_draw book.seating table fill places names) (fill_seats book.seating table) false

-- a table may break so
abbrev pub draw_checks : BookState → ℕ → List Place → List (List ℕ) → List Check
draw_checks book table places names =
    (NotNextToBreak, is_not_last book.seating table) ∷
    (NoRoom, lacks_room book.seating table) ∷
    (DrawWrong, not (is_right_draw book table places names)) ∷ []

-- all checks of a break
abbrev pub break_checks : BookState → ℕ → List Place → List (List ℕ) → List Check
break_checks book table places names =
    going_checks book ++ open_table_checks book table ++ leaving_checks book table
    ++ draw_checks book table places names ++ round_checks book

-- whether the current level is the last of the plan
abbrev pub is_last_level : BookState → Bool
is_last_level book = nat_le (length book.plan.blinds) book.level

-- all checks of the next level
abbrev pub level_checks : BookState → List Check
level_checks book =
    going_checks book ++ no_race_checks book ++ (LastLevel, is_last_level book) ∷ over_checks book

-- all checks of a chip race
abbrev pub race_checks : BookState → ℕ → CardRow → List Check
race_checks book table row =
    going_checks book ++ open_table_checks book table ++ not_playing_checks book table ++ deck_checks row
    ++ (NoRace, not (is_race_due book table)) ∷ over_checks book

-- all checks of a switch of hand-for-hand
abbrev pub hands_checks : BookState → Bool → List Check
hands_checks book on = going_checks book ++ switch_checks on book.seating ++ over_checks book

-- all checks of the end of a round
abbrev pub end_round_checks : BookState → List Check
end_round_checks book = going_checks book ++ close_checks book.seating ++ over_checks book

-- The checks that the book makes of an event, in their order.
abbrev pub book_checks : BookState → Event → List Check
book_checks book (events.Plan line) = (PlanLate, true) ∷ []
book_checks book events.Go = (PlanLate, true) ∷ []
book_checks book (events.Enter name table seat) = enter_checks book name table seat
book_checks book (events.Reenter name table seat) = reenter_checks book name table seat
book_checks book (events.Begin table row) = begin_checks book table row
book_checks book (events.Act table name act) = before_act_checks book table name
book_checks book (events.Time table) = before_hand_checks book table
book_checks book (events.Settle table) = before_hand_checks book table
book_checks book (events.Balance from to) = all_balance_checks book from to
book_checks book (events.Break table places names) = break_checks book table places names
book_checks book events.Level = level_checks book
book_checks book (events.Race table row) = race_checks book table row
book_checks book (events.Hands on) = hands_checks book on
book_checks book events.Round = end_round_checks book
book_checks book events.Stop = going_checks book

-- The checks that a hand makes of an event at its table, after those of the book.
abbrev pub hand_checks : HandTerms → Event → List Check
hand_checks hand (events.Act table name act) = act_checks hand name act
hand_checks hand (events.Time table) = time_checks hand
hand_checks hand (events.Settle table) = end_checks hand
hand_checks hand _ = []

-- why the book refuses an event, if it does
unfoldable pub book_refusal : BookState → Event → Option Refusal
book_refusal book event = first_that_holds (book_checks book event)
