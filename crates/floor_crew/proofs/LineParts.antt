-- Events whose parts may stand in a line are short enough for one.
use Rattle.std.proofs.Common.{◌≡◌, ℕ, ◌+◌, ◌*◌, ◌≤◌, Bool, true, false, cond, List, [], ◌∷◌, map, length, length-append, arith}
use Rattle.std.specs.Prelude.{◌==◌, codes, not, nat_le, slice_index}
use Rattle.std.specs.Char.{is_ascii_alphabetic}
use Rattle.std.specs.Fmt.{decimal}
use Rattle.std.specs.List.{join_with_byte, list_all, AllByRecursion}
use Rattle.std.specs.Str.{bytes_eq}
use Rattle.std.proofs.lemmas.Bool.{and_parts, leb-true}
use Rattle.std.proofs.lemmas.Fmt.{length-decimal-le}
use Rattle.floor_text.specs.Limits.{longest_line, longest_name}
use Rattle.floor_text.specs.Names.{is_name_byte}
use Rattle.floor_text.specs.Numbers.{IsLineNumber}
use Rattle.card_set.specs.declared.card.CardRow.{CardRow}
use Rattle.card_set.specs.declared.game.Game.{Game}
use Rattle.card_set.specs.declared.game.Game.TheVariants.{Holdem, Omaha, Hilo}
use Rattle.card_set.specs.Cards.{row_text}
use Rattle.card_set.proofs.TextLaws.{length-cards_text}
use Rattle.level_plan.specs.Limits.{most_shares, whole_pool}
use Rattle.level_plan.specs.declared.line.PlanLine.TheVariants as lines
use Rattle.betting_round.specs.declared.act.Act.{Act}
use Rattle.betting_round.specs.declared.act.Act.TheVariants.{Fold, Check, Call, AllIn, Bet, Raise}
use Rattle.seat_book.specs.declared.place.Place.{Place}
use Rattle.line_words.specs.Fields.{AreFew, HasLineAmount, IsLineName, IsLinePlace, act_words, game_word, words_if_any, list_text, place_text, switch_word}
use Rattle.line_words.specs.Limits.{most_members}
use Rattle.tournament_events.specs.declared.event.Event.{Event}
use Rattle.tournament_events.specs.declared.event.Event.TheVariants as events
use Rattle.floor_events.specs.Spelling.{HasLineParts, IsWritable, event_text}

-- The parts of an event are such as a line may hold, and shares are thousandths.
abbrev pub Fits : Event → Type 0
Fits (events.Plan (lines.Game game)) = Unit {0}
Fits (events.Plan (lines.Tables n)) = IsLineNumber n
Fits (events.Plan (lines.Seats n)) = IsLineNumber n
Fits (events.Plan (lines.Stack n)) = IsLineNumber n
Fits (events.Plan (lines.Buyin n)) = IsLineNumber n
Fits (events.Plan (lines.Late n)) = IsLineNumber n
Fits (events.Plan (lines.Blinds blind)) =
    IsLineNumber blind.small × (IsLineNumber blind.big × (IsLineNumber blind.unit × IsLineNumber blind.ante))
Fits (events.Plan (lines.Limit n)) = IsLineNumber n
Fits (events.Plan (lines.Shares shares)) = AreFew most_shares (λ share. share ≤ whole_pool) shares
Fits (events.Enter name table seat) = IsLineName name × (IsLineNumber table × IsLineNumber seat)
Fits (events.Reenter name table seat) = IsLineName name × (IsLineNumber table × IsLineNumber seat)
Fits (events.Begin table row) = IsLineNumber table
Fits (events.Act table name act) = IsLineNumber table × (IsLineName name × HasLineAmount act)
Fits (events.Time table) = IsLineNumber table
Fits (events.Settle table) = IsLineNumber table
Fits (events.Balance from to) = IsLineNumber from × IsLineNumber to
Fits (events.Break table places names) =
    IsLineNumber table × (AreFew most_members IsLinePlace places × AreFew most_members IsLineName names)
Fits (events.Race table row) = IsLineNumber table
Fits event = Unit {0}

-- the bytes of words, with one behind each
abbrev room : List (List ℕ) → ℕ
room [] = 0
room (word ∷ words) = length word + 1 + room words

-- Words with a byte between each two take no more.
joined-room : (between : ℕ) (words : List (List ℕ)) → length (join_with_byte between words) ≤ room words
joined-room between [] = omega arith
joined-room between (word ∷ []) = omega arith
joined-room between (word ∷ next ∷ words) =
    let later = joined-room between (next ∷ words) in
    let joined = length-append word (between ∷ join_with_byte between (next ∷ words)) in
    omega (arith, later, joined)

short : (words : List (List ℕ)) → room words ≤ 400 → length (join_with_byte 32 words) ≤ longest_line
short words few = let joined = joined-room 32 words in omega (arith, joined, few)

-- A number of a line has at most 16 digits.
number-room : (n : ℕ) → IsLineNumber n → length (decimal n) ≤ 16
number-room n small = length-decimal-le 16 n (omega arith) (omega (arith, small)) (omega (arith, small))

-- An amount that is left out where it is 0 takes no more than a number and one byte.
if_any-room : (n : ℕ) → IsLineNumber n → room (words_if_any n) ≤ 17
if_any-room n small = by_test (n == 0) (number-room n small)
  where
    by_test : (none : Bool) → length (decimal n) ≤ 16 → room (cond none [] (decimal n ∷ [])) ≤ 17
    by_test true few = omega arith
    by_test false few = omega (arith, few)

-- A name has at most 16 bytes.
name-room : (name : List ℕ) → IsLineName name → length name ≤ 16
name-room name right =
    let first = and_parts (is_ascii_alphabetic (slice_index name 0)) _ right in
    let all = and_parts (list_all is_name_byte name) _ first.1 in
    leb-true (length name) longest_name
    (and_parts (nat_le (length name) longest_name) (not (bytes_eq name (codes "floor"))) all.1).0

-- A row has 52 cards of two bytes.
row-room : (row : CardRow) → length (row_text row.cards) ≡ 104
row-room row = let text = length-cards_text row.cards in let whole = row.whole in omega (arith, text, whole)

-- A place has a table of two digits, a point and a seat of two digits.
place-room : (place : Place) → IsLinePlace place → length (place_text place) + 1 ≤ 7
place-room place fits =
    let last_table = fits.table.last in
    let last_seat = fits.last in
    let table = length-decimal-le 2 place.table (omega arith) (omega (arith, last_table)) (omega (arith, last_table)) in
    let seat = length-decimal-le 2 place.seat (omega arith) (omega (arith, last_seat)) (omega (arith, last_seat)) in
    let joined = joined-room 46 (decimal place.table ∷ decimal place.seat ∷ []) in
    omega (arith, table, seat, joined)

-- A share has at most four digits.
share-room : (share : ℕ) → share ≤ whole_pool → length (decimal share) + 1 ≤ 5
share-room share small =
    let digits = length-decimal-le 4 share (omega arith) (omega (arith, small)) (omega (arith, small)) in
    omega (arith, digits)

-- So many items of which each takes so much take no more than their product.
each-room : {A : Type 0} (write : A → List ℕ) (P : A → Type 0) (most : ℕ) (items : List A)
    → ((item : A) → P item → length (write item) + 1 ≤ most) → AllByRecursion P items
    → room (map write items) ≤ most * length items
each-room write P most [] each all = omega arith
each-room write P most (item ∷ items) each all =
    let here = each item all.0 in
    let later = each-room write P most items each all.1 in
    omega (arith, here, later)

places-room : (places : List Place) → AreFew most_members IsLinePlace places → length (list_text place_text places) ≤ 70
places-room places few =
    let all = each-room place_text IsLinePlace 7 places place-room few.2 in
    let joined = joined-room 44 (map place_text places) in
    let most = few.1 in
    omega (arith, all, joined, most)

names-room : (names : List (List ℕ)) → AreFew most_members IsLineName names
    → length (list_text (λ name. name) names) ≤ 170
names-room names few =
    let all = each-room (λ (name : List ℕ). name) IsLineName 17 names
    (λ name right. let one = name-room name right in omega (arith, one)) few.2 in
    let joined = joined-room 44 (map (λ (name : List ℕ). name) names) in
    let most = few.1 in
    omega (arith, all, joined, most)

game-room : (game : Game) → length (game_word game) ≤ 6
game-room Holdem = omega arith
game-room Omaha = omega arith
game-room Hilo = omega arith

switch-room : (on : Bool) → length (switch_word on) ≤ 3
switch-room true = omega arith
switch-room false = omega arith

act-room : (act : Act) → HasLineAmount act → room (act_words act) ≤ 30
act-room Fold fits = omega arith
act-room Check fits = omega arith
act-room Call fits = omega arith
act-room AllIn fits = omega arith
act-room (Bet n) fits = let digits = number-room n fits in omega (arith, digits)
act-room (Raise n) fits = let digits = number-room n fits in omega (arith, digits)

small_shares : (shares : List ℕ) → AllByRecursion (λ share. share ≤ whole_pool) shares
    → AllByRecursion IsLineNumber shares
small_shares [] all = tt
small_shares (share ∷ shares) all = let here = all.0 in (omega (arith, here), small_shares shares all.1)

one_number : (word : List ℕ) (n : ℕ) → length word ≤ 7 → IsLineNumber n
    → length (join_with_byte 32 (word ∷ decimal n ∷ [])) ≤ longest_line
one_number word n few small =
    let digits = number-room n small in short (word ∷ decimal n ∷ []) (omega (arith, few, digits))

-- Such an event is writable.
pub writable : (event : Event) → Fits event → IsWritable event
unfolding event_text HasLineParts
writable (events.Plan (lines.Game game)) fits =
    record {
      parts = tt;
      short = short (codes "game" ∷ game_word game ∷ []) (let word = game-room game in omega (arith, word));
    }
writable (events.Plan (lines.Tables n)) fits =
    record { parts = fits; short = one_number (codes "tables") n (omega arith) fits }
writable (events.Plan (lines.Seats n)) fits =
    record { parts = fits; short = one_number (codes "seats") n (omega arith) fits }
writable (events.Plan (lines.Stack n)) fits =
    record { parts = fits; short = one_number (codes "stack") n (omega arith) fits }
writable (events.Plan (lines.Buyin n)) fits =
    record { parts = fits; short = one_number (codes "buyin") n (omega arith) fits }
writable (events.Plan (lines.Late n)) fits =
    record { parts = fits; short = one_number (codes "late") n (omega arith) fits }
writable (events.Plan (lines.Blinds blind)) fits =
    let small = number-room blind.small fits.0 in
    let big = number-room blind.big fits.1.0 in
    let unit = number-room blind.unit fits.1.1.0 in
    let ante = if_any-room blind.ante fits.1.1.1 in
    record {
      parts = fits;
      short = short (codes "blinds" ∷ decimal blind.small ∷ decimal blind.big ∷ decimal blind.unit
          ∷ words_if_any blind.ante) (omega (arith, small, big, unit, ante));
    }
writable (events.Plan (lines.Limit n)) fits =
    record { parts = fits; short = one_number (codes "limit") n (omega arith) fits }
writable (events.Plan (lines.Shares shares)) fits =
    let all = each-room decimal (λ share. share ≤ whole_pool) 5 shares share-room fits.2 in
    let most = fits.1 in
    record {
      parts = (fits.0, fits.1, small_shares shares fits.2);
      short = short (codes "shares" ∷ map decimal shares) (omega (arith, all, most));
    }
writable events.Go fits = record { parts = tt; short = short (codes "go" ∷ []) (omega arith) }
writable (events.Enter name table seat) fits =
    let name_room = name-room name fits.0 in
    let table_room = number-room table fits.1.0 in
    let seat_room = number-room seat fits.1.1 in
    record {
      parts = fits;
      short = short (codes "enter" ∷ name ∷ decimal table ∷ decimal seat ∷ [])
          (omega (arith, name_room, table_room, seat_room));
    }
writable (events.Reenter name table seat) fits =
    let name_room = name-room name fits.0 in
    let table_room = number-room table fits.1.0 in
    let seat_room = number-room seat fits.1.1 in
    record {
      parts = fits;
      short = short (codes "reenter" ∷ name ∷ decimal table ∷ decimal seat ∷ [])
          (omega (arith, name_room, table_room, seat_room));
    }
writable (events.Begin table row) fits =
    let table_room = number-room table fits in
    let cards = row-room row in
    record {
      parts = (fits, tt);
      short = short (codes "begin" ∷ decimal table ∷ row_text row.cards ∷ []) (omega (arith, table_room, cards));
    }
writable (events.Act table name act) fits =
    let table_room = number-room table fits.0 in
    let name_room = name-room name fits.1.0 in
    let act_room = act-room act fits.1.1 in
    record {
      parts = fits;
      short = short (codes "act" ∷ decimal table ∷ name ∷ act_words act)
          (omega (arith, table_room, name_room, act_room));
    }
writable (events.Time table) fits =
    record { parts = fits; short = one_number (codes "time") table (omega arith) fits }
writable (events.Settle table) fits =
    record { parts = fits; short = one_number (codes "settle") table (omega arith) fits }
writable (events.Balance from to) fits =
    let one = number-room from fits.0 in
    let other = number-room to fits.1 in
    record {
      parts = fits;
      short = short (codes "balance" ∷ decimal from ∷ decimal to ∷ []) (omega (arith, one, other));
    }
writable (events.Break table places names) fits =
    let table_room = number-room table fits.0 in
    let places_room = places-room places fits.1.0 in
    let names_room = names-room names fits.1.1 in
    record {
      parts = fits;
      short = short
          (codes "break" ∷ decimal table ∷ list_text place_text places ∷ list_text (λ name. name) names ∷ [])
          (omega (arith, table_room, places_room, names_room));
    }
writable events.Level fits = record { parts = tt; short = short (codes "level" ∷ []) (omega arith) }
writable (events.Race table row) fits =
    let table_room = number-room table fits in
    let cards = row-room row in
    record {
      parts = (fits, tt);
      short = short (codes "race" ∷ decimal table ∷ row_text row.cards ∷ []) (omega (arith, table_room, cards));
    }
writable (events.Hands on) fits =
    record {
      parts = tt;
      short = short (codes "hands" ∷ switch_word on ∷ []) (let word = switch-room on in omega (arith, word));
    }
writable events.Round fits = record { parts = tt; short = short (codes "round" ∷ []) (omega arith) }
writable events.Stop fits = record { parts = tt; short = short (codes "stop" ∷ []) (omega arith) }
