-- What the parts of a valid book say of its players and hands.
use Rattle.std.proofs.Common.{◌≡◌, ◌∙◌, refl, sym, ap, ℕ, ◌+◌, ◌%◌, ◌<◌, Bool, true, false, cond, ◌==◌, ◌&&◌, eq-eqb, List, [], ◌∷◌, map, length, arith}
use Rattle.std.specs.Prelude.{filter, count_by, Option, Some, None, option_map}
use Rattle.std.specs.List.{All}
use Rattle.std.specs.Option.{option_map_or, ForSome}
use Rattle.std.proofs.lemmas.Bool.{eqb-false, eqb-true}
use Rattle.std.proofs.lemmas.List.Elements.{All-head, All-tail, All-weaker}
use Rattle.std.proofs.lemmas.List.Sums.{AllPass-from_list_all}
use Rattle.seat_book.specs.declared.seated.Seated.{Seated}
use Rattle.seat_book.specs.Players.{sits_at, is_numbered, are_in_order}
use Rattle.seat_book.specs.Tables.{status_at}
use Rattle.table_engine.specs.declared.start.HandStart.{HandStart}
use Rattle.tournament_rules.specs.Books.{BookState, start_at, starters_of}
use Rattle.tournament_rules.specs.Players.{is_in_hand, start_seat}
use Rattle.tournament_rules.specs.Chips.{sold_by, rest_in, play_of}
use Rattle.table_engine.specs.Hands.{HandTerms}
use Rattle.table_engine.specs.Starts.{IsLawfulStart}
use Rattle.card_set.specs.declared.card.CardRow.{CardRow}
use Rattle.tournament_events.specs.declared.answer.Answer.TheVariants.{Ok}
use Rattle.tournament_events.specs.declared.event.Event.TheVariants.{Begin}
use Rattle.tournament_rules.specs.Dealing.{next_start}
use Rattle.tournament_rules.specs.States.{State, PlayState, acts_at, hand_at, refusal_of, answered, answer_to, is_accepted}
use Rattle.tournament_rules.specs.Units.{is_whole_at}
use Rattle.tournament_rules.specs.Valid.{IsValid, IsValidPlay, IsStartAt, is_bust_of, is_lent, without_stack}
use Rattle.tournament_rules.proofs.Passed.{passed-parts}
use Rattle.tournament_rules.proofs.Plays.{some_so}
use Rattle.tournament_rules.proofs.Steps.{accepted_none}
use Rattle.tournament_rules.proofs.Begins.{start_is_lawful}
use Rattle.tournament_rules.proofs.Members.{in_hand-lent}
use Rattle.tournament_rules.proofs.InOrBust.{one_owed}

-- Each entered player has exactly one seat or one row of those who are out.
pub in_or_bust : (book : BookState) → IsValid book → (number : ℕ) → number < length book.entries
    → count_by (is_numbered number) book.seating.players + count_by (is_bust_of number) book.busts ≡ 1
in_or_bust book valid number within = valid.entries.once number ∙ one_owed number (length book.entries) within

-- who sits at a table is lent there where he has nothing at rest
lent_here : (table stack : ℕ) → (table == table && stack == 0) ≡ (stack == 0)
lent_here table stack = rw (eq-eqb table table refl) refl

-- Who is in no hand has a stack above 0.
pub stacks_above : (book : BookState) → IsValid book
    → All (λ player. is_in_hand book.started player ≡ false → 0 < player.stack) book.seating.players
stacks_above book valid =
    All-weaker (λ player. is_in_hand book.started player ≡ is_lent player.place.table player)
    (λ player. is_in_hand book.started player ≡ false → 0 < player.stack)
    (λ player same rests.
    let some = eqb-false player.stack 0 (sym (lent_here player.place.table player.stack) ∙ (sym same ∙ rests)) in
    omega (arith, some)) book.seating.players
    (in_hand-lent book valid)

-- a player's stack is a multiple of the unit of his table
abbrev IsWhole : BookState → Seated → Type 0
IsWhole book player = player.stack % (status_at book.seating.tables player.place.table).unit ≡ 0

-- Each stack at rest is a multiple of the unit of its player's table.
pub stacks_whole : (book : BookState) → IsValid book → All (IsWhole book) book.seating.players
stacks_whole book valid =
    All-weaker (λ player. is_whole_at book.seating.tables player ≡ true) (IsWhole book)
    (λ player is. eqb-true (player.stack % (status_at book.seating.tables player.place.table).unit) 0 is)
    book.seating.players
    (AllPass-from_list_all (is_whole_at book.seating.tables) book.seating.players valid.units.whole)

-- The players of a table who are in a hand are those who have nothing at rest there.
in_hand-picked : (started : List (Option HandStart)) (table : ℕ) (players : List Seated)
    → All (λ player. is_in_hand started player ≡ is_lent player.place.table player) players
    → filter (is_in_hand started) (filter (sits_at table) players) ≡ filter (is_lent table) players
in_hand-picked started table [] each = refl
in_hand-picked started table (player ∷ players) each =
    let others = All-tail
    (λ player. is_in_hand started player ≡ is_lent player.place.table player) player players each in
    by_seat (sits_at table player) refl (in_hand-picked started table players others)
  where
    by_seat : (sits : Bool) → sits_at table player ≡ sits
        → filter (is_in_hand started) (filter (sits_at table) players) ≡ filter (is_lent table) players
        → filter (is_in_hand started)
        (cond sits (player ∷ filter (sits_at table) players) (filter (sits_at table) players))
        ≡ cond (sits && player.stack == 0) (player ∷ filter (is_lent table) players) (filter (is_lent table) players)
    by_seat true is others =
        let his = All-head (λ player. is_in_hand started player ≡ is_lent player.place.table player) player players
        each in
        rw (his ∙ lent_here player.place.table player.stack, others) refl
    by_seat false is others = others

-- The players of a table who are in a hand are, in number, name and seat, those of its start, with nothing at rest.
pub hand_players : (book : BookState) → IsValid book → (table : ℕ)
    → map start_seat (filter (is_in_hand book.started) (filter (sits_at table) book.seating.players))
    ≡ map without_stack (starters_of (start_at book.started table))
hand_players book valid table =
    let picked = in_hand-picked book.started table book.seating.players (in_hand-lent book valid) in
    ap (λ (found : List Seated). map start_seat found) picked ∙ valid.hands.lent table

-- The chips at rest, those in play and those that races took away are those sold and those that races gave, before
-- there is a plan and afterwards.
pub chips_kept : (play : Option PlayState) → ForSome play IsValidPlay
    → option_map_or (λ play. rest_in play.book) play 0 + option_map_or (λ play. play_of play.book) play 0
    + option_map_or (λ play. play.book.removed) play 0
    ≡ option_map_or (λ play. sold_by play.book) play 0 + option_map_or (λ play. play.book.added) play 0
chips_kept None valid = omega arith
chips_kept (Some play) valid = (valid play refl).book.chips

-- The players are in order, before there is a plan and afterwards.
pub players_in_order : (play : Option PlayState) → ForSome play IsValidPlay
    → are_in_order (option_map_or (λ play. play.book.seating.players) play []) ≡ true
players_in_order None valid = refl
players_in_order (Some play) valid = (valid play refl).book.tables.lawful.ordered

-- Each hand that is played started lawfully.
pub hand_started : (play : PlayState) → IsValidPlay play → (table : ℕ)
    → ForSome (hand_at play table) (λ hand. IsLawfulStart hand.start)
hand_started play valid table = by_start (start_at play.book.started table) (valid.book.hands.starts table)
  where
    by_start : (start : Option HandStart) → ForSome start (IsStartAt play.book.plan play.book.seating.tables table)
        → ForSome {T = HandTerms} (option_map (λ start. record { start = start; acts = acts_at play.acts table }) start)
        (λ hand. IsLawfulStart hand.start)
    by_start None lawful = λ hand is. absurd cc
    by_start (Some start) lawful =
        some_so (λ (hand : HandTerms). IsLawfulStart hand.start)
        (record { start = start; acts = acts_at play.acts table }) (lawful start refl).lawful

-- A hand that may begin starts lawfully.
pub start_lawful : (state : State) (play : PlayState) (table : ℕ) (row : CardRow) → state.play ≡ Some play
    → IsValidPlay play → answer_to state (Begin table row) ≡ Ok → IsLawfulStart (next_start play.book table row.cards)
start_lawful state play table row is valid accepted =
    let none : answered (refusal_of play (Begin table row)) ≡ Ok = rw is at accepted in
    start_is_lawful play.book table row valid.book
    (passed-parts play (Begin table row)
    (accepted_none (refusal_of play (Begin table row)) (ap is_accepted none))).0
