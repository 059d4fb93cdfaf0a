-- Each begin, act, settle and stop leaves fewer steps.
use Rattle.std.proofs.Common.{◌≡◌, ◌∙◌, refl, sym, ap, subst, ℕ, ◌+◌, ◌<◌, ◌≤◌, true, false, List, [], ◌∷◌, ◌++◌, length, inr, arith}
use Rattle.std.specs.Prelude.{slice_set, option_map, Option, Some, None}
use Rattle.std.specs.Option.{option_map_or}
use Rattle.std.proofs.lemmas.List.{get_or-set_same, length-append}
use Rattle.rulebook.proofs.Tests.{some_there}
use Rattle.card_set.specs.declared.card.CardRow.{CardRow}
use Rattle.betting_round.specs.declared.act.Act.{Act}
use Rattle.seat_book.specs.Players.{sits_at}
use Rattle.seat_book.specs.Tables.{status_at}
use Rattle.table_engine.specs.declared.record.ActOf.{ActOf}
use Rattle.table_engine.specs.declared.start.HandStart.{HandStart}
use Rattle.table_engine.specs.Hands.{HandTerms}
use Rattle.table_engine.specs.Results.{players_after}
use Rattle.table_engine.specs.Starts.{chips_of}
use Rattle.table_engine.proofs.TurnLaws.{length-bound}
use Rattle.tournament_events.specs.declared.event.Event.TheVariants as events
use Rattle.tournament_rules.specs.Books.{start_at}
use Rattle.tournament_rules.specs.Checks.{is_playing}
use Rattle.tournament_rules.specs.Dealing.{next_at}
use Rattle.tournament_rules.specs.Effects.{at_rest, busted_by, playing_from, settled}
use Rattle.tournament_rules.specs.Players.{is_one_of, paid, put_back}
use Rattle.tournament_rules.specs.States.{PlayState, acts_at, hand_at, play_effect, refusal_of}
use Rattle.tournament_rules.specs.Valid.{IsValidPlay}
use Rattle.tournament_rules.proofs.Begins.{may_begin}
use Rattle.tournament_rules.proofs.DealtIn.{as_dealt, dealt-stacks}
use Rattle.tournament_rules.proofs.Fitting.{table_range, table_started}
use Rattle.tournament_rules.proofs.KeptUnits.{keeps-set}
use Rattle.tournament_rules.proofs.Passed.{act_passed, passed-parts, settle_passed}
use Rattle.tournament_rules.proofs.Paying.{paid-stacks}
use Rattle.tournament_rules.proofs.Plays.{play_keeps}
use Rattle.tournament_rules.proofs.Restacked.{count_changed}
use Rattle.tournament_rules.proofs.Stayed.{count_apart}
use Rattle.simulation_rules.specs.declared.place.SimPlace.{SimPlace}
use Rattle.simulation_rules.specs.Effort.{effort_in_play, effort_of_hand, most_acts}
use Rattle.simulation_rules.specs.Limits.{most_hands}
use Rattle.simulation_rules.specs.Places.{hand_played}
use Rattle.simulation_rules.proofs.FewChips.{hand-most}
use Rattle.simulation_rules.proofs.OpenTables.{orders-fewer}
use Rattle.simulation_rules.proofs.Parts.{falls_by_parts, hands-begun, hands-same, left_in_play, levels-same, places-least, places-most, places-owed}

-- A hand that begins leaves fewer steps.
pub falls-begin : (play : PlayState) (place : SimPlace) (row : CardRow) → IsValidPlay play
    → play.book.begun < most_hands → refusal_of play (events.Begin place.table row) ≡ None
    → left_in_play (play_effect play (events.Begin place.table row)) place < effort_in_play play place
unfolding most_acts
falls-begin play place row valid few none =
    let table = place.table in
    let later : PlayState = play_effect play (events.Begin table row) in
    let after = play_keeps play (events.Begin table row) valid none in
    let seating = play.book.seating in
    let may = may_begin play.book table row (passed-parts play (events.Begin table row) none).0 in
    let range = table_range 1 play.book.plan.tables table may.there in
    let count = valid.book.tables.tables in
    let size = valid.book.tables.lawful.tables in
    let next = next_at play.book table in
    let orders = orders-fewer seating later.book.seating refl (λ number.
    let same = count_changed (sits_at number) (as_dealt table next.waiting) (record { same = λ player stack. refl })
    (dealt-stacks table next.waiting) seating.players in
    omega (arith, same)) in
    let kept = keeps-set seating.tables table
    (playing_from next.marks seating.hands (status_at seating.tables table)) range.0
    (omega (arith, range.1, count, size)) refl refl in
    let levels = levels-same later.book play.book refl refl kept.due in
    let hands = hands-begun later.book play.book refl refl few in
    let hand = hand-most later table after.book in
    let most = places-most later.book place in
    let least = places-least play.book place in
    falls_by_parts play later place place (omega (arith, orders, levels, hands, hand, most, least))

-- The hand that is played at a table, which has no more acts than it may have.
pub record HandThere (play : PlayState) (table : ℕ) : Type 0 where
  pub start : HandStart
  pub is : start_at play.book.started table ≡ Some start
  pub hand : hand_at play table ≡ Some (record { start = start; acts = acts_at play.acts table })
  pub short : length (acts_at play.acts table) ≤ chips_of start.seats + 50

-- Where a table plays there is such a hand.
pub hand-there : (play : PlayState) (table : ℕ) → IsValidPlay play → is_playing play.book table ≡ true
    → HandThere play table
hand-there play table valid playing =
    let found = some_there (start_at play.book.started table) (sym (valid.book.tables.playing table) ∙ playing) in
    let hand : HandTerms = record { start = found.0; acts = acts_at play.acts table } in
    let is : hand_at play table ≡ Some hand =
    ap (option_map (λ (start : HandStart). record { start = start; acts = acts_at play.acts table })) found.1 in
    let began = valid.book.hands.starts table found.0 found.1 in
    record {
      start = found.0;
      is = found.1;
      hand = is;
      short = length-bound hand began.lawful (valid.plays table hand is);
    }

-- what a hand with this start, if there is one, and these acts may still take
abbrev hand_left : Option HandStart → List ActOf → ℕ
hand_left start acts = effort_of_hand (option_map (λ start. record { start = start; acts = acts }) start)

-- An act leaves fewer steps.
pub falls-act : (play : PlayState) (place : SimPlace) (name : List ℕ) (act : Act) → IsValidPlay play
    → refusal_of play (events.Act place.table name act) ≡ None
    → left_in_play (play_effect play (events.Act place.table name act)) place < effort_in_play play place
falls-act play place name act valid none =
    let table = place.table in
    let later : PlayState = play_effect play (events.Act table name act) in
    let goes = act_passed play.book table name act (passed-parts play (events.Act table name act) none).0 in
    let range = table_range 1 play.book.plan.tables table goes.there in
    let room = valid.room in
    let there = hand-there play table valid goes.playing in
    let new : ActOf = record { name = name; act = act; by_time = false } in
    let acts = acts_at play.acts table in
    let now : acts_at later.acts table ≡ acts ++ new ∷ [] =
    get_or-set_same play.acts table (acts ++ new ∷ []) [] (omega (arith, range.1, room)) in
    let more = ap length now ∙ length-append acts (new ∷ []) in
    let before = ap (λ (start : Option HandStart). hand_left start acts) there.is in
    let after = ap (λ (start : Option HandStart). hand_left start (acts_at later.acts table)) there.is in
    let short = there.short in
    falls_by_parts play later place place (omega (arith, more, before, after, short))

-- A settle of a hand leaves fewer steps.
settled-falls : (play : PlayState) (place : SimPlace) (hand : HandTerms) (acts : List (List ActOf)) → IsValidPlay play
    → is_playing play.book place.table ≡ true → start_at play.book.started place.table ≡ Some hand.start
    → left_in_play (record { book = settled play.book hand; acts = acts }) (hand_played place)
    < effort_in_play play place
settled-falls play place hand acts valid playing is =
    let table = place.table in
    let later : PlayState = record { book = settled play.book hand; acts = acts } in
    let there = hand-there play table valid playing in
    let here : hand.start.table ≡ table = (valid.book.hands.starts table hand.start is).here in
    let listed = table_started play.book.plan play.book.seating play.book.started table hand.start valid.book.tables
    is in
    let range = table_range 1 play.book.plan.tables table listed in
    let count = valid.book.tables.tables in
    let size = valid.book.tables.lawful.tables in
    let room = valid.book.tables.room in
    let seating = play.book.seating in
    let back = put_back (players_after hand) seating.players in
    let orders = orders-fewer seating later.book.seating refl (λ number.
    let same = count_changed (sits_at number) (paid (players_after hand)) (record { same = λ player stack. refl })
    (paid-stacks (players_after hand)) seating.players in
    let parts = count_apart (sits_at number) (is_one_of (busted_by hand)) back in
    omega (arith, same, parts)) in
    let kept = keeps-set seating.tables hand.start.table (at_rest (status_at seating.tables hand.start.table))
    (omega (arith, range.0, here)) (omega (arith, range.1, here, count, size)) refl refl in
    let levels = levels-same later.book play.book refl refl kept.due in
    let hands = hands-same later.book play.book refl refl in
    let gone : start_at later.book.started table ≡ None =
    subst (λ (number : ℕ). start_at later.book.started number ≡ None) here
    (get_or-set_same play.book.started hand.start.table None None (omega (arith, range.1, here, room))) in
    let before = ap (λ (start : Option HandStart). hand_left start (acts_at play.acts table)) there.is in
    let after = ap (λ (start : Option HandStart). hand_left start (acts_at acts table)) gone in
    let owed = places-owed play.book place (inr playing) in
    let most = places-most later.book (hand_played place) in
    let short = there.short in
    falls_by_parts play later place (hand_played place)
    (omega (arith, orders, levels, hands, before, after, owed, most, short))

-- A settle leaves fewer steps.
pub falls-settle : (play : PlayState) (place : SimPlace) → IsValidPlay play
    → refusal_of play (events.Settle place.table) ≡ None
    → left_in_play (play_effect play (events.Settle place.table)) (hand_played place) < effort_in_play play place
falls-settle play place valid none =
    let table = place.table in
    let goes = settle_passed play.book table (passed-parts play (events.Settle table) none).0 in
    let there = hand-there play table valid goes.playing in
    let hand : HandTerms = record { start = there.start; acts = acts_at play.acts table } in
    subst (λ (hand : Option HandTerms). left_in_play
    (record { book = option_map_or (settled play.book) hand play.book; acts = slice_set play.acts table [] })
    (hand_played place) < effort_in_play play place) (sym there.hand)
    (settled-falls play place hand (slice_set play.acts table []) valid goes.playing there.is)

-- The stop leaves no step.
pub falls-stop : (play : PlayState) (place : SimPlace)
    → left_in_play (play_effect play events.Stop) place < effort_in_play play place
unfolding effort_in_play
falls-stop play place = omega arith
