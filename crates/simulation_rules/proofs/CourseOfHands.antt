-- A simulated tournament stays under way when a hand begins and when it is settled.
use Rattle.std.proofs.Common.{◌≡◌, ◌∙◌, refl, sym, ap, ℕ, ◌<◌, ◌≤◌, ◌⊎◌, inl, inr, true, false, ◌==◌, List, length, arith}
use Rattle.std.specs.Prelude.{Option, Some, None, option_map}
use Rattle.std.proofs.lemmas.Bool.{both_ways, cases_Bool, cases_lt, eqb-false, eqb-true, false_from_ne_true}
use Rattle.card_set.specs.declared.card.CardRow.{CardRow}
use Rattle.seat_book.specs.declared.table_status.TableStatus.{TableStatus}
use Rattle.seat_book.specs.Tables.{status_at, with_status}
use Rattle.table_engine.specs.declared.start.HandStart.{HandStart}
use Rattle.table_engine.specs.Hands.{HandTerms}
use Rattle.tournament_events.specs.declared.event.Event.TheVariants.{Begin}
use Rattle.tournament_rules.specs.Books.{BookState, start_at}
use Rattle.tournament_rules.specs.Checks.{book_refusal, is_playing}
use Rattle.tournament_rules.specs.Dealing.{next_at}
use Rattle.tournament_rules.specs.Effects.{at_rest, begun_book, playing_from, settled}
use Rattle.tournament_rules.specs.States.{PlayState, acts_at, hand_at}
use Rattle.tournament_rules.specs.Valid.{IsValid, IsValidPlay}
use Rattle.tournament_rules.proofs.Begins.{may_begin, valid_begun}
use Rattle.tournament_rules.proofs.Fitting.{each_status, status_elsewhere, status_here, table_range, table_started}
use Rattle.simulation_rules.specs.declared.place.SimPlace.{SimPlace}
use Rattle.simulation_rules.specs.Course.{IsTurnOf, IsUnderWay}
use Rattle.simulation_rules.specs.Entrants.{entrants}
use Rattle.simulation_rules.specs.Limits.{most_hands}
use Rattle.simulation_rules.specs.Places.{hand_played}
use Rattle.simulation_rules.proofs.CourseOfBooks.{same_over}
use Rattle.simulation_rules.proofs.CourseOfTables.{pending-with_status}

-- Where no hand is played at the place's table and none was, there are fewer hands than the most.
pub fewer_hands : (book : BookState) (place : SimPlace) → IsUnderWay book place → is_playing book place.table ≡ false
    → place.played ≡ false → book.begun < most_hands
fewer_hands book place under rests fresh = elim (cases_lt book.begun most_hands) [
  | inl fewer ↦ fewer
  | inr more ↦
      let few = under.few_hands in
      absurd (neither (under.last_hand (omega (arith, more, few))))
]
  where
    neither : (is_playing book place.table ≡ true) ⊎ (place.played ≡ true) → ⊥
    neither (inl plays) = both_ways (is_playing book place.table) rests plays
    neither (inr played) = both_ways place.played fresh played

-- After a hand began at the place's table.
pub begun_on : (book : BookState) (place : SimPlace) (row : CardRow) → IsValid book → IsUnderWay book place
    → entrants book.plan ≤ length book.entries → place.played ≡ false → place.done ≡ false
    → book_refusal book (Begin place.table row) ≡ None → IsUnderWay (begun_book book place.table row.cards) place
begun_on book place row valid under full fresh turns free =
    let may = may_begin book place.table row free in
    let range = table_range 1 book.plan.tables place.table may.there in
    let count = valid.tables.tables in
    let size = valid.tables.lawful.tables in
    let tables = book.seating.tables in
    let status = playing_from (next_at book place.table).marks book.seating.hands (status_at tables place.table) in
    let last : place.table ≤ length tables = omega (arith, range.1, count, size) in
    let fewer = fewer_hands book place under may.rests fresh in
    let same = same_over book (begun_book book place.table row.cards) valid
    (valid_begun book place.table row valid free) refl refl in
    record {
      from_first = under.from_first;
      to_last = under.to_last;
      rounds = let rounds = under.rounds in omega (arith, rounds);
      own_hand = λ had. under.rounds;
      any = under.any;
      hands_off = under.hands_off;
      turn = λ other plays. each_status (λ number status. status.playing ≡ true → IsTurnOf place number) tables
          place.table status range.0 last
          (λ plays. record { here = refl; played = fresh; done = turns }) other (under.turn other) plays;
      races = λ done. pending-with_status (playing_from (next_at book place.table).marks book.seating.hands)
          (λ status. refl) tables place.table ∙ under.races done;
      few_hands = omega (arith, fewer);
      last_hand = λ most. inl (ap (λ (status : TableStatus). status.playing)
          (status_here tables place.table status range.0 last));
      done_played = under.done_played;
      between = λ done. absurd (both_ways place.done turns done);
      over = λ over. under.over (sym same ∙ over);
      over_at_table = λ over. turns;
      entering = λ few. absurd (omega (arith, few, full));
    }

-- The start of the hand that is played at a table.
pub start_of_hand : (play : PlayState) (table : ℕ) (hand : HandTerms) → hand_at play table ≡ Some hand
    → start_at play.book.started table ≡ Some hand.start
start_of_hand play table hand is = by_start (start_at play.book.started table) is
  where
    by_start : (found : Option HandStart)
        → option_map (λ start. record { start = start; acts = acts_at play.acts table }) found ≡ Some hand
        → found ≡ Some hand.start
    by_start None is = absurd cc
    by_start (Some start) is =
        let same : record { start = start; acts = acts_at play.acts table } ≡ hand = cc in
        ap (λ (hand : HandTerms). Some hand.start) same

-- After the hand at the place's table is settled.
pub settled_on : (play : PlayState) (place : SimPlace) (hand : HandTerms) → IsValidPlay play
    → IsUnderWay play.book place → entrants play.book.plan ≤ length play.book.entries → place.done ≡ false
    → is_playing play.book place.table ≡ true → hand_at play place.table ≡ Some hand
    → IsUnderWay (settled play.book hand) (hand_played place)
settled_on play place hand valid under full turns plays is =
    let book = play.book in
    record {
      from_first = under.from_first;
      to_last = under.to_last;
      rounds = under.rounds;
      own_hand = λ had. under.own_hand (inr plays);
      any = λ is. refl;
      hands_off = under.hands_off;
      turn = λ other again. absurd (both_ways _ (nobody other) again);
      races = λ done. pending-with_status at_rest (λ status. refl) book.seating.tables hand.start.table
          ∙ under.races done;
      few_hands = under.few_hands;
      last_hand = λ most. inr refl;
      done_played = λ is. refl;
      between = λ done. absurd (both_ways place.done turns done);
      over = λ over. refl;
      over_at_table = λ over. turns;
      entering = λ few. absurd (omega (arith, few, full));
    }
  where
    tables : List TableStatus
    tables = play.book.seating.tables

    start : start_at play.book.started place.table ≡ Some hand.start
    start = start_of_hand play place.table hand is

    here : hand.start.table ≡ place.table
    here = (valid.book.hands.starts place.table hand.start start).here

    elsewhere : (other : ℕ) → (hand.start.table == other) ≡ false → (status_at tables other).playing ≡ false
    elsewhere other differ = false_from_ne_true (status_at tables other).playing (λ plays.
        let his = (under.turn other plays).here in
        eqb-false hand.start.table other differ (here ∙ sym his))

    nobody : (other : ℕ)
        → (status_at (with_status tables hand.start.table (at_rest (status_at tables hand.start.table))) other).playing
        ≡ false
    nobody other = elim (cases_Bool (hand.start.table == other)) [
      | inl same ↦
          let listed = table_started play.book.plan play.book.seating play.book.started place.table hand.start
          valid.book.tables start in
          let range = table_range 1 play.book.plan.tables place.table listed in
          let count = valid.book.tables.tables in
          let size = valid.book.tables.lawful.tables in
          let rest = at_rest (status_at tables hand.start.table) in
          let low = range.0 in
          let first : 1 ≤ hand.start.table = omega (arith, low, here) in
          let high = range.1 in
          let last : hand.start.table ≤ length tables = omega (arith, high, here, count, size) in
          ap (λ (number : ℕ). (status_at (with_status tables hand.start.table rest) number).playing)
          (sym (eqb-true hand.start.table other same))
          ∙ ap (λ (status : TableStatus). status.playing) (status_here tables hand.start.table rest first last)
      | inr differ ↦ ap (λ (status : TableStatus). status.playing)
          (status_elsewhere tables hand.start.table other (at_rest (status_at tables hand.start.table)) differ)
          ∙ elsewhere other differ
    ]
