-- In each hand that is played, the big mark is next after the small one, so that each player of it is covered.
use Rattle.std.proofs.Common.{◌≡◌, refl, subst, sym, ℕ, zero, suc, ◌+◌, true, List, [], ◌∷◌}
use Rattle.std.specs.Prelude.{slice_set, Option, Some, None, option_map}
use Rattle.std.specs.Option.{option_map_or, ForSome}
use Rattle.level_plan.specs.Plans.{PlanTerms}
use Rattle.table_engine.specs.declared.start.HandStart.{HandStart}
use Rattle.table_engine.specs.declared.start.StartSeat.{StartSeat}
use Rattle.table_engine.specs.Covers.{is_big_next, is_covered}
use Rattle.table_engine.specs.Hands.{HandTerms, player_of}
use Rattle.table_engine.proofs.Covered.{covered-next}
use Rattle.tournament_events.specs.declared.event.Event.{Event}
use Rattle.tournament_events.specs.declared.event.Event.TheVariants as events
use Rattle.tournament_rules.specs.Books.{BookState, start_at}
use Rattle.tournament_rules.specs.Dealing.{next_start}
use Rattle.tournament_rules.specs.Effects.{settled}
use Rattle.tournament_rules.specs.States.{PlayState, first_state, first_play, acts_at, hand_at, hand_about, refusal_of, play_effect, run}
use Rattle.tournament_rules.specs.Valid.{IsValidPlay}
use Rattle.tournament_rules.proofs.Ends.{none_started-stopped}
use Rattle.tournament_rules.proofs.Entries.{start_none}
use Rattle.tournament_rules.proofs.Passed.{passed-parts}
use Rattle.tournament_rules.proofs.Plays.{some_so}
use Rattle.tournament_rules.proofs.Steps.{valid_events}
use Rattle.tournament_laws.proofs.Holds.{hand_started}
use Rattle.tournament_laws.proofs.Kept.{events_keep}
use Rattle.tournament_laws.proofs.NextBig.{big_next-begun}

-- In each hand of these starts the big mark is next.
abbrev AreNext : List (Option HandStart) → Type 0
AreNext started = (table : ℕ) → ForSome (start_at started table) (λ start. is_big_next start ≡ true)

-- what is so of each start is so once a table has another start of which it is so, or none
put_keeps : (P : HandStart → Type 0) (started : List (Option HandStart)) (put : Option HandStart) (at other : ℕ)
    → ForSome put P → ForSome (start_at started other) P → ForSome (start_at (slice_set started at put) other) P
put_keeps P [] put at other his is = is
put_keeps P (start ∷ started) put zero zero his is = his
put_keeps P (start ∷ started) put zero (suc other) his is = is
put_keeps P (start ∷ started) put (suc at) zero his is = is
put_keeps P (start ∷ started) put (suc at) (suc other) his is = put_keeps P started put at other his is

settled_next : (book : BookState) (hand : Option HandTerms) → AreNext book.started
    → AreNext (option_map_or (settled book) hand book).started
settled_next book None are = are
settled_next book (Some hand) are = λ table.
    put_keeps (λ start. is_big_next start ≡ true) book.started None hand.start.table table (λ start is. absurd cc)
    (are table)

next_kept : (play : PlayState) (event : Event) → IsValidPlay play → refusal_of play event ≡ None
    → AreNext play.book.started → AreNext (play_effect play event).book.started
next_kept play (events.Begin at row) valid free are = λ table.
    put_keeps (λ start. is_big_next start ≡ true) play.book.started (Some (next_start play.book at row.cards)) at table
    (some_so (λ start. is_big_next start ≡ true) (next_start play.book at row.cards)
    (big_next-begun play.book at row valid.book (passed-parts play (events.Begin at row) free).0))
    (are table)
next_kept play (events.Settle table) valid free are =
    settled_next play.book (hand_about play (events.Settle table)) are
next_kept play events.Stop valid free are = λ table.
    subst (λ (found : Option HandStart). ForSome found (λ start. is_big_next start ≡ true))
    (sym (none_started-stopped play.book table valid.book)) (λ start is. absurd cc)
next_kept play _ valid free are = are

-- In each hand that is played after any list of events the big mark is next after the small one.
pub big_next : (events : List Event) (table : ℕ) → ForSome (run first_state events).play
    (λ play. ForSome (hand_at play table) (λ hand. is_big_next hand.start ≡ true))
big_next events table play is = by_start (start_at play.book.started table)
    (events_keep (λ play. AreNext play.book.started) none_yet next_kept events play is table)
  where
    none_yet : (plan : PlanTerms) → AreNext (first_play plan).book.started
    none_yet plan table =
        subst (λ (found : Option HandStart). ForSome found (λ start. is_big_next start ≡ true))
        (sym (start_none (plan.tables + 1) table)) (λ start is. absurd cc)

    by_start : (start : Option HandStart) → ForSome start (λ start. is_big_next start ≡ true)
        → ForSome {T = HandTerms} (option_map (λ start. record { start = start; acts = acts_at play.acts table }) start)
        (λ hand. is_big_next hand.start ≡ true)
    by_start None next = λ hand is. absurd cc
    by_start (Some start) next =
        some_so (λ (hand : HandTerms). is_big_next hand.start ≡ true)
        (record { start = start; acts = acts_at play.acts table }) (next start refl)

-- So each player of it is covered.
pub all_covered : (events : List Event) (table seat : ℕ) (player : StartSeat) → ForSome (run first_state events).play
    (λ play. ForSome (hand_at play table) (λ hand. player_of hand.start seat ≡ Some player
    → is_covered hand player ≡ true))
all_covered events table seat player play is hand out =
    let valid = (valid_events events).play play is in
    covered-next hand seat player (hand_started play valid table hand out) (valid.plays table hand out)
    (big_next events table play is hand out)
