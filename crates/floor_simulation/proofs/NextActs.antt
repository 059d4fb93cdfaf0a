-- An act comes next where somebody is due in the hand at the table whose turn it is.
use Rattle.std.proofs.Common.{◌≡◌, ◌∙◌, refl, sym, ap, ℕ, true, false, List, length, Option, Some, None, inr, arith}
use Rattle.std.specs.Prelude.{nat_lt, is_none, option_map, IfSome}
use Rattle.std.specs.Option.{ForSome, option_and_then, option_map_or}
use Rattle.std.proofs.lemmas.Bool.{false_from_ne_true, ltb-true}
use Rattle.betting_round.specs.declared.act.Act.{Act as PlayerAct}
use Rattle.table_engine.specs.Hands.{HandTerms, due_name, is_over}
use Rattle.tournament_events.specs.declared.event.Event.TheVariants.{Act}
use Rattle.floor_director.specs.SimulatedActs.{simulated_act}
use Rattle.tournament_rules.specs.Books.{BookState}
use Rattle.tournament_rules.specs.Checks.{is_playing}
use Rattle.tournament_rules.specs.States.{PlayState, hand_at}
use Rattle.simulation_rules.specs.declared.place.SimPlace.{SimPlace}
use Rattle.simulation_rules.specs.declared.step.SimStep.TheVariants.{Take, End}
use Rattle.simulation_rules.specs.Course.{IsUnderWay}
use Rattle.simulation_rules.specs.Entrants.{entrants}
use Rattle.simulation_rules.specs.Steps.{at_table, next_in_play}
use Rattle.floor_simulation.proofs.NextSteps.{book_in, next-turns}

-- Where a hand is played no seats are left to take.
all-entered : (book : BookState) (place : SimPlace) → IsUnderWay book place → is_playing book place.table ≡ true
    → nat_lt (length book.entries) (entrants book.plan) ≡ false
all-entered book place way plays = false_from_ne_true (nat_lt (length book.entries) (entrants book.plan)) (λ enters.
    let entering = way.entering (ltb-true (length book.entries) (entrants book.plan) enters) in
    let own = way.own_hand (inr plays) in
    let begun = entering.begun in
    let first = ap (λ (place : SimPlace). place.round) entering.first in
    omega (arith, own, begun, first))

module _ (seed : List ℕ) (number : ℕ) (place : SimPlace) (hand : HandTerms) (name : List ℕ) (act : PlayerAct)
    (going : is_over hand ≡ false) (due : due_name hand ≡ Some name) (chosen : act ≡ simulated_act seed number hand)
  where
    -- At the turn of a table who is due in its hand acts.
    table-acts : (play : PlayState) → is_playing play.book place.table ≡ true → hand_at play place.table ≡ Some hand
        → at_table seed number play place ≡ Take (Act place.table name act) place
    table-acts play plays is = rw (plays, is, going, due, chosen) refl

    -- His act comes next.
    acts-next : (found : Option PlayState) (book : BookState)
        → ForSome found (λ play. play.book.stopped ≡ false → IsUnderWay play.book place) → book_in found ≡ Some book
        → book.stopped ≡ false → option_map_or (λ play. is_playing play.book place.table) found false ≡ true
        → option_and_then (λ play. hand_at play place.table) found ≡ Some hand
        → option_map_or (λ play. next_in_play seed number play place) found End ≡ Take (Act place.table name act) place
    acts-next None book course has goes plays is = absurd cc
    acts-next (Some play) book course has goes plays is =
        let same : play.book ≡ book = cc in
        let on = ap (λ (book : BookState). book.stopped) same ∙ goes in
        let way = course play refl on in
        next-turns seed number play place on (all-entered play.book place way plays) (way.turn place.table plays).done
        ∙ table-acts play plays is

-- Where somebody is due in the hand at the table whose turn it is, his act comes next.
pub turn-next : (seed : List ℕ) (number : ℕ) (place : SimPlace) (hand : HandTerms) (turn : Option (List ℕ × PlayerAct))
    (found : Option PlayState) (book : BookState) → option_map (λ turn. turn.0) turn ≡ due_name hand
    → IfSome turn (λ turn. turn.1 ≡ simulated_act seed number hand) → is_none turn ≡ is_over hand
    → ForSome found (λ play. play.book.stopped ≡ false → IsUnderWay play.book place) → book_in found ≡ Some book
    → book.stopped ≡ false → option_map_or (λ play. is_playing play.book place.table) found false ≡ true
    → option_and_then (λ play. hand_at play place.table) found ≡ Some hand
    → IfSome turn (λ turn. option_map_or (λ play. next_in_play seed number play place) found End
    ≡ Take (Act place.table turn.0 turn.1) place)
turn-next seed number place hand None found book named chosen over course has goes plays is = tt
turn-next seed number place hand (Some (name, act)) found book named chosen over course has goes plays is =
    acts-next seed number place hand name act (sym over) (sym named) chosen found book course has goes plays is
