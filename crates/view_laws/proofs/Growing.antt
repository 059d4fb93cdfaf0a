-- What is shown of a hand stays shown: with one act more, and along a list of events.
use Rattle.std.proofs.Common.{◌≡◌, ◌∙◌, refl, sym, ap, subst, ℕ, zero, suc, Bool, true, false, cond, List, [], ◌∷◌, ◌++◌}
use Rattle.std.specs.Prelude.{◌&&◌, not, filter, is_none, is_some, Option, Some, None, All, Contains}
use Rattle.std.specs.List.{flat_map, AllByRecursion}
use Rattle.std.specs.Option.{option_map_or}
use Rattle.std.proofs.lemmas.List.Elements.{All-from_recursion, recursion_from_All, All-contains_itself}
use Rattle.floor_text.specs.declared.refusal.Refusal.TheVariants.{NotDealt}
use Rattle.betting_round.specs.StreetActs.{SeatAct}
use Rattle.betting_round.proofs.Turns.{accepted-due}
use Rattle.table_engine.specs.declared.start.HandStart.{HandStart}
use Rattle.table_engine.specs.declared.start.StartSeat.{StartSeat}
use Rattle.table_engine.specs.declared.record.ActOf.{ActOf}
use Rattle.table_engine.specs.Acts.{limits_on, refusal_of_act}
use Rattle.table_engine.specs.Hands.{HandTerms, StreetPlayed, Streets, due_in_hand, dealt_on, has_ended, is_live, seat_of_name, street_now, street_of, streets_of, with_act as with_seat_act, with_next_street}
use Rattle.table_engine.specs.Results.{is_won_by_folds}
use Rattle.table_engine.proofs.Refusals.{refused-in_seat, refused-without_seat}
use Rattle.table_engine.proofs.Running.{streets-more}
use Rattle.tournament_events.specs.declared.event.Event.{Event}
use Rattle.tournament_rules.specs.States.{State, first_state, state_after, run}
use Rattle.tournament_rules.specs.Valid.{IsValidState}
use Rattle.tournament_rules.proofs.Steps.{valid_state_after, valid_events}
use Rattle.view_rules.specs.Shown.{Viewer, BoardStreet, Flop, Turn, River, due_streets, is_shown_down, open_streets, players_clockwise, tabled_players, own_places, hole_places, street_places, places_shown}
use Rattle.view_rules.specs.Seen.{hand_in}
use Rattle.view_rules.specs.Entries.{with_act}
use Rattle.view_rules.specs.Agreeing.{hand_left, places_shown_in}
use Rattle.view_laws.proofs.Members.{first_part, second_part, both_parts, given_hold, all_given, always_hold}
use Rattle.view_laws.proofs.GoesOn.{GoesOn, Ends, Stays, Begins, Acts, state-goes_on}

-- the streets that were played, the newest first
abbrev all_played : Streets → List StreetPlayed
all_played streets = streets.last ∷ streets.before

-- Who acts in a hand has a seat there and is due.
record IsActing (hand : HandTerms) (act : ActOf) : Type 0 where
  seat : ℕ
  found : seat_of_name hand.start act.name ≡ Some seat
  due : due_in_hand hand ≡ Some seat

-- Where nothing refuses an act, he does.
acting : (hand : HandTerms) (act : ActOf) → refusal_of_act hand act.name act.act ≡ None → IsActing hand act
acting hand act free = by_seat (seat_of_name hand.start act.name) refl
  where
    by_seat : (slot : Option ℕ) → seat_of_name hand.start act.name ≡ slot → IsActing hand act
    by_seat None found =
        let never : None ≡ Some NotDealt = sym free ∙ refused-without_seat hand act.name act.act found in absurd cc
    by_seat (Some seat) found = record {
      seat = seat;
      found = found;
      due = accepted-due (limits_on hand.start (streets_of hand)) (street_of hand) seat act.act
          (sym (refused-in_seat hand act.name act.act seat found) ∙ free);
    }

-- So the hand is not shown down.
acting-open : (hand : HandTerms) (act : ActOf) → IsActing hand act → is_shown_down hand ≡ false
acting-open hand act acts =
    ap (λ (due : Option ℕ). is_none due && not (is_won_by_folds hand)) acts.due

-- Streets that begin keep those open on which some player was due.
due-dealt : (Q : BoardStreet → Type 0) (start : HandStart) (more : ℕ) (streets : Streets)
    → AllByRecursion Q (due_streets (all_played (dealt_on start more streets)))
    → AllByRecursion Q (due_streets (all_played streets))
due-dealt Q start zero streets all = all
due-dealt Q start (suc more) streets all =
    by_end (has_ended (street_now streets)) all (due-dealt Q start more (with_next_street start streets))
  where
    by_end : (ended : Bool)
        → AllByRecursion Q (due_streets (all_played
        (cond ended (dealt_on start more (with_next_street start streets)) streets)))
        → (AllByRecursion Q (due_streets (all_played (dealt_on start more (with_next_street start streets))))
        → AllByRecursion Q (due_streets (all_played (with_next_street start streets))))
        → AllByRecursion Q (due_streets (all_played streets))
    by_end true all later = first_part Q (due_streets (all_played streets)) _ (later all)
    by_end false all later = all

-- An act keeps those open on which some player was due.
due-acted : (Q : BoardStreet → Type 0) (hand : HandTerms) (act : ActOf) → IsActing hand act
    → AllByRecursion Q (due_streets (all_played (streets_of (with_act act hand))))
    → AllByRecursion Q (due_streets (all_played (streets_of hand)))
due-acted Q hand act acts all =
    let entry : SeatAct = record { seat = acts.seat; act = act.act } in
    let streets = with_seat_act (streets_of hand) entry in
    due-dealt Q hand.start streets.left streets
    (subst (λ (streets : Streets). AllByRecursion Q (due_streets (all_played streets)))
    (streets-more hand.start hand.acts act acts.seat acts.found) all)

-- The streets that are open stay open with one act more.
open-acted : (Q : BoardStreet → Type 0) (hand : HandTerms) (act : ActOf) → IsActing hand act
    → AllByRecursion Q (open_streets (with_act act hand)) → AllByRecursion Q (open_streets hand)
unfolding open_streets
open-acted Q hand act acts all =
    subst (λ (down : Bool). AllByRecursion Q
    (cond down (Flop ∷ Turn ∷ River ∷ []) (due_streets (all_played (streets_of hand)))))
    (sym (acting-open hand act acts))
    (by_down (is_shown_down (with_act act hand)) all)
  where
    each : Q Flop → Q Turn → Q River → (street : BoardStreet) → Q street
    each flop turn river Flop = flop
    each flop turn river Turn = turn
    each flop turn river River = river

    by_down : (down : Bool)
        → AllByRecursion Q (cond down (Flop ∷ Turn ∷ River ∷ [])
        (due_streets (all_played (streets_of (with_act act hand)))))
        → AllByRecursion Q (due_streets (all_played (streets_of hand)))
    by_down true all =
        always_hold Q (due_streets (all_played (streets_of hand))) (each all.0 all.1.0 all.1.1.0)
    by_down false all = due-acted Q hand act acts all

-- Nobody's hand is tabled before the hand is shown down.
none-tabled : (hand : HandTerms) → is_shown_down hand ≡ false → tabled_players hand ≡ []
unfolding tabled_players
none-tabled hand open_ =
    ap (λ (down : Bool). cond down (filter (is_live hand) (players_clockwise hand.start)) []) open_

-- What is shown stays shown with one act more.
shown-acted : (who : Viewer) (P : ℕ → Type 0) (hand : HandTerms) (act : ActOf)
    → refusal_of_act hand act.name act.act ≡ None → AllByRecursion P (places_shown who (with_act act hand))
    → AllByRecursion P (places_shown who hand)
shown-acted who P hand act free all =
    let acts = acting hand act free in
    let own = own_places who hand.start in
    let places = street_places hand.start in
    let holes = λ (player : StartSeat). hole_places hand.start player.seat in
    let now = flat_map places (open_streets hand) in
    let later = flat_map places (open_streets (with_act act hand)) in
    let front = first_part P (own ++ later) (flat_map holes (tabled_players (with_act act hand))) all in
    let owned = first_part P own later front in
    let opens = open-acted (λ (street : BoardStreet). AllByRecursion P (places street)) hand act acts
    (given_hold P places (open_streets (with_act act hand)) (second_part P own later front)) in
    let none = none-tabled hand (acting-open hand act acts) in
    both_parts P (own ++ now) (flat_map holes (tabled_players hand))
    (both_parts P own now owned (all_given P places (open_streets hand) opens))
    (subst (λ (players : List StartSeat). AllByRecursion P (flat_map holes players)) (sym none) tt)

-- what is shown of a hand that is played, and nothing where none is
abbrev pub shown_of : Viewer → Option HandTerms → List ℕ
shown_of who hand = option_map_or (places_shown who) hand []

-- What is shown of the hand that is played at a table stays shown where it is played on.
shown-goes_on : (who : Viewer) (P : ℕ → Type 0) (before after : Option HandTerms) (event : Event) (table : ℕ)
    → GoesOn before event table after → is_some after ≡ true → AllByRecursion P (shown_of who after)
    → AllByRecursion P (shown_of who before)
shown-goes_on who P before after event table (Ends none) some all =
    let never : is_some {T = HandTerms} None ≡ true = ap is_some (sym none) ∙ some in absurd cc
shown-goes_on who P before after event table (Stays same) some all =
    subst (λ (hand : Option HandTerms). AllByRecursion P (shown_of who hand)) same all
shown-goes_on who P before after event table (Begins begins) some all =
    subst (λ (hand : Option HandTerms). AllByRecursion P (shown_of who hand)) (sym begins.none) tt
shown-goes_on who P before after event table (Acts acts) some all =
    subst (λ (hand : Option HandTerms). AllByRecursion P (shown_of who hand)) (sym acts.was)
    (shown-acted who P acts.hand acts.act acts.lawful.free
    (subst (λ (hand : Option HandTerms). AllByRecursion P (shown_of who hand)) acts.now all))

-- What is shown now of the hand that is played at a table, a list of events from here on shows too.
pub shown-now : (who : Viewer) (P : ℕ → Type 0) (events : List Event) (state : State) (table : ℕ) → IsValidState state
    → AllByRecursion P (places_shown_in who state table events)
    → AllByRecursion P (shown_of who (hand_in state table))
shown-now who P [] state table valid all = all
shown-now who P (event ∷ events) state table valid all =
    by_some (is_some (hand_in (state_after state event) table)) refl all
    (shown-now who P events (state_after state event) table (valid_state_after state event valid))
  where
    by_some : (some : Bool) → is_some (hand_in (state_after state event) table) ≡ some
        → AllByRecursion P (shown_of who
        (cond some (hand_left (state_after state event) table events) (hand_in state table)))
        → (AllByRecursion P (places_shown_in who (state_after state event) table events)
        → AllByRecursion P (shown_of who (hand_in (state_after state event) table)))
        → AllByRecursion P (shown_of who (hand_in state table))
    by_some true is all later =
        shown-goes_on who P (hand_in state table) (hand_in (state_after state event) table) event table
        (state-goes_on state event table valid) is (later all)
    by_some false is all later = all

-- What a list of events shows, the list with more events behind it shows too.
shown-more : (who : Viewer) (P : ℕ → Type 0) (events more : List Event) (state : State) (table : ℕ)
    → IsValidState state → AllByRecursion P (places_shown_in who state table (events ++ more))
    → AllByRecursion P (places_shown_in who state table events)
shown-more who P [] more state table valid all = shown-now who P more state table valid all
shown-more who P (event ∷ events) more state table valid all =
    by_some (is_some (hand_in (state_after state event) table)) all
    (shown-more who P events more (state_after state event) table (valid_state_after state event valid))
  where
    by_some : (some : Bool)
        → AllByRecursion P (shown_of who
        (cond some (hand_left (state_after state event) table (events ++ more)) (hand_in state table)))
        → (AllByRecursion P (places_shown_in who (state_after state event) table (events ++ more))
        → AllByRecursion P (places_shown_in who (state_after state event) table events))
        → AllByRecursion P (shown_of who
        (cond some (hand_left (state_after state event) table events) (hand_in state table)))
    by_some true all later = later all
    by_some false all later = all

-- After any list of events each place that is shown stays shown.
pub stays-shown : (who : Viewer) (before events more : List Event) (table : ℕ)
    → All (Contains (places_shown_in who (run first_state before) table (events ++ more)))
    (places_shown_in who (run first_state before) table events)
stays-shown who before events more table =
    let state = run first_state before in
    let later = places_shown_in who state table (events ++ more) in
    let now = places_shown_in who state table events in
    All-from_recursion (Contains later) now
    (shown-more who (Contains later) events more state table (valid_events before)
    (recursion_from_All (Contains later) later (All-contains_itself later)))
