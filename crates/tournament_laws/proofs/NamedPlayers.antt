-- Whoever is named has entered.
use Rattle.std.proofs.Common.{◌≡◌, refl, ℕ, true, false, List, [], get_or}
use Rattle.std.specs.Prelude.{Option, Some, None, Contains}
use Rattle.std.specs.List.{All}
use Rattle.std.specs.Option.{option_map_or}
use Rattle.std.proofs.lemmas.Bool.{and_parts}
use Rattle.std.proofs.lemmas.List.Elements.{All-cons, All-contains, All-contains_itself, All-filter, All-map, All-nil}
use Rattle.std.proofs.lemmas.List.Sorted.{Contains-permutation, IsPermutation-sym}
use Rattle.rulebook.proofs.Checks.{none_holds}
use Rattle.betting_round.specs.declared.act.Act.{Act}
use Rattle.level_plan.specs.Drafts.{Draft}
use Rattle.entry_list.specs.Entries.{is_known}
use Rattle.seat_book.specs.declared.seated.Seated.{Seated}
use Rattle.seat_book.specs.Players.{players_at, sits_at}
use Rattle.balance_rule.specs.Filling.{names_at}
use Rattle.tournament_events.specs.declared.answer.Answer.TheVariants.{Ok}
use Rattle.tournament_events.specs.declared.event.Event.{Event}
use Rattle.tournament_events.specs.declared.event.Event.TheVariants as events
use Rattle.tournament_rules.specs.Books.{BookState}
use Rattle.tournament_rules.specs.Checks.{book_checks, book_refusal}
use Rattle.tournament_rules.specs.States.{State, PlayState, answer_to, planning_answer}
use Rattle.tournament_rules.specs.Valid.{IsValid, IsValidState}
use Rattle.tournament_rules.proofs.Breaks.{break_passed}
use Rattle.tournament_rules.proofs.MoveLaws.{break_lawful, not_refused}
use Rattle.tournament_rules.proofs.Passed.{is_so, passed-parts, reentry_passed}
use Rattle.tournament_laws.specs.Named.{names_in}
use Rattle.tournament_laws.proofs.NamedOnce.{known_at}

-- Somebody entered under each name of a table's players.
table_known : (book : BookState) (table : ℕ) → IsValid book
    → All (λ name. is_known book.entries name ≡ true) (names_at book.seating table)
table_known book table valid =
    All-map (λ name. is_known book.entries name ≡ true) (λ (seated : Seated). seated.name)
    (players_at book.seating.players table)
    (All-filter (sits_at table) (λ (seated : Seated). is_known book.entries seated.name ≡ true) book.seating.players
    (λ k d within. known_at book.entries _ _ (valid.entries.named k d within)))

-- Whoever acts has entered.
actor_known : (book : BookState) (table : ℕ) (name : List ℕ) (act : Act)
    → book_refusal book (events.Act table name act) ≡ None → is_known book.entries name ≡ true
unfolding book_refusal
actor_known book table name act none =
    let all = none_holds (book_checks book (events.Act table name act)) none in
    let going = and_parts _ _ all in
    is_so _ (and_parts _ _ going.1).0

-- Somebody entered under each name in an event that the book takes.
all_known : (book : BookState) (event : Event) → IsValid book → book_refusal book event ≡ None
    → All (λ name. is_known book.entries name ≡ true) (names_in event)
all_known book (events.Act table name act) valid none =
    All-cons (λ name. is_known book.entries name ≡ true) name [] (actor_known book table name act none)
    (All-nil (λ name. is_known book.entries name ≡ true))
all_known book (events.Reenter name table seat) valid none =
    All-cons (λ name. is_known book.entries name ≡ true) name [] (reentry_passed book name table seat none).known
    (All-nil (λ name. is_known book.entries name ≡ true))
all_known book (events.Break table places names) valid none =
    let move = break_lawful book table places names valid (break_passed book table places names none) in
    λ k d within. All-contains (λ name. is_known book.entries name ≡ true) (names_at book.seating table)
    (get_or names k d) (table_known book table valid)
    (Contains-permutation names (names_at book.seating table) (get_or names k d)
    (IsPermutation-sym (names_at book.seating table) names move.lawful.players)
    (All-contains_itself names k d within))
all_known book event valid none = All-nil (λ name. is_known book.entries name ≡ true)

-- Before there is a plan nobody is named.
nobody_named : (draft : Draft) (event : Event) (name : List ℕ) → planning_answer draft event ≡ Ok
    → Contains (names_in event) name → ⊥
nobody_named draft (events.Reenter name table seat) other accepted named = cc
nobody_named draft (events.Act table name act) other accepted named = cc
nobody_named draft (events.Break table places names) other accepted named = cc
nobody_named draft event name accepted named =
    All-contains (λ (name : List ℕ). ⊥) (names_in event) name (All-nil (λ (name : List ℕ). ⊥)) named

-- Whoever an accepted event names has entered.
pub named_known : (state : State) (event : Event) (name : List ℕ) → IsValidState state → answer_to state event ≡ Ok
    → Contains (names_in event) name
    → option_map_or (λ play. is_known play.book.entries name) state.play false ≡ true
named_known state event name valid accepted named = by_play state.play refl
  where
    by_play : (play : Option PlayState) → state.play ≡ play
        → option_map_or (λ play. is_known play.book.entries name) play false ≡ true
    by_play None at =
        let planned : planning_answer state.draft event ≡ Ok = rw at at accepted in
        absurd (nobody_named state.draft event name planned named)
    by_play (Some play) at =
        let none = passed-parts play event (not_refused state play event at accepted) in
        All-contains (λ name. is_known play.book.entries name ≡ true) (names_in event) name
        (all_known play.book event (valid.play play at).book none.0) named
