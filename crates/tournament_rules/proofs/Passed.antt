-- What an event that is not refused tells of its checks.
use Rattle.std.proofs.Common.{◌≡◌, ◌∙◌, refl, sym, ap, ℕ, ◌+◌, ◌<◌, Bool, true, false, List, [], ◌++◌, length}
use Rattle.std.specs.Prelude.{not, Option, Some, None}
use Rattle.std.specs.Prelude.{option_and_then}
use Rattle.std.specs.List.{list_all}
use Rattle.std.specs.Option.{option_map_or, option_or}
use Rattle.std.proofs.lemmas.Bool.{and_parts, leb-false, not-true}
use Rattle.rulebook.proofs.Found.{none-by_test}
use Rattle.rulebook.specs.Checks.{first_that_holds}
use Rattle.seat_book.specs.Players.{player_at, place_of}
use Rattle.entry_list.specs.Entries.{is_known}
use Rattle.rulebook.proofs.Checks.{first_that_holds-append, none_holds}
use Rattle.rulebook.specs.Limits.{most_entries}
use Rattle.level_plan.specs.declared.line.PlanLine.{PlanLine}
use Rattle.betting_round.specs.declared.act.Act.{Act}
use Rattle.table_engine.specs.Hands.{HandTerms, is_over}
use Rattle.tournament_events.specs.declared.event.Event.{Event}
use Rattle.tournament_events.specs.declared.event.Event.TheVariants.{Plan, Go, Enter, Reenter, Act as Acts, Time, Settle}
use Rattle.tournament_rules.specs.Books.{BookState, has_table, has_seat_number, number_in}
use Rattle.tournament_rules.specs.Checks.{Check, book_checks, buy_checks, out_checks, hand_checks, before_hand_checks, end_checks, book_refusal, is_not_fewest, is_late, is_over_for_all, is_playing}
use Rattle.tournament_rules.specs.States.{PlayState, hand_about, refusal_of}
use Rattle.tournament_rules.specs.Apart.{hand_refusal}

-- A test that does not fail holds.
pub is_so : (b : Bool) → not (not b) ≡ true → b ≡ true
is_so true so = refl
is_so false so = so

-- What is so of a place where a player may sit down with a stack that he buys.
pub record MayBuy (book : BookState) (table seat : ℕ) : Type 0 where
  pub there : has_table book table ≡ true
  pub within : has_seat_number book seat ≡ true
  pub free : player_at book.seating.players (record { table = table; seat = seat }) ≡ None
  pub fewest : is_not_fewest book table ≡ false
  pub early : is_late book ≡ false
  pub going : is_over_for_all book ≡ false
  pub room : length book.entries + book.reentries < most_entries

-- What is so of an entry that is not refused.
pub record MayEnter (book : BookState) (name : List ℕ) (table seat : ℕ) : Type 0 where
  pub new : is_known book.entries name ≡ false
  pub buys : MayBuy book table seat

-- What is so of a re-entry that is not refused.
pub record MayReenter (book : BookState) (name : List ℕ) (table seat : ℕ) : Type 0 where
  pub known : is_known book.entries name ≡ true
  pub buys : MayBuy book table seat
  pub out : place_of book.seating.players (number_in book name) ≡ None

-- Where a stack may be bought there is an empty seat at a table with the fewest players, and room in the lists.
bought : (book : BookState) (table seat : ℕ) (behind : List Check)
    → list_all (λ check. not check.1) (buy_checks book table seat ++ behind) ≡ true
    → MayBuy book table seat × (list_all (λ check. not check.1) behind ≡ true)
bought book table seat behind all =
    let there = and_parts _ _ all in
    let seated = and_parts _ _ there.1 in
    let free = and_parts _ _ seated.1 in
    let fewest = and_parts _ _ free.1 in
    let early = and_parts _ _ fewest.1 in
    let over = and_parts _ _ early.1 in
    let room = and_parts _ _ over.1 in (
      record {
        there = (and_parts _ _ (is_so _ there.0)).0;
        within = is_so _ seated.0;
        free = none-by_test _ free.0;
        fewest = not-true _ fewest.0;
        early = not-true _ early.0;
        going = not-true _ over.0;
        room = leb-false most_entries (length book.entries + book.reentries) (not-true _ room.0);
      },
      room.1,
    )

-- An entry that the book does not refuse has a new name, and an empty seat at a table with the fewest players.
pub entry_passed : (book : BookState) (name : List ℕ) (table seat : ℕ)
    → book_refusal book (Enter name table seat) ≡ None → MayEnter book name table seat
unfolding book_refusal
entry_passed book name table seat none =
    let all = none_holds (book_checks book (Enter name table seat)) none in
    let going = and_parts _ _ all in
    let new = and_parts _ _ going.1 in
    record { new = not-true _ new.0; buys = (bought book table seat [] new.1).0 }

-- A re-entry that the book does not refuse is of who entered and has no seat, with an empty seat of that kind.
pub reentry_passed : (book : BookState) (name : List ℕ) (table seat : ℕ)
    → book_refusal book (Reenter name table seat) ≡ None → MayReenter book name table seat
unfolding book_refusal
reentry_passed book name table seat none =
    let all = none_holds (book_checks book (Reenter name table seat)) none in
    let going = and_parts _ _ all in
    let known = and_parts _ _ going.1 in
    let buys = bought book table seat (out_checks book name) known.1 in
    let out = and_parts _ _ buys.1 in
    record { known = is_so _ known.0; buys = buys.0; out = none-by_test _ out.0 }

-- Where one refusal or else another tells of none, neither does.
pub none_of_two : {A : Type 0} (one other : Option A) → option_or one other ≡ None → (one ≡ None) × (other ≡ None)
none_of_two None other none = (refl, none)
none_of_two (Some found) other none = cc

-- An event is refused by the book, or else by the hand that it is about, if there is one.
pub refusal-parts : (play : PlayState) (event : Event)
    → refusal_of play event
    ≡ option_or (book_refusal play.book event) (option_and_then (hand_refusal event) (hand_about play event))
unfolding refusal_of book_refusal
refusal-parts play event =
    let later = option_map_or (λ hand. hand_checks hand event) (hand_about play event) [] in
    first_that_holds-append (book_checks play.book event) later
    ∙ ap (option_or (first_that_holds (book_checks play.book event))) (by_hand (hand_about play event))
  where
    by_hand : (hand : Option HandTerms)
        → first_that_holds (option_map_or (λ hand. hand_checks hand event) hand [])
        ≡ option_and_then (hand_refusal event) hand
    by_hand None = refl
    by_hand (Some hand) = refl

-- An event that is not refused is refused neither by the book nor by the hand that it is about.
pub passed-parts : (play : PlayState) (event : Event) → refusal_of play event ≡ None
    → (book_refusal play.book event ≡ None) × (option_and_then (hand_refusal event) (hand_about play event) ≡ None)
passed-parts play event none = none_of_two _ _ (sym (refusal-parts play event) ∙ none)

-- What is so of an event at a table that is played at.
pub record MayGoOn (book : BookState) (table : ℕ) : Type 0 where
  pub there : has_table book table ≡ true
  pub playing : is_playing book table ≡ true

goes_on : (book : BookState) (table : ℕ) → first_that_holds (before_hand_checks book table) ≡ None
    → MayGoOn book table
goes_on book table none =
    let all = none_holds (before_hand_checks book table) none in
    let going = and_parts _ _ all in
    let there = and_parts _ _ going.1 in
    let playing = and_parts _ _ there.1 in
    record { there = is_so _ there.0; playing = is_so _ playing.0 }

-- An act that the book does not refuse is at a table that is played at.
pub act_passed : (book : BookState) (table : ℕ) (name : List ℕ) (act : Act)
    → book_refusal book (Acts table name act) ≡ None → MayGoOn book table
unfolding book_refusal
act_passed book table name act none =
    let all = none_holds (book_checks book (Acts table name act)) none in
    let going = and_parts _ _ all in
    let known = and_parts _ _ going.1 in
    let there = and_parts _ _ known.1 in
    let playing = and_parts _ _ there.1 in
    record { there = is_so _ there.0; playing = is_so _ playing.0 }

-- A called time that the book does not refuse is at a table that is played at.
pub time_passed : (book : BookState) (table : ℕ) → book_refusal book (Time table) ≡ None → MayGoOn book table
unfolding book_refusal
time_passed book table none = goes_on book table none

-- A settle that the book does not refuse is at a table that is played at.
pub settle_passed : (book : BookState) (table : ℕ) → book_refusal book (Settle table) ≡ None → MayGoOn book table
unfolding book_refusal
settle_passed book table none = goes_on book table none

-- A hand that may be settled is over.
pub end_passed : (hand : HandTerms) → first_that_holds (end_checks hand) ≡ None → is_over hand ≡ true
end_passed hand none = is_so _ (and_parts _ _ (none_holds (end_checks hand) none)).0

-- No line of a plan, and no end of it, is taken once the plan is whole.
pub plan_late : (book : BookState) (line : PlanLine) → book_refusal book (Plan line) ≡ None → ⊥
unfolding book_refusal
plan_late book line none = cc

-- The end of a plan is always refused once the plan is whole.
pub go_late : (book : BookState) → book_refusal book Go ≡ None → ⊥
unfolding book_refusal
go_late book none = cc
