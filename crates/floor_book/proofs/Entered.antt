-- The book once a player entered, as its fields are written.
use Rattle.std.proofs.Common.{◌≡◌, refl, ℕ, ◌+◌, ◌≤◌, Bool, true, false, cond, List, [], ◌∷◌, ◌++◌, length, arith, ap}
use Rattle.std.specs.List.{list_any}
use Rattle.std.specs.Prelude.{Option, None, count_by, option_map}
use Rattle.std.proofs.lemmas.Bool.Decides.{nat_tests}
use Rattle.rulebook.proofs.Passing.{find-none}
use Rattle.rulebook.proofs.Tests.{count_by-cons, none_by_count}
use Rattle.place_list.specs.declared.bust.Bust.{Bust}
use Rattle.place_list.specs.Places.{taken_back}
use Rattle.seat_book.specs.declared.place.Place.{Place}
use Rattle.seat_book.specs.declared.seated.Seated.{Seated}
use Rattle.seat_book.specs.Players.{is_numbered, place_of, sit_down}
use Rattle.seat_book.specs.Seatings.{Seating}
use Rattle.level_plan.specs.Plans.{PlanTerms}
use Rattle.table_engine.specs.declared.start.HandStart.{HandStart}
use Rattle.tournament_rules.specs.Books.{BookState, no_hands, number_in}
use Rattle.tournament_rules.specs.Effects.{entered, reentered, first_book, first_seating}
use Rattle.tournament_rules.specs.Valid.{AreEntered, rows_owed}

-- The fields that an entry writes make the book of the definition.
pub entered_state : (book : BookState) (name : List ℕ) (table seat player stack : ℕ) (place : Place)
    (entries : List (List ℕ)) (seating : Seating) → entries ≡ book.entries ++ name ∷ [] → player ≡ length book.entries
    → place ≡ record { table = table; seat = seat } → stack ≡ book.plan.stack
    → seating ≡ record book.seating {
      players = sit_down
          (record { place = place; player = player; name = name; stack = stack }) book.seating.players;
    }
    → record book { entries = entries; seating = seating; accepted = book.accepted + 1 } ≡ entered book name table seat
entered_state book name table seat player stack place entries seating entries_is player_is place_is stack_is
    seating_is = rw (entries_is, seating_is, player_is, place_is, stack_is) refl

-- The fields that a re-entry writes do so.
pub reentered_state : (book : BookState) (name : List ℕ) (table seat player stack : ℕ) (place : Place)
    (busts : List Bust) (seating : Seating) → player ≡ number_in book name
    → place ≡ record { table = table; seat = seat } → stack ≡ book.plan.stack → busts ≡ taken_back player book.busts
    → seating ≡ record book.seating {
      players = sit_down
          (record { place = place; player = player; name = name; stack = stack }) book.seating.players;
    }
    → record book {
      reentries = book.reentries + 1;
      seating = seating;
      busts = busts;
      accepted = book.accepted + 1;
    } ≡ reentered book name table seat
reentered_state book name table seat player stack place busts seating player_is place_is stack_is busts_is
    seating_is = rw (seating_is, busts_is, player_is, place_is, stack_is) refl

none_counted : (number : ℕ) (players : List Seated) → count_by (is_numbered number) players ≡ 0
    → place_of players number ≡ None
none_counted number players none =
    ap (option_map (λ (seated : Seated). seated.place))
    (find-none (is_numbered number) players (none_by_count (is_numbered number) players none))

-- Where one counts, one passes.
pub counted_any : {A : Type 0} (test : A → Bool) (items : List A) → 1 ≤ count_by test items
    → list_any test items ≡ true
counted_any test [] some = absurd (omega arith)
counted_any test (item ∷ items) some =
    by_test (test item) refl (count_by-cons test item items) (counted_any test items)
  where
    by_test : (b : Bool) → test item ≡ b
        → count_by test (item ∷ items) ≡ cond {A = ℕ} (test item) 1 0 + count_by test items
        → (1 ≤ count_by test items → list_any test items ≡ true) → list_any test (item ∷ items) ≡ true
    by_test true is all rest = rw is refl
    by_test false is all rest =
        let none = ap (λ (b : Bool). cond {A = ℕ} b 1 0) is in
        rw is (rest (omega (arith, some, all, none)))

-- The next number is that of nobody who sits.
pub next_stands : (entries : List (List ℕ)) (reentries : ℕ) (players : List Seated) (busts : List Bust)
    → AreEntered entries reentries players busts → place_of players (length entries) ≡ None
next_stands entries reentries players busts agree =
    let his = agree.once (length entries) in
    let none = none_owed (length entries) in
    none_counted (length entries) players (omega (arith, his, none))
  where
    none_owed : (n : ℕ) → rows_owed entries (length entries) ≡ 0
    none_owed n = grind (arith, nat_tests)

-- The fields of a new book make the book before any entry.
pub first_state_of : (plan : PlanTerms) (entries : List (List ℕ)) (seating : Seating) (started : List (Option HandStart))
    (busts : List Bust) → entries ≡ [] → seating ≡ first_seating plan → started ≡ no_hands plan.tables → busts ≡ []
    → (let book : BookState = record {
      plan = plan;
      entries = entries;
      reentries = 0;
      seating = seating;
      started = started;
      busts = busts;
      group = 0;
      level = 1;
      removed = 0;
      added = 0;
      begun = 0;
      accepted = 0;
      stopped = false;
    } in book) ≡ first_book plan
first_state_of plan entries seating started busts entries_is seating_is out_is busts_is =
    rw (entries_is, seating_is, out_is, busts_is) refl
