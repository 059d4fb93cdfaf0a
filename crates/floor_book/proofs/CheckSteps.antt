-- What single checks make of the answer of their group.
use Rattle.std.proofs.Common.{◌≡◌, ◌≤◌, ◌<◌, ◌∙◌, refl, ap, ℕ, Bool, true, false, ◌==◌, List, [], ◌∷◌, length, arith}
use Rattle.std.specs.Prelude.{not, nat_lt, ◌&&◌, ◌||◌, Option, Some, None, is_some, option_map, IsTrue, ◌≢◌, ◌↔◌}
use Rattle.std.specs.Option.{option_map_or}
use Rattle.std.proofs.lemmas.Bool.Decides.{nat_tests}
use Rattle.rulebook.specs.Checks.{first_that_holds}
use Rattle.floor_text.specs.declared.refusal.Refusal.TheVariants.{NotNextToBreak, NoRoom, DrawWrong}
use Rattle.card_set.specs.declared.card.Card.{Card}
use Rattle.chip_race.specs.Races.{race_result}
use Rattle.seat_book.specs.declared.place.Place.{Place}
use Rattle.seat_book.specs.declared.table_status.TableStatus.{TableStatus}
use Rattle.seat_book.specs.Tables.{status_at}
use Rattle.seat_book.specs.Seatings.{Seating, is_not_last}
use Rattle.seat_book.specs.Counts.{count_at}
use Rattle.balance_rule.specs.Filling.{fill_seats, lacks_room}
use Rattle.break_draw.specs.Draws.{is_draw}
use Rattle.tournament_rules.specs.Books.{BookState, has_table}
use Rattle.tournament_rules.specs.Checks.{is_table_open, may_be_entered, is_over_for_all, is_right_draw, draw_checks}
use Rattle.tournament_rules.specs.Racing.{stacks_at, unit_after, race_at}

-- The first of three checks answers where it holds.
first_holds : {A : Type 0} (one two three : A) (first second third : Bool) → first ≡ true
    → first_that_holds ((one, first) ∷ (two, second) ∷ (three, third) ∷ []) ≡ Some one
first_holds one two three first second third is =
    λ i. first_that_holds ((one, is i) ∷ (two, second) ∷ (three, third) ∷ [])

-- The second of three checks answers where the first fails and it holds.
second_holds : {A : Type 0} (one two three : A) (first second third : Bool) → first ≡ false → second ≡ true
    → first_that_holds ((one, first) ∷ (two, second) ∷ (three, third) ∷ []) ≡ Some two
second_holds one two three first second third fails is =
    λ i. first_that_holds ((one, fails i) ∷ (two, is i) ∷ (three, third) ∷ [])

-- Where the first two of three checks fail, the third alone answers.
third_answers : {A : Type 0} (one two three : A) (first second third answer : Bool) → first ≡ false → second ≡ false
    → third ≡ answer → first_that_holds ((one, first) ∷ (two, second) ∷ (three, third) ∷ [])
    ≡ first_that_holds ((three, answer) ∷ [])
third_answers one two three first second third answer fails too is =
    λ i. first_that_holds ((one, fails i) ∷ (two, too i) ∷ (three, is i) ∷ [])

-- A break of a table that is not the last is refused for that.
pub break_not_last : (book : BookState) (table : ℕ) (places : List Place) (names : List (List ℕ))
    → is_not_last book.seating table ≡ true
    → first_that_holds (draw_checks book table places names) ≡ Some NotNextToBreak
break_not_last book table places names later =
    first_holds NotNextToBreak NoRoom DrawWrong (is_not_last book.seating table) (lacks_room book.seating table)
    (not (is_right_draw book table places names)) later

-- A break with no room for the players is refused for that.
pub break_no_room : (book : BookState) (table : ℕ) (places : List Place) (names : List (List ℕ))
    → is_not_last book.seating table ≡ false → lacks_room book.seating table ≡ true
    → first_that_holds (draw_checks book table places names) ≡ Some NoRoom
break_no_room book table places names last full =
    second_holds NotNextToBreak NoRoom DrawWrong (is_not_last book.seating table) (lacks_room book.seating table)
    (not (is_right_draw book table places names)) last full

-- Else a break is refused just where the draw of its fill list is wrong.
pub break_by_draw : (book : BookState) (table : ℕ) (places : List Place) (names : List (List ℕ)) (fill : List Place)
    (right : Bool) → is_not_last book.seating table ≡ false → lacks_room book.seating table ≡ false
    → fill_seats book.seating table ≡ Some fill → is_draw book.seating table fill places names ≡ right
    → first_that_holds (draw_checks book table places names) ≡ first_that_holds ((DrawWrong, not right) ∷ [])
break_by_draw book table places names fill right last room filled drawn =
    third_answers NotNextToBreak NoRoom DrawWrong (is_not_last book.seating table) (lacks_room book.seating table)
    (not (is_right_draw book table places names)) (not right) last room (ap not
    (ap (λ (found : Option (List Place)).
    option_map_or (λ fill. is_draw book.seating table fill places names) found false)
    filled ∙ drawn))

-- Where a fill list was found there is room.
pub filled_room : (filled : Option (List Place)) (fill : List Place) (full : Bool) → ((filled ≡ None) ↔ IsTrue full)
    → filled ≡ Some fill → full ≡ false
filled_room filled fill true exact is = let none : filled ≡ None = exact.1 refl in absurd cc
filled_room filled fill false exact is = refl

is_some_one : (count : ℕ) → count ≢ 0 → nat_lt 0 count ≡ true
is_some_one count some = grind (arith, nat_tests)

-- A table that the plan lacks is not open.
pub lacking_closed : (book : BookState) (table : ℕ) → has_table book table ≡ false → is_table_open book table ≡ false
lacking_closed book table lacks = λ i. lacks i && nat_lt 0 (count_at book.seating.players table)

-- A table where nobody sits is not open.
pub empty_closed : (book : BookState) (table : ℕ) → has_table book table ≡ true
    → count_at book.seating.players table ≡ 0 → is_table_open book table ≡ false
empty_closed book table there nobody = λ i. there i && nat_lt 0 (nobody i)

-- A table of the plan where somebody sits is open.
pub taken_open : (book : BookState) (table : ℕ) → has_table book table ≡ true → count_at book.seating.players table ≢ 0
    → is_table_open book table ≡ true
taken_open book table there some = λ i. there i && is_some_one (count_at book.seating.players table) some i

-- A table that the plan lacks may not be entered.
pub lacking_not_entered : (book : BookState) (table : ℕ) → has_table book table ≡ false
    → may_be_entered book table ≡ false
lacking_not_entered book table lacks =
    λ i. lacks i && (book.begun == 0 || nat_lt 0 (count_at book.seating.players table))

is_later : (count : ℕ) → 0 < count → (count == 0) ≡ false
is_later count some = grind (arith, nat_tests)

is_first : (count : ℕ) → count ≤ 0 → (count == 0) ≡ true
is_first count none = grind (arith, nat_tests)

-- Once a hand has begun a table where nobody sits may not be entered.
pub empty_not_entered : (book : BookState) (table : ℕ) → has_table book table ≡ true → 0 < book.begun
    → count_at book.seating.players table ≡ 0 → may_be_entered book table ≡ false
empty_not_entered book table there begun nobody =
    λ i. there i && (is_later book.begun begun i || nat_lt 0 (nobody i))

-- Before any hand each table of the plan may be entered.
pub entered_before : (book : BookState) (table : ℕ) → has_table book table ≡ true → book.begun ≤ 0
    → may_be_entered book table ≡ true
entered_before book table there none =
    λ i. there i && (is_first book.begun none i || nat_lt 0 (count_at book.seating.players table))

-- A table of the plan where somebody sits may be entered.
pub entered_open : (book : BookState) (table : ℕ) → has_table book table ≡ true
    → count_at book.seating.players table ≢ 0 → may_be_entered book table ≡ true
entered_open book table there some =
    by_begun (book.begun == 0) (nat_lt 0 (count_at book.seating.players table))
    (is_some_one (count_at book.seating.players table) some)
  where
    by_begun : (none opened : Bool) → opened ≡ true → has_table book table && (none || opened) ≡ true
    by_begun true opened is = λ i. there i && true
    by_begun false opened is = λ i. there i && is i

is_some_then : (count : ℕ) → (count == 0) ≡ false → nat_lt 0 count ≡ true
is_some_then count some = grind (arith, nat_tests)

is_none_then : (count : ℕ) → (count == 0) ≡ true → nat_lt 0 count ≡ false
is_none_then count none = grind (arith, nat_tests)

-- Once somebody is out, a tournament is over just where one player is in.
pub over_by_count : (book : BookState) → (length book.busts == 0) ≡ false
    → is_over_for_all book ≡ (length book.seating.players == 1)
over_by_count book some = λ i. is_some_then (length book.busts) some i && length book.seating.players == 1

-- Before anybody is out a tournament is not over.
pub not_over_before : (book : BookState) → (length book.busts == 0) ≡ true → is_over_for_all book ≡ false
not_over_before book none = λ i. is_none_then (length book.busts) none i && length book.seating.players == 1

-- What is made of an option is there where the option is.
pub is_some_made : {A B : Type 0} (f : A → B) (found : Option A) → is_some (option_map f found) ≡ is_some found
is_some_made f None = refl
is_some_made f (Some item) = refl

-- A race of what a table's seats and status are is the table's race.
pub race_read : (seating : Seating) (table : ℕ) (cards : List Card) (stacks : List ℕ) (status : TableStatus) (unit : ℕ)
    → stacks ≡ stacks_at seating.players table → status ≡ status_at seating.tables table → unit ≡ unit_after status
    → race_result stacks status.unit unit cards ≡ race_at seating table cards
race_read seating table cards stacks status unit stacks_is status_is unit_is =
    λ i. race_result (stacks_is i) (status_is i).unit ((unit_is ∙ ap unit_after status_is) i) cards
