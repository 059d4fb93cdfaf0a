-- Everyone who entered is in or out, once: how many there are, and what is so once one leaves his seat.
use Rattle.std.proofs.Common.{◌≡◌, refl, ap, ℕ, zero, suc, ◌+◌, ◌<◌, ◌≤◌, Bool, true, false, cond, ◌==◌, List, [], ◌∷◌, ◌++◌, length, arith, ◌∙◌}
use Rattle.std.specs.Prelude.{not, nat_lt, count_by, filter, find, option_map, is_some}
use Rattle.std.specs.List.{list_any}
use Rattle.std.proofs.lemmas.Bool.{eqb-true, not-true}
use Rattle.std.proofs.lemmas.Bool.Decides.{nat_tests}
use Rattle.std.proofs.lemmas.List.Folds.{Any-from_list_any}
use Rattle.std.proofs.lemmas.List.Sums.{sum_by_push, count_by-le-length}
use Rattle.rulebook.specs.Limits.{most_entries}
use Rattle.rulebook.proofs.Passing.{count_by-none, not-any}
use Rattle.rulebook.proofs.Tests.{at_most_one, count_by-cons, list_all-always, none_by_count}
use Rattle.place_list.specs.declared.bust.Bust.{Bust}
use Rattle.place_list.specs.Places.{taken_back}
use Rattle.place_list.proofs.Counts.{count_by-some}
use Rattle.seat_book.specs.declared.seated.Seated.{Seated}
use Rattle.seat_book.specs.Players.{is_numbered, place_of, lifted}
use Rattle.tournament_rules.specs.Valid.{AreOnce, rows_owed, is_bust_of}

-- how many items have a key below a number
abbrev count_below : {A : Type 0} → (A → ℕ) → ℕ → List A → ℕ
count_below key number items = count_by (λ item. nat_lt (key item) number) items

-- how many have this key
abbrev count_with : {A : Type 0} → (A → ℕ) → ℕ → List A → ℕ
count_with key number items = count_by (λ item. key item == number) items

none_below : {A : Type 0} (key : A → ℕ) (items : List A) → count_below key 0 items ≡ 0
none_below key items =
    count_by-none (λ item. nat_lt (key item) 0) items
    (list_all-always (λ item. not (nat_lt (key item) 0)) items (λ item. none (key item)))
  where
    none : (k : ℕ) → not (nat_lt k 0) ≡ true
    none k = grind (arith, nat_tests)

-- The next number adds those who have it.
below_next : {A : Type 0} (key : A → ℕ) (number : ℕ) (items : List A)
    → count_below key (number + 1) items ≡ count_below key number items + count_with key number items
below_next key number [] = refl
below_next key number (item ∷ items) =
    let next = count_by-cons (λ item. nat_lt (key item) (number + 1)) item items in
    let here = count_by-cons (λ item. nat_lt (key item) number) item items in
    let his = count_by-cons (λ item. key item == number) item items in
    omega (arith, next, here, his, one (key item), below_next key number items)
  where
    one : (k : ℕ) → cond {A = ℕ} (nat_lt k (number + 1)) 1 0
        ≡ cond {A = ℕ} (nat_lt k number) 1 0 + cond {A = ℕ} (k == number) 1 0
    one k = grind (arith, nat_tests)

-- Where nobody has a number that is owed no row, all have numbers below that of the entries.
all_below : {A : Type 0} (key : A → ℕ) (entries : List (List ℕ)) (items : List A)
    → ((number : ℕ) → count_with key number items ≤ rows_owed entries number)
    → count_below key (length entries) items ≡ length items
all_below key entries [] owed = refl
all_below key entries (item ∷ items) owed =
    let here = count_by-cons (λ item. nat_lt (key item) (length entries)) item items in
    let his = count_by-cons (λ other. key other == key item) item items in
    let most = owed (key item) in
    let one = within (key item) (length entries) (count_with key (key item) items) (omega (arith, his, most)) in
    let rest = all_below key entries items (λ number.
    let first = count_by-cons (λ other. key other == number) item items in
    let both = owed number in omega (arith, first, both)) in
    omega (arith, here, one, rest)
  where
    within : (k count more : ℕ) → cond {A = ℕ} (k == k) 1 0 + more ≤ cond {A = ℕ} (nat_lt k count) 1 0
        → cond {A = ℕ} (nat_lt k count) 1 0 ≡ 1
    within k count more most = grind (arith, nat_tests)

-- the number of a player who is out
abbrev bust_number : Bust → ℕ
bust_number bust = bust.player

-- the number of a player who sits
abbrev seat_number : Seated → ℕ
seat_number player = player.player

-- The number of an entry is owed one row.
pub one_owed : (number count : ℕ) → number < count → cond {A = ℕ} (nat_lt number count) 1 0 ≡ 1
one_owed number count within = grind (arith, nat_tests)

-- Of the first so many entries each has one seat or row.
first_so_many : (entries : List (List ℕ)) (players : List Seated) (busts : List Bust) (count : ℕ)
    → AreOnce entries players busts → count ≤ length entries
    → count_below seat_number count players + count_below bust_number count busts ≡ count
first_so_many entries players busts zero once within =
    omega (arith, none_below seat_number players, none_below bust_number busts)
first_so_many entries players busts (suc count) once within =
    let seats = below_next seat_number count players in
    let rows = below_next bust_number count busts in
    let his = once count in
    let owed = one_owed count (length entries) (omega arith) in
    let rest = first_so_many entries players busts count once (omega arith) in
    let next : count + 1 ≡ suc count = omega arith in
    let here = ap (λ (n : ℕ). count_below seat_number n players + count_below bust_number n busts) next in
    omega (arith, seats, rows, his, owed, rest, here)

-- Those who sit and those who are out are as many as entered.
pub all-counted : (entries : List (List ℕ)) (players : List Seated) (busts : List Bust) → AreOnce entries players busts
    → length players + length busts ≡ length entries
all-counted entries players busts once =
    let all = first_so_many entries players busts (length entries) once (omega arith) in
    let seats = all_below seat_number entries players (λ number. let his = once number in omega (arith, his)) in
    let rows = all_below bust_number entries busts (λ number. let his = once number in omega (arith, his)) in
    omega (arith, all, seats, rows)

-- Where somebody passes a test, at least one counts.
pub some_counted : {A : Type 0} (test : A → Bool) (items : List A) → list_any test items ≡ true
    → 1 ≤ count_by test items
some_counted test items some =
    let his = Any-from_list_any test items some in
    count_by-some test items his.0 his.1 his.2 (ap test his.3 ∙ his.4)

-- Where none counts, nobody passes.
pub none_counted : {A : Type 0} (test : A → Bool) (items : List A) → count_by test items ≡ 0
    → list_any test items ≡ false
none_counted test items none = not-true _ (not-any test items ∙ none_by_count test items none)

-- each number has one row or none
pub one_row : (entries : List (List ℕ)) (number : ℕ) → rows_owed entries number ≤ 1
one_row entries number = at_most_one (nat_lt number (length entries))

-- A player may leave his seat: he has one, he is not out, and there is room for him.
pub record MayLeave (players : List Seated) (busts : List Bust) (number : ℕ) : Type 0 where
  pub sits : is_some (place_of players number) ≡ true
  pub new : list_any (λ bust. bust.player == number) busts ≡ false
  pub room : length busts < most_entries

found_place : (players : List Seated) (number : ℕ) → list_any (is_numbered number) players ≡ true
    → is_some (place_of players number) ≡ true
found_place [] number sits = absurd cc
found_place (player ∷ players) number sits = by_test (is_numbered number player) refl (found_place players number)
  where
    by_test : (b : Bool) → is_numbered number player ≡ b
        → (list_any (is_numbered number) players ≡ true → is_some (place_of players number) ≡ true)
        → is_some (option_map (λ (seated : Seated). seated.place) (find (is_numbered number) (player ∷ players)))
        ≡ true
    by_test true is rest = rw is refl
    by_test false is rest = rw is (rest (rw is at sits))

-- Who sits may leave his seat.
pub may_leave : (entries : List (List ℕ)) (players : List Seated) (busts : List Bust) (number : ℕ)
    → AreOnce entries players busts → length entries ≤ most_entries → list_any (is_numbered number) players ≡ true
    → MayLeave players busts number
may_leave entries players busts number once few sits =
    let some = some_counted (is_numbered number) players sits in
    let his = once number in
    let most = one_row entries number in
    let all = all-counted entries players busts once in
    let seats = count_by-le-length (is_numbered number) players in
    record {
      sits = found_place players number sits;
      new = none_counted (is_bust_of number) busts (omega (arith, some, his, most));
      room = omega (arith, all, some, seats, few);
    }

-- Who of a list has a number once those with another left it.
left-count : {A : Type 0} (key : A → ℕ) (number gone : ℕ) (items : List A)
    → count_with key number (filter (λ item. not (key item == gone)) items)
    + cond (gone == number) (count_with key number items) 0
    ≡ count_with key number items
left-count key number gone [] = nothing (gone == number)
  where
    nothing : (b : Bool) → 0 + cond {A = ℕ} b 0 0 ≡ 0
    nothing true = refl
    nothing false = refl
left-count {A = A} key number gone (item ∷ items) =
    by_test (key item == gone) refl (left-count key number gone items)
  where
    leaves : (k kept all : ℕ) → (k == gone) ≡ true → kept + cond {A = ℕ} (gone == number) all 0 ≡ all
        → kept + cond {A = ℕ} (gone == number) (cond {A = ℕ} (k == number) 1 0 + all) 0
        ≡ cond {A = ℕ} (k == number) 1 0 + all
    leaves k kept all his rest = grind (arith, nat_tests)

    stays : (k kept all : ℕ) → (k == gone) ≡ false → kept + cond {A = ℕ} (gone == number) all 0 ≡ all
        → cond {A = ℕ} (k == number) 1 0 + kept
        + cond {A = ℕ} (gone == number) (cond {A = ℕ} (k == number) 1 0 + all) 0
        ≡ cond {A = ℕ} (k == number) 1 0 + all
    stays k kept all his rest = grind (arith, nat_tests)

    others : List A
    others = filter (λ other. not (key other == gone)) items

    by_test : (b : Bool) → (key item == gone) ≡ b
        → count_with key number others + cond (gone == number) (count_with key number items) 0
        ≡ count_with key number items
        → count_with key number (cond (not b) (item ∷ others) others)
        + cond (gone == number) (count_with key number (item ∷ items)) 0
        ≡ count_with key number (item ∷ items)
    by_test true is rest = rw (count_by-cons (λ other. key other == number) item items)
        (leaves (key item) (count_with key number others) (count_with key number items) is rest)
    by_test false is rest = rw (
      count_by-cons (λ other. key other == number) item items,
      count_by-cons (λ other. key other == number) item others,
    )
        (stays (key item) (count_with key number others) (count_with key number items) is rest)

-- Who of the players has a number once one has left.
lifted-count : (number gone : ℕ) (players : List Seated)
    → count_by (is_numbered number) (lifted gone players)
    + cond (gone == number) (count_by (is_numbered number) players) 0
    ≡ count_by (is_numbered number) players
lifted-count number gone players = left-count seat_number number gone players

-- Who of those who are out has a number once one was taken back.
pub taken-count : (number gone : ℕ) (busts : List Bust)
    → count_by (is_bust_of number) (taken_back gone busts)
    + cond (gone == number) (count_by (is_bust_of number) busts) 0
    ≡ count_by (is_bust_of number) busts
taken-count number gone busts = left-count bust_number number gone busts

-- Everyone who entered is still in or out, once, when one who sits leaves his seat and is out.
pub once-leaves : (entries : List (List ℕ)) (players : List Seated) (busts : List Bust) (bust : Bust)
    → AreOnce entries players busts → list_any (is_numbered bust.player) players ≡ true
    → AreOnce entries (lifted bust.player players) (busts ++ bust ∷ [])
once-leaves entries players busts bust once sits = λ number.
    let left = lifted-count number bust.player players in
    let more = sum_by_push (λ (other : Bust). cond {A = ℕ} (is_bust_of number other) 1 0) busts bust in
    let before = once number in
    let some = some_counted (is_numbered bust.player) players sits in
    let his = once bust.player in
    let most = one_row entries bust.player in
    by_number number (bust.player == number) refl left more before (omega (arith, some, his, most))
  where
    by_number : (number : ℕ) (b : Bool) → (bust.player == number) ≡ b
        → count_by (is_numbered number) (lifted bust.player players)
        + cond (bust.player == number) (count_by (is_numbered number) players) 0
        ≡ count_by (is_numbered number) players
        → count_by (is_bust_of number) (busts ++ bust ∷ [])
        ≡ count_by (is_bust_of number) busts + cond {A = ℕ} (bust.player == number) 1 0
        → count_by (is_numbered number) players + count_by (is_bust_of number) busts ≡ rows_owed entries number
        → count_by (is_numbered bust.player) players ≡ 1
        → count_by (is_numbered number) (lifted bust.player players)
        + count_by (is_bust_of number) (busts ++ bust ∷ []) ≡ rows_owed entries number
    by_number number true is left more before one =
        let same = eqb-true bust.player number is in
        let here = rw same at one in
        let kept = rw is at left in
        let row = rw is at more in
        omega (arith, kept, row, before, here)
    by_number number false is left more before one =
        let kept = rw is at left in
        let row = rw is at more in
        omega (arith, kept, row, before)
