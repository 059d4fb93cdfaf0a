-- What is so of the players who stay, once those who have nothing at rest at a table have left their seats.
use Rattle.std.proofs.Common.{◌≡◌, ◌∙◌, refl, sym, ap, ℕ, ◌+◌, ◌≤◌, Bool, true, false, cond, ◌==◌, ◌&&◌, List, [], ◌∷◌, ◌++◌, map, length, get_or, arith}
use Rattle.std.specs.Prelude.{not, nat_le, drop, filter, count_by, sum_by, slice_get, Option, Some}
use Rattle.std.specs.List.{list_all, list_any, All}
use Rattle.std.proofs.lemmas.Bool.{and_parts, and_from, eqb-true, le-leb, leb-true}
use Rattle.std.proofs.lemmas.Bool.Decides.{nat_tests}
use Rattle.std.proofs.lemmas.List.Folds.{list_all-append, list_all-map}
use Rattle.std.proofs.lemmas.List.Sums.{length-filter, sum_by-append, sum_by-cons}
use Rattle.std.proofs.lemmas.List.Elements.{All-filter, All-head, All-tail}
use Rattle.rulebook.specs.Pairs.{is_pairwise}
use Rattle.rulebook.proofs.Pairs.{is_pairwise-kept}
use Rattle.rulebook.proofs.Passing.{filter-filter, filter-none}
use Rattle.rulebook.proofs.Tests.{count_by-cons, list_all-always, list_all-follows, list_all-kept, sum_by-map, list_all-filtered}
use Rattle.level_plan.specs.Plans.{PlanTerms}
use Rattle.place_list.specs.declared.bust.Bust.{Bust}
use Rattle.seat_book.specs.declared.seated.Seated.{Seated}
use Rattle.seat_book.specs.Players.{sits_at, is_numbered, are_apart}
use Rattle.seat_book.specs.Counts.{count_at}
use Rattle.seat_book.specs.Seatings.{Seating, IsSeating, sits_within, is_entry}
use Rattle.table_engine.specs.declared.start.HandStart.{HandStart}
use Rattle.table_engine.specs.declared.start.StartSeat.{StartSeat}
use Rattle.tournament_rules.specs.Players.{is_one_of, start_seat, with_rest, put_back, stayed}
use Rattle.tournament_rules.specs.Effects.{bust_of}
use Rattle.tournament_rules.specs.Valid.{AreEntered, AreOnce, AreGrouped, IsFitting, is_bust_of, is_lent}
use Rattle.tournament_rules.proofs.Members.{is_one_of-dealt}
use Rattle.tournament_rules.proofs.Paying.{stack_of, numbers_of, numbers_in, picked_numbers, any_number, ArePayees, first_paid, paid_in_turn, put_back-in_turn}
use Rattle.tournament_rules.proofs.SitDown.{sits_before, differs, in_order-pairs, apart-pairs}

-- those who do not pass a test
abbrev pub without : {A : Type 0} → (A → Bool) → List A → List A
without gone items = filter (λ item. not (gone item)) items

-- the players once those who have nothing at rest at a table have left
abbrev pub who_stay : ℕ → List Seated → List Seated
who_stay table players = without (is_lent table) players

-- What all pass, those who stay pass.
pub all_stay : {A : Type 0} (test gone : A → Bool) (items : List A) → list_all test items ≡ true
    → list_all test (without gone items) ≡ true
all_stay test gone items all = list_all-kept test (λ item. not (gone item)) items all

-- Those who stay and those who do not are all.
pub count_apart : {A : Type 0} (test gone : A → Bool) (items : List A)
    → count_by test (without gone items) + count_by test (filter gone items) ≡ count_by test items
count_apart test gone [] = refl
count_apart test gone (item ∷ items) = by_test (gone item) (count_apart test gone items)
  where
    by_test : (b : Bool)
        → count_by test (without gone items) + count_by test (filter gone items) ≡ count_by test items
        → count_by test (cond (not b) (item ∷ without gone items) (without gone items))
        + count_by test (cond b (item ∷ filter gone items) (filter gone items)) ≡ count_by test (item ∷ items)
    by_test true rest =
        let all = count_by-cons test item items in
        let his = count_by-cons test item (filter gone items) in
        omega (arith, all, his, rest)
    by_test false rest =
        let all = count_by-cons test item items in
        let his = count_by-cons test item (without gone items) in
        omega (arith, all, his, rest)

-- A seating is lawful once some players have left.
pub seating_left : (seating : Seating) (gone : Seated → Bool) → IsSeating seating
    → IsSeating (record seating { players = without gone seating.players })
seating_left seating gone lawful = record {
  some_tables = lawful.some_tables;
  most_tables = lawful.most_tables;
  some_seats = lawful.some_seats;
  most_seats = lawful.most_seats;
  tables = lawful.tables;
  statuses = lawful.statuses;
  within = all_stay (sits_within seating.table_count seating.seat_count) gone seating.players lawful.within;
  ordered = in_order-pairs (without gone seating.players)
      ∙ is_pairwise-kept sits_before (λ seated. not (gone seated)) seating.players
      (sym (in_order-pairs seating.players) ∙ lawful.ordered);
  entries = all_stay is_entry gone seating.players lawful.entries;
  apart = apart-pairs (without gone seating.players)
      ∙ is_pairwise-kept differs (λ seated. not (gone seated)) seating.players
      (sym (apart-pairs seating.players) ∙ lawful.apart);
}

-- The seating fits the plan once some players have left.
pub fitting_left : (plan : PlanTerms) (seating : Seating) (started : List (Option HandStart)) (gone : Seated → Bool)
    → IsFitting plan seating started
    → IsFitting plan (record seating { players = without gone seating.players }) started
fitting_left plan seating started gone fits = record {
  lawful = seating_left seating gone fits.lawful;
  tables = fits.tables;
  seats = fits.seats;
  room = fits.room;
  nobody = fits.nobody;
  playing = fits.playing;
}

-- The entries, the players who stay and those who are out agree where each entered player is in or out once.
pub entered_left : (entries : List (List ℕ)) (reentries : ℕ) (players : List Seated) (before after : List Bust)
    (gone : Seated → Bool)
    → AreEntered entries reentries players before → AreOnce entries (without gone players) after
    → AreEntered entries reentries (without gone players) after
entered_left entries reentries players before after gone entered once = record {
  few = entered.few;
  names = entered.names;
  once = once;
  named = All-filter (λ player. not (gone player)) (λ player. slice_get entries player.player ≡ Some player.name)
      players entered.named;
}

-- Nobody who stays has nothing at rest at the table.
pub none_lent-stay : (table : ℕ) (players : List Seated) → filter (is_lent table) (who_stay table players) ≡ []
none_lent-stay table players = filter-none (is_lent table) (who_stay table players)
    (list_all-filtered (λ player. not (is_lent table player)) players)

-- Those who have nothing at rest at another table stay.
pub lent_elsewhere-stay : (table other : ℕ) (players : List Seated) → (table == other) ≡ false
    → filter (is_lent other) (who_stay table players) ≡ filter (is_lent other) players
lent_elsewhere-stay table other [] differ = refl
lent_elsewhere-stay table other (player ∷ players) differ =
    by_test (is_lent table player) refl (lent_elsewhere-stay table other players differ)
  where
    elsewhere : (sits stack : ℕ) → (sits == table && stack == 0) ≡ true → (sits == other && stack == 0) ≡ false
    elsewhere sits stack lent = grind (arith, nat_tests)

    by_test : (b : Bool) → is_lent table player ≡ b
        → filter (is_lent other) (who_stay table players) ≡ filter (is_lent other) players
        → filter (is_lent other) (cond (not b) (player ∷ who_stay table players) (who_stay table players))
        ≡ filter (is_lent other) (player ∷ players)
    by_test true is rest = rw (elsewhere player.place.table player.stack is) rest
    by_test false is rest = ap (λ (found : List Seated). cond (is_lent other player) (player ∷ found) found) rest

-- At another table as many sit as before.
pub count_elsewhere-stay : (table other : ℕ) (players : List Seated) → (table == other) ≡ false
    → count_at (who_stay table players) other ≡ count_at players other
count_elsewhere-stay table other players differ =
    let parts = count_apart (sits_at other) (is_lent table) players in
    omega (arith, parts, none_left)
  where
    away : (sits stack : ℕ) → not ((sits == table && stack == 0) && sits == other) ≡ true
    away sits stack = grind (arith, nat_tests)

    none_left : count_by (sits_at other) (filter (is_lent table) players) ≡ 0
    none_left =
        sym (length-filter (sits_at other) (filter (is_lent table) players))
        ∙ ap length (filter-filter (is_lent table) (sits_at other) players
        ∙ filter-none (λ player. is_lent table player && sits_at other player) players
        (list_all-always (λ (player : Seated). not (is_lent table player && sits_at other player)) players
        (λ player. away player.place.table player.stack)))

-- Those who leave have nothing, so the stacks at rest sum to the same.
pub rest-stay : (table : ℕ) (players : List Seated)
    → sum_by stack_of (who_stay table players) ≡ sum_by stack_of players
rest-stay table [] = refl
rest-stay table (player ∷ players) = by_test (is_lent table player) refl (rest-stay table players)
  where
    by_test : (b : Bool) → is_lent table player ≡ b → sum_by stack_of (who_stay table players)
        ≡ sum_by stack_of players
        → sum_by stack_of (cond (not b) (player ∷ who_stay table players) (who_stay table players))
        ≡ sum_by stack_of (player ∷ players)
    by_test true is rest =
        let one = sum_by-cons stack_of player players in
        let none = eqb-true player.stack 0 (and_parts (sits_at table player) (player.stack == 0) is).1 in
        omega (arith, one, none, rest)
    by_test false is rest =
        let one = sum_by-cons stack_of player players in
        let his = sum_by-cons stack_of player (who_stay table players) in
        omega (arith, one, his, rest)

same_without : {A : Type 0} (one other : A → Bool) (items : List A) → All (λ item. one item ≡ other item) items
    → without one items ≡ without other items
same_without one other [] same = refl
same_without one other (item ∷ items) same =
    let here = All-head (λ item. one item ≡ other item) item items same in
    let rest = same_without one other items (All-tail (λ item. one item ≡ other item) item items same) in
    rw (here, rest) refl

-- Where those who leave are, in number, those who have nothing at rest at a table, the others stay.
pub stayed-lent : (table : ℕ) (leaving : List StartSeat) (players : List Seated) → are_apart players ≡ true
    → numbers_of leaving ≡ numbers_in (filter (is_lent table) players)
    → stayed leaving players ≡ who_stay table players
stayed-lent table leaving players apart same =
    same_without (is_one_of leaving) (is_lent table) players
    (λ k d within. one (get_or players k d) (is_one_of-dealt (is_lent table) players apart k d within))
  where
    one : (player : Seated) → is_one_of (map start_seat (filter (is_lent table) players)) player ≡ is_lent table player
        → is_one_of leaving player ≡ is_lent table player
    one player is =
        any_number player.player leaving
        ∙ (ap (λ (numbers : List ℕ). list_any (λ other. other == player.player) numbers)
        (same ∙ sym (picked_numbers (filter (is_lent table) players)))
        ∙ (sym (any_number player.player (map start_seat (filter (is_lent table) players))) ∙ is))

-- the payees who have nothing
abbrev pub with_nothing : List StartSeat → List StartSeat
with_nothing payees = filter (λ payee. payee.stack == 0) payees

nothing-step : (table : ℕ) (player : Seated) (players : List Seated) (payees : List StartSeat) (b : Bool)
    → is_lent table player ≡ b
    → numbers_of payees ≡ numbers_in (cond b (player ∷ filter (is_lent table) players) (filter (is_lent table) players))
    → ((payees : List StartSeat) → numbers_of payees ≡ numbers_in (filter (is_lent table) players)
    → numbers_of (with_nothing payees)
    ≡ numbers_in (filter (is_lent table) (paid_in_turn (is_lent table) payees players)))
    → numbers_of (with_nothing payees) ≡ numbers_in (filter (is_lent table) (cond b
    (first_paid payees player ∷ paid_in_turn (is_lent table) (drop 1 payees) players)
    (player ∷ paid_in_turn (is_lent table) payees players)))
nothing-step table player players [] true is same rest = absurd cc
nothing-step table player players (payee ∷ payees) true is same rest =
    let more : numbers_of payees ≡ numbers_in (filter (is_lent table) players) = cc in
    let his : payee.player ≡ player.player = cc in
    let sits = (and_parts (sits_at table player) (player.stack == 0) is).0 in
    rw sits (by_stack (payee.stack == 0) his (rest payees more))
  where
    by_stack : (b : Bool) → payee.player ≡ player.player
        → numbers_of (with_nothing payees)
        ≡ numbers_in (filter (is_lent table) (paid_in_turn (is_lent table) payees players))
        → numbers_of (cond b (payee ∷ with_nothing payees) (with_nothing payees))
        ≡ numbers_in (cond b (with_rest player payee.stack
        ∷ filter (is_lent table) (paid_in_turn (is_lent table) payees players))
        (filter (is_lent table) (paid_in_turn (is_lent table) payees players)))
    by_stack true his rest = rw (his, rest) refl
    by_stack false his rest = rest
nothing-step table player players payees false is same rest = rw is (rest payees same)

nothing-in_turn : (table : ℕ) (players : List Seated) (payees : List StartSeat)
    → numbers_of payees ≡ numbers_in (filter (is_lent table) players)
    → numbers_of (with_nothing payees)
    ≡ numbers_in (filter (is_lent table) (paid_in_turn (is_lent table) payees players))
nothing-in_turn table [] [] same = refl
nothing-in_turn table [] (payee ∷ payees) same = absurd cc
nothing-in_turn table (player ∷ players) payees same =
    nothing-step table player players payees (is_lent table player) refl same
    (λ payees same. nothing-in_turn table players payees same)

-- Once stacks went back to all who had nothing at rest at a table, those who have nothing there are the payees who have
-- nothing.
pub lent_after : (table : ℕ) (players : List Seated) (payees : List StartSeat) → are_apart players ≡ true
    → ArePayees (is_lent table) players payees
    → numbers_of (with_nothing payees) ≡ numbers_in (filter (is_lent table) (put_back payees players))
lent_after table players payees apart those = rw (put_back-in_turn (is_lent table) players payees apart those)
    (nothing-in_turn table players payees those.numbers)

-- Those who go out are as many of a number as those of it who leave.
count_bust : (number group : ℕ) (leaving : List StartSeat) (found : List Seated)
    → numbers_of leaving ≡ numbers_in found
    → count_by (is_bust_of number) (map (bust_of group) leaving) ≡ count_by (is_numbered number) found
count_bust number group leaving found same =
    let his : ℕ → ℕ = λ other. cond {A = ℕ} (other == number) 1 0 in
    sum_by-map (λ (bust : Bust). his bust.player) (bust_of group) leaving
    ∙ (sym (sum_by-map his (λ (starter : StartSeat). starter.player) leaving)
    ∙ (ap (sum_by his) same ∙ sum_by-map his (λ (player : Seated). player.player) found))

-- Each entered player is in or out once, when those who have nothing at rest at a table have left and are out.
pub once_left : (entries : List (List ℕ)) (table group : ℕ) (leaving : List StartSeat) (players : List Seated)
    (busts : List Bust)
    → AreOnce entries players busts → numbers_of leaving ≡ numbers_in (filter (is_lent table) players)
    → AreOnce entries (who_stay table players) (busts ++ map (bust_of group) leaving)
once_left entries table group leaving players busts once same = λ number.
    let parts = count_apart (is_numbered number) (is_lent table) players in
    let gone = count_bust number group leaving (filter (is_lent table) players) same in
    let rows = sum_by-append (λ (bust : Bust). cond {A = ℕ} (is_bust_of number bust) 1 0) busts
    (map (bust_of group) leaving) in
    let before = once number in
    omega (arith, parts, gone, rows, before)

-- A group of players who go out is not later than itself.
pub same_group : (group : ℕ) → nat_le group group ≡ true
same_group group = le-leb group group (omega arith)

-- Nobody is in a later group than those who go out next where that number does not fall.
pub past_later : (busts : List Bust) (group next : ℕ) → group ≤ next
    → list_all (λ bust. nat_le bust.group group) busts ≡ true → list_all (λ bust. nat_le bust.group next) busts ≡ true
past_later busts group next most past =
    list_all-follows (λ (bust : Bust). nat_le bust.group group) (λ bust. nat_le bust.group next) busts
    (λ bust is. le-leb bust.group next (omega (arith, leb-true bust.group group is))) past

-- Where a group passes a test, so does that of each player who goes out in it.
pub all_in_group : (test : ℕ → Bool) (group : ℕ) (leaving : List StartSeat) → test group ≡ true
    → list_all (λ (bust : Bust). test bust.group) (map (bust_of group) leaving) ≡ true
all_in_group test group leaving passes =
    list_all-map (λ (bust : Bust). test bust.group) (bust_of group) leaving
    ∙ list_all-always (λ (starter : StartSeat). test group) leaving (λ starter. passes)

-- The groups do not fall once some more are out in the group of those who go out next, and that number does not fall.
pub grouped_left : (group next : ℕ) (leaving : List StartSeat) (busts : List Bust) → group ≤ next
    → AreGrouped busts group → AreGrouped (busts ++ map (bust_of group) leaving) next
grouped_left group next leaving busts most grouped = record {
  groups = pairs busts grouped.groups grouped.past;
  past = list_all-append (λ (bust : Bust). nat_le bust.group next) busts (map (bust_of group) leaving)
      ∙ and_from _ _ (past_later busts group next most grouped.past)
      (all_in_group (λ other. nat_le other next) group leaving (le-leb group next most));
}
  where
    in_one : (leaving : List StartSeat)
        → is_pairwise (λ (one other : Bust). nat_le one.group other.group) (map (bust_of group) leaving) ≡ true
    in_one [] = refl
    in_one (starter ∷ leaving) = and_from _ _ (all_in_group (λ other. nat_le group other) group leaving
        (same_group group)) (in_one leaving)

    pairs : (busts : List Bust) → is_pairwise (λ (one other : Bust). nat_le one.group other.group) busts ≡ true
        → list_all (λ bust. nat_le bust.group group) busts ≡ true
        → is_pairwise (λ (one other : Bust). nat_le one.group other.group) (busts ++ map (bust_of group) leaving)
        ≡ true
    pairs [] groups past = in_one leaving
    pairs (bust ∷ busts) groups past =
        let first = and_parts (list_all (λ (other : Bust). nat_le bust.group other.group) busts)
        (is_pairwise (λ (one other : Bust). nat_le one.group other.group) busts) groups in
        let his = and_parts (nat_le bust.group group) (list_all (λ bust. nat_le bust.group group) busts) past in
        and_from _ _
        (list_all-append (λ (other : Bust). nat_le bust.group other.group) busts (map (bust_of group) leaving)
        ∙ and_from _ _ first.0 (all_in_group (λ other. nat_le bust.group other) group leaving his.0))
        (pairs busts first.1 his.1)
