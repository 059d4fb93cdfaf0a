-- Stacks go back to those to whom they belong, by their numbers.
use Rattle.std.proofs.Common.{◌≡◌, ◌∙◌, refl, sym, ap, ℕ, ◌+◌, Bool, true, false, cond, ◌%◌, ◌==◌, List, [], ◌∷◌, map, arith}
use Rattle.std.specs.Prelude.{not, nat_lt, filter, find, fold, drop, sum_by, Option, Some, None}
use Rattle.std.specs.List.{list_all, list_any}
use Rattle.std.specs.Option.{option_map_or}
use Rattle.std.proofs.lemmas.Bool.{and_parts, and_from, not-true, eq-eqb, eqb-true, ltb-true, ne_eqb, and_left, and_right}
use Rattle.std.proofs.lemmas.Bool.Decides.{nat_tests}
use Rattle.std.proofs.lemmas.List.{map-id}
use Rattle.std.proofs.lemmas.List.Sums.{sum_by-cons}
use Rattle.rulebook.specs.Pairs.{are_distinct}
use Rattle.rulebook.proofs.Passing.{find-none, list_any-none, map-agree, not-any}
use Rattle.rulebook.proofs.Tests.{eqb-swap, list_any-made}
use Rattle.seat_book.specs.declared.seated.Seated.{Seated}
use Rattle.seat_book.specs.declared.table_status.TableStatus.{TableStatus}
use Rattle.seat_book.specs.Players.{sits_at, is_numbered, are_apart}
use Rattle.seat_book.specs.Tables.{status_at}
use Rattle.table_engine.specs.declared.start.StartSeat.{StartSeat}
use Rattle.table_engine.specs.Starts.{chips_of}
use Rattle.tournament_rules.specs.Players.{start_seat, with_rest, paid, put_back, pay_one}
use Rattle.tournament_rules.specs.Units.{is_whole_at, AreWhole}
use Rattle.tournament_rules.specs.Valid.{is_lent}
use Rattle.tournament_rules.proofs.Members.{has_number, none_picked}
use Rattle.tournament_rules.proofs.Restacked.{ChangesStacks}

-- the stack that a player has at rest
abbrev pub stack_of : Seated → ℕ
stack_of player = player.stack

-- the numbers of players of a start
abbrev pub numbers_of : List StartSeat → List ℕ
numbers_of payees = map (λ payee. payee.player) payees

-- the numbers of players who sit
abbrev pub numbers_in : List Seated → List ℕ
numbers_in players = map (λ player. player.player) players

-- Who gets a stack back keeps all else.
pub paid-stacks : (payees : List StartSeat) → ChangesStacks (paid payees)
paid-stacks payees = record { same = λ player. by_find (find (λ payee. payee.player == player.player) payees) player }
  where
    by_find : (found : Option StartSeat) (player : Seated)
        → option_map_or (λ payee. with_rest player payee.stack) found player
        ≡ with_rest player (option_map_or (λ payee. with_rest player payee.stack) found player).stack
    by_find None player = refl
    by_find (Some payee) player = refl

-- The payees are, in number and order, the players whom a test picks.
pub record ArePayees (test : Seated → Bool) (players : List Seated) (payees : List StartSeat) : Type 0 where
  pub numbers : numbers_of payees ≡ numbers_in (filter test players)

-- the first of the payees' stacks goes to a player
abbrev pub first_paid : List StartSeat → Seated → Seated
first_paid [] player = player
first_paid (payee ∷ payees) player = with_rest player payee.stack

-- the players whom a test picks get the payees' stacks one after another
abbrev pub paid_in_turn : (Seated → Bool) → List StartSeat → List Seated → List Seated
paid_in_turn test payees [] = []
paid_in_turn test payees (player ∷ players) = cond (test player)
    (first_paid payees player ∷ paid_in_turn test (drop 1 payees) players) (player ∷ paid_in_turn test payees players)

not_his : (payee : StartSeat) (payees : List StartSeat) (player : Seated) → not (is_numbered payee.player player) ≡ true
    → paid (payee ∷ payees) player ≡ paid payees player
not_his payee payees player differs =
    rw (eqb-swap payee.player player.player, not-true (is_numbered payee.player player) differs) refl

-- Who has none of the players' numbers is of no matter to them.
put_back-later : (payee : StartSeat) (payees : List StartSeat) (players : List Seated)
    → list_all (λ other. not (is_numbered payee.player other)) players ≡ true
    → put_back (payee ∷ payees) players ≡ put_back payees players
put_back-later payee payees players none =
    map-agree (paid (payee ∷ payees)) (paid payees) (λ other. not (is_numbered payee.player other)) players
    (not_his payee payees) none

-- A payee has a number exactly where it is in the list of the payees' numbers.
pub any_number : (number : ℕ) (payees : List StartSeat)
    → list_any (has_number number) payees ≡ list_any (λ other. other == number) (numbers_of payees)
any_number number payees =
    sym (list_any-made (λ (other : ℕ). other == number) (λ (payee : StartSeat). payee.player) payees)

-- The numbers of those who are picked for a start.
pub picked_numbers : (found : List Seated)
    → numbers_of (map start_seat found) ≡ numbers_in found
picked_numbers [] = refl
picked_numbers (player ∷ found) = ap (λ (numbers : List ℕ). player.player ∷ numbers) (picked_numbers found)

-- Where none of the payees has his number, a player keeps his stack.
pub paid-nothing : (payees : List StartSeat) (player : Seated) → list_any (has_number player.player) payees ≡ false
    → paid payees player ≡ player
paid-nothing payees player none =
    ap (λ (found : Option StartSeat). option_map_or (λ payee. with_rest player payee.stack) found player)
    (find-none (has_number player.player) payees (sym (not-any (has_number player.player) payees) ∙ ap not none))

none_is_payee : (number : ℕ) (test : Seated → Bool) (players : List Seated) (payees : List StartSeat)
    → numbers_of payees ≡ numbers_in (filter test players)
    → list_all (λ other. not (is_numbered number other)) players ≡ true → list_any (has_number number) payees ≡ false
none_is_payee number test players payees same none =
    any_number number payees
    ∙ (ap (λ (numbers : List ℕ). list_any (λ other. other == number) numbers)
    (same ∙ sym (picked_numbers (filter test players)))
    ∙ (sym (any_number number (map start_seat (filter test players))) ∙ none_picked number test players none))

his_own : (payee : StartSeat) (payees : List StartSeat) (player : Seated) → payee.player ≡ player.player
    → paid (payee ∷ payees) player ≡ with_rest player payee.stack
his_own payee payees player same = rw (eq-eqb payee.player player.player same) refl

in_turn-step : (test : Seated → Bool) (player : Seated) (players : List Seated) (payees : List StartSeat) (b : Bool)
    → list_all (λ other. not (is_numbered player.player other)) players ≡ true
    → numbers_of payees ≡ numbers_in (cond b (player ∷ filter test players) (filter test players))
    → ((payees : List StartSeat) → numbers_of payees ≡ numbers_in (filter test players) → put_back payees players
    ≡ paid_in_turn test payees players)
    → put_back payees (player ∷ players) ≡ cond b (first_paid payees player ∷ paid_in_turn test (drop 1 payees)
    players) (player ∷ paid_in_turn test payees players)
in_turn-step test player players [] true none same rest = absurd cc
in_turn-step test player players (payee ∷ payees) true none same rest =
    let his : payee.player ≡ player.player = cc in
    let more : numbers_of payees ≡ numbers_in (filter test players) = cc in
    let here = his_own payee payees player his in
    let later = put_back-later payee payees players (rw his none) in
    let turns = rest payees more in
    rw (here, later, turns) refl
in_turn-step test player players payees false none same rest =
    let here = paid-nothing payees player (none_is_payee player.player test players payees same none) in
    let turns = rest payees same in
    rw (here, turns) refl

-- Stacks that go back to payees who are, in number and order, those whom a test picks, go to these one after another.
pub put_back-in_turn : (test : Seated → Bool) (players : List Seated) (payees : List StartSeat)
    → are_apart players ≡ true → ArePayees test players payees
    → put_back payees players ≡ paid_in_turn test payees players
put_back-in_turn test players payees apart those = by_list players payees apart those.numbers
  where
    by_list : (players : List Seated) (payees : List StartSeat) → are_apart players ≡ true
        → numbers_of payees ≡ numbers_in (filter test players)
        → put_back payees players ≡ paid_in_turn test payees players
    by_list [] payees apart same = refl
    by_list (player ∷ players) payees apart same =
        let parts = and_parts (list_all (λ other. not (is_numbered player.player other)) players) (are_apart players)
        apart in
        in_turn-step test player players payees (test player) parts.0 same
        (λ payees same. by_list players payees parts.1 same)

rest-step : (test : Seated → Bool) (player : Seated) (players : List Seated) (payees : List StartSeat) (b : Bool)
    → test player ≡ b → ((player : Seated) → test player ≡ true → player.stack ≡ 0)
    → numbers_of payees ≡ numbers_in (cond b (player ∷ filter test players) (filter test players))
    → ((payees : List StartSeat) → numbers_of payees ≡ numbers_in (filter test players)
    → sum_by stack_of (paid_in_turn test payees players) ≡ sum_by stack_of players + chips_of payees)
    → sum_by stack_of (cond b (first_paid payees player ∷ paid_in_turn test (drop 1 payees) players)
    (player ∷ paid_in_turn test payees players)) ≡ sum_by stack_of (player ∷ players) + chips_of payees
rest-step test player players [] true is nothing same rest = absurd cc
rest-step test player players (payee ∷ payees) true is nothing same rest =
    let more : numbers_of payees ≡ numbers_in (filter test players) = cc in
    let none : player.stack ≡ 0 = nothing player is in
    let others = rest payees more in
    simp sum_by-cons (omega (arith, others, none))
rest-step test player players payees false is nothing same rest =
    let others = rest payees same in
    simp sum_by-cons (omega (arith, others))

rest_in_turn : (test : Seated → Bool) (players : List Seated) (payees : List StartSeat)
    → ((player : Seated) → test player ≡ true → player.stack ≡ 0)
    → numbers_of payees ≡ numbers_in (filter test players)
    → sum_by stack_of (paid_in_turn test payees players) ≡ sum_by stack_of players + chips_of payees
rest_in_turn test [] [] nothing same = refl
rest_in_turn test [] (payee ∷ payees) nothing same = absurd cc
rest_in_turn test (player ∷ players) payees nothing same =
    rest-step test player players payees (test player) refl nothing same
    (λ payees same. rest_in_turn test players payees nothing same)

-- Where the payees had nothing at rest, the stacks at rest grow by theirs.
pub rest-put_back : (test : Seated → Bool) (players : List Seated) (payees : List StartSeat) → are_apart players ≡ true
    → ArePayees test players payees → ((player : Seated) → test player ≡ true → player.stack ≡ 0)
    → sum_by stack_of (put_back payees players) ≡ sum_by stack_of players + chips_of payees
rest-put_back test players payees apart those nothing =
    rw (put_back-in_turn test players payees apart those) (rest_in_turn test players payees nothing those.numbers)

none_lent-step : (table : ℕ) (player : Seated) (players : List Seated) (payees : List StartSeat) (b : Bool)
    → is_lent table player ≡ b → list_all (λ payee. nat_lt 0 payee.stack) payees ≡ true
    → numbers_of payees ≡ numbers_in (cond b (player ∷ filter (is_lent table) players) (filter (is_lent table) players))
    → ((payees : List StartSeat) → list_all (λ payee. nat_lt 0 payee.stack) payees ≡ true → numbers_of payees
    ≡ numbers_in (filter (is_lent table) players)
    → filter (is_lent table) (paid_in_turn (is_lent table) payees players) ≡ [])
    → filter (is_lent table) (cond b
    (first_paid payees player ∷ paid_in_turn (is_lent table) (drop 1 payees) players)
    (player ∷ paid_in_turn (is_lent table) payees players)) ≡ []
none_lent-step table player players [] true is above same rest = absurd cc
none_lent-step table player players (payee ∷ payees) true is above same rest =
    let more : numbers_of payees ≡ numbers_in (filter (is_lent table) players) = cc in
    let parts = and_parts (nat_lt 0 payee.stack) (list_all (λ payee. nat_lt 0 payee.stack) payees) above in
    let some = ltb-true 0 payee.stack parts.0 in
    let rests = ne_eqb payee.stack 0 (λ nothing. omega (arith, some, nothing)) in
    rw (and_right (sits_at table player) (payee.stack == 0) rests) (rest payees parts.1 more)
none_lent-step table player players payees false is above same rest = rw is (rest payees above same)

none_lent-in_turn : (table : ℕ) (players : List Seated) (payees : List StartSeat)
    → list_all (λ payee. nat_lt 0 payee.stack) payees ≡ true
    → numbers_of payees ≡ numbers_in (filter (is_lent table) players)
    → filter (is_lent table) (paid_in_turn (is_lent table) payees players) ≡ []
none_lent-in_turn table [] payees above same = refl
none_lent-in_turn table (player ∷ players) payees above same =
    none_lent-step table player players payees (is_lent table player) refl above same
    (λ payees above same. none_lent-in_turn table players payees above same)

-- Once stacks above 0 went back to all who had nothing at rest at a table, nobody has nothing at rest there.
pub none_lent : (table : ℕ) (players : List Seated) (payees : List StartSeat) → are_apart players ≡ true
    → ArePayees (is_lent table) players payees → list_all (λ payee. nat_lt 0 payee.stack) payees ≡ true
    → filter (is_lent table) (put_back payees players) ≡ []
none_lent table players payees apart those above = rw (put_back-in_turn (is_lent table) players payees apart those)
    (none_lent-in_turn table players payees above those.numbers)

-- Who sits at one table sits at no other.
pub sits_elsewhere : (sits table other : ℕ) → (table == other) ≡ false → (sits == table) ≡ true
    → (sits == other) ≡ false
sits_elsewhere sits table other differ same = grind (arith, nat_tests)

lent_elsewhere-step : (table other : ℕ) (player : Seated) (players : List Seated) (payees : List StartSeat) (b : Bool)
    → is_lent table player ≡ b → (table == other) ≡ false
    → ((payees : List StartSeat) → filter (is_lent other) (paid_in_turn (is_lent table) payees players)
    ≡ filter (is_lent other) players)
    → filter (is_lent other) (cond b
    (first_paid payees player ∷ paid_in_turn (is_lent table) (drop 1 payees) players)
    (player ∷ paid_in_turn (is_lent table) payees players)) ≡ filter (is_lent other) (player ∷ players)
lent_elsewhere-step table other player players payees true is differ rest =
    let away = sits_elsewhere player.place.table table other differ
    (and_parts (sits_at table player) (player.stack == 0) is).0 in
    rw (not_lent payees, and_left (sits_at other player) (player.stack == 0) away) (rest (drop 1 payees))
  where
    not_lent : (payees : List StartSeat) → is_lent other (first_paid payees player) ≡ false
    not_lent [] = and_left (sits_at other player) (player.stack == 0) (sits_elsewhere player.place.table table other
        differ (and_parts (sits_at table player) (player.stack == 0) is).0)
    not_lent (payee ∷ payees) = and_left (sits_at other player) (payee.stack == 0) (sits_elsewhere player.place.table
        table other differ (and_parts (sits_at table player) (player.stack == 0) is).0)
lent_elsewhere-step table other player players payees false is differ rest =
    ap (λ (found : List Seated). cond (is_lent other player) (player ∷ found) found) (rest payees)

lent_elsewhere-in_turn : (table other : ℕ) (players : List Seated) (payees : List StartSeat) → (table == other) ≡ false
    → filter (is_lent other) (paid_in_turn (is_lent table) payees players) ≡ filter (is_lent other) players
lent_elsewhere-in_turn table other [] payees differ = refl
lent_elsewhere-in_turn table other (player ∷ players) payees differ =
    lent_elsewhere-step table other player players payees (is_lent table player) refl differ
    (λ payees. lent_elsewhere-in_turn table other players payees differ)

-- Once stacks went back to those who had nothing at rest at a table, those who have nothing at another are who they
-- were.
pub lent_elsewhere : (table other : ℕ) (players : List Seated) (payees : List StartSeat) → are_apart players ≡ true
    → ArePayees (is_lent table) players payees → (table == other) ≡ false
    → filter (is_lent other) (put_back payees players) ≡ filter (is_lent other) players
lent_elsewhere table other players payees apart those differ = rw
    (put_back-in_turn (is_lent table) players payees apart those)
    (lent_elsewhere-in_turn table other players payees differ)

whole-step : (tables : List TableStatus) (table : ℕ) (player : Seated) (players : List Seated)
    (payees : List StartSeat) (b : Bool) → is_lent table player ≡ b → is_whole_at tables player ≡ true
    → list_all (λ payee. payee.stack % (status_at tables table).unit == 0) payees ≡ true
    → ((payees : List StartSeat) → list_all (λ payee. payee.stack % (status_at tables table).unit == 0) payees ≡ true
    → AreWhole tables (paid_in_turn (is_lent table) payees players))
    → AreWhole tables (cond b (first_paid payees player ∷ paid_in_turn (is_lent table) (drop 1 payees) players)
    (player ∷ paid_in_turn (is_lent table) payees players))
whole-step tables table player players [] true is his whole rest = and_from _ _ his (rest [] whole)
whole-step tables table player players (payee ∷ payees) true is his whole rest =
    let test : ℕ → Bool = λ number. payee.stack % (status_at tables number).unit == 0 in
    let here = eqb-true player.place.table table (and_parts (sits_at table player) (player.stack == 0) is).0 in
    let parts = and_parts (test table) (list_all (λ payee. payee.stack % (status_at tables table).unit == 0) payees)
    whole in
    and_from _ _ (ap test here ∙ parts.0) (rest payees parts.1)
whole-step tables table player players payees false is his whole rest = and_from _ _ his (rest payees whole)

whole-in_turn : (tables : List TableStatus) (table : ℕ) (players : List Seated) (payees : List StartSeat)
    → AreWhole tables players → list_all (λ payee. payee.stack % (status_at tables table).unit == 0) payees ≡ true
    → AreWhole tables (paid_in_turn (is_lent table) payees players)
whole-in_turn tables table [] payees all whole = refl
whole-in_turn tables table (player ∷ players) payees all whole =
    let parts = and_parts (is_whole_at tables player) (list_all (is_whole_at tables) players) all in
    whole-step tables table player players payees (is_lent table player) refl parts.0 whole
    (λ payees whole. whole-in_turn tables table players payees parts.1 whole)

-- Each stack is a multiple of its table's unit once such stacks went back to all who had nothing at rest at a table.
pub whole-put_back : (tables : List TableStatus) (table : ℕ) (players : List Seated) (payees : List StartSeat)
    → are_apart players ≡ true → ArePayees (is_lent table) players payees → AreWhole tables players
    → list_all (λ payee. payee.stack % (status_at tables table).unit == 0) payees ≡ true
    → AreWhole tables (put_back payees players)
whole-put_back tables table players payees apart those all whole = rw
    (put_back-in_turn (is_lent table) players payees apart those) (whole-in_turn tables table players payees all whole)

first_then_others : (payee : StartSeat) (payees : List StartSeat) (player : Seated) (b : Bool)
    → is_numbered payee.player player ≡ b → list_any (has_number payee.player) payees ≡ false
    → paid payees (cond b (with_rest player payee.stack) player) ≡ paid (payee ∷ payees) player
first_then_others payee payees player true is none =
    let same = eqb-true player.player payee.player is in
    let gone = paid-nothing payees (with_rest player payee.stack) (rw same none) in
    gone ∙ rw (eqb-swap payee.player player.player, is) refl
first_then_others payee payees player false is none = rw (eqb-swap payee.player player.player, is) refl

others_then_first : (payee : StartSeat) (payees : List StartSeat) (players : List Seated)
    → list_any (has_number payee.player) payees ≡ false
    → put_back payees (pay_one players payee) ≡ put_back (payee ∷ payees) players
others_then_first payee payees [] none = refl
others_then_first payee payees (player ∷ players) none =
    let here = first_then_others payee payees player (is_numbered payee.player player) refl none in
    let rest = others_then_first payee payees players none in
    cc

none_later : (number : ℕ) (payees : List StartSeat)
    → list_all (λ other. not (number == other)) (numbers_of payees) ≡ true
    → list_any (has_number number) payees ≡ false
none_later number payees differ =
    any_number number payees
    ∙ list_any-none (λ (other : ℕ). not (number == other)) (λ other. other == number) (numbers_of payees)
    (λ other differs. eqb-swap other number ∙ not-true (number == other) differs) differ

-- Payees with distinct numbers who are paid one after another are all paid.
pub paid-one_by_one : (payees : List StartSeat) (players : List Seated)
    → are_distinct (λ one other. one == other) (numbers_of payees) ≡ true
    → fold pay_one players payees ≡ put_back payees players
paid-one_by_one [] players distinct = sym (map-id players)
paid-one_by_one (payee ∷ payees) players distinct =
    let parts = and_parts (list_all (λ other. not (payee.player == other)) (numbers_of payees))
    (are_distinct (λ one other. one == other) (numbers_of payees)) distinct in
    paid-one_by_one payees (pay_one players payee) parts.1
    ∙ others_then_first payee payees players (none_later payee.player payees parts.0)
