-- The places of all cards of a hand.
use Rattle.std.proofs.Common.{◌≡◌, ◌∙◌, ℕ, zero, suc, ◌+◌, ◌*◌, ◌<◌, ◌≤◌, Bool, true, List, refl, ap, arith}
use Rattle.std.specs.Prelude.{nat_lt}
use Rattle.std.specs.List.{list_all}
use Rattle.std.proofs.lemmas.Bool.Decides.{nat_tests}
use Rattle.rulebook.specs.Pairs.{are_rising}
use Rattle.button_blinds.specs.SeatSets.{AreSeatsOf, seat_count}
use Rattle.button_blinds.proofs.SeatSetLaws.{seat_count-most}
use Rattle.deal_order.specs.DealOrder.{board_places, count_up, deal_places, dealt_in_order, hole_places, round_places}
use Rattle.deal_order.proofs.Orders.{count_up-append, dealt-count, dealt-distinct, places-count_up}

-- A round of hole cards takes the next cards, one for each player.
round-count_up : (dealt : List Bool) (button seats card : ℕ) → AreSeatsOf seats dealt → seats ≤ 10 → button ≤ seats
    → round_places dealt button seats card ≡ count_up (card * seat_count dealt) (seat_count dealt)
round-count_up dealt button seats card table most at =
    places-count_up (card * seat_count dealt) (dealt_in_order dealt button seats)
    (dealt-distinct dealt button seats most at)
    ∙ ap (count_up (card * seat_count dealt)) (dealt-count dealt button seats table at)

-- All hole cards are the first cards.
holes-count_up : (dealt : List Bool) (button seats holes : ℕ) → AreSeatsOf seats dealt → seats ≤ 10 → button ≤ seats
    → hole_places dealt button seats holes ≡ count_up 0 (holes * seat_count dealt)
holes-count_up dealt button seats zero table most at = let none : 0 * seat_count dealt ≡ 0 = omega arith in rw none refl
holes-count_up dealt button seats (suc holes) table most at =
    let before = holes-count_up dealt button seats holes table most at in
    let round = round-count_up dealt button seats holes table most at in
    let start : 0 + holes * seat_count dealt ≡ holes * seat_count dealt = omega arith in
    let joined = count_up-append 0 (holes * seat_count dealt) (seat_count dealt) in
    let all : holes * seat_count dealt + seat_count dealt ≡ suc holes * seat_count dealt = grind arith in
    rw (before, round, ← all, ← joined, start)

-- The burned cards and the board are the next eight.
board-count_up : (dealt holes : ℕ) → board_places dealt holes ≡ count_up (holes * dealt) 8
board-count_up dealt holes =
    let n = holes * dealt in
    let first : n + 0 + 0 ≡ n = omega arith in
    let second : n + 0 + 1 ≡ n + 1 = omega arith in
    let fourth : n + 2 + 1 ≡ n + 1 + 1 + 1 = omega arith in
    let fifth : n + 1 + 3 ≡ n + 1 + 1 + 1 + 1 = omega arith in
    let sixth : n + 3 + 2 ≡ n + 1 + 1 + 1 + 1 + 1 = omega arith in
    let seventh : n + 2 + 4 ≡ n + 1 + 1 + 1 + 1 + 1 + 1 = omega arith in
    let eighth : n + 4 + 3 ≡ n + 1 + 1 + 1 + 1 + 1 + 1 + 1 = omega arith in
    cc

-- The places of all cards of a hand are the first, one after another.
pub deal-count_up : (dealt : List Bool) (button seats holes : ℕ) → AreSeatsOf seats dealt → seats ≤ 10 → button ≤ seats
    → deal_places dealt button seats holes ≡ count_up 0 (holes * seat_count dealt + 8)
deal-count_up dealt button seats holes table most at =
    let all_holes = holes-count_up dealt button seats holes table most at in
    let board = board-count_up (seat_count dealt) holes in
    let start : 0 + holes * seat_count dealt ≡ holes * seat_count dealt = omega arith in
    let joined = count_up-append 0 (holes * seat_count dealt) 8 in
    rw (all_holes, board, ← joined, start)

-- Numbers from one on are above a lower one.
count_up-above : (low from steps : ℕ) → low < from → list_all (nat_lt low) (count_up from steps) ≡ true
count_up-above low from zero below = refl
count_up-above low from (suc steps) below =
    let here : nat_lt low from ≡ true = grind (arith, nat_tests) in
    rw (here, count_up-above low (from + 1) steps (omega arith))

-- Numbers one after another rise.
count_up-rising : (from steps : ℕ) → are_rising (count_up from steps) ≡ true
count_up-rising from zero = refl
count_up-rising from (suc steps) =
    rw (count_up-above from (from + 1) steps (omega arith), count_up-rising (from + 1) steps)

-- Numbers one after another are below the one after the last.
count_up-within : (from steps most : ℕ) → from + steps ≤ most
    → list_all (λ number. nat_lt number most) (count_up from steps) ≡ true
count_up-within from zero most within = refl
count_up-within from (suc steps) most within =
    let here : nat_lt from most ≡ true = grind (arith, nat_tests) in
    rw (here, count_up-within (from + 1) steps most (omega arith))

-- Each place is above all before it.
pub deal-rising : (dealt : List Bool) (button seats holes : ℕ) → AreSeatsOf seats dealt → seats ≤ 10 → button ≤ seats
    → are_rising (deal_places dealt button seats holes) ≡ true
deal-rising dealt button seats holes table most at =
    ap are_rising (deal-count_up dealt button seats holes table most at)
    ∙ count_up-rising 0 (holes * seat_count dealt + 8)

-- Four cards of ten players are forty.
pub forty : (holes players : ℕ) → holes ≤ 4 → players ≤ 10 → holes * players ≤ 40
forty holes players few most = grind arith

-- With at most four hole cards each place is one of the deck's 52.
pub deal-within : (dealt : List Bool) (button seats holes : ℕ) → AreSeatsOf seats dealt → seats ≤ 10 → button ≤ seats
    → holes ≤ 4
    → list_all (λ place. nat_lt place 52) (deal_places dealt button seats holes) ≡ true
deal-within dealt button seats holes table most at few =
    let players = seat_count-most dealt seats table in
    let cards = forty holes (seat_count dealt) few (omega arith) in
    ap (list_all (λ place. nat_lt place 52)) (deal-count_up dealt button seats holes table most at)
    ∙ count_up-within 0 (holes * seat_count dealt + 8) 52 (omega arith)
