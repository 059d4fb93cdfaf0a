-- How many chips are won.
use Rattle.std.proofs.Common.{◌≡◌, ◌∙◌, refl, ap, sym, inl, inr, ℕ, zero, suc, ◌+◌, ◌-◌, ◌*◌, ◌/◌, ◌%◌, ◌<◌, ◌≤◌, min, max, Bool, true, false, List, [], ◌∷◌, length, take, drop, arith}
use Rattle.std.specs.Prelude.{◌==◌, ◌&&◌, not, if◌then◌else◌, nat_lt, filter, count_by}
use Rattle.std.proofs.lemmas.Bool.{cases_Bool, and_parts, eq-eqb, eqb-true, ne_eqb}
use Rattle.std.proofs.lemmas.List.{length-take, length-drop}
use Rattle.std.proofs.lemmas.List.Sums.{sum_by-cons, sum_by-take-le}
use Rattle.std.proofs.Math.Bool.{and-false}
use Rattle.std.proofs.Math.Nat.{div-add-mod, eq-zero-or-pos, sub-le, zero-max, mod-lt, dvd-mod_iff, div-le_of_le-mul, mul-le-mul_right}
use Rattle.std.proofs.lemmas.Nat.Gcd.{dvd_of_mod-eq-zero, mod-eq-zero_of_dvd}
use Rattle.card_set.specs.declared.card.Card.{Card}
use Rattle.rulebook.proofs.Passing.{filter-always, filter-filter}
use Rattle.chip_race.specs.Races.{odd_value, odd_chips, SingleCard, cards_for, single_cards, ordered, players_in_order, removed_value, awarded_chips, winners, are_whole}
use Rattle.chip_race.specs.BestCards.{highest}
use Rattle.chip_race.proofs.Best.{odd_chips-le}
use Rattle.chip_race.proofs.BestPlayers.{Seated-single_cards}
use Rattle.chip_race.proofs.Scores.{score, strength, strength-some, score-ordered, score-append, score-cards_for, score-cards_for_other, card_score}
use Rattle.chip_race.proofs.Counts.{count_from, count_from-same, count_from-more, count_from-none}
use Rattle.chip_race.proofs.Order.{max-some, Seated, Seated-ordered}

left-out : (kept is_out : Bool) (top rest : ℕ) → (is_out ≡ true → kept ≡ false)
    → ((not is_out && kept) && nat_lt 0 rest) ≡ (kept && nat_lt 0 (max (if is_out then top else 0) rest))
left-out kept true top rest out = rw (out refl) refl
left-out true false top rest out = ap (nat_lt 0) (sym (zero-max rest))
left-out false false top rest out = refl

kept-on : (kept : Bool) (rest : ℕ) → (kept && nat_lt 0 (max 0 rest)) ≡ ((true && kept) && nat_lt 0 rest)
kept-on true rest = ap (nat_lt 0) (zero-max rest)
kept-on false rest = refl

-- Of the players who are kept, as many are in the order as have a card.
count-players : (singles : List SingleCard) (keep : ℕ → Bool) → Seated singles
    → length (filter keep (players_in_order singles))
    ≡ count_from 0 10 (λ player. keep player && nat_lt 0 (score singles player))
unfolding players_in_order
count-players [] keep seated =
    sym (count_from-none 0 10 (λ player. keep player && nat_lt 0 0) (λ player. and-false (keep player)))
count-players (single ∷ singles) keep seated =
    elim (cases_Bool (keep single.index)) [
      | inl kept ↦ rw kept (ap suc
          (further (count-players singles (λ player. not (player == single.index) && keep player) seated.1))
          ∙ sym (one_more kept))
      | inr left ↦ rw left (further
          (count-players singles (λ player. not (player == single.index) && keep player) seated.1) ∙ none_more left)
    ]
  where
    further : length (filter (λ player. not (player == single.index) && keep player) (players_in_order singles))
        ≡ count_from 0 10 (λ player. (not (player == single.index) && keep player) && nat_lt 0 (score singles player))
        → length (filter keep (filter (λ player. not (player == single.index)) (players_in_order singles)))
        ≡ count_from 0 10 (λ player. (not (player == single.index) && keep player) && nat_lt 0
        (score singles player))
    further counts = ap length (filter-filter (λ player. not (player == single.index)) keep
        (players_in_order singles)) ∙ counts

    one_more : keep single.index ≡ true
        → count_from 0 10 (λ player. keep player && nat_lt 0 (score (single ∷ singles) player))
        ≡ suc (count_from 0 10 (λ player. (not (player == single.index) && keep player) && nat_lt 0
        (score singles player)))
    one_more kept = count_from-more 0 10 single.index
        (λ player. keep player && nat_lt 0 (score (single ∷ singles) player))
        (λ player. (not (player == single.index) && keep player) && nat_lt 0 (score singles player))
        (omega arith) (let seat = seated.0 in omega (arith, seat))
        (let own : (single.index == single.index) ≡ true = eq-eqb single.index single.index refl in
        rw (kept, own) (max-some (strength single.card) (score singles single.index)
        (strength-some single.card)))
        (let own : (single.index == single.index) ≡ true = eq-eqb single.index single.index refl in rw own refl)
        (λ player apart. let test : (player == single.index) ≡ false = ne_eqb player single.index apart in
        rw test (kept-on (keep player) (score singles player)))

    none_more : keep single.index ≡ false
        → count_from 0 10 (λ player. (not (player == single.index) && keep player) && nat_lt 0 (score singles player))
        ≡ count_from 0 10 (λ player. keep player && nat_lt 0 (score (single ∷ singles) player))
    none_more left = count_from-same 0 10 (λ player. (not (player == single.index) && keep player) && nat_lt 0
        (score singles player)) (λ player. keep player && nat_lt 0 (score (single ∷ singles) player))
        (λ player low high. left-out (keep player) (player == single.index) (strength single.card)
        (score singles player) (λ is. ap keep (eqb-true player single.index is) ∙ left))

-- What is left of a whole number of chips of the old unit is one, too.
odd-whole : (old new stack : ℕ) → new % old ≡ 0 → stack % old ≡ 0 → (stack % new) % old ≡ 0
odd-whole old new stack multiple whole =
    mod-eq-zero_of_dvd old ((dvd-mod_iff old (dvd_of_mod-eq-zero old multiple)).1 (dvd_of_mod-eq-zero old whole))

odd-some : (old odd : ℕ) → 1 ≤ old → odd % old ≡ 0 → 1 ≤ odd → 1 ≤ odd / old
odd-some old odd unit whole some = (let parts = div-add-mod odd old in few (odd / old) (omega (arith, parts, whole)))
  where
    few : (n : ℕ) → 1 ≤ old * n → 1 ≤ n
    few zero le = omega arith
    few (suc n) le = omega arith

-- A player with an odd chip has a card, where there is one.
highest-some : (chips : ℕ) (cards : List Card) → 1 ≤ chips → 1 ≤ length cards
    → 1 ≤ card_score (highest (take chips cards))
highest-some zero cards some there = absurd (omega arith)
highest-some (suc chips) [] some there = absurd (omega arith)
highest-some (suc chips) (card ∷ cards) some there =
    let best = score-cards_for 0 (card ∷ take chips cards) in
    let own = strength-some card in
    at_least (strength card) (score (cards_for 0 (take chips cards)) 0)
    (card_score (highest (card ∷ take chips cards))) best own
  where
    at_least : (top rest best : ℕ) → max top rest ≡ best → 1 ≤ top → 1 ≤ best
    at_least top rest best is some = omega arith

-- A player's odd value is less than a chip of the new unit, and he has a card where he has one.
value-step : (old new index stack : ℕ) (stacks : List ℕ) (cards : List Card) → 1 ≤ old → 1 ≤ new → new % old ≡ 0
    → stack % old ≡ 0 → 1 ≤ length cards
    → odd_value new stack ≤ (new - 1) *
    (if nat_lt 0 (score (single_cards old new index (stack ∷ stacks) cards) index) then 1 else 0)
unfolding single_cards
value-step old new index stack stacks cards chip unit multiple whole there =
    elim (eq-zero-or-pos (stack % new)) [
      | inl none ↦ zero-within (stack % new) _ none
      | inr some ↦
          let chips = odd-some old (stack % new) chip (odd-whole old new stack multiple whole) some in
          let best = highest-some (odd_chips old new stack) cards chips there in
          let own = score-cards_for index (take (odd_chips old new stack) cards) in
          let all = score-append (cards_for index (take (odd_chips old new stack) cards))
          (single_cards old new (suc index) stacks (drop (odd_chips old new stack) cards)) index in
          let less : stack % new < new = mod-lt stack unit in
          rw all (counted (score (cards_for index (take (odd_chips old new stack) cards)) index)
          (score (single_cards old new (suc index) stacks (drop (odd_chips old new stack) cards)) index)
          (stack % new) new (omega (arith, own, best)) less)
    ]
  where
    zero-within : (a b : ℕ) → a ≡ 0 → a ≤ b
    zero-within a b none = omega arith

    counted : (own rest odd unit : ℕ) → 1 ≤ own → odd < unit
        → odd ≤ (unit - 1) * (if nat_lt 0 (max own rest) then 1 else 0)
    counted own rest odd unit some less = (let test : nat_lt 0 (max own rest) ≡ true = max-some own rest some in
        rw test (omega arith))

-- The odd values together are less than a chip for each player who has a card.
value-within : (old new index : ℕ) (stacks : List ℕ) (cards : List Card) → 1 ≤ old → 1 ≤ new → new ≤ 6 * old
    → new % old ≡ 0 → are_whole old stacks ≡ true → 5 * length stacks ≤ length cards
    → removed_value new stacks ≤ (new - 1) * count_from index (length stacks)
    (λ player. nat_lt 0 (score (single_cards old new index stacks cards) player))
unfolding single_cards
value-within old new index [] cards chip unit most multiple whole enough = omega arith
value-within old new index (stack ∷ stacks) cards chip unit most multiple whole enough =
    let parts = and_parts (stack % old == 0) (are_whole old stacks) whole in
    let here = value-step old new index stack stacks cards chip unit multiple (eqb-true (stack % old) 0 parts.0)
    (omega arith) in
    let few = odd_chips-le old new stack chip most unit in
    let size = length-drop (odd_chips old new stack) cards in
    let rest = value-within old new (suc index) stacks (drop (odd_chips old new stack) cards) chip unit most multiple
    parts.1 (omega (arith, few, size, enough)) in
    let counts = count_from-same (suc index) (length stacks)
    (λ player. nat_lt 0 (score (single_cards old new (suc index) stacks (drop (odd_chips old new stack) cards))
    player)) (λ player. nat_lt 0 (score (single_cards old new index (stack ∷ stacks) cards) player))
    (λ player low high. ap (nat_lt 0) (later player low)) in
    let all = sum_by-cons (odd_value new) stack stacks in
    together (odd_value new stack) (removed_value new stacks) (removed_value new (stack ∷ stacks))
    (new - 1) _ _ _ all here rest counts
  where
    together : (odd others whole unit own some all : ℕ) → whole ≡ odd + others → odd ≤ unit * own
        → others ≤ unit * some → some ≡ all → whole ≤ unit * (own + all)
    together odd others whole unit own some all is first second same = rw (is, ← same) (omega (arith, first, second))

    later : (player : ℕ) → suc index ≤ player
        → score (single_cards old new (suc index) stacks (drop (odd_chips old new stack) cards)) player
        ≡ score (single_cards old new index (stack ∷ stacks) cards) player
    later player low = sym (score-append (cards_for index (take (odd_chips old new stack) cards))
        (single_cards old new (suc index) stacks (drop (odd_chips old new stack) cards)) player
        ∙ ap (λ n. max n (score (single_cards old new (suc index) stacks (drop (odd_chips old new stack) cards))
        player)) (score-cards_for_other index player (take (odd_chips old new stack) cards)
        (λ same. absurd (omega arith)))
        ∙ zero-max (score (single_cards old new (suc index) stacks (drop (odd_chips old new stack) cards)) player))

-- There are as many winners as chips are awarded.
pub length-winners : (stacks : List ℕ) (cards : List Card) (old new : ℕ) → length stacks ≡ 10 → 50 ≤ length cards
    → 1 ≤ old → 1 ≤ new → new ≤ 6 * old → new % old ≡ 0 → are_whole old stacks ≡ true
    → length (winners old new (awarded_chips new stacks) stacks cards) ≡ awarded_chips new stacks
unfolding winners
length-winners stacks cards old new seats enough chip unit most multiple whole =
    let singles = single_cards old new 0 stacks cards in
    let within = value-within old new 0 stacks cards chip unit most multiple whole (omega arith) in
    let players : length (players_in_order (ordered singles))
    ≡ count_from 0 10 (λ player. nat_lt 0 (score singles player)) =
    ap length (sym (filter-always (λ player. true) (players_in_order (ordered singles)) (λ player. refl)))
    ∙ count-players (ordered singles) (λ player. true)
    (Seated-ordered singles (Seated-single_cards old new 0 stacks cards (omega arith)))
    ∙ count-from_ordered singles in
    let count = ap (λ n. count_from 0 n (λ player. nat_lt 0 (score singles player))) seats in
    let size = length-take (awarded_chips new stacks) (players_in_order (ordered singles)) in
    few (removed_value new stacks) new (length (players_in_order (ordered singles)))
    (length (take (awarded_chips new stacks) (players_in_order (ordered singles))))
    (count_from 0 (length stacks) (λ player. nat_lt 0 (score singles player)))
    (count_from 0 10 (λ player. nat_lt 0 (score singles player))) unit within count players size
  where
    count-from_ordered : (list : List SingleCard) → count_from 0 10 (λ player. nat_lt 0 (score (ordered list) player))
        ≡ count_from 0 10 (λ player. nat_lt 0 (score list player))
    count-from_ordered list = count_from-same 0 10 (λ player. nat_lt 0 (score (ordered list) player))
        (λ player. nat_lt 0 (score list player)) (λ player low high. ap (nat_lt 0) (score-ordered list player))

    less : (removed unit count : ℕ) → 1 ≤ unit → removed ≤ (unit - 1) * count → removed ≤ unit * count
    less removed unit count some within = (let more = mul-le-mul_right count (sub-le unit 1) in
        omega (arith, within, more))

    bound : (removed unit count : ℕ) → 1 ≤ unit → removed ≤ (unit - 1) * count → removed / unit ≤ count
    bound removed unit count some within = div-le_of_le-mul unit (less removed unit count some within)

    few : (removed unit players taken count all : ℕ) → 1 ≤ unit → removed ≤ (unit - 1) * count → count ≡ all → players
        ≡ all → taken ≡ min (removed / unit) players → taken ≡ removed / unit
    few removed unit players taken count all some within same is size =
        (let enough = bound removed unit count some within in omega (arith, enough, same, is, size))

filtered-none : (out : ℕ) (items : List ℕ) → count_by (λ item. item == out) (filter (λ item. not (item == out)) items)
    ≡ 0
filtered-none out [] = refl
filtered-none out (item ∷ items) =
    elim (cases_Bool (item == out)) [
      | inl same ↦ rw same (filtered-none out items)
      | inr differs ↦
          let all = sum_by-cons (λ (n : ℕ). if n == out then 1 else 0) item (filter (λ n. not (n == out)) items) in
          let own : ◌≡◌ {A = ℕ} (if item == out then 1 else 0) 0 = rw differs refl in
          let rest = filtered-none out items in
          rw differs (omega (arith, all, own, rest))
    ]

filtered-le : (out player : ℕ) (items : List ℕ) → count_by (λ item. item == player)
    (filter (λ item. not (item == out)) items) ≤ count_by (λ item. item == player) items
filtered-le out player [] = omega arith
filtered-le out player (item ∷ items) =
    let rest = filtered-le out player items in
    let all = sum_by-cons (λ (n : ℕ). if n == player then 1 else 0) item items in
    elim (cases_Bool (item == out)) [
      | inl same ↦ rw same (omega (arith, rest, all))
      | inr differs ↦ rw differs (let fewer = sum_by-cons (λ (n : ℕ). if n == player then 1 else 0) item
          (filter (λ n. not (n == out)) items) in omega (arith, rest, all, fewer))
    ]

once : (singles : List SingleCard) (player : ℕ) → count_by (λ item. item == player) (players_in_order singles) ≤ 1
unfolding players_in_order
once [] player = omega arith
once (single ∷ singles) player =
    let all = sum_by-cons (λ (n : ℕ). if n == player then 1 else 0) single.index
    (filter (λ n. not (n == single.index)) (players_in_order singles)) in
    elim (cases_Bool (single.index == player)) [
      | inl same ↦
          let own : ◌≡◌ {A = ℕ} (if single.index == player then 1 else 0) 1 = rw same refl in
          let none : count_by (λ item. item == player)
          (filter (λ n. not (n == single.index)) (players_in_order singles)) ≡ 0 =
          ap (λ n. count_by (λ item. item == n)
          (filter (λ item. not (item == single.index)) (players_in_order singles)))
          (sym (eqb-true single.index player same)) ∙ filtered-none single.index (players_in_order singles) in
          omega (arith, all, own, none)
      | inr differs ↦
          let own : ◌≡◌ {A = ℕ} (if single.index == player then 1 else 0) 0 = rw differs refl in
          let rest = once singles player in
          let fewer = filtered-le single.index player (players_in_order singles) in
          omega (arith, all, own, rest, fewer)
    ]

-- No player wins two chips.
pub winners-once : (stacks : List ℕ) (cards : List Card) (old new chips player : ℕ)
    → count_by (λ winner. winner == player) (winners old new chips stacks cards) ≤ 1
unfolding winners
winners-once stacks cards old new chips player =
    let some = sum_by-take-le (λ (n : ℕ). if n == player then 1 else 0)
    (players_in_order (ordered (single_cards old new 0 stacks cards))) chips in
    let all = once (ordered (single_cards old new 0 stacks cards)) player in
    omega (arith, some, all)
