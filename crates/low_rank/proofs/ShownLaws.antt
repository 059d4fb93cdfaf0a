-- The best low in Omaha is that of the five least ranks of those that can be shown.
use Rattle.std.proofs.Common.{◌≡◌, ℕ, ◌+◌, ◌-◌, ◌<◌, ◌≤◌, Bool, true, false, ◌&&◌, ◌||◌, not, cond, eqb, leb, ltb, List, ◌++◌, length, min, refl, sym, ap, ap₂, ◌∙◌, subst, eqb-true, leb-true, le-leb, arith, length-append}
use Rattle.std.specs.Prelude.{map, Option, Some, None, if◌then◌else◌}
use Rattle.std.specs.List.{list_any}
use Rattle.std.proofs.lemmas.List.{map-append}
use Rattle.std.proofs.lemmas.List.Folds.{list_any-append}
use Rattle.std.proofs.Math.Bool.{or-true}
use Rattle.std.proofs.lemmas.Bool.{and_parts, not-true}
use Rattle.card_set.specs.declared.card.Card.{Card}
use Rattle.card_choices.specs.Choices.{choices, omaha_choices}
use Rattle.card_choices.proofs.ListOrder.{Upto, upto_itself}
use Rattle.rulebook.proofs.Sides.{first_alone, others_alone}
use Rattle.low_rank.specs.Lows.{low_rank, low_value, best_low_of}
use Rattle.low_rank.specs.LowRanks.{has_low, count_below, least, falling, five_least, alone, shown}
use Rattle.low_rank.proofs.CountLaws.{count-same, count-within, count-two, count-parts, count-lower, count-least, counts-upto, falling-same, low-many, low_value-counts, low_value-whole}
use Rattle.low_rank.proofs.LowLaws.{IsNoWorse, best_by, best-omaha, no_worse-none, no_worse-upto, no_worse-same}
use Rattle.low_rank.proofs.ChoiceLaws.{AreAmong, choices-bound, choices-reach}

-- the ranks that pass both tests
abbrev within : (ℕ → Bool) → (ℕ → Bool) → ℕ → Bool
within low mine rank = low rank && mine rank

-- five ranks can be shown of those of a hole and of a board: two at most of the hole alone, and three of the board
record CanBeShown (hole board low : ℕ → Bool) : Type 0 where
  held : (rank : ℕ) → low rank ≡ true → (hole rank || board rank) ≡ true
  of_hole : count_below (within low (alone hole board)) 9 ≤ 2
  of_board : count_below (within low (alone board hole)) 9 ≤ 3
  five : count_below low 9 ≡ 5

-- the ranks of a low are of the hole alone, of the board alone, or of both
low-parts : (hole board low : ℕ → Bool) (n : ℕ)
    → ((rank : ℕ) → low rank ≡ true → (hole rank || board rank) ≡ true)
    → count_below low n ≡ count_below (within low (alone hole board)) n
    + (count_below (within low (alone board hole)) n + count_below (within low (within hole board)) n)
low-parts hole board low n held =
    count-parts low _ _ _ n (λ rank. parts (low rank) (hole rank) (board rank) (held rank))
  where
    parts : (low hole board : Bool) → (low ≡ true → (hole || board) ≡ true)
        → cond low 1 0
        ≡ cond (low && (hole && not board)) 1 0
        + (cond (low && (board && not hole)) 1 0 + cond (low && (hole && board)) 1 0)
    parts false hole board held = refl
    parts true true true held = refl
    parts true true false held = refl
    parts true false true held = refl
    parts true false false held = let no_rank = held refl in absurd cc

-- what can be shown is of the hole alone, two at most, of the board alone, three at most, or of both
shown-parts : (hole board : ℕ → Bool) (n : ℕ)
    → count_below (shown hole board) n ≡ min 2 (count_below (alone hole board) n)
    + (min 3 (count_below (alone board hole) n) + count_below (within hole board) n)
unfolding shown least
shown-parts hole board n =
    let of_hole = count-least 2 (alone hole board) n in
    let of_board = count-least 3 (alone board hole) n in
    let all = count-parts (shown hole board) (least 2 (alone hole board)) (least 3 (alone board hole))
    (within hole board) n (λ rank. parts (hole rank) (board rank) _ _) in
    omega (arith, all, of_hole, of_board)
  where
    parts : (hole board two three : Bool)
        → cond ((hole && not board && two) || (board && not hole && three) || (hole && board)) 1 0
        ≡ cond (hole && not board && two) 1 0 + (cond (board && not hole && three) 1 0 + cond (hole && board) 1 0)
    parts true true two three = refl
    parts false false two three = refl
    parts true false true three = refl
    parts true false false three = refl
    parts false true two true = refl
    parts false true two false = refl

-- a pair and three cards have the low ranks of either
low-joined : (pair three : List Card) (rank : ℕ)
    → has_low (pair ++ three) rank ≡ (has_low pair rank || has_low three rank)
low-joined pair three rank =
    ap (list_any (λ other. eqb other rank)) (map-append low_rank pair three)
    ∙ list_any-append (λ other. eqb other rank) (map low_rank pair) (map low_rank three)

-- two cards of the hole and three of the board with five low ranks: these can be shown
choice-shown : (hole board pair three : List Card) → AreAmong pair hole → AreAmong three board → length pair ≡ 2
    → length three ≡ 3 → count_below (has_low (pair ++ three)) 9 ≡ 5
    → CanBeShown (has_low hole) (has_low board) (has_low (pair ++ three))
choice-shown hole board pair three in_hole on_board two many whole =
    let of_hole = count-within (within (has_low (pair ++ three)) (alone (has_low hole) (has_low board)))
    (has_low pair) 9 (λ rank below is.
    let all = and_parts (has_low (pair ++ three) rank) (has_low hole rank && not (has_low board rank)) is in
    first_alone (has_low pair rank) (has_low three rank) (sym (low-joined pair three rank) ∙ all.0)
    (off (has_low three rank) (has_low board rank) (on_board rank) (and_parts (has_low hole rank) _ all.1).1)) in
    let of_board = count-within (within (has_low (pair ++ three)) (alone (has_low board) (has_low hole)))
    (has_low three) 9 (λ rank below is.
    let all = and_parts (has_low (pair ++ three) rank) (has_low board rank && not (has_low hole rank)) is in
    others_alone (has_low pair rank) (has_low three rank) (sym (low-joined pair three rank) ∙ all.0)
    (off (has_low pair rank) (has_low hole rank) (in_hole rank) (and_parts (has_low board rank) _ all.1).1)) in
    let pairs = low-many pair in
    let threes = low-many three in
    record {
      held = λ rank is. held (has_low pair rank) (has_low three rank) _ _ (in_hole rank) (on_board rank)
          (sym (low-joined pair three rank) ∙ is);
      of_hole = omega (arith, of_hole, pairs.0);
      of_board = omega (arith, of_board, threes.0);
      five = whole;
    }
  where
    off : (some all : Bool) → (some ≡ true → all ≡ true) → not all ≡ true → some ≡ false
    off true all among out = sym (among refl) ∙ not-true all out
    off false all among out = refl

    held : (pair three hole board : Bool) → (pair ≡ true → hole ≡ true) → (three ≡ true → board ≡ true)
        → (pair || three) ≡ true → (hole || board) ≡ true
    held true three hole board in_hole on_board is = ap (λ b. b || board) (in_hole refl)
    held false three hole board in_hole on_board is = ap (λ b. hole || b) (on_board is) ∙ or-true hole

-- of what can be shown the five least come no later
least-shown : (hole board low : ℕ → Bool) → CanBeShown hole board low
    → (leb 5 (count_below (shown hole board) 9) ≡ true)
    × Upto (falling (least 5 (shown hole board)) 9) (falling low 9)
least-shown hole board low shows =
    let fewer : (n : ℕ) → n ≤ 9 → count_below low n ≤ min 5 (count_below (shown hole board) n) = λ n upto.
    let parts = low-parts hole board low n shows.held in
    let all = shown-parts hole board n in
    let behind : (mine : ℕ → Bool) → count_below (within low mine) n ≤ count_below mine n =
    λ mine. count-within (within low mine) mine n (λ rank below is. (and_parts (low rank) _ is).1) in
    let one = behind (alone hole board) in
    let other = behind (alone board hole) in
    let both = behind (within hole board) in
    let two = count-lower (within low (alone hole board)) n 9 upto in
    let three = count-lower (within low (alone board hole)) n 9 upto in
    let five = count-lower low n 9 upto in
    omega (arith, parts, all, one, other, both, two, three, five, shows.of_hole, shows.of_board, shows.five) in
    let last = fewer 9 (omega arith) in
    let whole = count-least 5 (shown hole board) 9 in
    let five = shows.five in (
      le-leb 5 (count_below (shown hole board) 9) (omega arith),
      counts-upto (least 5 (shown hole board)) low 9
          (λ rank upto. rw (count-least 5 (shown hole board) rank) (fewer rank upto)) (omega arith),
    )

-- and they can be shown themselves, where there are five
shown-shown : (hole board : ℕ → Bool) → leb 5 (count_below (shown hole board) 9) ≡ true
    → CanBeShown hole board (least 5 (shown hole board))
unfolding least shown
shown-shown hole board enough =
    let some : (rank : ℕ) → least 5 (shown hole board) rank ≡ true → shown hole board rank ≡ true =
    λ rank is. (and_parts (shown hole board rank) _ is).0 in
    let of_hole = count-within (within (least 5 (shown hole board)) (alone hole board)) (least 2 (alone hole board)) 9
    (λ rank below is. let all = and_parts (least 5 (shown hole board) rank) _ is in
    hole_alone (hole rank) (board rank) _ _ (some rank all.0) all.1) in
    let of_board = count-within (within (least 5 (shown hole board)) (alone board hole)) (least 3 (alone board hole)) 9
    (λ rank below is. let all = and_parts (least 5 (shown hole board) rank) _ is in
    board_alone (hole rank) (board rank) _ _ (some rank all.0) all.1) in
    let two = count-least 2 (alone hole board) 9 in
    let three = count-least 3 (alone board hole) 9 in
    let five = count-least 5 (shown hole board) 9 in
    let more = leb-true 5 (count_below (shown hole board) 9) enough in
    record {
      held = λ rank is. held (hole rank) (board rank) _ _ (some rank is);
      of_hole = omega (arith, of_hole, two);
      of_board = omega (arith, of_board, three);
      five = omega (arith, five, more);
    }
  where
    held : (hole board two three : Bool)
        → ((hole && not board && two) || (board && not hole && three) || (hole && board)) ≡ true
        → (hole || board) ≡ true
    held true board two three is = refl
    held false true two three is = refl
    held false false two three is = is

    hole_alone : (hole board two three : Bool)
        → ((hole && not board && two) || (board && not hole && three) || (hole && board)) ≡ true
        → (hole && not board) ≡ true → (hole && not board && two) ≡ true
    hole_alone true true two three is only = only
    hole_alone true false true three is only = refl
    hole_alone true false false three is only = is
    hole_alone false board two three is only = only

    board_alone : (hole board two three : Bool)
        → ((hole && not board && two) || (board && not hole && three) || (hole && board)) ≡ true
        → (board && not hole) ≡ true → (board && not hole && three) ≡ true
    board_alone true true two three is only = only
    board_alone true false two three is only = only
    board_alone false true two true is only = refl
    board_alone false true two false is only = is
    board_alone false false two three is only = only

-- what can be shown is the low of some choice, so the best low is no worse
low-reached : (hole board : List Card) (low : ℕ → Bool) → CanBeShown (has_low hole) (has_low board) low
    → IsNoWorse (best_low_of (omaha_choices hole board)) (Some (falling low 9))
unfolding least
low-reached hole board low shows =
    let only : ℕ → Bool = within low (alone (has_low hole) (has_low board)) in
    let both : ℕ → Bool = within low (within (has_low hole) (has_low board)) in
    let spare = 2 - count_below only 9 in
    let mine : ℕ → Bool =
    λ rank. has_low hole rank && (not (has_low board rank) || ltb (count_below both rank) spare) in
    let ours = count-two (within low mine) only (least spare both) 9
    (λ rank. split (low rank) (has_low hole rank) (has_low board rank) _) in
    let all = count-two low (within low mine) (alone low mine) 9 (λ rank. halves (low rank) (mine rank)) in
    let parts = low-parts (has_low hole) (has_low board) low 9 shows.held in
    let some = count-least spare both 9 in
    let two : count_below (within low mine) 9 ≡ 2 =
    omega (arith, ours, parts, some, shows.of_hole, shows.of_board, shows.five) in
    let three : count_below (alone low mine) 9 ≡ 3 = omega (arith, all, two, shows.five) in
    subst (λ best. IsNoWorse best (Some (falling low 9))) (sym (best-omaha hole board))
    (choices-reach (λ pair. best_by (λ three. low_value (pair ++ three)) (choices 3 board)) 2 hole
    (within low mine) (Some (falling low 9)) two
    (λ rank below is. (and_parts (has_low hole rank) _ (and_parts (low rank) (mine rank) is).1).0)
    (λ pair few of_hole. choices-reach (λ three. low_value (pair ++ three)) 3 board (alone low mine)
    (Some (falling low 9)) three
    (λ rank below is. let parts = and_parts (low rank) (not (mine rank)) is in
    rest (has_low hole rank) (has_low board rank) _ (shows.held rank parts.0) parts.1)
    (λ three many of_board.
    let same : (rank : ℕ) → rank < 9 → has_low (pair ++ three) rank ≡ low rank = λ rank below.
    low-joined pair three rank ∙ ap₂ (λ one other. one || other) (of_hole rank below) (of_board rank below)
    ∙ joined (low rank) (mine rank) in
    let whole = count-same (has_low (pair ++ three)) low 9 same ∙ shows.five in
    let long = length-append pair three in
    let value : low_value (pair ++ three) ≡ Some (falling low 9) =
    low_value-whole (pair ++ three) (omega arith) ∙ ap Some (falling-same _ low 9 same) in
    subst (λ best. IsNoWorse best (Some (falling low 9))) (sym value)
    (no_worse-upto (falling low 9) (falling low 9) (upto_itself (falling low 9))))))
  where
    split : (low hole board least : Bool)
        → cond (low && (hole && (not board || least))) 1 0
        ≡ cond (low && (hole && not board)) 1 0 + cond ((low && (hole && board)) && least) 1 0
    split false hole board least = refl
    split true false board least = refl
    split true true false least = refl
    split true true true true = refl
    split true true true false = refl

    halves : (low mine : Bool) → cond low 1 0 ≡ cond (low && mine) 1 0 + cond (low && not mine) 1 0
    halves false mine = refl
    halves true true = refl
    halves true false = refl

    rest : (hole board least : Bool) → (hole || board) ≡ true → not (hole && (not board || least)) ≡ true
        → board ≡ true
    rest hole true least held others = refl
    rest true false least held others = others
    rest false false least held others = held

    joined : (low mine : Bool) → ((low && mine) || (low && not mine)) ≡ low
    joined false mine = refl
    joined true true = refl
    joined true false = refl

-- the best low in Omaha is that of the five least ranks that can be shown
pub best-shown : (hole board : List Card)
    → best_low_of (omaha_choices hole board) ≡ five_least (shown (has_low hole) (has_low board))
unfolding five_least
best-shown hole board =
    let best = best_low_of (omaha_choices hole board) in
    let ranks = shown (has_low hole) (has_low board) in
    let low : Option (List ℕ) = if leb 5 (count_below ranks 9) then Some (falling (least 5 ranks) 9) else None in
    no_worse-same best low
    (elim (leb 5 (count_below ranks 9)) as (λ b. leb 5 (count_below ranks 9) ≡ b → IsNoWorse best
    (if b then Some (falling (least 5 ranks) 9) else None)) [
      | true ↦ λ enough. low-reached hole board (least 5 ranks) (shown-shown (has_low hole) (has_low board) enough)
      | false ↦ λ few. no_worse-none best
    ] refl)
    (subst (IsNoWorse low) (sym (best-omaha hole board))
    (choices-bound (λ pair. best_by (λ three. low_value (pair ++ three)) (choices 3 board)) 2 hole low
    (λ pair in_hole two. choices-bound (λ three. low_value (pair ++ three)) 3 board low (λ three on_board many.
    subst (IsNoWorse low) (sym (low_value-counts (pair ++ three)))
    (elim (eqb (count_below (has_low (pair ++ three)) 9) (length (pair ++ three))) as
    (λ b. eqb (count_below (has_low (pair ++ three)) 9) (length (pair ++ three)) ≡ b → IsNoWorse low
    (if b then Some (falling (has_low (pair ++ three)) 9) else None)) [
      | true ↦ λ whole.
          let same = eqb-true (count_below (has_low (pair ++ three)) 9) (length (pair ++ three)) whole in
          let long = length-append pair three in
          let is = least-shown (has_low hole) (has_low board) (has_low (pair ++ three))
          (choice-shown hole board pair three in_hole on_board two many (omega arith)) in
          rw is.0 (no_worse-upto _ _ is.1)
      | false ↦ λ part. no_worse-none low
    ] refl)))))
