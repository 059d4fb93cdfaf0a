-- What holds of the stacks after every race.
use Rattle.std.proofs.Common.{◌≡◌, ◌∙◌, ap, ℕ, ◌+◌, ◌<◌, ◌≤◌, inl, inr, true, false, List, length, get_or, arith}
use Rattle.std.specs.Prelude.{sum}
use Rattle.card_set.specs.declared.card.Card.{Card}
use Rattle.card_set.specs.Decks.{IsDeck}
use Rattle.chip_race.specs.Races.{odd_value, given_value, stack_after, awarded_chips, winners, is_among, are_whole, race_result}
use Rattle.chip_race.proofs.BestPlayers.{winners-empty}
use Rattle.chip_race.proofs.Given.{odd-within, given-empty, given-one_or_none, stack_after-some}
use Rattle.chip_race.proofs.Seats.{stacks_after-at, stacks_after-sum, stacks_after-whole}

-- The stack at a seat after the race.
after_at : (stacks : List ℕ) (cards : List Card) (old new index : ℕ) → index < length stacks
    → get_or (race_result stacks old new cards).stacks index 0
    ≡ stack_after new (is_among (winners old new (awarded_chips new stacks) stacks cards) index)
    (get_or stacks index 0)
unfolding race_result
after_at stacks cards old new index within =
    stacks_after-at new (winners old new (awarded_chips new stacks) stacks cards) 0 stacks index within
    ∙ ap (λ n. stack_after new (is_among (winners old new (awarded_chips new stacks) stacks cards) n)
    (get_or stacks index 0)) (omega arith)

-- Who had a stack has one.
pub stays_in : (stacks : List ℕ) (cards : List Card) (old new index : ℕ) → 1 ≤ new → index < length stacks
    → 0 < get_or stacks index 0 → 0 < get_or (race_result stacks old new cards).stacks index 0
stays_in stacks cards old new index unit within some =
    rw (after_at stacks cards old new index within)
    (stack_after-some new (is_among (winners old new (awarded_chips new stacks) stacks cards) index)
    (get_or stacks index 0) unit some)

-- An empty seat stays empty.
pub stays_empty : (stacks : List ℕ) (cards : List Card) (old new index : ℕ) → 1 ≤ old → 1 ≤ new → length stacks ≡ 10
    → IsDeck cards → index < 10
    → get_or stacks index 0 ≡ 0 → get_or (race_result stacks old new cards).stacks index 0 ≡ 0
stays_empty stacks cards old new index chip unit seats deck within empty =
    after_at stacks cards old new index (omega arith)
    ∙ ap (λ won. stack_after new won (get_or stacks index 0))
    (winners-empty old new (awarded_chips new stacks) stacks cards index seats deck within chip unit empty)
    ∙ ap (stack_after new false) empty ∙ nothing (given-empty new unit)
  where
    nothing : given_value new false 0 ≡ 0 → stack_after new false 0 ≡ 0
    nothing none = omega (arith, none)

-- Nobody loses more than his odd chips.
pub loses_odd_chips : (stacks : List ℕ) (cards : List Card) (old new index : ℕ) → index < length stacks
    → get_or stacks index 0 ≤ get_or (race_result stacks old new cards).stacks index 0 + odd_value new
    (get_or stacks index 0)
loses_odd_chips stacks cards old new index within =
    let after = after_at stacks cards old new index within in
    let odd = odd-within new (get_or stacks index 0) in
    omega (arith, after, odd)

-- Nobody gets more than one chip of the new unit.
pub gets_one_chip : (stacks : List ℕ) (cards : List Card) (old new index : ℕ) → 1 ≤ new → index < length stacks
    → get_or (race_result stacks old new cards).stacks index 0 + odd_value new (get_or stacks index 0)
    ≤ get_or stacks index 0 + new
gets_one_chip stacks cards old new index unit within =
    let after = after_at stacks cards old new index within in
    let odd = odd-within new (get_or stacks index 0) in
    elim (given-one_or_none new (is_among (winners old new (awarded_chips new stacks) stacks cards) index)
    (get_or stacks index 0) unit) [
      | inl none ↦ omega (arith, after, odd, none)
      | inr one ↦ omega (arith, after, odd, one)
    ]

-- The chips change by what is removed and added.
pub chips_change : (stacks : List ℕ) (cards : List Card) (old new : ℕ)
    → sum (race_result stacks old new cards).stacks + (race_result stacks old new cards).removed
    ≡ sum stacks + (race_result stacks old new cards).added
unfolding race_result
chips_change stacks cards old new =
    stacks_after-sum new (winners old new (awarded_chips new stacks) stacks cards) 0 stacks

-- All stacks are whole chips of the new unit.
pub whole_chips : (stacks : List ℕ) (cards : List Card) (old new : ℕ) → 1 ≤ new
    → are_whole new (race_result stacks old new cards).stacks ≡ true
unfolding race_result
whole_chips stacks cards old new unit =
    stacks_after-whole new (winners old new (awarded_chips new stacks) stacks cards) 0 stacks unit
