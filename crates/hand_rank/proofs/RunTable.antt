-- The highest run from bits, computed over all sets of ranks.
use Rattle.std.proofs.Common.{◌≡◌, ℕ, ◌-◌, ◌*◌, ◌/◌, ◌%◌, ◌^◌, ◌<◌, ◌≤◌, ◌⊎◌, inl, inr, Bool, true, false, eqb, leb, cond, List, [], ◌∷◌, Some, None, refl, sym, ap, ◌∙◌, leb-true, arith}
use Rattle.std.specs.Prelude.{Option, bit_and, bit_or}
use Rattle.std.specs.Int.Count.{count_leading_zeros}
use Rattle.std.proofs.lemmas.Nat.{and_le_r, or_lt}
use Rattle.std.proofs.lemmas.Nat.Bits.{bit_at_above}
use Rattle.std.proofs.lemmas.Bool.{agree_below, agree_below_at}
use Rattle.std.proofs.lemmas.Bool.Decides.{nat_tests}
use Rattle.std.specs.List.{slice_index_or}
use Rattle.card_set.proofs.Computed.{all_below, are_same, holds_below, same-is}
use Rattle.hand_rank.specs.Runs.{highest_run, is_near}
use Rattle.hand_rank.specs.Sets.{has_rank, HasRanks}
use Rattle.hand_rank.proofs.RunLaws.{run-same, occurring}
use Rattle.hand_rank.proofs.SetLaws.{top-within}

-- the steps of runs are the ranks of a set, and the ace is a step below the two as well
unfoldable pub steps_of : ℕ → ℕ
steps_of bits = bit_or bits (bit_and (bits / 8192) 2)

-- a run is marked at the lowest of five steps in a row that are all held
unfoldable pub runs_of : ℕ → ℕ
runs_of m = bit_and (bit_and (bit_and (bit_and m (m / 2)) (m / 4)) (m / 8)) (m / 16)

-- the top of the highest run as it is computed
unfoldable run_by_bits : ℕ → Option ℕ
unfolding steps_of runs_of
run_by_bits bits = let runs = runs_of (steps_of bits) in
    cond (eqb runs 0) None (Some (19 - count_leading_zeros 16 runs))

run_test : ℕ → Bool
unfolding run_by_bits are_same
run_test k = are_same (run_by_bits (4 * k)) (highest_run (has_rank (4 * k)))

all_runs : all_below run_test 8192 ≡ true
unfolding all_below run_test run_by_bits are_same highest_run steps_of runs_of count_leading_zeros
all_runs = refl

run_by_bits-is : (bits k : ℕ) → bits ≡ 4 * k → k < 8192 → run_by_bits bits ≡ highest_run (has_rank bits)
unfolding run_test
run_by_bits-is bits k same below =
    rw same (same-is _ _ (holds_below run_test 8192 k all_runs below))

-- a set with no rank below 2 and none from 15 on
bits_of_ranks : (bits : ℕ) → bits < 2 ^ 16 → has_rank bits 0 ≡ false → has_rank bits 1 ≡ false
    → has_rank bits 15 ≡ false → (k : ℕ) × (k < 8192) × (bits ≡ 4 * k)
bits_of_ranks bits fits none one high =
    let a : bits / 2 ^ 0 % 2 ≡ 0 = odd_no (bits / 2 ^ 0) none in
    let b : bits / 2 ^ 1 % 2 ≡ 0 = odd_no (bits / 2 ^ 1) one in
    let c : bits / 2 ^ 15 % 2 ≡ 0 = odd_no (bits / 2 ^ 15) high in
    (bits / 4, omega arith, omega arith)
  where
    odd_no : (n : ℕ) → eqb (n % 2) 1 ≡ false → n % 2 ≡ 0
    odd_no n even = grind (arith, nat_tests)

rank-free : (bits r : ℕ) (count : ℕ → ℕ) → r < 16 → HasRanks bits 1 count → (15 ≤ r) ⊎ (r < 2) → has_rank bits r ≡ false
rank-free bits r count within has out = has.at r within ∙ ap (leb 1) (has.only r out)

held_ranks : (bits : ℕ) (count : ℕ → ℕ) → bits < 2 ^ 16 → HasRanks bits 1 count → (r : ℕ)
    → has_rank bits r ≡ leb 1 (count r)
held_ranks bits count fits has r =
    elim (leb 16 r) as (λ b. leb 16 r ≡ b → has_rank bits r ≡ leb 1 (count r)) [
      | true ↦ λ high.
          let up : 16 ≤ r = leb-true 16 r high in
          ap (λ b. eqb b 1) (bit_at_above bits 16 r fits up) ∙ ap (leb 1) (sym (has.only r (inl (omega arith))))
      | false ↦ λ low. has.at r (grind (arith, nat_tests))
    ] refl

run-of_bits : (bits : ℕ) (count : ℕ → ℕ) → bits < 2 ^ 16 → HasRanks bits 1 count
    → run_by_bits bits ≡ highest_run (occurring count)
run-of_bits bits count fits has =
    let four = bits_of_ranks bits fits (rank-free bits 0 count (omega arith) has (inr (omega arith)))
    (rank-free bits 1 count (omega arith) has (inr (omega arith)))
    (rank-free bits 15 count (omega arith) has (inl (omega arith))) in
    run_by_bits-is bits four.0 four.2 four.1
    ∙ run-same (has_rank bits) (occurring count) (held_ranks bits count fits has)

-- where no steps run, there is no run
pub run-none : (bits : ℕ) (count : ℕ → ℕ) → bits < 2 ^ 16 → HasRanks bits 1 count → runs_of (steps_of bits) ≡ 0
    → None ≡ highest_run (occurring count)
unfolding run_by_bits
run-none bits count fits has none = rw none at (run-of_bits bits count fits has)

-- and else the highest step that does is its top
pub run-some : (bits : ℕ) (count : ℕ → ℕ) → bits < 2 ^ 16 → HasRanks bits 1 count → (runs_of (steps_of bits) ≡ 0 → ⊥)
    → Some (19 - count_leading_zeros 16 (runs_of (steps_of bits))) ≡ highest_run (occurring count)
unfolding run_by_bits
run-some bits count fits has some =
    let other : eqb (runs_of (steps_of bits)) 0 ≡ false = grind (arith, nat_tests) in
    rw other at (run-of_bits bits count fits has)

-- the top of a run is a rank
pub run-within : (bits : ℕ) → bits < 2 ^ 16 → (runs_of (steps_of bits) ≡ 0 → ⊥)
    → 19 - count_leading_zeros 16 (runs_of (steps_of bits)) < 16
unfolding runs_of steps_of
run-within bits fits some =
    let steps = steps_of bits in
    let low = and_le_r (bits / 8192) 2 in
    let within : steps < 2 ^ 16 = or_lt 16 bits (bit_and (bits / 8192) 2) fits (omega arith) in
    let less = and_le_r (bit_and (bit_and (bit_and steps (steps / 2)) (steps / 4)) (steps / 8)) (steps / 16) in
    top-within (runs_of steps) some (omega arith)

-- the ranks that are near each other
abbrev near_table : List ℕ
near_table = 0 ∷ 0 ∷ 16508 ∷ 16636 ∷ 16892 ∷ 17404 ∷ 2044 ∷ 4088 ∷ 8176 ∷ 16352 ∷ 32704 ∷ 32640 ∷ 32512 ∷ 32256
    ∷ 31804 ∷ 0 ∷ []

near_test : ℕ → Bool
near_test rank = agree_below (has_rank (slice_index_or near_table rank 0)) (is_near rank) 16

all_near : all_below near_test 16 ≡ true
unfolding all_below near_test is_near
all_near = refl

-- the table has at each rank those that are near it
pub near-ranks : (rank r : ℕ) → rank < 16 → r < 16 → has_rank (slice_index_or near_table rank 0) r ≡ is_near rank r
unfolding near_test
near-ranks rank r below under =
    agree_below_at (has_rank (slice_index_or near_table rank 0)) (is_near rank) 16 r
    (holds_below near_test 16 rank all_near below) under
