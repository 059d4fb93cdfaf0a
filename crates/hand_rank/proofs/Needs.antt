-- The cards that ranks need which occur so often, and that some five cards have them.
use Rattle.std.proofs.Common.{◌≡◌, ℕ, zero, suc, ◌+◌, ◌<◌, ◌≤◌, ◌⊎◌, inl, inr, true, false, cond, eqb, List, [], ◌∷◌, length, refl, zero-le, eqb-true, arith}
use Rattle.std.proofs.lemmas.Bool.Decides.{nat_tests}
use Rattle.rulebook.proofs.Tests.{count_by-cons}
use Rattle.hand_rank.specs.Picks.{without}
use Rattle.hand_rank.proofs.Chosen.{occurs}
use Rattle.hand_rank.proofs.PickLaws.{Has, without-other}
use Rattle.hand_rank.proofs.Sections.{total, total-without, added}

-- a rank so many times, before other ranks
unfoldable pub times : ℕ → ℕ → List ℕ → List ℕ
times zero r more = more
times (suc n) r more = r ∷ times n r more

-- a rank put so many times before other ranks makes the list longer by that number
pub length-times : (n r : ℕ) (more : List ℕ) → length (times n r more) ≡ n + length more
unfolding times
length-times zero r more = omega arith
length-times (suc n) r more = let later = length-times n r more in omega arith

-- a rank put so many times before other ranks occurs that many times more, and no other rank does
pub occurs-times : (n r : ℕ) (more : List ℕ) (s : ℕ) → occurs (times n r more) s ≡ cond (eqb r s) n 0 + occurs more s
unfolding times
occurs-times zero r more s = grind arith
occurs-times (suc n) r more s =
    let later = occurs-times n r more s in
    rw (count_by-cons (λ t. eqb t s) r (times n r more)) (grind arith)

total-least : (count : ℕ → ℕ) (n r : ℕ) → r < n → count r ≤ total count n
total-least count n r within = let all = total-without r count n within in omega arith

-- all ranks together occur as often as those that have to
pub has-sum : (often ranks : List ℕ) (count : ℕ → ℕ) → Has often ranks count → added often ≤ total count 15
has-sum [] ranks count has = zero-le
has-sum (often ∷ more) [] count has = absurd has
has-sum (often ∷ more) (rank ∷ ranks) count has =
    let later = has-sum more ranks (without rank count) has.2 in
    let all = total-without rank count 15 has.0 in
    let enough = has.1 in
    omega arith

-- a number is in a list
abbrev pub Among : ℕ → List ℕ → Type 0
Among r [] = ⊥
Among r (x ∷ xs) = (r ≡ x) ⊎ Among r xs

-- where no more cards are there, only those ranks occur
pub has-only : (often ranks : List ℕ) (count : ℕ → ℕ) (r : ℕ) → Has often ranks count → total count 15 ≡ added often
    → r < 15 → 1 ≤ count r → Among r ranks
has-only [] ranks count r has sum within some = let least = total-least count 15 r within in absurd (omega arith)
has-only (often ∷ more) [] count r has sum within some = absurd has
has-only (often ∷ more) (rank ∷ ranks) count r has sum within some =
    let all = total-without rank count 15 has.0 in
    let rest = has-sum more ranks (without rank count) has.2 in
    let enough = has.1 in
    elim (eqb r rank) as (λ b. eqb r rank ≡ b → Among r (rank ∷ ranks)) [
      | true ↦ λ same. inl (eqb-true r rank same)
      | false ↦ λ other.
          let kept = without-other rank r count (grind (arith, nat_tests)) in
          inr (has-only more ranks (without rank count) r has.2 (omega arith) within (omega arith))
    ] refl
