-- What steps on sets of ranks do to their ranks.
use Rattle.std.proofs.Common.{◌≡◌, ℕ, zero, suc, ◌+◌, ◌-◌, ◌*◌, ◌/◌, ◌%◌, ◌^◌, ◌<◌, ◌≤◌, ◌≢◌, Bool, true, false, ◌&&◌, ◌||◌, not, eqb, leb, cond, Some, None, refl, sym, ap, ◌∙◌, subst, eqb-true, leb-true, pow-suc, arith}
use Rattle.std.specs.Prelude.{bit_and, bit_or, count_ones}
use Rattle.std.specs.Int.{bit_not, w16}
use Rattle.std.specs.Int.Count.{count_leading_zeros, ones_step, ones-le}
use Rattle.std.proofs.Math.Bool.{and-false, and-true, or-false, or-true}
use Rattle.std.proofs.Math.Pow.{pow_mono}
use Rattle.std.proofs.lemmas.Nat.{leading_top}
use Rattle.std.proofs.lemmas.Nat.Bits.{bit_at_lowest, bit_at-suc, bit_at_and, bit_at_or, bit_at_set_same, bit_at_set_other, bit_at_clear_same, bit_at_clear_other, bit_at_above, bit_at-lt, bit_at-zero}
use Rattle.std.proofs.lemmas.Bool.Decides.{nat_tests}
use Rattle.hand_rank.specs.Picks.{highest_below}
use Rattle.hand_rank.specs.Sets.{has_rank}
use Rattle.hand_rank.proofs.PickLaws.{highest-from}

pub has_rank_or : (a b r : ℕ) → has_rank (bit_or a b) r ≡ (has_rank a r || has_rank b r)
has_rank_or a b r =
    let at = bit_at_or a b r in
    let one = bit_at-lt a r in
    let other = bit_at-lt b r in
    grind (arith, nat_tests)

pub has_rank_and : (a b r : ℕ) → has_rank (bit_and a b) r ≡ (has_rank a r && has_rank b r)
has_rank_and a b r =
    let at = bit_at_and a b r in
    let one = bit_at-lt a r in
    let other = bit_at-lt b r in
    grind (arith, nat_tests)

pub has_rank_with : (mask rank r : ℕ) → rank < 16
    → has_rank (bit_or mask (1 * 2 ^ rank % 2 ^ 16)) r ≡ (has_rank mask r || eqb r rank)
has_rank_with mask rank r within =
    elim (eqb r rank) as (λ b. eqb r rank ≡ b
    → has_rank (bit_or mask (1 * 2 ^ rank % 2 ^ 16)) r ≡ (has_rank mask r || b)) [
      | true ↦ λ same. rw (eqb-true r rank same, bit_at_set_same w16 mask rank within)
          (sym (or-true (has_rank mask rank)))
      | false ↦ λ other. rw (bit_at_set_other w16 mask rank within r (grind (arith, nat_tests)))
          (sym (or-false (has_rank mask r)))
    ] refl

pub has_rank_without : (mask rank r : ℕ) → rank < 16 → r < 16
    → has_rank (bit_and mask (bit_not w16 (1 * 2 ^ rank % 2 ^ 16))) r ≡ (has_rank mask r && not (eqb r rank))
has_rank_without mask rank r within inside =
    elim (eqb r rank) as (λ b. eqb r rank ≡ b
    → has_rank (bit_and mask (bit_not w16 (1 * 2 ^ rank % 2 ^ 16))) r ≡ (has_rank mask r && not b)) [
      | true ↦ λ same. rw (eqb-true r rank same, bit_at_clear_same w16 mask rank within)
          (sym (and-false (has_rank mask rank)))
      | false ↦ λ other. rw (bit_at_clear_other w16 mask rank within r inside (grind (arith, nat_tests)))
          (sym (and-true (has_rank mask r)))
    ] refl

-- the index of the highest bit
pub highest_top : (mask : ℕ) → mask ≢ 0 → mask < 2 ^ 16
    → (has_rank mask (15 - count_leading_zeros 16 mask) ≡ true) × ((r : ℕ) → 15 - count_leading_zeros 16 mask < r
    → has_rank mask r ≡ false)
highest_top mask some fits =
    let top = leading_top 16 mask (grind arith) fits in
    let index : top.0 ≡ 15 - count_leading_zeros 16 mask = omega (arith, top.1) in
    let quotient : mask / 2 ^ top.0 ≡ 1 =
    div-is-one mask (2 ^ top.0) top.2 (subst (λ p. mask < p) (pow-suc 2 top.0) top.3) in
    let there : has_rank mask top.0 ≡ true = ap (λ q. eqb (q % 2) 1) quotient in (
      subst (λ t. has_rank mask t ≡ true) index there,
      λ r more. ap (λ b. eqb b 1)
          (bit_at_above mask (suc top.0) r top.3 (omega (arith, index))),
    )
  where
    div-is-one : (a p : ℕ) → p ≤ a → a < p * 2 → a / p ≡ 1
    div-is-one a p low high = grind arith

-- the top of a run that begins below 12
pub top-within : (runs : ℕ) → runs ≢ 0 → runs < 2 ^ 12 → 19 - count_leading_zeros 16 runs < 16
top-within runs some fits =
    let top = leading_top 16 runs (grind arith) (omega arith) in
    let low : top.0 < 12 = below top.0 12 runs top.2 fits in
    omega (arith, top.1)
  where
    below : (m n runs : ℕ) → 2 ^ m ≤ runs → runs < 2 ^ n → m < n
    below m n runs least most =
        elim (leb n m) as (λ b. leb n m ≡ b → m < n) [
          | true ↦ λ more. let large : 2 ^ n ≤ 2 ^ m = pow_mono {i = n} {j = m} (leb-true n m more) in
              absurd (omega arith)
          | false ↦ λ less. grind (arith, nat_tests)
        ] refl

-- the highest rank of a set that is not empty
pub highest-some : (mask : ℕ) → mask ≢ 0 → mask < 2 ^ 16
    → highest_below (has_rank mask) 16 ≡ Some (15 - count_leading_zeros 16 mask)
highest-some mask some fits =
    let top = highest_top mask some fits in
    highest-from (has_rank mask) 16 (15 - count_leading_zeros 16 mask) (record {
      passes = top.0;
      below = omega arith;
      above = λ r within there.
          elim (leb r (15 - count_leading_zeros 16 mask)) as (λ b. leb r (15 - count_leading_zeros 16 mask) ≡ b
          → r ≤ 15 - count_leading_zeros 16 mask) [
            | true ↦ λ low. leb-true r (15 - count_leading_zeros 16 mask) low
            | false ↦ λ high. let none = top.1 r (grind (arith, nat_tests)) in absurd cc
          ] refl;
    })

-- an empty set has no highest rank
pub highest-empty : (mask : ℕ) → mask ≡ 0 → highest_below (has_rank mask) 16 ≡ None
unfolding highest_below
highest-empty mask is = rw is (none 16)
  where
    none : (n : ℕ) → highest_below (has_rank 0) n ≡ None
    none zero = refl
    none (suc n) = let fails : has_rank 0 n ≡ false = ap (λ b. eqb b 1) (bit_at-zero n) in rw fails (none n)

-- how many numbers below a bound pass a test
unfoldable pub how_many : (ℕ → Bool) → ℕ → ℕ
how_many test zero = 0
how_many test (suc n) = cond (test n) 1 0 + how_many test n

-- a number's bits are counted from the lowest one up, and here from the highest one down
how_many-shifted : (mask n : ℕ) → how_many (has_rank mask) (suc n) ≡ mask % 2 + how_many (has_rank (mask / 2)) n
unfolding how_many
how_many-shifted mask zero =
    let lowest = bit_at_lowest mask in
    let small = bit_at-lt mask 0 in
    grind (arith, nat_tests)
how_many-shifted mask (suc n) =
    let later = how_many-shifted mask n in
    let next : has_rank mask (suc n) ≡ has_rank (mask / 2) n = ap (λ b. eqb b 1) (bit_at-suc mask n) in
    rw next (omega arith)

-- a set of ranks below a bound has as many ones among its bits as it has ranks
pub ones_counted : (n mask : ℕ) → mask < 2 ^ n → count_ones mask ≡ how_many (has_rank mask) n
unfolding how_many
ones_counted zero mask fits = let none = ones-le 0 mask fits in omega arith
ones_counted (suc n) mask fits =
    let half : mask / 2 < 2 ^ n = grind (arith, pow-suc) in
    ones_step mask ∙ ap (λ m. mask % 2 + m) (ones_counted n (mask / 2) half) ∙ sym (how_many-shifted mask n)
