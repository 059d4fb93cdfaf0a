-- The prizes of the places.
use Rattle.std.proofs.Common.{◌≡◌, ◌∙◌, ap, sym, ℕ, ◌+◌, ◌*◌, ◌<◌, ◌≤◌, List, [], ◌∷◌, ◌++◌, length, take, get_or, min, ◌⊎◌, inl, inr, arith}
use Rattle.std.specs.Prelude.{map, sum}
use Rattle.std.proofs.Math.Nat.{le_trans}
use Rattle.std.proofs.lemmas.List.{map-append, take_more, take_all}
use Rattle.std.proofs.lemmas.List.Sums.{sum_by-cons, sum_by-append, sum_by-take-le}
use Rattle.place_list.specs.Prizes.{part_of}

-- A part is at most so many thousandths of the pool.
part-le : (pool share : ℕ) → 1000 * part_of pool share ≤ pool * share
part-le pool share = omega arith

-- The parts together are at most so many thousandths of the pool as the shares are together.
parts-times : (pool : ℕ) (shares : List ℕ) → 1000 * sum (map (part_of pool) shares) ≤ pool * sum shares
parts-times pool [] = omega arith
parts-times pool (share ∷ shares) =
    let first = part-le pool share in
    let others = parts-times pool shares in
    let paid = sum_by-cons (λ (n : ℕ). n) (part_of pool share) (map (part_of pool) shares) in
    let all = sum_by-cons (λ (n : ℕ). n) share shares in
    together (part_of pool share) (sum (map (part_of pool) shares)) _ pool share (sum shares) _ first others paid all
  where
    together : (part parts whole pool share shares all : ℕ) → 1000 * part ≤ pool * share
        → 1000 * parts ≤ pool * shares → whole ≡ part + parts → all ≡ share + shares → 1000 * whole ≤ pool * all
    together part parts whole pool share shares all first others is sums = rw (is, sums) (omega (arith, first, others))

-- So they are at most the pool.
pub parts-le : (pool : ℕ) (shares : List ℕ) → sum shares ≤ 1000 → sum (map (part_of pool) shares) ≤ pool
parts-le pool shares few = bound (sum (map (part_of pool) shares)) pool (sum shares) (parts-times pool shares) few
  where
    bound : (a b n : ℕ) → 1000 * a ≤ b * n → n ≤ 1000 → a ≤ b
    bound a b n le few = grind arith

-- One more part.
pub parts-more : (pool : ℕ) (paid : List ℕ) (index : ℕ) → index < length paid
    → map (part_of pool) (take (index + 1) paid) ≡ map (part_of pool) (take index paid) ++ part_of pool
    (get_or paid index 0) ∷ []
parts-more pool paid index within = ap (map (part_of pool)) (take_more paid index 0 within)
    ∙ map-append (part_of pool) (take index paid) (get_or paid index 0 ∷ [])

-- The part of the next share is at most what is left of the pool.
pub part-left : (pool : ℕ) (paid prizes : List ℕ) (left index : ℕ) → index < length paid → sum paid ≤ 1000 → prizes
    ≡ map (part_of pool) (take index paid) → sum prizes + left ≡ pool
    → part_of pool (get_or paid index 0) ≤ left
part-left pool paid prizes left index within few parts whole =
    let all = parts-le pool (take (index + 1) paid) (le_trans (sum_by-take-le (λ (n : ℕ). n) paid (index + 1)) few) in
    let next = ap sum (parts-more pool paid index within) ∙ sum_by-append (λ (n : ℕ). n)
    (map (part_of pool) (take index paid)) (part_of pool (get_or paid index 0) ∷ []) in
    let is = ap sum parts in
    omega (arith, all, next, is, whole)

-- Of a list no more can be taken than there is.
pub take-min : (items : List ℕ) (n m : ℕ) → m ≡ min (length items) n → take m items ≡ take n items
take-min items n m is = elim (which (length items) n) [
  | inl long ↦ ap (λ k. take k items) (is ∙ long)
  | inr short ↦ ap (λ k. take k items) (is ∙ short.0) ∙ take_all (length items) items (omega arith)
      ∙ sym (take_all n items short.1)
]
  where
    which : (a b : ℕ) → (min a b ≡ b) ⊎ ((min a b ≡ a) × (a ≤ b))
    which a b = grind arith
