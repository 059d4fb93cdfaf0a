-- The order in which players who are out are placed, as an order.
use Rattle.std.proofs.Common.{◌≡◌, ◌⊎◌, ℕ, ◌<◌, ◌≤◌, true, false, arith}
use Rattle.std.specs.Prelude.{◌==◌, ◌&&◌, ◌||◌, nat_lt}
use Rattle.std.specs.Cmp.{IsStrictWeakOrder}
use Rattle.std.proofs.lemmas.Bool.Decides.{nat_tests}
use Rattle.place_list.specs.declared.bust.Bust.{Bust}
use Rattle.place_list.specs.Orders.{is_placed_before}

one_way : (g s p h t q : ℕ) → ((nat_lt h g || (g == h && nat_lt t s)) || ((g == h && s == t) && nat_lt p q)) ≡ true
    → ((nat_lt g h || (h == g && nat_lt s t)) || ((h == g && t == s) && nat_lt q p)) ≡ false
one_way g s p h t q is = grind (arith, nat_tests)

-- What it says that one is not placed before another: the other is in a later group or, in the same group, has the
-- greater stack or, with the same stack, entered no later.
behind-from : (g s p h t q : ℕ) → ((nat_lt h g || (g == h && nat_lt t s)) || ((g == h && s == t) && nat_lt p q))
    ≡ false → (g < h) ⊎ ((g ≡ h) × ((s < t) ⊎ ((s ≡ t) × (q ≤ p))))
behind-from g s p h t q not_before = grind (arith, nat_tests)

not_before-from : (g s p h t q : ℕ) → (g < h) ⊎ ((g ≡ h) × ((s < t) ⊎ ((s ≡ t) × (q ≤ p))))
    → ((nat_lt h g || (g == h && nat_lt t s)) || ((g == h && s == t) && nat_lt p q)) ≡ false
not_before-from g s p h t q behind = grind (arith, nat_tests)

behind-chain : (g s p h t q k u r : ℕ) → (g < h) ⊎ ((g ≡ h) × ((s < t) ⊎ ((s ≡ t) × (q ≤ p)))) → (h < k)
    ⊎ ((h ≡ k) × ((t < u) ⊎ ((t ≡ u) × (r ≤ q)))) → (g < k) ⊎ ((g ≡ k) × ((s < u) ⊎ ((s ≡ u) × (r ≤ p))))
behind-chain g s p h t q k u r first second = grind arith

-- The order is one that a sort may go by.
pub placed_before-order : IsStrictWeakOrder is_placed_before
placed_before-order = record {
  one_way = λ (x y : Bust). one_way x.group x.stack x.player y.group y.stack y.player;
  chain = λ (x y z : Bust) first second. not_before-from x.group x.stack x.player z.group z.stack z.player
      (behind-chain x.group x.stack x.player y.group y.stack y.player z.group z.stack z.player
      (behind-from x.group x.stack x.player y.group y.stack y.player first)
      (behind-from y.group y.stack y.player z.group z.stack z.player second));
}
