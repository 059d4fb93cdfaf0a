-- The awards of one pot more.
use Rattle.std.proofs.Common.{◌≡◌, ◌∙◌, ℕ, ◌+◌, ◌%◌, ◌<◌, ◌≤◌, List, Bool, true, Some, length, get_or, take, replicate, ap, sym, subst, arith}
use Rattle.std.specs.Prelude.{◌==◌, not, map, is_some, Option, fold, slice_get}
use Rattle.std.proofs.lemmas.Bool.{eqb-true}
use Rattle.std.proofs.lemmas.Option.{get_or_from_slice_get}
use Rattle.std.proofs.lemmas.List.Sums.{fold_more, sum_by_more, sum_by_more_le}
use Rattle.rulebook.proofs.Passing.{list_all-get}
use Rattle.pot_layers.specs.declared.pot_list.Pot.{Pot}
use Rattle.card_set.specs.declared.card.Card.{Card}
use Rattle.card_set.specs.declared.game.Game.{Game}
use Rattle.button_blinds.specs.SeatSets.{AreSeatsOf}
use Rattle.button_blinds.proofs.Distances.{IsSeat}
use Rattle.pot_layers.specs.Layers.{is_nobody}
use Rattle.pot_layers.specs.PotTests.{total_of, are_all_in, are_for, have_somebody, are_whole_pots}
use Rattle.showdown.specs.declared.live.Live.{Live}
use Rattle.showdown.specs.Hands.{hands_of}
use Rattle.showdown.specs.declared.hand.Hand.{Hand}
use Rattle.showdown.specs.Awards.{award_pot, awards_of}
use Rattle.showdown.proofs.Writes.{seats-hands_of}
use Rattle.showdown.proofs.PotAwards.{some-in_play}
use Rattle.showdown.proofs.AwardLaws.{IsPotAt}

-- Once the next pot is awarded after the first ones, the awards are those of the first pots and that pot.
pub awards_of-more : (hands : List (Option Hand)) (unit button seats : ℕ) (pots : List Pot) (index : ℕ) (pot : Pot)
    → index < length pots → slice_get pots index ≡ Some pot
    → award_pot hands unit button seats (awards_of hands unit button seats (take index pots)) pot
    ≡ awards_of hands unit button seats (take (index + 1) pots)
unfolding awards_of
awards_of-more hands unit button seats pots index pot within is =
    sym (fold_more (award_pot hands unit button seats) (replicate 10 0) pots index pot within
    ∙ ap (award_pot hands unit button seats
    (fold (award_pot hands unit button seats) (replicate 10 0) (take index pots)))
    (get_or_from_slice_get pots index pot pot is))

-- The first pots and the next one come to the chips of the first pots and those of the next.
pub total_of-more : (pots : List Pot) (index : ℕ) (pot : Pot) → index < length pots → slice_get pots index ≡ Some pot
    → total_of (take (index + 1) pots) ≡ total_of (take index pots) + pot.amount
total_of-more pots index pot within is =
    sum_by_more (λ (p : Pot). p.amount) pots index pot within
    ∙ ap (λ (p : Pot). total_of (take index pots) + p.amount) (get_or_from_slice_get pots index pot pot is)

-- The first pots and the next one come to no more chips than all pots.
pub total_of-within : (pots : List Pot) (index : ℕ) (pot : Pot) → index < length pots → slice_get pots index ≡ Some pot
    → total_of (take index pots) + pot.amount ≤ total_of pots
total_of-within pots index pot within is =
    let own : (get_or pots index pot).amount ≡ pot.amount =
    ap (λ (p : Pot). p.amount) (get_or_from_slice_get pots index pot pot is) in
    omega (arith, sum_by_more_le (λ (p : Pot). p.amount) pots index pot within, own)

-- Each pot is one that an award asks for, where all are.
pub pot-at : (game : Game) (board : List Card) (live : List (Option Live)) (hands : List (Option Hand))
    (unit button seats : ℕ) (pots : List Pot) (index : ℕ) (pot : Pot) → hands ≡ hands_of game board live
    → seats ≤ 10 → IsSeat seats button → AreSeatsOf seats (map is_some live) → are_for (map is_some live) pots ≡ true
    → have_somebody pots ≡ true → are_whole_pots unit pots ≡ true → slice_get pots index ≡ Some pot
    → IsPotAt hands unit button seats pot
pot-at game board live hands unit button seats pots index pot is most at table own somebody units there =
    let same : map is_some hands ≡ map is_some live = ap (map is_some) is ∙ seats-hands_of game board live in
    record {
      most = most;
      at = at;
      table = subst (λ (set : List Bool). AreSeatsOf seats set) (sym same) table;
      somebody =
          some-in_play pot.eligible hands
          (list_all-get (λ (p : Pot). not (is_nobody p.eligible)) pots index pot somebody there)
          (subst (λ (set : List Bool). are_all_in pot.eligible set ≡ true) (sym same)
          (list_all-get (λ (p : Pot). are_all_in p.eligible (map is_some live)) pots index pot own there));
      whole = eqb-true (pot.amount % unit) 0
          (list_all-get (λ (p : Pot). p.amount % unit == 0) pots index pot units there);
    }
