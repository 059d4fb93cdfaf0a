-- Somebody has the best hand.
use Rattle.std.proofs.Common.{◌≡◌, ◌∙◌, ℕ, suc, ◌<◌, List, [], ◌∷◌, Bool, true, false, Some, None, Ordering, length, get_or, refl, ap, arith}
use Rattle.std.specs.Prelude.{Option, is_some}
use Rattle.std.specs.List.{list_any}
use Rattle.std.specs.Ordering.{nat_cmp, is_gt, ordering_reverse}
use Rattle.std.specs.declared.cmp.Ordering.TheVariants.{Less, Equal, Greater}
use Rattle.std.specs.Cmp.Lexicographic.{slice_cmp}
use Rattle.std.proofs.lemmas.Bool.{or_parts}
use Rattle.std.proofs.lemmas.Cmp.{upto, tied_itself, nat_list_cmp_total}
use Rattle.showdown.specs.declared.hand.Hand.{Hand}
use Rattle.showdown.specs.declared.hand.Side.TheVariants.{High}
use Rattle.showdown.specs.Winners.{beats, is_beaten, wins}

-- A hand that beats another is not beaten by it.
other-way : (order : Ordering) → is_gt order ≡ true → is_gt (ordering_reverse order) ≡ false
other-way Less is = absurd cc
other-way Equal is = absurd cc
other-way Greater is = refl

not-beaten_back : (hand other : Hand) → beats High hand other ≡ true → beats High other hand ≡ false
not-beaten_back hand other is = ap is_gt (nat_list_cmp_total.antisymm other.high hand.high)
    ∙ other-way (slice_cmp nat_cmp hand.high other.high) is

-- No hand beats itself.
not-beaten_by_itself : (hand : Hand) → beats High hand hand ≡ false
not-beaten_by_itself hand = ap is_gt (tied_itself nat_list_cmp_total hand.high)

-- Who does not beat a hand does not beat one that beats it.
not-beaten_above : (rival hand best : Hand) → beats High hand best ≡ true → beats High rival best ≡ false
    → beats High rival hand ≡ false
not-beaten_above rival hand best is fails = upto nat_list_cmp_total rival.high best.high hand.high fails
    (not-beaten_back hand best is)

-- What does not beat a hand does not beat one that beats it.
is_beaten-above : (hands : List (Option Hand)) (hand best : Hand) → beats High hand best ≡ true
    → is_beaten High hands best ≡ false → is_beaten High hands hand ≡ false
is_beaten-above [] hand best is fails = refl
is_beaten-above (None ∷ more) hand best is fails = is_beaten-above more hand best is fails
is_beaten-above (Some rival ∷ more) hand best is fails =
    let parts = or_parts (beats High rival best) (is_beaten High more best) fails in
    rw (not-beaten_above rival hand best is parts.0, is_beaten-above more hand best is parts.1)

-- Nobody beats a hand where there is no other.
is_beaten-none : (hands : List (Option Hand)) (hand : Hand) → list_any is_some hands ≡ false
    → is_beaten High hands hand ≡ false
is_beaten-none [] hand none = refl
is_beaten-none (None ∷ more) hand none = is_beaten-none more hand none
is_beaten-none (Some rival ∷ more) hand none = absurd cc

-- A hand that is not beaten.
record HasBest (hands : List (Option Hand)) : Type 0 where
  own : Hand
  index : ℕ
  within : index < length hands
  there : get_or hands index None ≡ Some own
  best : is_beaten High hands own ≡ false

has-best : (hands : List (Option Hand)) → list_any is_some hands ≡ true → HasBest hands
has-best [] some = absurd cc
has-best (None ∷ more) some =
    let later = has-best more some in
    record {
      own = later.own;
      index = suc later.index;
      within = omega (arith, later.within);
      there = later.there;
      best =
          later.best;
    }
has-best (Some hand ∷ more) some = by_more (list_any is_some more) refl (λ rest. has-best more rest)
  where
    first : (is_beaten High more hand ≡ false) → HasBest (Some hand ∷ more)
    first fails = record {
      own = hand;
      index = 0;
      within = omega arith;
      there = refl;
      best =
          rw (not-beaten_by_itself hand, fails);
    }

    by_beats : (later : HasBest more) (beaten : Bool) → beats High hand later.own ≡ beaten → HasBest (Some hand ∷ more)
    by_beats later true is = first (is_beaten-above more hand later.own is later.best)
    by_beats later false is =
        record {
          own = later.own;
          index = suc later.index;
          within = omega (arith, later.within);
          there =
              later.there;
          best = rw (is, later.best);
        }

    by_more : (others : Bool) → list_any is_some more ≡ others → (list_any is_some more ≡ true → HasBest more)
        → HasBest (Some hand ∷ more)
    by_more true is later = by_beats (later is) (beats High hand (later is).own) refl
    by_more false is later = first (is_beaten-none more hand is)

-- Where a hand is in play, some hand wins the high side.
pub some-wins : (hands : List (Option Hand)) → list_any is_some hands ≡ true
    → (index : ℕ) × (index < length hands) × (wins High hands (get_or hands index None) ≡ true)
some-wins hands some =
    let best = has-best hands some in
    (best.index, best.within, rw (best.there, best.best))
