use Rattle.std.proofs.Common.{◌≡◌, ◌∙◌, ap, sym, ◌+◌, ◌/◌, ◌++◌, [], take, drop, get_or, false, arith, append-nil, add-zero}
use Rattle.std.proofs.lemmas.List.{take_all, length-set}
use Rattle.std.proofs.lemmas.List.Sums.{sum_by_more, sum_by-take-le}
use Rattle.std.proofs.Math.ListN.{drop_of_length-le}
use Rattle.chip_race.specs.Races.{awarded_chips, winners, stacks_after, added_value, given_value, is_among, race_result}
use Rattle.chip_race.proofs.Given.{given-few}
use Rattle.chip_race.proofs.Seats.{stacks-more, value-more, is_whole-at}
use Rattle.chip_race.proofs.racing.race.Goals as goal

pub overflow_add-added : goal.overflow_add-added
overflow_add-added c =
    let index = c.loop-index.index in
    let whole = is_whole-at c.args.old c.args.stacks.now index c.requires.whole (omega arith) in
    let few = given-few c.args.old c.args.new (get_or c.winners-has_won.result index false)
    (get_or c.args.stacks.now index 0) (omega arith) c.requires.most whole
    (λ empty. c.winners-has_won.ensures.empty index (omega arith) empty) in
    let more = sum_by_more (λ n. n) c.args.stacks.now index 0 (omega arith) in
    let within = sum_by-take-le (λ n. n) c.args.stacks.now (index + 1) in
    omega (arith, few, more, within, c.given_value-given.ensures, c.loop-index.invariant.few, c.requires.fits)

pub loop-index-preserved : goal.loop-index-preserved
loop-index-preserved c =
    let index = c.loop-index.index in
    let players = winners c.args.old c.args.new (awarded_chips c.args.new c.args.stacks.now) c.args.stacks.now
    c.args.deck.now in
    let stack = get_or c.args.stacks.now index 0 in
    let given : c.given_value-given.result ≡ given_value c.args.new (is_among players index) stack =
    c.given_value-given.ensures ∙ ap (λ won. given_value c.args.new won stack)
    (c.winners-has_won.ensures.wins index (omega arith)
    ∙ ap (λ removed. is_among
    (winners c.args.old c.args.new (removed / c.args.new) c.args.stacks.now c.args.deck.now) index)
    c.removed_value-removed.ensures) in
    let whole = is_whole-at c.args.old c.args.stacks.now index c.requires.whole (omega arith) in
    let few = given-few c.args.old c.args.new (get_or c.winners-has_won.result index false) stack
    (omega arith) c.requires.most whole
    (λ empty. c.winners-has_won.ensures.empty index (omega arith) empty) in
    let more = sum_by_more (λ n. n) c.args.stacks.now index 0 (omega arith) in
    record {
      seats = length-set c.loop-index.after index _ ∙ c.loop-index.invariant.seats;
      stacks = stacks-more c.args.new players c.args.stacks.now c.loop-index.after _ index c.given_value-given.result
          (omega arith) (omega (arith, c.loop-index.invariant.seats)) given c.loop-index.invariant.stacks;
      value = value-more c.args.new players c.args.stacks.now _ c.loop-index.added index c.given_value-given.result
          (omega arith) given c.loop-index.invariant.value;
      few = omega (arith, few, more, c.given_value-given.ensures, c.loop-index.invariant.few);
    }

pub returns : goal.returns
unfolding race_result
returns c =
    let index = c.loop-index.index in
    let players = winners c.args.old c.args.new (awarded_chips c.args.new c.args.stacks.now) c.args.stacks.now
    c.args.deck.now in
    let done : drop index c.args.stacks.now ≡ [] = drop_of_length-le c.args.stacks.now (omega arith) in
    let stacks : c.loop-index.after ≡ stacks_after c.args.new players 0 c.args.stacks.now =
    sym (c.loop-index.invariant.stacks
    ∙ ap (λ left. take index c.loop-index.after ++ stacks_after c.args.new players index left) done
    ∙ append-nil (take index c.loop-index.after) ∙ take_all index c.loop-index.after
    (omega (arith, c.loop-index.invariant.seats))) in
    let added : c.loop-index.added ≡ added_value c.args.new players 0 c.args.stacks.now =
    sym (c.loop-index.invariant.value
    ∙ ap (λ left. c.loop-index.added + added_value c.args.new players index left) done
    ∙ add-zero c.loop-index.added) in
    λ i. record {
      stacks = stacks i;
      removed = c.removed_value-removed.ensures i;
      added = added i;
    }
