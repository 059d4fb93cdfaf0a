use Rattle.std.proofs.Common.{◌≡◌, ◌∙◌, ◌++◌, [], ap, sym, take, drop, get_or, arith, append-nil}
use Rattle.std.proofs.lemmas.List.{take_all, length-set}
use Rattle.std.proofs.Math.ListN.{drop_of_length-le}
use Rattle.chip_race.specs.Races.{odd_chips}
use Rattle.chip_race.specs.BestCards.{best_cards, highest}
use Rattle.chip_race.proofs.Best.{odd_chips-le, best-more}
use Rattle.chip_race.proofs.best_cards.best_cards.Goals as goal

pub split_at-requires : goal.split_at-requires
split_at-requires c = omega (
  arith,
  c.loop-index.invariant.enough,
  odd_chips-le c.args.old c.args.new
      (get_or c.args.stacks.now c.loop-index.index 0) c.requires.unit c.requires.most (omega arith),
)

pub loop-index-preserved : goal.loop-index-preserved
loop-index-preserved c =
    let chips = odd_chips c.args.old c.args.new (get_or c.args.stacks.now c.loop-index.index 0) in
    let own : c.highest.result ≡ highest (take chips c.loop-index.left.now) = c.highest.ensures
    ∙ ap highest c.split_at.ensures.front in
    let few = odd_chips-le c.args.old c.args.new (get_or c.args.stacks.now c.loop-index.index 0) c.requires.unit
    c.requires.most (omega arith) in
    record {
      whole = rw (own, c.split_at.ensures.back)
          (best-more c.args.old c.args.new c.args.stacks.now c.loop-index.left.now c.loop-index.best _
          c.loop-index.index (omega arith)
          (omega (arith, c.loop-index.invariant.seats)) c.loop-index.invariant.whole);
      seats = length-set c.loop-index.best c.loop-index.index c.highest.result ∙ c.loop-index.invariant.seats;
      enough = omega (arith, c.loop-index.invariant.enough, few, c.split_at.ensures.back_len);
    }

pub returns : goal.returns
unfolding best_cards
returns c =
    let done : drop c.loop-index.index c.args.stacks.now ≡ [] = drop_of_length-le c.args.stacks.now (omega arith) in
    let all : take c.loop-index.index c.loop-index.best ≡ c.loop-index.best =
    take_all c.loop-index.index c.loop-index.best (omega (arith, c.loop-index.invariant.seats)) in
    sym (c.loop-index.invariant.whole
    ∙ ap (λ left. take c.loop-index.index c.loop-index.best
    ++ best_cards c.args.old c.args.new left c.loop-index.left.now) done
    ∙ append-nil (take c.loop-index.index c.loop-index.best) ∙ all)
