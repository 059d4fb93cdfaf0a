use Rattle.std.proofs.Common.{◌≡◌, ◌∙◌, take, arith, sym, refl, true}
use Rattle.std.specs.Prelude.{slice_index_or}
use Rattle.std.proofs.lemmas.List.{take_all, length-set}
use Rattle.card_set.proofs.DeckLaws.{comes_twice, distinct-more, repeats_none-from_AllPairs, repeats-unless_deck}
use Rattle.card_set.proofs.SeenCards.{seen-none, seen-more, seen-found, seen-new}
use Rattle.card_set.proofs.deck.Deck.of_row.Goals as goal

pub loop-index-init : goal.loop-index-init
loop-index-init c = record {
  distinct = λ i j d before within same. absurd (omega arith);
  size = refl;
  seen =
      seen-none;
}

pub returns-then-seen-number-clause-some : goal.returns-then-seen-number-clause-some
returns-then-seen-number-clause-some c =
    let index = c.index_of-number.ensures.index in
    let found = seen-found c.loop-index.seen (take c.loop-index.index c.args.row.now.cards)
    (slice_index_or c.args.row.now.cards c.loop-index.index c.index-row-index.result)
    (rw (← index) c.index_of-number.ensures.within) c.loop-index.invariant.seen (rw (← index) c.if-seen-number.true)
    in (
      λ no. cc,
      λ deck. absurd (comes_twice c.args.row.now.cards c.loop-index.index c.index-row-index.result
          (omega arith) found.0 found.1 found.2 deck),
    )

pub returns-then-seen-number-clause-none : goal.returns-then-seen-number-clause-none
returns-then-seen-number-clause-none c =
    let index = c.index_of-number.ensures.index in
    let found = seen-found c.loop-index.seen (take c.loop-index.index c.args.row.now.cards)
    (slice_index_or c.args.row.now.cards c.loop-index.index c.index-row-index.result)
    (rw (← index) c.index_of-number.ensures.within) c.loop-index.invariant.seen (rw (← index) c.if-seen-number.true)
    in
    sym (repeats-unless_deck c.args.row.now.cards c.args.row.now.whole
    (λ deck. comes_twice c.args.row.now.cards c.loop-index.index c.index-row-index.result (omega arith) found.0
    found.1 found.2 deck))

pub loop-index-preserved : goal.loop-index-preserved
loop-index-preserved c =
    let index = c.index_of-number.ensures.index in
    let new = seen-new c.loop-index.seen (take c.loop-index.index c.args.row.now.cards)
    (slice_index_or c.args.row.now.cards c.loop-index.index c.index-row-index.result)
    (rw (← index) c.index_of-number.ensures.within) c.loop-index.invariant.seen
    (rw (← index) c.if-seen-number.false) in
    record {
      distinct = distinct-more c.args.row.now.cards c.loop-index.index c.index-row-index.result (omega arith)
          c.loop-index.invariant.distinct new;
      size = length-set c.loop-index.seen c.index_of-number.result true ∙ c.loop-index.invariant.size;
      seen = rw index (rw (← c.index-row-index.is) (seen-more c.loop-index.seen c.args.row.now.cards
          c.loop-index.index c.index-row-index.result c.loop-index.invariant.size (omega arith) c.index-row-index.is
          c.loop-index.invariant.seen));
    }

pub invariant_of-result : goal.invariant_of-result
invariant_of-result c =
    let all : take c.loop-index.index c.args.row.now.cards ≡ c.args.row.now.cards = take_all c.loop-index.index
    c.args.row.now.cards (omega arith) in
    record { whole = c.args.row.now.whole; distinct = rw all at c.loop-index.invariant.distinct }

pub returns-clause-some : goal.returns-clause-some
returns-clause-some c =
    let all : take c.loop-index.index c.args.row.now.cards ≡ c.args.row.now.cards = take_all c.loop-index.index
    c.args.row.now.cards (omega arith) in
    (λ yes. record { whole = c.args.row.now.whole; distinct = rw all at c.loop-index.invariant.distinct }, λ deck. refl)

pub returns-clause-none : goal.returns-clause-none
returns-clause-none c =
    let all : take c.loop-index.index c.args.row.now.cards ≡ c.args.row.now.cards = take_all c.loop-index.index
    c.args.row.now.cards (omega arith) in
    sym (repeats_none-from_AllPairs c.args.row.now.cards (rw all at c.loop-index.invariant.distinct))
