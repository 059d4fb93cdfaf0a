use Rattle.std.proofs.Common.{◌*◌, ◌∙◌, sym, ◌≡◌, Some, None, length, arith, ap, take, slice_index_or, length-set}
use Rattle.std.proofs.lemmas.List.{take_all}
use Rattle.card_set.specs.declared.card.Card.{Card}
use Rattle.card_set.specs.Cards.{cards_text}
use Rattle.card_set.proofs.RowReading.{reads_cards}
use Rattle.card_set.proofs.TextLaws.{length-cards_text, card_text-at, cards_text-more, take-more-same}
use Rattle.card_set.proofs.spelling.read_cards.Goals.{then-bytes-ne0-via-then-bytes-ne0, then-bytes-ne0-via-else-bytes-ne0+then-bytes}
use Rattle.card_set.proofs.spelling.read_cards.Goals as goal

pub returns-then-bytes-ne0-clause-only : goal.returns-then-bytes-ne0-clause-only
returns-then-bytes-ne0-clause-only g c = λ cards size spelled.
    let long : length (cards_text cards) ≡ length c.args.bytes.now = ap length spelled in
    elim c.then-bytes-ne0.branch [
      | then-bytes-ne0-via-then-bytes-ne0 w ↦ absurd (omega (arith, w.if-bytes-ne0, length-cards_text cards))
      | then-bytes-ne0-via-else-bytes-ne0+then-bytes w ↦ absurd (omega (arith, w.if-bytes, length-cards_text cards))
    ]

pub returns-then-bytes-ne0-clause-exact : goal.returns-then-bytes-ne0-clause-exact
returns-then-bytes-ne0-clause-exact g c = reads_cards g.row.N c.args.bytes.now None tt tt
    (returns-then-bytes-ne0-clause-only g c)

pub returns-in_err-cards-clause-only : goal.returns-in_err-cards-clause-only
returns-in_err-cards-clause-only g c = λ cards size spelled.
    let other : Card = record {
      rank = 2;
      suit = 0;
      from_two = omega arith;
      up_to_ace = omega arith;
      one_of_four =
          omega arith;
    } in
    let text = rw spelled at (card_text-at cards c.loop-index.index other (omega arith)) in
    let none : None ≡ Some (slice_index_or cards c.loop-index.index other) = c.in_err-cards.ensures.only _ text in
    cc

pub returns-in_err-cards-clause-exact : goal.returns-in_err-cards-clause-exact
returns-in_err-cards-clause-exact g c = reads_cards g.row.N c.args.bytes.now c.from_residual.result
    (rw c.from_residual.ensures tt) (rw c.from_residual.ensures tt) (returns-in_err-cards-clause-only g c)

pub loop-index-preserved : goal.loop-index-preserved
loop-index-preserved g c = record {
  size = rw length-set c.loop-index.invariant.size;
  read = cards_text-more _ c.loop-index.index _ c.args.bytes.now (omega arith)
      (omega arith) c.loop-index.invariant.read c.in_ok-cards.ensures.found;
  only = λ cards size spelled.
      let text = rw spelled at (card_text-at cards c.loop-index.index c.in_ok-cards.field-0 (omega arith)) in
      let here : Some c.in_ok-cards.field-0 ≡ Some (slice_index_or cards c.loop-index.index c.in_ok-cards.field-0) =
      c.in_ok-cards.ensures.only _ text in
      take-more-same c.loop-index.cards cards c.loop-index.index c.in_ok-cards.field-0 (omega arith) (omega arith)
      (c.loop-index.invariant.only cards size spelled) (cc);
}

pub returns-clause-found : goal.returns-clause-found
returns-clause-found g c =
    let size : length c.loop-index.cards ≡ g.row.N = c.loop-index.invariant.size in
    let ours : take c.loop-index.index c.loop-index.cards ≡ c.loop-index.cards =
    take_all c.loop-index.index c.loop-index.cards (omega arith) in
    let whole : take (2 * c.loop-index.index) c.args.bytes.now ≡ c.args.bytes.now =
    take_all (2 * c.loop-index.index) c.args.bytes.now (omega arith) in
    ap cards_text (sym ours) ∙ c.loop-index.invariant.read ∙ whole

pub returns-clause-only : goal.returns-clause-only
returns-clause-only g c = λ cards size spelled.
    let our_size : length c.loop-index.cards ≡ g.row.N = c.loop-index.invariant.size in
    let ours : take c.loop-index.index c.loop-index.cards ≡ c.loop-index.cards =
    take_all c.loop-index.index c.loop-index.cards (omega arith) in
    let theirs : take c.loop-index.index cards ≡ cards = take_all c.loop-index.index cards (omega arith) in
    let same : take c.loop-index.index c.loop-index.cards ≡ take c.loop-index.index cards =
    c.loop-index.invariant.only cards size spelled in
    ap Some (cc)

pub returns-clause-exact : goal.returns-clause-exact
returns-clause-exact g c = reads_cards g.row.N c.args.bytes.now _ c.loop-index.invariant.size
    (returns-clause-found g c) (returns-clause-only g c)
