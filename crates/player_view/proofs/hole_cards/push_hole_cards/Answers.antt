use Rattle.std.proofs.Common.{◌∙◌, ◌++◌, ◌∷◌, [], List, ap, map}
use Rattle.std.specs.Prelude.{codes}
use Rattle.std.specs.Fmt.{decimal}
use Rattle.std.proofs.lemmas.Result.{on_ok_weaker}
use Rattle.card_set.specs.declared.card.Card.{Card}
use Rattle.card_set.specs.Cards.{cards_text}
use Rattle.line_words.specs.Words.{line_of_words}
use Rattle.line_words.specs.Written.{word_text}
use Rattle.player_view.proofs.Cards.{hole-four, hole-two}
use Rattle.player_view.proofs.hole_cards.push_hole_cards.Goals as goal

pub returns-in-Holdem-clause-ok : goal.returns-in-Holdem-clause-ok
returns-in-Holdem-clause-ok c =
    let are = (λ i. c.hole_card-first.ensures i ∷ c.hole_card-second.ensures i ∷ [])
    ∙ hole-two c.args.start.now c.args.seat c.in-Holdem.is in
    on_ok_weaker c.push_cards_line.result
    (λ then. then ∙ ap (λ (cards : List Card). c.args.out.now.items ++ (decimal c.args.table ++ (codes ": "
    ++ line_of_words (map word_text c.args.words.now ++ cards_text cards ∷ [])))) are)
    c.push_cards_line.ensures.ok

pub returns-in-Omaha-clause-ok : goal.returns-in-Omaha-clause-ok
returns-in-Omaha-clause-ok c =
    let are = (λ i. c.hole_card-first.ensures i ∷ c.hole_card-second.ensures i ∷ c.hole_card-third.ensures i
    ∷ c.hole_card-fourth.ensures i ∷ [])
    ∙ hole-four c.args.start.now c.args.seat c.in-Omaha.is in
    on_ok_weaker c.push_cards_line-in-Omaha.result
    (λ then. then ∙ ap (λ (cards : List Card). c.args.out.now.items ++ (decimal c.args.table ++ (codes ": "
    ++ line_of_words (map word_text c.args.words.now ++ cards_text cards ∷ [])))) are)
    c.push_cards_line-in-Omaha.ensures.ok
