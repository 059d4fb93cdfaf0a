use Rattle.std.proofs.Common.{◌∙◌, ◌++◌, ◌∷◌, [], List, ℕ, ap, arith}
use Rattle.std.proofs.lemmas.Grind.{common_steps}
use Rattle.std.proofs.lemmas.Result.{on_ok_weaker}
use Rattle.card_set.specs.declared.card.Card.{Card}
use Rattle.view_rules.specs.Shown.{Flop}
use Rattle.player_view.proofs.Cards.{flop-cards}
use Rattle.player_view.proofs.HandTexts.{text-street}
use Rattle.player_view.proofs.streets.push_flop.Goals as goal

pub returns-clause-ok : goal.returns-clause-ok
returns-clause-ok c =
    let cards : List Card = c.board_card.result ∷ c.board_card-2.result ∷ c.board_card-3.result ∷ [] in
    let are = (λ i. c.board_card.ensures i ∷ c.board_card-2.ensures i ∷ c.board_card-3.ensures i ∷ [])
    ∙ flop-cards c.args.start.now in
    on_ok_weaker c.push_cards_line.result
    (λ then. then ∙ ap (λ (text : List ℕ). c.args.out.now.items ++ text)
    (text-street c.args.table c.args.start.now Flop 3 c.args.left_before c.args.left cards (omega arith) (omega arith)
    are))
    c.push_cards_line.ensures.ok

pub returns-then-left_before-lt3-clause-kept : goal.returns-then-left_before-lt3-clause-kept
returns-then-left_before-lt3-clause-kept c = grind (arith, common_steps)
