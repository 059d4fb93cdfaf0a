use Rattle.std.proofs.Common.{◌∙◌, ◌++◌, ◌∷◌, [], List, ℕ, ap, arith}
use Rattle.std.proofs.lemmas.Result.{on_ok_weaker}
use Rattle.card_set.specs.declared.card.Card.{Card}
use Rattle.view_rules.specs.Shown.{Turn}
use Rattle.player_view.proofs.Cards.{turn-cards}
use Rattle.player_view.proofs.HandTexts.{text-street}
use Rattle.player_view.proofs.streets.push_turn.Goals as goal

pub returns-clause-ok : goal.returns-clause-ok
returns-clause-ok c =
    let cards : List Card = c.board_card.result ∷ [] in
    let are = ap (λ (card : Card). card ∷ []) c.board_card.ensures ∙ turn-cards c.args.start.now in
    on_ok_weaker c.push_cards_line.result
    (λ then. then ∙ ap (λ (text : List ℕ). c.args.out.now.items ++ text)
    (text-street c.args.table c.args.start.now Turn 2 c.args.left_before c.args.left cards (omega arith) (omega arith)
    are))
    c.push_cards_line.ensures.ok
