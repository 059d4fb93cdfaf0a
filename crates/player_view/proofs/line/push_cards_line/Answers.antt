use Rattle.std.proofs.Common.{◌≤◌, length, map, arith}
use Rattle.std.proofs.lemmas.Grind.{common_steps}
use Rattle.std.proofs.lemmas.List.{length-map}
use Rattle.std.specs.Fmt.{decimal}
use Rattle.card_set.specs.Cards.{cards_text}
use Rattle.line_words.specs.Written.{word_text}
use Rattle.player_view.proofs.Texts.{written-cards}
use Rattle.player_view.proofs.line.push_cards_line.Goals as goal

pub returns-clause-ok : goal.returns-clause-ok
returns-clause-ok c =
    let words = map word_text c.args.words.now in
    let some : 1 ≤ length words = omega (arith, length-map c.args.words.now word_text, c.requires) in
    written-cards c.args.out.now.items (decimal c.args.table) (cards_text c.args.cards.now) _ _ _ _ _ words
    c.in_ok-push_table.ensures.ok c.in_ok-push_words.ensures.ok c.in_ok-push.ensures.items
    c.in_ok-push_cards.ensures.ok c.in_ok-push-2.ensures.items some

pub returns-clause-kept : goal.returns-clause-kept
returns-clause-kept c = grind (arith, common_steps)

pub returns-in_err-push-2-clause-kept : goal.returns-in_err-push-2-clause-kept
returns-in_err-push-2-clause-kept c = grind (arith, common_steps)

pub returns-in_err-push-clause-kept : goal.returns-in_err-push-clause-kept
returns-in_err-push-clause-kept c = grind (arith, common_steps)

pub returns-in_err-push_words-clause-kept : goal.returns-in_err-push_words-clause-kept
returns-in_err-push_words-clause-kept c = grind (arith, common_steps)
