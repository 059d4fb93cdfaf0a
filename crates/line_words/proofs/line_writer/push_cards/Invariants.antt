use Rattle.std.proofs.Common.{◌≡◌, ◌++◌, take}
use Rattle.card_set.specs.Cards.{cards_text}
use Rattle.line_words.proofs.line_writer.push_cards.Given as goal

abbrev pub invariant-loop-card : goal.invariant-loop-card
invariant-loop-card l = l.out.items ≡ l.initial.out.items ++ cards_text (take l.card-index l.card-items)
