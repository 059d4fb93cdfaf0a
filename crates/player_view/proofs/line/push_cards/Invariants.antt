use Rattle.std.proofs.Common.{◌≡◌, ◌++◌, take}
use Rattle.card_set.specs.Cards.{cards_text}
use Rattle.player_view.proofs.line.push_cards.Given as goal

abbrev pub invariant-loop-card : goal.invariant-loop-card
invariant-loop-card l = l.out.items ≡ l.initial.out.items ++ cards_text (take l.card-index l.cards)
