use Rattle.deal_order.proofs.Deals.{deal-count_up, deal-rising, deal-within}
use Rattle.deal_order.proofs.laws.the_deal_takes_the_top_cards.Goals as goal

pub returns-clause-in_order : goal.returns-clause-in_order
returns-clause-in_order c = deal-count_up

pub returns-clause-apart : goal.returns-clause-apart
returns-clause-apart c = deal-rising

pub returns-clause-within : goal.returns-clause-within
returns-clause-within c = deal-within
