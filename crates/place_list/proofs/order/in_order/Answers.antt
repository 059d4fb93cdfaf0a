use Rattle.std.proofs.Common.{rules}
use Rattle.std.proofs.lemmas.List.Sorted.{answers_always}
use Rattle.place_list.specs.Orders.{is_placed_before}
use Rattle.place_list.proofs.InOrder.{placed-sorted}
use Rattle.place_list.proofs.Orderings.{placed_before-order}
use Rattle.place_list.proofs.order.in_order.Goals as goal

pub returns-clause-order : goal.returns-clause-order
returns-clause-order c =
    placed-sorted c.args.busts.now c.sort_by.new.self.items (search rules)
    (c.in_ok-sort_by.ensures.sorted is_placed_before placed_before-order
    (answers_always _ _ _ (λ f a r q called. search rules))) c.requires
