use Rattle.std.proofs.Common.{◌∙◌, ap, drop}
use Rattle.std.specs.Prelude.{nat_lt}
use Rattle.std.specs.List.{list_any}
use Rattle.std.proofs.lemmas.List.{take_rest}
use Rattle.seat_book.proofs.TableCounts.{open-above}
use Rattle.seat_book.proofs.seat_book.SeatBook.is_not_last.Goals as goal

pub returns : goal.returns
returns c = rw (← c.self.view_is) (c.has_players.ensures
    ∙ (ap (list_any (nat_lt 0)) (take_rest c.deref.result.now c.from.result)
    ∙ (ap (λ n. list_any (nat_lt 0) (drop n c.deref.result.now)) c.from.ensures
    ∙ (ap (λ counts. list_any (nat_lt 0) (drop c.args.table counts)) c.deref.ensures.value
    ∙ open-above c.args.table c.self.invariant))))
