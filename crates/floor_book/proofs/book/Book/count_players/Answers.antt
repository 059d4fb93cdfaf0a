use Rattle.std.proofs.Common.{ap, arith, length}
use Rattle.tournament_rules.specs.Books.{BookState}
use Rattle.tournament_rules.proofs.InOrBust.{all-counted}
use Rattle.floor_book.specs.Fields.{book_of}
use Rattle.floor_book.proofs.book.Book.count_players.Goals as goal

pub overflow_sub-result : goal.overflow_sub-result
overflow_sub-result c =
    let book = book_of c.self.inside in
    let all = all-counted book.entries book.seating.players book.busts c.self.invariant.entries.once in
    let entered = c.len.ensures.len in
    let started = c.len-2.ensures.len in
    omega (arith, all, entered, started)

pub returns : goal.returns
returns c =
    let book = book_of c.self.inside in
    let all = all-counted book.entries book.seating.players book.busts c.self.invariant.entries.once in
    let entered = c.len.ensures.len in
    let started = c.len-2.ensures.len in
    let sit = ap (λ (book : BookState). length book.seating.players) c.self.view_is in
    omega (arith, all, entered, started, sit)
