use Rattle.std.proofs.Common.{sym, subst}
use Rattle.tournament_rules.specs.Valid.{IsValid}
use Rattle.tournament_rules.proofs.Rounds.{valid_round_ended}
use Rattle.floor_book.specs.Fields.{book_of}
use Rattle.floor_book.proofs.RoundEnds.{round_ended_state}
use Rattle.floor_book.proofs.book.Book.end_round.Goals as goal

pub invariant_of-self : goal.invariant_of-self
invariant_of-self c =
    let book = book_of c.self.inside in
    subst IsValid (sym (round_ended_state book c.end_round.new.book c.end_round.ensures.closed))
    (valid_round_ended book c.self.invariant)
