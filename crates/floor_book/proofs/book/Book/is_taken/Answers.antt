use Rattle.std.proofs.Common.{◌∙◌, ap}
use Rattle.std.specs.Prelude.{is_some}
use Rattle.seat_book.specs.Players.{player_at}
use Rattle.tournament_rules.specs.Books.{BookState}
use Rattle.floor_book.proofs.CheckSteps.{is_some_made}
use Rattle.floor_book.proofs.book.Book.is_taken.Goals as goal

pub returns : goal.returns
returns c = c.is_some.ensures ∙ (ap is_some c.at.ensures.player
    ∙ (is_some_made _ (player_at c.self.inside.seats.players c.args.place)
    ∙ ap (λ (book : BookState). is_some (player_at book.seating.players c.args.place)) c.self.view_is))
