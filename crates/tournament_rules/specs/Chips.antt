-- The chips of a tournament. This project's own.
use Rattle.std.specs.Prelude.{ℕ, ◌+◌, ◌*◌, length, sum_by}
use Rattle.std.specs.Option.{option_map_or}
use Rattle.seat_book.specs.Players.{players_at}
use Rattle.table_engine.specs.Starts.{chips_of}
use Rattle.tournament_rules.specs.Books.{BookState, starters_of}
use Rattle.tournament_rules.specs.States.{State}

-- the chips sold by a book: a starting stack for each entry and each re-entry
abbrev pub sold_by : BookState → ℕ
sold_by book = (length book.entries + book.reentries) * book.plan.stack

-- the chips at rest in a book: the stacks of those who are in
abbrev pub rest_in : BookState → ℕ
rest_in book = sum_by (λ player. player.stack) book.seating.players

-- the chips at rest at a table: the stacks of those who sit there
abbrev pub rest_at : BookState → ℕ → ℕ
rest_at book table = sum_by (λ player. player.stack) (players_at book.seating.players table)

-- the chips in play of a book: the stacks with which the players of started hands began
abbrev pub play_of : BookState → ℕ
play_of book = sum_by (λ start. chips_of (starters_of start)) book.started

-- the chips sold, and 0 before there is a plan
abbrev pub sold : State → ℕ
sold state = option_map_or (λ play. sold_by play.book) state.play 0

-- the chips that races took away
abbrev pub removed : State → ℕ
removed state = option_map_or (λ play. play.book.removed) state.play 0

-- the chips that races gave
abbrev pub added : State → ℕ
added state = option_map_or (λ play. play.book.added) state.play 0

-- the chips at rest
abbrev pub rest : State → ℕ
rest state = option_map_or (λ play. rest_in play.book) state.play 0

-- the chips in play
abbrev pub play : State → ℕ
play state = option_map_or (λ play. play_of play.book) state.play 0
