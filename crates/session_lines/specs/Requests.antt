-- What the lines of a session ask for: the grammar of a player and that of the floor. This project's own.
use Rattle.std.specs.Prelude.{ℕ, List, [], ◌∷◌, codes, Option}
use Rattle.line_words.specs.Words.{words_of_line}
use Rattle.line_words.specs.Rows.{a_number, a_name, a_switch, no_field, last, ◌▸◌, an_act, Row, row, read_words}
use Rattle.dock_rules.specs.declared.asks.Ask.TheVariants as asks
use Rattle.session_lines.specs.declared.hello.Speaker.{Speaker}
use Rattle.session_lines.specs.declared.hello.Speaker.TheVariants.{Floor, Player}
use Rattle.session_lines.specs.declared.request.Request.{Request}
use Rattle.session_lines.specs.declared.request.Request.TheVariants as requests

-- the rows of what the player of a name asks for: to be told of a table, and to act at one
abbrev pub player_rows : List ℕ → List (Row Request)
player_rows name =
    row (codes "watch") (last a_number) requests.Watch ∷
    row (codes "act") (a_number ▸ an_act) (λ table act. requests.Act table name act) ∷ []

-- the rows of what the floor asks for: to be told of a table, that time is called at one, and orders, whose decks and
-- draws are filled in
abbrev pub floor_rows : List (Row Request)
floor_rows =
    row (codes "watch") (last a_number) requests.Watch ∷
    row (codes "time") (last a_number) requests.Time ∷
    row (codes "enter") (a_name ▸ a_number ▸ last a_number)
    (λ name table seat. requests.Order (asks.Enter name table seat)) ∷
    row (codes "reenter") (a_name ▸ a_number ▸ last a_number)
    (λ name table seat. requests.Order (asks.Reenter name table seat)) ∷
    row (codes "balance") (a_number ▸ last a_number) (λ from to. requests.Order (asks.Balance from to)) ∷
    row (codes "break") (last a_number) (λ table. requests.Order (asks.Break table)) ∷
    row (codes "level") no_field (requests.Order asks.Level) ∷
    row (codes "race") (last a_number) (λ table. requests.Order (asks.Race table)) ∷
    row (codes "hands") (last a_switch) (λ on. requests.Order (asks.Hands on)) ∷
    row (codes "round") no_field (requests.Order asks.Round) ∷
    row (codes "stop") no_field (requests.Order asks.Stop) ∷
    row (codes "next") no_field (requests.Order asks.NextOrder) ∷ []

-- the grammar of whoever speaks
abbrev pub rows_of : Speaker → List (Row Request)
rows_of Floor = floor_rows
rows_of (Player name) = player_rows name

-- What a line asks for, by whoever speaks; none where it is in no grammar.
unfoldable pub request_of : Speaker → List ℕ → Option Request
request_of speaker line = read_words (rows_of speaker) (words_of_line line)
