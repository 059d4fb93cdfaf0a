-- What is said in a session at once. This project's own.
use Rattle.std.specs.Prelude.{ℕ, Bool, List, [], ◌∷◌, ◌++◌, Option, Some, None}
use Rattle.std.specs.List.{flat_map, range_with_len}
use Rattle.std.specs.Option.{option_map_or}
use Rattle.view_rules.specs.declared.entries.JournalEntry.{JournalEntry}
use Rattle.view_rules.specs.Spelling.{ViewLine, lines_text}
use Rattle.dock_rules.specs.Points.{journal_text}
use Rattle.session_lines.specs.declared.reply.Reply.{Reply}
use Rattle.session_lines.specs.Replies.{reply_line}
use Rattle.session_desk.specs.Desks.{Brought, Sights}

-- News: entries of the journal, and lines of each table by its number.
pub record News : Type 0 where
  pub floor : List JournalEntry
  pub tables : ℕ → List ViewLine

-- no news
abbrev pub no_news : News
no_news = record { floor = []; tables = λ table. [] }

-- the text of the news of so many tables: the floor's lines, and then those of each table in rising number
abbrev pub news_text : ℕ → News → List ℕ
news_text count news =
    journal_text news.floor ++ flat_map (λ table. lines_text (news.tables table)) (range_with_len 1 count)

-- A line that was handled, none where it was too long, and its reply.
pub record Answered : Type 0 where
  pub line : Option (List ℕ)
  pub reply : Reply

-- An exchange: what the desk had seen as the news were told, the news, and whether some are behind; and, but where the
-- link gave Idle, a line with its reply and what the line brought.
pub record Exchange : Type 0 where
  pub at : Sights
  pub news : News
  pub behind : Bool
  pub answered : Option Answered
  pub brought : Brought

-- the reply of an exchange, if it has one
abbrev pub reply_text : Bool → Option Answered → List ℕ
reply_text behind answered = option_map_or (λ (a : Answered). reply_line a.reply behind) answered []

-- The text of an exchange: the news, and behind them the reply.
abbrev pub exchange_text : ℕ → Exchange → List ℕ
exchange_text count said = news_text count said.news ++ reply_text said.behind said.answered

-- the line that was handled
abbrev pub line_answered : Option Answered → List (Option (List ℕ))
line_answered None = []
line_answered (Some answered) = answered.line ∷ []
