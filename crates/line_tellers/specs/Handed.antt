-- The items of what a reader hands out. This project's own.
use Rattle.std.specs.Prelude.{ℕ, List, Option, None}
use Rattle.floor_text.specs.declared.line_reader.Next.{Next}
use Rattle.floor_text.specs.declared.line_reader.Next.TheVariants.{Line, TooLong, End}
use Rattle.tournament_events.specs.declared.event.Item.{Item}
use Rattle.floor_events.specs.Grammar.{item_of_bytes}

-- the item of what a reader handed out: of a line, and none of one that is too long or of the end
abbrev pub item_of_next : Next → List ℕ → Option Item
item_of_next Line bytes = item_of_bytes bytes
item_of_next TooLong bytes = None
item_of_next End bytes = None
