-- The line of an act: what it says, and the item that it holds. This project's own.
use Rattle.std.specs.Prelude.{ℕ, List}
use Rattle.betting_round.specs.declared.act.Act.{Act}
use Rattle.line_words.specs.Rows.{a_number, a_name, an_act, ◌▸◌, Fields}
use Rattle.floor_events.specs.declared.act_reader.ActLine.{ActLine}
use Rattle.tournament_events.specs.declared.event.Event.TheVariants as events
use Rattle.tournament_events.specs.declared.event.Item.{Item}
use Rattle.tournament_events.specs.declared.event.Item.TheVariants as found

-- the fields of an act behind its first word
abbrev pub act_fields : Fields
act_fields = a_number ▸ a_name ▸ an_act

-- what the fields of an act say, as one
abbrev pub act_line : ℕ → List ℕ → Act → ActLine
act_line table name act = record { table = table; name = name; act = act }

-- the item of an act's line
abbrev pub item_of_act : ActLine → Item
item_of_act line = found.Event (events.Act line.table line.name line.act)
