-- A draft that is given the items of a file one after another, as the code does it. This project's own.
use Rattle.std.specs.Prelude.{ℕ, List, [], ◌∷◌, Option, Some, None, Result, Ok, Err, option_map, if◌then◌else◌}
use Rattle.level_plan.specs.declared.line.PlanItem.{PlanItem}
use Rattle.level_plan.specs.declared.line.PlanItem.TheVariants as items
use Rattle.level_plan.specs.declared.line.PlanLine.{PlanLine}
use Rattle.level_plan.specs.declared.line.PlanLine.TheVariants as lines
use Rattle.level_plan.specs.declared.plan.Blind.{Blind}
use Rattle.level_plan.specs.Drafts.{Draft, empty_draft, is_wrong_line, item_of_line, draft_after}
use Rattle.plan_files.specs.PlanFiles.{◌>>=◌}

-- a draft that is given a line of an item, where there is one
unfoldable pub after_line : PlanItem → Option PlanLine → Draft → Result Draft PlanItem
after_line item None draft = Err item
after_line item (Some line) draft =
    if is_wrong_line draft line then Err (item_of_line line) else Ok (draft_after draft line)

-- a draft that is given each of some levels
unfoldable pub after_levels : List Blind → Draft → Result Draft PlanItem
after_levels [] draft = Ok draft
after_levels (blind ∷ blinds) draft = after_line items.Blinds (Some (lines.Blinds blind)) draft >>= after_levels blinds

-- a draft that is given the levels of a file, of which there has to be one
unfoldable pub after_blinds : List Blind → Draft → Result Draft PlanItem
after_blinds [] draft = Err items.Blinds
after_blinds (blind ∷ blinds) draft = after_levels (blind ∷ blinds) draft

-- a draft that is given the game and the room for it
unfoldable pub after_room : Draft → Draft → Result Draft PlanItem
after_room said draft = do
  first ← after_line items.Game (option_map lines.Game said.game) draft
  second ← after_line items.Tables (option_map lines.Tables said.tables) first
  after_line items.Seats (option_map lines.Seats said.seats) second

-- a draft that is given what an entry costs and brings, and until when
unfoldable pub after_entry : Draft → Draft → Result Draft PlanItem
after_entry said draft = do
  first ← after_line items.Stack (option_map lines.Stack said.stack) draft
  second ← after_line items.Buyin (option_map lines.Buyin said.buyin) first
  after_line items.Late (option_map lines.Late said.late) second

-- a draft that is given the line of a fixed limit, where there is one
unfoldable pub after_limit : Option ℕ → Draft → Result Draft PlanItem
after_limit None draft = Ok draft
after_limit (Some n) draft = after_line items.Limit (Some (lines.Limit n)) draft

-- a draft that is given the levels, the shares and the fixed limit
unfoldable pub after_lists : Draft → Draft → Result Draft PlanItem
after_lists said draft = do
  first ← after_blinds said.blinds draft
  second ← after_line items.Shares (option_map lines.Shares said.shares) first
  after_limit said.cap second

-- a draft that is given all items
unfoldable pub after_items : Draft → Result Draft PlanItem
after_items said = do
  first ← after_room said empty_draft
  second ← after_entry said first
  after_lists said second
