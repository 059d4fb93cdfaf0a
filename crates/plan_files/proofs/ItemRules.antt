-- A draft that is given all items, one after another, comes to what the rule says.
use Rattle.std.proofs.Common.{◌≡◌, ℕ, refl, ◌∙◌, true, false, List, []}
use Rattle.std.specs.Prelude.{Bool, Option, Some, None, Result, Ok, Err, option_map, if◌then◌else◌}
use Rattle.toml.specs.Data.{Members}
use Rattle.rulebook.specs.Checks.{first_that_holds}
use Rattle.level_plan.specs.declared.line.PlanItem.{PlanItem}
use Rattle.level_plan.specs.declared.line.PlanItem.TheVariants as items
use Rattle.level_plan.specs.declared.line.PlanLine.{PlanLine}
use Rattle.level_plan.specs.declared.line.PlanLine.TheVariants as lines
use Rattle.level_plan.specs.declared.plan.Blind.{Blind}
use Rattle.level_plan.specs.Drafts.{Draft, empty_draft, is_wrong_line, item_of_line, draft_after}
use Rattle.plan_files.specs.PlanFiles.{◌>>=◌, unless, given, is_wrong_item, is_wrong_limit, are_wrong_levels, item_checks, items_in}
use Rattle.plan_files.specs.Steps.{after_line, after_blinds, after_limit, after_room, after_entry, after_lists, after_items}
use Rattle.plan_files.proofs.LevelRules.{after_blinds-is_rule}

-- a step that may find an item wrong, and what follows
branch : (wrong : Bool) (item : PlanItem) (draft : Draft) (next : Draft → Result Draft PlanItem)
    (later : Option PlanItem) (end : Draft) → next draft ≡ unless later end
    → ((if wrong then Err item else Ok draft) >>= next) ≡ unless (if wrong then Some item else later) end
branch true item draft next later end rest = refl
branch false item draft next later end rest = rest

-- what follows what follows
then_then : {A B C : Type 0} (read : Result A PlanItem) (next : A → Result B PlanItem) (last : B → Result C PlanItem)
    → ((read >>= next) >>= last) ≡ (read >>= (λ value. next value >>= last))
then_then (Ok value) next last = refl
then_then (Err item) next last = refl

-- a line of an item is taken as its first line would be, and sets this item
pub record Sets {A : Type 0} (item : PlanItem) (line : A → PlanLine) (draft : Draft) (after : Option A → Draft)
    : Type 0 where
  pub alike : (value : A) → is_wrong_line draft (line value) ≡ is_wrong_line empty_draft (line value)
  pub sets : (value : A) → draft_after draft (line value) ≡ after (Some value)
  pub names : (value : A) → item_of_line (line value) ≡ item

-- one item
step : {A : Type 0} (item : PlanItem) (line : A → PlanLine) (said : Option A) (draft : Draft)
    (after : Option A → Draft) (next : Draft → Result Draft PlanItem) (later : Option PlanItem) (end : Draft)
    → Sets item line draft after → next (after said) ≡ unless later end
    → (after_line item (option_map line said) draft >>= next)
    ≡ unless (if is_wrong_item line said then Some item else later) end
unfolding after_line
step item line None draft after next later end is rest = refl
step item line (Some value) draft after next later end is rest =
    rw (is.alike value, is.sets value, is.names value)
    (branch (is_wrong_line empty_draft (line value)) item (after (Some value)) next later end rest)

-- the levels
levels_step : (draft : Draft) (blinds : List Blind) (next : Draft → Result Draft PlanItem) (later : Option PlanItem)
    (end : Draft) → next (record draft { blinds = blinds }) ≡ unless later end
    → (after_blinds blinds (record draft { blinds = [] }) >>= next)
    ≡ unless (if are_wrong_levels blinds then Some items.Blinds else later) end
levels_step draft blinds next later end rest =
    rw (after_blinds-is_rule draft blinds)
    (branch (are_wrong_levels blinds) items.Blinds (record draft { blinds = blinds }) next later end rest)

-- the fixed limit, which is the last item
limit_step : (said : Option ℕ) (draft : Draft)
    → after_limit said (record draft { cap = None })
    ≡ unless (if is_wrong_limit said then Some items.Limit else None) (record draft { cap = said })
unfolding after_limit after_line
limit_step None draft = refl
limit_step (Some n) draft =
    by_test (is_wrong_line empty_draft (lines.Limit n)) (record draft { cap = Some n })
  where
    by_test : (wrong : Bool) (end : Draft)
        → (if wrong then Err items.Limit else Ok end) ≡ unless (if wrong then Some items.Limit else None) end
    by_test true end = refl
    by_test false end = refl

-- the draft that has been given the items of a file up to one of them
abbrev pub with_room : Draft → Draft
with_room said = record empty_draft { game = said.game; tables = said.tables; seats = said.seats }

abbrev pub with_entry : Draft → Draft
with_entry said = record (with_room said) { stack = said.stack; buyin = said.buyin; late = said.late }

-- the game, the tables and the seats
room_step : (said : Draft) (next : Draft → Result Draft PlanItem) (later : Option PlanItem) (end : Draft)
    → next (with_room said) ≡ unless later end
    → (after_room said empty_draft >>= next)
    ≡ unless (if is_wrong_item lines.Game said.game then Some items.Game
    else (if is_wrong_item lines.Tables said.tables then Some items.Tables
    else (if is_wrong_item lines.Seats said.seats then Some items.Seats else later))) end
unfolding after_room
room_step said next later end rest =
    let d1 : Draft = record empty_draft { game = said.game } in
    let d2 : Draft = record d1 { tables = said.tables } in
    let seats : Draft → Result Draft PlanItem = after_line items.Seats (option_map lines.Seats said.seats) in
    let tables : Draft → Result Draft PlanItem = after_line items.Tables (option_map lines.Tables said.tables) in
    let later2 : Option PlanItem = if is_wrong_item lines.Seats said.seats then Some items.Seats else later in
    let later1 : Option PlanItem = if is_wrong_item lines.Tables said.tables then Some items.Tables else later2 in
    then_then (after_line items.Game (option_map lines.Game said.game) empty_draft) (λ d. tables d >>= seats) next
    ∙ step items.Game lines.Game said.game empty_draft (λ game. record empty_draft { game = game })
    (λ d. (tables d >>= seats) >>= next) later1 end
    (record { alike = λ value. refl; sets = λ value. refl; names = λ value. refl })
    (then_then (tables d1) seats next
    ∙ step items.Tables lines.Tables said.tables d1 (λ n. record d1 { tables = n }) (λ d. seats d >>= next) later2 end
    (record { alike = λ value. refl; sets = λ value. refl; names = λ value. refl })
    (step items.Seats lines.Seats said.seats d2 (λ n. record d2 { seats = n }) next later end
    (record { alike = λ value. refl; sets = λ value. refl; names = λ value. refl }) rest))

-- the stack, the buy-in and the last level of entries
entry_step : (said : Draft) (next : Draft → Result Draft PlanItem) (later : Option PlanItem) (end : Draft)
    → next (with_entry said) ≡ unless later end
    → (after_entry said (with_room said) >>= next)
    ≡ unless (if is_wrong_item lines.Stack said.stack then Some items.Stack
    else (if is_wrong_item lines.Buyin said.buyin then Some items.Buyin
    else (if is_wrong_item lines.Late said.late then Some items.Late else later))) end
unfolding after_entry
entry_step said next later end rest =
    let d3 : Draft = with_room said in
    let d4 : Draft = record d3 { stack = said.stack } in
    let d5 : Draft = record d4 { buyin = said.buyin } in
    let late : Draft → Result Draft PlanItem = after_line items.Late (option_map lines.Late said.late) in
    let buyin : Draft → Result Draft PlanItem = after_line items.Buyin (option_map lines.Buyin said.buyin) in
    let later2 : Option PlanItem = if is_wrong_item lines.Late said.late then Some items.Late else later in
    let later1 : Option PlanItem = if is_wrong_item lines.Buyin said.buyin then Some items.Buyin else later2 in
    then_then (after_line items.Stack (option_map lines.Stack said.stack) d3) (λ d. buyin d >>= late) next
    ∙ step items.Stack lines.Stack said.stack d3 (λ n. record d3 { stack = n })
    (λ d. (buyin d >>= late) >>= next) later1 end
    (record { alike = λ value. refl; sets = λ value. refl; names = λ value. refl })
    (then_then (buyin d4) late next
    ∙ step items.Buyin lines.Buyin said.buyin d4 (λ n. record d4 { buyin = n }) (λ d. late d >>= next) later2 end
    (record { alike = λ value. refl; sets = λ value. refl; names = λ value. refl })
    (step items.Late lines.Late said.late d5 (λ n. record d5 { late = n }) next later end
    (record { alike = λ value. refl; sets = λ value. refl; names = λ value. refl }) rest))

-- the levels, the shares and the fixed limit
lists_step : (said : Draft) → after_lists said (with_entry said)
    ≡ unless (if are_wrong_levels said.blinds then Some items.Blinds
    else (if is_wrong_item lines.Shares said.shares then Some items.Shares
    else (if is_wrong_limit said.cap then Some items.Limit else None))) said
unfolding after_lists
lists_step said =
    let d6 : Draft = with_entry said in
    let d7 : Draft = record d6 { blinds = said.blinds } in
    let d8 : Draft = record d7 { shares = said.shares } in
    let shares : Draft → Result Draft PlanItem = after_line items.Shares (option_map lines.Shares said.shares) in
    let later2 : Option PlanItem = if is_wrong_limit said.cap then Some items.Limit else None in
    let later1 : Option PlanItem = if is_wrong_item lines.Shares said.shares then Some items.Shares else later2 in
    levels_step d6 said.blinds (λ d. shares d >>= after_limit said.cap) later1 said
    (step items.Shares lines.Shares said.shares d7 (λ shares. record d7 { shares = shares }) (after_limit said.cap)
    later2 said (record { alike = λ value. refl; sets = λ value. refl; names = λ value. refl })
    (limit_step said.cap d8))

-- All items given one after another are the items of the file, unless one alone is wrong.
pub after_items-is_rule : (said : Draft) → after_items said ≡ unless (first_that_holds (item_checks said)) said
unfolding after_items
after_items-is_rule said =
    let last : Option PlanItem =
    if are_wrong_levels said.blinds then Some items.Blinds
    else (if is_wrong_item lines.Shares said.shares then Some items.Shares
    else (if is_wrong_limit said.cap then Some items.Limit else None)) in
    let entry : Option PlanItem =
    if is_wrong_item lines.Stack said.stack then Some items.Stack
    else (if is_wrong_item lines.Buyin said.buyin then Some items.Buyin
    else (if is_wrong_item lines.Late said.late then Some items.Late else last)) in
    room_step said (λ d. after_entry said d >>= after_lists said) entry said
    (entry_step said (after_lists said) last said (lists_step said))

-- The items of a file are what a draft comes to that is given them one after another.
pub after_items-items_in : (file : Members) → after_items (given file) ≡ items_in file
unfolding items_in
after_items-items_in file = after_items-is_rule (given file)
