-- What a plan file says, and which item of it is wrong first. This project's own.
use Rattle.std.specs.Prelude.{◌≡◌, ℕ, Bool, true, false, ◌&&◌, not, List, [], ◌∷◌, length, codes, Option, Some, None, Result, Ok, Err, option_and_then, unwrap_or, if◌then◌else◌}
use Rattle.std.specs.Option.{ok_or, option_map_or}
use Rattle.std.specs.Str.{is_utf8}
use Rattle.toml.specs.Data.{Data, Members, get_member}
use Rattle.toml.specs.Parse.{parse_document}
use Rattle.rulebook.specs.Checks.{first_that_holds}
use Rattle.level_plan.specs.declared.line.PlanItem.{PlanItem}
use Rattle.level_plan.specs.declared.line.PlanItem.TheVariants as items
use Rattle.level_plan.specs.declared.line.PlanLine.{PlanLine}
use Rattle.level_plan.specs.declared.line.PlanLine.TheVariants as lines
use Rattle.level_plan.specs.declared.line.PlanFault.{PlanFault}
use Rattle.level_plan.specs.declared.line.PlanFault.TheVariants as faults
use Rattle.level_plan.specs.declared.plan.Blind.{Blind}
use Rattle.level_plan.specs.Items.{is_between, are_levels}
use Rattle.level_plan.specs.Limits.{most_levels}
use Rattle.level_plan.specs.Drafts.{Draft, empty_draft, is_wrong_line, go_fault, plan_of}
use Rattle.level_plan.specs.Plans.{PlanTerms}
use Rattle.plan_files.specs.FileValues.{is_empty_list, natural_of, game_named, level_of, list_of, said_at}

-- what is read where nothing is wrong, and what is read of it
infixl 10 ◌>>=◌
abbrev pub ◌>>=◌ : {A B : Type 0} → Result A PlanItem → (A → Result B PlanItem) → Result B PlanItem
Ok value >>= next = next value
Err item >>= next = Err item

-- a value, unless an item was found wrong
abbrev pub unless : {A : Type 0} → Option PlanItem → A → Result A PlanItem
unless None value = Ok value
unless (Some item) value = Err item

-- the document that the bytes are: they have to be UTF-8, and by the grammar of TOML and its rules for tables
unfoldable pub document_of : List ℕ → Result Members PlanItem
document_of bytes = ok_or (if is_utf8 bytes then parse_document bytes else None) items.Toml

-- the number that a value gives for the most wagers of a street: nothing where it is a list with no member, which
-- counts as missing, and 0, which is not lawful, where it is of another kind
abbrev pub wagers_of : Data → Option ℕ
wagers_of value = if is_empty_list value then None else Some (unwrap_or (natural_of value) 0)

-- what a file gives of each item: nothing where it is missing or of another kind. The fixed limit alone may be missing,
-- and a number is given of it wherever the file has something else than a list with no member at its key.
abbrev pub given : Members → Draft
given file = record {
  game = said_at game_named (codes "game") file;
  tables = said_at natural_of (codes "tables") file;
  seats = said_at natural_of (codes "seats") file;
  stack = said_at natural_of (codes "stack") file;
  buyin = said_at natural_of (codes "buyin") file;
  late = said_at natural_of (codes "late") file;
  blinds = unwrap_or (said_at (list_of level_of) (codes "blinds") file) [];
  shares = said_at (list_of natural_of) (codes "shares") file;
  cap = option_and_then wagers_of (get_member (codes "limit") file);
}

-- an item is wrong where nothing is given of it, or where a plan of which nothing is given would not take its line
abbrev pub is_wrong_item : {A : Type 0} → (A → PlanLine) → Option A → Bool
is_wrong_item line given = option_map_or (λ value. is_wrong_line empty_draft (line value)) given true

-- levels are wrong where there are none or more than 40, or where one is not lawful or does not follow the one before
abbrev pub are_wrong_levels : List Blind → Bool
are_wrong_levels blinds = not (is_between 1 most_levels (length blinds) && are_levels blinds)

-- a fixed limit is wrong only where one is given
abbrev pub is_wrong_limit : Option ℕ → Bool
is_wrong_limit given = option_map_or (λ n. is_wrong_line empty_draft (lines.Limit n)) given false

-- what is wrong with the items of a file, each alone, in their order
abbrev pub item_checks : Draft → List (PlanItem × Bool)
item_checks draft =
    (items.Game, is_wrong_item lines.Game draft.game) ∷
    (items.Tables, is_wrong_item lines.Tables draft.tables) ∷
    (items.Seats, is_wrong_item lines.Seats draft.seats) ∷
    (items.Stack, is_wrong_item lines.Stack draft.stack) ∷
    (items.Buyin, is_wrong_item lines.Buyin draft.buyin) ∷
    (items.Late, is_wrong_item lines.Late draft.late) ∷
    (items.Blinds, are_wrong_levels draft.blinds) ∷
    (items.Shares, is_wrong_item lines.Shares draft.shares) ∷
    (items.Limit, is_wrong_limit draft.cap) ∷ []

-- the items of a file, unless one alone is wrong
unfoldable pub items_in : Members → Result Draft PlanItem
items_in file = unless (first_that_holds (item_checks (given file))) (given file)

-- the plan of a file: its items, unless one is wrong alone or together with the others at the end of the plan
unfoldable pub plan_in : Members → Result PlanTerms PlanItem
plan_in file = do
  draft ← items_in file
  unless (go_fault draft) (plan_of draft)

-- the plan that the bytes are, or else their first wrong item
abbrev pub plan_of_file : List ℕ → Result PlanTerms PlanItem
plan_of_file bytes = do
  file ← document_of bytes
  plan_in file

-- A fault is the wrong item that the reading finds. Memory may run out at any time, and tells nothing.
abbrev pub IsWrong : {A : Type 0} → Result A PlanItem → PlanFault → Type 0
IsWrong read (faults.Wrong item) = read ≡ Err item
IsWrong read faults.NoMemory = Unit {0}
