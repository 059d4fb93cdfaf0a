-- What the values of a plan file say: a number, a game, a level, a list of these. This project's own.
use Rattle.std.specs.Prelude.{ℕ, ℤ, pos, negsuc, Bool, true, false, List, [], ◌∷◌, Option, Some, None, nat_lt, option_and_then, if◌then◌else◌}
use Rattle.std.specs.Option.{option_map_or}
use Rattle.toml.specs.Data.{Data, Items, no_items, item, Members, get_member, as_integer, as_str, as_array}
use Rattle.card_set.specs.declared.game.Game.{Game}
use Rattle.line_words.specs.Fields.{◌>>=◌, game_of}
use Rattle.level_plan.specs.declared.plan.Blind.{Blind}

-- the number that a whole number is, where it is not negative
abbrev pub natural : ℤ → Option ℕ
natural (pos n) = Some n
natural (negsuc n) = None

-- a whole number that is not negative
abbrev pub natural_of : Data → Option ℕ
natural_of value = option_and_then natural (as_integer value)

-- a text that is the word of a game
abbrev pub game_named : Data → Option Game
game_named value = option_and_then game_of (as_str value)

-- a whole number that is at least 1
abbrev pub ante_of : Data → Option ℕ
ante_of value = option_and_then (λ n. if nat_lt 0 n then Some n else None) (natural_of value)

-- whether there is no member
abbrev pub has_no_item : Items → Bool
has_no_item no_items = true
has_no_item (item first items) = false

-- whether a value is a list with no member
abbrev pub is_empty_list : Data → Bool
is_empty_list value = option_map_or has_no_item (as_array value) false

-- three numbers, as those of a level: its small blind, its big blind and its unit; and its ante, where it has one
abbrev pub level_of_items : Items → Option Blind
level_of_items (item first (item second (item third no_items))) = do
  small ← natural_of first
  big ← natural_of second
  unit ← natural_of third
  Some (record { small = small; big = big; unit = unit; ante = 0 })
level_of_items (item first (item second (item third (item fourth no_items)))) = do
  small ← natural_of first
  big ← natural_of second
  unit ← natural_of third
  ante ← ante_of fourth
  Some (record { small = small; big = big; unit = unit; ante = ante })
level_of_items (item first (item second (item third (item fourth (item fifth items))))) = None
level_of_items (item first (item second no_items)) = None
level_of_items (item first no_items) = None
level_of_items no_items = None

-- a level: a list of its three or four numbers
abbrev pub level_of : Data → Option Blind
level_of value = option_and_then level_of_items (as_array value)

-- what each item says, where each says something
abbrev pub each_item : {A : Type 0} → (Data → Option A) → Items → Option (List A)
each_item said no_items = Some []
each_item said (item value items) = do
  first ← said value
  others ← each_item said items
  Some (first ∷ others)

-- a list of such values
abbrev pub list_of : {A : Type 0} → (Data → Option A) → Data → Option (List A)
list_of said value = option_and_then (each_item said) (as_array value)

-- what a file says at a key, where it has the key and says something there
abbrev pub said_at : {A : Type 0} → (Data → Option A) → List ℕ → Members → Option A
said_at said key file = option_and_then said (get_member key file)
