-- The rows of a grammar. A row is the first word of a line, the fields behind it, and what they make; so it says how a
-- line is read, how it is spelled and what may be spelled. This project's own.
use Rattle.std.specs.Prelude.{◌≡◌, ℕ, Bool, List, [], ◌∷◌, map, Option, Some, None, option_map, option_and_then, if◌then◌else◌}
use Rattle.std.specs.Bool.{then_some}
use Rattle.std.specs.Fmt.{decimal}
use Rattle.std.specs.List.{join_with_byte}
use Rattle.std.specs.Str.{bytes_eq}
use Rattle.std.proofs.Common.{refl}
use Rattle.floor_text.specs.Numbers.{IsLineNumber, number_of}
use Rattle.card_set.specs.declared.card.CardRow.{CardRow}
use Rattle.card_set.specs.declared.game.Game.{Game}
use Rattle.card_set.specs.Cards.{row_text, row_of}
use Rattle.betting_round.specs.declared.act.Act.{Act}
use Rattle.seat_book.specs.declared.place.Place.{Place}
use Rattle.line_words.specs.Limits.{most_members}
use Rattle.line_words.specs.Words.{no_word}
use Rattle.line_words.specs.Fields.{name_of, IsLineName, game_of, game_word, switch_of, switch_word, next_by, last_by, act_of, act_words, HasLineAmount, amount_if_any, words_if_any, few_of, AreFew, place_of, place_text, IsLinePlace, members_of, list_text}

-- a field that is one word
pub data Field : Type 0 where
  a_number : Field
  a_name : Field
  a_row : Field
  a_game : Field
  a_switch : Field
  some_places : Field
  some_names : Field

-- the fields of a line: none; one in the only word that is left; one word, and fields behind it; and an act, an amount
-- that is left out where it is 0, or at least one and at most so many of a kind, in all words that are left
infixr 5 ◌▸◌
pub data Fields : Type 0 where
  no_field : Fields
  last : Field → Fields
  ◌▸◌ : Field → Fields → Fields
  an_act : Fields
  if_any : Fields
  few : ℕ → Field → Fields

-- what a field says
abbrev pub Value : Field → Type 0
Value a_number = ℕ
Value a_name = List ℕ
Value a_row = CardRow
Value a_game = Game
Value a_switch = Bool
Value some_places = List Place
Value some_names = List (List ℕ)

-- what the fields of a line say
abbrev pub Values : Fields → Type 0
Values no_field = Unit {0}
Values (last field) = Value field
Values (field ▸ fields) = Value field × Values fields
Values an_act = Act
Values if_any = ℕ
Values (few most field) = List (Value field)

-- how a word is read as a field
abbrev pub value_of : (field : Field) → List ℕ → Option (Value field)
value_of a_number = number_of
value_of a_name = name_of
value_of a_row = row_of
value_of a_game = game_of
value_of a_switch = switch_of
value_of some_places = members_of most_members place_of
value_of some_names = members_of most_members name_of

-- how a field is spelled
abbrev pub field_word : (field : Field) → Value field → List ℕ
field_word a_number n = decimal n
field_word a_name name = name
field_word a_row row = row_text row.cards
field_word a_game game = game_word game
field_word a_switch on = switch_word on
field_word some_places places = list_text place_text places
field_word some_names names = list_text (λ name. name) names

-- what may stand in a field
abbrev pub IsLawful : (field : Field) → Value field → Type 0
IsLawful a_number n = IsLineNumber n
IsLawful a_name name = IsLineName name
IsLawful a_row row = Unit {0}
IsLawful a_game game = Unit {0}
IsLawful a_switch on = Unit {0}
IsLawful some_places places = AreFew most_members IsLinePlace places
IsLawful some_names names = AreFew most_members IsLineName names

-- how the fields of a line are spelled
abbrev pub field_words : (fields : Fields) → Values fields → List (List ℕ)
field_words no_field values = []
field_words (last field) value = field_word field value ∷ []
field_words (field ▸ fields) values = field_word field values.0 ∷ field_words fields values.1
field_words an_act act = act_words act
field_words if_any n = words_if_any n
field_words (few most field) values = map (field_word field) values

-- what may stand in the fields of a line
abbrev pub AreLawful : (fields : Fields) → Values fields → Type 0
AreLawful no_field values = Unit {0}
AreLawful (last field) value = IsLawful field value
AreLawful (field ▸ fields) values = IsLawful field values.0 × AreLawful fields values.1
AreLawful an_act act = HasLineAmount act
AreLawful if_any n = IsLineNumber n
AreLawful (few most field) values = AreFew most (IsLawful field) values

-- what makes something of the fields of a line
abbrev pub Maker : Fields → Type 0 → Type 0
Maker no_field A = A
Maker (last field) A = Value field → A
Maker (field ▸ fields) A = Value field → Maker fields A
Maker an_act A = Act → A
Maker if_any A = ℕ → A
Maker (few most field) A = List (Value field) → A

-- what is made of what the fields say
abbrev pub made : {A : Type 0} → (fields : Fields) → Maker fields A → Values fields → A
made no_field make values = make
made (last field) make value = make value
made (field ▸ fields) make values = made fields (make values.0) values.1
made an_act make act = make act
made if_any make n = make n
made (few most field) make values = make values

-- what is made of the words that are left, read as these fields, where they are such
unfoldable pub read_fields : {A : Type 0} → (fields : Fields) → Maker fields A → List (List ℕ) → Option A
read_fields no_field make words = then_some (no_word words) make
read_fields (last field) make words = option_map make (last_by (value_of field) words)
read_fields (field ▸ fields) make words =
    option_and_then (λ read. read_fields fields (make read.0) read.1) (next_by (value_of field) words)
read_fields an_act make words = option_map make (act_of words)
read_fields if_any make words = option_map make (amount_if_any words)
read_fields (few most field) make words = option_map make (few_of most (value_of field) words)

-- A row of a grammar: the first word of a line, the fields behind it, and what they make.
pub record Row (A : Type 0) : Type 0 where
  pub word : List ℕ
  pub fields : Fields
  pub make : Maker fields A

-- the row of a first word, of the fields behind it, and of what they make
abbrev pub row : {A : Type 0} → List ℕ → (fields : Fields) → Maker fields A → Row A
row word fields make = record { word = word; fields = fields; make = make }

-- the row that a grammar has for a first word
abbrev pub row_at : {A : Type 0} → List (Row A) → List ℕ → Option (Row A)
row_at [] word = None
row_at (row ∷ rows) word = if bytes_eq word row.word then Some row else row_at rows word

-- what the words behind the first are read as, by its row
abbrev pub read_at : {A : Type 0} → Option (Row A) → List (List ℕ) → Option A
read_at None words = None
read_at (Some row) words = read_fields row.fields row.make words

-- what a first word and the words behind it are read as
abbrev pub read_by : {A : Type 0} → List (Row A) → List ℕ → List (List ℕ) → Option A
read_by rows word words = read_at (row_at rows word) words

-- what the words of a line are read as
abbrev pub read_words : {A : Type 0} → List (Row A) → List (List ℕ) → Option A
read_words rows [] = None
read_words rows (word ∷ words) = read_by rows word words

-- what the fields of a row say; where there is no row nothing is said
abbrev pub ValuesAt : {A : Type 0} → Option (Row A) → Type 0
ValuesAt None = ⊥
ValuesAt (Some row) = Values row.fields

-- what a row makes of its fields
abbrev pub made_at : {A : Type 0} → (row : Option (Row A)) → ValuesAt row → A
made_at None values = absurd values
made_at (Some row) values = made row.fields row.make values

-- how the fields of a row are spelled
abbrev pub words_at : {A : Type 0} → (row : Option (Row A)) → ValuesAt row → List (List ℕ)
words_at None values = []
words_at (Some row) values = field_words row.fields values

-- what may stand in the fields of a row
abbrev pub AreLawfulAt : {A : Type 0} → (row : Option (Row A)) → ValuesAt row → Type 0
AreLawfulAt None values = ⊥
AreLawfulAt (Some row) values = AreLawful row.fields values

-- The line of something: the first word and what the fields say, of which the row of that word makes just this.
pub record Line {A : Type 0} (rows : List (Row A)) (told : A) : Type 0 where
  pub word : List ℕ
  pub values : ValuesAt (row_at rows word)
  pub makes : made_at (row_at rows word) values ≡ told

-- the line of a first word and of what its fields say
abbrev pub line : {A : Type 0} → (rows : List (Row A)) → (word : List ℕ) → (values : ValuesAt (row_at rows word))
    → Line rows (made_at (row_at rows word) values)
line rows word values = record { word = word; values = values; makes = refl }

-- the words of a line
abbrev pub words_of : {A : Type 0} → {rows : List (Row A)} → {told : A} → Line rows told → List (List ℕ)
words_of {A} {rows} {told} line = line.word ∷ words_at (row_at rows line.word) line.values

-- what a line says may stand in it
abbrev pub IsLawfulLine : {A : Type 0} → {rows : List (Row A)} → {told : A} → Line rows told → Type 0
IsLawfulLine {A} {rows} {told} line = AreLawfulAt (row_at rows line.word) line.values

-- the text of a line: its words with one space between each two
abbrev pub text_of : {A : Type 0} → {rows : List (Row A)} → {told : A} → Line rows told → List ℕ
text_of {A} {rows} {told} line = join_with_byte 32 (words_of line)
