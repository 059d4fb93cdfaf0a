-- The fields of a line: what a word is read as, how it is spelled, and what may be spelled. A field is one word, and
-- the last field of a line may be all words that are left. This project's own.
use Rattle.std.specs.Prelude.{ℕ, ◌≤◌, Bool, true, false, ◌==◌, ◌&&◌, nat_le, nat_lt, IsTrue, List, [], ◌∷◌, length, map, codes, Option, Some, None, option_map, option_and_then, if◌then◌else◌}
use Rattle.std.specs.Fmt.{decimal}
use Rattle.std.specs.List.{join_with_byte, AllByRecursion}
use Rattle.std.specs.Str.{bytes_eq}
use Rattle.floor_text.specs.Names.{is_name}
use Rattle.floor_text.specs.Numbers.{IsLineNumber, number_of}
use Rattle.card_set.specs.declared.game.Game.{Game}
use Rattle.card_set.specs.declared.game.Game.TheVariants.{Holdem, Omaha, Hilo}
use Rattle.betting_round.specs.declared.act.Act.{Act}
use Rattle.betting_round.specs.declared.act.Act.TheVariants.{Fold, Check, Call, AllIn, Bet, Raise}
use Rattle.seat_book.specs.declared.place.Place.{Place}
use Rattle.seat_book.specs.Places.{IsPlaceOf, is_place_of}
use Rattle.rulebook.specs.Limits.{most_tables, most_seats}
use Rattle.line_words.specs.Words.{pieces_of}

-- a step, and what follows where it found something
infixl 10 ◌>>=◌
abbrev pub ◌>>=◌ : {A B : Type 0} → Option A → (A → Option B) → Option B
o >>= f = option_and_then f o

-- a word is looked up in a list of words, each with what it stands for
abbrev pub meaning : {A : Type 0} → List (List ℕ × A) → List ℕ → Option A
meaning [] word = None
meaning (entry ∷ entries) word = if bytes_eq word entry.0 then Some entry.1 else meaning entries word

-- the name that a word is
abbrev pub name_of : List ℕ → Option (List ℕ)
name_of word = if is_name word then Some word else None

-- a name that a line may hold
abbrev pub IsLineName : List ℕ → Type 0
IsLineName name = IsTrue (is_name name)

-- the words of the games
abbrev pub game_list : List (List ℕ × Game)
game_list = (codes "holdem", Holdem) ∷ (codes "omaha", Omaha) ∷ (codes "hilo", Hilo) ∷ []

-- the game that a word names
abbrev pub game_of : List ℕ → Option Game
game_of word = meaning game_list word

-- the word of a game
abbrev pub game_word : Game → List ℕ
game_word Holdem = codes "holdem"
game_word Omaha = codes "omaha"
game_word Hilo = codes "hilo"

-- the words for on and off, and whether each is on
abbrev pub switch_list : List (List ℕ × Bool)
switch_list = (codes "on", true) ∷ (codes "off", false) ∷ []

-- whether it is on, as a word says
abbrev pub switch_of : List ℕ → Option Bool
switch_of word = meaning switch_list word

-- the word for on or off
abbrev pub switch_word : Bool → List ℕ
switch_word true = codes "on"
switch_word false = codes "off"

-- the first word read as a field, and the words behind it
unfoldable pub next_by : {A : Type 0} → (List ℕ → Option A) → List (List ℕ) → Option (A × List (List ℕ))
next_by read [] = None
next_by read (word ∷ words) = option_map (λ value. (value, words)) (read word)

-- the only word that is left, read as a field
unfoldable pub last_by : {A : Type 0} → (List ℕ → Option A) → List (List ℕ) → Option A
last_by read [] = None
last_by read (word ∷ []) = read word
last_by read (word ∷ more ∷ words) = None

-- the words of the acts without an amount
abbrev pub act_list : List (List ℕ × Act)
act_list = (codes "fold", Fold) ∷ (codes "check", Check) ∷ (codes "call", Call) ∷ (codes "allin", AllIn) ∷ []

-- the words of the acts with this amount behind them
abbrev pub amount_list : ℕ → List (List ℕ × Act)
amount_list n = (codes "bet", Bet n) ∷ (codes "raise", Raise n) ∷ []

-- the act that the words left name: one word, or one word and an amount
unfoldable pub act_of : List (List ℕ) → Option Act
act_of [] = None
act_of (word ∷ []) = meaning act_list word
act_of (word ∷ amount ∷ []) = option_and_then (λ n. meaning (amount_list n) word) (number_of amount)
act_of (word ∷ amount ∷ more ∷ words) = None

-- the words of an act
abbrev pub act_words : Act → List (List ℕ)
act_words Fold = codes "fold" ∷ []
act_words Check = codes "check" ∷ []
act_words Call = codes "call" ∷ []
act_words AllIn = codes "allin" ∷ []
act_words (Bet n) = codes "bet" ∷ decimal n ∷ []
act_words (Raise n) = codes "raise" ∷ decimal n ∷ []

-- the amount of an act is a number of a line
abbrev pub HasLineAmount : Act → Type 0
HasLineAmount Fold = Unit {0}
HasLineAmount Check = Unit {0}
HasLineAmount Call = Unit {0}
HasLineAmount AllIn = Unit {0}
HasLineAmount (Bet n) = IsLineNumber n
HasLineAmount (Raise n) = IsLineNumber n

-- the amount that the words left say: no word says 0, and one word a number above 0
unfoldable pub amount_if_any : List (List ℕ) → Option ℕ
amount_if_any [] = Some 0
amount_if_any (word ∷ []) = option_and_then (λ n. if nat_lt 0 n then Some n else None) (number_of word)
amount_if_any (word ∷ more ∷ words) = None

-- the words of an amount that is left out where it is 0
abbrev pub words_if_any : ℕ → List (List ℕ)
words_if_any n = if n == 0 then [] else decimal n ∷ []

-- what all words are, where each is something
abbrev pub each_of : {A : Type 0} → (List ℕ → Option A) → List (List ℕ) → Option (List A)
each_of read [] = Some []
each_of read (word ∷ words) = do
  first ← read word
  others ← each_of read words
  Some (first ∷ others)

-- what all words are, where they are at least one and at most so many, and each is something
abbrev pub few_of : {A : Type 0} → ℕ → (List ℕ → Option A) → List (List ℕ) → Option (List A)
few_of most read words = do
  items ← each_of read words
  if nat_le 1 (length items) && nat_le (length items) most then Some items else None

-- items are at least one and at most so many, and each fits
abbrev pub AreFew : {A : Type 0} → ℕ → (A → Type 0) → List A → Type 0
AreFew most Fits items = (1 ≤ length items) × (length items ≤ most) × AllByRecursion Fits items

-- a place that a line may hold: one of the seats 1 to 10 at one of the tables 1 to 64
abbrev pub IsLinePlace : Place → Type 0
IsLinePlace place = IsPlaceOf most_tables most_seats place

-- the place of these numbers, where there is one
abbrev pub place_at : ℕ → ℕ → Option Place
place_at table seat =
    let place : Place = record { table = table; seat = seat } in
    if is_place_of most_tables most_seats place then Some place else None

-- the place that a word is: the number of a table and that of a seat, with a point between them
unfoldable pub place_of : List ℕ → Option Place
place_of word = do
  table ← next_by number_of (pieces_of 46 word)
  seat ← last_by number_of table.1
  place_at table.0 seat

-- the text of a place
abbrev pub place_text : Place → List ℕ
place_text place = join_with_byte 46 (decimal place.table ∷ decimal place.seat ∷ [])

-- the members of the list that a word is, with a comma between each two: at least one and at most so many
unfoldable pub members_of : {A : Type 0} → ℕ → (List ℕ → Option A) → List ℕ → Option (List A)
members_of most read word = few_of most read (pieces_of 44 word)

-- the text of a list: its members with a comma between each two
abbrev pub list_text : {A : Type 0} → (A → List ℕ) → List A → List ℕ
list_text write items = join_with_byte 44 (map write items)
