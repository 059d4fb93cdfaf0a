-- The session words of a plan file: the floor's, and the players'. This project's own.
use Rattle.std.specs.Prelude.{ℕ, nat_le, List, [], ◌∷◌, length, codes, Option, Some, None, Result, Ok, option_map, option_and_then, find, if◌then◌else◌}
use Rattle.std.specs.Option.{ok_or}
use Rattle.std.specs.Str.{bytes_eq}
use Rattle.toml.specs.Data.{Data, Members, no_members, member, as_str, as_table}
use Rattle.floor_text.specs.Names.{is_name}
use Rattle.rulebook.specs.Limits.{most_entries}
use Rattle.level_plan.specs.Plans.{PlanTerms}
use Rattle.level_plan.specs.declared.line.PlanItem.{PlanItem}
use Rattle.level_plan.specs.declared.line.PlanItem.TheVariants as items
use Rattle.plan_files.specs.declared.words.PlayerWord.{PlayerWord}
use Rattle.plan_files.specs.FileValues.{said_at}
use Rattle.plan_files.specs.PlanFiles.{◌>>=◌, document_of, plan_in}
use Rattle.plan_files.specs.SessionWords.{is_session_word}

-- the words of all who may open a session
pub record WordTerms : Type 0 where
  pub floor : List ℕ
  pub players : List PlayerWord

-- a text that is a session word
abbrev pub word_named : Data → Option (List ℕ)
word_named value = option_and_then (λ text. if is_session_word text then Some text else None) (as_str value)

-- a player's word: his name is the key, and the word the value
abbrev pub player_of : List ℕ → Data → Option PlayerWord
player_of key value =
    if is_name key then option_map (λ word. record { name = key; word = word }) (word_named value) else None

-- the words of players, where each member is one
abbrev pub each_player : Members → Option (List PlayerWord)
each_player no_members = Some []
each_player (member key value members) =
    option_and_then (λ player. option_map (λ players. player ∷ players) (each_player members)) (player_of key value)

-- words of players, of whom there are at most as many as may enter
abbrev pub players_of : Data → Option (List PlayerWord)
players_of value =
    option_and_then (λ players. if nat_le (length players) most_entries then Some players else None)
    (option_and_then each_player (as_table value))

-- the words of a file
unfoldable pub words_in : Members → Result WordTerms PlanItem
words_in file = do
  floor ← ok_or (said_at word_named (codes "floor_word") file) items.FloorWord
  players ← ok_or (said_at players_of (codes "words") file) items.Words
  Ok (record { floor = floor; players = players })

-- the plan and the words that the bytes are, or else their first wrong item
abbrev pub served_of_file : List ℕ → Result (PlanTerms × WordTerms) PlanItem
served_of_file bytes = do
  file ← document_of bytes
  plan ← plan_in file
  words ← words_in file
  Ok (plan, words)

-- the word of a name, where it has one
abbrev pub word_of : List PlayerWord → List ℕ → Option (List ℕ)
word_of players name = option_map (λ player. player.word) (find (λ player. bytes_eq player.name name) players)
