-- How somebody says hello in a session. This project's own.
use Rattle.std.specs.Prelude.{ℕ, List, [], ◌∷◌, codes, Option, Some, None, if◌then◌else◌}
use Rattle.std.specs.Str.{bytes_eq}
use Rattle.line_words.specs.Words.{words_of_line}
use Rattle.line_words.specs.Fields.{◌>>=◌, name_of}
use Rattle.plan_files.specs.Words.{WordTerms, word_of}
use Rattle.session_lines.specs.declared.hello.Speaker.{Speaker}
use Rattle.session_lines.specs.declared.hello.Speaker.TheVariants.{Floor, Player}

-- whoever says a word says hello, where it is this one
abbrev pub if_word : List ℕ → List ℕ → Speaker → Option Speaker
if_word right word speaker = if bytes_eq word right then Some speaker else None

-- Who says hello by a name and a word: the floor where it is the floor's word, and a player where the plan file has
-- that word for that name. No player is named floor.
abbrev pub speaker_named : WordTerms → List ℕ → List ℕ → Option Speaker
speaker_named words name word =
    if bytes_eq name (codes "floor") then if_word words.floor word Floor else do
      player ← name_of name
      right ← word_of words.players player
      if_word right word (Player player)

-- who says hello by the words of a line: `hello`, a name and a word
abbrev pub hello_by : WordTerms → List (List ℕ) → Option Speaker
hello_by words (first ∷ name ∷ word ∷ []) =
    if bytes_eq first (codes "hello") then speaker_named words name word else None
hello_by words pieces = None

-- Who says hello by a line, if it is a right one.
unfoldable pub hello_of : WordTerms → List ℕ → Option Speaker
hello_of words line = hello_by words (words_of_line line)
