-- Words and lines. This project's own.
use Rattle.std.specs.Prelude.{◌≡◌, ℕ, Bool, true, false, ◌==◌, List, [], ◌∷◌, ◌++◌, Option, Some, None, length, take}
use Rattle.std.specs.List.{slice_split, join_with_byte}

-- a line: its words with one space between each two, and a line feed
abbrev pub line_of_words : List (List ℕ) → List ℕ
line_of_words words = join_with_byte 32 words ++ 10 ∷ []

-- the pieces of bytes are what stands before, between and behind those that are this one
abbrev pub pieces_of : ℕ → List ℕ → List (List ℕ)
pieces_of between bytes = slice_split (λ byte. byte == between) bytes

-- the words of a line are the pieces between its spaces
abbrev pub words_of_line : List ℕ → List (List ℕ)
words_of_line line = pieces_of 32 line

-- the pieces of what is left, and none where nothing is left
abbrev pub pieces_of_rest : ℕ → Option (List ℕ) → List (List ℕ)
pieces_of_rest between None = []
pieces_of_rest between (Some rest) = pieces_of between rest

-- whether no word is left
abbrev pub no_word : List (List ℕ) → Bool
no_word [] = true
no_word (word ∷ words) = false

-- a list begins with another
abbrev pub Extends : List ℕ → List ℕ → Type 0
Extends old new = take (length old) new ≡ old
