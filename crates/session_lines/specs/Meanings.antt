-- What a line means in a session. This project's own.
use Rattle.std.specs.Prelude.{ℕ, List, codes, Option, Some, None, if◌then◌else◌}
use Rattle.std.specs.Option.{option_map_or}
use Rattle.std.specs.Str.{bytes_eq}
use Rattle.plan_files.specs.Words.{WordTerms}
use Rattle.session_lines.specs.declared.hello.Speaker.{Speaker}
use Rattle.session_lines.specs.declared.meaning.Meaning.{Meaning}
use Rattle.session_lines.specs.declared.meaning.Meaning.TheVariants.{Quit, Hello, Stranger, Nonsense, Asks}
use Rattle.session_lines.specs.Hellos.{hello_of}
use Rattle.session_lines.specs.Requests.{request_of}

-- what a line means that is not the one that ends the session: before a right hello it is one, or comes from a
-- stranger; behind it, it asks for something or is in no grammar
abbrev pub said_by : WordTerms → Option Speaker → List ℕ → Meaning
said_by words None line = option_map_or Hello (hello_of words line) Stranger
said_by words (Some speaker) line = option_map_or Asks (request_of speaker line) Nonsense

-- what a line means that is too long
abbrev pub too_long_by : Option Speaker → Meaning
too_long_by None = Stranger
too_long_by (Some speaker) = Nonsense

-- What a line means in a session where this one speaks, or nobody before a right hello; no line stands for one that is
-- too long.
unfoldable pub meaning_of : WordTerms → Option Speaker → Option (List ℕ) → Meaning
meaning_of words speaker None = too_long_by speaker
meaning_of words speaker (Some line) = if bytes_eq line (codes "quit") then Quit else said_by words speaker line
