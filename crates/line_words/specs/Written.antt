-- How the words of a line are written. This project's own.
use Rattle.std.specs.Prelude.{ℕ, List}
use Rattle.std.specs.Fmt.{decimal}
use Rattle.card_set.specs.Cards.{row_text}
use Rattle.line_words.specs.Fields.{place_text, list_text}
use Rattle.line_words.specs.declared.line_writer.Word.{Word}
use Rattle.line_words.specs.declared.line_writer.Word.TheVariants.{Text, Number, Cards, Places, Names}

-- how a word is spelled
abbrev pub word_text : Word → List ℕ
word_text (Text text) = text.now
word_text (Number n) = decimal n
word_text (Cards row) = row_text row.now.cards
word_text (Places places) = list_text place_text places.now
word_text (Names names) = list_text (λ name. name) names.now
