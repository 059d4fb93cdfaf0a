use Rattle.std.proofs.Common.{◌≡◌, ◌++◌, map, take}
use Rattle.std.specs.List.{flat_map}
use Rattle.line_words.specs.Words.{line_of_words}
use Rattle.line_words.specs.Written.{word_text}
use Rattle.line_words.proofs.line_writer.push_lines.Given as goal

abbrev pub invariant-loop-line : goal.invariant-loop-line
invariant-loop-line l = l.out.items ≡ l.initial.out.items
    ++ flat_map (λ line. line_of_words (map word_text line.now)) (take l.line-index l.lines)
