use Rattle.std.proofs.Common.{◌≡◌}
use Rattle.tournament_rules.specs.Effects.{void_first}
use Rattle.floor_book.proofs.book.Book.close.Given as goal

abbrev pub invariant-loop-below : goal.invariant-loop-below
invariant-loop-below l = l.self ≡ void_first l.initial.self l.below
