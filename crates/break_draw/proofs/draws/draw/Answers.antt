use Rattle.std.proofs.Common.{rules}
use Rattle.std.proofs.lemmas.List.Sorted.{IsPermutation-refl}
use Rattle.break_draw.proofs.Reorders.{draw-right}
use Rattle.break_draw.proofs.draws.draw.Goals as goal

-- Whichever lists are handed out, they are those of the call in some order.
pub returns-clause-right : goal.returns-clause-right
returns-clause-right c =
    λ seating table names_are. draw-right seating table c.args.fill.now.items _ c.args.names.now.items _
    names_are (search (rules, IsPermutation-refl)) (search (rules, IsPermutation-refl))

pub returns-clause-names : goal.returns-clause-names
returns-clause-names c = search rules
