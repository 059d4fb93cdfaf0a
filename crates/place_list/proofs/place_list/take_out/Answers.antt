use Rattle.std.proofs.Common.{rules}
use Rattle.std.specs.Prelude.{not}
use Rattle.std.proofs.lemmas.Fn.{filter_same}
use Rattle.place_list.specs.Places.{is_bust_of}
use Rattle.place_list.proofs.place_list.take_out.Goals as goal

pub returns-clause-rows : goal.returns-clause-rows
returns-clause-rows c =
    filter_same _ (λ bust. not (is_bust_of c.args.player bust)) _ (λ bust keep g called. (search rules, search rules)) _ _
    c.retain.ensures.filtered
