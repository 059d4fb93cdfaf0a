use Rattle.std.proofs.Common.{◌∙◌}
use Rattle.whole_laws.proofs.TheWhole.{the-whole}
use Rattle.floor_crew.proofs.ActsHeld.{acts-held}
use Rattle.floor_crew.proofs.laws.what_was_held_is_one_tournament.Goals as goal

pub returns-clause-whole : goal.returns-clause-whole
returns-clause-whole g c = λ plan words seed journal doors held. the-whole journal held.histories held.matched

pub returns-clause-acts : goal.returns-clause-acts
returns-clause-acts g c = λ plan words seed journal doors table held.
    (the-whole journal held.histories held.matched).acts table
    ∙ acts-held table (held.histories table) (held.matched.tables_legal table)
