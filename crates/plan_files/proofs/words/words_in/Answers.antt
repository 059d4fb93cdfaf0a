-- The words are read one after the other.
use Rattle.std.proofs.Common.{sym, ◌∙◌}
use Rattle.plan_files.specs.Words.{words_in}
use Rattle.plan_files.proofs.words.words_in.Goals as goal

pub returns-in_default-clause-wrong : goal.returns-in_default-clause-wrong
unfolding words_in
returns-in_default-clause-wrong c = rw (sym c.in_ok-floor.ensures ∙ c.in_default.is)

pub returns-in_default-2-clause-wrong : goal.returns-in_default-2-clause-wrong
unfolding words_in
returns-in_default-2-clause-wrong c =
    rw (sym c.in_ok-floor.ensures ∙ c.in-Some.is, sym c.in_ok-players.ensures ∙ c.in_default-2.is)

pub returns-clause-words : goal.returns-clause-words
unfolding words_in
returns-clause-words c =
    rw (sym c.in_ok-floor.ensures ∙ c.in-Some.is, sym c.in_ok-players.ensures ∙ c.in-Some-2.is)
