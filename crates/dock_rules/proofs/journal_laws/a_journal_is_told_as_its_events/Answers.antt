use Rattle.std.proofs.Common.{sym, subst}
use Rattle.tournament_rules.specs.Valid.{IsValidState}
use Rattle.tournament_rules.proofs.Steps.{valid_events}
use Rattle.dock_rules.specs.Journals.{expand}
use Rattle.dock_rules.proofs.JournalTales.{accepted-told, count-told, state-told}
use Rattle.dock_rules.proofs.journal_laws.a_journal_is_told_as_its_events.Goals as goal

pub returns-clause-state : goal.returns-clause-state
returns-clause-state c = state-told

pub returns-clause-legal : goal.returns-clause-legal
returns-clause-legal c = accepted-told

pub returns-clause-valid : goal.returns-clause-valid
returns-clause-valid c = λ journal. subst IsValidState (sym (state-told journal)) (valid_events (expand journal))

pub returns-clause-count : goal.returns-clause-count
returns-clause-count c = count-told
