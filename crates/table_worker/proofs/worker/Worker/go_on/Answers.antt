use Rattle.std.proofs.Common.{◌≡◌, ◌∙◌, Bool, sym, ap, subst}
use Rattle.history_lock.specs.Holds.{IsHold}
use Rattle.view_rules.specs.declared.entries.TableEntry.TheVariants.{Closed}
use Rattle.dock_rules.specs.Added.{only_if}
use Rattle.table_worker.specs.Stages.{does_lie}
use Rattle.table_worker.specs.Turns.{count_of}
use Rattle.table_worker.specs.Visits.{IsVisit}
use Rattle.table_worker.proofs.Turning.{turn-looked}
use Rattle.table_worker.proofs.Visiting.{visit-hold}
use Rattle.table_worker.proofs.worker.Worker.go_on.Goals as goal

pub returns-then-stopped-clause-turn : goal.returns-then-stopped-clause-turn
returns-then-stopped-clause-turn g c =
    let self = c.args.self in
    let stands = c.look-worker.ensures.looked in let rest = c.look-worker.ensures.rest in
    let mid = c.look-worker.result.0 in let after = c.end.result in
    let visit = c.end.ensures.dock in
    let same : does_lie mid.stage ≡ does_lie self.stage = ap does_lie rest.2 in
    record {
      journal = stands.at;
      brought = stands.added;
      history = visit.at;
      made = visit.added;
      book = subst (λ pass. IsVisit 1 self.book pass stands.at stands.added) (sym c.end.ensures.book.0)
          (visit-hold self.book mid.book stands.at stands.added stands.hold);
      dock = subst (λ (lay : Bool). IsVisit (count_of lay) self.dock after.dock visit.at visit.added) same
          (subst (λ pass. IsVisit (count_of (does_lie mid.stage)) pass after.dock visit.at visit.added) rest.1
          visit.visit);
      did = record {
        done = c.end.ensures.ended;
        brought_none = stands.is.1;
        made_end = visit.is ∙ ap (λ (lay : Bool). only_if lay Closed) same;
      };
      asked = λ asks none open_. absurd cc;
    }

pub returns-in-Carrying-clause-turn : goal.returns-in-Carrying-clause-turn
returns-in-Carrying-clause-turn g c =
    let self = c.args.self in
    let stands = c.look-worker.ensures.looked in let rest = c.look-worker.ensures.rest in
    let mid = c.look-worker.result.0 in
    turn-looked 0 self mid c.open.result.0 stands.at c.open.result.1
    (record {
      hold = subst (IsHold self.book mid.book stands.at) stands.is.1 stands.hold;
      dock = rest.1;
      table = rest.0;
    })
    rest.2 c.open.ensures.turn

pub returns-in-Lying-clause-turn : goal.returns-in-Lying-clause-turn
returns-in-Lying-clause-turn g c =
    let self = c.args.self in
    let stands = c.look-worker.ensures.looked in let rest = c.look-worker.ensures.rest in
    let mid = c.look-worker.result.0 in
    turn-looked 0 self mid c.bring_back.result.0 stands.at c.bring_back.result.1
    (record {
      hold = subst (IsHold self.book mid.book stands.at) stands.is.1 stands.hold;
      dock = rest.1;
      table = rest.0;
    })
    rest.2 c.bring_back.ensures.turn
