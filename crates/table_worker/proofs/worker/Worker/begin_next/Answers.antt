use Rattle.std.proofs.Common.{◌≡◌, ◌∙◌, ◌++◌, [], ℕ, Bool, List, None, Some, Result, false, true, sym, ap, subst}
use Rattle.std.specs.Prelude.{is_ok, Err, if◌then◌else◌}
use Rattle.history_lock.specs.Passes.{lock_of, pass_number, seen}
use Rattle.table_engine.specs.declared.record.ActFault.{ActFault}
use Rattle.table_engine.specs.Acts.{IsAnswer}
use Rattle.view_rules.specs.declared.entries.JournalEntry.{JournalEntry}
use Rattle.view_rules.specs.declared.entries.TableEntry.{TableEntry}
use Rattle.dock_rules.specs.Added.{only_if}
use Rattle.dock_rules.specs.Journals.{Tale, tale_of}
use Rattle.dock_rules.specs.Points.{hand_begun, next_begin, refusal_at}
use Rattle.table_worker.specs.declared.turn.Turn.{Turn}
use Rattle.table_worker.specs.Turns.{DidTurn, begin_entry, count_of, is_ended}
use Rattle.table_worker.specs.Visits.{IsVisit}
use Rattle.table_worker.proofs.Refusing.{given-up-stops}
use Rattle.table_worker.proofs.Standing.{ended-push}
use Rattle.table_worker.proofs.Turning.{did-give_up, turn-begun}
use Rattle.table_worker.proofs.Visiting.{visit-hold}
use Rattle.table_worker.proofs.worker.Worker.begin_next.Goals as goal

pub open-requires-clause-going : goal.open-requires-clause-going
open-requires-clause-going g c =
    let self = c.args.self in let k : ℕ = pass_number self.book in let table : ℕ = self.table in
    let stands = c.begin-worker.ensures.begun in
    ended-push stands.at k (next_begin (tale_of stands.at) table) [] (seen c.begin-worker.result.0.book)
    (stands.hold.left ∙ ap (λ (more : List JournalEntry). stands.at ++ more)
    (stands.is.2 ∙ ap (λ (begun : Result (Unit {0}) ActFault). only_if (is_ok begun)
    (begin_entry k table (tale_of stands.at))) c.in-Ok.is))

pub returns-in-Ok-clause-same : goal.returns-in-Ok-clause-same
returns-in-Ok-clause-same g c =
    let stands = c.begin-worker.ensures.begun in let rest = c.begin-worker.ensures.rest in
    let book = c.open.ensures.book in
    record {
      same_book = ap (λ pass. lock_of pass) book.0 ∙ stands.hold.lock;
      same_dock = c.open.ensures.turn.dock.lock ∙ ap (λ pass. lock_of pass) rest.1;
      same_number = ap (λ pass. pass_number pass) book.0 ∙ stands.hold.number;
      same_table = book.1 ∙ rest.0;
    }

pub returns-in-Ok-clause-turn : goal.returns-in-Ok-clause-turn
returns-in-Ok-clause-turn g c =
    let self = c.args.self in let k : ℕ = pass_number self.book in let table : ℕ = self.table in
    let stands = c.begin-worker.ensures.begun in let mid = c.begin-worker.result.0 in
    let tale : Tale = tale_of stands.at in
    turn-begun self mid c.open.result.0 stands.at stands.added
    (record {
      hold = stands.hold;
      dock = c.begin-worker.ensures.rest.1;
      table = c.begin-worker.ensures.rest.0;
      accepted = subst (IsAnswer {T = Unit {0}} (refusal_at tale (next_begin tale table))) c.in-Ok.is stands.is.0;
      carried = stands.is.1 ∙ ap (λ (begun : Result (Unit {0}) ActFault).
          if is_ok begun then Some (hand_begun tale table) else None) c.in-Ok.is;
      away = c.begin-worker.ensures.stage.0;
      idle = c.begin-worker.ensures.stage.2;
    })
    c.requires.free.0 c.requires.free.1 c.open.result.1 c.requires.idle c.open.ensures.ended.1 c.open.ensures.book.0
    (stands.is.2 ∙ ap (λ (begun : Result (Unit {0}) ActFault). only_if (is_ok begun) (begin_entry k table tale))
    c.in-Ok.is)
    c.open.ensures.turn

pub returns-in-Ok-clause-ended : goal.returns-in-Ok-clause-ended
returns-in-Ok-clause-ended g c =
    let self = c.args.self in let k : ℕ = pass_number self.book in let table : ℕ = self.table in
    let stands = c.begin-worker.ensures.begun in
    let going = ended-push stands.at k (next_begin (tale_of stands.at) table) [] (seen c.begin-worker.result.0.book)
    (stands.hold.left ∙ ap (λ (more : List JournalEntry). stands.at ++ more)
    (stands.is.2 ∙ ap (λ (begun : Result (Unit {0}) ActFault). only_if (is_ok begun)
    (begin_entry k table (tale_of stands.at))) c.in-Ok.is)) in
    let ended = c.open.ensures.ended in (
      ended.0 ∙ sym ended.1,
      ended.1 ∙ sym (ap (λ pass. (tale_of (seen pass)).ended) c.open.ensures.book.0 ∙ going),
    )

pub give_up-requires-clause-stopped : goal.give_up-requires-clause-stopped
give_up-requires-clause-stopped g c =
    let self = c.args.self in let k : ℕ = pass_number self.book in let table : ℕ = self.table in
    let stands = c.begin-worker.ensures.begun in let tale : Tale = tale_of stands.at in
    let left : seen c.begin-worker.result.0.book ≡ stands.at = (stands.hold.idle (stands.is.2
    ∙ ap (λ (begun : Result (Unit {0}) ActFault). only_if (is_ok begun) (begin_entry k table tale)) c.in-Err.is)).0 in
    let legal : tale.legal ≡ true =
    sym (ap (λ (journal : List JournalEntry). (tale_of journal).legal) left) ∙ c.begin-worker.ensures.legal.allowed in
    given-up-stops stands.at table c.in-Err.fault legal
    (subst (IsAnswer {T = Unit {0}} (refusal_at tale (next_begin tale table))) c.in-Err.is stands.is.0)
    ∙ sym (ap (λ (journal : List JournalEntry). (tale_of journal).ended) left)

pub returns-in-Err-clause-turn : goal.returns-in-Err-clause-turn
returns-in-Err-clause-turn g c =
    let self = c.args.self in let k : ℕ = pass_number self.book in let table : ℕ = self.table in
    let stands = c.begin-worker.ensures.begun in let tale : Tale = tale_of stands.at in
    let mid = c.begin-worker.result.0 in let after = c.give_up.result.0 in
    let none : stands.added ≡ [] = stands.is.2
    ∙ ap (λ (begun : Result (Unit {0}) ActFault). only_if (is_ok begun) (begin_entry k table tale)) c.in-Err.is in
    let visit = c.give_up.ensures.dock in
    let refused : IsAnswer {T = Unit {0}} (refusal_at tale (next_begin tale table)) (Err c.in-Err.fault) =
    subst (IsAnswer {T = Unit {0}} (refusal_at tale (next_begin tale table))) c.in-Err.is stands.is.0 in
    record {
      journal = stands.at;
      brought = stands.added;
      history = visit.at;
      made = visit.added;
      book = subst (λ pass. IsVisit 1 self.book pass stands.at stands.added) (sym c.give_up.ensures.book.0)
          (visit-hold self.book mid.book stands.at stands.added stands.hold);
      dock = subst (λ (lay : Bool). IsVisit (count_of lay) self.dock after.dock visit.at visit.added)
          (sym c.requires.free.0)
          (subst (λ pass. IsVisit 0 pass after.dock visit.at visit.added) c.begin-worker.ensures.rest.1 visit.visit);
      did = subst (λ (all : List JournalEntry × List TableEntry × Turn).
          DidTurn k table self.stage after.stage tale visit.at all.0 all.1 all.2)
          (λ i. (sym none i, sym visit.is i, sym c.give_up.ensures.turn i))
          (did-give_up k table self.stage after.stage tale visit.at c.in-Err.fault refused c.requires.free.0
          c.requires.free.1 c.give_up.ensures.free.0 c.give_up.ensures.free.1 c.give_up.ensures.free.2
          c.give_up.ensures.ended);
      asked = λ asks. absurd (let never : true ≡ false = sym asks ∙ c.requires.idle in cc);
    }

pub returns-in-Err-clause-ended : goal.returns-in-Err-clause-ended
returns-in-Err-clause-ended g c =
    let self = c.args.self in let k : ℕ = pass_number self.book in let table : ℕ = self.table in
    let stands = c.begin-worker.ensures.begun in let tale : Tale = tale_of stands.at in
    let left : seen c.begin-worker.result.0.book ≡ stands.at = (stands.hold.idle (stands.is.2
    ∙ ap (λ (begun : Result (Unit {0}) ActFault). only_if (is_ok begun) (begin_entry k table tale)) c.in-Err.is)).0 in
    let legal : tale.legal ≡ true =
    sym (ap (λ (journal : List JournalEntry). (tale_of journal).legal) left) ∙ c.begin-worker.ensures.legal.allowed in
    let stopped = given-up-stops stands.at table c.in-Err.fault legal
    (subst (IsAnswer {T = Unit {0}} (refusal_at tale (next_begin tale table))) c.in-Err.is stands.is.0) in
    let turn = c.give_up.ensures.turn in (
      c.give_up.ensures.ended ∙ sym (ap is_ended turn),
      ap is_ended turn ∙ (stopped ∙ sym (ap (λ pass. (tale_of (seen pass)).ended) c.give_up.ensures.book.0
          ∙ ap (λ (journal : List JournalEntry). (tale_of journal).ended) left)),
    )
