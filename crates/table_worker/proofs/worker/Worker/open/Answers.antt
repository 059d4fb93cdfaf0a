use Rattle.std.proofs.Common.{rules, ◌≡◌, ◌∙◌, ◌++◌, ◌∷◌, [], ℕ, Bool, List, Option, None, Some, IfSome, is_none, false, true, refl, sym, ap, subst, arith}
use Rattle.std.specs.Prelude.{◌&&◌, unwrap_or}
use Rattle.std.proofs.lemmas.Option.{same_Some}
use Rattle.history_lock.specs.Passes.{own, pass_number, seen}
use Rattle.table_engine.specs.Hands.{HandTerms}
use Rattle.view_rules.specs.declared.entries.TableEntry.{TableEntry}
use Rattle.view_rules.specs.declared.entries.TableEntry.TheVariants.{Opened}
use Rattle.dock_rules.specs.Added.{only_if}
use Rattle.dock_rules.specs.Journals.{tale_of}
use Rattle.dock_rules.specs.Points.{hand_begun}
use Rattle.table_worker.specs.Stages.{hand_carried}
use Rattle.table_worker.specs.Ties.{IsTied}
use Rattle.table_worker.specs.Turns.{begin_entry, count_of}
use Rattle.table_worker.specs.Visits.{IsVisit}
use Rattle.table_worker.proofs.AtStages.{on_its_way}
use Rattle.table_worker.proofs.Invariant.{grown-here, tied-carrying}
use Rattle.table_worker.proofs.OwnHands.{lies-own}
use Rattle.table_worker.proofs.Standing.{tied-open, tied-stay}
use Rattle.table_worker.proofs.Visiting.{visit-fewer, visit-hold, visit-none}
use Rattle.table_worker.proofs.worker.Worker.open.Goals as goal

pub open_hand-pass-requires-clause-none_lies : goal.open_hand-pass-requires-clause-none_lies
open_hand-pass-requires-clause-none_lies g c =
    let self = c.args.self in
    let hand : HandTerms = c.in-Some.hand in
    let held : hand_carried self.stage ≡ Some hand = search rules in
    let is = on_its_way self.stage hand held in
    lies-own (seen self.dock) (own self.dock) (pass_number self.dock) self.first self.dock.mine
    ∙ ((self.tied is.going).lies ∙ is.away)

pub open_hand-pass-requires-clause-table : goal.open_hand-pass-requires-clause-table
open_hand-pass-requires-clause-table g c =
    let self = c.args.self in
    let hand : HandTerms = c.in-Some.hand in
    let held : hand_carried self.stage ≡ Some hand = search rules in
    ((self.tied (on_its_way self.stage hand held).going).brought hand held).out.here ∙ c.requires.dock.1

pub open_hand-pass-requires-clause-fresh : goal.open_hand-pass-requires-clause-fresh
open_hand-pass-requires-clause-fresh g c =
    let self = c.args.self in
    let hand : HandTerms = c.in-Some.hand in
    let held : hand_carried self.stage ≡ Some hand = search rules in
    ((self.tied (on_its_way self.stage hand held).going).brought hand held).fresh

pub invariant_of-opened : goal.invariant_of-opened
invariant_of-opened g c =
    let self = c.args.self in let k : ℕ = pass_number self.book in let table : ℕ = self.table in
    let stands = c.open_hand-pass.ensures.stands in let after : List TableEntry = seen c.open_hand-pass.result.0 in
    let grown = grown-here self stands.at stands.hold.others in
    let hand : HandTerms = c.in-Some.hand in
    let held : hand_carried self.stage ≡ Some hand = search rules in
    let tied = tied-carrying self hand held in
    let left : after ≡ stands.at ++ Opened hand.start ∷ [] = stands.hold.left
    ∙ ap (λ (more : List TableEntry). stands.at ++ more)
    (stands.is ∙ ap (λ (back : Option HandTerms). only_if (is_none back) (Opened hand.start)) c.in-None.is) in
    record {
      first = stands.hold.number ∙ self.first;
      tied = λ _. tied-open k table (seen self.book) (seen self.dock) stands.at after grown hand left tied;
      brought = λ no. absurd cc;
    }

pub invariant_of-loaded : goal.invariant_of-loaded
invariant_of-loaded g c =
    let self = c.args.self in let k : ℕ = pass_number self.book in let table : ℕ = self.table in
    let stands = c.open_hand-pass.ensures.stands in let after : List TableEntry = seen c.open_hand-pass.result.0 in
    let grown = grown-here self stands.at stands.hold.others in
    let hand : HandTerms = c.in-Some.hand in
    let held : hand_carried self.stage ≡ Some hand = search rules in
    let back : c.in-Some-back.hand ≡ hand = subst (λ (found : Option HandTerms). IfSome found (λ back. back ≡ hand))
    c.in-Some-back.is c.open_hand-pass.ensures.back in
    let tied = tied-carrying self hand held in
    let left : after ≡ stands.at = (stands.hold.idle (stands.is
    ∙ ap (λ (back : Option HandTerms). only_if (is_none back) (Opened hand.start)) c.in-Some-back.is)).0 in
    record {
      first = stands.hold.number ∙ self.first;
      tied = λ _. subst (λ (hand : HandTerms). IsTied k table (seen self.book) after (Some hand) false) (sym back)
          (tied-stay k table (seen self.book) (seen self.dock) stands.at after grown (Some hand) false left tied);
      brought = λ no. absurd cc;
    }

pub returns-in-None-clause-turn : goal.returns-in-None-clause-turn
returns-in-None-clause-turn g c =
    let self = c.args.self in
    let stands = c.open_hand-pass.ensures.stands in let pass = c.open_hand-pass.result.0 in
    let hand : HandTerms = c.in-Some.hand in
    let held : hand_carried self.stage ≡ Some hand = search rules in
    let is = on_its_way self.stage hand held in
    record {
      journal = seen self.book;
      brought = [];
      history = stands.at;
      made = stands.added;
      book = visit-none self.book;
      dock = subst (λ (lay : Bool). IsVisit (count_of lay) self.dock pass stands.at stands.added) (sym is.away)
          (visit-fewer 0 1 self.dock pass stands.at stands.added (omega arith)
          (visit-hold self.dock pass stands.at stands.added stands.hold));
      did = record {
        lay_not = is.away;
        lies = refl;
        accepted = λ none. absurd (let never : None ≡ Some hand = sym none ∙ held in cc);
        brought_begin = ap (λ (found : Option HandTerms). only_if (is_none found)
            (begin_entry (pass_number self.book) self.table (tale_of (seen self.book)))) (sym held);
        made_opening = stands.is
            ∙ (ap (λ (back : Option HandTerms). only_if (is_none back) (Opened hand.start)) c.in-None.is
            ∙ ap (λ (found : Option HandTerms).
            Opened (unwrap_or found (hand_begun (tale_of (seen self.book)) self.table)).start ∷ []) (sym held));
      };
      asked = λ asks. absurd (let never : true ≡ false = sym asks ∙ is.idle in cc);
    }

pub returns-in-Some-back-clause-turn : goal.returns-in-Some-back-clause-turn
returns-in-Some-back-clause-turn g c =
    let self = c.args.self in
    let stands = c.open_hand-pass.ensures.stands in let pass = c.open_hand-pass.result.0 in
    let hand : HandTerms = c.in-Some.hand in
    let held : hand_carried self.stage ≡ Some hand = search rules in
    let is = on_its_way self.stage hand held in
    let back : c.in-Some-back.hand ≡ hand = subst (λ (found : Option HandTerms). IfSome found (λ back. back ≡ hand))
    c.in-Some-back.is c.open_hand-pass.ensures.back in
    record {
      journal = seen self.book;
      brought = [];
      history = stands.at;
      made = stands.added;
      book = visit-none self.book;
      dock = subst (λ (lay : Bool). IsVisit (count_of lay) self.dock pass stands.at stands.added) (sym is.away)
          (visit-fewer 0 1 self.dock pass stands.at stands.added (omega arith)
          (visit-hold self.dock pass stands.at stands.added stands.hold));
      did = record {
        lay_not = is.away;
        lies_not = refl;
        asks = λ asks. absurd (let never : false ≡ true = asks in cc);
        kept = λ some. refl;
        hand = λ found there. sym (same_Some c.in-Some-back.hand found there)
            ∙ (back ∙ ap (λ (found : Option HandTerms).
            unwrap_or found (hand_begun (tale_of (seen self.book)) self.table)) (sym held));
        brought_begin = ap (λ (found : Option HandTerms). only_if (is_none found && true)
            (begin_entry (pass_number self.book) self.table (tale_of (seen self.book)))) (sym held);
        made_none = stands.is
            ∙ ap (λ (back : Option HandTerms). only_if (is_none back) (Opened hand.start)) c.in-Some-back.is;
      };
      asked = λ asks. absurd (let never : true ≡ false = sym asks ∙ is.idle in cc);
    }
