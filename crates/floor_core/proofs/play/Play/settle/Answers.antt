use Rattle.std.proofs.Common.{arith, ◌≡◌, ◌∙◌, refl, sym, ap, ℕ, true}
use Rattle.std.proofs.lemmas.Grind.{common_steps}
use Rattle.std.specs.Prelude.{Option, Some, None, is_some}
use Rattle.std.specs.Option.{option_and_then}
use Rattle.rulebook.specs.Checks.{first_that_holds}
use Rattle.table_engine.specs.Hands.{HandTerms}
use Rattle.floor_text.specs.declared.refusal.Refusal.{Refusal}
use Rattle.tournament_events.specs.declared.event.Event.TheVariants.{Settle}
use Rattle.tournament_rules.specs.Books.{start_at}
use Rattle.tournament_rules.specs.Checks.{end_checks}
use Rattle.tournament_rules.specs.States.{PlayState, refusal_of}
use Rattle.tournament_rules.specs.Apart.{hand_in, hand_refusal, start_of}
use Rattle.tournament_rules.proofs.Layers.{start_read}
use Rattle.floor_book.proofs.Joins.{answered_no}
use Rattle.floor_core.proofs.Parts.{by_book, by_hand, settle_refusal}
use Rattle.floor_core.proofs.play.Play.settle.Goals as goal

-- Where a hand is out, it refuses its settle by what its checks found.
refused_end : (hand : Option HandTerms) (table : ℕ) (found : Refusal) → is_some (start_of hand) ≡ true
    → ((played : HandTerms) → hand ≡ Some played → first_that_holds (end_checks played) ≡ Some found)
    → option_and_then (hand_refusal (Settle table)) hand ≡ Some found
refused_end None table found there checked = absurd cc
refused_end (Some hand) table found there checked = checked hand refl

pub returns-in_err-check_end-clause-answer : goal.returns-in_err-check_end-clause-answer
returns-in_err-check_end-clause-answer c =
    let book = c.self.inside.book in
    let hands = c.self.inside.hands.items in
    let event = Settle c.args.table in
    let hand = by_hand book hands event c.self.invariant (settle_refusal book c.args.table ∙
    c.in_ok-table.ensures.checked) in
    let same = sym (ap (λ (play : PlayState). refusal_of play event) c.self.view_is) ∙ hand in
    let found = c.in_err-check_end.field-0.0 in
    let there : is_some (start_of (hand_in hands c.args.table))
    ≡ true = sym (ap is_some (start_read book hands c.args.table c.self.invariant))
    ∙ (sym (ap (λ (number : ℕ). is_some (start_at book.started number)) c.in_ok-table.ensures.told.same)
    ∙ c.in_ok-table.ensures.told.started) in
    let at_index : hand_in c.deref.result.now c.from-index.result
    ≡ hand_in hands c.args.table = cc (c.deref.ensures.value, c.from-index.ensures, c.in_ok-table.ensures.told.same) in
    let refused = refused_end (hand_in hands c.args.table) c.args.table found there
    (λ played is. c.in_err-check_end.ensures.checked played (at_index ∙ is)) in
    answered_no (refusal_of c.args.self.now event) found c.from_residual-in_err-check_end.result (same ∙ refused)
    c.from_residual-in_err-check_end.ensures.0 c.from_residual-in_err-check_end.ensures.1

pub returns-in_err-table-clause-answer : goal.returns-in_err-table-clause-answer
returns-in_err-table-clause-answer c =
    let book = c.self.inside.book in
    let event = Settle c.args.table in
    let found = c.in_err-table.field-0.0 in
    let refused = by_book book c.self.inside.hands.items event found c.self.invariant
    (settle_refusal book c.args.table ∙ c.in_err-table.ensures.checked) in
    answered_no (refusal_of c.args.self.now event) found c.from_residual.result
    (sym (ap (λ (play : PlayState). refusal_of play event) c.self.view_is) ∙ refused) c.from_residual.ensures.0
    c.from_residual.ensures.1

pub check_end-requires : goal.check_end-requires
check_end-requires c = grind (arith, common_steps)

pub finish_at-done-requires-clause-within : goal.finish_at-done-requires-clause-within
finish_at-done-requires-clause-within c = grind (arith, common_steps)

pub settle-requires-clause-started : goal.settle-requires-clause-started
settle-requires-clause-started c = grind (arith, common_steps)
