use Rattle.std.proofs.Common.{◌∙◌, refl, sym, ap, arith}
use Rattle.tournament_events.specs.declared.event.Event.TheVariants.{Begin}
use Rattle.table_engine.specs.Hands.{HandTerms}
use Rattle.tournament_rules.specs.Checks.{book_refusal}
use Rattle.tournament_rules.specs.States.{PlayState, refusal_of}
use Rattle.tournament_rules.proofs.Layers.{hands_length}
use Rattle.floor_book.proofs.Joins.{answered_on}
use Rattle.floor_core.proofs.Parts.{by_book_alone, answer_of_same}
use Rattle.floor_core.proofs.play.Play.begin.Goals as goal

pub index_mut-requires : goal.index_mut-requires
index_mut-requires c = let size = hands_length c.self.inside.book c.self.inside.hands.items c.self.invariant in omega
    (arith, size, c.in_ok-hand.ensures.within)

pub returns-in_err-hand-clause-answer : goal.returns-in_err-hand-clause-answer
returns-in_err-hand-clause-answer c =
    let book = c.self.inside.book in
    let event = Begin c.args.table c.args.row.now in
    let alone = by_book_alone book c.self.inside.hands.items event c.self.invariant refl in
    let same = sym (ap (λ (play : PlayState). refusal_of play event) c.self.view_is) ∙ alone in
    answer_of_same (book_refusal book event) (refusal_of c.args.self.now event) c.from_residual.result same
    (answered_on HandTerms (book_refusal book event) c.in_err-hand.field-0.0 c.from_residual.result
    c.in_err-hand.ensures.answer c.from_residual.ensures.0 c.from_residual.ensures.1)

pub returns-clause-answer : goal.returns-clause-answer
returns-clause-answer c =
    let book = c.self.inside.book in
    let event = Begin c.args.table c.args.row.now in
    let alone = by_book_alone book c.self.inside.hands.items event c.self.invariant refl in
    sym (ap (λ (play : PlayState). refusal_of play event) c.self.view_is) ∙ (alone ∙ c.in_ok-hand.ensures.answer)
