use Rattle.std.proofs.Common.{arith, ◌∙◌, refl, sym}
use Rattle.std.proofs.lemmas.Grind.{common_steps}
use Rattle.std.proofs.lemmas.Result.{on_ok_weaker}
use Rattle.tournament_events.specs.declared.event.Event.TheVariants.{Act}
use Rattle.floor_view.specs.Turns.{act_made}
use Rattle.floor_view.proofs.Acted.{some-turn, told-turn, written-told}
use Rattle.floor_view.proofs.Taken.{spelled, written-accepted, written-refused}
use Rattle.floor_view.proofs.event.tell_act.Goals as goal

pub returns-then-not-branch-clause-told : goal.returns-then-not-branch-clause-told
returns-then-not-branch-clause-told c = λ who.
    let event = Act c.args.table c.args.name c.args.act in
    let old = c.args.text.now.items in
    spelled who c.args.tournament.now event old old
    (written-refused who c.args.tournament.now event old
    (sym c.in_ok-take_act.ensures.accepted ∙ c.if-not-branch.true))

pub push_turn-requires-clause-before : goal.push_turn-requires-clause-before
push_turn-requires-clause-before c =
    (told-turn c.args.tournament.now c.take_act.new.tournament c.args.table
    (Act c.args.table c.args.name c.args.act) c.turn_of_act-turn.result c.in-Some.turn c.requires.valid refl
    (sym c.in_ok-take_act.ensures.accepted ∙ c.if-not-branch.false) c.in_ok-take_act.ensures.state
    c.turn_of_act-turn.ensures c.in-Some.is).before

pub push_turn-requires-clause-left : goal.push_turn-requires-clause-left
push_turn-requires-clause-left c =
    (told-turn c.args.tournament.now c.take_act.new.tournament c.args.table
    (Act c.args.table c.args.name c.args.act) c.turn_of_act-turn.result c.in-Some.turn c.requires.valid refl
    (sym c.in_ok-take_act.ensures.accepted ∙ c.if-not-branch.false) c.in_ok-take_act.ensures.state
    c.turn_of_act-turn.ensures c.in-Some.is).left

pub returns-in-Some-clause-told : goal.returns-in-Some-clause-told
returns-in-Some-clause-told c =
    let state = c.args.tournament.now in
    let after = c.take_act.new.tournament in
    let table = c.args.table in
    let event = Act table c.args.name c.args.act in
    let old = c.args.text.now.items in
    let new = c.push_turn.new.text.items in
    let taken = sym c.in_ok-take_act.ensures.accepted ∙ c.if-not-branch.false in
    let told = told-turn state after table event c.turn_of_act-turn.result c.in-Some.turn c.requires.valid refl taken
    c.in_ok-take_act.ensures.state c.turn_of_act-turn.ensures c.in-Some.is in
    on_ok_weaker c.push_turn.result
    (λ written who. spelled who state event old new
    (written-accepted who state after event old new taken c.in_ok-take_act.ensures.state
    (written-told who state after table event c.in-Some.turn told old new refl
    (written who told.hand (act_made event told.hand) told.now told.turn_is))))
    c.push_turn.ensures.told

pub returns-in-None-clause-told : goal.returns-in-None-clause-told
returns-in-None-clause-told c =
    absurd (some-turn c.args.tournament.now c.args.table (Act c.args.table c.args.name c.args.act)
    c.turn_of_act-turn.result c.requires.valid refl (sym c.in_ok-take_act.ensures.accepted ∙ c.if-not-branch.false)
    c.turn_of_act-turn.ensures c.in-None.is)

pub returns-in-None-clause-kept : goal.returns-in-None-clause-kept
returns-in-None-clause-kept c = grind (arith, common_steps)

pub returns-in_err-take_act-clause-kept : goal.returns-in_err-take_act-clause-kept
returns-in_err-take_act-clause-kept c = grind (arith, common_steps)

pub returns-then-not-branch-clause-kept : goal.returns-then-not-branch-clause-kept
returns-then-not-branch-clause-kept c = grind (arith, common_steps)
