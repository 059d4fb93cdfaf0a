use Rattle.std.proofs.Common.{sym, subst, arith}
use Rattle.std.specs.Prelude.{vec_len}
use Rattle.session_desk.specs.Desks.{nothing, sights}
use Rattle.session_desk.specs.Telling.{IsToldOf, Reach, reach_of}
use Rattle.session_desk.specs.Turns.{MayMean}
use Rattle.session_desk.proofs.DeskMoves.{desk-kept, later-sights}
use Rattle.session_desk.proofs.Meant.{changed-kept, same-speaker}
use Rattle.session_desk.proofs.NewsTold.{kept-later}
use Rattle.session_desk.proofs.desk.Desk.respond.Goals as goal

pub tell_known-desk-requires-clause-desk : goal.tell_known-desk-requires-clause-desk
tell_known-desk-requires-clause-desk g c =
    let done = c.answer-desk.ensures in
    desk-kept c.args.book.now c.args.docks.now.items 0 _ done.brought c.args.self c.answer-desk.result.0 done.moved
    c.requires.desk

pub tell_known-desk-requires-clause-told : goal.tell_known-desk-requires-clause-told
tell_known-desk-requires-clause-told g c =
    let done = c.answer-desk.ensures in
    kept-later (sights c.args.self) (sights c.answer-desk.result.0) (reach_of c.args.told.now)
    (later-sights 0 _ done.brought c.args.self c.answer-desk.result.0 done.moved) c.requires.told

pub returns-clause-desk : goal.returns-clause-desk
returns-clause-desk g c =
    let done = c.answer-desk.ensures in
    desk-kept c.args.book.now c.args.docks.now.items _ _ nothing c.answer-desk.result.0 c.tell_known-desk.result.0
    c.tell_known-desk.ensures.moved
    (desk-kept c.args.book.now c.args.docks.now.items 0 _ done.brought c.args.self c.answer-desk.result.0 done.moved
    c.requires.desk)

pub returns-clause-kept : goal.returns-clause-kept
returns-clause-kept g c =
    let middle : Reach = reach_of c.tell_known-desk.new.told in
    let known = c.tell_known-desk.ensures.news in
    let speaker = same-speaker c.args.told.now.speaker (sights c.tell_known-desk.result.0) (reach_of c.args.told.now)
    middle known.news c.tell_known-desk.result.1 known.told in
    subst (λ (last : Reach). IsToldOf (sights c.tell_known-desk.result.0) last) (sym c.change.ensures)
    (changed-kept (vec_len c.args.docks.now) (sights c.tell_known-desk.result.0) middle c.args.meaning.now
    (subst (λ who. MayMean who c.args.meaning.now) (sym speaker) c.requires.lawful)
    (omega (arith, c.tell_known-desk.ensures.count, c.tell_known-desk.new.told.watches.ok.0))
    c.tell_known-desk.ensures.kept)
