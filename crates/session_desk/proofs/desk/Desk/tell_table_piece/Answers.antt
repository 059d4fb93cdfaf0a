use Rattle.std.proofs.Common.{◌≡◌, ◌∙◌, ◌+◌, ◌<◌, length, ap, sym, refl, arith, take, subst}
use Rattle.std.proofs.lemmas.Grind.{common_steps}
use Rattle.std.specs.List.{insert}
use mathlib.Core.List.{IsPrefix}
use Rattle.dock_rules.specs.Tables.{lying_hand}
use Rattle.history_lock.specs.Passes.{seen}
use Rattle.session_desk.specs.declared.desk.Desk.{Desk}
use Rattle.session_desk.specs.declared.told.Watch.{Watch}
use Rattle.session_desk.specs.declared.news.TheConstants.{PIECE}
use Rattle.session_desk.specs.Desks.{sights}
use Rattle.session_desk.proofs.Moving.{hold-later}
use Rattle.session_desk.proofs.TableLines.{looked-at, same-but, sights-at, sights-left, table-told, watch-hand, watch-on, watch-table}
use Rattle.session_desk.proofs.desk.Desk.tell_table_piece.Goals as goal

pub follow-pass-requires-clause-table : goal.follow-pass-requires-clause-table
follow-pass-requires-clause-table g c =
    let told = c.requires.watch in
    watch-table told.0 (c.args.index + 1) ((sights c.args.self).tables (c.args.index + 1)) c.args.watch.now told.1
    ∙ sym c.requires.table

pub follow-pass-requires-clause-told : goal.follow-pass-requires-clause-told
follow-pass-requires-clause-told g c =
    let told = c.requires.watch in
    let watch : Watch = c.args.watch.now in
    watch-hand told.0 (c.args.index + 1) ((sights c.args.self).tables (c.args.index + 1)) watch told.1
    ∙ ap (λ history. lying_hand (take watch.told history))
    (sights-at c.args.self c.args.index c.take_out-pass.result c.take_out-pass.ensures.pass)

pub returns-clause-moved : goal.returns-clause-moved
returns-clause-moved g c =
    let after : Desk = record { book = c.args.self.book; tables = c.put_back.new.tables; asked = c.args.self.asked } in
    let stands = c.follow-pass.ensures.stands in
    let within : c.args.index < length c.args.self.tables.items =
    omega (arith, c.requires.index, c.args.self.tables.ok.0) in
    looked-at c.args.index c.args.self after c.take_out-pass.result c.follow-pass.result.0 within
    c.take_out-pass.ensures.pass
    (c.put_back.ensures
    ∙ ap (λ items. insert items c.args.index c.follow-pass.result.0) c.take_out-pass.ensures.rest)
    refl stands.at stands.added refl stands.hold stands.is.1.1

pub returns-clause-others : goal.returns-clause-others
returns-clause-others g c =
    let after : Desk = record { book = c.args.self.book; tables = c.put_back.new.tables; asked = c.args.self.asked } in
    let within : c.args.index < length c.args.self.tables.items =
    omega (arith, c.requires.index, c.args.self.tables.ok.0) in
    same-but c.args.index c.args.self after c.take_out-pass.result c.follow-pass.result.0 within
    c.take_out-pass.ensures.pass
    (c.put_back.ensures
    ∙ ap (λ items. insert items c.args.index c.follow-pass.result.0) c.take_out-pass.ensures.rest)
    refl

pub returns-clause-told : goal.returns-clause-told
returns-clause-told g c =
    let after : Desk = record { book = c.args.self.book; tables = c.put_back.new.tables; asked = c.args.self.asked } in
    let watch : Watch = record { told = c.number_told-watch.result; teller = c.follow-pass.new.teller } in
    let stands = c.follow-pass.ensures.stands in
    let within : c.args.index < length c.args.self.tables.items =
    omega (arith, c.requires.index, c.args.self.tables.ok.0) in
    let seen_is : (sights after).tables (c.args.index + 1) ≡ stands.at =
    sights-left c.args.index c.args.self after c.take_out-pass.result c.follow-pass.result.0 within
    c.take_out-pass.ensures.pass
    (c.put_back.ensures
    ∙ ap (λ items. insert items c.args.index c.follow-pass.result.0) c.take_out-pass.ensures.rest)
    refl stands.at stands.added stands.hold stands.is.1.1 in
    table-told ((sights after).tables (c.args.index + 1)) stands.at PIECE c.args.watch.now watch
    c.follow-pass.result.2 _ c.args.out.now.items c.follow-pass.new.out.items seen_is stands.is.1.0
    c.number_told-watch.ensures (λ none. grind (arith, common_steps))

pub returns-clause-watch : goal.returns-clause-watch
returns-clause-watch g c = λ who is.
    let after : Desk = record { book = c.args.self.book; tables = c.put_back.new.tables; asked = c.args.self.asked } in
    let watch : Watch = record { told = c.number_told-watch.result; teller = c.follow-pass.new.teller } in
    let stands = c.follow-pass.ensures.stands in
    let within : c.args.index < length c.args.self.tables.items =
    omega (arith, c.requires.index, c.args.self.tables.ok.0) in
    let seen_is : (sights after).tables (c.args.index + 1) ≡ stands.at =
    sights-left c.args.index c.args.self after c.take_out-pass.result c.follow-pass.result.0 within
    c.take_out-pass.ensures.pass
    (c.put_back.ensures
    ∙ ap (λ items. insert items c.args.index c.follow-pass.result.0) c.take_out-pass.ensures.rest)
    refl stands.at stands.added stands.hold stands.is.1.1 in
    let old = (sights c.args.self).tables (c.args.index + 1) in
    let before : old ≡ seen c.take_out-pass.result =
    sights-at c.args.self c.args.index c.take_out-pass.result c.take_out-pass.ensures.pass in
    watch-on who (c.args.index + 1) old stands.at ((sights after).tables (c.args.index + 1)) PIECE c.args.watch.now
    watch c.follow-pass.result.2 c.args.out.now.items c.follow-pass.new.out.items
    (subst (λ history. IsPrefix history stands.at) (sym before)
    (hold-later c.take_out-pass.result c.follow-pass.result.0 stands.at stands.added stands.hold))
    seen_is stands.is.1.0 c.number_told-watch.ensures is

pub put_back-requires-clause-place : goal.put_back-requires-clause-place
put_back-requires-clause-place g c = grind (arith, common_steps)
