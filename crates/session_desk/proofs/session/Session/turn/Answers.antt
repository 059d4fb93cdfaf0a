use Rattle.std.proofs.Common.{◌∙◌, ◌∷◌, ◌++◌, List, ℕ, Option, refl, sym, ap}
use Rattle.std.specs.Prelude.{vec_len}
use Rattle.floor_text.specs.Lines.{lines_of_bytes}
use Rattle.session_desk.specs.Inboxes.{line_of_cut, waiting}
use Rattle.session_desk.proofs.TakenTurns.{one-line, same-said}
use Rattle.session_desk.proofs.TurnStart.{line-turn, none-held, turn-from}
use Rattle.session_desk.proofs.session.Session.turn.Goals as goal

pub take-requires-clause-none : goal.take-requires-clause-none
take-requires-clause-none g c =
    none-held c.next_line.new.self.begun c.next_line.new.self.unread c.next_line.ensures.no_feed c.in-None.ensures.none

pub returns-in-Some-clause-turn : goal.returns-in-Some-clause-turn
returns-in-Some-clause-turn g c =
    let cut = c.in-Some.cut in
    let line = line_of_cut cut c.next_line.new.self.line in
    line-turn g.L.Link.told c.args.words.now
    (vec_len c.args.docks.now) c.args.link.now c.handle.new.link line c.args.self
    c.handle.result.0 c.handle.result.1 (sym c.in-Some.ensures.held)
    (λ rest.
    c.in-Some.ensures.lines rest
    ∙ (ap (λ (lines : List (Option (List ℕ))). lines ++ lines_of_bytes (waiting c.next_line.new.self ++ rest))
    (one-line cut c.next_line.new.self.line)
    ∙ ap (λ (bytes : List ℕ). line ∷ lines_of_bytes (bytes ++ rest)) (sym (ap waiting c.handle.ensures.inbox))))
    (ap (λ inbox. inbox.ended) c.handle.ensures.inbox ∙ c.next_line.ensures.ended)
    (same-said c.args.words.now (vec_len c.args.docks.now) _ _ (g.L.Link.told c.args.link.now)
    (g.L.Link.told c.handle.new.link) c.args.self _ c.handle.result.0 c.handle.result.1 refl refl
    c.handle.ensures.said)

pub returns-in-None-clause-turn : goal.returns-in-None-clause-turn
returns-in-None-clause-turn g c =
    turn-from g.L.Link.told c.args.words.now (vec_len c.args.docks.now) c.args.link.now c.take.new.link c.args.self _
    c.take.result.0 c.take.result.1 refl refl c.next_line.ensures.ended (sym c.in-None.ensures.held)
    (none-held c.next_line.new.self.begun c.next_line.new.self.unread c.next_line.ensures.no_feed
    c.in-None.ensures.none)
    c.in-None.ensures.lines c.take.ensures.turn
