use Rattle.std.proofs.Common.{◌≡◌, ◌∙◌, ◌<◌, [], List, ℕ, Ok, Result, subst, length, refl, sym, ap}
use Rattle.std.specs.Prelude.{MatchResult, vec_len}
use Rattle.links.specs.declared.link.Taken.{Taken as Taking}
use Rattle.links.specs.declared.link.Taken.TheVariants.{Bytes, End, Idle}
use Rattle.floor_text.specs.declared.outside.Failed.{Failed}
use Rattle.floor_text.specs.Lines.{lines_of_bytes}
use Rattle.session_desk.specs.Inboxes.{IsUnread, gave, line_of_cut, waiting}
use Rattle.session_desk.proofs.TakenTurns.{bytes-turn, end-turn, idle-turn, last-turn, one-line, none-waits, same-said, same-waiting, some-waits}
use Rattle.session_desk.proofs.session.Session.take.Goals as goal

pub returns-in-Ok-Idle-clause-turn : goal.returns-in-Ok-Idle-clause-turn
returns-in-Ok-Idle-clause-turn g c =
    let going = sym c.has_ended.ensures ∙ c.if-has_ended.false in
    let is : c.take.result ≡ Ok Idle = cc in
    let unread : c.take.new.self.unread ≡ [] =
    subst (λ (r : Result Taking Failed). MatchResult r (λ taken. IsUnread taken c.take.new.self.unread)
    (λ _. c.take.new.self.unread ≡ [])) is c.take.ensures.unread in
    idle-turn g.L.Link.told c.args.words.now (vec_len c.args.docks.now) c.args.link.now c.idle.new.link
    (g.L.Link.told c.take.new.link) c.args.self c.idle.result.0 c.idle.result.1
    (gave c.take.result c.take.new.self.unread)
    going c.requires.none c.requires.unread
    (ap (λ inbox. inbox.begun) c.idle.ensures.inbox ∙ c.take.ensures.begun)
    (ap (λ inbox. inbox.unread) c.idle.ensures.inbox ∙ unread)
    (ap (λ inbox. inbox.ended) c.idle.ensures.inbox ∙ c.take.ensures.ended) (λ t. ap (λ
    (r : Result Taking Failed). gave r c.take.new.self.unread t) is) c.take.ensures.told
    (same-said c.args.words.now (vec_len c.args.docks.now) [] _ (g.L.Link.told c.take.new.link)
    (g.L.Link.told c.idle.new.link) c.args.self _ c.idle.result.0 c.idle.result.1 refl refl
    (c.idle.ensures.said c.args.words.now))

pub returns-in-Ok-Bytes-clause-turn : goal.returns-in-Ok-Bytes-clause-turn
returns-in-Ok-Bytes-clause-turn g c =
    let going = sym c.has_ended.ensures ∙ c.if-has_ended.false in
    let is : c.take.result ≡ Ok (Bytes c.in-Ok-Bytes.field-0-0) = cc in
    let some : 0 < length c.take.new.self.unread =
    subst (λ (r : Result Taking Failed). MatchResult r (λ taken. IsUnread taken c.take.new.self.unread)
    (λ _. c.take.new.self.unread ≡ [])) is c.take.ensures.unread in
    bytes-turn g.L.Link.told c.args.words.now (vec_len c.args.docks.now) c.args.link.now c.take.new.link c.args.self _
    c.take.new.self.unread (gave c.take.result c.take.new.self.unread) going c.requires.none c.requires.unread some
    c.take.ensures.begun refl c.take.ensures.ended
    (λ t. ap (λ (r : Result Taking Failed). gave r c.take.new.self.unread t) is) c.take.ensures.told refl refl

pub returns-in-None-clause-turn : goal.returns-in-None-clause-turn
returns-in-None-clause-turn g c =
    let going = sym c.has_ended.ensures ∙ c.if-has_ended.false in
    let is : c.take.result ≡ Ok End = cc in
    let unread : c.take.new.self.unread ≡ [] =
    subst (λ (r : Result Taking Failed). MatchResult r (λ taken. IsUnread taken c.take.new.self.unread)
    (λ _. c.take.new.self.unread ≡ [])) is c.take.ensures.unread in
    let same : waiting c.args.self.inbox ≡ waiting c.take.new.self =
    same-waiting c.args.self.inbox.begun c.args.self.inbox.unread c.take.new.self.begun c.take.new.self.unread
    c.take.ensures.begun c.requires.unread unread in
    end-turn g.L.Link.told c.args.words.now (vec_len c.args.docks.now) c.args.link.now c.take.new.link c.args.self _
    (gave c.take.result c.take.new.self.unread) going c.requires.none
    (same ∙ none-waits (waiting c.take.new.self) c.in-None.ensures.some)
    (ap lines_of_bytes same ∙ c.in-None.ensures.lines) c.last_line.ensures.none_left
    c.last_line.ensures.ended
    (λ t. ap (λ (r : Result Taking Failed). gave r c.take.new.self.unread t) is) c.take.ensures.told refl refl

pub returns-in-Some-clause-turn : goal.returns-in-Some-clause-turn
returns-in-Some-clause-turn g c =
    let going = sym c.has_ended.ensures ∙ c.if-has_ended.false in
    let is : c.take.result ≡ Ok End = cc in
    let unread : c.take.new.self.unread ≡ [] =
    subst (λ (r : Result Taking Failed). MatchResult r (λ taken. IsUnread taken c.take.new.self.unread)
    (λ _. c.take.new.self.unread ≡ [])) is c.take.ensures.unread in
    let same : waiting c.args.self.inbox ≡ waiting c.take.new.self =
    same-waiting c.args.self.inbox.begun c.args.self.inbox.unread c.take.new.self.begun c.take.new.self.unread
    c.take.ensures.begun c.requires.unread unread in
    last-turn g.L.Link.told c.args.words.now (vec_len c.args.docks.now) c.args.link.now c.handle.new.link
    (g.L.Link.told c.take.new.link) (line_of_cut c.in-Some.cut c.last_line.new.self.line) c.args.self c.handle.result.0
    c.handle.result.1 (gave c.take.result c.take.new.self.unread) going c.requires.none
    (subst (λ (l : List ℕ). 0 < length l) (sym same) (some-waits (waiting c.take.new.self) c.in-Some.ensures.some))
    (ap lines_of_bytes same ∙ (c.in-Some.ensures.lines ∙ one-line c.in-Some.cut c.last_line.new.self.line))
    (ap waiting c.handle.ensures.inbox ∙ c.last_line.ensures.none_left)
    (ap (λ inbox. inbox.ended) c.handle.ensures.inbox ∙ c.last_line.ensures.ended)
    (λ t. ap (λ (r : Result Taking Failed). gave r c.take.new.self.unread t) is) c.take.ensures.told
    (same-said c.args.words.now (vec_len c.args.docks.now) _ _ (g.L.Link.told c.take.new.link)
    (g.L.Link.told c.handle.new.link) c.args.self _ c.handle.result.0 c.handle.result.1 refl refl
    c.handle.ensures.said)
