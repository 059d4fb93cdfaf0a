use Rattle.std.proofs.Common.{◌++◌, List, ℕ, Some, sym, ap, subst, ◌∙◌}
use Rattle.std.specs.Prelude.{is_some}
use Rattle.floor_text.specs.Lines.{HasNoFeed, lines_of_bytes}
use Rattle.floor_text.specs.LineCutter.{lines_of_cut}
use Rattle.session_desk.proofs.Unread.{begun-no_feed, behind-first, cut-at_feed, cut-on, held-first, held-on}
use Rattle.session_desk.proofs.inbox.cut_first.Goals as goal

pub loop-byte-preserved : goal.loop-byte-preserved
loop-byte-preserved c =
    let before = c.args.cutter.now in let bytes = c.args.bytes.now in let behind = c.in-Some.behind.now in
    let first = c.in-Some.ensures.cases in
    let left = behind-first bytes c.loop-byte.rest.now behind c.in-Some.byte.now c.loop-byte.invariant.shorter
    c.loop-byte.invariant.rest first in
    record {
      shorter = left.0;
      rest = left.1;
      lines = λ tail. cut-on before.begun c.loop-byte.cutter.begun bytes c.loop-byte.rest.now behind c.in-Some.byte.now
          tail first.0 (c.loop-byte.invariant.lines tail)
          ∙ (c.push.ensures.lines (behind ++ tail)
          ∙ ap (λ cut. lines_of_cut cut c.push.new.self.line ++ lines_of_bytes (c.push.new.self.begun ++
          (behind ++ tail)))
          c.in_default-push.is);
      held = held-on bytes c.loop-byte.rest.now behind c.in-Some.byte.now first.0
          (sym (cut-at_feed c.in-Some.byte.now c.push.result c.push.ensures.answers) ∙ ap is_some c.in_default-push.is)
          c.loop-byte.invariant.held;
      no_feed = λ none. subst HasNoFeed (sym c.push.ensures.begun)
          (begun-no_feed c.loop-byte.cutter.begun c.in-Some.byte.now (c.loop-byte.invariant.no_feed none));
    }

pub returns-in-Some-push-clause-lines : goal.returns-in-Some-push-clause-lines
returns-in-Some-push-clause-lines c =
    let before = c.args.cutter.now in let bytes = c.args.bytes.now in let behind = c.in-Some.behind.now in
    let first = c.in-Some.ensures.cases in
    let left = behind-first bytes c.loop-byte.rest.now behind c.in-Some.byte.now c.loop-byte.invariant.shorter
    c.loop-byte.invariant.rest first in
    λ tail.
    cut-on before.begun c.loop-byte.cutter.begun bytes c.loop-byte.rest.now behind c.in-Some.byte.now tail first.0
    (c.loop-byte.invariant.lines tail)
    ∙ (c.push.ensures.lines (behind ++ tail)
    ∙ (ap (λ cut. lines_of_cut cut c.push.new.self.line ++ lines_of_bytes (c.push.new.self.begun ++ (behind ++ tail)))
    c.in-Some-push.is
    ∙ ap (λ (left : List ℕ). lines_of_cut (Some c.in-Some-push.cut) c.push.new.self.line
    ++ lines_of_bytes (c.push.new.self.begun ++ (left ++ tail))) left.1))

pub returns-in-Some-push-clause-held : goal.returns-in-Some-push-clause-held
returns-in-Some-push-clause-held c =
    sym (held-first c.args.bytes.now c.loop-byte.rest.now c.in-Some.behind.now c.in-Some.byte.now
    c.in-Some.ensures.cases.0
    (sym (cut-at_feed c.in-Some.byte.now c.push.result c.push.ensures.answers) ∙ ap is_some c.in-Some-push.is)
    c.loop-byte.invariant.held)

pub returns-in-Some-push-clause-no_feed : goal.returns-in-Some-push-clause-no_feed
returns-in-Some-push-clause-no_feed c =
    λ none. subst HasNoFeed (sym c.push.ensures.begun)
    (begun-no_feed c.loop-byte.cutter.begun c.in-Some.byte.now (c.loop-byte.invariant.no_feed none))
