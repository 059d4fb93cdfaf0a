use Rattle.std.proofs.Common.{◌+◌, ◌++◌, ◌≤◌, List, ℕ, length, drop, sym, ap, subst, ◌∙◌, append_assoc}
use Rattle.std.specs.Prelude.{Bool, ◌||◌, slice_range}
use Rattle.std.specs.List.{list_any}
use Rattle.std.proofs.lemmas.List.Folds.{list_any-append}
use Rattle.floor_text.specs.Lines.{is_line_feed, lines_of_bytes}
use Rattle.floor_text.specs.LineCutter.{lines_of_cut}
use Rattle.session_desk.proofs.Unread.{unread-behind}
use Rattle.session_desk.proofs.inbox.Inbox.next_line.Goals as goal

pub returns-clause-lines : goal.returns-clause-lines
returns-clause-lines c =
    let inbox = c.self.inside in let n = c.cut_first-n.result.0 in let cutter = c.cut_first-n.new.cutter in
    let same = c.deref.ensures.value in
    let within = subst (λ (bytes : List ℕ). n ≤ length
    (slice_range bytes inbox.start inbox.end)) same c.cut_first-n.ensures.within in
    λ rest. rw (← c.self.view_is) (
    ap lines_of_bytes (append_assoc inbox.cutter.begun (slice_range inbox.buffer.items inbox.start inbox.end) rest)
    ∙ (ap (λ (bytes : List ℕ). lines_of_bytes (inbox.cutter.begun ++ (slice_range bytes inbox.start inbox.end ++ rest)))
    (sym same)
    ∙ (c.cut_first-n.ensures.lines rest
    ∙ (ap (λ (left : List ℕ). lines_of_cut c.cut_first-n.result.1 cutter.line ++ lines_of_bytes (cutter.begun ++
    (left ++ rest)))
    (ap (λ (bytes : List ℕ). drop n (slice_range bytes inbox.start inbox.end)) same
    ∙ unread-behind inbox.buffer.items inbox.start inbox.end n within)
    ∙ ap (λ (bytes : List ℕ). lines_of_cut c.cut_first-n.result.1 cutter.line ++ lines_of_bytes bytes)
    (sym (append_assoc cutter.begun (slice_range inbox.buffer.items (inbox.start + n) inbox.end) rest)))))
    )

pub returns-clause-held : goal.returns-clause-held
returns-clause-held c =
    let inbox = c.self.inside in
    rw (← c.self.view_is) (
    c.cut_first-n.ensures.held
    ∙ (ap (λ (bytes : List ℕ). list_any is_line_feed (slice_range bytes inbox.start inbox.end)) c.deref.ensures.value
    ∙ sym (list_any-append is_line_feed inbox.cutter.begun (slice_range inbox.buffer.items inbox.start inbox.end)
    ∙ ap (λ (one : Bool). one || list_any is_line_feed (slice_range inbox.buffer.items inbox.start inbox.end))
    c.self.invariant.no_feed))
    )
