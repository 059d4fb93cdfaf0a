use Rattle.std.proofs.Common.{◌≡◌, ◌≤◌, ◌+◌, ◌-◌, ℕ, List, Some, None, sym, ap, ◌∙◌, subst, length, arith}
use Rattle.std.specs.Prelude.{slice_range}
use Rattle.std.proofs.lemmas.List.Edits.{length-between}
use Rattle.floor_text.specs.HeldBytes.{Holding, IsFirstFeed}
use Rattle.floor_text.specs.Lines.{HasNoFeed}
use Rattle.floor_text.proofs.HeldLists.{first_feed_found, range_in_range}
use Rattle.floor_text.proofs.held_bytes.HeldBytes.feed_between.Goals as goal

pub returns-in-Some : goal.returns-in-Some
returns-in-Some c =
    let waits = ap (λ (h : Holding). length h.held) c.self.view_is in
    let within : c.self.inside.start + c.args.to ≤ c.self.inside.end =
    omega (arith, length-between c.self.inside.buffer.items c.self.inside.start c.self.inside.end (omega arith)) in
    let part = range_in_range c.self.inside.buffer.items c.self.inside.start c.self.inside.end c.args.from c.args.to
    c.requires.order within in
    let found = first_feed_found
    (slice_range c.deref.result.now (c.self.inside.start + c.args.from) (c.self.inside.start + c.args.to))
    (Some c.in-Some.at) c.in-Some.ensures in
    let same = ap (λ (xs : List ℕ). slice_range xs (c.self.inside.start + c.args.from)
    (c.self.inside.start + c.args.to)) c.deref.ensures.value ∙ sym part
    ∙ ap (λ (h : Holding). slice_range h.held c.args.from c.args.to) c.self.view_is in
    let at : c.in-Some.at ≡ c.args.from + c.in-Some.at - c.args.from = omega arith in
    let P : List ℕ → Type 0 = λ xs. IsFirstFeed xs c.in-Some.at in
    let Q : ℕ → Type 0 = λ n. IsFirstFeed (slice_range c.args.self.now.held c.args.from c.args.to) n in
    (subst Q at (subst P same found), omega arith)

pub returns-in-None : goal.returns-in-None
returns-in-None c =
    let waits = ap (λ (h : Holding). length h.held) c.self.view_is in
    let within : c.self.inside.start + c.args.to ≤ c.self.inside.end =
    omega (arith, length-between c.self.inside.buffer.items c.self.inside.start c.self.inside.end (omega arith)) in
    let part = range_in_range c.self.inside.buffer.items c.self.inside.start c.self.inside.end c.args.from c.args.to
    c.requires.order within in
    let found = first_feed_found
    (slice_range c.deref.result.now (c.self.inside.start + c.args.from) (c.self.inside.start + c.args.to)) None
    c.in-None.ensures in
    let same = ap (λ (xs : List ℕ). slice_range xs (c.self.inside.start + c.args.from)
    (c.self.inside.start + c.args.to)) c.deref.ensures.value ∙ sym part
    ∙ ap (λ (h : Holding). slice_range h.held c.args.from c.args.to) c.self.view_is in
    let P : List ℕ → Type 0 = λ xs. HasNoFeed xs in
    subst P same found
