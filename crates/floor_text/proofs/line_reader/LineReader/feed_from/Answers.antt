use Rattle.std.proofs.Common.{◌≡◌, ◌≤◌, ◌<◌, ◌-◌, ℕ, List, length, take, MatchOption, ap, subst, arith}
use Rattle.std.specs.Prelude.{slice_range}
use Rattle.std.proofs.lemmas.Bool.Decides.{nat_tests}
use Rattle.floor_text.specs.HeldBytes.{IsFirstFeed}
use Rattle.floor_text.specs.Lines.{HasNoFeed}
use Rattle.floor_text.specs.Reading.{Reading, held_within}
use Rattle.floor_text.proofs.ReadLines.{feed_from_found}
use Rattle.floor_text.proofs.line_reader.LineReader.feed_from.Goals as goal
use Rattle.floor_text.proofs.line_reader.LineReader.feed_from.Goals.{then-self, else-self}

pub returns-clause-found : goal.returns-clause-found
returns-clause-found c =
    let to : c.if-self.to ≡ held_within c.args.self.now =
    elim c.if-self.branch [ then-self w ↦ grind (arith, nat_tests) | else-self w ↦ grind (arith, nat_tests) ] in
    let held = ap (λ (r : Reading). r.held) c.self.view_is in
    let within : held_within c.args.self.now ≤ length c.args.self.now.held = grind (arith, nat_tests) in
    let P : List ℕ → Type 0 =
    λ xs. MatchOption c.feed_between.result (HasNoFeed (slice_range xs c.args.searched c.if-self.to))
    (λ at. IsFirstFeed (slice_range xs c.args.searched c.if-self.to) (at - c.args.searched)
    × (c.args.searched ≤ at)) in
    let Q : ℕ → Type 0 = λ n. MatchOption c.feed_between.result (HasNoFeed (take n c.args.self.now.held))
    (λ at. (at < n) × IsFirstFeed c.args.self.now.held at) in
    subst Q to (feed_from_found c.args.self.now.held c.args.searched c.if-self.to c.feed_between.result (omega arith)
    (omega arith) c.requires.before (subst P held c.feed_between.ensures))
