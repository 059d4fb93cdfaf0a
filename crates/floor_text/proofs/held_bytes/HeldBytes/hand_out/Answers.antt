use Rattle.std.proofs.Common.{◌≤◌, ◌+◌, ap, length, arith}
use Rattle.std.proofs.lemmas.Grind.{common_steps}
use Rattle.std.proofs.lemmas.List.Edits.{length-between}
use Rattle.floor_text.specs.HeldBytes.{Holding}
use Rattle.floor_text.proofs.HeldLists.{rest_of_range}
use Rattle.floor_text.proofs.held_bytes.HeldBytes.hand_out.Goals as goal

pub returns-clause-held : goal.returns-clause-held
returns-clause-held c =
    let waits = ap (λ (h : Holding). length h.held) c.self.view_is in
    let within : c.self.inside.start + (c.args.line + c.args.more) ≤ c.self.inside.end =
    omega (arith, length-between c.self.inside.buffer.items c.self.inside.start c.self.inside.end (omega arith)) in
    rw (← c.self.view_is)
    (rest_of_range c.self.inside.buffer.items c.self.inside.start c.self.inside.end
    (c.args.line + c.args.more) within)

pub invariant_of-self : goal.invariant_of-self
invariant_of-self c = grind (arith, common_steps)

pub returns-clause-line : goal.returns-clause-line
returns-clause-line c = grind (arith, common_steps)
