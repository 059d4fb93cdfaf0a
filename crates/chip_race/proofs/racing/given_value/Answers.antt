use Rattle.std.proofs.Common.{sym, inl, inr}
use Rattle.chip_race.proofs.Given.{given-won, given-protected}
use Rattle.chip_race.proofs.racing.given_value.Goals as goal

pub returns-then-stack-new : goal.returns-then-stack-new
returns-then-stack-new c = elim c.if-stack-new.either [
  | inl won ↦ rw won (sym (given-won c.args.new c.args.stack c.requires.unit))
  | inr odd ↦ rw odd.0 (sym (given-protected c.args.new c.args.stack c.requires.unit odd.1 odd.2))
]
