use Rattle.std.proofs.Common.{◌≡◌}
use Rattle.simulation_rules.specs.Effort.{effort}
use Rattle.floor_simulation.specs.Midst.{IsInMidst, ComeToSame}
use Rattle.floor_simulation.proofs.simulation.Simulation.play.Given as goal

-- What is to come is what was to come at first.
abbrev pub invariant-loop : goal.invariant-loop
invariant-loop l = record {
  midst : IsInMidst l.self.tournament l.self.place l.self.hands;
  same : ComeToSame l.fn.self.seed l.fn.self.tournament l.fn.self.place l.fn.self.hands l.self.tournament
      l.self.place l.self.hands;
  seed : l.self.seed ≡ l.fn.self.seed;
}

abbrev pub decreases-loop : goal.decreases-loop
decreases-loop l = effort l.self.tournament l.self.place
