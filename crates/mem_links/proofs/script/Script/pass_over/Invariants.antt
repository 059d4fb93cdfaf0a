use Rattle.std.proofs.Common.{◌≡◌, ◌-◌, drop, vec_len}
use Rattle.mem_links.specs.Scripts.{come_to, given_by, IsSearchedBy}
use Rattle.mem_links.proofs.script.Script.pass_over.Given as goal

-- the script comes to the same place, has given the same bytes, and has searched only what was put
abbrev pub invariant-pass : goal.invariant-pass
invariant-pass l = record {
  place : come_to l.put (drop l.self.at l.self.says.items) l.self.given l.self.waited
      ≡ come_to l.put (drop l.initial.self.at l.initial.self.says.items) l.initial.self.given l.initial.self.waited;
  given : given_by l.self ≡ given_by l.initial.self;
  searched : IsSearchedBy l.self l.put;
}

abbrev pub decreases-pass : goal.decreases-pass
decreases-pass l = vec_len l.self.says - l.self.at
