use Rattle.std.proofs.Common.{◌≡◌, ◌≤◌, take, vec_len}
use Rattle.floor_crew.proofs.Spreading.{IsSpreading}
use Rattle.floor_crew.proofs.rows.spread.Given as goal

-- the things that are left are the first ones, and the others were put behind those of their rows
abbrev pub invariant-each : goal.invariant-each
invariant-each g l = record {
  left : l.things.items ≡ take (vec_len l.things) l.initial.things.items;
  within : vec_len l.things ≤ vec_len l.initial.things;
  spread : IsSpreading l.initial.rows.items l.rows.items l.initial.things.items (vec_len l.things);
}

abbrev pub decreases-each : goal.decreases-each
decreases-each g l = vec_len l.things
