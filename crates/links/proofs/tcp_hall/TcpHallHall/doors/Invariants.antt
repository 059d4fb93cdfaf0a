use Rattle.std.proofs.Common.{◌≡◌, ◌+◌, ◌≤◌}
use Rattle.std.specs.Prelude.{vec_len, vec_capacity}
use Rattle.links.proofs.tcp_hall.TcpHallHall.doors.Given as goal

-- a door for each port so far, none of them above 65535, room for all, and no fault
abbrev pub invariant-loop-i : goal.invariant-loop-i
invariant-loop-i g l = record {
  opened : vec_len l.doors ≡ l.i;
  ports : l.port + l.i ≤ 65536;
  room : l.n ≤ vec_capacity l.doors;
  faults : l.self.faults ≡ l.initial.self.faults;
}
