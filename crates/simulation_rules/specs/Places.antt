-- How the place of a simulated tournament moves. This project's own.
use Rattle.std.specs.Prelude.{◌+◌, true, false}
use Rattle.simulation_rules.specs.declared.place.SimPlace.{SimPlace}

-- The first place: the first table of the first round.
abbrev pub first_place : SimPlace
first_place = record { round = 1; table = 1; played = false; any_played = false; done = false }

-- This table's hand was played.
abbrev pub hand_played : SimPlace → SimPlace
hand_played place = record place { played = true; any_played = true }

-- The next table has its turn.
abbrev pub next_table : SimPlace → SimPlace
next_table place = record place { table = place.table + 1; played = false }

-- The tables of the round are done.
abbrev pub tables_done : SimPlace → SimPlace
tables_done place = record place { done = true }

-- The next round begins, at the first table.
abbrev pub next_round : SimPlace → SimPlace
next_round place = record first_place { round = place.round + 1 }
