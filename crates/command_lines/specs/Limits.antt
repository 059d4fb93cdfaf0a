-- The greatest numbers of a command and of its input. This project's own.
use Rattle.std.specs.Prelude.{◌<◌, ℕ, ◌+◌, List, length, Option, IfSome, IsSomeAnd}

-- A plan file has at most 1,048,576 bytes, 2 ^ 20.
abbrev pub plan_limit : ℕ
plan_limit = 1048576

-- The last port is 65,535, 2 ^ 16 - 1.
abbrev pub last_port : ℕ
last_port = 65535

-- A server has at most 128 desks.
abbrev pub most_desks : ℕ
most_desks = 128

-- a source that tells gave more bytes than a limit
abbrev pub GivesMore : ℕ → Option (List ℕ) → Option (List ℕ) → Type 0
GivesMore limit old new = IfSome old (λ bytes. IsSomeAnd new (λ rest. limit + length rest < length bytes))
