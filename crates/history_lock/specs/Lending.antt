-- What a write through the value inside leaves.
use Rattle.std.specs.Borrow.{Lends, MutBor, Fml}
use denote.RattleType.{RattleType}
use Rattle.history_lock.specs.declared.grows.Grows.{Ghosts}
use Rattle.history_lock.specs.declared.inside.Inside.{Inside}
use Rattle.history_lock.specs.contracts.inside.Inside.{the_row}

-- Only the value changes, to the last one behind r.
abbrev pub LendsValue : (V E : RattleType) (g : Ghosts V.Denot E.Denot) → MutBor (Inside V.Denot E.Denot g)
    → MutBor V.Denot → Fml
LendsValue V E g s r = Lends (the_row V E g) V s r (λ w. record s.now { value = w })
