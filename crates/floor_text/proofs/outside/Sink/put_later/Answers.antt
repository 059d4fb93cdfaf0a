use Rattle.std.proofs.Common.{◌≡◌, List, ℕ, []}
use Rattle.std.specs.Prelude.{Option, IfSome, Result, Ok, Err, OnOk}
use Rattle.floor_text.specs.Outside.{EndsWith}
use Rattle.floor_text.proofs.WrittenFronts.{ends_with_none}
use Rattle.floor_text.proofs.outside.Sink.put_later.Goals as goal

-- where nothing is held back, that is the end of what is known
none_last : {T E : Type 0} (result : Result T E) (known : Option (List ℕ)) (held : List ℕ) → OnOk result (held ≡ [])
    → OnOk result (IfSome known (λ all. EndsWith all held))
none_last (Ok _) known held none = rw none (ends_with_none known)
none_last (Err _) known held none = tt

pub returns-clause-held_last : goal.returns-clause-held_last
returns-clause-held_last g c =
    none_last c.put.result (g.Self.Sink.written c.put.new.self) (g.Self.Sink.held c.put.new.self)
    c.put.ensures.let_go
