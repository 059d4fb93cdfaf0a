-- What holds of a result that is an error.
use Rattle.std.proofs.Common.{◌≡◌}
use Rattle.std.specs.Prelude.{Result, Ok, Err, IfOk, IsErrAnd}

-- What is said of `Ok` alone holds of a result that is an error.
pub no_ok : {T E : Type 0} (result : Result T E) (error : E) (P : T → Type 0)
    → IsErrAnd result (λ other. other ≡ error) → IfOk result P
no_ok (Ok value) error P is = absurd is
no_ok (Err other) error P is = tt
