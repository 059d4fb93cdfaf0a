-- A client who has said nothing.
use Rattle.std.proofs.Common.{◌≡◌, refl, ℕ, zero, suc, None, replicate, arith}
use Rattle.std.specs.Prelude.{slice_get}
use Rattle.std.specs.Option.{option_flatten}
use Rattle.session_desk.specs.declared.told.Watch.{Watch}
use Rattle.session_desk.specs.Desks.{Sights}
use Rattle.session_desk.specs.Telling.{IsToldOf, first_reach, watch_of}

-- none is among none
none-among : (count index : ℕ) → option_flatten {T = Watch} (slice_get (replicate count None) index) ≡ None
none-among zero index = refl
none-among (suc count) zero = refl
none-among (suc count) (suc index) = none-among count index

-- No table is watched.
pub none-watched : (count table : ℕ) → watch_of (first_reach count) table ≡ None
none-watched count zero = refl
none-watched count (suc index) = none-among count index

-- He was told no more than was seen.
pub told-first : (seen : Sights) (count : ℕ) → IsToldOf seen (first_reach count)
told-first seen count = record {
  stranger = λ nobody table. none-watched count table;
  journal = omega arith;
  tables = λ table watch is.
      let none : watch_of (first_reach count) table ≡ None = none-watched count table in absurd (cc (none, is));
}
