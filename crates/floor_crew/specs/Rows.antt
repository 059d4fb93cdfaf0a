-- Rows of things, among which others are spread. This project's own.
use Rattle.std.specs.Prelude.{◌≡◌, ◌≤◌, ℕ, List, [], ◌∷◌, ◌++◌, IfSome, Vec, length, slice_get, vec_capacity}
use Rattle.session_desk.specs.Desks.{of_table}

module _ {T A : Type 0} where
  -- A row is empty, and has room for so many things.
  pub record IsEmptyFor (count : ℕ) (row : Vec T A) : Type 0 where
    pub none : row.items ≡ []
    pub room : count ≤ vec_capacity row

  -- A thing was put behind those of a row, into room that was there.
  pub record IsPutBehind (before : Vec T A) (thing : T) (after : Vec T A) : Type 0 where
    pub items : after.items ≡ before.items ++ thing ∷ []
    pub room : vec_capacity after ≡ vec_capacity before

  -- Each thing was put behind those of the row at its place.
  pub record AreSpread (before after : List (Vec T A)) (things : List T) : Type 0 where
    pub count : length after ≡ length before
    pub each : (index : ℕ) → IfSome (slice_get before index) (λ old. IfSome (slice_get things index)
        (λ thing. IfSome (slice_get after index) (λ new. IsPutBehind old thing new)))

  -- Behind the things of each table's row stand these more.
  abbrev pub HaveGrown : List (Vec T A) → List (Vec T A) → (ℕ → List T) → Type 0
  HaveGrown before after more =
      (table : ℕ) → IfSome (of_table before table)
      (λ old. IfSome (of_table after table) (λ new. new.items ≡ old.items ++ more table))
