-- What a call adds to a history. This project's own.
use Rattle.std.specs.Prelude.{Bool, List, [], ◌∷◌, if◌then◌else◌}

-- The entry of a call where it was carried out, and else none.
abbrev pub only_if : {E : Type 0} → Bool → E → List E
only_if done entry = if done then entry ∷ [] else []
