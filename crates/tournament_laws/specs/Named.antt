-- Whom an event names. This project's own.
use Rattle.std.specs.Prelude.{ℕ, Bool, false, List, [], ◌∷◌}
use Rattle.std.specs.Str.{bytes_eq}
use Rattle.tournament_events.specs.declared.event.Event.{Event}
use Rattle.tournament_events.specs.declared.event.Event.TheVariants.{Reenter, Act, Break}

-- The names of the players that an event brings back, moves or lets act: of a re-entry and of an act that of its
-- player, of a break those of the table's players.
abbrev pub names_in : Event → List (List ℕ)
names_in (Reenter name table seat) = name ∷ []
names_in (Act table name act) = name ∷ []
names_in (Break table places names) = names
names_in _ = []

-- whether an event is a re-entry under a name
abbrev pub reenters_as : List ℕ → Event → Bool
reenters_as name (Reenter other table seat) = bytes_eq name other
reenters_as name _ = false
