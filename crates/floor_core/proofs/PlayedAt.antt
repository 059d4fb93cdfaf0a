-- A hand is there exactly where a table is playing.
use Rattle.std.proofs.Common.{◌≡◌, ◌∙◌, refl, sym, ℕ, List}
use Rattle.std.specs.Prelude.{Option, Some, None, is_some, option_map}
use Rattle.table_engine.specs.declared.record.ActOf.{ActOf}
use Rattle.table_engine.specs.declared.start.HandStart.{HandStart}
use Rattle.table_engine.specs.Hands.{HandTerms}
use Rattle.tournament_rules.specs.Books.{start_at}
use Rattle.tournament_rules.specs.Checks.{is_playing}
use Rattle.tournament_rules.specs.States.{PlayState, acts_at, hand_at}
use Rattle.tournament_rules.specs.Valid.{IsValid}

hand_of : List ActOf → HandStart → HandTerms
hand_of acts start = record { start = start; acts = acts }

-- A hand is kept of a table exactly where it is playing.
pub hand_played : (play : PlayState) (table : ℕ) → IsValid play.book
    → is_some (hand_at play table) ≡ is_playing play.book table
unfolding hand_of
hand_played play table valid =
    by_start (start_at play.book.started table) ∙ sym (valid.tables.playing table)
  where
    by_start : (start : Option HandStart)
        → is_some (option_map (hand_of (acts_at play.acts table)) start) ≡ is_some start
    by_start None = refl
    by_start (Some start) = refl
