-- What contracts see of a teller's fields. This project's own.
use Rattle.std.specs.Prelude.{◌-◌, length, take, Option, Some, None}
use Rattle.std.specs.Option.{ForSome}
use Rattle.table_engine.specs.Hands.{HandTerms}
use Rattle.table_engine.specs.Plays.{IsLawfulPlay}
use Rattle.table_engine.specs.Starts.{IsLawfulStart}
use Rattle.player_view.specs.declared.teller.Kept.{Kept}
use Rattle.player_view.specs.declared.teller.Told.{Told}
use Rattle.player_view.specs.declared.teller.Told.TheVariants as tolds

-- the hand that is kept
abbrev pub kept_hand : Kept → HandTerms
kept_hand kept = record { start = kept.start; acts = kept.acts }

-- the hand as far as it was told
abbrev pub hand_of : Told → Option HandTerms
hand_of tolds.Nothing = None
hand_of (tolds.Played hand) = Some hand
hand_of (tolds.Again kept) = Some (kept_hand kept)

-- what is told of where this hand is played, if one is
abbrev pub played : Option HandTerms → Told
played None = tolds.Nothing
played (Some hand) = tolds.Played hand

-- the parts of a hand without its last act
abbrev pub without_last : HandTerms → Kept
without_last hand = record { start = hand.start; acts = take (length hand.acts - 1) hand.acts }

-- what is told of once the last act of the hand that is played was taken back
abbrev pub taken_back : Told → Told
taken_back (tolds.Played hand) = tolds.Again (without_last hand)
taken_back told = told

-- the hand that is to be played again, if one is
abbrev pub kept_of : Told → Option HandTerms
kept_of (tolds.Again kept) = Some (kept_hand kept)
kept_of told = None

-- A hand can be played again.
pub record IsPlayable (hand : HandTerms) : Type 0 where
  pub start : IsLawfulStart hand.start
  pub play : IsLawfulPlay hand

-- A hand that is to be played again can be.
pub record IsTelling (told : Told) : Type 0 where
  pub playable : ForSome (kept_of told) IsPlayable
