-- Who acts in a hand has entered, so that the name of an act that is not refused is known.
use Rattle.std.proofs.Common.{◌≡◌, ◌∙◌, refl, ap, ℕ, Bool, true, false, List, [], ◌∷◌}
use Rattle.std.specs.Prelude.{◌++◌, not, Option, Some, None, is_some, option_map, if◌then◌else◌}
use Rattle.std.specs.Option.{option_map_or}
use Rattle.std.proofs.lemmas.Bool.{and_parts}
use Rattle.rulebook.specs.Checks.{first_that_holds}
use Rattle.rulebook.proofs.Checks.{none_holds, none_holds-both}
use Rattle.floor_text.specs.declared.refusal.Refusal.{Refusal}
use Rattle.floor_text.specs.declared.refusal.Refusal.TheVariants as refusals
use Rattle.betting_round.specs.declared.act.Act.{Act}
use Rattle.entry_list.specs.Entries.{is_known}
use Rattle.table_engine.specs.declared.start.HandStart.{HandStart}
use Rattle.table_engine.specs.Hands.{HandTerms}
use Rattle.table_engine.specs.Acts.{is_dealt, act_checks}
use Rattle.tournament_events.specs.declared.event.Event.TheVariants as events
use Rattle.tournament_rules.specs.Books.{start_at, has_table}
use Rattle.tournament_rules.specs.Checks.{going_checks, known_checks, hand_checks, is_playing, playing_checks}
use Rattle.tournament_rules.specs.States.{PlayState, acts_at, refusal_of}
use Rattle.tournament_rules.specs.Valid.{IsValid}
use Rattle.tournament_rules.proofs.Acting.{dealt_known}
use Rattle.tournament_rules.proofs.Passed.{is_so}
use Rattle.floor_core.specs.Acting.{refusal_by_hand}

-- A table that is not refused is played at.
is_played : (there playing : Bool)
    → first_that_holds ((refusals.NoTable, not there) ∷ (refusals.NotPlaying, not playing) ∷ []) ≡ None → playing ≡ true
is_played true true none = refl
is_played true false none = absurd cc
is_played false playing none = absurd cc

-- Whose act a hand does not refuse is dealt in.
act_dealt : (hand : HandTerms) (name : List ℕ) (act : Act) → first_that_holds (act_checks hand name act) ≡ None
    → is_dealt hand.start name ≡ true
unfolding act_checks
act_dealt hand name act none = is_so _ (and_parts _ _ (none_holds (act_checks hand name act) none)).0

-- The name of an act that neither the table nor its hand refuses is known.
name_known : (play : PlayState) (table : ℕ) (name : List ℕ) (act : Act) → IsValid play.book
    → refusal_by_hand play table name act ≡ None → is_known play.book.entries name ≡ true
unfolding refusal_by_hand
name_known play table name act valid none = by_start (start_at play.book.started table) refl none
  where
    by_start : (start : Option HandStart) → start_at play.book.started table ≡ start
        → first_that_holds
        (playing_checks play.book table
        ++ option_map_or (λ hand. hand_checks hand (events.Act table name act))
        (option_map (λ start. record { start = start; acts = acts_at play.acts table })
        (start_at play.book.started table)) [])
        ≡ None
        → is_known play.book.entries name ≡ true
    by_start None is none =
        let quiet : is_playing play.book table ≡ false = valid.tables.playing table ∙ ap is_some is in
        let later : first_that_holds (playing_checks play.book table ++ []) ≡ None = rw is at none in
        let both = none_holds-both (playing_checks play.book table) [] later in
        let playing = is_played (has_table play.book table) (is_playing play.book table) both.0 in
        absurd cc
    by_start (Some start) is none =
        let hand : HandTerms = record { start = start; acts = acts_at play.acts table } in
        let later : first_that_holds (playing_checks play.book table ++ act_checks hand name act) ≡ None =
        rw is at none in
        let both = none_holds-both (playing_checks play.book table) (act_checks hand name act) later in
        dealt_known play.book table start name valid is (act_dealt hand name act both.1)

-- Why an act is refused: a stop comes first, then that nobody of the name entered, and then the table and its hand.
act_split : (play : PlayState) (table : ℕ) (name : List ℕ) (act : Act)
    → refusal_of play (events.Act table name act)
    ≡ (if play.book.stopped then Some refusals.Stopped
    else (if not (is_known play.book.entries name) then Some refusals.NameUnknown
    else refusal_by_hand play table name act))
unfolding refusal_of refusal_by_hand
act_split play table name act = refl

-- After a stop an act is refused by that.
pub act_stopped : (play : PlayState) (table : ℕ) (name : List ℕ) (act : Act) (refusal : Refusal)
    → first_that_holds (going_checks play.book) ≡ Some refusal
    → refusal_of play (events.Act table name act) ≡ Some refusal
act_stopped play table name act refusal stopped = act_split play table name act ∙ by_stop play.book.stopped stopped
  where
    by_stop : (b : Bool) → first_that_holds ((refusals.Stopped, b) ∷ []) ≡ Some refusal
        → (if b then Some refusals.Stopped
        else (if not (is_known play.book.entries name) then Some refusals.NameUnknown
        else refusal_by_hand play table name act))
        ≡ Some refusal
    by_stop true is = is
    by_stop false is = absurd cc

-- An act of who never entered is refused by that.
pub act_unknown : (play : PlayState) (table : ℕ) (name : List ℕ) (act : Act) (refusal : Refusal)
    → first_that_holds (going_checks play.book) ≡ None
    → first_that_holds (known_checks play.book name) ≡ Some refusal
    → refusal_of play (events.Act table name act) ≡ Some refusal
act_unknown play table name act refusal going unknown =
    act_split play table name act ∙ by_both play.book.stopped (is_known play.book.entries name) going unknown
  where
    by_both : (stopped known : Bool) → first_that_holds ((refusals.Stopped, stopped) ∷ []) ≡ None
        → first_that_holds ((refusals.NameUnknown, not known) ∷ []) ≡ Some refusal
        → (if stopped then Some refusals.Stopped
        else (if not known then Some refusals.NameUnknown else refusal_by_hand play table name act))
        ≡ Some refusal
    by_both true known going unknown = absurd cc
    by_both false true going unknown = absurd cc
    by_both false false going unknown = unknown

-- An act of who entered is refused by the table or its hand.
pub act_refused : (play : PlayState) (table : ℕ) (name : List ℕ) (act : Act)
    → first_that_holds (going_checks play.book) ≡ None → first_that_holds (known_checks play.book name) ≡ None
    → refusal_of play (events.Act table name act) ≡ refusal_by_hand play table name act
act_refused play table name act going known =
    act_split play table name act ∙ by_both play.book.stopped (is_known play.book.entries name) going known
  where
    by_both : (stopped known : Bool) → first_that_holds ((refusals.Stopped, stopped) ∷ []) ≡ None
        → first_that_holds ((refusals.NameUnknown, not known) ∷ []) ≡ None
        → (if stopped then Some refusals.Stopped
        else (if not known then Some refusals.NameUnknown else refusal_by_hand play table name act))
        ≡ refusal_by_hand play table name act
    by_both true known going none = absurd cc
    by_both false true going none = refl
    by_both false false going none = absurd cc

-- An act that neither the table nor its hand refuses is not refused before a stop.
pub act_accepted : (play : PlayState) (table : ℕ) (name : List ℕ) (act : Act) → IsValid play.book
    → first_that_holds (going_checks play.book) ≡ None → refusal_by_hand play table name act ≡ None
    → refusal_of play (events.Act table name act) ≡ None
act_accepted play table name act valid going none =
    let known = name_known play table name act valid none in
    act_refused play table name act going (rw known refl) ∙ none
