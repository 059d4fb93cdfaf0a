-- What an act and a called time leave as it is.
use Rattle.std.proofs.Common.{◌≡◌, ◌≢◌, ◌∙◌, refl, ap, ℕ, List, [], set}
use Rattle.std.specs.Prelude.{Option, Some, None, is_none, option_map, if◌then◌else◌}
use Rattle.std.proofs.lemmas.List.{get_or-set_other}
use Rattle.floor_text.specs.declared.refusal.Refusal.{Refusal}
use Rattle.table_engine.specs.declared.record.ActOf.{ActOf}
use Rattle.tournament_events.specs.declared.event.Event.{Event}
use Rattle.tournament_events.specs.declared.event.Event.TheVariants as events
use Rattle.tournament_rules.specs.Books.{start_at}
use Rattle.tournament_rules.specs.States.{PlayState, hand_at, act_table, refusal_of, play_effect, play_after}

-- What is kept by an effect is kept by an event, whether it is refused or not
pub kept_after : {A : Type 0} (read : PlayState → A) (play : PlayState) (event : Event)
    → read (play_effect play event) ≡ read play → read (play_after play event) ≡ read play
kept_after {A} read play event kept = by_refusal (refusal_of play event)
  where
    by_refusal : (found : Option Refusal)
        → read (if is_none found then play_effect play event else play) ≡ read play
    by_refusal None = kept
    by_refusal (Some refusal) = refl

-- The book stays as it is.
pub act-book : (play : PlayState) (event : Event) (table : ℕ) → act_table event ≡ Some table
    → (play_after play event).book ≡ play.book
act-book play (events.Act there name act) table at =
    kept_after (λ play. play.book) play (events.Act there name act) refl
act-book play (events.Time there) table at = kept_after (λ play. play.book) play (events.Time there) refl
act-book play _ table at = absurd cc

-- The hand at another table stays where the acts at one table are others.
hand_elsewhere : (play : PlayState) (table other : ℕ) (new : List ActOf) → other ≢ table
    → hand_at (record play { acts = set play.acts table new }) other ≡ hand_at play other
hand_elsewhere play table other new apart =
    ap (λ (acts : List ActOf).
    option_map (λ start. record { start = start; acts = acts }) (start_at play.book.started other))
    (get_or-set_other play.acts table other new [] apart)

-- Each hand at another table stays as it is.
pub act-elsewhere : (play : PlayState) (event : Event) (table other : ℕ) → act_table event ≡ Some table
    → other ≢ table → hand_at (play_after play event) other ≡ hand_at play other
act-elsewhere play (events.Act there name act) table other at apart =
    let same : there ≡ table = cc in
    kept_after (λ play. hand_at play other) play (events.Act there name act)
    (hand_elsewhere play there other _ (λ is. apart (is ∙ same)))
act-elsewhere play (events.Time there) table other at apart =
    let same : there ≡ table = cc in
    kept_after (λ play. hand_at play other) play (events.Time there)
    (hand_elsewhere play there other _ (λ is. apart (is ∙ same)))
act-elsewhere play _ table other at apart = absurd cc
