-- An act or a called time and a neighbor that is not of the hands at its table: each is accepted before the other just
-- where it is accepted after it, and both make the same of the tournament in either order.
use Rattle.std.proofs.Common.{◌≡◌, ◌∙◌, refl, sym, ap, ℕ, false, List, [], ◌∷◌, ◌++◌, set}
use Rattle.std.specs.Prelude.{Option, Some, None, option_and_then}
use Rattle.std.specs.Option.{option_map_or, option_or}
use Rattle.std.proofs.lemmas.Bool.{eqb-false}
use Rattle.std.proofs.lemmas.List.{get_or-set_other}
use Rattle.table_engine.specs.declared.record.ActOf.{ActOf}
use Rattle.table_engine.specs.Hands.{HandTerms}
use Rattle.table_engine.specs.Acts.{hand_after_time}
use Rattle.tournament_events.specs.declared.event.Event.{Event}
use Rattle.tournament_events.specs.declared.event.Event.TheVariants as events
use Rattle.tournament_rules.specs.Checks.{book_refusal}
use Rattle.tournament_rules.specs.States.{PlayState, act_table, acts_at, hand_at, hand_about, acts_effect, refusal_of, play_effect}
use Rattle.tournament_rules.specs.Valid.{IsValidPlay}
use Rattle.tournament_rules.specs.Apart.{hand_refusal}
use Rattle.tournament_rules.proofs.Fitting.{other_number}
use Rattle.tournament_rules.proofs.Passed.{refusal-parts}
use Rattle.tournament_rules.proofs.Plays.{play_keeps}
use Rattle.tournament_laws.specs.Orders.{is_of_hands}
use Rattle.tournament_laws.proofs.Lists.{set_swap}
use Rattle.tournament_laws.proofs.KeptHands.{hand_kept, event_keeps}
use Rattle.tournament_rules.proofs.Acting.{by_act, MayAct, may_act, acts_freely}

-- a tournament with other acts at a table
abbrev pub with_acts : PlayState → ℕ → List ActOf → PlayState
with_acts play table new = record play { acts = set play.acts table new }

-- The hand that an event is about is the same with other acts at a table whose hands it is not of.
pub hand_about-with_acts : (play : PlayState) (table : ℕ) (new : List ActOf) (event : Event)
    → is_of_hands table event ≡ false → hand_about (with_acts play table new) event ≡ hand_about play event
hand_about-with_acts play table new (events.Act there name act) apart =
    rw (get_or-set_other play.acts table there new [] (eqb-false there table apart)) refl
hand_about-with_acts play table new (events.Time there) apart =
    rw (get_or-set_other play.acts table there new [] (eqb-false there table apart)) refl
hand_about-with_acts play table new (events.Settle there) apart =
    rw (get_or-set_other play.acts table there new [] (eqb-false there table apart)) refl
hand_about-with_acts play table new _ apart = refl

-- Other acts at the table and what such an event makes of the acts come to the same in either order.
pub acts_effect-with_acts : (acts : List (List ActOf)) (hand : Option HandTerms) (table : ℕ) (new : List ActOf)
    (event : Event) → is_of_hands table event ≡ false
    → acts_effect (set acts table new) hand event ≡ set (acts_effect acts hand event) table new
acts_effect-with_acts acts hand table new (events.Begin there row) apart =
    set_swap acts table there new [] (other_number there table apart)
acts_effect-with_acts acts hand table new (events.Act there name act) apart =
    rw (get_or-set_other acts table there new [] (eqb-false there table apart))
    (set_swap acts table there new _ (other_number there table apart))
acts_effect-with_acts acts hand table new (events.Time there) apart =
    set_swap acts table there new _ (other_number there table apart)
acts_effect-with_acts acts hand table new (events.Settle there) apart =
    set_swap acts table there new [] (other_number there table apart)
acts_effect-with_acts acts hand table new events.Stop apart = absurd cc
acts_effect-with_acts acts hand table new _ apart = refl

-- the acts at a table after an act or a called time
abbrev pub acts_by : Event → List ActOf → Option HandTerms → List ActOf
acts_by (events.Act table name act) acts hand = acts ++ (record { name = name; act = act; by_time = false }) ∷ []
acts_by event acts hand = option_map_or (λ hand. (hand_after_time hand).acts) hand []

-- An act and a called time change the acts at their table alone.
pub act-effect : (play : PlayState) (table : ℕ) (act : Event) → act_table act ≡ Some table
    → play_effect play act ≡ with_acts play table (acts_by act (acts_at play.acts table) (hand_at play table))
act-effect play table =
    by_act (λ act. play_effect play act
    ≡ with_acts play table (acts_by act (acts_at play.acts table) (hand_at play table))) table (λ name act. refl) refl

-- The other event is refused alike before the act and after it.
pub refused_alike : (play : PlayState) (table : ℕ) (act other : Event) → act_table act ≡ Some table
    → is_of_hands table other ≡ false → refusal_of (play_effect play act) other ≡ refusal_of play other
refused_alike play table act other at apart =
    let new = acts_by act (acts_at play.acts table) (hand_at play table) in
    let hand = hand_about-with_acts play table new other apart in
    ap (λ (play : PlayState). refusal_of play other) (act-effect play table act at)
    ∙ (refusal-parts (with_acts play table new) other
    ∙ (ap (λ (hand : Option HandTerms). option_or (book_refusal play.book other)
    (option_and_then (hand_refusal other) hand)) hand
    ∙ sym (refusal-parts play other)))

-- Where the act may be made before the other event it may be made after it, and the other way round.
moved : (table : ℕ) (act : Event) (before after : PlayState) → after.book.stopped ≡ before.book.stopped
    → hand_at after table ≡ hand_at before table → MayAct before table act → MayAct after table act
moved table act before after going hand may =
    record { going = going ∙ may.going; hand = may.hand; started = hand ∙ may.started; free = may.free }

-- The act is accepted after the other event where it is accepted before it.
pub act_later : (play : PlayState) (table : ℕ) (act other : Event) → IsValidPlay play → act_table act ≡ Some table
    → is_of_hands table other ≡ false → refusal_of play other ≡ None → refusal_of play act ≡ None
    → refusal_of (play_effect play other) act ≡ None
act_later play table act other valid at apart none free =
    let after = play_effect play other in
    let kept = event_keeps play table other valid none apart in
    acts_freely after table (play_keeps play other valid none) act at
    (moved table act play after kept.going (hand_kept table play after kept) (may_act play table valid act at free))

-- The act is accepted before the other event where it is accepted after it.
pub act_sooner : (play : PlayState) (table : ℕ) (act other : Event) → IsValidPlay play → act_table act ≡ Some table
    → is_of_hands table other ≡ false → refusal_of play other ≡ None
    → refusal_of (play_effect play other) act ≡ None → refusal_of play act ≡ None
act_sooner play table act other valid at apart none free =
    let after = play_effect play other in
    let kept = event_keeps play table other valid none apart in
    acts_freely play table valid act at
    (moved table act after play (sym kept.going) (sym (hand_kept table play after kept))
    (may_act after table (play_keeps play other valid none) act at free))

-- Both make the same of the tournament in either order.
pub effects_alike : (play : PlayState) (table : ℕ) (act other : Event) → IsValidPlay play → act_table act ≡ Some table
    → is_of_hands table other ≡ false → refusal_of play other ≡ None
    → play_effect (play_effect play act) other ≡ play_effect (play_effect play other) act
effects_alike play table act other valid at apart none =
    let after = play_effect play other in
    let new = acts_by act (acts_at play.acts table) (hand_at play table) in
    let later = acts_by act (acts_at after.acts table) (hand_at after table) in
    let kept = event_keeps play table other valid none apart in
    let same : later ≡ new = λ i. acts_by act (kept.acts i) (hand_kept table play after kept i) in
    let hand = hand_about-with_acts play table new other apart in
    let acts = acts_effect-with_acts play.acts (hand_about play other) table new other apart in
    let first : play_effect (with_acts play table new) other ≡ with_acts after table new = rw (hand, acts) refl in
    ap (λ (play : PlayState). play_effect play other) (act-effect play table act at)
    ∙ (first
    ∙ (ap (with_acts after table) (sym same)
    ∙ sym (act-effect after table act at)))
