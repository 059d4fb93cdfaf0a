-- The acts of a table's history are those of its hands.
use Rattle.std.proofs.Common.{◌≡◌, ◌∙◌, refl, sym, ap, ℕ, List, [], ◌∷◌, ◌++◌, fold, map, append-nil, append_assoc}
use Rattle.std.specs.Prelude.{Option, None, Some, option_to_list}
use Rattle.std.specs.List.{flat_map}
use Rattle.std.proofs.lemmas.Grind.{flat_map-append}
use Rattle.std.proofs.lemmas.List.{map-append}
use Rattle.table_engine.specs.declared.record.ActOf.{ActOf}
use Rattle.table_engine.specs.Hands.{HandTerms}
use Rattle.tournament_events.specs.declared.event.Event.{Event}
use Rattle.view_rules.specs.declared.entries.TableEntry.{TableEntry}
use Rattle.view_rules.specs.declared.entries.TableEntry.TheVariants.{Acted, Closed, Opened}
use Rattle.view_rules.specs.Entries.{begun, with_act}
use Rattle.dock_rules.specs.Journals.{act_event}
use Rattle.dock_rules.specs.Tables.{IsLegalTableHistory, MayComeInTurn}
use Rattle.dock_rules.specs.Whole.{hands_after, hands_of, hands_played}
use Rattle.floor_crew.specs.Acted.{events_acted}

module _ (table : ℕ) where
  -- the acts of a hand, and those of some hands, as events
  abbrev acts_in : HandTerms → List Event
  acts_in hand = map (act_event table) hand.acts

  abbrev acts_of : List HandTerms → List Event
  acts_of hands = flat_map acts_in hands

  -- A hand without acts adds none.
  acts-begun : (closed : List HandTerms) (hand : HandTerms) → hand.acts ≡ []
      → acts_of (closed ++ hand ∷ []) ≡ acts_of (closed ++ [])
  acts-begun closed hand none =
      flat_map-append acts_in closed (hand ∷ [])
      ∙ (ap (λ (acts : List ActOf). acts_of closed ++ (map (act_event table) acts ++ [])) none
      ∙ sym (flat_map-append acts_in closed []))

  -- An act adds itself.
  acts-one : (closed : List HandTerms) (hand : HandTerms) (act : ActOf)
      → acts_of (closed ++ with_act act hand ∷ []) ≡ acts_of (closed ++ hand ∷ []) ++ act_event table act ∷ []
  acts-one closed hand act =
      let front = acts_of closed in
      let made = acts_in hand in
      let last : List Event = act_event table act ∷ [] in
      let whole : acts_of (closed ++ hand ∷ []) ≡ front ++ made =
      flat_map-append acts_in closed (hand ∷ []) ∙ ap (λ (l : List Event). front ++ l) (append-nil made) in
      flat_map-append acts_in closed (with_act act hand ∷ [])
      ∙ (ap (λ (l : List Event). front ++ l)
      (append-nil (acts_in (with_act act hand)) ∙ map-append (act_event table) hand.acts (act ∷ []))
      ∙ (sym (append_assoc front made last) ∙ ap (λ (l : List Event). l ++ last) (sym whole)))

  -- Entries that may come in turn add their acts to those of the hands.
  acts-walk : (closed : List HandTerms) (lying : Option HandTerms) (entries : List TableEntry)
      → MayComeInTurn lying entries
      → acts_of (hands_played (fold hands_after (record { closed = closed; lying = lying }) entries))
      ≡ acts_of (closed ++ option_to_list lying) ++ events_acted table entries
  acts-walk closed lying [] may = sym (append-nil (acts_of (closed ++ option_to_list lying)))
  acts-walk closed None (Opened start ∷ entries) may =
      acts-walk closed (Some (begun start)) entries may.1
      ∙ ap (λ (l : List Event). l ++ events_acted table entries) (acts-begun closed (begun start) refl)
  acts-walk closed (Some hand) (Opened start ∷ entries) may = absurd may.0
  acts-walk closed None (Acted caller act ∷ entries) may = absurd may.0
  acts-walk closed (Some hand) (Acted caller act ∷ entries) may =
      acts-walk closed (Some (with_act act hand)) entries may.1
      ∙ (ap (λ (l : List Event). l ++ events_acted table entries) (acts-one closed hand act)
      ∙ append_assoc (acts_of (closed ++ hand ∷ [])) (act_event table act ∷ []) (events_acted table entries))
  acts-walk closed None (Closed ∷ entries) may = absurd may.0
  acts-walk closed (Some hand) (Closed ∷ entries) may =
      acts-walk (closed ++ hand ∷ []) None entries may.1
      ∙ ap (λ (hands : List HandTerms). acts_of hands ++ events_acted table entries) (append-nil (closed ++ hand ∷ []))

-- The acts of all hands of a legal history are the acts in it, in order.
pub acts-held : (table : ℕ) (history : List TableEntry) → IsLegalTableHistory history
    → flat_map (λ hand. map (act_event table) hand.acts) (hands_played (hands_of history))
    ≡ events_acted table history
unfolding IsLegalTableHistory hands_of
acts-held table history legal = acts-walk table [] None history legal
