-- What an entry of the journal is in the whole tells at a table.
use Rattle.std.proofs.Common.{◌≡◌, ◌∙◌, refl, sym, ap, ℕ, Bool, true, false, inl, inr, List, [], ◌∷◌, ◌++◌, map, drop, fold, length, append-nil}
use Rattle.std.specs.Prelude.{◌==◌, None}
use Rattle.std.proofs.lemmas.Bool.{and_parts, eqb-true}
use Rattle.std.proofs.Math.Seq.{drop-nil}
use Rattle.table_engine.specs.declared.start.HandStart.{HandStart}
use Rattle.table_engine.specs.Hands.{HandTerms}
use Rattle.tournament_events.specs.declared.event.Event.{Event}
use Rattle.tournament_events.specs.declared.event.Event.TheVariants as events
use Rattle.tournament_rules.specs.Dealing.{next_start}
use Rattle.tournament_rules.specs.States.{State}
use Rattle.tournament_rules.specs.Valid.{IsValidState}
use Rattle.view_rules.specs.declared.entries.JournalEntry.{JournalEntry}
use Rattle.view_rules.specs.declared.entries.TableEntry.{TableEntry}
use Rattle.view_rules.specs.declared.entries.TableEntry.TheVariants.{Opened}
use Rattle.view_rules.specs.Entries.{begun}
use Rattle.view_rules.specs.Lines.{lines_of_event, table_lines}
use Rattle.view_rules.specs.Seen.{SeenState, seen_event}
use Rattle.view_rules.specs.Shown.{Viewer}
use Rattle.view_rules.specs.Spelling.{BeginLine, FloorLine, Floor, ViewLine}
use Rattle.view_rules.specs.Views.{told_from}
use Rattle.dock_rules.specs.Journals.{Begun, Tale, are_accepted, begun_by, book_of, events_of, may_come, seeded, told_one}
use Rattle.dock_rules.specs.Whole.{TableHands, begun_at, first_acts, hands_played, whole_events}
use Rattle.whole_laws.proofs.AtTables.{starts_at}
use Rattle.whole_laws.proofs.EntriesTaken.{never-played}
use Rattle.whole_laws.proofs.Fits.{DoFit}
use Rattle.whole_laws.proofs.InTurn.{starts_of}
use Rattle.whole_laws.proofs.Planning.{by_plan}
use Rattle.whole_laws.proofs.Told.{begun-more, begun-same}
use Rattle.whole_laws.proofs.WholeOf.{ArePlaying}
use Rattle.listening_laws.specs.Parts.{part_of_table}
use Rattle.session_desk.specs.Telling.{first_teller}
use Rattle.listening_laws.proofs.HandLines.{act_entries, hand_lines, hands_lines, hands_lines-push}
use Rattle.listening_laws.proofs.LineParts.{part-none, part-other, part-own}
use Rattle.listening_laws.proofs.InWhole.{acts_behind, told-begin}
use Rattle.listening_laws.proofs.UnderWay.{IsUnderWay, next-may, next-whole}

-- the hands of these starts, each with the acts of the played one at its place, where there is one
abbrev pub hands_from : List HandStart → List HandTerms → List HandTerms
hands_from [] played = []
hands_from (start ∷ starts) [] = begun start ∷ hands_from starts []
hands_from (start ∷ starts) (hand ∷ played) =
    record { start = start; acts = hand.acts } ∷ hands_from starts played

-- One start more is a hand more, with the acts of the played one behind as many as there are starts.
hands_from-push : (starts : List HandStart) (start : HandStart) (played : List HandTerms)
    → hands_from (starts ++ start ∷ []) played
    ≡ hands_from starts played ++ (record { start = start; acts = first_acts (drop (length starts) played) }) ∷ []
hands_from-push [] start [] = refl
hands_from-push [] start (hand ∷ played) = refl
hands_from-push (first ∷ starts) start [] =
    let rest = hands_from-push starts start [] in
    ap (λ (hands : List HandTerms). begun first ∷ hands) rest
    ∙ ap (λ (left : List HandTerms). begun first ∷ (hands_from starts []
    ++ (record { start = start; acts = first_acts left }) ∷ [])) (drop-nil (length starts))
hands_from-push (first ∷ starts) start (hand ∷ played) =
    ap (λ (hands : List HandTerms). record { start = first; acts = hand.acts } ∷ hands)
    (hands_from-push starts start played)

hands_from-later : (later : List HandStart) → hands_from later [] ≡ map begun later
hands_from-later [] = refl
hands_from-later (start ∷ later) = ap (λ (hands : List HandTerms). begun start ∷ hands) (hands_from-later later)

-- The hands of the starts of those that were played, and of later ones, are those, and later ones with no act.
pub hands_from-all : (played : List HandTerms) (later : List HandStart)
    → hands_from (starts_of played ++ later) played ≡ played ++ map begun later
hands_from-all [] later = hands_from-later later
hands_from-all (hand ∷ played) later =
    ap (λ (hands : List HandTerms). hand ∷ hands) (hands_from-all played later)

module _ (tables : ℕ → TableHands) (who : Viewer) (table : ℕ) where
  -- the lines of those hands that began at the table by a journal, as the whole has them
  abbrev pub lines_begun : List HandStart → List ViewLine
  lines_begun starts = hands_lines who table (hands_from starts (hands_played (tables table)))

  -- the table's part in what is told of events
  abbrev part_from : State → List Event → List ViewLine
  part_from state events = part_of_table table (told_from lines_of_event who state events)

  -- What an entry is in the whole tells of the table the lines of the hand that it begins there, if it begins one.
  abbrev AddsLines : Tale → State → JournalEntry → Type 0
  AddsLines tale state entry =
      lines_begun (begun_at table tale) ++ part_from state (whole_events tables tale entry.event)
      ≡ lines_begun (begun_at table (told_one tale entry))

  -- It is so where nothing is told of the table, and no hand begins there.
  adds-none : (tale : Tale) (starts : List HandStart) (told : List ViewLine) → told ≡ []
      → starts ≡ begun_at table tale → lines_begun (begun_at table tale) ++ told ≡ lines_begun starts
  adds-none tale starts told none same =
      ap (λ (lines : List ViewLine). lines_begun (begun_at table tale) ++ lines) none
      ∙ (append-nil (lines_begun (begun_at table tale)) ∙ ap lines_begun (sym same))

  -- So it is of an event of which the tables tell nothing, and that begins no hand.
  adds-quiet : (tale : Tale) (state : State) (event : Event)
      → ((before after : SeenState) → table_lines before (seen_event event) after ≡ [])
      → lines_begun (begun_at table tale) ++ part_from state (event ∷ [])
      ≡ lines_begun (starts_at table (tale.begun ++ []))
  adds-quiet tale state event quiet = adds-none tale (starts_at table (tale.begun ++ [])) (part_from state (event ∷ []))
      (part-none who state event table quiet) (ap (starts_at table) (append-nil tale.begun))

  -- It is so where a hand begins: here the whole tells its lines, and elsewhere nothing of the table.
  adds-begin : (tale : Tale) (state : State) (entry : JournalEntry) (new : Begun) (there : ℕ) (made : List Event)
      (line : FloorLine) → begun_by (seeded tale entry) entry.caller entry.event ≡ new ∷ []
      → told_from lines_of_event who state made
      ≡ Floor line ∷ hand_lines who there (record { start = new.start; acts = acts_behind tables tale there })
      → new.start.table ≡ there
      → lines_begun (begun_at table tale) ++ part_from state made
      ≡ lines_begun (begun_at table (told_one tale entry))
  adds-begin tale state entry new there made line brings told at = by_table (there == table) refl
    where
      hand : ℕ → HandTerms
      hand number = record { start = new.start; acts = acts_behind tables tale number }

      entries : List TableEntry
      entries = Opened new.start ∷ act_entries (acts_behind tables tale there)

      has : (other : Bool) → (there == table) ≡ other → (new.start.table == table) ≡ other
      has other is = ap (λ (number : ℕ). number == table) at ∙ is

      by_table : (mine : Bool) → (there == table) ≡ mine
          → lines_begun (begun_at table tale) ++ part_from state made
          ≡ lines_begun (begun_at table (told_one tale entry))
      by_table true mine =
          let starts : List HandStart = begun_at table tale in
          let played : List HandTerms = hands_played (tables table) in
          let is = eqb-true there table mine in
          let part = ap (part_of_table table) told
          ∙ (part-own table (first_teller who there) entries mine
          ∙ (λ i. hand_lines who (is i) (hand (is i)))) in
          ap (λ (lines : List ViewLine). lines_begun starts ++ lines) part
          ∙ (sym (hands_lines-push who table (hands_from starts played) (hand table))
          ∙ (ap (hands_lines who table) (sym (hands_from-push starts new.start played))
          ∙ ap lines_begun (sym (begun-more table tale entry new brings (has true mine)))))
      by_table false apart =
          adds-none tale (begun_at table (told_one tale entry)) (part_from state made)
          (ap (part_of_table table) told ∙ part-other table (first_teller who there) entries apart)
          (begun-same table tale entry new brings (has false apart))

  -- Before the plan is whole nothing is told of the table.
  adds-planning : (tale : Tale) (state : State) (entry : JournalEntry) → tale.state.play ≡ None
      → are_accepted tale.state (events_of entry) ≡ true → AddsLines tale state entry
  adds-planning tale state entry none accepted = by_plan tale.state
      (λ event acts. AddsLines tale state (record entry { event = event; acts = acts })) none
      (λ line acts. adds-quiet tale state (events.Plan line) (λ before after. refl))
      (λ acts ends. adds-quiet tale state events.Go (λ before after. refl))
      entry.event entry.acts accepted

  -- Once it is whole, each entry adds its lines.
  adds-playing : (tale : Tale) (state : State) (entry : JournalEntry) (rest : List JournalEntry)
      → ((number : ℕ) → DoFit number (tables number) (fold told_one tale (entry ∷ rest)))
      → IsValidState state → may_come (seeded tale entry) entry ≡ true → ArePlaying tables tale state
      → are_accepted state (whole_events tables tale entry.event) ≡ true → AddsLines tale state entry
  adds-playing tale state entry rest fit valid may playing = by_event entry.event fit may
    where
      -- the entry with this event
      entry_of : Event → JournalEntry
      entry_of event = record entry { event = event }

      by_event : (event : Event)
          → ((number : ℕ) → DoFit number (tables number) (fold told_one tale (entry_of event ∷ rest)))
          → may_come (seeded tale (entry_of event)) (entry_of event) ≡ true
          → are_accepted state (whole_events tables tale event) ≡ true → AddsLines tale state (entry_of event)
      by_event (events.Act there name act) fits may accepted =
          absurd (never-played tale (entry_of (events.Act there name act)) refl may)
      by_event (events.Time there) fits may accepted =
          absurd (never-played tale (entry_of (events.Time there)) refl may)
      by_event (events.Begin there row) fits may accepted =
          let event : Event = events.Begin there row in
          let new : Begun = record { by = entry.caller; start = next_start (book_of tale) there row.cards } in
          adds-begin tale state (entry_of event) new there (whole_events tables tale event)
          (BeginLine there new.start.serial) refl
          (told-begin tables tale state valid playing who entry rest there row (fits there) accepted) refl
      by_event event fits may accepted = adds-quiet tale state event (λ before after. refl)

  -- So does an entry at each moment.
  pub adds-entry : (tale : Tale) (state : State) (entry : JournalEntry) (entries : List JournalEntry)
      → IsUnderWay tables tale state (entry ∷ entries) → AddsLines tale state entry
  adds-entry tale state entry entries way =
      let may = next-may tables tale state entry entries way in
      elim way.beside [
        | inl planning ↦ adds-planning tale state entry planning.none (and_parts _ _ may).0
        | inr playing ↦ adds-playing tale state entry entries way.fit way.whole_valid may playing
            (next-whole tables tale state entry entries way).accepted
      ]
