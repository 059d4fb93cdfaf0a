-- The whole has the acts of each hand behind its begin, and so all acts of a table once and in order.
use Rattle.std.proofs.Common.{◌≡◌, ◌∙◌, refl, sym, ap, ℕ, zero, suc, ◌≤◌, Bool, true, false, cond, List, [], ◌∷◌, ◌++◌, map, drop, fold, length, append-nil, drop_of_length-le, arith}
use Rattle.std.specs.Prelude.{◌==◌, filter, if◌then◌else◌}
use Rattle.std.specs.List.{flat_map}
use Rattle.std.proofs.lemmas.Bool.{eqb-true}
use Rattle.std.proofs.lemmas.List.{length-append}
use Rattle.std.proofs.lemmas.List.Elements.{filter-append}
use Rattle.table_engine.specs.declared.record.ActOf.{ActOf}
use Rattle.table_engine.specs.Hands.{HandTerms}
use Rattle.tournament_events.specs.declared.event.Event.{Event}
use Rattle.tournament_events.specs.declared.event.Event.TheVariants as events
use Rattle.tournament_rules.specs.Dealing.{next_start}
use Rattle.view_rules.specs.declared.entries.JournalEntry.{JournalEntry}
use Rattle.dock_rules.specs.Journals.{Begun, Tale, act_event, book_of, first_tale, may_come, seeded, told_one}
use Rattle.dock_rules.specs.Whole.{TableHands, begun_at, first_acts, hands_played, is_act_at, whole_events, whole_from}
use Rattle.whole_laws.proofs.EntriesTaken.{first-may, never-played}
use Rattle.whole_laws.proofs.AtTables.{starts_at}
use Rattle.whole_laws.proofs.Told.{begun-more, begun-same}

-- the acts of a hand, as events of a table
abbrev pub hand_events : ℕ → HandTerms → List Event
hand_events table hand = map (act_event table) hand.acts

-- An act is one at its own table alone.
act-own : (table there : ℕ) (act : ActOf) → is_act_at table (act_event there act) ≡ (there == table)
act-own table there act = by_time act.by_time
  where
    by_time : (timed : Bool)
        → is_act_at table (if timed then events.Time there else events.Act there act.name act.act) ≡ (there == table)
    by_time true = refl
    by_time false = refl

-- All acts of a table are kept for that table.
acts-kept : (table there : ℕ) (acts : List ActOf) → (there == table) ≡ true
    → filter (is_act_at table) (map (act_event there) acts) ≡ map (act_event table) acts
acts-kept table there [] here = refl
acts-kept table there (act ∷ acts) here =
    let kept = acts-kept table there acts here in
    let mine = act-own table there act ∙ here in
    ap (λ (mine : Bool). cond mine (act_event there act ∷ filter (is_act_at table) (map (act_event there) acts))
    (filter (is_act_at table) (map (act_event there) acts))) mine
    ∙ (λ i. act_event (eqb-true there table here i) act ∷ kept i)

-- None of another table is.
acts-dropped : (table there : ℕ) (acts : List ActOf) → (there == table) ≡ false
    → filter (is_act_at table) (map (act_event there) acts) ≡ []
acts-dropped table there [] apart = refl
acts-dropped table there (act ∷ acts) apart =
    let other = act-own table there act ∙ apart in
    ap (λ (mine : Bool). cond mine (act_event there act ∷ filter (is_act_at table) (map (act_event there) acts))
    (filter (is_act_at table) (map (act_event there) acts))) other
    ∙ acts-dropped table there acts apart

-- The acts of the hands behind some are those of the next one and of the hands behind that.
next-acts : (table : ℕ) (count : ℕ) (hands : List HandTerms)
    → flat_map (hand_events table) (drop count hands)
    ≡ map (act_event table) (first_acts (drop count hands)) ++ flat_map (hand_events table) (drop (suc count) hands)
next-acts table zero [] = refl
next-acts table zero (hand ∷ hands) = refl
next-acts table (suc count) [] = refl
next-acts table (suc count) (hand ∷ hands) = next-acts table count hands

-- the acts of those hands of a table that are behind as many as began there
abbrev acts_to_come : ℕ → TableHands → Tale → List Event
acts_to_come table hands tale =
    flat_map (hand_events table) (drop (length (begun_at table tale)) (hands_played hands))

-- An entry adds, of a table, the acts of the next hand where one begins there, and else none.
abbrev AddsActs : (ℕ → TableHands) → ℕ → Tale → JournalEntry → Type 0
AddsActs tables table tale entry =
    filter (is_act_at table) (whole_events tables tale entry.event)
    ++ acts_to_come table (tables table) (told_one tale entry) ≡ acts_to_come table (tables table) tale

adds-acts : (tables : ℕ → TableHands) (table : ℕ) (tale : Tale) (entry : JournalEntry)
    → may_come (seeded tale entry) entry ≡ true → AddsActs tables table tale entry
adds-acts tables table tale entry = by_event entry.event
  where
    -- the entry with this event
    entry_of : Event → JournalEntry
    entry_of event = record entry { event = event }

    -- the acts of the hands at the table that are behind so many
    behind : ℕ → List Event
    behind count = flat_map (hand_events table) (drop count (hands_played (tables table)))

    -- the acts that the whole has behind a begin at a table
    made : ℕ → List ActOf
    made there = first_acts (drop (length (begun_at there tale)) (hands_played (tables there)))

    by_event : (event : Event) → may_come (seeded tale (entry_of event)) (entry_of event) ≡ true
        → AddsActs tables table tale (entry_of event)
    by_event (events.Act there name act) may =
        absurd (never-played tale (entry_of (events.Act there name act)) refl may)
    by_event (events.Time there) may = absurd (never-played tale (entry_of (events.Time there)) refl may)
    by_event (events.Begin there row) may = by_table (there == table) refl
      where
        begin : JournalEntry
        begin = entry_of (events.Begin there row)

        new : Begun
        new = record { by = entry.caller; start = next_start (book_of tale) there row.cards }

        by_table : (mine : Bool) → (there == table) ≡ mine → AddsActs tables table tale begin
        by_table true mine =
            let count = ap length (begun-more table tale begin new refl mine)
            ∙ length-append (begun_at table tale) (new.start ∷ []) in
            let next : length (begun_at table (told_one tale begin)) ≡ suc (length (begun_at table tale)) =
            omega (arith, count) in
            let kept = acts-kept table there (made there) mine
            ∙ ap (λ (number : ℕ). map (act_event table) (made number)) (eqb-true there table mine) in
            (λ i. kept i ++ behind (next i))
            ∙ sym (next-acts table (length (begun_at table tale)) (hands_played (tables table)))
        by_table false apart = λ i. acts-dropped table there (made there) apart i
            ++ behind (length (begun-same table tale begin new refl apart i))
    by_event event may = ap (λ (begun : List Begun). behind (length (starts_at table begun))) (append-nil tale.begun)

-- All entries that are still to come add the acts of all hands that are still to begin.
acts-from : (tables : ℕ → TableHands) (table : ℕ) (tale : Tale) (entries : List JournalEntry)
    → (fold told_one tale entries).legal ≡ true
    → length (hands_played (tables table)) ≤ length (begun_at table (fold told_one tale entries))
    → filter (is_act_at table) (whole_from tables tale entries)
    ≡ acts_to_come table (tables table) tale
acts-from tables table tale [] legal all =
    sym (ap (flat_map (hand_events table)) (drop_of_length-le (hands_played (tables table)) all))
acts-from tables table tale (entry ∷ entries) legal all =
    let may = first-may tale entry entries legal in
    let here : List Event = whole_events tables tale entry.event in
    let rest : List Event = whole_from tables (told_one tale entry) entries in
    let later = acts-from tables table (told_one tale entry) entries legal all in
    filter-append (is_act_at table) here rest
    ∙ (ap (λ (acts : List Event). filter (is_act_at table) here ++ acts) later
    ∙ adds-acts tables table tale entry may)

-- The whole has all acts of each table once and in order, where each hand that was opened there began.
pub whole-acts : (tables : ℕ → TableHands) (table : ℕ) (entries : List JournalEntry)
    → (fold told_one first_tale entries).legal ≡ true
    → length (hands_played (tables table)) ≤ length (begun_at table (fold told_one first_tale entries))
    → filter (is_act_at table) (whole_from tables first_tale entries)
    ≡ flat_map (hand_events table) (hands_played (tables table))
whole-acts tables table = acts-from tables table first_tale
