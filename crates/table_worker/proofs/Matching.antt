-- A table matches the journal where its worker is done.
use Rattle.std.proofs.Common.{◌≡◌, ◌⊎◌, ◌∙◌, inl, inr, sym, ap, ℕ, ◌+◌, ◌≤◌, List, [], ◌∷◌, ◌++◌, length, map, take, append-nil, length-append, arith}
use Rattle.std.specs.Prelude.{drop}
use Rattle.std.proofs.lemmas.List.{take-append-drop}
use Rattle.table_engine.specs.declared.start.HandStart.{HandStart}
use Rattle.table_engine.specs.Hands.{HandTerms}
use Rattle.view_rules.specs.declared.entries.JournalEntry.{JournalEntry}
use Rattle.view_rules.specs.declared.entries.TableEntry.{TableEntry}
use Rattle.dock_rules.specs.Tables.{IsLegalTableHistory, openings}
use Rattle.dock_rules.specs.Journals.{Begun, Settled, Tale, tale_of}
use Rattle.dock_rules.specs.Whole.{IsMatch, begun_at, hands_of, settled_at}
use Rattle.table_worker.specs.Alone.{IsAlone}
use Rattle.table_worker.specs.Ties.{IsBrought, hands_closed, hands_settled, starts_begun}
use Rattle.table_worker.proofs.Alone.{same-hands}
use Rattle.table_worker.proofs.Played.{played-opened}

-- A list of which all items but the last, at most, are in another that begins it.
all-or-but_last : {A : Type 0} (whole front : List A) → front ≡ take (length front) whole
    → length whole ≤ length front + 1
    → (whole ≡ front) ⊎ ((last : A) × (whole ≡ front ++ last ∷ []))
all-or-but_last {A = A} whole front begins few =
    by_rest (drop (length front) whole)
    (sym (take-append-drop (length front) whole)
    ∙ ap (λ (items : List A). items ++ drop (length front) whole) (sym begins))
  where
    by_rest : (rest : List A) → whole ≡ front ++ rest → (whole ≡ front) ⊎ ((last : A) × (whole ≡ front ++ last ∷ []))
    by_rest [] is = inl (is ∙ append-nil front)
    by_rest (last ∷ []) is = inr (last, is)
    by_rest (one ∷ other ∷ rest) is =
        absurd (let long = ap length is in
        omega (arith, long, few, length-append front (one ∷ other ∷ rest)))

-- A table matches the journal where its worker is done, and alone begins and settles hands there.
pub brought-matches : (caller table : ℕ) (journal : List JournalEntry) (history : List TableEntry)
    → IsLegalTableHistory history → IsAlone caller table journal → IsBrought caller table journal history
    → IsMatch table (tale_of journal) (hands_of history)
brought-matches caller table journal history legal alone brought =
    let tale : Tale = tale_of journal in
    let same = same-hands caller table journal alone brought.work in
    let began : begun_at table tale ≡ starts_begun caller tale = ap (map (λ (one : Begun). one.start)) same.begun in
    let settled : settled_at table tale ≡ hands_settled caller tale =
    ap (map (λ (one : Settled). one.hand)) same.settled in
    let played = played-opened history legal in
    record {
      starts = by_side began played (all-or-but_last (starts_begun caller tale) (openings history) brought.opened
          brought.all_but_last);
      acts = settled ∙ (brought.settled
          ∙ ap (λ (hands : List HandTerms). take (length hands) (hands_closed history)) (sym settled));
    }
  where
    by_side : {began given opened played : List HandStart} → began ≡ given → opened ≡ played
        → (given ≡ opened) ⊎ ((last : HandStart) × (given ≡ opened ++ last ∷ []))
        → (began ≡ played) ⊎ ((last : HandStart) × (began ≡ played ++ last ∷ []))
    by_side one two (inl all) = inl (one ∙ (all ∙ two))
    by_side one two (inr but) = inr (but.0, one ∙ (but.1 ∙ ap (λ (starts : List HandStart). starts ++ but.0 ∷ []) two))
