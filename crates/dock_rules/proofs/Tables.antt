-- What an entry more does to the history of a table, and what holds of each legal history.
use Rattle.std.proofs.Common.{◌≡◌, ◌∙◌, ◌==◌, ℕ, Bool, true, false, cond, List, [], ◌∷◌, ◌++◌, fold, Option, Some, None, option_map, refl, ap, sym, subst, append_assoc, append-nil}
use Rattle.std.specs.Prelude.{IfSome, is_some, filter}
use Rattle.std.specs.Option.{ForSome}
use Rattle.std.proofs.lemmas.List.Sums.{fold-append}
use Rattle.table_engine.specs.declared.record.ActOf.{ActOf}
use Rattle.table_engine.specs.Hands.{HandTerms}
use Rattle.table_engine.specs.Plays.{IsLawfulPlay}
use Rattle.table_engine.specs.Starts.{IsLawfulStart}
use Rattle.table_engine.proofs.Chips.{chips-in_play}
use Rattle.table_engine.proofs.Plays.{lawful_play-more, lawful_play-none}
use Rattle.view_rules.specs.declared.entries.TableEntry.{TableEntry}
use Rattle.view_rules.specs.declared.entries.TableEntry.TheVariants.{Acted, Closed, Opened}
use Rattle.view_rules.specs.Entries.{MayCome, TableTold, entry_lines, hand_told, told_after, with_act}
use Rattle.dock_rules.specs.Tables.{HasItsChips, IsLegalTableHistory, IsSoundTable, MayComeInTurn, entries_lines, lies, lies_after, lying_hand, openings, table_caller, told_through}

-- No hand lies at a table with no history.
pub lying-nil : lying_hand [] ≡ None
unfolding lying_hand
lying-nil = refl

-- The hand that lies there after one more entry.
pub lying-push : (history : List TableEntry) (entry : TableEntry)
    → lying_hand (history ++ entry ∷ []) ≡ hand_told (lying_hand history) entry
unfolding lying_hand
lying-push history entry = fold-append hand_told None history (entry ∷ [])

-- The hand that lies there after more entries.
pub lying-append : (history more : List TableEntry)
    → lying_hand (history ++ more) ≡ fold hand_told (lying_hand history) more
unfolding lying_hand
lying-append history more = fold-append hand_told None history more

-- Entries that may come in turn, and others that may come after them, may come in turn together.
in_turn-append : (hand : Option HandTerms) (entries more : List TableEntry) → MayComeInTurn hand entries
    → MayComeInTurn (fold hand_told hand entries) more → MayComeInTurn hand (entries ++ more)
in_turn-append hand [] more front back = back
in_turn-append hand (entry ∷ entries) more front back =
    (front.0, in_turn-append (hand_told hand entry) entries more front.1 back)

-- Of entries that may come in turn, those behind some others may come after these.
in_turn-back : (hand : Option HandTerms) (entries more : List TableEntry) → MayComeInTurn hand (entries ++ more)
    → MayComeInTurn (fold hand_told hand entries) more
in_turn-back hand [] more all = all
in_turn-back hand (entry ∷ entries) more all = in_turn-back (hand_told hand entry) entries more all.1

-- Of entries that may come in turn, the first ones may.
in_turn-front : (hand : Option HandTerms) (entries more : List TableEntry) → MayComeInTurn hand (entries ++ more)
    → MayComeInTurn hand entries
in_turn-front hand [] more all = tt
in_turn-front hand (entry ∷ entries) more all = (all.0, in_turn-front (hand_told hand entry) entries more all.1)

-- No history is a legal one.
pub legal-nil : IsLegalTableHistory []
unfolding IsLegalTableHistory
legal-nil = tt

-- A legal history is legal with one more entry that may come next.
pub legal-push : (history : List TableEntry) (entry : TableEntry) → IsLegalTableHistory history
    → MayCome (lying_hand history) entry → IsLegalTableHistory (history ++ entry ∷ [])
unfolding IsLegalTableHistory lying_hand
legal-push history entry legal may = in_turn-append None history (entry ∷ []) legal (may, tt)

-- A legal history is legal with more entries that may come in turn.
pub legal-append : (history more : List TableEntry) → IsLegalTableHistory history
    → MayComeInTurn (lying_hand history) more → IsLegalTableHistory (history ++ more)
unfolding IsLegalTableHistory lying_hand
legal-append history more legal may = in_turn-append None history more legal may

-- The entries behind some others of a legal history may come after these.
pub legal-back : (history more : List TableEntry) → IsLegalTableHistory (history ++ more)
    → MayComeInTurn (lying_hand history) more
unfolding IsLegalTableHistory lying_hand
legal-back history more legal = in_turn-back None history more legal

-- The first entries of a legal history are one.
pub legal-front : (history more : List TableEntry) → IsLegalTableHistory (history ++ more)
    → IsLegalTableHistory history
unfolding IsLegalTableHistory
legal-front history more legal = in_turn-front None history more legal

-- An entry of a legal history may come after those before it.
pub legal-next : (history front : List TableEntry) (entry : TableEntry) (back : List TableEntry)
    → history ≡ front ++ entry ∷ back → IsLegalTableHistory history → MayCome (lying_hand front) entry
legal-next history front entry back is legal =
    (legal-back front (entry ∷ back) (subst IsLegalTableHistory is legal)).0

-- A hand started lawfully and was played lawfully so far.
pub record IsPlayedLawfully (hand : HandTerms) : Type 0 where
  pub start : IsLawfulStart hand.start
  pub play : IsLawfulPlay hand

-- An entry that may come next leaves a hand that is played lawfully, or none.
lawful-next : (hand : Option HandTerms) (entry : TableEntry) → ForSome hand IsPlayedLawfully → MayCome hand entry
    → ForSome (hand_told hand entry) IsPlayedLawfully
lawful-next None (Opened start) lawful may = λ found is.
    let same : record { start = start; acts = [] } ≡ found = cc in
    subst IsPlayedLawfully same (record { start = may; play = lawful_play-none start })
lawful-next (Some hand) (Opened start) lawful may = absurd may
lawful-next None (Acted caller act) lawful may = absurd may
lawful-next (Some hand) (Acted caller act) lawful may = λ found is.
    let same : with_act act hand ≡ found = cc in
    let before = lawful hand refl in
    subst IsPlayedLawfully same (record {
      start = before.start;
      play = lawful_play-more hand act before.play may.free may.timed;
    })
lawful-next None Closed lawful may = absurd may
lawful-next (Some hand) Closed lawful may = λ found is. absurd cc

-- Entries that may come in turn leave a hand that is played lawfully, or none.
lawful-through : (hand : Option HandTerms) (entries : List TableEntry) → ForSome hand IsPlayedLawfully
    → MayComeInTurn hand entries → ForSome (fold hand_told hand entries) IsPlayedLawfully
lawful-through hand [] lawful may = lawful
lawful-through hand (entry ∷ entries) lawful may =
    lawful-through (hand_told hand entry) entries (lawful-next hand entry lawful may.0) may.1

-- The hand that lies there by a legal history is played lawfully.
pub lying-lawful : (history : List TableEntry) (hand : HandTerms) → IsLegalTableHistory history
    → lying_hand history ≡ Some hand → IsPlayedLawfully hand
unfolding IsLegalTableHistory lying_hand
lying-lawful history hand legal lies_there =
    lawful-through None history (λ found is. absurd cc) legal hand lies_there

-- It has its chips.
pub lying-chips : (history : List TableEntry) (hand : HandTerms) → IsLegalTableHistory history
    → lying_hand history ≡ Some hand → HasItsChips hand
lying-chips history hand legal lies_there =
    let lawful = lying-lawful history hand legal lies_there in chips-in_play hand lawful.start lawful.play

-- A legal history is sound.
pub sound-legal : (history : List TableEntry) → IsLegalTableHistory history → IsSoundTable history
sound-legal history legal =
    record { legal = legal; chips = chips-of (lying_hand history) (λ hand is. lying-chips history hand legal is) }
  where
    chips-of : (found : Option HandTerms) → ForSome found HasItsChips → IfSome found HasItsChips
    chips-of None have = tt
    chips-of (Some hand) have = have hand refl

-- A sound history stays sound with one more entry that may come next, and the hand that lies there is as the entry
-- leaves it.
pub sound-push : (history : List TableEntry) (hand : Option HandTerms) (entry : TableEntry) (after : List TableEntry)
    → IsSoundTable history → lying_hand history ≡ hand → MayCome hand entry → after ≡ history ++ entry ∷ []
    → IsSoundTable after × (lying_hand after ≡ hand_told hand entry)
sound-push history hand entry after sound told may is =
    let may_come : MayCome (lying_hand history) entry =
    subst (λ (found : Option HandTerms). MayCome found entry) (sym told) may in (
      subst IsSoundTable (sym is)
          (sound-legal (history ++ entry ∷ []) (legal-push history entry sound.legal may_come)),
      ap lying_hand is
          ∙ (lying-push history entry ∙ ap (λ (found : Option HandTerms). hand_told found entry) told),
    )

-- an act changes nothing of whether a hand lies there
act-lies : (hand : Option HandTerms) (act : ActOf) → is_some (option_map (with_act act) hand) ≡ is_some hand
act-lies None act = refl
act-lies (Some hand) act = refl

-- whether a hand lies there is told by the openings and closings
lies-through : (hand : Option HandTerms) (lies : Bool) (history : List TableEntry) → is_some hand ≡ lies
    → is_some (fold hand_told hand history) ≡ fold lies_after lies history
lies-through hand lies [] same = same
lies-through hand lies (Opened start ∷ history) same =
    lies-through (hand_told hand (Opened start)) true history refl
lies-through hand lies (Acted caller act ∷ history) same =
    lies-through (hand_told hand (Acted caller act)) lies history (act-lies hand act ∙ same)
lies-through hand lies (Closed ∷ history) same = lies-through None false history refl

-- A hand lies there just where the openings and closings tell so.
pub lies-lying : (history : List TableEntry) → is_some (lying_hand history) ≡ lies history
unfolding lying_hand
lies-lying history = lies-through None false history refl

-- The worker's own entries.
abbrev pub workers : List TableEntry → List TableEntry
workers history = filter (λ entry. table_caller entry == 0) history

-- acts may be left out
lies-without : (mine lies : Bool) (caller : ℕ) (act : ActOf) (history rest : List TableEntry)
    → fold lies_after lies rest ≡ fold lies_after lies history
    → fold lies_after lies (cond mine (Acted caller act ∷ rest) rest) ≡ fold lies_after lies history
lies-without true lies caller act history rest same = same
lies-without false lies caller act history rest same = same

lies-workers_after : (lies : Bool) (history : List TableEntry)
    → fold lies_after lies (workers history) ≡ fold lies_after lies history
lies-workers_after lies [] = refl
lies-workers_after lies (Opened start ∷ history) = lies-workers_after true history
lies-workers_after lies (Acted caller act ∷ history) =
    lies-without (caller == 0) lies caller act history (workers history) (lies-workers_after lies history)
lies-workers_after lies (Closed ∷ history) = lies-workers_after false history

-- The worker's own entries tell whether a hand lies there.
pub lies-workers : (history : List TableEntry) → lies (workers history) ≡ is_some (lying_hand history)
lies-workers history = lies-workers_after false history ∙ sym (lies-lying history)

openings-without : (mine : Bool) (caller : ℕ) (act : ActOf) (history rest : List TableEntry)
    → openings rest ≡ openings history
    → openings (cond mine (Acted caller act ∷ rest) rest) ≡ openings history
openings-without true caller act history rest same = same
openings-without false caller act history rest same = same

-- They have all openings.
pub openings-workers : (history : List TableEntry) → openings (workers history) ≡ openings history
openings-workers [] = refl
openings-workers (Opened start ∷ history) = ap (λ starts. start ∷ starts) (openings-workers history)
openings-workers (Acted caller act ∷ history) =
    openings-without (caller == 0) caller act history (workers history) (openings-workers history)
openings-workers (Closed ∷ history) = openings-workers history

-- Where none lies there by the worker's own entries, none does.
pub none-by_workers : (history : List TableEntry) → lies (workers history) ≡ false → lying_hand history ≡ None
none-by_workers history none = nothing (lying_hand history) (sym (lies-workers history) ∙ none)
  where
    nothing : (hand : Option HandTerms) → is_some hand ≡ false → hand ≡ None
    nothing None is = refl
    nothing (Some hand) is = absurd cc

-- The lines of entries, and then those of one more.
pub lines-push : (told : TableTold) (entries : List TableEntry) (entry : TableEntry)
    → entries_lines told (entries ++ entry ∷ [])
    ≡ entries_lines told entries ++ entry_lines (told_through told entries) entry
lines-push told [] entry = append-nil (entry_lines told entry)
lines-push told (first ∷ entries) entry =
    ap (λ lines. entry_lines told first ++ lines) (lines-push (told_after told first) entries entry)
    ∙ sym
    (append_assoc (entry_lines told first) (entries_lines (told_after told first) entries)
    (entry_lines (told_through (told_after told first) entries) entry))

-- Who tells has, after entries, the hand that they leave.
pub told-hand : (told : TableTold) (entries : List TableEntry)
    → (told_through told entries).hand ≡ fold hand_told told.hand entries
told-hand told [] = refl
told-hand told (entry ∷ entries) = told-hand (told_after told entry) entries
