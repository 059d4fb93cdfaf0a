-- The history of a table: hands are opened there, acts are made in them, and they are closed. This project's own.
use Rattle.std.specs.Prelude.{◌≡◌, ℕ, ◌+◌, Bool, true, false, List, [], ◌∷◌, ◌++◌, All, fold, sum, sum_by, Option, Some, None, option_map, option_to_list, Result, IfOk, IfSome}
use Rattle.std.specs.List.{filter_map}
use Rattle.std.specs.Option.{option_map_or}
use Rattle.floor_text.specs.declared.refusal.Refusal.{Refusal}
use Rattle.floor_text.specs.declared.refusal.Refusal.TheVariants.{NotPlaying}
use Rattle.betting_round.specs.declared.act.Act.{Act}
use Rattle.betting_round.specs.declared.act.Done.{Done}
use Rattle.table_engine.specs.declared.start.HandStart.{HandStart}
use Rattle.table_engine.specs.declared.record.ActFault.{ActFault}
use Rattle.table_engine.specs.Acts.{IsAnswer, done_of_act, done_of_time, refusal_of_act, refusal_of_time, time_act}
use Rattle.table_engine.specs.Hands.{HandTerms, behind, dead_chips, put_in_hand}
use Rattle.table_engine.specs.Results.{starting_stacks}
use Rattle.view_rules.specs.declared.entries.TableEntry.{TableEntry}
use Rattle.view_rules.specs.declared.entries.TableEntry.TheVariants.{Opened, Acted, Closed}
use Rattle.view_rules.specs.Entries.{MayCome, TableTold, entry_lines, hand_told, told_after}
use Rattle.view_rules.specs.Spelling.{ViewLine}

-- Who made an entry: the worker, whose number is 0, opens and closes, and an act has the number of whoever brought it.
abbrev pub table_caller : TableEntry → ℕ
table_caller (Opened start) = 0
table_caller (Acted caller act) = caller
table_caller Closed = 0

-- The hand that lies at a table by its history: the one that was opened last, with the acts since, unless it was
-- closed.
unfoldable pub lying_hand : List TableEntry → Option HandTerms
lying_hand history = fold hand_told None history

-- Entries may come one after another where this hand lies at the table, or none: each of them where those before it
-- have left the hand.
abbrev pub MayComeInTurn : Option HandTerms → List TableEntry → Type 0
MayComeInTurn hand [] = Unit {0}
MayComeInTurn hand (entry ∷ more) = MayCome hand entry × MayComeInTurn (hand_told hand entry) more

-- The history of a table is legal where its entries may come one after another, the first where no hand lies there: a
-- hand is opened only where none lies there, and starts lawfully; an act and a closing come only where one does; and
-- each act is lawful on the last opening's start and the acts since.
unfoldable pub IsLegalTableHistory : List TableEntry → Type 0
IsLegalTableHistory history = MayComeInTurn None history

-- the start of the hand that an entry opens
abbrev pub start_opened : TableEntry → Option HandStart
start_opened (Opened start) = Some start
start_opened entry = None

-- The starts of the hands that were opened at a table, in order.
abbrev pub openings : List TableEntry → List HandStart
openings history = filter_map start_opened history

-- All hands that were opened are of this table.
abbrev pub AreOfTable : ℕ → List TableEntry → Type 0
AreOfTable table history = All (λ start. start.table ≡ table) (openings history)

-- whether a hand lies at a table after an entry
abbrev pub lies_after : Bool → TableEntry → Bool
lies_after lies (Opened start) = true
lies_after lies (Acted caller act) = lies
lies_after lies Closed = false

-- Whether a hand lies at a table by its openings and closings alone.
abbrev pub lies : List TableEntry → Bool
lies history = fold lies_after false history

-- Why an act is refused at a history, if it is: no hand lies at the table, or that hand refuses it.
abbrev pub act_refusal_at : List TableEntry → List ℕ → Act → Option Refusal
act_refusal_at history name act =
    option_map_or (λ hand. refusal_of_act hand name act) (lying_hand history) (Some NotPlaying)

-- Why a called time is refused at a history, if it is.
abbrev pub time_refusal_at : List TableEntry → Option Refusal
time_refusal_at history = option_map_or refusal_of_time (lying_hand history) (Some NotPlaying)

-- The answer of an act stands at a history: it is refused exactly as there, and else comes to what it comes to in the
-- hand that lies at the table.
pub record ActStandsAt (history : List TableEntry) (name : List ℕ) (act : Act) (result : Result Done ActFault)
    : Type 0 where
  pub answer : IsAnswer (act_refusal_at history name act) result
  pub done : IfOk result (λ done. option_map (λ hand. done_of_act hand name act) (lying_hand history) ≡ Some done)

-- The answer of a called time stands at a history.
pub record TimeStandsAt (history : List TableEntry) (result : Result Done ActFault) : Type 0 where
  pub answer : IsAnswer (time_refusal_at history) result
  pub done : IfOk result (λ done. option_map done_of_time (lying_hand history) ≡ Some done)

-- What a called time adds to a history: the act that it makes for the player who is due.
abbrev pub called_entries : ℕ → List TableEntry → List TableEntry
called_entries caller history =
    option_to_list (option_map (λ hand. Acted caller (time_act hand)) (lying_hand history))

-- A hand has its chips: all that its players have behind, all that they have put in and the ante that was posted sum to
-- the stacks that they began it with.
abbrev pub HasItsChips : HandTerms → Type 0
HasItsChips hand =
    sum_by (behind hand) hand.start.seats + sum_by (put_in_hand hand) hand.start.seats + dead_chips hand.start
    ≡ sum (starting_stacks hand)

-- The history of a table is sound: it is legal, and the hand that lies there by it has its chips.
pub record IsSoundTable (history : List TableEntry) : Type 0 where
  pub legal : IsLegalTableHistory history
  pub chips : IfSome (lying_hand history) HasItsChips

-- The lines of entries, one after another, by who tells of their table.
abbrev pub entries_lines : TableTold → List TableEntry → List ViewLine
entries_lines told [] = []
entries_lines told (entry ∷ more) = entry_lines told entry ++ entries_lines (told_after told entry) more

-- Who tells of a table, after entries.
abbrev pub told_through : TableTold → List TableEntry → TableTold
told_through told entries = fold told_after told entries
