-- The text of the lines of the floor.
use Rattle.std.proofs.Common.{◌≡◌, ℕ, List, [], ◌∷◌, ◌++◌, map, refl, ap, sym, append-nil}
use Rattle.std.specs.List.{flat_map}
use Rattle.betting_round.specs.declared.act.Act.{Act}
use Rattle.card_set.specs.declared.card.CardRow.{CardRow}
use Rattle.tournament_events.specs.declared.event.Event.{Event}
use Rattle.tournament_events.specs.declared.event.Event.TheVariants as events
use Rattle.view_rules.specs.declared.entries.StackLine.{StackLine}
use Rattle.view_rules.specs.Spelling.{BeginLine, EventLine, FloorLine, RaceLine, SettleLine, StackIs, Floor, line_text, lines_text}
use Rattle.view_rules.specs.Lines.{floor_lines}

-- The text of one line of the floor for each item.
pub text-floor : {A : Type 0} (line : A → FloorLine) (items : List A)
    → flat_map (λ item. line_text (Floor (line item))) items ≡ lines_text (map Floor (map line items))
text-floor line [] = refl
text-floor line (item ∷ items) = ap (λ rest. line_text (Floor (line item)) ++ rest) (text-floor line items)

-- What the floor tells of the begin of a hand.
pub floor-begin : (table serial : ℕ) (row : CardRow) (stacks : List StackLine)
    → line_text (Floor (BeginLine table serial))
    ≡ lines_text (map Floor (floor_lines (events.Begin table row) serial stacks))
unfolding floor_lines
floor-begin table serial row stacks = sym (append-nil (line_text (Floor (BeginLine table serial))))

-- What the floor tells of a settle.
pub floor-settle : (table serial : ℕ) (stacks : List StackLine)
    → lines_text (map Floor (SettleLine table ∷ map StackIs stacks))
    ≡ lines_text (map Floor (floor_lines (events.Settle table) serial stacks))
unfolding floor_lines
floor-settle table serial stacks = refl

-- What the floor tells of a race.
pub floor-race : (table serial : ℕ) (row : CardRow) (stacks : List StackLine)
    → lines_text (map Floor (RaceLine table ∷ map StackIs stacks))
    ≡ lines_text (map Floor (floor_lines (events.Race table row) serial stacks))
unfolding floor_lines
floor-race table serial row stacks = refl

-- The floor tells nothing of acts.
pub floor-act : (table serial : ℕ) (name : List ℕ) (act : Act) (stacks : List StackLine)
    → [] ≡ lines_text (map Floor (floor_lines (events.Act table name act) serial stacks))
unfolding floor_lines
floor-act table serial name act stacks = refl

-- The floor tells nothing of called times.
pub floor-time : (table serial : ℕ) (stacks : List StackLine)
    → [] ≡ lines_text (map Floor (floor_lines (events.Time table) serial stacks))
unfolding floor_lines
floor-time table serial stacks = refl

-- Every other event is told as it was given.
pub floor-given : (event : Event) (serial : ℕ) (stacks : List StackLine)
    → ((table : ℕ) (row : CardRow) → event ≡ events.Begin table row → ⊥)
    → ((table : ℕ) (name : List ℕ) (act : Act) → event ≡ events.Act table name act → ⊥)
    → ((table : ℕ) → event ≡ events.Time table → ⊥) → ((table : ℕ) → event ≡ events.Settle table → ⊥)
    → ((table : ℕ) (row : CardRow) → event ≡ events.Race table row → ⊥)
    → line_text (Floor (EventLine event)) ≡ lines_text (map Floor (floor_lines event serial stacks))
unfolding floor_lines
floor-given (events.Begin table row) serial stacks begin act time settle race = absurd (begin table row refl)
floor-given (events.Act table name given) serial stacks begin act time settle race = absurd (act table name given refl)
floor-given (events.Time table) serial stacks begin act time settle race = absurd (time table refl)
floor-given (events.Settle table) serial stacks begin act time settle race = absurd (settle table refl)
floor-given (events.Race table row) serial stacks begin act time settle race = absurd (race table row refl)
floor-given event serial stacks begin act time settle race = sym (append-nil (line_text (Floor (EventLine event))))
