-- The chips in the hands that a journal has out.
use Rattle.std.proofs.Common.{◌≡◌, ◌∙◌, refl, sym, ap, ℕ, ◌+◌, true, List, []}
use Rattle.std.specs.Prelude.{sum_by, Option, Some, None}
use Rattle.std.specs.Option.{option_map_or}
use Rattle.level_plan.specs.Drafts.{plan_of}
use Rattle.table_engine.specs.declared.start.HandStart.{HandStart}
use Rattle.table_engine.specs.Starts.{chips_of}
use Rattle.tournament_rules.specs.Books.{BookState, starters_of}
use Rattle.tournament_rules.specs.Chips.{added, play, play_of, removed, rest, sold}
use Rattle.tournament_rules.specs.Effects.{first_book}
use Rattle.tournament_rules.specs.States.{PlayState, State}
use Rattle.tournament_laws.proofs.Holds.{chips_kept}
use Rattle.view_rules.specs.declared.entries.JournalEntry.{JournalEntry}
use Rattle.dock_rules.specs.Journals.{book_of, hands_out, tale_of}
use Rattle.whole_laws.proofs.InSlots.{sum-slots}
use Rattle.whole_laws.proofs.StartSteps.{book_at, none_first}
use Rattle.whole_laws.proofs.EntrySteps.{valid-told}
use Rattle.whole_laws.proofs.HandsOut.{out-in_slots}

-- the chips of the hand that has started at a table, if one has
abbrev chips_there : Option HandStart → ℕ
chips_there start = chips_of (starters_of start)

-- The chips in play of a state are those of its book.
play-book : (state : State) → play state ≡ play_of (book_at state)
play-book state = by_play state.play
  where
    first : BookState
    first = first_book (plan_of state.draft)

    by_play : (found : Option PlayState)
        → option_map_or (λ play. play_of play.book) found 0 ≡ play_of (option_map_or (λ play. play.book) found first)
    by_play None = sum-slots (λ start. start.table) chips_there [] first.started refl
        (record { each = λ table. sym (none_first (plan_of state.draft) table) })
    by_play (Some play) = refl

-- The stacks with which the hands that are out began are the chips in play.
pub play-out : (journal : List JournalEntry) → (tale_of journal).legal ≡ true
    → sum_by (λ start. chips_of start.seats) (hands_out journal) ≡ play (tale_of journal).state
play-out journal legal =
    sum-slots (λ start. start.table) chips_there (hands_out journal) (book_of (tale_of journal)).started refl
    (out-in_slots journal legal)
    ∙ sym (play-book (tale_of journal).state)

-- With those at rest they are what was sold and what races gave, less what races took away.
pub chips-out : (journal : List JournalEntry) → (tale_of journal).legal ≡ true
    → rest (tale_of journal).state + sum_by (λ start. chips_of start.seats) (hands_out journal)
    + removed (tale_of journal).state ≡ sold (tale_of journal).state + added (tale_of journal).state
chips-out journal legal =
    let state : State = (tale_of journal).state in
    ap (λ (chips : ℕ). rest state + chips + removed state) (play-out journal legal)
    ∙ chips_kept state.play (valid-told journal).play
