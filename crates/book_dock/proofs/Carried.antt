-- What a begin, an order and a settle leave behind the lock.
use Rattle.std.proofs.Common.{◌≡◌, ◌∙◌, refl, sym, ap, subst, ℕ, ◌+◌, ◌<◌, ◌≤◌, false, true, List, [], ◌∷◌, ◌++◌, length, map, arith}
use Rattle.std.specs.Prelude.{None}
use Rattle.card_set.specs.declared.card.CardRow.{CardRow}
use Rattle.card_set.specs.Decks.{repeats_a_card}
use Rattle.table_engine.specs.declared.start.HandStart.{HandStart}
use Rattle.table_engine.specs.declared.start.StartSeat.{StartSeat}
use Rattle.table_engine.specs.declared.record.HandRecord.{HandRecord}
use Rattle.table_engine.specs.Plays.{IsCompletePlay, recorded_hand}
use Rattle.table_engine.specs.Results.{players_after}
use Rattle.tournament_events.specs.declared.event.Event.{Event}
use Rattle.tournament_events.specs.declared.event.Event.TheVariants as events
use Rattle.tournament_rules.specs.Books.{BookState}
use Rattle.tournament_rules.specs.Checks.{book_refusal}
use Rattle.tournament_rules.specs.Dealing.{next_start}
use Rattle.tournament_rules.specs.Effects.{begun_book, settled}
use Rattle.tournament_rules.specs.Kinds.{is_order}
use Rattle.tournament_rules.specs.States.{book_after}
use Rattle.simulation_rules.proofs.DrawnRows.{row-repeats_none}
use Rattle.view_rules.specs.declared.entries.JournalEntry.{JournalEntry}
use Rattle.view_rules.specs.declared.entries.StackLine.{StackLine}
use Rattle.view_rules.specs.Lines.{stack_after}
use Rattle.dock_rules.specs.Journals.{Has, entry_told, next_row, tale_of, with_draws}
use Rattle.dock_rules.specs.Kept.{IsKept, owed}
use Rattle.dock_rules.specs.Points.{next_begin, refusal_at}
use Rattle.dock_rules.proofs.Keeping.{has-begun}
use Rattle.dock_rules.proofs.Rooms.{owed-begun, owed-few, owed-ordered}
use Rattle.dock_rules.proofs.Settling.{kept-settle}
use Rattle.book_dock.specs.Asked.{rest_lines}
use Rattle.book_dock.proofs.Booked.{begin-kept, begin-refusal, begin-told, has-in_book, order-done, order-kept, order-told_so, owed-one, settle-told, valid-is}

-- The journal is the one that is told, it is kept with the book, and no more settles are owed than so many more.
pub record IsLeft (now : List JournalEntry) (told : List JournalEntry) (seed : List ℕ) (book after : BookState)
    (extra : ℕ) : Type 0 where
  pub journal : now ≡ told
  pub kept : IsKept now seed after
  pub few : owed after ≤ 65
  pub more : owed after ≤ owed book + extra

module _ (journal : List JournalEntry) where
  -- The deck that comes next repeats no card.
  pub row-distinct : (row : CardRow) → row ≡ next_row (tale_of journal) → repeats_a_card row.cards ≡ false
  row-distinct row drawn =
      let tale = tale_of journal in
      subst (λ (row : CardRow). repeats_a_card row.cards ≡ false) (sym drawn)
      (row-repeats_none tale.seed tale.count)

module _ (journal : List JournalEntry) (seed : List ℕ) (book : BookState) (kept : IsKept journal seed book) where
  left-kept : (now : List JournalEntry) (entry : JournalEntry) (after changed : BookState) (extra : ℕ)
      → now ≡ journal ++ entry ∷ [] → after ≡ changed → IsKept (journal ++ entry ∷ []) seed changed
      → owed changed ≤ owed book + extra → IsLeft now (journal ++ entry ∷ []) seed book after extra
  left-kept now entry after changed extra items state next more =
      let here : IsKept now seed after =
      subst (λ (at : List JournalEntry × BookState). IsKept at.0 seed at.1) (λ i. (sym items i, sym state i)) next in
      record {
        journal = items;
        kept = here;
        few = owed-few after (valid-is now seed after here);
        more = subst (λ (book_ : BookState). owed book_ ≤ owed book + extra) (sym state) more;
      }

  pushed : (reserved now : List JournalEntry) (entry told : JournalEntry) → reserved ≡ journal
      → now ≡ reserved ++ entry ∷ [] → entry ≡ told → now ≡ journal ++ told ∷ []
  pushed reserved now entry told same is as_told = is ∙ (λ i. same i ++ as_told i ∷ [])

  -- A begin is refused at the journal as the book refuses it.
  pub begin-refused : (table number : ℕ) (row : CardRow) → row ≡ next_row (tale_of journal) → number ≡ table
      → book_refusal book (events.Begin number row)
      ≡ refusal_at (tale_of journal) (next_begin (tale_of journal) table)
  begin-refused table number row drawn same =
      ap (λ (n : ℕ). book_refusal book (events.Begin n row)) same
      ∙ begin-refusal journal seed book kept table row drawn

  -- A begin that no check of its table refuses is not refused, since its deck repeats no card.
  pub begin-free : (table number : ℕ) → number ≡ table
      → ((row : CardRow) → repeats_a_card row.cards ≡ false → book_refusal book (events.Begin number row) ≡ None)
      → refusal_at (tale_of journal) (next_begin (tale_of journal) table) ≡ None
  begin-free table number same free =
      let row = next_row (tale_of journal) in
      sym (begin-refused table number row refl same) ∙ free row (row-distinct journal row refl)

  -- A hand that began, by the entry that is made of its parts.
  module _ (caller table number : ℕ) (row : CardRow) (drawn : row ≡ next_row (tale_of journal))
      (same : number ≡ table) (free : book_refusal book (events.Begin number row) ≡ None) where
    free-there : book_refusal book (events.Begin table row) ≡ None
    free-there = sym (ap (λ (n : ℕ). book_refusal book (events.Begin n row)) same) ∙ free

    -- What it leaves.
    pub begin-left : (after : BookState) (serial : ℕ) (entry : JournalEntry) (reserved now : List JournalEntry)
        → after ≡ begun_book book number row.cards → serial ≡ book.begun + 1
        → entry ≡ record {
          caller = caller;
          seed = seed;
          event = events.Begin number row;
          serial = serial;
          acts = [];
          stacks = [];
        }
        → reserved ≡ journal → now ≡ reserved ++ entry ∷ []
        → IsLeft now (journal ++ entry_told (tale_of journal) caller (next_begin (tale_of journal) table) [] ∷ []) seed
        book after 1
    begin-left after serial entry reserved now state counted is room items =
        left-kept now (entry_told (tale_of journal) caller (next_begin (tale_of journal) table) []) after
        (begun_book book table row.cards) 1
        (pushed reserved now entry (entry_told (tale_of journal) caller (next_begin (tale_of journal) table) []) room
        items (begin-told journal seed book kept caller table number serial row entry drawn same counted is))
        (state ∙ ap (λ (n : ℕ). begun_book book n row.cards) same)
        (begin-kept journal seed book kept caller table row drawn free-there) (owed-begun book table row.cards)

    -- It is out with who began it.
    pub begin-has : (start : HandStart) (now : List JournalEntry) → start ≡ next_start book number row.cards
        → number < length book.started
        → now ≡ journal ++ entry_told (tale_of journal) caller (next_begin (tale_of journal) table) [] ∷ []
        → Has caller start (tale_of now)
    begin-has start now made within items =
        subst (λ (at : HandStart × List JournalEntry). Has caller at.0 (tale_of at.1))
        (λ i. (sym (made ∙ ap (λ (n : ℕ). next_start book n row.cards) same) i, sym items i))
        (has-begun journal (entry_told (tale_of journal) caller (next_begin (tale_of journal) table) []) book table row
        refl (ap (events.Begin table) (sym drawn))
        (begin-kept journal seed book kept caller table row drawn free-there).come
        (subst (λ (n : ℕ). n < length book.started) same within))

  -- An order that was taken, by the entry that is made of its parts.
  pub order-left : (caller : ℕ) (event : Event) (after : BookState) (stacks : List StackLine) (entry : JournalEntry)
      (reserved now : List JournalEntry) → is_order event ≡ true → with_draws (tale_of journal) event ≡ event
      → book_refusal book event ≡ None → after ≡ book_after book event → stacks ≡ rest_lines event after
      → entry ≡ record { caller = caller; seed = seed; event = event; serial = 0; acts = []; stacks = stacks }
      → reserved ≡ journal → now ≡ reserved ++ entry ∷ []
      → IsLeft now (journal ++ entry_told (tale_of journal) caller event [] ∷ []) seed book after 0
  order-left caller event after stacks entry reserved now order drawn free state lines is room items =
      let done = state ∙ order-done journal seed book kept event free in
      let most = owed-ordered book event order in
      left-kept now (entry_told (tale_of journal) caller event []) after _ 0
      (pushed reserved now entry (entry_told (tale_of journal) caller event []) room items
      (order-told_so journal seed book kept caller event stacks entry order
      (lines ∙ ap (λ (book : BookState). rest_lines event book) done) is))
      done (order-kept journal seed book kept caller event order drawn free) (omega (arith, most))

  -- A hand that was settled, by the entry that is made of its parts.
  pub settle-left : (caller : ℕ) (done : HandRecord) (number : ℕ) (after : BookState) (players : List StartSeat)
      (stacks : List StackLine) (entry : JournalEntry) (now : List JournalEntry)
      → Has caller done.start (tale_of journal) → IsCompletePlay done → book.stopped ≡ false → number ≡ done.start.table
      → after ≡ settled book (recorded_hand done) → players ≡ players_after (recorded_hand done)
      → stacks ≡ map (stack_after done.start.table) players
      → entry ≡ record {
        caller = caller;
        seed = seed;
        event = events.Settle number;
        serial = 0;
        acts = done.acts;
        stacks = stacks;
      }
      → now ≡ journal ++ entry ∷ []
      → IsLeft now (journal ++ entry_told (tale_of journal) caller (events.Settle done.start.table) done.acts ∷ []) seed
      book after 0
  settle-left caller done number after players stacks entry now has complete going same state paid lines is items =
      let held = has-in_book journal seed book kept caller done.start has going in
      let one = owed-one journal seed book kept done.start done.acts going held.0 in
      left-kept now (entry_told (tale_of journal) caller (events.Settle done.start.table) done.acts) after
      (settled book (recorded_hand done)) 0
      (pushed journal now entry _ refl items
      (settle-told journal seed book kept caller done number stacks entry held.0 same
      (lines ∙ ap (map (stack_after done.start.table)) paid) is))
      state
      (kept-settle journal seed book caller done kept (valid-is journal seed book kept) going held.0 held.1 complete)
      (omega (arith, one))
