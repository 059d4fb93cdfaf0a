-- The hand that is played at a table of any number.
use Rattle.std.proofs.Common.{◌≡◌, ◌∙◌, refl, sym, ap, ℕ, ◌<◌, List, arith}
use Rattle.std.specs.Prelude.{Option, Some, None, option_map, option_and_then, IfSome}
use Rattle.std.specs.Option.{option_copied}
use Rattle.std.proofs.lemmas.List.{get_or_past}
use Rattle.std.proofs.lemmas.Option.{same_Some}
use denote.Bor.{Bor}
use Rattle.table_engine.specs.declared.start.HandStart.{HandStart}
use Rattle.table_engine.specs.declared.record.ActOf.{ActOf}
use Rattle.table_engine.specs.Hands.{HandTerms}
use Rattle.tournament_rules.specs.Books.{BookState, start_at}
use Rattle.tournament_rules.specs.States.{State, PlayState, acts_at, hand_at}
use Rattle.tournament_rules.specs.Valid.{IsValid}
use Rattle.view_rules.specs.Seen.{hand_in}

-- the hand of a start with these acts, where there is a start
abbrev pub hand_from : Option HandStart → List ActOf → Option HandTerms
hand_from start acts = option_map (λ start. record { start = start; acts = acts }) start

-- A state has this book.
record HasBook (play : Option PlayState) (book : BookState) : Type 0 where
  now : PlayState
  is : play ≡ Some now
  book_is : now.book ≡ book

-- It has the book that was found.
has-book : (play : Option PlayState) (book : BookState) → Some book ≡ option_map (λ play. play.book) play
    → HasBook play book
has-book None book found = absurd cc
has-book (Some play) book found =
    record { now = play; is = refl; book_is = sym (same_Some book play.book found) }

-- No hand is played at a table above the last.
pub none-played : (state : State) (book : BookState) (table : ℕ)
    → Some book ≡ option_map (λ play. play.book) state.play → IsValid book → book.seating.table_count < table
    → hand_in state table ≡ None
none-played state book table found valid above =
    let has = has-book state.play book found in
    let room = valid.tables.room in
    let tables = valid.tables.tables in
    let past : start_at book.started table ≡ None
    = get_or_past book.started table None (omega (arith, room, tables, above)) in
    ap (option_and_then (λ play. hand_at play table)) has.is
    ∙ ap (λ (start : Option HandStart). hand_from start (acts_at has.now.acts table))
    (ap (λ (book : BookState). start_at book.started table) has.book_is ∙ past)

-- The hand that is played at a table has that table's number.
number-of : (book : BookState) (play : PlayState) (table : ℕ) (hand : HandTerms) → IsValid book → play.book ≡ book
    → hand_at play table ≡ Some hand → hand.start.table ≡ table
number-of book play table hand valid same is = by_start (start_at play.book.started table) refl is
  where
    by_start : (start : Option HandStart) → start_at play.book.started table ≡ start
        → hand_from start (acts_at play.acts table) ≡ Some hand
        → hand.start.table ≡ table
    by_start None started is = absurd cc
    by_start (Some start) started is =
        let own : start.table ≡ hand.start.table = ap (λ (hand : HandTerms). hand.start.table) (same_Some _ hand is) in
        let found : start_at book.started table ≡ Some start
        = ap (λ (book : BookState). start_at book.started table) (sym same) ∙ started in
        sym own ∙ (valid.hands.starts table start found).here

-- So has one that was found there.
pub number-found : (state : State) (book : BookState) (table : ℕ) (hand : Option (Bor HandTerms))
    → Some book ≡ option_map (λ play. play.book) state.play → IsValid book
    → option_copied hand ≡ hand_in state table → IfSome hand (λ hand. hand.now.start.table ≡ table)
number-found state book table None found valid is = tt
number-found state book table (Some hand) found valid is =
    let has = has-book state.play book found in
    number-of book has.now table hand.now valid has.book_is
    (sym (is ∙ ap (option_and_then (λ play. hand_at play table)) has.is))
