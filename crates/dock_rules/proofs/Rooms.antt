-- How many settles are owed to the hands that are out.
use Rattle.std.proofs.Common.{◌≡◌, ◌∙◌, refl, sym, ap, ℕ, zero, suc, ◌+◌, ◌≤◌, Bool, true, false, cond, List, [], ◌∷◌, get_or, arith}
use Rattle.std.specs.Prelude.{if◌then◌else◌, count_by, is_some, slice_set, Some, None}
use Rattle.std.proofs.lemmas.List.Sums.{count_by-le-length}
use Rattle.rulebook.proofs.Tests.{at_most_one, count_by-cons}
use Rattle.table_engine.specs.Hands.{HandTerms}
use Rattle.card_set.specs.declared.card.Card.{Card}
use Rattle.tournament_events.specs.declared.event.Event.{Event}
use Rattle.tournament_events.specs.declared.event.Event.TheVariants as events
use Rattle.tournament_rules.specs.Books.{BookState, start_at}
use Rattle.tournament_rules.specs.Dealing.{next_start}
use Rattle.tournament_rules.specs.Effects.{begun_book, book_effect, settled}
use Rattle.tournament_rules.specs.Kinds.{is_order}
use Rattle.tournament_rules.specs.Valid.{IsValid}
use Rattle.dock_rules.specs.Kept.{owed}

abbrev one_if : Bool → ℕ
one_if b = cond b 1 0

module _ {A : Type 0} (test : A → Bool) where
  -- With one item set there is at most one more that passes.
  set-more : (items : List A) (place : ℕ) (item : A)
      → count_by test (slice_set items place item) ≤ count_by test items + 1
  set-more [] place item = omega arith
  set-more (first ∷ items) zero item =
      let before = count_by-cons test first items in
      let after = count_by-cons test item items in
      let few = at_most_one (test item) in
      omega (arith, before, after, few)
  set-more (first ∷ items) (suc place) item =
      let before = count_by-cons test first items in
      let after = count_by-cons test first (slice_set items place item) in
      let later = set-more items place item in
      omega (arith, before, after, later)

  -- Where an item passed and is set to one that does not, there is one fewer.
  set-fewer : (items : List A) (place : ℕ) (item default : A) → test default ≡ false → test item ≡ false
      → test (get_or items place default) ≡ true
      → count_by test (slice_set items place item) + 1 ≡ count_by test items
  set-fewer [] place item default none fails passes = let never = sym none ∙ passes in absurd cc
  set-fewer (first ∷ items) zero item default none fails passes =
      let before = count_by-cons test first items in
      let after = count_by-cons test item items in
      let one : one_if (test first) ≡ one_if true = ap one_if passes in
      let zero_is : one_if (test item) ≡ one_if false = ap one_if fails in
      omega (arith, before, after, one, zero_is)
  set-fewer (first ∷ items) (suc place) item default none fails passes =
      let before = count_by-cons test first items in
      let after = count_by-cons test first (slice_set items place item) in
      let later = set-fewer items place item default none fails passes in
      omega (arith, before, after, later)

owed-most : (stopped : Bool) (count most : ℕ) → count ≤ most → (if stopped then 0 else count) ≤ most
owed-most true count most few = omega arith
owed-most false count most few = few

-- No more is owed than there are tables.
pub owed-few : (book : BookState) → IsValid book → owed book ≤ 65
owed-few book valid =
    let counted = count_by-le-length is_some book.started in
    let room = valid.tables.room in
    let tables = valid.tables.tables in
    let most = valid.tables.lawful.most_tables in
    owed-most book.stopped (count_by is_some book.started) 65 (omega (arith, counted, room, tables, most))

-- A hand that begins is owed one settle more.
pub owed-begun : (book : BookState) (table : ℕ) (cards : List Card) → owed (begun_book book table cards) ≤ owed book + 1
owed-begun book table cards = by_stopped book.stopped
  where
    by_stopped : (stopped : Bool)
        → (if stopped then 0 else count_by is_some (slice_set book.started table (Some (next_start book table cards))))
        ≤ (if stopped then 0 else count_by is_some book.started) + 1
    by_stopped true = omega arith
    by_stopped false = set-more is_some book.started table (Some (next_start book table cards))

-- A hand that is settled is owed none.
pub owed-settled : (book : BookState) (hand : HandTerms) → book.stopped ≡ false
    → start_at book.started hand.start.table ≡ Some hand.start → owed (settled book hand) + 1 ≡ owed book
owed-settled book hand going is = by_stopped book.stopped going
  where
    by_stopped : (stopped : Bool) → stopped ≡ false
        → (if stopped then 0 else count_by is_some (slice_set book.started hand.start.table None)) + 1
        ≡ (if stopped then 0 else count_by is_some book.started)
    by_stopped true going = absurd cc
    by_stopped false going =
        set-fewer is_some book.started hand.start.table None None refl refl (ap is_some is)

-- An order owes no settle more.
pub owed-ordered : (book : BookState) (event : Event) → is_order event ≡ true
    → owed (book_effect book None event) ≤ owed book
owed-ordered book (events.Plan line) order = absurd cc
owed-ordered book events.Go order = absurd cc
owed-ordered book (events.Begin table row) order = absurd cc
owed-ordered book (events.Act table name act) order = absurd cc
owed-ordered book (events.Time table) order = absurd cc
owed-ordered book (events.Settle table) order = absurd cc
owed-ordered book events.Stop order = omega arith
owed-ordered book event order = omega arith
