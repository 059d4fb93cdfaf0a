use Rattle.std.proofs.Common.{◌≡◌, ◌≤◌, ◌∙◌, refl, sym, ap, subst, ℕ, arith}
use Rattle.std.specs.Prelude.{slice_set, None}
use Rattle.seat_book.specs.Seatings.{Seating}
use Rattle.tournament_rules.specs.Books.{BookState}
use Rattle.tournament_rules.specs.Players.{put_back}
use Rattle.tournament_rules.specs.Effects.{void_at}
use Rattle.tournament_rules.specs.Valid.{IsValid}
use Rattle.tournament_rules.proofs.Ends.{valid_void_at}
use Rattle.floor_book.specs.Fields.{book_of}
use Rattle.floor_book.proofs.Begun.{ended_state, voided_state, voided_none, place_of_table, payees_of, taken_out}
use Rattle.floor_book.proofs.book.Book.void_at.Goals as goal

pub index_mut-requires : goal.index_mut-requires
index_mut-requires c =
    let book = book_of c.self.inside in
    let last : c.args.table ≤ book.seating.table_count =
    subst (λ (other : BookState). c.args.table ≤ other.seating.table_count) (sym c.self.view_is) c.requires.last in
    let within = place_of_table book c.from.result c.args.table c.self.invariant.tables c.from.ensures last in
    omega (arith, within)

pub pay_players-requires-clause-payees : goal.pay_players-requires-clause-payees
pay_players-requires-clause-payees c =
    let book = book_of c.self.inside in
    let last : c.args.table ≤ book.seating.table_count =
    subst (λ (other : BookState). c.args.table ≤ other.seating.table_count) (sym c.self.view_is) c.requires.last in
    let within = place_of_table book c.from.result c.args.table c.self.invariant.tables c.from.ensures last in
    let is = taken_out book.started c.from.result c.args.table c.index_mut.result.now c.take.result c.in-Some.start
    within c.from.ensures c.index_mut.ensures.value c.take.ensures.value c.in-Some.is in
    rw c.items.ensures (payees_of c.in-Some.start (c.self.invariant.hands.starts c.args.table c.in-Some.start
    is).lawful)

pub pay_players-requires-clause-lawful : goal.pay_players-requires-clause-lawful
pay_players-requires-clause-lawful c = c.self.invariant.tables.lawful

pub rest_table-requires : goal.rest_table-requires
rest_table-requires c =
    let book = book_of c.self.inside in
    let last : c.args.table ≤ book.seating.table_count =
    subst (λ (other : BookState). c.args.table ≤ other.seating.table_count) (sym c.self.view_is) c.requires.last in
    let count = ap (λ (seats : Seating). seats.table_count) c.pay_players.ensures.paid in
    record {
      first = c.requires.first;
      last = subst (λ (count : ℕ). c.args.table ≤ count) (sym count) last;
    }

pub invariant_of-self : goal.invariant_of-self
invariant_of-self c =
    let book = book_of c.self.inside in
    let last : c.args.table ≤ book.seating.table_count =
    subst (λ (other : BookState). c.args.table ≤ other.seating.table_count) (sym c.self.view_is) c.requires.last in
    let within = place_of_table book c.from.result c.args.table c.self.invariant.tables c.from.ensures last in
    let is = taken_out book.started c.from.result c.args.table c.index_mut.result.now c.take.result c.in-Some.start
    within c.from.ensures c.index_mut.ensures.value c.take.ensures.value c.in-Some.is in
    let started : slice_set book.started c.from.result c.take.new.self ≡ slice_set book.started c.args.table None =
    rw (c.from.ensures, c.take.ensures.after) refl in
    let paid : c.pay_players.new.seats ≡ record c.self.inside.seats
    { players = put_back c.in-Some.start.seats c.self.inside.seats.players } =
    rw c.items.ensures at c.pay_players.ensures.paid in
    let state = ended_state book c.args.table c.in-Some.start.seats c.pay_players.new.seats c.rest_table.new.seats
    (slice_set book.started c.from.result c.take.new.self) paid c.rest_table.ensures started
    ∙ voided_state book c.args.table c.in-Some.start is in
    subst IsValid (sym state) (valid_void_at book c.args.table c.self.invariant)

pub invariant_of-self-in_default : goal.invariant_of-self-in_default
invariant_of-self-in_default c =
    let book = book_of c.self.inside in
    let last : c.args.table ≤ book.seating.table_count =
    subst (λ (other : BookState). c.args.table ≤ other.seating.table_count) (sym c.self.view_is) c.requires.last in
    let within = place_of_table book c.from.result c.args.table c.self.invariant.tables c.from.ensures last in
    let state = voided_none book c.from.result c.args.table c.index_mut.result.now c.take.result c.take.new.self within
    c.from.ensures c.index_mut.ensures.value c.take.ensures.value c.in_default.is c.take.ensures.after in
    subst IsValid (sym state) (valid_void_at book c.args.table c.self.invariant)

pub returns-in-Some : goal.returns-in-Some
returns-in-Some c =
    let book = book_of c.self.inside in
    let last : c.args.table ≤ book.seating.table_count =
    subst (λ (other : BookState). c.args.table ≤ other.seating.table_count) (sym c.self.view_is) c.requires.last in
    let within = place_of_table book c.from.result c.args.table c.self.invariant.tables c.from.ensures last in
    let is = taken_out book.started c.from.result c.args.table c.index_mut.result.now c.take.result c.in-Some.start
    within c.from.ensures c.index_mut.ensures.value c.take.ensures.value c.in-Some.is in
    let started : slice_set book.started c.from.result c.take.new.self ≡ slice_set book.started c.args.table None =
    rw (c.from.ensures, c.take.ensures.after) refl in
    let paid : c.pay_players.new.seats ≡ record c.self.inside.seats
    { players = put_back c.in-Some.start.seats c.self.inside.seats.players } =
    rw c.items.ensures at c.pay_players.ensures.paid in
    let state = ended_state book c.args.table c.in-Some.start.seats c.pay_players.new.seats c.rest_table.new.seats
    (slice_set book.started c.from.result c.take.new.self) paid c.rest_table.ensures started
    ∙ voided_state book c.args.table c.in-Some.start is in
    state ∙ ap (λ (book : BookState). void_at book c.args.table) c.self.view_is

pub returns-in_default : goal.returns-in_default
returns-in_default c =
    let book = book_of c.self.inside in
    let last : c.args.table ≤ book.seating.table_count =
    subst (λ (other : BookState). c.args.table ≤ other.seating.table_count) (sym c.self.view_is) c.requires.last in
    let within = place_of_table book c.from.result c.args.table c.self.invariant.tables c.from.ensures last in
    let state = voided_none book c.from.result c.args.table c.index_mut.result.now c.take.result c.take.new.self within
    c.from.ensures c.index_mut.ensures.value c.take.ensures.value c.in_default.is c.take.ensures.after in
    state ∙ ap (λ (book : BookState). void_at book c.args.table) c.self.view_is
