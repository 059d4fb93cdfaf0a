use Rattle.std.proofs.Common.{◌≡◌, ◌∙◌, sym, ap, subst, ℕ, ◌+◌, Bool, cond, List, arith}
use Rattle.std.proofs.lemmas.Grind.{common_steps}
use Rattle.std.specs.Prelude.{slice_set, Option, Some, None}
use Rattle.seat_book.specs.declared.seated.Seated.{Seated}
use Rattle.seat_book.specs.Seatings.{Seating}
use Rattle.table_engine.specs.declared.start.HandStart.{HandStart}
use Rattle.table_engine.specs.Plays.{recorded_hand}
use Rattle.table_engine.specs.Results.{with_stacks, players_after}
use Rattle.table_engine.proofs.Stacks.{players-of_record}
use Rattle.tournament_rules.specs.Books.{BookState, start_at}
use Rattle.tournament_rules.specs.Players.{put_back}
use Rattle.tournament_rules.specs.Effects.{next_group, settled}
use Rattle.tournament_rules.specs.Valid.{IsValid}
use Rattle.tournament_rules.proofs.Ends.{valid_settled}
use Rattle.floor_book.specs.Busts.{MayGoOut}
use Rattle.floor_book.specs.Fields.{book_of}
use Rattle.floor_book.proofs.Begun.{settled_state, payees_of, kept_within}
use Rattle.floor_book.proofs.GoingOut.{may_all}
use Rattle.floor_book.proofs.book.Book.settle.Goals as goal

pub pay_stacks-requires-clause-payees : goal.pay_stacks-requires-clause-payees
pay_stacks-requires-clause-payees c =
    let start = c.args.done.now.start in
    let is : start_at (book_of c.self.inside).started start.table ≡ Some start =
    ap (λ (book : BookState). start_at book.started start.table) c.self.view_is ∙ c.requires.started in
    rw c.items.ensures (payees_of start (c.self.invariant.hands.starts start.table start is).lawful)

pub index_mut-requires : goal.index_mut-requires
index_mut-requires c =
    let start = c.args.done.now.start in
    let is : start_at (book_of c.self.inside).started start.table ≡ Some start =
    ap (λ (book : BookState). start_at book.started start.table) c.self.view_is ∙ c.requires.started in
    let within = kept_within (book_of c.self.inside).started start.table start is in
    omega (arith, within, c.from.ensures)

pub bust_players-requires-clause-may : goal.bust_players-requires-clause-may
bust_players-requires-clause-may c =
    let book = book_of c.self.inside in
    let start = c.args.done.now.start in
    let payees = with_stacks c.items.result.now c.items-2.result.now in
    let is : start_at book.started start.table ≡ Some start =
    ap (λ (book : BookState). start_at book.started start.table) c.self.view_is ∙ c.requires.started in
    let same : c.rest_table.new.seats.players ≡ put_back payees book.seating.players =
    ap (λ (seats : Seating). seats.players) c.rest_table.ensures
    ∙ ap (λ (seats : Seating). seats.players) c.pay_stacks.ensures.paid in
    subst (λ (players : List Seated). MayGoOut start.seats players book.busts) (sym same)
    (may_all book start.table start payees c.self.invariant is)

pub invariant_of-self : goal.invariant_of-self
invariant_of-self c =
    let book = book_of c.self.inside in
    let hand = recorded_hand c.args.done.now in
    let payees : with_stacks c.items.result.now c.items-2.result.now
    ≡ players_after hand =
    rw (c.items.ensures, c.items-2.ensures) (players-of_record c.args.done.now c.requires.play) in
    let none : Option HandStart = None in
    let started = ap (λ (index : ℕ). slice_set c.self.inside.started.items index none) c.from.ensures in
    let group : c.group_after-group.result ≡ next_group book = c.group_after-group.ensures
    ∙ ap (λ (hands : Bool). cond hands book.group (book.group + 1)) c.hands.ensures in
    let state = settled_state book hand (with_stacks c.items.result.now c.items-2.result.now) c.pay_stacks.new.seats
    c.rest_table.new.seats c.bust_players.new.seats c.bust_players.new.busts
    (slice_set c.self.inside.started.items c.from.result None) c.group_after-group.result payees c.pay_stacks.ensures.paid
    c.rest_table.ensures
    c.bust_players.ensures.seats c.bust_players.ensures.busts started group in
    let is : start_at book.started hand.start.table ≡ Some hand.start =
    ap (λ (book : BookState). start_at book.started hand.start.table) c.self.view_is ∙ c.requires.started in
    subst IsValid (sym state) (valid_settled book hand c.self.invariant is c.requires.play.play c.requires.play.over)

pub returns : goal.returns
returns c =
    let book = book_of c.self.inside in
    let hand = recorded_hand c.args.done.now in
    let payees : with_stacks c.items.result.now c.items-2.result.now
    ≡ players_after hand =
    rw (c.items.ensures, c.items-2.ensures) (players-of_record c.args.done.now c.requires.play) in
    let none : Option HandStart = None in
    let started = ap (λ (index : ℕ). slice_set c.self.inside.started.items index none) c.from.ensures in
    let group : c.group_after-group.result ≡ next_group book = c.group_after-group.ensures
    ∙ ap (λ (hands : Bool). cond hands book.group (book.group + 1)) c.hands.ensures in
    let state = settled_state book hand (with_stacks c.items.result.now c.items-2.result.now) c.pay_stacks.new.seats
    c.rest_table.new.seats c.bust_players.new.seats c.bust_players.new.busts
    (slice_set c.self.inside.started.items c.from.result None) c.group_after-group.result payees c.pay_stacks.ensures.paid
    c.rest_table.ensures
    c.bust_players.ensures.seats c.bust_players.ensures.busts started group in
    state ∙ ap (λ (book : BookState). settled book hand) c.self.view_is

pub pay_stacks-requires-clause-named : goal.pay_stacks-requires-clause-named
pay_stacks-requires-clause-named c = grind (arith, common_steps)

pub rest_table-requires : goal.rest_table-requires
rest_table-requires c = grind (arith, common_steps)
