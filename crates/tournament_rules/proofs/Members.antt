-- Who of the players is one of those with whom a hand started.
use Rattle.std.proofs.Common.{◌≡◌, ◌∙◌, refl, sym, ap, ℕ, Bool, true, false, cond, ◌==◌, List, [], ◌∷◌, map, get_or}
use Rattle.std.specs.Prelude.{not, filter}
use Rattle.std.specs.List.{list_all, list_any, All}
use Rattle.std.proofs.lemmas.Bool.{and_parts, or_left, not-true, eq-eqb}
use Rattle.std.proofs.lemmas.List.Sums.{AllPass-from_list_all}
use Rattle.std.proofs.lemmas.List.Elements.{All-nil, All-cons}
use Rattle.rulebook.proofs.Passing.{list_any-none}
use Rattle.rulebook.proofs.Tests.{eqb-swap, list_all-kept, list_any-made}
use Rattle.seat_book.specs.declared.seated.Seated.{Seated}
use Rattle.seat_book.specs.Players.{is_numbered, are_apart}
use Rattle.table_engine.specs.declared.start.StartSeat.{StartSeat}
use Rattle.tournament_rules.specs.Books.{BookState, start_at, starters_of}
use Rattle.tournament_rules.specs.Players.{is_one_of, is_in_hand, start_seat}
use Rattle.tournament_rules.specs.Valid.{IsValid, is_lent, without_stack}

-- whether a player of a start has this number
abbrev pub has_number : ℕ → StartSeat → Bool
has_number number starter = starter.player == number

-- Where none of the players has a number, none who are picked of them has.
pub none_picked : (number : ℕ) (test : Seated → Bool) (players : List Seated)
    → list_all (λ other. not (is_numbered number other)) players ≡ true
    → list_any (has_number number) (map start_seat (filter test players)) ≡ false
none_picked number test players none =
    list_any-made (has_number number) start_seat (filter test players)
    ∙ list_any-none (λ (other : Seated). not (is_numbered number other)) (is_numbered number) (filter test players)
    (λ other differs. not-true (is_numbered number other) differs)
    (list_all-kept (λ other. not (is_numbered number other)) test players none)

head_dealt : (test : Seated → Bool) (player : Seated) (players : List Seated) (b : Bool)
    → list_any (has_number player.player) (map start_seat (filter test players)) ≡ false
    → is_one_of (map start_seat (cond b (player ∷ filter test players) (filter test players))) player ≡ b
head_dealt test player players true none =
    or_left (player.player == player.player) _ (eq-eqb player.player player.player refl)
head_dealt test player players false none = none

tail_dealt : (test : Seated → Bool) (first : Seated) (found : List Seated) (player : Seated) (b : Bool)
    → not (is_numbered first.player player) ≡ true → is_one_of (map start_seat found) player ≡ test player
    → is_one_of (map start_seat (cond b (first ∷ found) found)) player ≡ test player
tail_dealt test first found player true differs is =
    rw (eqb-swap first.player player.player, not-true (is_numbered first.player player) differs) is
tail_dealt test first found player false differs is = is

-- Where no two players have one number, a player is one of those whom a test picks just where it picks him.
pub is_one_of-dealt : (test : Seated → Bool) (players : List Seated) → are_apart players ≡ true
    → All (λ player. is_one_of (map start_seat (filter test players)) player ≡ test player) players
is_one_of-dealt test [] apart = All-nil (λ player. is_one_of [] player ≡ test player)
is_one_of-dealt test (first ∷ players) apart =
    let parts = and_parts (list_all (λ other. not (is_numbered first.player other)) players) (are_apart players)
    apart in
    let differ = AllPass-from_list_all (λ other. not (is_numbered first.player other)) players parts.0 in
    let rest = is_one_of-dealt test players parts.1 in
    All-cons (λ player. is_one_of (map start_seat (filter test (first ∷ players))) player ≡ test player) first players
    (head_dealt test first players (test first) (none_picked first.player test players parts.0))
    (λ k d within. tail_dealt test first (filter test players) (get_or players k d) (test first) (differ k d within)
    (rest k d within))

-- Who has a number does not depend on his stack.
pub any_without : (number : ℕ) (starters : List StartSeat)
    → list_any (has_number number) (map without_stack starters) ≡ list_any (has_number number) starters
any_without number starters = list_any-made (has_number number) without_stack starters

-- In a valid book those who are in a hand are those who have nothing at rest.
pub in_hand-lent : (book : BookState) → IsValid book
    → All (λ player. is_in_hand book.started player ≡ is_lent player.place.table player) book.seating.players
in_hand-lent book valid = λ k d within. here (get_or book.seating.players k d)
    (is_one_of-dealt (is_lent (get_or book.seating.players k d).place.table) book.seating.players
    valid.tables.lawful.apart k d within)
  where
    here : (player : Seated)
        → is_one_of (map start_seat (filter (is_lent player.place.table) book.seating.players)) player
        ≡ is_lent player.place.table player
        → is_in_hand book.started player ≡ is_lent player.place.table player
    here player is =
        sym (any_without player.player (starters_of (start_at book.started player.place.table)))
        ∙ (ap (λ (starters : List StartSeat). list_any (has_number player.player) starters)
        (sym (valid.hands.lent player.place.table)) ∙ is)
