-- A later entry moves each place by one, and what a re-entry makes of those who are out.
use Rattle.std.proofs.Common.{◌≡◌, refl, ℕ, ◌+◌, List, [], ◌∷◌, length, arith, length-append}
use Rattle.std.specs.Prelude.{count_by, sum_by, if◌then◌else◌, Contains}
use Rattle.std.specs.List.{All}
use Rattle.std.proofs.lemmas.List.Sums.{sum_by-cons, sum_by-insert}
use Rattle.place_list.specs.declared.bust.Bust.{Bust}
use Rattle.place_list.specs.Places.{is_ahead, place_of}
use Rattle.place_list.proofs.TakenBack.{place_of-taken}
use Rattle.seat_book.specs.declared.seated.Seated.{Seated}
use Rattle.seat_book.specs.Places.{comes_before}
use Rattle.seat_book.specs.Players.{sit_down}
use Rattle.tournament_rules.specs.Books.{BookState, number_in}
use Rattle.tournament_rules.specs.Effects.{entered, returner, reentered}
use Rattle.tournament_rules.specs.Valid.{IsValid}
use Rattle.tournament_rules.proofs.InOrBust.{all-counted}
use Rattle.tournament_laws.proofs.Prizes.{busts-distinct}

-- One player more is in.
pub one_more_in : (book : BookState) (name : List ℕ) (table seat : ℕ) → IsValid (entered book name table seat)
    → IsValid book
    → length (entered book name table seat).seating.players ≡ length book.seating.players + 1
one_more_in book name table seat after valid =
    let now = all-counted (entered book name table seat).entries (entered book name table seat).seating.players
    book.busts after.entries.once in
    let before = all-counted book.entries book.seating.players book.busts valid.entries.once in
    let more = length-append book.entries (name ∷ []) in
    omega (arith, now, before, more)

-- Each who is out is one place lower.
pub one_lower : (book : BookState) (name : List ℕ) (table seat : ℕ) → IsValid book
    → All (λ bust. place_of (length (entered book name table seat).entries) book.busts bust
    ≡ place_of (length book.entries) book.busts bust + 1) book.busts
one_lower book name table seat valid k d within =
    let before = all-counted book.entries book.seating.players book.busts valid.entries.once in
    let more = length-append book.entries (name ∷ []) in
    omega (arith, before, more)

-- One player more is in after his re-entry.
pub one_more_back : (book : BookState) (name : List ℕ) (table seat : ℕ) → IsValid (reentered book name table seat)
    → IsValid book
    → length (reentered book name table seat).seating.players ≡ length book.seating.players + 1
one_more_back book name table seat after valid =
    let new = returner book name table seat in
    let one = sum_by-insert (λ (player : Seated). 1) book.seating.players
    (count_by (λ other. comes_before other.place new.place) book.seating.players) new in
    let now = sum_of_ones (sit_down new book.seating.players) in
    let before = sum_of_ones book.seating.players in
    omega (arith, one, now, before)
  where
    sum_of_ones : (players : List Seated) → sum_by (λ player. 1) players ≡ length players
    sum_of_ones [] = refl
    sum_of_ones (player ∷ players) =
        let all = sum_by-cons (λ (player : Seated). 1) player players in omega (arith, all, sum_of_ones players)

-- The places of the others once a player was taken back.
pub places_back : (book : BookState) (name : List ℕ) (table seat : ℕ) (gone bust : Bust) → IsValid book
    → Contains book.busts gone → gone.player ≡ number_in book name
    → place_of (length (reentered book name table seat).entries) (reentered book name table seat).busts bust
    + (if is_ahead gone bust then 1 else 0) ≡ place_of (length book.entries) book.busts bust + 1
places_back book name table seat gone bust valid there is =
    let all = all-counted book.entries book.seating.players book.busts valid.entries.once in
    place_of-taken (length book.entries) (number_in book name) book.busts gone bust (omega (arith, all))
    (busts-distinct book valid) there is
