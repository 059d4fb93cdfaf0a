-- Players of a table who take places one after another.
use Rattle.std.proofs.Common.{◌≡◌, ◌∙◌, refl, sym, ap, ℕ, ◌+◌, ◌<◌, ◌≤◌, ◌⊎◌, inl, inr, min, Bool, true, false, List, [], ◌∷◌, drop, length, get_or, arith}
use Rattle.std.specs.Prelude.{nat_le}
use Rattle.std.proofs.lemmas.Bool.Decides.{nat_tests}
use Rattle.std.proofs.lemmas.List.{drop_all, drop_more}
use Rattle.seat_book.specs.declared.place.Place.{Place}
use Rattle.seat_book.specs.Seatings.{Seating}
use Rattle.tournament_rules.specs.Moving.{after_taking, after_all}

-- Once one more took a place, those who are left take the rest.
pub taking-next : (table : ℕ) (names : List (List ℕ)) (places : List Place) (index : ℕ) (name : List ℕ) (place : Place)
    (seating after all : Seating) → index < length names → index < length places → name ≡ get_or names index name
    → drop index places ≡ place ∷ drop (index + 1) places → after ≡ after_taking table name place seating
    → after_all table (drop index names) (drop index places) seating ≡ all
    → after_all table (drop (index + 1) names) (drop (index + 1) places) after ≡ all
taking-next table names places index name place seating after all named placed name_is place_is after_is is =
    let first : after_all table (drop index names) (drop index places) seating
    ≡ after_all table (drop (index + 1) names) (drop (index + 1) places) (after_taking table name place seating) = rw
    (drop_more names index name named ∙ ap (λ (n : List ℕ). n ∷ drop (index + 1) names) (sym name_is), place_is) refl in
    ap (after_all table (drop (index + 1) names) (drop (index + 1) places)) after_is ∙ (sym first ∙ is)

-- Where names or places are used up, nobody takes one.
pub taking-over : (table : ℕ) (names : List (List ℕ)) (places : List Place) (index : ℕ) (seating : Seating)
    → min (length names) (length places) ≤ index
    → after_all table (drop index names) (drop index places) seating ≡ seating
taking-over table names places index seating over = by_end used
  where
    by_test : (b : Bool) (here there : ℕ) → nat_le here index ≡ b → min here there ≤ index
        → (here ≤ index) ⊎ (there ≤ index)
    by_test true here there is over = inl (grind (arith, nat_tests))
    by_test false here there is over = inr (grind (arith, nat_tests))

    used : (length names ≤ index) ⊎ (length places ≤ index)
    used = by_test (nat_le (length names) index) (length names) (length places) refl over

    no_places : (rest : List (List ℕ)) → after_all table rest [] seating ≡ seating
    no_places [] = refl
    no_places (name ∷ rest) = refl

    by_end : (length names ≤ index) ⊎ (length places ≤ index)
        → after_all table (drop index names) (drop index places) seating ≡ seating
    by_end (inl ended) = rw (drop_all index names ended) refl
    by_end (inr ended) = rw (drop_all index places ended) (no_places (drop index names))
