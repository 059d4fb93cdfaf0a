-- Items that stand in turn: all words that are left, the members of a list, and the numbers of a place.
use Rattle.std.proofs.Common.{◌≡◌, ℕ, ◌≤◌, ◌<◌, true, false, ◌&&◌, not, cond, leb, List, [], ◌∷◌, map, length, Option, Some, None, refl, sym, ap, ◌∙◌, subst, arith}
use Rattle.std.specs.Fmt.{decimal}
use Rattle.std.specs.List.{list_all, join_with_byte, AllByRecursion}
use Rattle.std.proofs.lemmas.Bool.{and_parts}
use Rattle.std.proofs.lemmas.Bool.Decides.{nat_tests}
use Rattle.std.proofs.lemmas.List.Folds.{list_all-append}
use Rattle.std.proofs.lemmas.List.Splits.{join_with_byte-slice_split}
use Rattle.std.proofs.lemmas.Option.{same_Some}
use Rattle.floor_text.specs.Numbers.{IsLineNumber, number_of}
use Rattle.card_set.proofs.Steps.{bind_found}
use Rattle.seat_book.specs.declared.place.Place.{Place}
use Rattle.seat_book.specs.Places.{is_place_of}
use Rattle.line_words.specs.Words.{pieces_of}
use Rattle.rulebook.specs.Limits.{most_tables, most_seats}
use Rattle.line_words.specs.Fields.{◌>>=◌, each_of, few_of, AreFew, name_of, IsLineName, place_at, place_of, place_text, IsLinePlace, members_of, list_text, next_by, last_by}
use Rattle.line_words.proofs.FieldLaws.{IsField, IsRest, test_found, number_field, name_field, next_found, next_again, last_field}
use Rattle.line_words.proofs.WordSplits.{is_byte}
use Rattle.line_words.proofs.Spaces.{lacks, is_word, number_word, joined_word, pieces_again, decimal_lacks, name_lacks}

module _ {A : Type 0} {read : List ℕ → Option A} {write : A → List ℕ} {Fits : A → Type 0}
    (field : IsField read write Fits) where
  each_found : (words : List (List ℕ)) (items : List A) → each_of read words ≡ Some items
      → (words ≡ map write items) × AllByRecursion Fits items
  each_found [] items h =
      subst (λ (xs : List A). ([] ≡ map write xs) × AllByRecursion Fits xs) (same_Some [] items h) (refl, tt)
  each_found (word ∷ words) items h =
      let first = bind_found (read word) (λ x. each_of read words >>= λ xs. Some (x ∷ xs)) items h in
      let others = bind_found (each_of read words) (λ xs. Some (first.0 ∷ xs)) items first.2 in
      let item = field.found word first.0 first.1 in
      let rest = each_found words others.0 others.1 in
      let whole : word ∷ words ≡ map write (first.0 ∷ others.0) = ap (λ (w : List ℕ). w ∷ words) item.0
      ∙ ap (λ (ws : List (List ℕ)). write first.0 ∷ ws) rest.0 in
      subst (λ (xs : List A). (word ∷ words ≡ map write xs) × AllByRecursion Fits xs)
      (same_Some (first.0 ∷ others.0) items others.2) (whole, (item.1, rest.1))

  each_again : (items : List A) → AllByRecursion Fits items → each_of read (map write items) ≡ Some items
  each_again [] fits = refl
  each_again (item ∷ items) fits = rw (field.again item fits.0, each_again items fits.1) refl

  each_word : (items : List A) → AllByRecursion Fits items → list_all is_word (map write items) ≡ true
  each_word [] fits = refl
  each_word (item ∷ items) fits = rw (field.word item fits.0, each_word items fits.1) refl

  few_found : (most : ℕ) (words : List (List ℕ)) (items : List A) → few_of most read words ≡ Some items
      → (words ≡ map write items) × AreFew most Fits items
  few_found most words items h =
      let found = bind_found (each_of read words) (λ xs. cond (leb 1 (length xs) && leb (length xs) most) (Some xs)
      None) items h in
      let test = test_found (leb 1 (length found.0) && leb (length found.0) most) (Some found.0) items found.2 in
      let both = and_parts (leb 1 (length found.0)) (leb (length found.0) most) test.0 in
      let each = each_found words found.0 found.1 in
      let least : 1 ≤ length found.0 = grind (arith, nat_tests, both.0) in
      let few : length found.0 ≤ most = grind (arith, nat_tests, both.1) in
      subst (λ (xs : List A). (words ≡ map write xs) × AreFew most Fits xs) (same_Some found.0 items test.1)
      (each.0, (least, few, each.1))

  few_again : (most : ℕ) (items : List A) → AreFew most Fits items → few_of most read (map write items) ≡ Some items
  few_again most items fits =
      let least : leb 1 (length items) ≡ true = grind (arith, nat_tests, fits.0) in
      let few : leb (length items) most ≡ true = grind (arith, nat_tests, fits.1) in
      rw (each_again items fits.2, least, few) refl

  -- all words that are left, each the same kind of field: at least one and at most so many
  pub few_rest : (most : ℕ) → IsRest (few_of most read) (map write) (AreFew most Fits)
  few_rest most = record {
    found = few_found most;
    again = few_again most;
    words = λ items fits. each_word items fits.2;
  }

-- what is joined of pieces that lack a byte by a greater one lacks it too
joined_lacks : (byte between : ℕ) → byte < between → (piece : List ℕ) (pieces : List (List ℕ))
    → list_all (lacks byte) (piece ∷ pieces) ≡ true → lacks byte (join_with_byte between (piece ∷ pieces)) ≡ true
joined_lacks byte between below piece [] h = (and_parts (lacks byte piece) true h).0
joined_lacks byte between below piece (next ∷ pieces) h =
    let both = and_parts (lacks byte piece) (list_all (lacks byte) (next ∷ pieces)) h in
    let later = joined_lacks byte between below next pieces both.1 in
    let other : is_byte byte between ≡ false = grind (arith, nat_tests) in
    rw (
      list_all-append (λ b. not (is_byte byte b)) piece (between ∷ join_with_byte between (next ∷ pieces)),
      both.0,
      other,
      later,
    ) refl

-- a field that lacks commas too, so that a list may have it
pub record IsMember {A : Type 0} (read : List ℕ → Option A) (write : A → List ℕ) (Fits : A → Type 0) : Type 0 where
  field : IsField read write Fits
  commaless : (value : A) → Fits value → lacks 44 (write value) ≡ true

-- a name in a list
pub name_member : IsMember name_of (λ name. name) IsLineName
name_member = record { field = name_field; commaless = name_lacks 44 (omega arith) }

table_number : (n : ℕ) → n ≤ most_tables → IsLineNumber n
table_number n few = omega (arith, few)

seat_number : (n : ℕ) → n ≤ most_seats → IsLineNumber n
seat_number n few = omega (arith, few)

place_lacks : (byte : ℕ) → byte < 46 → (place : Place) → IsLinePlace place
    → lacks byte (place_text place) ≡ true
place_lacks byte low place fits =
    joined_lacks byte 46 low (decimal place.table) (decimal place.seat ∷ []) (rw (
      decimal_lacks byte (omega (arith, low)) place.table (table_number place.table fits.table.last),
      decimal_lacks byte (omega (arith, low)) place.seat (seat_number place.seat fits.last),
    ) refl)

place_word : (place : Place) → IsLinePlace place → is_word (place_text place) ≡ true
place_word place fits =
    joined_word 46 (omega arith) (decimal place.table ∷ decimal place.seat ∷ []) (rw (
      number_word place.table (table_number place.table fits.table.last),
      number_word place.seat (seat_number place.seat fits.last),
    ) refl)

-- the test of a place, and what it tells
fits_there : (place : Place) → is_place_of most_tables most_seats place ≡ true → IsLinePlace place
fits_there place h =
    let both = and_parts (leb 1 place.table && leb place.table most_tables)
    (leb 1 place.seat && leb place.seat most_seats) h in
    let table = and_parts (leb 1 place.table) (leb place.table most_tables) both.0 in
    let seat = and_parts (leb 1 place.seat) (leb place.seat most_seats) both.1 in
    record {
      table = record { first = grind (arith, nat_tests, table.0); last = grind (arith, nat_tests, table.1) };
      first = grind (arith, nat_tests, seat.0);
      last = grind (arith, nat_tests, seat.1);
    }

place_found : (word : List ℕ) (place : Place) → place_of word ≡ Some place → (word ≡ place_text place)
    × IsLinePlace place
unfolding place_of
place_found word place h =
    let first = bind_found (next_by number_of (pieces_of 46 word)) (λ t. last_by number_of t.1 >>= λ seat. place_at t.0
    seat) place h in
    let second = bind_found (last_by number_of first.0.1) (λ seat. place_at first.0.0 seat) place first.2 in
    let here : Place = record { table = first.0.0; seat = second.0 } in
    let test = test_found (is_place_of most_tables most_seats here) (Some here) place second.2 in
    let table = next_found number_of decimal IsLineNumber number_field (pieces_of 46 word) first.0 first.1 in
    let seat = (last_field number_field).found first.0.1 second.0 second.1 in
    let pieces : pieces_of 46 word ≡ decimal first.0.0 ∷ decimal second.0 ∷ [] = table.spelling
    ∙ ap (λ (ws : List (List ℕ)). decimal first.0.0 ∷ ws) seat.0 in
    let text : word ≡ place_text here = sym (join_with_byte-slice_split 46 word) ∙ ap (join_with_byte 46) pieces in
    subst (λ (p : Place). (word ≡ place_text p) × IsLinePlace p) (same_Some here place test.1)
    (text, fits_there here test.0)

place_test : (place : Place) → IsLinePlace place → is_place_of most_tables most_seats place ≡ true
place_test place fits = grind (arith, nat_tests, fits.table.first, fits.table.last, fits.first, fits.last)

place_again : (place : Place) → IsLinePlace place → place_of (place_text place) ≡ Some place
unfolding place_of
place_again place fits =
    let table = table_number place.table fits.table.last in
    let seat = seat_number place.seat fits.last in
    let pieces : pieces_of 46 (place_text place) ≡ decimal place.table ∷ decimal place.seat ∷ [] =
    pieces_again 46 (decimal place.table) (decimal place.seat ∷ []) (rw
    (decimal_lacks 46 (omega arith) place.table table, decimal_lacks 46 (omega arith) place.seat seat) refl) in
    rw (
      pieces,
      next_again number_of decimal IsLineNumber number_field place.table (decimal place.seat ∷ []) table,
      (last_field number_field).again place.seat seat,
      place_test place fits,
    ) refl

-- a place in a list
pub place_member : IsMember place_of place_text IsLinePlace
place_member = record {
  field = record { found = place_found; again = place_again; word = place_word };
  commaless = place_lacks 44 (omega arith);
}

module _ {A : Type 0} {read : List ℕ → Option A} {write : A → List ℕ} {Fits : A → Type 0}
    (member : IsMember read write Fits) (most : ℕ) where
  members_found : (word : List ℕ) (items : List A) → members_of most read word ≡ Some items
      → (word ≡ list_text write items) × AreFew most Fits items
  unfolding members_of
  members_found word items h =
      let found = few_found member.field most (pieces_of 44 word) items h in
      (sym (join_with_byte-slice_split 44 word) ∙ ap (join_with_byte 44) found.0, found.1)

  each_commaless : (items : List A) → AllByRecursion Fits items → list_all (lacks 44) (map write items) ≡ true
  each_commaless [] fits = refl
  each_commaless (item ∷ items) fits = rw (member.commaless item fits.0, each_commaless items fits.1) refl

  cut_again : (items : List A) → AreFew most Fits items → pieces_of 44 (list_text write items) ≡ map write items
  cut_again [] fits = absurd (omega (arith, fits.0))
  cut_again (item ∷ items) fits =
      pieces_again 44 (write item) (map write items) (each_commaless (item ∷ items) fits.2)

  members_again : (items : List A) → AreFew most Fits items → members_of most read (list_text write items) ≡ Some items
  unfolding members_of
  members_again items fits = ap (few_of most read) (cut_again items fits) ∙ few_again member.field most items fits

  members_word : (items : List A) → AreFew most Fits items → is_word (list_text write items) ≡ true
  members_word items fits = joined_word 44 (omega arith) (map write items) (each_word member.field items fits.2)

  -- a list of members, at least one and at most so many
  pub members_field : IsField (members_of most read) (list_text write) (AreFew most Fits)
  members_field = record { found = members_found; again = members_again; word = members_word }
