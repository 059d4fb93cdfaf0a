-- The standings of players who are in the order of their places.
use Rattle.std.proofs.Common.{◌≡◌, ◌≢◌, ◌∙◌, refl, ap, sym, ℕ, zero, suc, ◌+◌, ◌-◌, ◌<◌, ◌≤◌, ◌⊎◌, inl, inr, Bool, true, false, List, [], ◌∷◌, ◌++◌, length, take, drop, get_or, arith, append_assoc}
use Rattle.std.specs.Prelude.{sum, if◌then◌else◌, count_by, map, not, ◌==◌, ◌&&◌, ◌||◌, nat_lt}
use Rattle.std.specs.List.{list_all}
use Rattle.std.specs.List.Sorted.{IsPermutation, IsSortedBy}
use Rattle.std.proofs.lemmas.Bool.{cases_Bool, and_parts, eq-eqb}
use Rattle.std.proofs.lemmas.Bool.Decides.{nat_tests}
use Rattle.std.proofs.lemmas.List.{map-append, take_more}
use Rattle.std.proofs.lemmas.List.Sorted.{sorted_far, length_permutation, sum_by-IsPermutation}
use Rattle.rulebook.specs.Pairs.{are_distinct}
use Rattle.rulebook.proofs.Tests.{count_by-cons, sum_by-map}
use Rattle.place_list.specs.declared.bust.Bust.{Bust}
use Rattle.place_list.specs.declared.standing.Standing.{Standing}
use Rattle.place_list.specs.Places.{is_ahead, ties, tied, tied_before, place_of, still_in}
use Rattle.place_list.specs.Prizes.{prizes_together, equal_share}
use Rattle.place_list.specs.Orders.{is_placed_before, Placed}
use Rattle.place_list.specs.Standings.{standing_of, prize_of, comes_before, ordered}
use Rattle.place_list.proofs.Counts.{count_by-same, count_by-none, count_by-two}
use Rattle.place_list.proofs.Orderings.{placed_before-order}
use Rattle.place_list.proofs.Ranks.{place_of-ties, place_of-ahead, tied-some}
use Rattle.place_list.specs.Ties.{IsTieAt}
use Rattle.place_list.specs.declared.tie.Tie.{Tie}
use Rattle.place_list.proofs.TieBlocks.{tie-stands}
use Rattle.place_list.proofs.Sorting.{Falls, ordered-unique}

-- A count is the same in any order.
count-permutation : {A : Type 0} (test : A → Bool) (items others : List A) → IsPermutation items others
    → count_by test others ≡ count_by test items
count-permutation {A = A} test items others same =
    sum_by-IsPermutation (λ (item : A). if test item then 1 else 0) items others same

-- Of players of whom no two are the same, one at most has a number.
once : (n : ℕ) (busts : List Bust) → are_distinct (λ one other. one == other) (map (λ bust. bust.player) busts) ≡ true
    → count_by (λ bust. bust.player == n) busts ≤ 1
once n [] distinct = omega arith
once n (bust ∷ busts) distinct =
    let parts = and_parts (list_all (λ other. not (bust.player == other)) (map (λ (one : Bust). one.player) busts)) _
    distinct in
    let count = count_by-cons (λ (one : Bust). one.player == n) bust busts in
    let rest = once n busts parts.1 in
    elim (cases_Bool (bust.player == n)) [
      | inl here ↦ (let none = nobody_else bust.player n here busts parts.0 in
          let own : ◌≡◌ {A = ℕ} (if bust.player == n then 1 else 0) 1 = rw here refl in
          omega (arith, count, none, own))
      | inr other ↦ (let own : ◌≡◌ {A = ℕ} (if bust.player == n then 1 else 0) 0 = rw other refl in
          omega (arith, count, rest, own))
    ]
  where
    apart : (a b m : ℕ) → (a == b) ≡ true → not (a == m) ≡ true → (m == b) ≡ false
    apart a b m same differs = grind (arith, nat_tests)

    nobody_else : (a b : ℕ) → (a == b) ≡ true → (rest : List Bust) → list_all (λ other. not (a == other))
        (map (λ (one : Bust). one.player) rest) ≡ true → count_by (λ one. one.player == b) rest ≡ 0
    nobody_else a b same [] all = refl
    nobody_else a b same (one ∷ rest) all =
        let parts = and_parts (not (a == one.player)) _ all in
        count_by-cons (λ (other : Bust). other.player == b) one rest
        ∙ rw (apart a b one.player same parts.0, nobody_else a b same rest parts.1) refl

placed-numbers : (g s p h t q : ℕ) → ((nat_lt g h || (h == g && nat_lt s t)) || ((h == g && t == s) && nat_lt q p))
    ≡ false → p ≢ q → ((nat_lt h g || (g == h && nat_lt t s)) || ((g == h && s == t) && nat_lt p q)) ≡ true
placed-numbers g s p h t q not_before apart = grind (arith, nat_tests)

-- Players who are sorted by their places, and of whom no two are the same, are placed.
pub placed-sorted : (busts sorted : List Bust) → IsPermutation busts sorted → IsSortedBy is_placed_before sorted
    → are_distinct (λ one other. one == other) (map (λ bust. bust.player) busts) ≡ true → Placed sorted
placed-sorted busts sorted same order distinct = record {
  before = λ i j d first within. placed-numbers (get_or sorted i d).group (get_or sorted i d).stack
      (get_or sorted i d).player (get_or sorted j d).group (get_or sorted j d).stack (get_or sorted j d).player
      (sorted_far is_placed_before placed_before-order sorted order i j d (omega arith) within)
      (λ equal. twice i j d first within equal);
}
  where
    twice : (i j : ℕ) (d : Bust) → i < j → j < length sorted → (get_or sorted i d).player ≡ (get_or sorted j d).player
        → ⊥
    twice i j d first within equal =
        let player : ℕ = (get_or sorted j d).player in
        let two = count_by-two (λ (bust : Bust). bust.player == (get_or sorted j d).player) sorted i j d first within
        (ap (λ n. n == (get_or sorted j d).player) equal
        ∙ eq-eqb (get_or sorted j d).player (get_or sorted j d).player refl)
        (eq-eqb (get_or sorted j d).player (get_or sorted j d).player refl) in
        let one = once (get_or sorted j d).player busts distinct in
        let counts = count-permutation (λ (bust : Bust). bust.player == (get_or sorted j d).player) busts sorted same in
        omega (arith, two, one, counts)

-- Standings do not depend on the order of the list.
standing_of-permutation : (entries : ℕ) (prizes : List ℕ) (busts sorted : List Bust) (bust : Bust)
    → IsPermutation busts sorted → standing_of entries prizes sorted bust ≡ standing_of entries prizes busts bust
standing_of-permutation entries prizes busts sorted bust same =
    let size = length_permutation busts sorted same in
    let ahead = count-permutation (λ other. is_ahead other bust) busts sorted same in
    let ties_count = count-permutation (λ other. ties other bust) busts sorted same in
    let before = count-permutation (λ other. ties other bust && nat_lt other.player bust.player) busts sorted same in
    let place : place_of entries sorted bust ≡ place_of entries busts bust =
    ap (λ n. 1 + (entries - n) + count_by (λ other. is_ahead other bust) sorted) size
    ∙ ap (λ n. 1 + still_in entries busts + n) ahead in
    let prize : prize_of entries prizes sorted bust ≡ prize_of entries prizes busts bust =
    ap (λ n. equal_share (prizes_together prizes n (tied sorted bust)) (tied sorted bust) (tied_before sorted bust))
    place
    ∙ ap (λ n. equal_share (prizes_together prizes (place_of entries busts bust) n) n (tied_before sorted bust))
    ties_count
    ∙ ap (λ n. equal_share (prizes_together prizes (place_of entries busts bust) (tied busts bust))
    (tied busts bust) n) before in
    λ i. record { player = bust.player; place = place i; prize = prize i }

count_by-map : (test : Standing → Bool) (f : Bust → Standing) (busts : List Bust) → count_by test (map f busts)
    ≡ count_by (λ bust. test (f bust)) busts
count_by-map test f busts = sum_by-map (λ (standing : Standing). if test standing then 1 else 0) f busts

falls-map : (f : Bust → Standing) (busts : List Bust) → ((i j : ℕ) (d : Bust) → i < j → j < length busts
    → comes_before (f (get_or busts i d)) (f (get_or busts j d)) ≡ true) → Falls (map f busts)
falls-map f [] before = tt
falls-map f (bust ∷ busts) before = (
  count_by-map (λ other. not (comes_before (f bust) other)) f busts
      ∙ count_by-none (λ other. not (comes_before (f bust) (f other))) busts
      (λ k d within. ap not (before zero (suc k) d (omega arith) (omega arith))),
  falls-map f busts (λ i j d first within. before (suc i) (suc j) d (omega arith) (omega arith)),
)

placed-cases : (ahead tie less : Bool) → (ahead || (tie && less)) ≡ true → (ahead ≡ true)
    ⊎ ((tie ≡ true) × (less ≡ true))
placed-cases true tie less before = inl refl
placed-cases false true true before = inr (refl, refl)
placed-cases false true false before = absurd (cc)
placed-cases false false less before = absurd (cc)

-- Of two places the lower number comes first, whoever has them.
pub by-place : (p q a b : ℕ) → p < q → (nat_lt p q || (p == q && nat_lt a b)) ≡ true
by-place p q a b less = grind (arith, nat_tests)

by-entry : (p q a b : ℕ) → p ≡ q → nat_lt a b ≡ true → (nat_lt p q || (p == q && nat_lt a b)) ≡ true
by-entry p q a b same less = grind (arith, nat_tests)

-- The standings of players who are placed come in order.
pub falls-placed : (entries : ℕ) (prizes : List ℕ) (sorted : List Bust) → Placed sorted
    → Falls (map (standing_of entries prizes sorted) sorted)
falls-placed entries prizes sorted placed = falls-map (standing_of entries prizes sorted) sorted (λ i j d first within.
    let one = get_or sorted i d in
    let other = get_or sorted j d in
    elim (placed-cases (is_ahead (get_or sorted i d) (get_or sorted j d))
    (ties (get_or sorted i d) (get_or sorted j d)) (nat_lt (get_or sorted i d).player (get_or sorted j d).player)
    (placed.before i j d first within)) [
      | inl ahead ↦
          let higher = place_of-ahead entries sorted (get_or sorted i d) (get_or sorted j d) ahead in
          let some = tied-some sorted i d (omega arith) in
          by-place (place_of entries sorted (get_or sorted i d)) (place_of entries sorted (get_or sorted j d))
          (get_or sorted i d).player (get_or sorted j d).player (omega (arith, higher, some))
      | inr tie ↦ by-entry (place_of entries sorted (get_or sorted i d)) (place_of entries sorted (get_or sorted j d))
          (get_or sorted i d).player (get_or sorted j d).player
          (place_of-ties entries sorted (get_or sorted i d) (get_or sorted j d) tie.0) tie.1
    ])

-- The standings by place and by entry are those of the players sorted by their places.
pub ordered-sorted : (entries : ℕ) (prizes : List ℕ) (busts sorted : List Bust) → IsPermutation busts sorted
    → Placed sorted
    → ordered (map (standing_of entries prizes busts) busts) ≡ map (standing_of entries prizes sorted) sorted
ordered-sorted entries prizes busts sorted same placed =
    ordered-unique (map (standing_of entries prizes busts) busts) (map (standing_of entries prizes sorted) sorted)
    (falls-placed entries prizes sorted placed)
    (λ test. count_by-map test (standing_of entries prizes busts) busts
    ∙ sym (count-permutation (λ bust. test (standing_of entries prizes busts bust)) busts sorted same)
    ∙ count_by-same (λ bust. test (standing_of entries prizes busts bust))
    (λ bust. test (standing_of entries prizes sorted bust)) sorted
    (λ bust. ap test (sym (standing_of-permutation entries prizes busts sorted bust same)))
    ∙ sym (count_by-map test (standing_of entries prizes sorted) sorted))

-- Where a player of a tie stands.
pub standing-in_tie : (entries : ℕ) (prizes : List ℕ) (busts : List Bust) (tie : Tie) (index : ℕ) (d : Bust)
    (place together : ℕ) → Placed busts → IsTieAt busts tie index
    → place ≡ still_in entries busts + tie.first + 1 → together
    ≡ sum (take tie.players (drop (still_in entries busts + tie.first) prizes))
    → ◌≡◌ {A = Standing} (record {
      player = (get_or busts index d).player;
      place = place;
      prize =
          equal_share together tie.players (index - tie.first);
    })
    (standing_of entries prizes busts (get_or busts index d))
standing-in_tie entries prizes busts tie index d place together placed at place_is together_is =
    let stands = tie-stands busts tie.first tie.players index d placed at.tie_is at.low at.high in
    let place_same : place ≡ place_of entries busts (get_or busts index d) = omega (arith, place_is, stands.ahead) in
    let behind : still_in entries busts + tie.first ≡ place_of entries busts (get_or busts index d) - 1 =
    omega (arith, stands.ahead) in
    let prize : equal_share together tie.players (index - tie.first) ≡ prize_of entries prizes busts
    (get_or busts index d) =
    ap (λ n. equal_share n tie.players (index - tie.first))
    (together_is ∙ ap (λ n. sum (take tie.players (drop n prizes))) behind)
    ∙ ap (λ n. equal_share (prizes_together prizes (place_of entries busts (get_or busts index d)) n) n
    (index - tie.first)) (sym stands.tied)
    ∙ ap (λ n. equal_share (prizes_together prizes (place_of entries busts (get_or busts index d))
    (tied busts (get_or busts index d))) (tied busts (get_or busts index d)) n) (sym stands.before) in
    λ i. record { player = (get_or busts index d).player; place = place_same i; prize = prize i }

-- One standing more.
pub standings-more : (f : Bust → Standing) (busts : List Bust) (before now initial : List Standing)
    (standing : Standing) (index : ℕ) (d : Bust) → index < length busts
    → now ≡ before ++ standing ∷ [] → standing ≡ f (get_or busts index d) → before
    ≡ initial ++ map f (take index busts) → now ≡ initial ++ map f (take (index + 1) busts)
standings-more f busts before now initial standing index d within is standing_is so_far =
    is ∙ ap (λ list. list ++ standing ∷ []) so_far ∙ append_assoc initial (map f (take index busts)) (standing ∷ [])
    ∙ ap (λ last. initial ++ (map f (take index busts) ++ last ∷ [])) standing_is
    ∙ ap (λ list. initial ++ list)
    (sym (ap (map f) (take_more busts index d within) ∙ map-append f (take index busts)
    (get_or busts index d ∷ [])))
