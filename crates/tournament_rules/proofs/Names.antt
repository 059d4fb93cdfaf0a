-- Names of those who entered: no two are the same, and so no two who sit have one name.
use Rattle.std.proofs.Common.{◌≡◌, ◌∙◌, ap, sym, subst, refl, ℕ, zero, suc, Bool, true, false, ◌==◌, List, [], ◌∷◌, length, map, arith}
use Rattle.std.specs.Prelude.{not, ◌||◌, find, slice_get, unwrap_or, Some}
use Rattle.std.specs.List.{list_all, position_or_len, All}
use Rattle.std.specs.Str.{bytes_eq}
use Rattle.std.proofs.lemmas.Bool.{and_parts, and_from, lt-ltb, not-true}
use Rattle.std.proofs.lemmas.Bool.Decides.{nat_tests}
use Rattle.std.proofs.lemmas.List.Elements.{All-head, All-tail}
use Rattle.std.proofs.lemmas.List.Folds.{find_at}
use Rattle.std.proofs.lemmas.Option.{same_Some, slice_get_within}
use Rattle.std.proofs.lemmas.Slice.Eq.{bytes_eq-Decides}
use Rattle.rulebook.specs.Pairs.{are_distinct}
use Rattle.rulebook.proofs.Passing.{list_all-get}
use Rattle.entry_list.specs.Entries.{is_known, number_of}
use Rattle.entry_list.proofs.Added.{other_way}
use Rattle.seat_book.specs.declared.seated.Seated.{Seated}
use Rattle.seat_book.specs.Players.{is_numbered, are_apart}

-- a name that differs from all of a list differs from each
differs_from : (name : List ℕ) (entries : List (List ℕ)) (i : ℕ) (other : List ℕ)
    → list_all (λ later. not (bytes_eq name later)) entries ≡ true → slice_get entries i ≡ Some other
    → bytes_eq name other ≡ false
differs_from name entries i other all is =
    not-true (bytes_eq name other) (list_all-get (λ later. not (bytes_eq name later)) entries i other all is)

-- Entries with different numbers have different names where no two entered under one.
pub names_differ : (entries : List (List ℕ)) (i j : ℕ) (one other : List ℕ) → are_distinct bytes_eq entries ≡ true
    → slice_get entries i ≡ Some one → slice_get entries j ≡ Some other → (i == j) ≡ false
    → bytes_eq one other ≡ false
names_differ [] i j one other distinct his hers apart = absurd cc
names_differ (first ∷ entries) zero zero one other distinct his hers apart = absurd cc
names_differ (first ∷ entries) zero (suc j) one other distinct his hers apart =
    let parts = and_parts (list_all (λ later. not (bytes_eq first later)) entries) (are_distinct bytes_eq entries)
    distinct in
    subst (λ (one : List ℕ). bytes_eq one other ≡ false) (same_Some first one his)
    (differs_from first entries j other parts.0 hers)
names_differ (first ∷ entries) (suc i) zero one other distinct his hers apart =
    let parts = and_parts (list_all (λ later. not (bytes_eq first later)) entries) (are_distinct bytes_eq entries)
    distinct in
    other_way other one (subst (λ (other : List ℕ). bytes_eq other one ≡ false) (same_Some first other hers)
    (differs_from first entries i one parts.0 his))
names_differ (first ∷ entries) (suc i) (suc j) one other distinct his hers apart =
    let parts = and_parts (list_all (λ later. not (bytes_eq first later)) entries) (are_distinct bytes_eq entries)
    distinct in
    names_differ entries i j one other parts.1 his hers (one_less i j apart)
  where
    one_less : (i j : ℕ) → (suc i == suc j) ≡ false → (i == j) ≡ false
    one_less i j apart = grind (arith, nat_tests)

-- a player sits under the name with which he entered
abbrev pub IsNamed : List (List ℕ) → Seated → Type 0
IsNamed entries player = slice_get entries player.player ≡ Some player.name

-- No two who sit have one name.
pub seated_names : (entries : List (List ℕ)) (players : List Seated) → are_distinct bytes_eq entries ≡ true
    → All (IsNamed entries) players → are_apart players ≡ true
    → are_distinct bytes_eq (map (λ player. player.name) players) ≡ true
seated_names entries [] distinct named apart = refl
seated_names entries (player ∷ players) distinct named apart =
    let parts = and_parts (list_all (λ other. not (is_numbered player.player other)) players) (are_apart players)
    apart in
    let his = All-head (IsNamed entries) player players named in
    let others = All-tail (IsNamed entries) player players named in
    and_from _ _ (all_differ players his others parts.0) (seated_names entries players distinct others parts.1)
  where
    all_differ : (players : List Seated) → IsNamed entries player → All (IsNamed entries) players
        → list_all (λ other. not (is_numbered player.player other)) players ≡ true
        → list_all (λ name. not (bytes_eq player.name name)) (map (λ player. player.name) players) ≡ true
    all_differ [] his others apart = refl
    all_differ (other ∷ players) his others apart =
        let parts = and_parts (not (is_numbered player.player other))
        (list_all (λ other. not (is_numbered player.player other)) players) apart in
        let hers = All-head (IsNamed entries) other players others in
        let later = All-tail (IsNamed entries) other players others in
        let differ = names_differ entries other.player player.player other.name player.name distinct hers his
        (not-true _ parts.0) in
        and_from _ _ (ap not (other_way other.name player.name differ)) (all_differ players his later parts.1)

-- A name that entered is found among the entries.
found_known : (entries : List (List ℕ)) (name : List ℕ) → is_known entries name ≡ true
    → find (bytes_eq name) entries ≡ Some name
found_known [] name known = absurd cc
found_known (first ∷ entries) name known = by_test (bytes_eq name first) refl known (found_known entries name)
  where
    by_test : (b : Bool) → bytes_eq name first ≡ b → (bytes_eq name first || is_known entries name) ≡ true
        → (is_known entries name ≡ true → find (bytes_eq name) entries ≡ Some name)
        → find (bytes_eq name) (first ∷ entries) ≡ Some name
    by_test true is some rest = rw is (ap Some (sym ((bytes_eq-Decides name first).0 is)))
    by_test false is some rest = rw is (rest (rw is at some))

-- The number of a name that entered is that of the entry.
pub number_named : (entries : List (List ℕ)) (name : List ℕ) → is_known entries name ≡ true
    → slice_get entries (unwrap_or (number_of entries name) 0) ≡ Some name
number_named entries name known =
    let there = sym (find_at (bytes_eq name) entries) ∙ found_known entries name known in
    let within = slice_get_within entries (position_or_len (bytes_eq name) entries) name there in
    rw (lt-ltb (position_or_len (bytes_eq name) entries) (length entries) within) there
