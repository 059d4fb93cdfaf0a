-- Standings come in order.
use Rattle.std.proofs.Common.{◌≡◌, ◌∙◌, refl, ap, sym, ℕ, ◌<◌, ◌≤◌, true, List, [], ◌∷◌, length, arith}
use Rattle.std.specs.Prelude.{count_by, map, not, ◌==◌, Option, None, Some}
use Rattle.std.specs.List.{list_all}
use Rattle.std.proofs.Math.Bool.{not-not}
use Rattle.std.proofs.lemmas.Bool.{and_from}
use Rattle.std.proofs.lemmas.List.Folds.{list_all-map}
use Rattle.std.proofs.lemmas.List.Sorted.{length_permutation}
use Rattle.rulebook.specs.Pairs.{is_pairwise, are_distinct}
use Rattle.rulebook.proofs.Tests.{list_all-always, list_all-follows, none_by_count}
use Rattle.place_list.specs.declared.bust.Bust.{Bust}
use Rattle.place_list.specs.declared.standing.Standing.{Standing}
use Rattle.place_list.specs.Places.{place_of, still_in}
use Rattle.place_list.specs.Prizes.{prizes_of, prizes_together}
use Rattle.place_list.specs.Standings.{standing_of, comes_before, standings_of}
use Rattle.place_list.proofs.InOrder.{by-place, ordered-sorted, falls-placed}
use Rattle.place_list.proofs.Sorting.{Falls}
use Rattle.place_list.proofs.Sums.{sorted_busts, sorted-permutation, placed-sorted_busts}

all-come : (standing : Standing) (standings : List Standing)
    → count_by (λ other. not (comes_before standing other)) standings ≡ 0
    → list_all (comes_before standing) standings ≡ true
all-come standing standings none =
    list_all-follows (λ other. not (not (comes_before standing other))) (comes_before standing) standings
    (λ other so. sym (not-not (comes_before standing other)) ∙ so)
    (none_by_count (λ other. not (comes_before standing other)) standings none)

pairwise-falls : (standings : List Standing) → Falls standings → is_pairwise comes_before standings ≡ true
pairwise-falls [] falls = refl
pairwise-falls (standing ∷ standings) falls = and_from _ _ (all-come standing standings falls.0)
    (pairwise-falls standings falls.1)

winner-first : (entries : ℕ) (prizes : List ℕ) (busts sorted : List Bust) (winner : Standing) → winner.place ≡ 1
    → 1 ≤ still_in entries busts
    → list_all (comes_before winner) (map (standing_of entries prizes busts) sorted) ≡ true
winner-first entries prizes busts sorted winner first some =
    list_all-map (comes_before winner) (standing_of entries prizes busts) sorted
    ∙ list_all-always (λ bust. comes_before winner (standing_of entries prizes busts bust)) sorted
    (λ bust. by-place winner.place (place_of entries busts bust) winner.player bust.player (omega (arith, first, some)))

-- Standings come by place, and of the same place by entry.
pub pairwise-standings : (entries : ℕ) (last : Option ℕ) (pool : ℕ) (shares : List ℕ) (busts : List Bust)
    → are_distinct (λ one other. one == other) (map (λ bust. bust.player) busts) ≡ true
    → length busts < entries → is_pairwise comes_before (standings_of entries last pool shares busts) ≡ true
unfolding standings_of
pairwise-standings entries None pool shares busts distinct some =
    let placed = placed-sorted_busts busts distinct in
    ap (is_pairwise comes_before) (ordered-sorted entries (prizes_of entries pool shares) busts (sorted_busts busts)
    (sorted-permutation busts) placed)
    ∙ pairwise-falls (map (standing_of entries (prizes_of entries pool shares) (sorted_busts busts))
    (sorted_busts busts)) (falls-placed entries (prizes_of entries pool shares) (sorted_busts busts) placed)
pairwise-standings entries (Some last) pool shares busts distinct some =
    let placed = placed-sorted_busts busts distinct in
    let same = ordered-sorted entries (prizes_of entries pool shares) busts (sorted_busts busts)
    (sorted-permutation busts) placed in
    let size = length_permutation busts (sorted_busts busts) (sorted-permutation busts) in
    let winner : Standing =
    record { player = last; place = 1; prize = prizes_together (prizes_of entries pool shares) 1 1 } in
    and_from _ _
    (ap (list_all (comes_before winner)) same ∙ winner-first entries (prizes_of entries pool shares)
    (sorted_busts busts) (sorted_busts busts) winner refl (omega (arith, size, some)))
    (ap (is_pairwise comes_before) same
    ∙ pairwise-falls (map (standing_of entries (prizes_of entries pool shares) (sorted_busts busts))
    (sorted_busts busts)) (falls-placed entries (prizes_of entries pool shares) (sorted_busts busts) placed))
