-- The list of players who are out, once one more is.
use Rattle.std.proofs.Common.{◌≡◌, ◌∙◌, refl, ap, ℕ, true, false, List, [], ◌∷◌, ◌++◌, map}
use Rattle.std.specs.Prelude.{◌==◌, not}
use Rattle.std.specs.List.{list_any, list_all}
use Rattle.std.proofs.lemmas.Bool.{and_parts, and_from, or_parts}
use Rattle.rulebook.specs.Pairs.{are_distinct}
use Rattle.place_list.specs.declared.bust.Bust.{Bust}

-- A player who is not on the list yet is none of those who are.
pub distinct-more : (player : ℕ) (bust : Bust) (busts : List Bust) → bust.player ≡ player
    → list_any (λ other. other.player == player) busts ≡ false
    → are_distinct (λ one other. one == other) (map (λ other. other.player) busts) ≡ true
    → are_distinct (λ one other. one == other) (map (λ other. other.player) (busts ++ bust ∷ [])) ≡ true
distinct-more player bust [] is once distinct = refl
distinct-more player bust (first ∷ busts) is once distinct =
    let parts = and_parts _ _ distinct in
    let apart = or_parts (first.player == player) (list_any (λ (other : Bust). other.player == player) busts) once in
    and_from _ _ (apart-more first.player bust busts (ap not (ap (λ n. first.player == n) is ∙ apart.0)) parts.0)
    (distinct-more player bust busts is apart.1 parts.1)
  where
    apart-more : (n : ℕ) (last : Bust) (rest : List Bust) → not (n == last.player) ≡ true
        → list_all (λ m. not (n == m)) (map (λ (other : Bust). other.player) rest) ≡ true
        → list_all (λ m. not (n == m)) (map (λ (other : Bust). other.player) (rest ++ last ∷ [])) ≡ true
    apart-more n last [] differs all = and_from _ _ differs refl
    apart-more n last (other ∷ rest) differs all =
        let parts = and_parts _ _ all in
        and_from _ _ parts.0 (apart-more n last rest differs parts.1)
