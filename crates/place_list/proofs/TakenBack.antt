-- The list of players who are out, once one of them is taken back.
use Rattle.std.proofs.Common.{◌≡◌, ◌∙◌, ap, sym, ℕ, zero, suc, ◌+◌, ◌<◌, ◌≤◌, true, false, cond, List, [], ◌∷◌, map, length, get_or, arith}
use Rattle.std.specs.Prelude.{◌==◌, not, filter, sum_by, if◌then◌else◌}
use Rattle.std.specs.List.{list_all, Contains}
use Rattle.std.proofs.Math.Bool.{not-not}
use Rattle.std.proofs.lemmas.Bool.{and_parts, eq-eqb, not-true}
use Rattle.std.proofs.lemmas.List.Filters.{length-filter_both, sum_by-filter_both}
use Rattle.std.proofs.lemmas.List.Folds.{list_all-map}
use Rattle.std.proofs.lemmas.List.Sums.{AllPass-from_list_all}
use Rattle.rulebook.specs.Pairs.{are_distinct}
use Rattle.rulebook.proofs.Pairs.{is_pairwise-filter}
use Rattle.rulebook.proofs.Passing.{filter-none}
use Rattle.rulebook.proofs.Tests.{eqb-swap, list_all-follows}
use Rattle.place_list.specs.declared.bust.Bust.{Bust}
use Rattle.place_list.specs.Places.{is_ahead, is_bust_of, place_of, taken_back}

-- the number of a player who is out
abbrev number_of : Bust → ℕ
number_of bust = bust.player

-- Of those who are left no two are the same.
pub distinct-taken : (number : ℕ) (busts : List Bust)
    → are_distinct (λ one other. one == other) (map (λ bust. bust.player) busts) ≡ true
    → are_distinct (λ one other. one == other) (map (λ bust. bust.player) (taken_back number busts)) ≡ true
distinct-taken number busts distinct =
    is_pairwise-filter (λ one other. not (one == other)) number_of (λ bust. not (is_bust_of number bust)) busts distinct

-- Who differs from all of a list has no row in it.
none_his : (number : ℕ) (busts : List Bust) → list_all (λ other. not (number == other)) (map number_of busts) ≡ true
    → filter (is_bust_of number) busts ≡ []
none_his number busts apart = filter-none (is_bust_of number) busts
    (list_all-follows (λ (bust : Bust). not (number == bust.player)) (λ bust. not (is_bust_of number bust)) busts
    (λ bust differs. ap not (eqb-swap bust.player number) ∙ differs)
    (sym (list_all-map (λ other. not (number == other)) number_of busts) ∙ apart))

-- The rows of a player of the list are his one row.
his_row : (busts : List Bust) (gone : Bust) (k : ℕ)
    → are_distinct (λ one other. one == other) (map number_of busts) ≡ true → k < length busts
    → get_or busts k gone ≡ gone → filter (is_bust_of gone.player) busts ≡ gone ∷ []
his_row [] gone k distinct within is = absurd (omega arith)
his_row (bust ∷ busts) gone zero distinct within is =
    let parts = and_parts (list_all (λ other. not (bust.player == other)) (map number_of busts)) _ distinct in
    let number : bust.player ≡ gone.player = ap number_of is in
    let same : is_bust_of gone.player bust ≡ true = eq-eqb bust.player gone.player number in
    let none : filter (is_bust_of gone.player) busts ≡ [] =
    ap (λ (n : ℕ). filter (is_bust_of n) busts) (sym number) ∙ none_his bust.player busts parts.0 in
    rw (same, none) (ap (λ (bust : Bust). bust ∷ []) is)
his_row (bust ∷ busts) gone (suc k) distinct within is =
    let parts = and_parts (list_all (λ other. not (bust.player == other)) (map number_of busts)) _ distinct in
    let all = AllPass-from_list_all (λ (other : Bust). not (bust.player == other.player)) busts
    (sym (list_all-map (λ other. not (bust.player == other)) number_of busts) ∙ parts.0) k gone (omega arith) in
    let differs : is_bust_of gone.player bust ≡ false =
    not-true (bust.player == gone.player) (ap (λ (other : Bust). not (bust.player == other.player)) (sym is) ∙ all) in
    rw differs (his_row busts gone k parts.1 (omega arith) is)

-- The rows that are left and his sum to those that were.
pub taken-sum : (weight : Bust → ℕ) (busts : List Bust) (gone : Bust)
    → are_distinct (λ one other. one == other) (map (λ bust. bust.player) busts) ≡ true → Contains busts gone
    → sum_by weight (taken_back gone.player busts) + weight gone ≡ sum_by weight busts
taken-sum weight busts gone distinct there =
    let both = sum_by-filter_both (λ bust. not (is_bust_of gone.player bust)) (is_bust_of gone.player)
    (λ bust. sym (not-not (is_bust_of gone.player bust))) weight busts in
    let his = ap (sum_by weight) (his_row busts gone there.0 distinct there.1 there.2) in
    omega (arith, both, his)

-- One row less is left.
pub taken-length : (busts : List Bust) (gone : Bust)
    → are_distinct (λ one other. one == other) (map (λ bust. bust.player) busts) ≡ true → Contains busts gone
    → length (taken_back gone.player busts) + 1 ≡ length busts
taken-length busts gone distinct there =
    let both = length-filter_both (λ bust. not (is_bust_of gone.player bust)) (is_bust_of gone.player)
    (λ bust. sym (not-not (is_bust_of gone.player bust))) busts in
    let his = ap length (his_row busts gone there.0 distinct there.1 there.2) in
    omega (arith, both, his)

-- A place moves by one where the player who is taken back was not ahead, and stays where he was.
pub place_of-taken : (entries number : ℕ) (busts : List Bust) (gone bust : Bust) → length busts ≤ entries
    → are_distinct (λ one other. one == other) (map (λ bust. bust.player) busts) ≡ true → Contains busts gone
    → gone.player ≡ number
    → place_of entries (taken_back number busts) bust + (if is_ahead gone bust then 1 else 0)
    ≡ place_of entries busts bust + 1
place_of-taken entries number busts gone bust within distinct there is =
    let size = taken-length busts gone distinct there in
    let ahead = taken-sum (λ (other : Bust). cond {A = ℕ} (is_ahead other bust) 1 0) busts gone distinct there in
    let same = ap (λ (n : ℕ). place_of entries (taken_back n busts) bust) (sym is) in
    omega (arith, size, ahead, same, within)
