-- Places as a ranking.
use Rattle.std.proofs.Common.{◌≡◌, ◌∙◌, ap, sym, ℕ, ◌+◌, ◌<◌, ◌≤◌, true, List, length, get_or, arith}
use Rattle.std.specs.Prelude.{if◌then◌else◌, ◌==◌, ◌&&◌, ◌||◌, nat_lt}
use Rattle.std.proofs.lemmas.Bool.Decides.{nat_tests}
use Rattle.place_list.specs.declared.bust.Bust.{Bust}
use Rattle.place_list.specs.Places.{is_ahead, ties, place_of, tied, still_in}
use Rattle.place_list.proofs.Counts.{count_by-same, count_by-both, count_by-sum, count_by-some}

same_ahead : (k u g s h t : ℕ) → (g == h && s == t) ≡ true → (nat_lt g k || (k == g && nat_lt s u))
    ≡ (nat_lt h k || (k == h && nat_lt t u))
same_ahead k u g s h t tie = grind (arith, nat_tests)

same_ties : (k u g s h t : ℕ) → (g == h && s == t) ≡ true → (k == g && u == s) ≡ (k == h && u == t)
same_ties k u g s h t tie = grind (arith, nat_tests)

-- Who is ahead of a player is ahead of those who tie with him.
pub is_ahead-ties : (other one two : Bust) → ties one two ≡ true → is_ahead other one ≡ is_ahead other two
is_ahead-ties other one two tie = same_ahead other.group other.stack one.group one.stack two.group two.stack tie

-- Who ties with a player ties with those who tie with him.
pub ties-ties : (other one two : Bust) → ties one two ≡ true → ties other one ≡ ties other two
ties-ties other one two tie = same_ties other.group other.stack one.group one.stack two.group two.stack tie

-- Players who tie share a place.
pub place_of-ties : (entries : ℕ) (busts : List Bust) (one two : Bust) → ties one two ≡ true
    → place_of entries busts one ≡ place_of entries busts two
place_of-ties entries busts one two tie = ap (λ n. 1 + still_in entries busts + n)
    (count_by-same (λ other. is_ahead other one) (λ other. is_ahead other two) busts
    (λ other. is_ahead-ties other one two tie))

ahead_or_tied : (k u g s h t : ℕ) → (nat_lt h g || (g == h && nat_lt t s)) ≡ true
    → (if nat_lt g k || (k == g && nat_lt s u) then 1 else 0) + (if k == g && u == s then 1 else 0) ≤
    (if nat_lt h k || (k == h && nat_lt t u) then 1 else 0)
ahead_or_tied k u g s h t ahead = grind (arith, nat_tests)

-- A player who is ahead is placed higher, and the places of all who tie with him come before.
pub place_of-ahead : (entries : ℕ) (busts : List Bust) (one two : Bust) → is_ahead one two ≡ true
    → place_of entries busts one + tied busts one ≤ place_of entries busts two
place_of-ahead entries busts one two ahead =
    let counts = count_by-both (λ other. is_ahead other one) (λ other. ties other one)
    (λ other. is_ahead other two) busts
    (λ other. ahead_or_tied other.group other.stack one.group one.stack two.group two.stack ahead) in
    omega (arith, counts)

-- The same group and stack tie.
pub ties_self : (g s : ℕ) → (g == g && s == s) ≡ true
ties_self g s = grind (arith, nat_tests)

-- A player of the list ties with himself, so he is counted.
pub tied-some : (busts : List Bust) (k : ℕ) (d : Bust) → k < length busts → 1 ≤ tied busts (get_or busts k d)
tied-some busts k d within = count_by-some (λ other. ties other (get_or busts k d)) busts k d within
    (ties_self (get_or busts k d).group (get_or busts k d).stack)

ahead_and_tied : (k u g s h t : ℕ) → (nat_lt h g || (g == h && nat_lt t s)) ≡ true
    → ((nat_lt h k || (k == h && nat_lt t u)) ≡ true → ((nat_lt g k || (k == g && nat_lt s u)) || (k == g && u == s))
    ≡ true)
    → (if nat_lt g k || (k == g && nat_lt s u) then 1 else 0) + (if k == g && u == s then 1 else 0)
    ≡ (if nat_lt h k || (k == h && nat_lt t u) then 1 else 0)
ahead_and_tied k u g s h t ahead nobody = grind (arith, nat_tests)

-- Where nobody is between them, the next place counts just those who share the place before.
pub place_of-next : (entries : ℕ) (busts : List Bust) (one other : Bust) → is_ahead one other ≡ true
    → ((k : ℕ) (d : Bust) → k < length busts → is_ahead (get_or busts k d) other ≡ true
    → (is_ahead (get_or busts k d) one || ties (get_or busts k d) one) ≡ true)
    → place_of entries busts other ≡ place_of entries busts one + tied busts one
place_of-next entries busts one other ahead nobody =
    let counts = count_by-sum (λ third. is_ahead third one) (λ third. ties third one)
    (λ third. is_ahead third other) busts
    (λ third k within is. ahead_and_tied third.group third.stack one.group one.stack other.group other.stack ahead
    (λ before. ap (λ (who : Bust). is_ahead who one || ties who one) is
    ∙ nobody k third within (sym (ap (λ (who : Bust). is_ahead who other) is) ∙ before))) in
    omega (arith, counts)
