-- All prizes together.
use Rattle.std.proofs.Common.{◌≡◌, ◌∙◌, refl, ap, sym, ℕ, zero, suc, ◌+◌, ◌-◌, ◌*◌, ◌/◌, ◌%◌, ◌<◌, ◌≤◌, min, inl, inr, true, false, List, [], ◌∷◌, length, take, drop, get_or, arith}
use Rattle.std.specs.Prelude.{sum, sum_by, if◌then◌else◌, map, ◌==◌, nat_lt, Some, None}
use Rattle.std.specs.List.Sorted.{IsPermutation, IsSortedBy}
use Rattle.std.proofs.lemmas.Bool.{cases_Bool, cases_lt}
use Rattle.std.proofs.lemmas.Bool.Decides.{nat_tests}
use Rattle.std.proofs.lemmas.List.{drop-drop, take_all, length-map, length-take, length-drop, get_or-take, get_or-drop, get_or_default}
use Rattle.std.proofs.lemmas.List.Sums.{sum_by-cons, sum_by-append, sum_by-take-drop, sum_by-take-le}
use Rattle.std.proofs.lemmas.List.Sorted.{IsPermutation-refl, IsPermutation-cons, IsPermutation-trans, IsPermutation-middle, IsPermutation-sym, length_permutation}
use Rattle.std.proofs.Math.ListN.{drop_of_length-le}
use Rattle.std.proofs.Math.Seq.{take-add}
use Rattle.std.proofs.Math.Nat.{add-zero, add_assoc, sub-zero, div-add-mod, mod-lt}
use Rattle.rulebook.specs.Pairs.{are_distinct}
use Rattle.place_list.specs.declared.bust.Bust.{Bust}
use Rattle.place_list.specs.declared.standing.Standing.{Standing}
use Rattle.place_list.specs.Orders.{is_placed_before, Placed}
use Rattle.place_list.specs.Places.{tied_before, place_of, still_in}
use Rattle.place_list.specs.Prizes.{part_of, parts, first_gets, prizes_of, prizes_together, equal_share}
use Rattle.place_list.specs.Standings.{prize_of, standing_of, ordered, standings_of}
use Rattle.place_list.specs.TiedAtHead.{tied_at_head}
use Rattle.place_list.specs.Ties.{IsTie}
use Rattle.place_list.proofs.InOrder.{placed-sorted, ordered-sorted}
use Rattle.place_list.proofs.Orderings.{placed_before-order}
use Rattle.place_list.proofs.PrizeLists.{parts-le}
use Rattle.place_list.proofs.TieBlocks.{Opens, tie-from, tie-opens, tie-stands}

-- A player goes into a list before the first whom he is placed before.
pub put_bust : Bust → List Bust → List Bust
put_bust bust [] = bust ∷ []
put_bust bust (other ∷ others) = if is_placed_before bust other then bust ∷ other ∷ others else other
    ∷ put_bust bust others

-- The players in the order of their places, one put in after another.
pub sorted_busts : List Bust → List Bust
sorted_busts [] = []
sorted_busts (bust ∷ busts) = put_bust bust (sorted_busts busts)

put_bust-permutation : (bust : Bust) (busts : List Bust) → IsPermutation (bust ∷ busts) (put_bust bust busts)
unfolding put_bust
put_bust-permutation bust [] = IsPermutation-refl (bust ∷ [])
put_bust-permutation bust (other ∷ others) =
    elim (cases_Bool (is_placed_before bust other)) [
      | inl before ↦ rw before (IsPermutation-refl (bust ∷ other ∷ others))
      | inr behind ↦ rw behind
          (IsPermutation-trans (bust ∷ other ∷ others) (other ∷ bust ∷ others) (other ∷ put_bust bust others)
          (IsPermutation-sym (other ∷ bust ∷ others) (bust ∷ other ∷ others)
          (IsPermutation-middle (other ∷ []) bust others))
          (IsPermutation-cons other (bust ∷ others) (put_bust bust others) (put_bust-permutation bust others)))
    ]

-- They are the same players.
pub sorted-permutation : (busts : List Bust) → IsPermutation busts (sorted_busts busts)
unfolding sorted_busts
sorted-permutation [] = IsPermutation-refl []
sorted-permutation (bust ∷ busts) =
    IsPermutation-trans (bust ∷ busts) (bust ∷ sorted_busts busts) (put_bust bust (sorted_busts busts))
    (IsPermutation-cons bust busts (sorted_busts busts) (sorted-permutation busts))
    (put_bust-permutation bust (sorted_busts busts))

-- The first of a list is not placed before this player.
abbrev Leads : Bust → List Bust → Type 0
Leads bust [] = Unit {0}
Leads bust (other ∷ others) = is_placed_before other bust ≡ false

abbrev Rises : List Bust → Type 0
Rises [] = Unit {0}
Rises (bust ∷ busts) = Leads bust busts × Rises busts

leads-put : (other bust : Bust) (busts : List Bust) → is_placed_before bust other ≡ false → Leads other busts
    → Leads other (put_bust bust busts)
unfolding put_bust
leads-put other bust [] behind leads = behind
leads-put other bust (next ∷ others) behind leads =
    elim (cases_Bool (is_placed_before bust next)) [
      | inl before ↦ rw before behind
      | inr later ↦ rw later leads
    ]

rises-put : (bust : Bust) (busts : List Bust) → Rises busts → Rises (put_bust bust busts)
unfolding put_bust
rises-put bust [] rises = (tt, tt)
rises-put bust (other ∷ others) rises =
    elim (cases_Bool (is_placed_before bust other)) [
      | inl before ↦ rw before (placed_before-order.one_way bust other before, rises)
      | inr behind ↦ rw behind (leads-put other bust others behind rises.0, rises-put bust others rises.1)
    ]

rises-sorted : (busts : List Bust) → Rises (sorted_busts busts)
unfolding sorted_busts
rises-sorted [] = tt
rises-sorted (bust ∷ busts) = rises-put bust (sorted_busts busts) (rises-sorted busts)

sorted-rises : (busts : List Bust) → Rises busts → IsSortedBy is_placed_before busts
sorted-rises [] rises = λ k d low high. absurd (omega arith)
sorted-rises (bust ∷ []) rises = λ k d low high. absurd (omega arith)
sorted-rises (bust ∷ other ∷ others) rises = at (sorted-rises (other ∷ others) rises.1)
  where
    shift : (k : ℕ) → suc k + 1 ≡ suc (k + 1)
    shift k = omega arith

    at : IsSortedBy is_placed_before (other ∷ others) → (k : ℕ) (d : Bust) → 0 ≤ k
        → k + 1 < length (bust ∷ other ∷ others) → is_placed_before (get_or (bust ∷ other ∷ others) (k + 1) d)
        (get_or (bust ∷ other ∷ others) k d) ≡ false
    at below zero d low high = rises.0
    at below (suc k) d low high =
        ap (λ n. is_placed_before (get_or (bust ∷ other ∷ others) n d) (get_or (other ∷ others) k d)) (shift k)
        ∙ below k d (omega arith) (omega arith)

-- They are placed.
pub placed-sorted_busts : (busts : List Bust) → are_distinct (λ one other. one == other)
    (map (λ bust. bust.player) busts)
    ≡ true → Placed (sorted_busts busts)
placed-sorted_busts busts distinct = placed-sorted busts (sorted_busts busts) (sorted-permutation busts)
    (sorted-rises (sorted_busts busts) (rises-sorted busts)) distinct

shares-step : (q r j n more : ℕ) → more ≡ n * q + (min r (suc j + n) - min r (suc j))
    → (q + (if nat_lt j r then 1 else 0)) + more ≡ suc n * q + (min r (j + suc n) - min r j)
shares-step q r j n more is = grind (arith, nat_tests)

-- The shares of players who tie: each has the quotient, and the first have one more.
shares-sum : (f : Bust → ℕ) (busts : List Bust) (q r j : ℕ) (d : Bust)
    → ((k : ℕ) → k < length busts → f (get_or busts k d) ≡ q + (if nat_lt (j + k) r then 1 else 0))
    → sum_by f busts ≡ length busts * q + (min r (j + length busts) - min r j)
shares-sum f [] q r j d each = none q r j
  where
    none : (q r j : ℕ) → 0 ≡ 0 * q + (min r (j + 0) - min r j)
    none q r j = omega arith
shares-sum f (bust ∷ busts) q r j d each =
    let here : f bust ≡ q + (if nat_lt j r then 1 else 0) = each zero (omega arith)
    ∙ ap (λ n. q + (if nat_lt n r then 1 else 0)) (omega arith) in
    let rest = shares-sum f busts q r (suc j) d (λ k within. each (suc k) (omega arith)
    ∙ ap (λ n. q + (if nat_lt n r then 1 else 0)) (omega arith)) in
    sum_by-cons f bust busts ∙ ap (λ n. n + sum_by f busts) here ∙ shares-step q r j (length busts)
    (sum_by f busts) rest

-- All that players share who tie is what they have together.
whole-shared : (together players whole : ℕ) → 1 ≤ players → whole ≡ players * (together / players) +
    (min (together % players) (0 + players) - min (together % players) 0) → whole ≡ together
whole-shared together players whole some is =
    let parts = div-add-mod together players in
    let less : together % players < players = mod-lt together some in
    omega (arith, parts, less, is)

-- The prizes of players who tie sum to the prizes of their places.
tie-sum : (entries : ℕ) (prizes : List ℕ) (busts : List Bust) (first players : ℕ) (d : Bust) → Placed busts
    → IsTie busts first players
    → sum_by (prize_of entries prizes busts) (take players (drop first busts))
    ≡ sum (take players (drop (still_in entries busts + first) prizes))
tie-sum entries prizes busts first players d placed tie =
    whole-shared together players (sum_by (prize_of entries prizes busts) (take players (drop first busts))) tie.some
    (shares-sum (prize_of entries prizes busts) (take players (drop first busts)) (together / players)
    (together % players) 0 d (λ k within. each k (omega (arith, size)))
    ∙ ap (λ n. n * (together / players) + (min (together % players) (0 + n) - min (together % players) 0)) size)
  where
    together : ℕ
    together = sum (take players (drop (still_in entries busts + first) prizes))

    size : length (take players (drop first busts)) ≡ players
    size = (let one = length-take players (drop first busts) in let two = length-drop first busts in let within =
        tie.within in omega (arith, one, two, within))

    each : (k : ℕ) → k < players → prize_of entries prizes busts (get_or (take players (drop first busts)) k d)
        ≡ together / players + (if nat_lt (0 + k) (together % players) then 1 else 0)
    each k less =
        let there : get_or (take players (drop first busts)) k d ≡ get_or busts (first + k) d =
        get_or-take players (drop first busts) k d less ∙ get_or-drop first busts k d in
        let stands = tie-stands busts first players (first + k) d placed tie (omega arith) (omega arith) in
        let place : place_of entries busts (get_or busts (first + k) d) - 1 ≡ still_in entries busts + first =
        (let ahead = stands.ahead in omega (arith, ahead)) in
        let before : tied_before busts (get_or busts (first + k) d)
        ≡ 0 + k = (let earlier = stands.before in omega (arith, earlier)) in
        ap (prize_of entries prizes busts) there
        ∙ ap (λ n. equal_share (prizes_together prizes (place_of entries busts (get_or busts (first + k) d)) n) n
        (tied_before busts (get_or busts (first + k) d))) stands.tied
        ∙ ap (λ n. equal_share (sum (take players (drop n prizes))) players
        (tied_before busts (get_or busts (first + k) d))) place
        ∙ ap (λ n. equal_share (sum (take players (drop (still_in entries busts + first) prizes))) players n) before

-- Nothing is left of a number from which no less is taken.
none_left : (a b : ℕ) → a ≤ b → 0 ≡ a - b
none_left a b le = omega arith

-- The prizes of the places that are left, tie by tie.
sum-from : (entries : ℕ) (prizes : List ℕ) (busts : List Bust) (d : Bust) → Placed busts → (fuel first : ℕ)
    → Opens busts first → length busts ≤ first + fuel
    → sum_by (prize_of entries prizes busts) (drop first busts)
    ≡ sum (take (length busts - first) (drop (still_in entries busts + first) prizes))
sum-from entries prizes busts d placed zero first opens enough =
    ap (sum_by (prize_of entries prizes busts)) (drop_of_length-le busts (omega arith))
    ∙ ap (λ n. sum (take n (drop (still_in entries busts + first) prizes)))
    (none_left (length busts) first (omega arith))
sum-from entries prizes busts d placed (suc fuel) first opens enough =
    elim (cases_lt first (length busts)) [
      | inl within ↦
          let tie = tie-from busts first (tied_at_head (get_or busts first d) (drop first busts)) placed within opens
          (λ e. ap (λ bust. tied_at_head bust (drop first busts)) (get_or_default busts first d e within)) in
          split-at (tied_at_head (get_or busts first d) (drop first busts)) tie
          (further (tied_at_head (get_or busts first d) (drop first busts)) tie
          (λ next. sum-from entries prizes busts d placed fuel
          (first + tied_at_head (get_or busts first d) (drop first busts)) next (let some = tie.some in
          omega (arith, some))))
      | inr beyond ↦ ap (sum_by (prize_of entries prizes busts)) (drop_of_length-le busts beyond)
          ∙ ap (λ n. sum (take n (drop (still_in entries busts + first) prizes)))
          (none_left (length busts) first beyond)
    ]
  where
    further : (players : ℕ) → IsTie busts first players
        → (Opens busts (first + players) → sum_by (prize_of entries prizes busts) (drop (first + players) busts)
        ≡ sum (take (length busts - (first + players))
        (drop (still_in entries busts + (first + players)) prizes)))
        → sum_by (prize_of entries prizes busts) (drop (first + players) busts)
        ≡ sum (take (length busts - (first + players)) (drop (still_in entries busts + (first + players)) prizes))
    further players tie later = elim (cases_lt (first + players) (length busts)) [
      | inl more ↦ later (tie-opens busts first players tie more)
      | inr done ↦ ap (sum_by (prize_of entries prizes busts)) (drop_of_length-le busts done)
          ∙ ap (λ n. sum (take n (drop (still_in entries busts + (first + players)) prizes)))
          (none_left (length busts) (first + players) done)
    ]

    together_count : (players n : ℕ) → first + players ≤ n → players + (n - (first + players)) ≡ n - first
    together_count players n within = omega (arith, within)

    split-at : (players : ℕ) → IsTie busts first players
        → sum_by (prize_of entries prizes busts) (drop (first + players) busts)
        ≡ sum (take (length busts - (first + players)) (drop (still_in entries busts + (first + players)) prizes))
        → sum_by (prize_of entries prizes busts) (drop first busts)
        ≡ sum (take (length busts - first) (drop (still_in entries busts + first) prizes))
    split-at players tie later =
        let all = sum_by-take-drop (prize_of entries prizes busts) (drop first busts) players in
        let here = tie-sum entries prizes busts first players d placed tie in
        let rest = ap (sum_by (prize_of entries prizes busts)) (drop-drop players first busts) in
        let parts = ap sum (take-add players (length busts - (first + players))
        (drop (still_in entries busts + first) prizes))
        ∙ sum_by-append (λ (n : ℕ). n) (take players (drop (still_in entries busts + first) prizes))
        (take (length busts - (first + players)) (drop players (drop (still_in entries busts + first) prizes)))
        in
        let behind = ap (λ list. sum (take (length busts - (first + players)) list))
        (drop-drop players (still_in entries busts + first) prizes
        ∙ ap (λ n. drop n prizes) (add_assoc (still_in entries busts) first players)) in
        let count = ap (λ n. sum (take n (drop (still_in entries busts + first) prizes)))
        (together_count players (length busts) (tie.within)) in
        omega (arith, all, here, rest, parts, behind, count, later)

sum-map : (f : Bust → Standing) (busts : List Bust) → sum_by (λ standing. standing.prize) (map f busts)
    ≡ sum_by (λ bust. (f bust).prize) busts
sum-map f [] = refl
sum-map f (bust ∷ busts) = sum_by-cons (λ (standing : Standing). standing.prize) (f bust) (map f busts)
    ∙ ap (λ n. (f bust).prize + n) (sum-map f busts) ∙ sym (sum_by-cons (λ (one : Bust). (f one).prize) bust busts)

-- The prizes of those who are out are those of their places.
prizes-out : (entries : ℕ) (prizes : List ℕ) (busts : List Bust) → are_distinct (λ one other. one == other)
    (map (λ bust. bust.player) busts) ≡ true
    → sum_by (λ standing. standing.prize) (ordered (map (standing_of entries prizes busts) busts))
    ≡ sum (take (length busts) (drop (still_in entries busts) prizes))
prizes-out entries prizes busts distinct =
    let placed = placed-sorted_busts busts distinct in
    let size : length (sorted_busts busts) ≡ length busts = length_permutation busts (sorted_busts busts)
    (sorted-permutation busts) in
    ap (sum_by (λ (standing : Standing). standing.prize)) (ordered-sorted entries prizes busts (sorted_busts busts)
    (sorted-permutation busts) placed)
    ∙ sum-map (standing_of entries prizes (sorted_busts busts)) (sorted_busts busts)
    ∙ sum-from entries prizes (sorted_busts busts) (record { player = 0; stack = 0; group = 0 }) placed
    (length busts) 0 (record { ahead = λ k d less. absurd (omega arith) }) (omega (arith, size))
    ∙ ap (λ n. sum (take (n - 0) (drop (entries - n + 0) prizes))) size
    ∙ ap (λ n. sum (take n (drop (entries - length busts + 0) prizes))) (sub-zero (length busts))
    ∙ ap (λ n. sum (take (length busts) (drop n prizes))) (add-zero (entries - length busts))

first_gets-sum : (left : ℕ) (list : List ℕ) → 1 ≤ length list → sum (first_gets left list) ≡ left + sum list
first_gets-sum left [] some = absurd (omega arith)
first_gets-sum left (first ∷ others) some =
    let one = sum_by-cons (λ (n : ℕ). n) (first + left) others in
    let two = sum_by-cons (λ (n : ℕ). n) first others in
    omega (arith, one, two)

first_gets-length : (left : ℕ) (list : List ℕ) → length (first_gets left list) ≡ length list
first_gets-length left [] = refl
first_gets-length left (first ∷ others) = refl

first_gets-none : (left : ℕ) (list : List ℕ) → length list ≡ 0 → sum (first_gets left list) ≡ 0
first_gets-none left [] none = refl
first_gets-none left (first ∷ others) none = absurd (omega arith)

-- There are prizes for no more places than entries.
prizes-length : (entries pool : ℕ) (shares : List ℕ) → length (prizes_of entries pool shares)
    ≡ min entries (length shares)
unfolding prizes_of
prizes-length entries pool shares =
    first_gets-length (pool - sum (parts entries pool shares))
    (parts entries pool shares)
    ∙ length-map (take entries shares) (part_of pool) ∙ length-take entries shares

few-shares : (entries : ℕ) (shares : List ℕ) → sum shares ≤ 1000 → sum (take entries shares) ≤ 1000
few-shares entries shares few = (let within = sum_by-take-le (λ (n : ℕ). n) shares entries in
    omega (arith, within, few))

-- All prizes sum to the pool, where there is a prize at all.
prizes-sum : (entries pool : ℕ) (shares : List ℕ) → sum shares ≤ 1000 → 1 ≤ entries → 1 ≤ length shares
    → sum (prizes_of entries pool shares) ≡ pool
unfolding prizes_of
prizes-sum entries pool shares few some share =
    let within = parts-le pool (take entries shares) (few-shares entries shares few) in
    let size = length-map (take entries shares) (part_of pool) ∙ length-take entries shares in
    let all = first_gets-sum (pool - sum (parts entries pool shares))
    (parts entries pool shares) (omega (arith, size, some, share)) in
    omega (arith, all, within)

-- They never sum to more.
pub prizes-within : (entries pool : ℕ) (shares : List ℕ) → sum shares ≤ 1000 → sum (prizes_of entries pool shares)
    ≤ pool
unfolding prizes_of
prizes-within entries pool shares few =
    let within = parts-le pool (take entries shares) (few-shares entries shares few) in
    elim (cases_lt 0 (length (parts entries pool shares))) [
      | inl some ↦ (let all =
          first_gets-sum (pool - sum (parts entries pool shares))
          (parts entries pool shares) (omega (arith, some)) in omega (arith, all, within))
      | inr none ↦ (let all =
          first_gets-none (pool - sum (parts entries pool shares))
          (parts entries pool shares) (omega (arith, none)) in omega (arith, all))
    ]

-- All prizes of a tournament that is over sum to the pool.
pub over-sum : (entries last pool : ℕ) (shares : List ℕ) (busts : List Bust)
    → are_distinct (λ one other. one == other) (map (λ bust. bust.player) busts) ≡ true
    → entries ≡ length busts + 1 → 1 ≤ length shares → sum shares ≤ 1000 → sum_by (λ standing. standing.prize)
    (standings_of entries (Some last) pool shares busts) ≡ pool
unfolding standings_of
over-sum entries last pool shares busts distinct over share few =
    let prizes = prizes_of entries pool shares in
    let out = prizes-out entries prizes busts distinct in
    let in_one : still_in entries busts ≡ 1 = omega arith in
    let all = sum_by-cons (λ (standing : Standing). standing.prize)
    (record { player = last; place = 1; prize = prizes_together prizes 1 1 })
    (ordered (map (standing_of entries prizes busts) busts)) in
    let behind = ap (λ n. sum (take (length busts) (drop n prizes))) in_one in
    let parts = ap sum (take-add 1 (length busts) prizes) ∙ sum_by-append (λ (n : ℕ). n) (take 1 prizes)
    (take (length busts) (drop 1 prizes)) in
    let size = prizes-length entries pool shares in
    let whole = ap sum (take_all (1 + length busts) prizes (omega (arith, size, over))) in
    let whole_pool = prizes-sum entries pool shares few (omega arith) share in
    omega (arith, out, all, behind, parts, whole, whole_pool)

-- The prizes of those who are out never sum to more.
pub out-sum : (entries pool : ℕ) (shares : List ℕ) (busts : List Bust) → are_distinct (λ one other. one == other)
    (map (λ bust. bust.player) busts) ≡ true
    → sum shares ≤ 1000 → sum_by (λ standing. standing.prize) (standings_of entries None pool shares busts)
    ≤ pool
unfolding standings_of
out-sum entries pool shares busts distinct few =
    let prizes = prizes_of entries pool shares in
    let out = prizes-out entries prizes busts distinct in
    let own = sum_by-take-le (λ (n : ℕ). n) (drop (still_in entries busts) prizes) (length busts) in
    let all = sum_by-take-drop (λ (n : ℕ). n) prizes (still_in entries busts) in
    let most = prizes-within entries pool shares few in
    omega (arith, out, own, all, most)
