-- The order of the players by their single cards: how many come before a player.
use Rattle.std.proofs.Common.{◌≡◌, ◌≢◌, ◌∙◌, refl, ap, sym, inl, inr, ℕ, zero, suc, ◌<◌, ◌≤◌, max, Bool, true, false, List, [], ◌∷◌, take, arith}
use Rattle.std.specs.Prelude.{◌==◌, ◌&&◌, ◌||◌, not, if◌then◌else◌, nat_lt, filter}
use Rattle.std.proofs.Math.Bool.{and-false}
use Rattle.std.proofs.Math.Nat.{zero-max}
use Rattle.std.proofs.lemmas.Bool.{cases_Bool, eq-eqb, eqb-true, ne_eqb}
use Rattle.std.proofs.lemmas.Bool.Decides.{nat_tests}
use Rattle.card_set.specs.declared.card.Card.{Card}
use Rattle.rulebook.proofs.Passing.{filter-filter}
use Rattle.chip_race.specs.Races.{SingleCard, is_higher, put_in_order, ordered, players_in_order, is_among}
use Rattle.chip_race.proofs.Scores.{strength, own_score, score, is_higher-strength, strength-some, score-put_in_order}
use Rattle.chip_race.proofs.Counts.{count_from, count_from-same, count_from-more, count_from-none}

-- Each card is stronger than all that come after it.
abbrev pub Falling : List SingleCard → Type 0
Falling [] = Unit {0}
Falling (single ∷ singles) = ((player : ℕ) → score singles player < strength single.card) × Falling singles

-- A card has another strength than each of some others.
abbrev pub Apart : Card → List SingleCard → Type 0
Apart card [] = Unit {0}
Apart card (single ∷ singles) = (strength card ≢ strength single.card) × Apart card singles

-- No two cards have the same strength.
abbrev pub AllApart : List SingleCard → Type 0
AllApart [] = Unit {0}
AllApart (single ∷ singles) = Apart single.card singles × AllApart singles

-- Each card's player has a seat at the table.
abbrev pub Seated : List SingleCard → Type 0
Seated [] = Unit {0}
Seated (single ∷ singles) = (single.index < 10) × Seated singles

Apart-put_in_order : (card : Card) (single : SingleCard) (singles : List SingleCard)
    → strength card ≢ strength single.card → Apart card singles → Apart card (put_in_order single singles)
unfolding put_in_order
Apart-put_in_order card single [] differs apart = (differs, tt)
Apart-put_in_order card single (other ∷ others) differs apart =
    elim (cases_Bool (is_higher single.card other.card)) [
      | inl higher ↦ rw higher (differs, apart)
      | inr lower ↦ rw lower (apart.0, Apart-put_in_order card single others differs apart.1)
    ]

-- A card that is apart from others is apart from them in order.
pub Apart-ordered : (card : Card) (singles : List SingleCard) → Apart card singles → Apart card (ordered singles)
unfolding ordered
Apart-ordered card [] apart = tt
Apart-ordered card (single ∷ singles) apart = Apart-put_in_order card single (ordered singles) apart.0
    (Apart-ordered card singles apart.1)

Seated-put_in_order : (single : SingleCard) (singles : List SingleCard) → single.index < 10 → Seated singles
    → Seated (put_in_order single singles)
unfolding put_in_order
Seated-put_in_order single [] here seated = (here, tt)
Seated-put_in_order single (other ∷ others) here seated =
    elim (cases_Bool (is_higher single.card other.card)) [
      | inl higher ↦ rw higher (here, seated)
      | inr lower ↦ rw lower (seated.0, Seated-put_in_order single others here seated.1)
    ]

-- Players who have seats have them in order, too.
pub Seated-ordered : (singles : List SingleCard) → Seated singles → Seated (ordered singles)
unfolding ordered
Seated-ordered [] seated = tt
Seated-ordered (single ∷ singles) seated = Seated-put_in_order single (ordered singles) seated.0
    (Seated-ordered singles seated.1)

own_score-le : (single : SingleCard) (player : ℕ) → own_score single player ≤ strength single.card
own_score-le single player = grind arith

Falling-put_in_order : (single : SingleCard) (singles : List SingleCard) → Apart single.card singles → Falling singles
    → Falling (put_in_order single singles)
unfolding put_in_order
Falling-put_in_order single [] apart falling = ((λ player. strength-some single.card), tt)
Falling-put_in_order single (other ∷ others) apart falling =
    elim (cases_Bool (is_higher single.card other.card)) [
      | inl higher ↦
          let above : strength other.card < strength single.card =
          (let test = sym (is_higher-strength single.card other.card) ∙ higher in
          grind (arith, nat_tests, test)) in
          rw higher ((λ player. omega (arith, falling.0 player, own_score-le other player, above)), falling)
      | inr lower ↦
          let below : strength single.card < strength other.card =
          (let test = sym (is_higher-strength single.card other.card) ∙ lower in let differs = apart.0 in
          grind (arith, nat_tests, test)) in
          rw lower (
            (λ player. rw (score-put_in_order single others player)
                (omega (arith, falling.0 player, own_score-le single player, below))),
            Falling-put_in_order single others apart.1 falling.1,
          )
    ]

-- Cards of which no two have the same strength fall in order.
pub Falling-ordered : (singles : List SingleCard) → AllApart singles → Falling (ordered singles)
unfolding ordered
Falling-ordered [] apart = tt
Falling-ordered (single ∷ singles) apart = Falling-put_in_order single (ordered singles)
    (Apart-ordered single.card singles apart.0) (Falling-ordered singles apart.1)

-- Whether one player's first card comes before another's.
abbrev pub comes_before : List SingleCard → ℕ → ℕ → Bool
comes_before [] one other = false
comes_before (single ∷ singles) one other = not (other == single.index) &&
    (one == single.index || comes_before singles one other)

-- Where cards fall, the player with the stronger best card comes first.
pub comes_before-score : (singles : List SingleCard) → Falling singles → (one other : ℕ)
    → comes_before singles one other ≡ nat_lt (score singles other) (score singles one)
comes_before-score [] falling one other = refl
comes_before-score (single ∷ singles) falling one other =
    let top_one = falling.0 one in
    let top_other = falling.0 other in
    let later = comes_before-score singles falling.1 one other in
    step (other == single.index) (one == single.index) (strength single.card) (score singles one)
    (score singles other) (comes_before singles one other) top_one top_other later
  where
    step : (is_other is_one : Bool) (top one_score other_score : ℕ) (before : Bool) → one_score < top
        → other_score < top → before ≡ nat_lt other_score one_score
        → (not is_other && (is_one || before)) ≡ nat_lt (max (if is_other then top else 0) other_score)
        (max (if is_one then top else 0) one_score)
    step true true top one_score other_score before below_one below_other is = grind (arith, nat_tests)
    step true false top one_score other_score before below_one below_other is = grind (arith, nat_tests)
    step false true top one_score other_score before below_one below_other is = grind (arith, nat_tests)
    step false false top one_score other_score before below_one below_other is = is
        ∙ sym (ap (λ n. nat_lt n (max 0 one_score)) (zero-max other_score) ∙ ap (λ n. nat_lt other_score n)
        (zero-max one_score))

-- The greater of two numbers is not zero where the first is not.
pub max-some : (a b : ℕ) → 1 ≤ a → nat_lt 0 (max a b) ≡ true
max-some a b some = grind (arith, nat_tests)

point-left : (kept is_out before : Bool) → (is_out ≡ true → kept ≡ false) → ((not is_out && kept) && before)
    ≡ (kept && (is_out || before))
point-left kept true before out = rw (out refl) refl
point-left true false before out = refl
point-left false false before out = refl

point-kept : (kept before : Bool) → ((true && kept) && before) ≡ (kept && (false || before))
point-kept true before = refl
point-kept false before = refl

-- A player who is left out changes nothing.
left-out : (player out : ℕ) (keep before : ℕ → Bool) (top rest chips : ℕ) → keep out ≡ false
    → (((not (player == out) && keep player) && nat_lt 0 rest) && nat_lt
    (count_from 0 10 (λ other. (not (other == out) && keep other) && before other)) chips)
    ≡ ((keep player && nat_lt 0 (max (if player == out then top else 0) rest)) && nat_lt
    (count_from 0 10 (λ other. keep other && (not (player == out) && (other == out || before other)))) chips)
left-out player out keep before top rest chips left =
    elim (cases_Bool (player == out)) [
      | inl same ↦ (let none : keep player ≡ false = ap keep (eqb-true player out same) ∙ left in rw (same, none) refl)
      | inr differs ↦
          let counts : count_from 0 10 (λ other. (not (other == out) && keep other) && before other)
          ≡ count_from 0 10 (λ other. keep other && (other == out || before other)) =
          count_from-same 0 10 (λ other. (not (other == out) && keep other) && before other)
          (λ other. keep other && (other == out || before other))
          (λ other low high. point-left (keep other) (other == out) (before other)
          (λ is. ap keep (eqb-true other out is) ∙ left)) in
          let none : max 0 rest ≡ rest = zero-max rest in
          rw (differs, counts, none) refl
    ]

-- A player who is first takes one place.
first-in : (player first : ℕ) (keep before : ℕ → Bool) (top rest chips : ℕ) → keep first ≡ true → 1 ≤ top → first < 10
    → ((player == first) || (((not (player == first) && keep player) && nat_lt 0 rest) && nat_lt
    (count_from 0 10 (λ other. (not (other == first) && keep other) && before other)) chips))
    ≡ ((keep player && nat_lt 0 (max (if player == first then top else 0) rest)) && nat_lt
    (count_from 0 10 (λ other. keep other && (not (player == first) && (other == first || before other))))
    (suc chips))
first-in player first keep before top rest chips kept some seated =
    elim (cases_Bool (player == first)) [
      | inl same ↦
          let own : keep player ≡ true = ap keep (eqb-true player first same) ∙ kept in
          let none : count_from 0 10 (λ other. keep other && false) ≡ 0 =
          count_from-none 0 10 (λ other. keep other && false) (λ other. and-false (keep other)) in
          let wins : nat_lt 0 (max top rest) ≡ true = max-some top rest some in
          rw (same, own, none, wins) (zero-less chips)
      | inr differs ↦
          let counts : count_from 0 10 (λ other. keep other && (other == first || before other))
          ≡ suc (count_from 0 10 (λ other. (not (other == first) && keep other) && before other)) =
          count_from-more 0 10 first (λ other. keep other && (other == first || before other))
          (λ other. (not (other == first) && keep other) && before other) (omega arith) (omega arith)
          (let own : (first == first) ≡ true = eq-eqb first first refl in rw (kept, own) refl)
          (let own : (first == first) ≡ true = eq-eqb first first refl in rw own refl)
          (λ other apart. let test : (other == first) ≡ false = ne_eqb other first apart in
          rw test (sym (point-kept (keep other) (before other)))) in
          let none : max 0 rest ≡ rest = zero-max rest in
          rw (differs, counts, none) (one-less (keep player) (nat_lt 0 rest) _ chips)
    ]
  where
    zero-less : (n : ℕ) → true ≡ nat_lt 0 (suc n)
    zero-less n = grind (arith, nat_tests)

    same-less : (m n : ℕ) → nat_lt m n ≡ nat_lt (suc m) (suc n)
    same-less m n = grind (arith, nat_tests)

    one-less : (b d : Bool) (m n : ℕ) → (((true && b) && d) && nat_lt m n) ≡ ((b && d) && nat_lt (suc m) (suc n))
    one-less true true m n = same-less m n
    one-less true false m n = refl
    one-less false d m n = refl

none-among : (chips player : ℕ) → is_among (take chips []) player ≡ false
none-among zero player = refl
none-among (suc chips) player = refl

and-false-left : (kept : Bool) (rest : Bool) → ((kept && false) && rest) ≡ false
and-false-left true rest = refl
and-false-left false rest = refl

no-chips : (test : Bool) (n : ℕ) → (test && nat_lt n 0) ≡ false
no-chips true n = grind (arith, nat_tests)
no-chips false n = refl

-- Of the players who are kept, one is among the first so many where he has a card and fewer of them come before him.
pub among-first : (singles : List SingleCard) (keep : ℕ → Bool) (chips player : ℕ) → Seated singles
    → is_among (take chips (filter keep (players_in_order singles))) player
    ≡ ((keep player && nat_lt 0 (score singles player)) && nat_lt
    (count_from 0 10 (λ other. keep other && comes_before singles other player)) chips)
unfolding players_in_order
among-first [] keep chips player seated = none-among chips player ∙ sym (and-false-left (keep player) _)
among-first (single ∷ singles) keep chips player seated =
    elim (cases_Bool (keep single.index)) [
      | inl kept ↦ rw kept (with_first chips kept
          (λ n. among-first singles (λ other. not (other == single.index) && keep other) n player seated.1))
      | inr left ↦ rw left
          (ap (λ players. is_among (take chips players) player)
          (filter-filter (λ other. not (other == single.index)) keep (players_in_order singles))
          ∙ among-first singles (λ other. not (other == single.index) && keep other) chips player seated.1
          ∙ left-out player single.index keep (λ other. comes_before singles other player) (strength single.card)
          (score singles player) chips left)
    ]
  where
    with_first : (n : ℕ) → keep single.index ≡ true
        → ((m : ℕ) → is_among
        (take m (filter (λ other. not (other == single.index) && keep other) (players_in_order singles))) player
        ≡ (((not (player == single.index) && keep player) && nat_lt 0 (score singles player)) && nat_lt
        (count_from 0 10 (λ other. (not (other == single.index) && keep other)
        && comes_before singles other player)) m))
        → is_among (take n (single.index ∷ filter keep
        (filter (λ other. not (other == single.index)) (players_in_order singles)))) player
        ≡ ((keep player && nat_lt 0 (score (single ∷ singles) player)) && nat_lt
        (count_from 0 10 (λ other. keep other && comes_before (single ∷ singles) other player)) n)
    with_first zero kept later =
        sym (no-chips (keep player && nat_lt 0 (score (single ∷ singles) player))
        (count_from 0 10 (λ other. keep other && comes_before (single ∷ singles) other player)))
    with_first (suc n) kept later =
        ap (λ players. (player == single.index) || is_among (take n players) player)
        (filter-filter (λ other. not (other == single.index)) keep (players_in_order singles))
        ∙ ap (λ test. (player == single.index) || test) (later n)
        ∙ first-in player single.index keep (λ other. comes_before singles other player) (strength single.card)
        (score singles player) n kept (strength-some single.card) seated.0
