-- Players in the order of their places: who ties stands next to one another.
use Rattle.std.proofs.Common.{◌≡◌, ◌∙◌, refl, ap, sym, ℕ, zero, suc, ◌+◌, ◌-◌, ◌<◌, ◌≤◌, min, max, ◌⊎◌, inl, inr, true, false, List, [], ◌∷◌, length, drop, get_or, arith}
use Rattle.std.specs.Prelude.{count_by, ◌==◌, ◌&&◌, ◌||◌, nat_lt, nat_le}
use Rattle.std.proofs.lemmas.Bool.{cases_Bool, cases_lt, cases_order}
use Rattle.std.proofs.lemmas.Bool.Decides.{nat_tests}
use Rattle.std.proofs.lemmas.List.Sums.{take_while-cons}
use Rattle.std.proofs.lemmas.List.{get_or-drop, length-drop, get_or_default}
use Rattle.place_list.specs.declared.bust.Bust.{Bust}
use Rattle.place_list.specs.declared.tie.Tie.{Tie}
use Rattle.place_list.specs.Places.{is_ahead, ties, tied, tied_before}
use Rattle.place_list.specs.Orders.{is_placed_before, Placed}
use Rattle.place_list.specs.Ties.{IsTie, IsTieAt, IsTieBefore}
use Rattle.place_list.specs.TiedAtHead.{tied_at_head}
use Rattle.place_list.proofs.Counts.{count_by-same, count_by-range}
use Rattle.place_list.proofs.Ranks.{is_ahead-ties, ties-ties, ties_self}

-- All who stand before an index are ahead of the one at it.
pub record Opens (busts : List Bust) (index : ℕ) : Type 0 where
  pub ahead : (k : ℕ) (d : Bust) → k < index → is_ahead (get_or busts k d) (get_or busts index d) ≡ true

ahead_chain : (g s h t k u : ℕ) → (nat_lt h g || (g == h && nat_lt t s)) ≡ true
    → (nat_lt k h || (h == k && nat_lt u t)) ≡ true → (nat_lt k g || (g == k && nat_lt u s)) ≡ true
ahead_chain g s h t k u first second = grind (arith, nat_tests)

tie_ahead : (g s h t k u : ℕ) → (g == h && s == t) ≡ true → (nat_lt k h || (h == k && nat_lt u t)) ≡ true
    → (nat_lt k g || (g == k && nat_lt u s)) ≡ true
tie_ahead g s h t k u first second = grind (arith, nat_tests)

ahead_placed : (g s h t k u q r : ℕ) → (nat_lt h g || (g == h && nat_lt t s)) ≡ true
    → ((nat_lt k h || (h == k && nat_lt u t)) || ((h == k && t == u) && nat_lt q r)) ≡ true
    → (nat_lt k g || (g == k && nat_lt u s)) ≡ true
ahead_placed g s h t k u q r first second = grind (arith, nat_tests)

placed_apart : (g s h t p q : ℕ) → ((nat_lt h g || (g == h && nat_lt t s)) || ((g == h && s == t) && nat_lt p q))
    ≡ true → (h == g && t == s) ≡ false → (nat_lt h g || (g == h && nat_lt t s)) ≡ true
placed_apart g s h t p q before apart = grind (arith, nat_tests)

ahead-not_tie : (g s h t : ℕ) → (nat_lt h g || (g == h && nat_lt t s)) ≡ true → (g == h && s == t) ≡ false
ahead-not_tie g s h t ahead = grind (arith, nat_tests)

ahead-not_tie_back : (g s h t : ℕ) → (nat_lt h g || (g == h && nat_lt t s)) ≡ true → (h == g && t == s) ≡ false
ahead-not_tie_back g s h t ahead = grind (arith, nat_tests)

ahead-not_behind : (g s h t : ℕ) → (nat_lt h g || (g == h && nat_lt t s)) ≡ true
    → (nat_lt g h || (h == g && nat_lt s t)) ≡ false
ahead-not_behind g s h t ahead = grind (arith, nat_tests)

tie-not_ahead : (g s h t : ℕ) → (g == h && s == t) ≡ true → (nat_lt h g || (g == h && nat_lt t s)) ≡ false
tie-not_ahead g s h t tie = grind (arith, nat_tests)

tie_placed : (g s p h t q : ℕ) → ((nat_lt h g || (g == h && nat_lt t s)) || ((g == h && s == t) && nat_lt p q)) ≡ true
    → (g == h && s == t) ≡ true → nat_lt p q ≡ true
tie_placed g s p h t q before tie = grind (arith, nat_tests)

tie_placed_back : (g s p h t q : ℕ) → ((nat_lt h g || (g == h && nat_lt t s)) || ((g == h && s == t) && nat_lt p q))
    ≡ true → (h == g && t == s) ≡ true → nat_lt q p ≡ false
tie_placed_back g s p h t q before tie = grind (arith, nat_tests)

not_self : (p : ℕ) → nat_lt p p ≡ false
not_self p = grind (arith, nat_tests)

-- Who is ahead of one who is ahead is ahead.
ahead-chain : (a b c : Bust) → is_ahead a b ≡ true → is_ahead b c ≡ true → is_ahead a c ≡ true
ahead-chain a b c first second = ahead_chain a.group a.stack b.group b.stack c.group c.stack first second

tie-ahead : (a b c : Bust) → ties a b ≡ true → is_ahead b c ≡ true → is_ahead a c ≡ true
tie-ahead a b c first second = tie_ahead a.group a.stack b.group b.stack c.group c.stack first second

ahead-placed : (a b c : Bust) → is_ahead a b ≡ true → is_placed_before b c ≡ true → is_ahead a c ≡ true
ahead-placed a b c first second = ahead_placed a.group a.stack b.group b.stack c.group c.stack b.player c.player first
    second

placed-apart : (a b : Bust) → is_placed_before a b ≡ true → ties b a ≡ false → is_ahead a b ≡ true
placed-apart a b before apart = placed_apart a.group a.stack b.group b.stack a.player b.player before apart

-- Where a tie ends, all before are ahead.
pub tie-opens : (busts : List Bust) (first players : ℕ) → IsTie busts first players → first + players < length busts
    → Opens busts (first + players)
tie-opens busts first players tie more = record {
  ahead = λ k d before. elim (cases_lt k first) [
    | inl less ↦ ahead-chain (get_or busts k d) (get_or busts first d) (get_or busts (first + players) d)
        (tie.ahead k d less) (tie.behind (first + players) d (omega arith) more)
    | inr level ↦ tie-ahead (get_or busts k d) (get_or busts first d) (get_or busts (first + players) d)
        (tie.level k d level before) (tie.behind (first + players) d (omega arith) more)
  ];
}

-- The head of a list that ties with a player.
record Head (bust : Bust) (busts : List Bust) (players : ℕ) : Type 0 where
  within : players ≤ length busts
  level : (k : ℕ) (d : Bust) → k < players → ties (get_or busts k d) bust ≡ true
  end : (d : Bust) → players < length busts → ties (get_or busts players d) bust ≡ false

tied-head : (bust : Bust) (busts : List Bust) → Head bust busts (tied_at_head bust busts)
tied-head bust [] = record {
  within = omega arith;
  level = λ k d within. absurd (omega arith);
  end =
      λ d within. absurd (omega arith);
}
tied-head bust (other ∷ others) =
    elim (cases_Bool (ties other bust)) [
      | inl tie ↦ (let is : tied_at_head bust (other ∷ others) ≡ suc (tied_at_head bust others) =
          ap length (take_while-cons (λ one. ties one bust) other others) ∙ rw tie refl in
          rw is (more tie (tied-head bust others)))
      | inr apart ↦ (let is : tied_at_head bust (other ∷ others) ≡ 0 =
          ap length (take_while-cons (λ one. ties one bust) other others) ∙ rw apart refl in
          rw is (record {
            within = omega arith;
            level = λ k d within. absurd (omega arith);
            end =
                λ d within. apart;
          }))
    ]
  where
    level_at : ties other bust ≡ true → Head bust others (tied_at_head bust others) → (k : ℕ) (d : Bust)
        → k < suc (tied_at_head bust others) → ties (get_or (other ∷ others) k d) bust ≡ true
    level_at tie head zero d within = tie
    level_at tie head (suc k) d within = head.level k d (omega arith)

    more : ties other bust ≡ true → Head bust others (tied_at_head bust others) → Head bust (other ∷ others)
        (suc (tied_at_head bust others))
    more tie head = record {
      within = omega (arith, head.within);
      level = λ k d within. level_at tie head k d within;
      end = λ d within. head.end d (omega arith);
    }

from-head : (busts : List Bust) (first players : ℕ) (bust : Bust) → Placed busts → first < length busts
    → Opens busts first
    → ((d : Bust) → get_or busts first d ≡ bust) → Head bust (drop first busts) players → IsTie busts first players
from-head busts first players bust placed within opens is head = record {
  some = some_at;
  within = omega (arith, size, head.within);
  ahead = opens.ahead;
  level = λ k d low high.
      let there : get_or (drop first busts) (k - first) d ≡ get_or busts k d = dropped (k - first) d
      ∙ ap (λ n. get_or busts n d) (omega arith) in
      rw (is d) (sym (ap (λ one. ties one bust) there) ∙ head.level (k - first) d (omega arith));
  behind = λ k d low high.
      let apart : ties (get_or busts (first + players) d) bust ≡ false =
      sym (ap (λ one. ties one bust) (dropped players d)) ∙ head.end d (omega (arith, size)) in
      behind_at k d apart low high;
}
  where
    size : length (drop first busts) ≡ length busts - first
    size = length-drop first busts

    dropped : (k : ℕ) (d : Bust) → get_or (drop first busts) k d ≡ get_or busts (first + k) d
    dropped k d = get_or-drop first busts k d

    some_at : 1 ≤ players
    some_at = elim (cases_lt 0 players) [
      | inl some ↦ omega (arith, some)
      | inr none ↦
          let apart : ties (get_or (drop first busts) players bust) bust ≡ false =
          head.end bust (omega (arith, size)) in
          let own : ties (get_or (drop first busts) players bust) bust ≡ true =
          ap (λ one. ties one bust) (dropped players bust ∙ ap (λ k. get_or busts k bust) (omega arith)
          ∙ is bust) ∙ ties_self bust.group bust.stack in
          absurd (cc (apart, own))
    ]

    which : (a b : ℕ) → a ≤ b → (b ≡ a) ⊎ (a < b)
    which a b le = grind arith

    behind_at : (k : ℕ) (d : Bust) → ties (get_or busts (first + players) d) bust ≡ false → first + players ≤ k
        → k < length busts → is_ahead (get_or busts first d) (get_or busts k d) ≡ true
    behind_at k d apart low high =
        let before = placed.before first (first + players) d (omega (arith, some_at)) (omega arith) in
        let next : is_ahead (get_or busts first d) (get_or busts (first + players) d) ≡ true =
        placed-apart (get_or busts first d) (get_or busts (first + players) d) before (rw (is d) apart) in
        elim (which (first + players) k low) [
          | inl here ↦ rw here next
          | inr later ↦ ahead-placed (get_or busts first d) (get_or busts (first + players) d) (get_or busts k d) next
              (placed.before (first + players) k d later high)
        ]

-- The players from an index on who tie with the one at it, where all before it are ahead.
pub tie-from : (busts : List Bust) (first players : ℕ) → Placed busts → first < length busts → Opens busts first
    → ((d : Bust) → players ≡ tied_at_head (get_or busts first d) (drop first busts)) → IsTie busts first players
tie-from busts first players placed within opens count =
    from-head busts first players (get_or busts first none) placed within opens
    (λ d. get_or_default busts first d none within)
    (rw (count none) (tied-head (get_or busts first none) (drop first busts)))
  where
    none : Bust
    none = record { player = 0; stack = 0; group = 0 }

-- What the players of a tie have in common.
pub record Stands (busts : List Bust) (first players index : ℕ) (bust : Bust) : Type 0 where
  pub ahead : count_by (λ other. is_ahead other bust) busts ≡ first
  pub tied : tied busts bust ≡ players
  pub before : tied_before busts bust ≡ index - first

count-first : (first n : ℕ) → first ≤ n → min first (0 + n) - max 0 0 ≡ first
count-first first n within = omega arith

count-tie : (first players n : ℕ) → first + players ≤ n → min (first + players) (0 + n) - max first 0 ≡ players
count-tie first players n within = omega arith

count-before : (first index n : ℕ) → first ≤ index → index ≤ n → min index (0 + n) - max first 0 ≡ index - first
count-before first index n low within = omega arith

in_range : (from to k : ℕ) → from ≤ k → k < to → true ≡ (nat_le from k && nat_lt k to)
in_range from to k low high = grind (arith, nat_tests)

below_range : (from to k : ℕ) → k < from → false ≡ (nat_le from k && nat_lt k to)
below_range from to k low = grind (arith, nat_tests)

above_range : (from to k : ℕ) → to ≤ k → false ≡ (nat_le from k && nat_lt k to)
above_range from to k high = grind (arith, nat_tests)

three : (first players k : ℕ) → (k < first) ⊎ (((first ≤ k) × (k < first + players)) ⊎ (first + players ≤ k))
three first players k = grind arith

-- A player of a tie: so many are ahead as stand before the tie, and so many tie and entered before him as stand
-- before him in it.
pub tie-stands : (busts : List Bust) (first players index : ℕ) (d : Bust) → Placed busts → IsTie busts first players
    → first ≤ index → index < first + players → Stands busts first players index (get_or busts index d)
tie-stands busts first players index d placed tie low high = record {
  ahead =
      count_by-same (λ other. is_ahead other own) (λ other. is_ahead other head) busts
      (λ other. is_ahead-ties other own head same)
      ∙ count_by-range (λ other. is_ahead other head) busts 0 first 0 d (λ k within. ahead_at k within)
      ∙ count-first first (length busts) (omega (arith, tie.within));
  tied =
      count_by-same (λ other. ties other own) (λ other. ties other head) busts (λ other. ties-ties other own head same)
      ∙ count_by-range (λ other. ties other head) busts first (first + players) 0 d (λ k within. tie_at k within)
      ∙ count-tie first players (length busts) tie.within;
  before =
      count_by-range (λ other. ties other own && nat_lt other.player own.player) busts first index 0 d
      (λ k within. before_at k within)
      ∙ count-before first index (length busts) low (omega (arith, tie.within));
}
  where
    own : Bust
    own = get_or busts index d

    head : Bust
    head = get_or busts first d

    same : ties (get_or busts index d) (get_or busts first d) ≡ true
    same = tie.level index d low high

    ahead_at : (k : ℕ) → k < length busts → is_ahead (get_or busts k d) (get_or busts first d)
        ≡ (nat_le 0 (0 + k) && nat_lt (0 + k) first)
    ahead_at k within = elim (three first players k) [
      | inl less ↦ tie.ahead k d less ∙ in_range 0 first (0 + k) (omega arith) (omega arith)
      | inr rest ↦ elim rest [
        | inl level ↦ tie-not_ahead (get_or busts k d).group (get_or busts k d).stack (get_or busts first d).group
            (get_or busts first d).stack (tie.level k d level.0 level.1) ∙ above_range 0 first (0 + k)
            (omega arith)
        | inr behind ↦ ahead-not_behind (get_or busts first d).group (get_or busts first d).stack
            (get_or busts k d).group (get_or busts k d).stack (tie.behind k d behind within)
            ∙ above_range 0 first (0 + k) (omega arith)
      ]
    ]

    tie_at : (k : ℕ) → k < length busts → ties (get_or busts k d) (get_or busts first d)
        ≡ (nat_le first (0 + k) && nat_lt (0 + k) (first + players))
    tie_at k within = elim (three first players k) [
      | inl less ↦ ahead-not_tie (get_or busts k d).group (get_or busts k d).stack (get_or busts first d).group
          (get_or busts first d).stack (tie.ahead k d less) ∙ below_range first (first + players) (0 + k)
          (omega arith)
      | inr rest ↦ elim rest [
        | inl level ↦ tie.level k d level.0 level.1 ∙ in_range first (first + players) (0 + k) (omega arith)
            (omega arith)
        | inr behind ↦ ahead-not_tie_back (get_or busts first d).group (get_or busts first d).stack
            (get_or busts k d).group (get_or busts k d).stack (tie.behind k d behind within)
            ∙ above_range first (first + players) (0 + k) (omega arith)
      ]
    ]

    in_tie : (k : ℕ) → first ≤ k → k < first + players → k < length busts → nat_lt (get_or busts k d).player
        (get_or busts index d).player ≡ (nat_le first (0 + k) && nat_lt (0 + k) index)
    in_tie k from to within =
        let level : ties (get_or busts k d) (get_or busts index d) ≡ true = ties-ties (get_or busts k d) own head same
        ∙ tie.level k d from to in
        elim (cases_order k index) [
          | inl equal ↦ ap (λ n. nat_lt (get_or busts n d).player (get_or busts index d).player) equal
              ∙ not_self (get_or busts index d).player ∙ above_range first index (0 + k) (omega arith)
          | inr rest ↦ elim rest [
            | inl less ↦ tie_placed (get_or busts k d).group (get_or busts k d).stack (get_or busts k d).player
                (get_or busts index d).group (get_or busts index d).stack (get_or busts index d).player
                (placed.before k index d less (omega (arith, tie.within))) level ∙ in_range first index (0 + k)
                (omega arith) (omega arith)
            | inr more ↦ tie_placed_back (get_or busts index d).group (get_or busts index d).stack
                (get_or busts index d).player (get_or busts k d).group (get_or busts k d).stack
                (get_or busts k d).player
                (placed.before index k d more within) level ∙ above_range first index (0 + k) (omega arith)
          ]
        ]

    before_at : (k : ℕ) → k < length busts
        → (ties (get_or busts k d) (get_or busts index d) && nat_lt (get_or busts k d).player
        (get_or busts index d).player) ≡ (nat_le first (0 + k) && nat_lt (0 + k) index)
    before_at k within =
        ap (λ test. test && nat_lt (get_or busts k d).player (get_or busts index d).player)
        (ties-ties (get_or busts k d) own head same)
        ∙ elim (three first players k) [
          | inl less ↦ ap (λ test. test && nat_lt (get_or busts k d).player (get_or busts index d).player)
              (ahead-not_tie (get_or busts k d).group (get_or busts k d).stack (get_or busts first d).group
              (get_or busts first d).stack (tie.ahead k d less))
              ∙ below_range first index (0 + k) (omega arith)
          | inr rest ↦ elim rest [
            | inl level ↦ ap (λ test. test && nat_lt (get_or busts k d).player (get_or busts index d).player)
                (tie.level k d level.0 level.1) ∙ in_tie k level.0 level.1 within
            | inr behind ↦ ap (λ test. test && nat_lt (get_or busts k d).player (get_or busts index d).player)
                (ahead-not_tie_back (get_or busts first d).group (get_or busts first d).stack
                (get_or busts k d).group (get_or busts k d).stack (tie.behind k d behind within))
                ∙ above_range first index (0 + k) (omega arith)
          ]
        ]

-- A tie ends within the list.
pub tie_before-end : (busts : List Bust) (tie : Tie) (index : ℕ) → IsTieBefore busts tie index
    → tie.first + tie.players ≤ length busts
tie_before-end busts tie zero before = (let none = before.start refl in omega (arith, none))
tie_before-end busts tie (suc index) before = (before.last index refl).tie_is.within

-- Behind a tie the next begins.
pub next-begins : (busts : List Bust) (tie next : Tie) (index : ℕ) → Placed busts → index < length busts
    → IsTieBefore busts tie index → index ≡ tie.first + tie.players
    → next.first ≡ index → ((d : Bust) → next.players ≡ tied_at_head (get_or busts index d) (drop index busts))
    → IsTieAt busts next index
next-begins busts tie next index placed within before ends first players =
    at (tie-from busts index next.players placed within (opens index before ends within) players)
  where
    opens : (k : ℕ) → IsTieBefore busts tie k → k ≡ tie.first + tie.players → k < length busts → Opens busts k
    opens zero before ends within = record { ahead = λ k d less. absurd (omega arith) }
    opens (suc k) before ends within =
        rw ends (tie-opens busts tie.first tie.players (before.last k refl).tie_is (omega (arith, ends)))

    at : IsTie busts index next.players → IsTieAt busts next index
    at tie_is = record {
      tie_is = rw first tie_is;
      low = omega (arith, first);
      high = omega (arith, first, tie_is.some);
    }

-- Within a tie it goes on.
pub tie-goes_on : (busts : List Bust) (tie : Tie) (index : ℕ) → IsTieBefore busts tie index
    → (index ≡ tie.first + tie.players → ⊥) → IsTieAt busts tie index
tie-goes_on busts tie zero before goes_on = absurd (goes_on (sym (before.start refl)))
tie-goes_on busts tie (suc index) before goes_on =
    let last = before.last index refl in
    record { tie_is = last.tie_is; low = omega (arith, last.low); high = not_end (last.high) }
  where
    not_end : index < tie.first + tie.players → suc index < tie.first + tie.players
    not_end less = omega (arith, less, goes_on)

-- The tie of a player is the one before the next.
pub tie-before_next : (busts : List Bust) (tie : Tie) (index : ℕ) → IsTieAt busts tie index
    → IsTieBefore busts tie (index + 1)
tie-before_next busts tie index at = record {
  start = λ none. absurd (omega arith);
  last = λ before same. same_index before (omega arith);
}
  where
    same_index : (before : ℕ) → before ≡ index → IsTieAt busts tie before
    same_index before same = rw same at
