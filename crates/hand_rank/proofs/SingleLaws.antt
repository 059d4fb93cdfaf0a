-- Hands of five distinct ranks, and the best flush.
use Rattle.std.proofs.Common.{◌≡◌, ℕ, ◌+◌, ◌-◌, ◌<◌, ◌≤◌, inl, inr, Bool, true, false, eqb, leb, cond, List, [], ◌∷◌, ◌++◌, length, Some, None, refl, sym, ap, ap₂, ◌∙◌, subst, zero-le, eqb-true, leb-true, le-leb, lit≤, length-append, arith}
use Rattle.std.specs.Prelude.{Option, count_by, filter}
use Rattle.std.specs.List.{list_all}
use Rattle.std.proofs.lemmas.Bool.{and_from, and_parts}
use Rattle.std.proofs.lemmas.Bool.Decides.{nat_tests}
use Rattle.std.proofs.lemmas.List.Folds.{list_all-append}
use Rattle.card_set.specs.declared.card.Card.{Card}
use Rattle.card_choices.proofs.ListOrder.{Upto, upto_itself}
use Rattle.rulebook.proofs.Found.{some-found}
use Rattle.rulebook.proofs.Tests.{count_by-cons}
use Rattle.hand_rank.specs.declared.held.Held.{Held}
use Rattle.hand_rank.specs.declared.rank_set.RankSet.{RankSet}
use Rattle.hand_rank.specs.Held.{hands, count_of_some_suit, AreSuited, IsHeld, IsBestIn}
use Rattle.hand_rank.specs.Cards.{count_of_suit, AreOnce}
use Rattle.hand_rank.specs.Sets.{has_rank, falling, ranks_of, HasRanks}
use Rattle.hand_rank.specs.Shapes.{repeated}
use Rattle.hand_rank.specs.SoMany.{AreSoMany, IsGreatestWith}
use Rattle.hand_rank.specs.Values.{count_of_rank, distinct_ranks, run_top, are_of_one_suit, value_of_distinct, five_card_value}
use Rattle.hand_rank.proofs.CardCounts.{total-cards, suit-joined, suited-rank, all-suited, one_suit-all, all-one_suit}
use Rattle.hand_rank.proofs.Chosen.{IsChoice, count-choice, choice-filter}
use Rattle.hand_rank.proofs.FiveLaws.{exactly, ones, are-ones}
use Rattle.hand_rank.proofs.HandLaws.{IsHandOf, is-hand, IsReached, total-least, upto-of, no-best, some-best}
use Rattle.hand_rank.proofs.PartLaws.{count-joined}
use Rattle.hand_rank.proofs.Sections.{falling-none, falling-empty}
use Rattle.hand_rank.proofs.ShapeLaws.{of-number, rank-within, shows}
use Rattle.hand_rank.proofs.ShapedLaws.{total-passing, shaped-reached, high-none, within-15, exactly-16}
use Rattle.hand_rank.proofs.ShownValues.{often_of, AreShown, head, tail, shown-value}
use Rattle.hand_rank.proofs.SoManyLaws.{either_way}

-- once each rank that passes a test
abbrev pub single_count : (ℕ → Bool) → ℕ → ℕ
single_count p r = cond (leb 15 r) 0 (cond (p r) 1 0)

-- a rank that passes is counted once
pub single-is : (p : ℕ → Bool) (r : ℕ) → r < 15 → p r ≡ true → single_count p r ≡ 1
single-is p r below is = let low : leb 15 r ≡ false = grind (arith, nat_tests) in rw (low, is) refl

-- five ranks with the hole cards among them
pub record AreFive (hole : List Card) (p : ℕ → Bool) : Type 0 where
  pub many : length (falling p 15) ≡ 5
  pub apart : (r : ℕ) → count_of_rank hole r ≤ 1
  pub among : (r : ℕ) → r < 15 → 1 ≤ count_of_rank hole r → p r ≡ true

-- no rank
abbrev no_rank : ℕ → Bool
no_rank r = false

none-listed : falling no_rank 15 ≡ []
none-listed = falling-empty no_rank 15 (λ r within. refl)

-- some cards make them
pub singles-reached : (hole board : List Card) (p : ℕ → Bool) → length hole ≤ 2 → 5 ≤ length hole + length board
    → AreFive hole p → ((r : ℕ) → r < 15 → p r ≡ true → 1 ≤ count_of_rank (hole ++ board) r)
    → IsReached hole board (single_count p)
singles-reached hole board p few enough are there =
    shaped-reached hole board no_rank p 2 1 few enough (lit≤ tt)
    (let none = ap length none-listed in let many = are.many in omega (arith, none, many))
    (record {
      first = λ r within is. absurd cc;
      second = there;
      apart = λ r within is. absurd cc;
      few = λ r is_not. are.apart r;
      among = λ r within is_not some. are.among r within some;
    })

-- some cards of a suit make them
pub record IsSuited (hole board : List Card) (suit : ℕ) (p : ℕ → Bool) : Type 0 where
  pub others : List Card
  pub choice : IsChoice others board
  pub count : length others ≡ 5 - length hole
  pub counts : (r : ℕ) → count_of_rank (hole ++ others) r ≡ single_count p r
  pub one : are_of_one_suit (hole ++ others) ≡ true

-- where the hole cards and enough of the board have the suit
pub suited-reached : (hole board : List Card) (suit : ℕ) (p : ℕ → Bool) → length hole ≤ 2
    → list_all (λ (card : Card). eqb card.suit suit) hole ≡ true → AreFive hole p
    → ((r : ℕ) → r < 15 → p r ≡ true → 1 ≤ count_of_suit (hole ++ board) suit r)
    → IsSuited hole board suit p
suited-reached hole board suit p few of_suit are there =
    let suited = filter (λ (card : Card). eqb card.suit suit) board in
    let enough : (r : ℕ) → r < 15 → p r ≡ true → 1 ≤ count_of_rank (hole ++ suited) r = λ r below is.
    let some = there r below is in
    let split = suit-joined hole board suit r in
    let held = all-suited suit hole r of_suit in
    let laid = suited-rank suit board r in
    let sum = count-joined hole suited r in
    omega (arith, some, split, held, laid, sum) in
    let passing = total-passing p 15 in
    let many = are.many in
    let fewer = total-least (λ r. cond (p r) 1 0) (count_of_rank (hole ++ suited)) 15
    (λ r below. each r below enough) in
    let cards = total-cards (hole ++ suited) in
    let long = length-append hole suited in
    let reached = singles-reached hole suited p few (omega (arith, passing, many, fewer, cards, long)) are
    enough in
    let chosen = choice-filter (λ (card : Card). eqb card.suit suit) reached.others board reached.choice in
    record {
      others = reached.others;
      choice = chosen.0;
      count = reached.count;
      counts = reached.counts;
      one = all-one_suit suit (hole ++ reached.others)
          (list_all-append (λ (card : Card). eqb card.suit suit) hole reached.others
          ∙ and_from (list_all (λ (card : Card). eqb card.suit suit) hole)
          (list_all (λ (card : Card). eqb card.suit suit) reached.others) of_suit chosen.1);
    }
  where
    each : (r : ℕ) → r < 15
        → ((r : ℕ) → r < 15 → p r ≡ true
        → 1 ≤ count_of_rank (hole ++ filter (λ (card : Card). eqb card.suit suit) board) r)
        → cond (p r) 1 0 ≤ count_of_rank (hole ++ filter (λ (card : Card). eqb card.suit suit) board) r
    each r below enough = elim (p r) as (λ b. p r ≡ b
        → cond b 1 0 ≤ count_of_rank (hole ++ filter (λ (card : Card). eqb card.suit suit) board) r) [
          | true ↦ λ is. enough r below is
          | false ↦ λ is_not. zero-le
        ] refl

-- five cards of which each rank occurs once
pub record AreSingle (five : List Card) (p : ℕ → Bool) : Type 0 where
  pub shown : AreShown five
  pub often : often_of five ≡ ones
  pub up : Upto (falling p 15) (distinct_ranks five)

-- five cards that have each of five ranks once
pub are-single : (five : List Card) (p : ℕ → Bool) → AreShown five → length (falling p 15) ≡ 5
    → ((r : ℕ) → count_of_rank five r ≡ single_count p r) → AreSingle five p
are-single five p shown many counts =
    let are = shows five no_rank p 2 1 (lit≤ tt) (lit≤ tt) (lit≤ tt) (λ r within is. absurd cc) counts in
    record {
      shown = shown;
      often = are.often ∙ ap₂ (λ x y. repeated x 2 ++ repeated y 1) (ap length none-listed) many;
      up = subst (λ ranks. Upto (falling p 15) ranks)
          (sym (are.distinct ∙ ap (λ ranks. ranks ++ falling p 15) none-listed)) (upto_itself (falling p 15));
    }

-- the value of five distinct ranks
pub single-value : (five : List Card) → often_of five ≡ ones
    → value_of_distinct (run_top (distinct_ranks five)) (are_of_one_suit five) (distinct_ranks five)
    ≡ five_card_value five
single-value five often = shown-value five ones often

-- a category of five distinct ranks
pub record IsSingle (five : List Card) (number : ℕ) (ranks : List ℕ) : Type 0 where
  pub often : often_of five ≡ ones
  pub once : (r : ℕ) → count_of_rank five r ≤ 1
  pub value : value_of_distinct (run_top (distinct_ranks five)) (are_of_one_suit five) (distinct_ranks five)
      ≡ number ∷ ranks
  pub distinct : distinct_ranks five ≡ exactly five 1
  pub many : length (exactly five 1) ≡ 5

-- a hand whose ranks all occur once
pub is-single : (five : List Card) (number : ℕ) (ranks : List ℕ) → AreShown five → often_of five ≡ ones
    → five_card_value five ≡ number ∷ ranks → IsSingle five number ranks
is-single five number ranks shown often is =
    let are = are-ones five often in
    record {
      often = often;
      once = λ r.
          let few = shown.few r in
          elim (leb 2 (count_of_rank five r)) as (λ b. leb 2 (count_of_rank five r) ≡ b → count_of_rank five r ≤ 1) [
            | false ↦ λ less. grind (arith, nat_tests)
            | true ↦ λ more.
                let least = leb-true 2 (count_of_rank five r) more in
                let within = rank-within five r (omega arith) in
                let not4 = falling-none (λ s. eqb (count_of_rank five s) 4) 15 r are.four within in
                let not3 = falling-none (λ s. eqb (count_of_rank five s) 3) 15 r are.three within in
                let not2 = falling-none (λ s. eqb (count_of_rank five s) 2) 15 r are.two within in
                absurd (too_many (count_of_rank five r) least few not4 not3 not2)
          ] refl;
      value = single-value five often ∙ is;
      distinct = are.distinct;
      many = are.many;
    }
  where
    too_many : (n : ℕ) → 2 ≤ n → n ≤ 4 → eqb n 4 ≡ false → eqb n 3 ≡ false → eqb n 2 ≡ false → ⊥
    too_many n least few a b c = grind (arith, nat_tests)

-- what the value of five distinct ranks tells
pub record Tells (top : Option ℕ) (one : Bool) (all ranks : List ℕ) (number : ℕ) : Type 0 where
  pub flush : number ≡ 5 → (one ≡ true) × (ranks ≡ all)
  pub straight : number ≡ 4 → (run : ℕ) × (top ≡ Some run) × (ranks ≡ run ∷ [])
  pub straight_flush : number ≡ 8 → (one ≡ true) × ((run : ℕ) × (top ≡ Some run) × (ranks ≡ run ∷ []))

-- by the number of its category
pub tells : (top : Option ℕ) (one : Bool) (all ranks : List ℕ) (number : ℕ) → value_of_distinct top one all
    ≡ number ∷ ranks
    → Tells top one all ranks number
tells (Some run) true all ranks number is = let at : 8 ≡ number = head is in record {
  flush = λ e. absurd (omega arith);
  straight = λ e. absurd (omega arith);
  straight_flush = λ e. (refl, (run, refl, sym (tail is)));
}
tells (Some run) false all ranks number is = let at : 4 ≡ number = head is in record {
  flush = λ e. absurd (omega arith);
  straight = λ e. (run, refl, sym (tail is));
  straight_flush = λ e. absurd (omega arith);
}
tells None true all ranks number is = let at : 5 ≡ number = head is in record {
  flush = λ e. (refl, sym (tail is));
  straight = λ e. absurd (omega arith);
  straight_flush = λ e. absurd (omega arith);
}
tells None false all ranks number is = let at : 0 ≡ number = head is in record {
  flush = λ e. absurd (omega arith);
  straight = λ e. absurd (omega arith);
  straight_flush = λ e. absurd (omega arith);
}

-- the ranks of a hand of distinct ranks
single-many : (hole board five : List Card) (number : ℕ) (ranks : List ℕ) (from forced : ℕ → Bool)
    → IsHandOf hole board five → IsSingle five number ranks
    → ((r : ℕ) → r < 16 → 1 ≤ count_of_rank five r → from r ≡ true)
    → ((r : ℕ) → r < 16 → forced r ≡ true → 1 ≤ count_of_rank hole r)
    → AreSoMany from forced 5 (λ r. eqb (count_of_rank five r) 1)
single-many hole board five number ranks from forced hand single there held = record {
  within = λ r below is. there r below (let at = eqb-true (count_of_rank five r) 1 is in omega arith);
  among = λ r below is.
      let some = held r below is in
      let up = hand.least r in
      let few = single.once r in
      grind (arith, nat_tests);
  many = ap length (exactly-16 five 1 (lit≤ tt)) ∙ single.many;
}

-- five ranks that are found
five-found : (hole : List Card) (others from forced : ℕ → Bool) → AreSoMany from forced 5 others → from 15 ≡ false
    → ((r : ℕ) → r < 16 → 1 ≤ count_of_rank hole r → forced r ≡ true) → ((r : ℕ) → count_of_rank hole r ≤ 1)
    → AreFive hole others
five-found hole others from forced are fails held apart = record {
  many = ap length (sym (within-15 from others fails are.within)) ∙ are.many;
  apart = apart;
  among = λ r below some. are.among r (omega arith) (held r (omega arith) some);
}

-- where all pass a test, it counts all
all-counted : {A : Type 0} (p : A → Bool) (xs : List A) → list_all p xs ≡ true → count_by p xs ≡ length xs
all-counted p [] all = refl
all-counted p (x ∷ xs) all =
    let parts = and_parts (p x) (list_all p xs) all in
    count_by-cons p x xs ∙ ap₂ (λ b n. cond b 1 0 + n) parts.0 (all-counted p xs parts.1) ∙ omega arith

-- a hand of one suit has ranks of the suit of a flush
pub hand-suited : (hole board five : List Card) (bits r : ℕ) (suited : AreSuited bits hole board)
    → IsHandOf hole board five → are_of_one_suit five ≡ true
    → ((s : ℕ) → list_all (λ (card : Card). eqb card.suit s) five ≡ true
    → list_all (λ (card : Card). eqb card.suit s) hole ≡ true)
    → count_of_rank five r ≤ count_of_some_suit suited.suit (hole ++ board) r
hand-suited hole board five bits r suited hand one of_hole =
    let suit = one_suit-all five one in
    let test : Card → Bool = λ card. eqb card.suit suit.0 in
    let counted = all-counted test five suit.2 in
    let more = count-choice test five (hole ++ board) hand.choice in
    let long = hand.shown.count in
    let is = suited.only suit.0 suit.1 (of_hole suit.0 suit.2) (omega (arith, counted, more, long)) in
    subst (λ s. count_of_rank five r ≤ count_of_some_suit s (hole ++ board) r) (sym is)
    (subst (λ n. n ≤ count_of_suit (hole ++ board) suit.0 r) (all-suited suit.0 five r suit.2) (hand.suits suit.0 r))

-- hole cards in a hand of one suit have it
pub suited-hole : (hole others : List Card) (s : ℕ)
    → list_all (λ (card : Card). eqb card.suit s) (hole ++ others) ≡ true
    → list_all (λ (card : Card). eqb card.suit s) hole ≡ true
suited-hole hole others s all =
    (and_parts (list_all (λ (card : Card). eqb card.suit s) hole) (list_all (λ (card : Card). eqb card.suit s) others)
    (sym (list_all-append (λ (card : Card). eqb card.suit s) hole others) ∙ all)).0

-- hole cards of one suit have two ranks
suited-apart : (hole board : List Card) (suit r : ℕ) → AreOnce (hole ++ board)
    → list_all (λ (card : Card). eqb card.suit suit) hole ≡ true → count_of_rank hole r ≤ 1
suited-apart hole board suit r once all =
    let few = once suit r in
    let split = suit-joined hole board suit r in
    let same = all-suited suit hole r all in
    omega (arith, few, split, same)

-- the ranks of a hand that is a flush
flush-many : (held : Held) (hole board others : List Card) (ranks : List ℕ) → IsHeld held hole board
    → IsHandOf hole board (hole ++ others) → IsSingle (hole ++ others) 5 ranks → are_of_one_suit (hole ++ others) ≡ true
    → AreSoMany (has_rank held.suited.bits) (has_rank held.hole.once.bits) 5
    (λ r. eqb (count_of_rank (hole ++ others) r) 1)
flush-many held hole board others ranks is hand one suit =
    single-many hole board (hole ++ others) 5 ranks (has_rank held.suited.bits) (has_rank held.hole.once.bits) hand one
    (λ r below some.
    let more = hand-suited hole board (hole ++ others) held.suited.bits r is.suited hand suit
    (λ s all. suited-hole hole others s all) in
    is.suited.ranks.at r below ∙ le-leb 1 (count_of_some_suit is.suited.suit (hole ++ board) r) (omega arith))
    (λ r below has. leb-true 1 (count_of_rank hole r) (sym (is.of_hole.of_once.at r below) ∙ has))

-- the best flush
pub flush-best : (held : Held) (hole board : List Card) (set : RankSet) → IsHeld held hole board
    → IsGreatestWith (Some set) (has_rank held.suited.bits) (has_rank held.hole.once.bits) 5
    → IsBestIn 5 (Some (5 ∷ ranks_of set.bits)) (hands hole board)
flush-best held hole board set is greatest =
    let p = has_rank set.bits in
    let found = greatest.is.are set refl in
    let suit = some-found is.suited.suit no_suit in
    let all_suited = is.suited.of_hole suit.0 suit.1 in
    let of_suit : HasRanks held.suited.bits 1 (count_of_suit (hole ++ board) suit.0) =
    subst (λ s. HasRanks held.suited.bits 1 (count_of_some_suit s (hole ++ board))) suit.1 is.suited.ranks in
    let fails = high-none held.suited.bits 1 (count_of_suit (hole ++ board) suit.0) of_suit in
    let are = five-found hole p (has_rank held.suited.bits) (has_rank held.hole.once.bits) found fails
    (λ r below some. is.of_hole.of_once.at r below ∙ le-leb 1 (count_of_rank hole r) some)
    (λ r. suited-apart hole board suit.0 r is.once all_suited) in
    let reached = suited-reached hole board suit.0 p is.few all_suited are (λ r below has.
    leb-true 1 (count_of_suit (hole ++ board) suit.0 r)
    (sym (of_suit.at r (omega arith)) ∙ found.within r (omega arith) has)) in
    let hand = is-hand hole board reached.others reached.choice reached.count is.few is.once in
    let five = hole ++ reached.others in
    let single = are-single five p hand.shown are.many reached.counts in
    let all : falling p 16 ≡ falling p 15 = within-15 (has_rank held.suited.bits) p fails found.within in
    some-best 5 (5 ∷ ranks_of set.bits) hole board refl
    (record {
      others = reached.others;
      choice = reached.choice;
      count = reached.count;
      up = subst (λ rs. Upto (5 ∷ rs) (five_card_value five)) (sym all)
          (subst (λ v. Upto (5 ∷ falling p 15) v) (single-value five single.often)
          (subst (λ b. Upto (5 ∷ falling p 15)
          (value_of_distinct (run_top (distinct_ranks five)) b (distinct_ranks five)))
          (sym reached.one)
          (above (run_top (distinct_ranks five)) (distinct_ranks five) (falling p 15) single.up)));
    })
    (λ others ranks chosen others_long at.
    let this = is-hand hole board others chosen others_long is.few is.once in
    let one = is-single (hole ++ others) 5 ranks this.shown (of-number (hole ++ others) 5 ranks this.shown at) at in
    let test : ℕ → Bool = λ r. eqb (count_of_rank (hole ++ others) r) 1 in
    let told = (tells (run_top (distinct_ranks (hole ++ others))) (are_of_one_suit (hole ++ others))
    (distinct_ranks (hole ++ others)) ranks 5 one.value).flush refl in
    let many = flush-many held hole board others ranks is this one told.0 in
    inr (
      refl,
      subst (λ rs. Upto rs (ranks_of set.bits))
          (exactly-16 (hole ++ others) 1 (lit≤ tt) ∙ sym (told.1 ∙ one.distinct))
          (upto-of (falling test 16) (ranks_of set.bits) (greatest.is.greatest set test refl many)),
    ))
  where
    above : (top : Option ℕ) (ranks others : List ℕ) → Upto others ranks
        → Upto (5 ∷ others) (value_of_distinct top true ranks)
    above (Some top) ranks others up = inl (lit≤ tt)
    above None ranks others up = inr (refl, up)

    no_suit : is.suited.suit ≡ None → ⊥
    no_suit at =
        let nothing : HasRanks held.suited.bits 1 (λ r. 0) =
        subst (λ s. HasRanks held.suited.bits 1 (count_of_some_suit s (hole ++ board))) at is.suited.ranks in
        let found = greatest.is.are set refl in
        let empty = falling-empty (has_rank set.bits) 16 (λ r below.
        either_way (has_rank set.bits r) (has_rank set.bits r ≡ false)
        (λ has. let bad = sym (nothing.at r below) ∙ found.within r below has in
        let fails : leb 1 0 ≡ false = refl in absurd cc) (λ is_not. is_not)) in
        let many = found.many in
        let long = ap length empty in
        absurd (omega (arith, many, long))

-- where five ranks of a suit are not found, there is no flush
pub no-flush : (held : Held) (hole board : List Card) (found : Option RankSet) (best : Option (List ℕ))
    → IsHeld held hole board
    → IsGreatestWith found (has_rank held.suited.bits) (has_rank held.hole.once.bits) 5 → found ≡ None → best ≡ None
    → IsBestIn 5 best (hands hole board)
no-flush held hole board found best is greatest none is_none =
    no-best 5 best hole board is_none (λ others ranks chosen others_long at.
    let this = is-hand hole board others chosen others_long is.few is.once in
    let one = is-single (hole ++ others) 5 ranks this.shown (of-number (hole ++ others) 5 ranks this.shown at) at in
    let told = (tells (run_top (distinct_ranks (hole ++ others))) (are_of_one_suit (hole ++ others))
    (distinct_ranks (hole ++ others)) ranks 5 one.value).flush refl in
    let some = greatest.is.some (λ r. eqb (count_of_rank (hole ++ others) r) 1)
    (flush-many held hole board others ranks is this one told.0) in
    let bad : None ≡ Some some.0 = sym none ∙ some.1 in
    absurd cc)
