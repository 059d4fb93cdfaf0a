-- The best hand of a category in which some ranks occur most often, and others beside them.
use Rattle.std.proofs.Common.{◌≡◌, ℕ, zero, suc, ◌⊎◌, ◌+◌, ◌*◌, ◌<◌, ◌≤◌, inl, inr, Bool, true, false, ◌&&◌, ◌||◌, not, eqb, leb, cond, List, [], ◌∷◌, ◌++◌, length, Some, None, refl, sym, ap, ap₂, ◌∙◌, subst, zero-add, zero-le, le_trans, eqb-true, leb-true, le-leb, lit≤, eq-eqb, arith}
use Rattle.std.specs.Prelude.{Option}
use Rattle.std.proofs.lemmas.Bool.Decides.{nat_tests}
use Rattle.card_set.specs.declared.card.Card.{Card}
use Rattle.card_choices.proofs.ListOrder.{Upto}
use Rattle.rulebook.proofs.Tests.{count_by-cons}
use Rattle.hand_rank.specs.declared.held.Held.{Held}
use Rattle.hand_rank.specs.declared.rank_set.RankSet.{RankSet}
use Rattle.hand_rank.specs.Held.{hands, IsHeld, MayLead, IsBestIn}
use Rattle.hand_rank.specs.Sets.{has_rank, falling, ranks_of, HasRanks}
use Rattle.hand_rank.specs.SoMany.{AreSoMany, IsGreatest, IsGreatestWith}
use Rattle.hand_rank.specs.Values.{count_of_rank, five_card_value}
use Rattle.hand_rank.proofs.CardCounts.{other-rank}
use Rattle.hand_rank.proofs.Chosen.{occurs}
use Rattle.hand_rank.proofs.FiveLaws.{exactly}
use Rattle.hand_rank.proofs.HandLaws.{IsHandOf, is-hand, two-ranks, IsReached, hand-with, upto-of, no-best, some-best}
use Rattle.hand_rank.proofs.Sections.{total, total-same, falling-same}
use Rattle.hand_rank.proofs.ShapeLaws.{IsForm, IsShaped, shaped, shaped_count, shaped-inside, shows, shows-above}
use Rattle.hand_rank.proofs.SoManyLaws.{bit, either_way, falling-fewer, both-are, both-from}

-- no number passes from a bound on
pub falling-15 : (p : ℕ → Bool) → p 15 ≡ false → falling p 16 ≡ falling p 15
unfolding falling
falling-15 p fails = rw fails refl

-- a sum over the ranks that pass one test or another
total-both : (p q : ℕ → Bool) (k j n : ℕ) → ((r : ℕ) → r < n → p r ≡ true → q r ≡ false)
    → total (λ r. cond (p r) k (cond (q r) j 0)) n ≡ length (falling p n) * k + length (falling q n) * j
unfolding total falling
total-both p q k j zero apart = grind arith
total-both p q k j (suc n) apart =
    let later = total-both p q k j n (λ r within. apart r (omega arith)) in
    (elim (p n) as (λ a. p n ≡ a → cond a k (cond (q n) j 0) + total (λ r. cond (p r) k (cond (q r) j 0)) n
    ≡ length (cond a (n ∷ falling p n) (falling p n)) * k
    + length (cond (q n) (n ∷ falling q n) (falling q n)) * j) [
      | true ↦ λ is. let none = apart n (omega arith) is in rw none (grind (arith, later))
      | false ↦ λ is_not. elim (q n) as (λ b. cond b j 0 + total (λ r. cond (p r) k (cond (q r) j 0)) n
          ≡ length (falling p n) * k + length (cond b (n ∷ falling q n) (falling q n)) * j) [
            | true ↦ grind (arith, later)
            | false ↦ zero-add (total (λ r. cond (p r) k (cond (q r) j 0)) n) ∙ later
          ]
    ]) refl

pub total-passing : (p : ℕ → Bool) (n : ℕ) → total (λ r. cond (p r) 1 0) n ≡ length (falling p n)
total-passing p n = total-both p (λ r. false) 1 0 n (λ r within is. refl) ∙ omega arith

-- ranks that may occur k times and others beside them j times, with the hole cards among them
pub record AreBeside (hole board : List Card) (p q : ℕ → Bool) (k j : ℕ) : Type 0 where
  pub first : (r : ℕ) → r < 15 → p r ≡ true → k ≤ count_of_rank (hole ++ board) r
  pub second : (r : ℕ) → r < 15 → q r ≡ true → j ≤ count_of_rank (hole ++ board) r
  pub apart : (r : ℕ) → r < 15 → p r ≡ true → q r ≡ false
  pub few : (r : ℕ) → p r ≡ false → count_of_rank hole r ≤ j
  pub among : (r : ℕ) → r < 15 → p r ≡ false → 1 ≤ count_of_rank hole r → q r ≡ true

next-differs : (r : ℕ) → r ≡ suc r → ⊥
next-differs r is = omega arith

-- no rank of two cards at most occurs more often than twice
pub few-times : (hole : List Card) (r : ℕ) → length hole ≤ 2 → count_of_rank hole r ≤ 2
few-times hole r few = let all = two-ranks hole r (suc r) (next-differs r) in omega arith

-- some cards of the board make them with the hole cards
pub shaped-reached : (hole board : List Card) (p q : ℕ → Bool) (k j : ℕ) → length hole ≤ 2
    → 5 ≤ length hole + length board → 2 ≤ k → length (falling p 15) * k + length (falling q 15) * j ≡ 5
    → AreBeside hole board p q k j → IsReached hole board (shaped_count p q k j)
shaped-reached hole board p q k j few enough two sum are =
    hand-with hole board (shaped_count p q k j) few enough least most
    (total-same (shaped_count p q k j) (λ r. cond (p r) k (cond (q r) j 0)) 15
    (λ r within. shaped-inside p q k j r within) ∙ total-both p q k j 15 are.apart ∙ sum)
  where
    least : (r : ℕ) → count_of_rank hole r ≤ cond (leb 15 r) 0 (cond (p r) k (cond (q r) j 0))
    least r = elim (leb 15 r) as (λ b. leb 15 r ≡ b
        → count_of_rank hole r ≤ cond b 0 (cond (p r) k (cond (q r) j 0))) [
          | true ↦ λ high. let nothing = other-rank hole r (inl (leb-true 15 r high)) in omega arith
          | false ↦ λ low. elim (p r) as (λ b. p r ≡ b → count_of_rank hole r ≤ cond b k (cond (q r) j 0)) [
            | true ↦ λ is. le_trans (few-times hole r few) two
            | false ↦ λ is_not. elim (leb 1 (count_of_rank hole r)) as (λ b. leb 1 (count_of_rank hole r) ≡ b
                → count_of_rank hole r ≤ cond (q r) j 0) [
                  | true ↦ λ some.
                      let has = are.among r (grind (arith, nat_tests)) is_not
                      (leb-true 1 (count_of_rank hole r) some) in
                      rw has (are.few r is_not)
                  | false ↦ λ nothing. let none : count_of_rank hole r ≡ 0 = grind (arith, nat_tests) in
                      subst (λ n. n ≤ cond (q r) j 0) (sym none) zero-le
                ] refl
          ] refl
        ] refl

    most : (r : ℕ) → cond (leb 15 r) 0 (cond (p r) k (cond (q r) j 0)) ≤ count_of_rank (hole ++ board) r
    most r = elim (leb 15 r) as (λ b. leb 15 r ≡ b
        → cond b 0 (cond (p r) k (cond (q r) j 0)) ≤ count_of_rank (hole ++ board) r) [
          | true ↦ λ high. zero-le
          | false ↦ λ low. elim (p r) as (λ b. p r ≡ b
              → cond b k (cond (q r) j 0) ≤ count_of_rank (hole ++ board) r) [
                | true ↦ λ is. are.first r (grind (arith, nat_tests)) is
                | false ↦ λ is_not. elim (q r) as (λ b. q r ≡ b → cond b j 0 ≤ count_of_rank (hole ++ board) r) [
                  | true ↦ λ is. are.second r (grind (arith, nat_tests)) is
                  | false ↦ λ none. zero-le
                ] refl
              ] refl
        ] refl

-- what occurs so often is no more than the ace
pub high-none : (bits often : ℕ) (count : ℕ → ℕ) → HasRanks bits often count → has_rank bits 15 ≡ false
high-none bits often count has =
    let none = has.only 15 (inl (lit≤ tt)) in
    let some = has.some in
    has.at 15 (lit≤ tt) ∙ grind (arith, nat_tests)

-- what a set that others are among does not have, they do not have
pub within-15 : (from p : ℕ → Bool) → from 15 ≡ false → ((r : ℕ) → r < 16 → p r ≡ true → from r ≡ true)
    → falling p 16 ≡ falling p 15
within-15 from p fails within = falling-15 p (either_way (p 15) (p 15 ≡ false)
    (λ is. let bad = within 15 (lit≤ tt) is in absurd cc) (λ is_not. is_not))

-- ranks that occur just so often
pub exactly-16 : (five : List Card) (i : ℕ) → 1 ≤ i → falling (λ r. eqb (count_of_rank five r) i) 16 ≡ exactly five i
exactly-16 five i some = falling-15 (λ r. eqb (count_of_rank five r) i)
    (let none = other-rank five 15 (inl (lit≤ tt)) in grind (arith, nat_tests))

-- the ranks that occur most often in a hand of the category may do so
hand-leads : (hole board five : List Card) (ranks : List ℕ) (number m k c j : ℕ) → IsForm number m k c j
    → IsHandOf hole board five → IsShaped five m k c j ranks
    → MayLead hole board m k c j (λ r. eqb (count_of_rank five r) k)
hand-leads hole board five ranks number m k c j form hand are =
    let some = form.some in
    let less = form.less in
    record {
      within = λ r below is. let up = hand.most r in let at = eqb-true (count_of_rank five r) k is in omega arith;
      many = ap length (exactly-16 five k (omega arith)) ∙ are.most;
      leaves = record {
        few = λ r is_not. let up = hand.least r in rest r (count_of_rank five r) is_not (are.only r) up;
        room = subst (λ n. length (falling (λ r. leb 1 (count_of_rank hole r) && not (eqb (count_of_rank five r) k)) 16)
            ≤ n) (ap length (exactly-16 five j form.some) ∙ are.many)
            (falling-fewer (λ r. leb 1 (count_of_rank hole r) && not (eqb (count_of_rank five r) k))
            (λ r. eqb (count_of_rank five r) j) 16 (λ r below has.
            let parts = both-are (leb 1 (count_of_rank hole r)) (eqb (count_of_rank five r) k) has in
            let up = hand.least r in
            let occurs = leb-true 1 (count_of_rank hole r) parts.0 in
            elim (are.only r (omega arith)) [
              | inl most ↦ let not_most = parts.1 in absurd (grind (arith, nat_tests))
              | inr other ↦ grind (arith, nat_tests)
            ]));
      };
    }
  where
    rest : (r n : ℕ) → eqb n k ≡ false → (1 ≤ n → (n ≡ k) ⊎ (n ≡ j)) → count_of_rank hole r ≤ n
        → count_of_rank hole r ≤ j
    rest r n is_not only up = elim (leb 1 n) as (λ b. leb 1 n ≡ b → count_of_rank hole r ≤ j) [
      | true ↦ λ occurs. elim (only (leb-true 1 n occurs)) [
        | inl most ↦ absurd (grind (arith, nat_tests))
        | inr other ↦ omega arith
      ]
      | false ↦ λ none. let nothing : n ≡ 0 = grind (arith, nat_tests) in omega arith
    ] refl

-- where no rank occurs as often, none leads
leads-15 : (hole board : List Card) (number m k c j : ℕ) (p : ℕ → Bool) → IsForm number m k c j
    → MayLead hole board m k c j p → p 15 ≡ false
leads-15 hole board number m k c j p form lead = either_way (p 15) (p 15 ≡ false) (λ is.
    let many = lead.within 15 (lit≤ tt) is in
    let none = other-rank (hole ++ board) 15 (inl (lit≤ tt)) in
    let some = form.some in
    let less = form.less in
    absurd (omega arith)) (λ is_not. is_not)

-- a set of ranks and another of ranks that are found beside it are shown with some cards of the board
found-beside : (held : Held) (hole board : List Card) (m k c j : ℕ) (most others from : RankSet)
    → IsHeld held hole board → HasRanks from.bits j (count_of_rank (hole ++ board))
    → MayLead hole board m k c j (has_rank most.bits)
    → AreSoMany (λ r. has_rank from.bits r && not (has_rank most.bits r))
    (λ r. has_rank held.hole.once.bits r && not (has_rank most.bits r)) c (has_rank others.bits)
    → AreBeside hole board (has_rank most.bits) (has_rank others.bits) k j
found-beside held hole board m k c j most others from is has lead near = record {
  first = λ r below at. lead.within r (omega arith) at;
  second = λ r below at.
      let parts = both-are (has_rank from.bits r) (has_rank most.bits r) (near.within r (omega arith) at) in
      leb-true j (count_of_rank (hole ++ board) r) (sym (has.at r (omega arith)) ∙ parts.0);
  apart = λ r below at. either_way (has_rank others.bits r) (has_rank others.bits r ≡ false) (λ also.
      let parts = both-are (has_rank from.bits r) (has_rank most.bits r) (near.within r (omega arith) also) in
      let is_not = parts.1 in absurd cc) (λ is_not. is_not);
  few = lead.leaves.few;
  among = λ r below is_not some. near.among r (omega arith)
      (both-from (has_rank held.hole.once.bits r) (has_rank most.bits r)
      (is.of_hole.of_once.at r (omega arith) ∙ le-leb 1 (count_of_rank hole r) some) is_not);
}

-- lists of as many numbers, and others behind them
upto-joined : (xs ys us vs : List ℕ) → length xs ≡ length ys → Upto xs ys → (xs ≡ ys → Upto us vs)
    → Upto (xs ++ us) (ys ++ vs)
upto-joined [] [] us vs same up behind = behind refl
upto-joined [] (y ∷ ys) us vs same up behind = absurd (omega arith)
upto-joined (x ∷ xs) [] us vs same up behind = absurd up
upto-joined (x ∷ xs) (y ∷ ys) us vs same (inl less) behind = inl less
upto-joined (x ∷ xs) (y ∷ ys) us vs same (inr at) behind =
    inr (at.0, upto-joined xs ys us vs (omega arith) at.1 (λ e. behind (ap₂ (λ z zs. z ∷ zs) at.0 e)))

occurs-above : (p : ℕ → Bool) (n r : ℕ) → n ≤ r → occurs (falling p n) r ≡ 0
unfolding falling
occurs-above p zero r high = refl
occurs-above p (suc n) r high =
    let later = occurs-above p n r (omega arith) in
    let apart : eqb n r ≡ false = grind (arith, nat_tests) in
    elim (p n) as (λ b. occurs (cond b (n ∷ falling p n) (falling p n)) r ≡ 0) [
      | true ↦ rw (count_by-cons (λ s. eqb s r) n (falling p n), apart) (omega arith)
      | false ↦ later
    ]

-- how often a number is among those that pass a test
occurs-falling : (p : ℕ → Bool) (n r : ℕ) → r < n → occurs (falling p n) r ≡ cond (p r) 1 0
unfolding falling
occurs-falling p zero r within = absurd (omega arith)
occurs-falling p (suc n) r within =
    elim (eqb n r) as (λ b. eqb n r ≡ b → occurs (cond (p n) (n ∷ falling p n) (falling p n)) r ≡ cond (p r) 1 0) [
      | true ↦ λ same.
          let is : n ≡ r = eqb-true n r same in
          subst (λ s. occurs (cond (p n) (n ∷ falling p n) (falling p n)) r ≡ cond (p s) 1 0) is
          (first (p n) same (occurs-above p n r (omega arith)))
      | false ↦ λ apart. others (p n) apart (occurs-falling p n r (grind (arith, nat_tests)))
    ] refl
  where
    first : (b : Bool) → eqb n r ≡ true → occurs (falling p n) r ≡ 0
        → occurs (cond b (n ∷ falling p n) (falling p n)) r ≡ cond b 1 0
    first true same none = rw (count_by-cons (λ s. eqb s r) n (falling p n), same) (omega arith)
    first false same none = none

    others : (b : Bool) → eqb n r ≡ false → occurs (falling p n) r ≡ cond (p r) 1 0
        → occurs (cond b (n ∷ falling p n) (falling p n)) r ≡ cond (p r) 1 0
    others true apart later = rw (count_by-cons (λ s. eqb s r) n (falling p n), apart) (omega arith)
    others false apart later = later

-- tests that list the same numbers pass the same
falling-tells : (p q : ℕ → Bool) (n r : ℕ) → falling p n ≡ falling q n → r < n → p r ≡ true → q r ≡ true
falling-tells p q n r same within is =
    either_way (q r) (q r ≡ true) (λ in_q. in_q) (λ not_q.
    let one = occurs-falling p n r within in
    let other = occurs-falling q n r within in
    let alike : occurs (falling p n) r ≡ occurs (falling q n) r = ap (λ xs. occurs xs r) same in
    let a : bit (p r) ≡ 1 = ap bit is in
    let b : bit (q r) ≡ 0 = ap bit not_q in
    absurd (omega (arith, one, other, alike, a, b)))

-- the others of a hand whose greatest ranks are those of a set are beside the set
hand-beside : (held : Held) (hole board five : List Card) (ranks : List ℕ) (number m k c j : ℕ) (most from : RankSet)
    → IsForm number m k c j → IsHeld held hole board → HasRanks from.bits j (count_of_rank (hole ++ board))
    → IsHandOf hole board five → IsShaped five m k c j ranks
    → falling (λ r. eqb (count_of_rank five r) k) 16 ≡ ranks_of most.bits
    → AreSoMany (λ r. has_rank from.bits r && not (has_rank most.bits r))
    (λ r. has_rank held.hole.once.bits r && not (has_rank most.bits r)) c (λ r. eqb (count_of_rank five r) j)
hand-beside held hole board five ranks number m k c j most from form is has hand are same =
    let some = form.some in
    let less = form.less in
    record {
      within = λ r below at.
          let up = hand.most r in
          let times = eqb-true (count_of_rank five r) j at in
          both-from (has_rank from.bits r) (has_rank most.bits r)
          (has.at r below ∙ le-leb j (count_of_rank (hole ++ board) r) (omega arith))
          (either_way (has_rank most.bits r) (has_rank most.bits r ≡ false) (λ leads.
          let often = falling-tells (has_rank most.bits) (λ s. eqb (count_of_rank five s) k) 16 r (sym same) below leads
          in absurd (grind (arith, nat_tests))) (λ is_not. is_not));
      among = λ r below at.
          let parts = both-are (has_rank held.hole.once.bits r) (has_rank most.bits r) at in
          let up = hand.least r in
          let held_some = leb-true 1 (count_of_rank hole r) (sym (is.of_hole.of_once.at r below) ∙ parts.0) in
          elim (are.only r (omega arith)) [
            | inl often ↦
                let itself : eqb (count_of_rank five r) k ≡ true = grind (arith, nat_tests) in
                let leads = falling-tells (λ s. eqb (count_of_rank five s) k) (has_rank most.bits) 16 r same below
                itself in
                let is_not = parts.1 in absurd cc
            | inr times ↦ grind (arith, nat_tests)
          ];
      many = ap length (exactly-16 five j form.some) ∙ are.many;
    }

-- the best hand of the category, where the greatest ranks lead and the greatest are beside them
pub shaped-best : (number m k c j : ℕ) (held : Held) (hole board : List Card) (most others from : RankSet)
    (leaders beside : Option RankSet) → IsForm number m k c j → IsHeld held hole board
    → HasRanks from.bits j (count_of_rank (hole ++ board))
    → IsGreatest leaders (MayLead hole board m k c j) → leaders ≡ Some most
    → IsGreatestWith beside (λ r. has_rank from.bits r && not (has_rank most.bits r))
    (λ r. has_rank held.hole.once.bits r && not (has_rank most.bits r)) c → beside ≡ Some others
    → IsBestIn number (Some (number ∷ ranks_of most.bits ++ ranks_of others.bits)) (hands hole board)
shaped-best number m k c j held hole board most others from leaders beside form is has leading is_most greatest
    is_others =
    let p = has_rank most.bits in
    let q = has_rank others.bits in
    let some = form.some in
    let less = form.less in
    let lead = leading.are most is_most in
    let near = greatest.is.are others is_others in
    let first = falling-15 p (leads-15 hole board number m k c j p form lead) in
    let second = within-15 (has_rank from.bits) q (high-none from.bits j (count_of_rank (hole ++ board)) has)
    (λ r below at. (both-are (has_rank from.bits r) (p r) (near.within r below at)).0) in
    let found = found-beside held hole board m k c j most others from is has lead near in
    let many : length (falling p 15) ≡ m = ap length (sym first) ∙ lead.many in
    let many_others : length (falling q 15) ≡ c = ap length (sym second) ∙ near.many in
    let reached = shaped-reached hole board p q k j is.few is.enough (omega arith)
    (ap₂ (λ x y. x * k + y * j) many many_others ∙ form.sum) found in
    let hand = is-hand hole board reached.others reached.choice reached.count is.few is.once in
    let five = hole ++ reached.others in
    let shown = number ∷ falling p 16 ++ falling q 16 in
    let value : shown ≡ number ∷ falling p 15 ++ falling q 15 = (λ i. number ∷ first i ++ second i) in
    some-best number shown hole board (eq-eqb number number refl)
    (record {
      others = reached.others;
      choice = reached.choice;
      count = reached.count;
      up = subst (λ v. Upto v (five_card_value five)) (sym value)
          (shows-above five p q number m k c j form many many_others
          (shows five p q k j form.some form.less form.times found.apart reached.counts));
    })
    (λ cards ranks chosen count at.
    let this = is-hand hole board cards chosen count is.few is.once in
    let are = shaped (hole ++ cards) ranks number m k c j form this.shown at in
    let test : ℕ → Bool = λ r. eqb (count_of_rank (hole ++ cards) r) k in
    let test_others : ℕ → Bool = λ r. eqb (count_of_rank (hole ++ cards) r) j in
    let theirs = hand-leads hole board (hole ++ cards) ranks number m k c j form this are in
    let of_most = exactly-16 (hole ++ cards) k (omega arith) in
    let of_others = exactly-16 (hole ++ cards) j form.some in
    let up = upto-of (falling test 16) (falling p 16) (leading.greatest most test is_most theirs) in
    subst (λ rs. Upto (number ∷ rs) shown) (ap₂ (λ xs ys. xs ++ ys) of_most of_others ∙ sym are.whole)
    (inr (
      refl,
      upto-joined (falling test 16) (falling p 16) (falling test_others 16) (falling q 16)
          (theirs.many ∙ sym lead.many) up (λ same.
          upto-of (falling test_others 16) (falling q 16) (greatest.is.greatest others test_others is_others
          (hand-beside held hole board (hole ++ cards) ranks number m k c j most from form is has this are same))),
    )))

-- ranks that pass one test or another are, but for those that pass a third, no fewer than both but for that
falling-over : (p q s : ℕ → Bool) (n : ℕ) → ((r : ℕ) → r < n → p r ≡ true → q r ≡ false)
    → length (falling p n) + length (falling q n)
    ≤ length (falling (λ r. (p r || q r) && not (s r)) n) + length (falling s n)
unfolding falling
falling-over p q s zero apart = omega arith
falling-over p q s (suc n) apart =
    let later = falling-over p q s n (λ r within. apart r (omega arith)) in
    by (p n) (q n) (s n) (apart n (omega arith)) n (falling p n) (falling q n)
    (falling (λ r. (p r || q r) && not (s r)) n) (falling s n) later
  where
    by : (a b d : Bool) → (a ≡ true → b ≡ false) → (n : ℕ) (xs ys zs us : List ℕ)
        → length xs + length ys ≤ length zs + length us
        → length (cond a (n ∷ xs) xs) + length (cond b (n ∷ ys) ys)
        ≤ length (cond ((a || b) && not d) (n ∷ zs) zs) + length (cond d (n ∷ us) us)
    by true true d apart n xs ys zs us is = let bad = apart refl in absurd cc
    by true false true apart n xs ys zs us is = omega arith
    by true false false apart n xs ys zs us is = omega arith
    by false true true apart n xs ys zs us is = omega arith
    by false true false apart n xs ys zs us is = omega arith
    by false false true apart n xs ys zs us is = omega arith
    by false false false apart n xs ys zs us is = is

-- and none where no ranks may lead
pub shaped-none : (number m k c j : ℕ) (held : Held) (hole board : List Card) (leaders : Option RankSet)
    (best : Option (List ℕ)) → IsForm number m k c j → IsHeld held hole board
    → IsGreatest leaders (MayLead hole board m k c j) → leaders ≡ None → best ≡ None
    → IsBestIn number best (hands hole board)
shaped-none number m k c j held hole board leaders best form is leading none is_none =
    no-best number best hole board is_none (λ others ranks chosen count at.
    let this = is-hand hole board others chosen count is.few is.once in
    let are = shaped (hole ++ others) ranks number m k c j form this.shown at in
    let some = leading.some (λ r. eqb (count_of_rank (hole ++ others) r) k)
    (hand-leads hole board (hole ++ others) ranks number m k c j form this are) in
    let bad : None ≡ Some some.0 = sym none ∙ some.1 in
    absurd cc)

-- nor where there are too few beside them
pub shaped-lost : (number m k c j : ℕ) (held : Held) (hole board : List Card) (most from : RankSet)
    (leaders beside : Option RankSet) (best : Option (List ℕ)) → IsForm number m k c j → IsHeld held hole board
    → HasRanks from.bits j (count_of_rank (hole ++ board))
    → IsGreatest leaders (MayLead hole board m k c j) → leaders ≡ Some most
    → IsGreatestWith beside (λ r. has_rank from.bits r && not (has_rank most.bits r))
    (λ r. has_rank held.hole.once.bits r && not (has_rank most.bits r)) c → beside ≡ None → best ≡ None
    → IsBestIn number best (hands hole board)
shaped-lost number m k c j held hole board most from leaders beside best form is has leading is_most greatest none
    is_none =
    no-best number best hole board is_none (λ others ranks chosen count at.
    let this = is-hand hole board others chosen count is.few is.once in
    let are = shaped (hole ++ others) ranks number m k c j form this.shown at in
    let lead = leading.are most is_most in
    let some = greatest.enough (inside (hole ++ others) ranks this are) (low lead) (high (hole ++ others) ranks this are
    lead) in
    let bad : None ≡ Some some.0 = sym none ∙ some.1 in
    absurd cc)
  where
    often : (five : List Card) (ranks : List ℕ) → IsHandOf hole board five → IsShaped five m k c j ranks → (r : ℕ)
        → r < 16 → 1 ≤ count_of_rank five r → has_rank from.bits r ≡ true
    often five ranks this are r under occurs =
        let up = this.most r in
        let less = form.less in
        has.at r under ∙ le-leb j (count_of_rank (hole ++ board) r)
        (elim (are.only r occurs) [ inl most_times ↦ omega arith | inr times ↦ omega arith ])

    inside : (five : List Card) (ranks : List ℕ) → IsHandOf hole board five → IsShaped five m k c j ranks → (r : ℕ)
        → r < 16 → (has_rank held.hole.once.bits r && not (has_rank most.bits r)) ≡ true
        → (has_rank from.bits r && not (has_rank most.bits r)) ≡ true
    inside five ranks this are r under at =
        let parts = both-are (has_rank held.hole.once.bits r) (has_rank most.bits r) at in
        let some = leb-true 1 (count_of_rank hole r) (sym (is.of_hole.of_once.at r under) ∙ parts.0) in
        let up = this.least r in
        both-from (has_rank from.bits r) (has_rank most.bits r) (often five ranks this are r under (omega arith))
        parts.1

    low : MayLead hole board m k c j (has_rank most.bits)
        → length (falling (λ r. has_rank held.hole.once.bits r && not (has_rank most.bits r)) 16) ≤ c
    low lead = subst (λ rs. length rs ≤ c)
        (falling-same (λ r. leb 1 (count_of_rank hole r) && not (has_rank most.bits r))
        (λ r. has_rank held.hole.once.bits r && not (has_rank most.bits r)) 16
        (λ r below. ap (λ b. b && not (has_rank most.bits r)) (sym (is.of_hole.of_once.at r below)))) lead.leaves.room

    apart : (n : ℕ) → eqb n k ≡ true → eqb n j ≡ false
    apart n is = let less = form.less in grind (arith, nat_tests)

    occurs-some : (n : ℕ) → (eqb n k || eqb n j) ≡ true → 1 ≤ n
    occurs-some n is = let some = form.some in let less = form.less in grind (arith, nat_tests)

    high : (five : List Card) (ranks : List ℕ) → IsHandOf hole board five → IsShaped five m k c j ranks
        → MayLead hole board m k c j (has_rank most.bits)
        → c ≤ length (falling (λ r. has_rank from.bits r && not (has_rank most.bits r)) 16)
    high five ranks this are lead =
        let p : ℕ → Bool = λ r. eqb (count_of_rank five r) k in
        let q : ℕ → Bool = λ r. eqb (count_of_rank five r) j in
        let s = has_rank most.bits in
        let some = form.some in
        let less = form.less in
        let over = falling-over p q s 16 (λ r below is. apart (count_of_rank five r) is) in
        let fewer = falling-fewer (λ r. (p r || q r) && not (s r)) (λ r. has_rank from.bits r && not (s r)) 16
        (λ r below at.
        let parts = both-are (p r || q r) (s r) at in
        both-from (has_rank from.bits r) (s r)
        (often five ranks this are r below (occurs-some (count_of_rank five r) parts.0)) parts.1) in
        let first = ap length (exactly-16 five k (omega arith)) ∙ are.most in
        let second = ap length (exactly-16 five j form.some) ∙ are.many in
        let third = lead.many in
        omega (arith, over, fewer, first, second, third)
