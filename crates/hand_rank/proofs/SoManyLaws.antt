-- So many ranks of some, with others among them: which are the greatest.
use Rattle.std.proofs.Common.{◌≡◌, ℕ, zero, suc, ◌+◌, ◌<◌, ◌≤◌, inr, Bool, true, false, ◌&&◌, ◌||◌, not, eqb, cond, List, [], ◌∷◌, length, Some, None, refl, sym, ap, ap₂, ◌∙◌, subst, eqb-true, zero-le, le_refl, arith}
use Rattle.std.specs.Prelude.{Option, IfSome}
use Rattle.std.proofs.lemmas.Bool.{and_from, and_parts, not-false, not-true}
use Rattle.std.proofs.lemmas.Bool.Decides.{nat_tests}
use Rattle.std.proofs.lemmas.Option.{same_Some}
use Rattle.rulebook.proofs.Sides.{others_alone, others_fail}
use Rattle.card_choices.proofs.ListOrder.{Upto, max_upper}
use Rattle.hand_rank.specs.declared.rank_set.RankSet.{RankSet}
use Rattle.hand_rank.specs.BestHigh.{greater}
use Rattle.hand_rank.specs.Picks.{highest_below}
use Rattle.hand_rank.specs.Sets.{has_rank}
use Rattle.hand_rank.specs.Sets.{falling, ranks_of}
use Rattle.hand_rank.specs.SoMany.{AreSoMany, IsGreatest, IsGreatestWith}
use Rattle.hand_rank.proofs.PickLaws.{IsHighest, highest-is, highest-none}
use Rattle.hand_rank.proofs.Sections.{falling-same, falling-leads, falling-none, falling-empty}
use Rattle.hand_rank.proofs.SetOrder.{falling-before, before-upto}

-- 1 where a test passes
abbrev pub bit : Bool → ℕ
bit b = cond b 1 0

-- a choice of truth values is one of two
pub either_way : (b : Bool) (P : Type 0) → (b ≡ true → P) → (b ≡ false → P) → P
either_way b P one other = elim b as (λ t. b ≡ t → P) [ true ↦ λ is. one is | false ↦ λ is. other is ] refl

-- fewer numbers pass a stricter test
pub falling-fewer : (p q : ℕ → Bool) (n : ℕ) → ((r : ℕ) → r < n → p r ≡ true → q r ≡ true)
    → length (falling p n) ≤ length (falling q n)
unfolding falling
falling-fewer p q zero more = zero-le
falling-fewer p q (suc n) more =
    let later = falling-fewer p q n (λ r within. more r (omega arith)) in
    (elim (p n) as (λ b. p n ≡ b
    → length (cond b (n ∷ falling p n) (falling p n)) ≤ length (cond (q n) (n ∷ falling q n) (falling q n))) [
      | true ↦ λ is. let also = more n (omega arith) is in rw also (omega arith)
      | false ↦ λ is_not. elim (q n) as
          (λ b. length (falling p n) ≤ length (cond b (n ∷ falling q n) (falling q n))) [
            | true ↦ omega arith
            | false ↦ later
          ]
    ]) refl

-- how many numbers pass tests that differ at one number
pub falling-but_one : (p q : ℕ → Bool) (x n : ℕ) → x < n → ((r : ℕ) → (r ≡ x → ⊥) → q r ≡ p r)
    → length (falling q n) + bit (p x) ≡ length (falling p n) + bit (q x)
unfolding falling
falling-but_one p q x zero within same = absurd (omega arith)
falling-but_one p q x (suc n) within same =
    elim (eqb n x) as (λ b. eqb n x ≡ b → length (cond (q n) (n ∷ falling q n) (falling q n)) + bit (p x)
    ≡ length (cond (p n) (n ∷ falling p n) (falling p n)) + bit (q x)) [
      | true ↦ λ is_x.
          let at : n ≡ x = eqb-true n x is_x in
          let alike = falling-same q p n (λ r below. same r (λ e. absurd (omega arith))) in
          subst (λ x. length (cond (q n) (n ∷ falling q n) (falling q n)) + bit (p x)
          ≡ length (cond (p n) (n ∷ falling p n) (falling p n)) + bit (q x)) at
          (here (p n) (q n) n (falling p n) (falling q n) (ap length alike))
      | false ↦ λ apart.
          let later = falling-but_one p q x n (grind (arith, nat_tests)) same in
          let alike = same n (λ e. let bad : eqb n x ≡ true = grind (arith, nat_tests) in absurd cc) in
          subst (λ b. length (cond b (n ∷ falling q n) (falling q n)) + bit (p x)
          ≡ length (cond (p n) (n ∷ falling p n) (falling p n)) + bit (q x)) (sym alike)
          (on (p n) n (falling p n) (falling q n) (bit (p x)) (bit (q x)) later)
    ] refl
  where
    here : (a b : Bool) (n : ℕ) (xs ys : List ℕ) → length ys ≡ length xs
        → length (cond b (n ∷ ys) ys) + bit a ≡ length (cond a (n ∷ xs) xs) + bit b
    here true true n xs ys is = omega arith
    here true false n xs ys is = omega arith
    here false true n xs ys is = omega arith
    here false false n xs ys is = omega arith

    on : (a : Bool) (n : ℕ) (xs ys : List ℕ) (x y : ℕ) → length ys + x ≡ length xs + y
        → length (cond a (n ∷ ys) ys) + x ≡ length (cond a (n ∷ xs) xs) + y
    on true n xs ys x y is = omega arith
    on false n xs ys x y is = is

-- numbers come no later where each that is only among them is lower than each that is only among the others
pub falling-upto : (s c : ℕ → Bool) (n : ℕ)
    → ((r q : ℕ) → r < n → q < n → s r ≡ true → c r ≡ false → c q ≡ true → s q ≡ false → r < q)
    → length (falling s n) ≤ length (falling c n) → Upto (falling s n) (falling c n)
unfolding falling
falling-upto s c zero lower few = tt
falling-upto s c (suc n) lower few =
    (elim (s n) as (λ a. s n ≡ a
    → length (cond a (n ∷ falling s n) (falling s n)) ≤ length (cond (c n) (n ∷ falling c n) (falling c n))
    → Upto (cond a (n ∷ falling s n) (falling s n)) (cond (c n) (n ∷ falling c n) (falling c n))) [
      | true ↦ λ in_s. elim (c n) as (λ b. c n ≡ b
          → length (n ∷ falling s n) ≤ length (cond b (n ∷ falling c n) (falling c n))
          → Upto (n ∷ falling s n) (cond b (n ∷ falling c n) (falling c n))) [
            | true ↦ λ in_c less. inr (
              refl,
              falling-upto s c n (λ r q below under. lower r q (omega arith) (omega arith)) (omega arith),
            )
            | false ↦ λ not_c less.
                let fewer = falling-fewer c s n (λ q under in_c. either_way (s q) (s q ≡ true) (λ is. is)
                (λ is_not. let above = lower n q (omega arith) (omega arith) in_s not_c in_c is_not in
                absurd (omega arith))) in
                absurd (omega arith)
          ] refl
      | false ↦ λ not_s. elim (c n) as (λ b. c n ≡ b
          → length (falling s n) ≤ length (cond b (n ∷ falling c n) (falling c n))
          → Upto (falling s n) (cond b (n ∷ falling c n) (falling c n))) [
            | true ↦ λ in_c less. before-upto (falling s n) (n ∷ falling c n)
                (falling-before s n n (falling c n) (le_refl n))
            | false ↦ λ not_c less. falling-upto s c n
                (λ r q below under. lower r q (omega arith) (omega arith)) less
          ] refl
    ]) refl few

-- a rank that is among some and not among others
pub both-are : (a b : Bool) → (a && not b) ≡ true → (a ≡ true) × (b ≡ false)
both-are a b is = let parts = and_parts a (not b) is in (parts.0, not-true b parts.1)

-- and the other way round
pub both-from : (a b : Bool) → a ≡ true → b ≡ false → (a && not b) ≡ true
both-from a b p q = and_from a (not b) p (ap not q)

-- a rank that is among some, where none is among them and not among others, is among the others
pub none-left : (a b : Bool) → (a && not b) ≡ false → a ≡ true → b ≡ true
none-left a b fails is = not-false b (others_fail a (not b) fails is)

-- without a rank the others are as they were
pub but_one-other : (b : Bool) (r rank : ℕ) → (r ≡ rank → ⊥) → (b && not (eqb r rank)) ≡ b
but_one-other true r rank apart = grind (arith, nat_tests)
but_one-other false r rank apart = refl

-- and the rank itself is not there
pub but_one-itself : (b : Bool) (rank : ℕ) → (b && not (eqb rank rank)) ≡ false
but_one-itself true rank = grind (arith, nat_tests)
but_one-itself false rank = refl

-- some ranks that have been taken, each higher than those that are still free
pub record AreTaken (from forced taken free : ℕ → Bool) (count : ℕ) : Type 0 where
  pub within : (r : ℕ) → r < 16 → taken r ≡ true → from r ≡ true
  pub among : (r : ℕ) → r < 16 → forced r ≡ true → taken r ≡ true
  pub left : (r : ℕ) → r < 16 → free r ≡ (from r && not (taken r))
  pub above : (r q : ℕ) → r < 16 → q < 16 → free r ≡ true → taken q ≡ true → forced q ≡ false → r < q
  pub many : length (falling taken 16) ≡ length (falling forced 16) + count

-- at first those are taken that have to be
pub taken-none : (from forced free : ℕ → Bool) → ((r : ℕ) → r < 16 → forced r ≡ true → from r ≡ true)
    → ((r : ℕ) → r < 16 → free r ≡ (from r && not (forced r))) → AreTaken from forced forced free 0
taken-none from forced free inside left = record {
  within = inside;
  among = λ r within is. is;
  left = left;
  above = λ r q below under is has has_not. absurd cc;
  many = omega arith;
}

-- the highest free rank is taken
pub taken-more : (from forced taken free more fewer : ℕ → Bool) (count rank : ℕ) → AreTaken from forced taken free count
    → IsHighest free 16 rank → ((r : ℕ) → r < 16 → fewer r ≡ (free r && not (eqb r rank)))
    → ((r : ℕ) → more r ≡ (taken r || eqb r rank)) → AreTaken from forced more fewer (count + 1)
taken-more from forced taken free more fewer count rank so_far top without with = record {
  within = λ r below is. either_way (taken r) (from r ≡ true) (so_far.within r below)
      (λ not_yet. let same = eqb-true r rank (others_alone (taken r) (eqb r rank) (sym (with r) ∙ is) not_yet) in
      subst (λ s. from s ≡ true) (sym same)
      (both-are (from rank) (taken rank) (sym (so_far.left rank top.below) ∙ top.passes)).0);
  among = λ r below is. with r ∙ ap (λ b. b || eqb r rank) (so_far.among r below is);
  left = λ r below. without r below ∙ ap (λ b. b && not (eqb r rank)) (so_far.left r below)
      ∙ and_not (from r) (taken r) (eqb r rank) ∙ ap (λ b. from r && not b) (sym (with r));
  above = λ r q below under is has has_not.
      let free_r = both-are (free r) (eqb r rank) (sym (without r below) ∙ is) in
      either_way (taken q) (r < q) (λ before. so_far.above r q below under free_r.0 before has_not)
      (λ not_yet.
      let same = eqb-true q rank (others_alone (taken q) (eqb q rank) (sym (with q) ∙ has) not_yet) in
      let up = top.above r below free_r.0 in
      let apart = free_r.1 in
      grind (arith, nat_tests));
  many =
      let not_yet = (both-are (from rank) (taken rank) (sym (so_far.left rank top.below) ∙ top.passes)).1 in
      let now : more rank ≡ true = with rank ∙ itself (taken rank) rank in
      let all = falling-but_one taken more rank 16 top.below
      (λ r apart. with r ∙ other (taken r) r rank apart) in
      let a : bit (taken rank) ≡ 0 = ap bit not_yet in
      let b : bit (more rank) ≡ 1 = ap bit now in
      let before = so_far.many in
      omega (arith, all, a, b, before);
}
  where
    and_not : (a b c : Bool) → ((a && not b) && not c) ≡ (a && not (b || c))
    and_not true true c = refl
    and_not true false c = refl
    and_not false b c = refl

    itself : (b : Bool) (rank : ℕ) → (b || eqb rank rank) ≡ true
    itself b rank = grind (arith, nat_tests)

    other : (b : Bool) (r rank : ℕ) → (r ≡ rank → ⊥) → (b || eqb r rank) ≡ b
    other true r rank apart = refl
    other false r rank apart = grind (arith, nat_tests)

-- where none is free, all are taken
pub taken-all : (from forced taken free : ℕ → Bool) (count : ℕ) → AreTaken from forced taken free count
    → ((r : ℕ) → r < 16 → free r ≡ false) → length (falling from 16) ≤ length (falling forced 16) + count
taken-all from forced taken free count so_far none =
    let fewer = falling-fewer from taken 16 (λ r below is. none-left (from r) (taken r)
    (sym (so_far.left r below) ∙ none r below) is) in
    let all = so_far.many in
    omega (arith, fewer, all)

-- when so many are taken, they are the greatest
pub taken-greatest : (set : RankSet) (from forced free : ℕ → Bool) (count more : ℕ)
    → AreTaken from forced (has_rank set.bits) free more → length (falling forced 16) + more ≡ count
    → IsGreatestWith (Some set) from forced count
taken-greatest set from forced free count more taken sum = record {
  is = record {
    are = λ other is. subst (λ (s : RankSet). AreSoMany from forced count (has_rank s.bits)) (same_Some set other is)
        (record {
          within = taken.within;
          among = taken.among;
          many = taken.many ∙ sum;
        });
    greatest = λ other ranks is are. subst (λ (s : RankSet). max_is (falling ranks 16) (falling (has_rank s.bits) 16))
        (same_Some set other is) (upper ranks are);
    some = λ ranks are. (set, refl);
  };
  enough = λ inside low high. (set, refl);
}
  where
    max_is : List ℕ → List ℕ → Type 0
    max_is xs ys = greater xs ys ≡ ys

    upper : (ranks : ℕ → Bool) → AreSoMany from forced count ranks
        → max_is (falling ranks 16) (falling (has_rank set.bits) 16)
    upper ranks are = max_upper (falling ranks 16) (falling (has_rank set.bits) 16)
        (falling-upto ranks (has_rank set.bits) 16 (λ r q below under in_ranks not_set in_set not_ranks.
        let free_r = taken.left r below ∙ ap₂ (λ a b. a && not b) (are.within r below in_ranks) not_set in
        taken.above r q below under free_r in_set
        (either_way (forced q) (forced q ≡ false) (λ is. let bad = are.among q under is in absurd cc) (λ is. is)))
        (let a = are.many in let b = taken.many in omega (arith, a, b, sum)))

-- where none is found, none can be
pub none-greatest : (Are : (ℕ → Bool) → Type 0) → ((ranks : ℕ → Bool) → Are ranks → ⊥) → IsGreatest None Are
none-greatest Are cannot = record {
  are = λ set is. absurd (bad set is);
  greatest = λ set ranks is are. absurd (bad set is);
  some = λ ranks are. absurd (cannot ranks are);
}
  where
    bad : (set : RankSet) → None ≡ Some set → ⊥
    bad set is = cc

pub greatest-none : (from forced : ℕ → Bool) (count : ℕ)
    → (((rank : ℕ) → rank < 16 → forced rank ≡ true → from rank ≡ true) → length (falling forced 16) ≤ count
    → count ≤ length (falling from 16) → ⊥) → IsGreatestWith None from forced count
greatest-none from forced count cannot = record {
  is = none-greatest (AreSoMany from forced count) (λ ranks are.
      cannot (λ r below is. are.within r below (are.among r below is))
      (subst (λ n. length (falling forced 16) ≤ n) are.many (falling-fewer forced ranks 16 are.among))
      (subst (λ n. n ≤ length (falling from 16)) are.many (falling-fewer ranks from 16 are.within)));
  enough = λ inside low high. absurd (cannot inside low high);
}

-- there are so many of those that are found
pub many-found : (result : Option RankSet) (from forced : ℕ → Bool) (count : ℕ)
    → IsGreatestWith result from forced count → IfSome result (λ set. length (ranks_of set.bits) ≡ count)
many-found None from forced count is = tt
many-found (Some set) from forced count is = (is.is.are set refl).many

-- a set that has ranks has one
pub some-rank : (bits : ℕ) → 1 ≤ length (ranks_of bits) → (rank : ℕ) × (rank < 16) × (has_rank bits rank ≡ true)
some-rank bits some =
    (elim (ranks_of bits) as (λ ranks. ranks_of bits ≡ ranks → 1 ≤ length ranks
    → (rank : ℕ) × (rank < 16) × (has_rank bits rank ≡ true)) [
      | [] ↦ λ none few. absurd (omega arith)
      | rank ∷ ranks ↦ λ are few. let leads = falling-leads (has_rank bits) 16 rank ranks are in
          (rank, leads.first.below, leads.first.passes)
    ]) refl some

-- the same of tests that are alike
pub greatest-same : (result : Option RankSet) (from as_from forced as_forced : ℕ → Bool) (count : ℕ)
    → ((r : ℕ) → r < 16 → from r ≡ as_from r) → ((r : ℕ) → r < 16 → forced r ≡ as_forced r)
    → IsGreatestWith result from forced count → IsGreatestWith result as_from as_forced count
greatest-same result from as_from forced as_forced count one other greatest = record {
  is = record {
    are = λ set found.
        let all = greatest.is.are set found in
        record {
          within = λ r below has. sym (one r below) ∙ all.within r below has;
          among = λ r below has. all.among r below (other r below ∙ has);
          many = all.many;
        };
    greatest = λ set ranks found are. greatest.is.greatest set ranks found (back ranks are);
    some = λ ranks are. greatest.is.some ranks (back ranks are);
  };
  enough = λ inside low high.
      greatest.enough (λ r below has. one r below ∙ inside r below (sym (other r below) ∙ has))
      (subst (λ ranks. length ranks ≤ count) (sym (falling-same forced as_forced 16 other)) low)
      (subst (λ ranks. count ≤ length ranks) (sym (falling-same from as_from 16 one)) high);
}
  where
    back : (ranks : ℕ → Bool) → AreSoMany as_from as_forced count ranks → AreSoMany from forced count ranks
    back ranks are = record {
      within = λ r below has. one r below ∙ are.within r below has;
      among = λ r below has. are.among r below (sym (other r below) ∙ has);
      many = are.many;
    }

-- the highest rank of a set is the first, and the others are those without it
pub ranks-first : (bits fewer rank : ℕ) → highest_below (has_rank bits) 16 ≡ Some rank
    → ((r : ℕ) → r < 16 → has_rank fewer r ≡ (has_rank bits r && not (eqb r rank)))
    → ranks_of bits ≡ rank ∷ ranks_of fewer
ranks-first bits fewer rank top without =
    let high = highest-is (has_rank bits) 16 rank top in
    (elim (ranks_of bits) as (λ ranks. ranks_of bits ≡ ranks → ranks ≡ rank ∷ ranks_of fewer) [
      | [] ↦ λ none. let fails = falling-none (has_rank bits) 16 rank none high.below in
          let passes = high.passes in absurd cc
      | first ∷ others ↦ λ are.
          let leads = falling-leads (has_rank bits) 16 first others are in
          let up = high.above first leads.first.below leads.first.passes in
          let down = leads.first.above rank high.below high.passes in
          let same : first ≡ rank = omega arith in
          ap₂ (λ r rs. r ∷ rs) same (sym (leads.others (has_rank fewer)
          (λ r below apart. without r below
          ∙ ap (λ s. has_rank bits r && not (eqb r s)) (sym same) ∙ but_one-other (has_rank bits r) r first apart)
          (without first leads.first.below ∙ ap (λ s. has_rank bits first && not (eqb first s)) (sym same)
          ∙ but_one-itself (has_rank bits first) first)))
    ]) refl

-- a set without a highest rank has none
pub ranks-over : (bits : ℕ) → highest_below (has_rank bits) 16 ≡ None → ranks_of bits ≡ []
ranks-over bits none = falling-empty (has_rank bits) 16 (λ r below. highest-none (has_rank bits) 16 r none below)
