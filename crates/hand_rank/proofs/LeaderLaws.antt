-- The ranks that may occur most often in a hand, where the others have to leave room for the hole cards.
use Rattle.std.proofs.Common.{◌≡◌, ℕ, ◌+◌, ◌<◌, ◌≤◌, inl, inr, Bool, true, false, ◌&&◌, ◌||◌, not, eqb, leb, cond, List, [], ◌∷◌, ◌++◌, length, Some, None, refl, sym, ap, ◌∙◌, subst, le_trans, eqb-true, leb-true, le-leb, lit≤, arith}
use Rattle.std.specs.Prelude.{Option}
use Rattle.std.proofs.lemmas.Bool.{and_from, and_parts}
use Rattle.std.proofs.lemmas.Bool.Decides.{nat_tests}
use Rattle.card_set.specs.declared.card.Card.{Card}
use Rattle.rulebook.proofs.Sides.{others_alone}
use Rattle.card_choices.proofs.ListOrder.{Upto, upto_itself, upto_through, max_upper}
use Rattle.hand_rank.specs.declared.rank_set.RankSet.{RankSet}
use Rattle.hand_rank.specs.Held.{MayLead, HasOneOf, OneHasToLead}
use Rattle.hand_rank.specs.Picks.{highest_below}
use Rattle.hand_rank.specs.Sets.{has_rank, HasRanks}
use Rattle.hand_rank.specs.Sets.{falling, ranks_of}
use Rattle.hand_rank.specs.SoMany.{AreSoMany, IsGreatest, IsGreatestWith}
use Rattle.hand_rank.specs.Values.{count_of_rank}
use Rattle.hand_rank.proofs.CardCounts.{other-rank, total-cards}
use Rattle.hand_rank.proofs.HandLaws.{two-ranks, total-least, upto-of}
use Rattle.hand_rank.proofs.PickLaws.{highest-is, highest-none}
use Rattle.hand_rank.proofs.Sections.{falling-none, falling-empty, falling-leads}
use Rattle.hand_rank.proofs.SetOrder.{ranks-empty}
use Rattle.hand_rank.proofs.ShapeLaws.{rank-within}
use Rattle.hand_rank.proofs.ShapedLaws.{falling-15, total-passing}
use Rattle.hand_rank.proofs.SoManyLaws.{bit, either_way, both-are, but_one-itself, but_one-other, falling-fewer, falling-but_one, falling-upto, none-greatest, some-rank}

-- how many ranks two hole cards have at most
few-hole : (bits : ℕ) (hole : List Card) → length hole ≤ 2 → HasRanks bits 1 (count_of_rank hole)
    → length (falling (has_rank bits) 16) ≤ 2
few-hole bits hole two has =
    let count = count_of_rank hole in
    let p = has_rank bits in
    let nothing = other-rank hole 15 (inl (lit≤ tt)) in
    let none : p 15 ≡ false = has.at 15 (lit≤ tt) ∙ ap (leb 1) nothing in
    let same = ap length (falling-15 p none) in
    let passing = total-passing p 15 in
    let less = total-least (λ r. cond (p r) 1 0) count 15 (λ r within. each r within) in
    let all = total-cards hole in
    omega (arith, same, passing, less, all, two)
  where
    each : (r : ℕ) → r < 15 → cond (has_rank bits r) 1 0 ≤ count_of_rank hole r
    each r within = (elim (has_rank bits r) as (λ b. has_rank bits r ≡ b → cond b 1 0 ≤ count_of_rank hole r) [
      | true ↦ λ is. leb-true 1 (count_of_rank hole r) (sym (has.at r (omega arith)) ∙ is)
      | false ↦ λ is_not. omega arith
    ]) refl

-- hole cards fit beside others where none of their ranks occurs more often
pub hole-fits : (bits : ℕ) (hole : List Card) (j : ℕ) → HasRanks bits (j + 1) (count_of_rank hole)
    → ranks_of bits ≡ [] → (r : ℕ) → count_of_rank hole r ≤ j
hole-fits bits hole j has none r =
    elim (leb (j + 1) (count_of_rank hole r)) as (λ b. leb (j + 1) (count_of_rank hole r) ≡ b
    → count_of_rank hole r ≤ j) [
      | false ↦ λ few. grind (arith, nat_tests)
      | true ↦ λ more.
          let many = leb-true (j + 1) (count_of_rank hole r) more in
          let within = rank-within hole r (omega arith) in
          let there : has_rank bits r ≡ true = has.at r (omega arith) ∙ more in
          let fails = falling-none (has_rank bits) 16 r none (omega arith) in
          absurd cc
    ] refl

-- a rank that hole cards have more often than the others occur has to lead
pub lead-more : (bits : ℕ) (hole : List Card) (c j : ℕ) → length hole ≤ 2 → 1 ≤ j
    → HasRanks bits (j + 1) (count_of_rank hole) → 1 ≤ length (ranks_of bits) → OneHasToLead bits hole c j
lead-more bits hole c j few once has some = record {
  enough = λ ranks one. elim one [
    | inl none ↦ let empty = ap length none in absurd (omega arith)
    | inr at ↦
        let many = leb-true (j + 1) (count_of_rank hole at.0) (sym (has.at at.0 at.1) ∙ at.2) in
        let nothing : (r : ℕ) → ranks r ≡ false → count_of_rank hole r ≡ 0 = λ r is_not.
        let all = two-ranks hole r at.0 (λ same. let bad = sym (ap ranks same ∙ at.3) ∙ is_not in absurd cc) in
        omega (arith, all, many, few, once) in
        record {
          few = λ r is_not. let none = nothing r is_not in omega arith;
          room = let empty = ap length (falling-empty (λ r. leb 1 (count_of_rank hole r) && not (ranks r)) 16
              (λ r below. either_way (leb 1 (count_of_rank hole r) && not (ranks r))
              ((leb 1 (count_of_rank hole r) && not (ranks r)) ≡ false) (λ has_it.
              let parts = both-are (leb 1 (count_of_rank hole r)) (ranks r) has_it in
              let none = nothing r parts.1 in
              let there = leb-true 1 (count_of_rank hole r) parts.0 in absurd (omega arith)) (λ fails. fails))) in
              omega arith;
        }
  ];
  needed = λ ranks leaves.
      let at = some-rank bits some in
      let many = leb-true (j + 1) (count_of_rank hole at.0) (sym (has.at at.0 at.1) ∙ at.2) in
      inr (
        at.0,
        at.1,
        at.2,
        either_way (ranks at.0) (ranks at.0 ≡ true) (λ in_ranks. in_ranks) (λ not_in.
            let room = leaves.few at.0 not_in in absurd (omega arith)),
      );
}

-- a rank of the hole cards has to lead where they have more than there are others
pub lead-once : (bits : ℕ) (hole : List Card) (c j : ℕ) → length hole ≤ 2 → HasRanks bits 1 (count_of_rank hole)
    → 1 ≤ c → ((r : ℕ) → count_of_rank hole r ≤ j) → c < length (ranks_of bits) → OneHasToLead bits hole c j
lead-once bits hole c j two is some fits more =
    let p = has_rank bits in
    let few = few-hole bits hole two is in
    record {
      enough = λ ranks has. elim has [
        | inl none ↦ let empty = ap length none in absurd (omega arith)
        | inr at ↦ record {
          few = λ r is_not. fits r;
          room =
              let q : ℕ → Bool = λ r. p r && not (eqb r at.0) in
              let change = falling-but_one p q at.0 16 at.1 (λ r apart. but_one-other (p r) r at.0 apart) in
              let a : bit (p at.0) ≡ 1 = ap bit at.2 in
              let b : bit (q at.0) ≡ 0 = ap bit (but_one-itself (p at.0) at.0) in
              let fewer = falling-fewer (λ r. leb 1 (count_of_rank hole r) && not (ranks r)) q 16 (λ r below has_it.
              let parts = both-are (leb 1 (count_of_rank hole r)) (ranks r) has_it in
              and_from (p r) (not (eqb r at.0)) (is.at r below ∙ parts.0)
              (either_way (eqb r at.0) (not (eqb r at.0) ≡ true) (λ same.
              let bad = ap ranks (eqb-true r at.0 same) ∙ at.3 in let is_not = parts.1 in absurd cc)
              (λ differs. ap not differs))) in
              omega (arith, change, few, a, b, fewer, some);
        }
      ];
      needed = λ ranks leaves.
          let both : ℕ → Bool = λ r. leb 1 (count_of_rank hole r) && ranks r in
          elim (falling both 16) as (λ rs. falling both 16 ≡ rs → HasOneOf bits ranks) [
            | [] ↦ λ none.
                let fewer = falling-fewer p (λ r. leb 1 (count_of_rank hole r) && not (ranks r)) 16 (λ r below has.
                let there = sym (is.at r below) ∙ has in
                and_from (leb 1 (count_of_rank hole r)) (not (ranks r)) there
                (either_way (ranks r) (not (ranks r) ≡ true) (λ has_it.
                let fails = falling-none both 16 r none below in
                let passes = and_from (leb 1 (count_of_rank hole r)) (ranks r) there has_it in absurd cc)
                (λ has_not. ap not has_not))) in
                let room = leaves.room in
                absurd (omega (arith, more, fewer, room))
            | r ∷ rs ↦ λ are.
                let leads = falling-leads both 16 r rs are in
                let parts = and_parts (leb 1 (count_of_rank hole r)) (ranks r) leads.first.passes in
                inr (
                  r,
                  leads.first.below,
                  is.at r leads.first.below ∙ parts.0,
                  parts.1,
                )
          ] refl;
    }

-- and else none has to
pub lead-none : (once bits : ℕ) (hole : List Card) (c j : ℕ) → HasRanks once 1 (count_of_rank hole)
    → ((r : ℕ) → count_of_rank hole r ≤ j) → length (ranks_of once) ≤ c → bits ≡ 0 → OneHasToLead bits hole c j
lead-none once bits hole c j is fits few empty = record {
  enough = λ ranks has. record {
    few = λ r is_not. fits r;
    room = le_trans (falling-fewer (λ r. leb 1 (count_of_rank hole r) && not (ranks r)) (has_rank once)
        16 (λ r below has_it. is.at r below
        ∙ (and_parts (leb 1 (count_of_rank hole r)) (not (ranks r)) has_it).0)) few;
  };
  needed = λ ranks leaves. inl (ranks-empty bits empty);
}

-- the greatest of some sets is the greatest of more, where each of those comes no later than one of these
greatest-through : (result : Option RankSet) (A B : (ℕ → Bool) → Type 0) → IsGreatest result A
    → ((ranks : ℕ → Bool) → A ranks → B ranks)
    → ((ranks : ℕ → Bool) → B ranks
    → (others : ℕ → Bool) × A others × Upto (falling ranks 16) (falling others 16)) → IsGreatest result B
greatest-through result A B is also through = record {
  are = λ set found. also (has_rank set.bits) (is.are set found);
  greatest = λ set ranks found are.
      let at = through ranks are in
      max_upper (falling ranks 16) (falling (has_rank set.bits) 16)
      (upto_through (falling ranks 16) (falling at.0 16) (falling (has_rank set.bits) 16) at.2
      (upto-of (falling at.0 16) (falling (has_rank set.bits) 16) (is.greatest set at.0 found at.1)));
  some = λ ranks are. let at = through ranks are in is.some at.0 at.1;
}

-- the greatest ranks lead where any may
pub leaders-any : (hole board : List Card) (m k c j bits : ℕ) (from forced : RankSet) (found : Option RankSet)
    → HasRanks from.bits k (count_of_rank (hole ++ board)) → OneHasToLead bits hole c j → ranks_of bits ≡ []
    → forced.bits ≡ 0 → IsGreatestWith found (has_rank from.bits) (has_rank forced.bits) m
    → IsGreatest found (MayLead hole board m k c j)
leaders-any hole board m k c j bits from forced found has lead empty nothing greatest =
    greatest-through found (AreSoMany (has_rank from.bits) (has_rank forced.bits) m) (MayLead hole board m k c j)
    greatest.is
    (λ ranks are. record {
      within = λ r below is. leb-true k (count_of_rank (hole ++ board) r)
          (sym (has.at r below) ∙ are.within r below is);
      many = are.many;
      leaves = lead.enough ranks (inl empty);
    })
    (λ ranks may. (
      ranks,
      record {
        within = λ r below is. has.at r below ∙ le-leb k (count_of_rank (hole ++ board) r) (may.within r below is);
        among = λ r below is.
            let fails = falling-none (has_rank forced.bits) 16 r (ranks-empty forced.bits nothing) below in
            absurd cc;
        many = may.many;
      },
      upto_itself (falling ranks 16),
    ))

-- a lower rank gives way to the one that has to be there
gives-way : (m first y : ℕ) (from forced : RankSet) (ranks : ℕ → Bool)
    → ((r : ℕ) → has_rank forced.bits r ≡ eqb r first) → first < 16 → has_rank from.bits first ≡ true
    → ((r : ℕ) → r < 16 → ranks r ≡ true → has_rank from.bits r ≡ true) → length (falling ranks 16) ≡ m → y < 16
    → ranks y ≡ true → y ≤ first
    → (others : ℕ → Bool) × AreSoMany (has_rank from.bits) (has_rank forced.bits) m others
    × Upto (falling ranks 16) (falling others 16)
gives-way m first y from forced ranks one below has_first inside many under in_ranks up =
    either_way (ranks first) ((others : ℕ → Bool)
    × AreSoMany (has_rank from.bits) (has_rank forced.bits) m others
    × Upto (falling ranks 16) (falling others 16))
    (λ there. (
      ranks,
      record {
        within = inside;
        among = λ r within is. subst (λ s. ranks s ≡ true) (sym (eqb-true r first (sym (one r) ∙ is))) there;
        many = many;
      },
      upto_itself (falling ranks 16),
    ))
    (λ not_there.
    let fewer : ℕ → Bool = λ r. ranks r && not (eqb r y) in
    let others : ℕ → Bool = λ r. fewer r || eqb r first in
    let apart : eqb first y ≡ false = either_way (eqb first y) (eqb first y ≡ false) (λ same.
    let bad = ap ranks (eqb-true first y same) ∙ in_ranks in absurd cc) (λ differs. differs) in
    let less = falling-but_one ranks fewer y 16 under (λ r differs. but_one-other (ranks r) r y differs) in
    let more = falling-but_one fewer others first 16 below (λ r differs. or_other (fewer r) r differs) in
    let a : bit (ranks y) ≡ 1 = ap bit in_ranks in
    let b : bit (fewer y) ≡ 0 = ap bit (but_one-itself (ranks y) y) in
    let d : bit (fewer first) ≡ 0 = ap (λ t. bit (t && not (eqb first y))) not_there in
    let e : bit (others first) ≡ 1 = ap bit (or_itself (fewer first)) in
    let count : length (falling others 16) ≡ m = omega (arith, less, more, a, b, d, e, many) in (
      others,
      record {
        within = λ r within is. either_way (fewer r) (has_rank from.bits r ≡ true)
            (λ kept. inside r within (both-are (ranks r) (eqb r y) kept).0)
            (λ not_kept. subst (λ s. has_rank from.bits s ≡ true)
            (sym (eqb-true r first (others_alone (fewer r) (eqb r first) is not_kept))) has_first);
        among = λ r within is. or_right (fewer r) (sym (one r) ∙ is);
        many = count;
      },
      falling-upto ranks others 16 (λ r q within inside_q in_r not_r in_q not_q.
          lower (ranks r) (ranks q) r q in_r not_r in_q not_q apart) (omega (arith, count, many)),
    ))
  where
    or_other : (b : Bool) (r : ℕ) → (r ≡ first → ⊥) → (b || eqb r first) ≡ b
    or_other true r differs = refl
    or_other false r differs = grind (arith, nat_tests)

    or_itself : (b : Bool) → (b || eqb first first) ≡ true
    or_itself true = refl
    or_itself false = grind (arith, nat_tests)

    or_right : (b : Bool) {t : Bool} → t ≡ true → (b || t) ≡ true
    or_right true is = refl
    or_right false is = is

    lower : (in_r in_q : Bool) (r q : ℕ) → in_r ≡ true → ((in_r && not (eqb r y)) || eqb r first) ≡ false
        → ((in_q && not (eqb q y)) || eqb q first) ≡ true → in_q ≡ false → eqb first y ≡ false → r < q
    lower true false r q is fails passes is_not apart = grind (arith, nat_tests)
    lower true true r q is fails passes is_not apart = absurd cc
    lower false in_q r q is fails passes is_not apart = absurd cc

-- where one of some has to, the greatest ranks with the highest of those
pub leaders-with : (hole board : List Card) (m k c j bits first : ℕ) (from both forced : RankSet)
    (found : Option RankSet) → HasRanks from.bits k (count_of_rank (hole ++ board)) → OneHasToLead bits hole c j
    → 1 ≤ length (ranks_of bits) → ((r : ℕ) → has_rank both.bits r ≡ (has_rank from.bits r && has_rank bits r))
    → highest_below (has_rank both.bits) 16 ≡ Some first → ((r : ℕ) → has_rank forced.bits r ≡ eqb r first)
    → IsGreatestWith found (has_rank from.bits) (has_rank forced.bits) m
    → IsGreatest found (MayLead hole board m k c j)
leaders-with hole board m k c j bits first from both forced found has lead some meet top one greatest =
    let high = highest-is (has_rank both.bits) 16 first top in
    let parts = and_parts (has_rank from.bits first) (has_rank bits first) (sym (meet first) ∙ high.passes) in
    let itself : eqb first first ≡ true = grind (arith, nat_tests) in
    greatest-through found (AreSoMany (has_rank from.bits) (has_rank forced.bits) m) (MayLead hole board m k c j)
    greatest.is
    (λ ranks are. record {
      within = λ r below is. leb-true k (count_of_rank (hole ++ board) r)
          (sym (has.at r below) ∙ are.within r below is);
      many = are.many;
      leaves = lead.enough ranks (inr (
        first,
        high.below,
        parts.1,
        are.among first high.below (one first ∙ itself),
      ));
    })
    (λ ranks may.
    let inside : (r : ℕ) → r < 16 → ranks r ≡ true → has_rank from.bits r ≡ true = λ r below is.
    has.at r below ∙ le-leb k (count_of_rank (hole ++ board) r) (may.within r below is) in
    elim (lead.needed ranks may.leaves) [
      | inl none ↦ let empty = ap length none in absurd (omega arith)
      | inr at ↦
          let up = high.above at.0 at.1 (meet at.0
          ∙ and_from (has_rank from.bits at.0) (has_rank bits at.0) (inside at.0 at.1 at.3) at.2) in
          gives-way m first at.0 from forced ranks one high.below parts.0 inside may.many at.1 at.3 up
    ])

-- and where none of those occurs as often, none lead
pub leaders-none : (hole board : List Card) (m k c j bits : ℕ) (from both : RankSet) (found : Option RankSet)
    → HasRanks from.bits k (count_of_rank (hole ++ board)) → OneHasToLead bits hole c j
    → 1 ≤ length (ranks_of bits) → ((r : ℕ) → has_rank both.bits r ≡ (has_rank from.bits r && has_rank bits r))
    → highest_below (has_rank both.bits) 16 ≡ None → found ≡ None → IsGreatest found (MayLead hole board m k c j)
leaders-none hole board m k c j bits from both found has lead some meet none is_none =
    subst (λ o. IsGreatest o (MayLead hole board m k c j)) (sym is_none)
    (none-greatest (MayLead hole board m k c j) (λ ranks may. elim (lead.needed ranks may.leaves) [
      | inl empty ↦ let length_none = ap length empty in absurd (omega arith)
      | inr at ↦
          let fails = highest-none (has_rank both.bits) 16 at.0 none at.1 in
          let passes = meet at.0 ∙ and_from (has_rank from.bits at.0) (has_rank bits at.0)
          (has.at at.0 at.1 ∙ le-leb k (count_of_rank (hole ++ board) at.0) (may.within at.0 at.1 at.3)) at.2 in
          absurd cc
    ]))
