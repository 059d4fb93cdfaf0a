-- How many streets of a hand may still begin.
use Rattle.std.proofs.Common.{◌≡◌, ◌∙◌, ℕ, zero, suc, ◌+◌, ◌≤◌, List, [], ◌∷◌, ◌++◌, length, map, ap, sym, inl, inr, subst, arith}
use Rattle.std.specs.Prelude.{reverse}
use Rattle.std.proofs.lemmas.Bool.{cases_Bool}
use Rattle.std.proofs.lemmas.List.{map-append, reverse-append}
use Rattle.betting_round.specs.StreetActs.{SeatAct}
use Rattle.table_engine.specs.declared.record.ActOf.{ActOf}
use Rattle.table_engine.specs.declared.start.HandStart.{HandStart}
use Rattle.table_engine.specs.Hands.{HandTerms, Streets, by_seat, dealt_on, first_streets, has_ended, street_now, streets_after, streets_of, with_act, with_next_street}

-- Three streets may follow the first of a hand.
record IsOfFour (streets : Streets) : Type 0 where
  all : length streets.before + streets.left ≡ 3

of_four-dealt : (start : HandStart) (left : ℕ) (streets : Streets) → left ≤ streets.left → IsOfFour streets
    → IsOfFour (dealt_on start left streets)
of_four-dealt start zero streets within four = four
of_four-dealt start (suc left) streets within four =
    let all = four.all in
    elim (cases_Bool (has_ended (street_now streets))) [
      | inl ended ↦
          rw ended
          (of_four-dealt start left (with_next_street start streets) (omega arith) (record { all = omega arith }))
      | inr open_ ↦ rw open_ four
    ]

of_four-after : (start : HandStart) (acts : List SeatAct) → IsOfFour (streets_after start acts)
unfolding streets_after
of_four-after start [] = of_four-dealt start 3 (first_streets start) (omega arith) (record { all = omega arith })
of_four-after start (entry ∷ acts) =
    let after = with_act (streets_after start acts) entry in
    let four = of_four-after start acts in
    of_four-dealt start after.left after (omega arith) (record { all = four.all })

-- The streets that have begun behind the first and those that may still begin are three.
pub three-behind : (hand : HandTerms) → length (streets_of hand).before + (streets_of hand).left ≡ 3
three-behind hand = (of_four-after hand.start (reverse (map (by_seat hand.start) hand.acts))).all

-- At most three streets may still begin.
pub left-three : (hand : HandTerms) → (streets_of hand).left ≤ 3
left-three hand = omega (arith, three-behind hand)

less-dealt : (start : HandStart) (left : ℕ) (streets : Streets) → (dealt_on start left streets).left ≤ streets.left
less-dealt start zero streets = omega arith
less-dealt start (suc left) streets =
    elim (cases_Bool (has_ended (street_now streets))) [
      | inl ended ↦
          let later = less-dealt start left (with_next_street start streets) in
          rw ended (omega (arith, later))
      | inr open_ ↦ rw open_ (omega arith)
    ]

less-after : (start : HandStart) (entry : SeatAct) (acts : List SeatAct)
    → (streets_after start (entry ∷ acts)).left ≤ (streets_after start acts).left
unfolding streets_after
less-after start entry acts =
    let after = with_act (streets_after start acts) entry in less-dealt start after.left after

-- No more streets may still begin after one more act.
pub left-falls : (hand : HandTerms) (act : ActOf)
    → (streets_of (record hand { acts = hand.acts ++ act ∷ [] })).left ≤ (streets_of hand).left
left-falls hand act =
    let start = hand.start in
    let made = map-append (by_seat start) hand.acts (act ∷ []) in
    let turned = reverse-append (map (by_seat start) hand.acts) (by_seat start act ∷ []) in
    let list : reverse (map (by_seat start) (hand.acts ++ act ∷ []))
    ≡ by_seat start act ∷ reverse (map (by_seat start) hand.acts) = ap reverse made ∙ turned in
    let P : List SeatAct → Type 0 = λ acts. (streets_after start acts).left ≤ (streets_of hand).left in
    subst P (sym list) (less-after start (by_seat start act) (reverse (map (by_seat start) hand.acts)))
