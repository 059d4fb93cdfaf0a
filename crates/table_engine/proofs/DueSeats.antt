-- Who else is on a street where somebody is due, and who can still act where a street has ended.
use Rattle.std.proofs.Common.{◌≡◌, ◌≢◌, ◌∙◌, ℕ, suc, ◌+◌, ◌-◌, ◌≤◌, ◌<◌, Bool, true, false, None, Some, ap, sym, inl, inr, arith}
use Rattle.std.specs.Prelude.{◌==◌, ◌&&◌, ◌⊎◌, count_by, find, is_none, nat_lt, not, slice_index_or}
use Rattle.std.specs.List.{list_any}
use Rattle.std.proofs.lemmas.Bool.{and_cases, and_parts, cases_Bool, cases_lt, eq-eqb, eqb-true, ltb-true, not-false, not-true, or_from, or_parts}
use Rattle.std.proofs.lemmas.Bool.Decides.{nat_tests}
use Rattle.rulebook.specs.Seats.{clockwise_after}
use Rattle.rulebook.proofs.Among.{is_among, all-among}
use Rattle.rulebook.proofs.Found.{none-by_test}
use Rattle.rulebook.proofs.OccupiedSeats.{among-clockwise}
use Rattle.rulebook.proofs.Passing.{none-find, not-any}
use Rattle.button_blinds.proofs.Distances.{IsSeat, found-nearest, most_steps, steps_to}
use Rattle.betting_round.specs.declared.bettor.Player.{Player}
use Rattle.betting_round.specs.declared.street.Street.{Street}
use Rattle.betting_round.specs.WhoIsDue.{can_act, due_seat, has_put_most, is_closed, is_one_live, is_only_one_to_act, is_there, may_be_due, player_at}
use Rattle.betting_round.proofs.Turns.{due-can_act, due-high, due-low}
use Rattle.table_engine.specs.Hands.{has_ended}
use Rattle.table_engine.proofs.Sitting.{Sits, another-or_one, none-there, only-one, sits-index, sits-same, some-passes}

-- Where somebody is due the street is not closed.
due-open : (street : Street) (seat : ℕ) → due_seat street ≡ Some seat → is_closed street.players ≡ false
unfolding due_seat
due-open street seat due =
    elim (cases_Bool (is_closed street.players)) [
      | inl closed ↦ let never : None ≡ Some seat = rw closed at due in absurd cc
      | inr open_ ↦ open_
    ]

-- Where somebody is due more than one player is live.
pub due-many : (street : Street) (seat : ℕ) → due_seat street ≡ Some seat → is_one_live street.players ≡ false
due-many street seat due =
    (or_parts (is_one_live street.players) (is_only_one_to_act street.players) (due-open street seat due)).0

-- Another player than the one in a seat can act, or is live and has put in more.
pub record IsBeside (street : Street) (seat : ℕ) (now : Player) : Type 0 where
  pub other : ℕ
  pub found : Player
  pub apart : other ≢ seat
  pub sits : Sits street.players other found
  pub does : (can_act found ≡ true) ⊎ ((found.bettor.live ≡ true) × (now.bettor.put < found.bettor.put))

-- Beside who is due another can act, or is live and has put in more.
pub due-beside : (street : Street) (seat : ℕ) (now : Player) → due_seat street ≡ Some seat
    → Sits street.players seat now → IsBeside street seat now
due-beside street seat now due sits =
    let can : can_act now ≡ true = rw sits.there at (due-can_act street seat due) in
    let low = sits.low in
    elim (another-or_one can_act street.players (seat - 1) now sits.there can) [
      | inl another ↦
          let some = another.some in
          let apart : some.index + 1 ≢ seat = λ same. another.apart (omega (arith, same)) in
          record {
            other = some.index + 1;
            found = some.found;
            apart = apart;
            sits = sits-index street.players some.index some.found some.there;
            does = inl some.passes;
          }
      | inr one ↦
          let only = (or_parts (is_one_live street.players) (is_only_one_to_act street.players)
          (due-open street seat due)).1 in
          elim (and_cases (count_by (is_there can_act) street.players == 1)
          (list_any (is_there (λ player. can_act player && has_put_most street.players player.bettor.put))
          street.players) only) [
            | inl many ↦
                let alone = eq-eqb (count_by (is_there can_act) street.players) 1 one in
                let never : true ≡ false = sym alone ∙ many in
                absurd cc
            | inr none ↦
                let his : (can_act now && has_put_most street.players now.bettor.put) ≡ false =
                none-there (λ player. can_act player && has_put_most street.players player.bettor.put)
                street.players (seat - 1) now none sits.there in
                more-beside (rw can at his)
          ]
    ]
  where
    more-beside : has_put_most street.players now.bettor.put ≡ false → IsBeside street seat now
    more-beside fewer =
        let test : Player → Bool = λ other. other.bettor.live && nat_lt now.bettor.put other.bettor.put in
        let some = some-passes test street.players
        (not-false (list_any (is_there test) street.players) (not-any (is_there test) street.players ∙ fewer)) in
        let found = some.found in
        let parts = and_parts found.bettor.live (nat_lt now.bettor.put found.bettor.put) some.passes in
        let more = ltb-true now.bettor.put found.bettor.put parts.1 in
        let there = sits-index street.players some.index found some.there in
        let apart : some.index + 1 ≢ seat = λ same.
        (let him = sits-same street.players seat (some.index + 1) now found sits there same in
        let put : found.bettor.put ≡ now.bettor.put = ap (λ (p : Player). p.bettor.put) him in
        omega (arith, more, put)) in
        record {
          other = some.index + 1;
          found = found;
          apart = apart;
          sits = there;
          does = inr (parts.0, more);
        }

-- Who is due is no more steps away, clockwise from the seat of the last act, than any other who may be due.
pub due-nearest : (street : Street) (seat other : ℕ) (found : Player) → due_seat street ≡ Some seat
    → IsSeat 10 street.after → Sits street.players other found → other ≤ 10
    → may_be_due street.level found ≡ true → steps_to 10 street.after seat ≤ steps_to 10 street.after other
unfolding due_seat
due-nearest street seat other found due at sits high may =
    let open_ = due-open street seat due in
    let first : find (λ s. is_there (may_be_due street.level) (player_at street.players s))
    (clockwise_after 10 street.after) ≡ Some seat = rw open_ at due in
    let here : is_there (may_be_due street.level) (player_at street.players other) ≡ true =
    ap (is_there (may_be_due street.level)) sits.there ∙ may in
    let reach = most_steps 10 street.after other at.0 at.1 sits.low high in
    found-nearest (λ s. is_there (may_be_due street.level) (player_at street.players s)) 10 10 street.after seat other
    at (due-low street seat due, due-high street seat due) (sits.low, high) first here reach

-- A walk of ten seats comes to each of them, wherever it starts.
comes-ten : (after index : ℕ) → index < 10 → is_among (suc index) (clockwise_after 10 after) ≡ true
comes-ten after index within =
    elim (cases_lt after 10) [
      | inl below ↦ among-clockwise 10 after (suc index) (omega arith) (omega arith) (omega arith)
      | inr above ↦
          let past : nat_lt after 10 ≡ false = grind (arith, nat_tests) in
          let last = among-clockwise 10 10 (suc index) (omega arith) (omega arith) (omega arith) in
          rw past last
    ]

-- Where nobody is due on a street that is not closed, nobody may be.
pub nobody-may : (street : Street) (index : ℕ) → has_ended street ≡ true → is_closed street.players ≡ false
    → index < 10 → is_there (may_be_due street.level) (player_at street.players (suc index)) ≡ false
unfolding due_seat
nobody-may street index ended open_ within =
    let parts = and_parts (is_none (due_seat street)) (not (is_one_live street.players)) ended in
    let seats = clockwise_after 10 street.after in
    let search : is_none (find (λ seat. is_there (may_be_due street.level) (player_at street.players seat)) seats) ≡
    true = rw open_ at parts.0 in
    let nobody = none-find (λ seat. is_there (may_be_due street.level) (player_at street.players seat)) seats
    (none-by_test (find (λ seat. is_there (may_be_due street.level) (player_at street.players seat)) seats) search) in
    not-true (is_there (may_be_due street.level) (player_at street.players (suc index)))
    (all-among (λ seat. not (is_there (may_be_due street.level) (player_at street.players seat))) (suc index) seats
    nobody (comes-ten street.after index within))

-- Who can act where a street has ended may not be due, or no live player has put in more.
pub ended-met : (street : Street) (seat : ℕ) (now : Player) → has_ended street ≡ true → Sits street.players seat now
    → seat ≤ 10 → can_act now ≡ true
    → (may_be_due street.level now ≡ false) ⊎ (has_put_most street.players now.bettor.put ≡ true)
ended-met street seat now ended sits high can =
    let parts = and_parts (is_none (due_seat street)) (not (is_one_live street.players)) ended in
    let many = not-true (is_one_live street.players) parts.1 in
    elim (cases_Bool (is_only_one_to_act street.players)) [
      | inl only ↦
          let both = and_parts (count_by (is_there can_act) street.players == 1)
          (list_any (is_there (λ player. can_act player && has_put_most street.players player.bettor.put))
          street.players) only in
          inr (only-one can_act (λ player. has_put_most street.players player.bettor.put) street.players (seat - 1) now
          (eqb-true (count_by (is_there can_act) street.players) 1 both.0) both.1 sits.there can)
      | inr wide ↦
          let low = sits.low in
          let open_ = or_from (is_one_live street.players) (is_only_one_to_act street.players) many wide in
          let back : suc (seat - 1) - 1 ≡ seat - 1 = omega arith in
          let there : player_at street.players (suc (seat - 1)) ≡ Some now =
          ap (λ (n : ℕ). slice_index_or street.players n None) back ∙ sits.there in
          inl (sym (ap (is_there (may_be_due street.level)) there)
          ∙ nobody-may street (seat - 1) ended open_ (omega (arith, low, high)))
    ]
