-- Payees who are paid one after another.
use Rattle.std.proofs.Common.{◌≡◌, ◌∙◌, refl, sym, ap, ◌<◌, ◌≤◌, ℕ, zero, suc, ◌+◌, true, List, [], ◌∷◌, length, take, get_or, fold, arith}
use Rattle.std.specs.Prelude.{map, nat_lt}
use Rattle.std.proofs.lemmas.Bool.{and_parts, and_from}
use Rattle.std.proofs.lemmas.List.{take_all}
use Rattle.std.proofs.lemmas.List.Sums.{fold_more}
use Rattle.std.specs.List.{list_all}
use Rattle.rulebook.specs.Limits.{most_entries}
use Rattle.seat_book.specs.Seatings.{Seating, IsSeating}
use Rattle.table_engine.specs.declared.start.StartSeat.{StartSeat}
use Rattle.table_engine.specs.Results.{with_stack, with_stacks}
use Rattle.tournament_rules.specs.Players.{pay_one, put_back}
use Rattle.tournament_rules.proofs.Paying.{paid-one_by_one}
use Rattle.floor_book.specs.Pay.{ArePayees}
use Rattle.floor_book.proofs.Dealt.{seated_as}

-- the seats once these payees were paid one after another
pub record IsPaidSoFar (before now : Seating) (payees : List StartSeat) : Type 0 where
  pub paid : now ≡ seated_as before (fold pay_one before.players payees)
  pub lawful : IsSeating now

-- One payee more.
pub paid_next : (before now next : Seating) (payees : List StartSeat) (index : ℕ) (payee : StartSeat)
    → IsPaidSoFar before now (take index payees) → index < length payees → payee ≡ get_or payees index payee
    → next ≡ seated_as now (pay_one now.players payee) → IsSeating next
    → IsPaidSoFar before next (take (index + 1) payees)
paid_next before now next payees index payee so_far within is paid lawful = record {
  paid = (rw so_far.paid at paid) ∙ ap (seated_as before) (ap
      (pay_one (fold pay_one before.players (take index payees))) is
      ∙ sym (fold_more pay_one before.players payees index payee within));
  lawful = lawful;
}

-- Once all are paid, the stacks are back.
pub paid_last : (before now : Seating) (payees : List StartSeat) (index : ℕ)
    → IsPaidSoFar before now (take index payees) → length payees ≤ index → ArePayees payees → now
    ≡ seated_as before (put_back payees before.players)
paid_last before now payees index so_far all payable =
    so_far.paid ∙ ap (seated_as before) (ap (fold pay_one before.players) (take_all index payees all) ∙
    paid-one_by_one payees before.players payable.apart)

-- Players with other stacks are as many.
pub length_with_stacks : (players : List StartSeat) (stacks : List ℕ) → length stacks ≡ length players
    → length (with_stacks players stacks) ≡ length players
length_with_stacks [] stacks same = refl
length_with_stacks (player ∷ players) [] same = absurd (omega arith)
length_with_stacks (player ∷ players) (stack ∷ stacks) same =
    let rest : length (with_stacks players stacks) ≡ length players = length_with_stacks players stacks (omega arith) in
    omega (arith, rest)

-- A player with his stack stands where he stood.
pub payee_at : (players : List StartSeat) (stacks : List ℕ) (index : ℕ) (player : StartSeat) → length stacks
    ≡ length players → index < length players → player ≡ get_or players index player
    → with_stack player (get_or stacks index 0) ≡ get_or (with_stacks players stacks) index
    (with_stack player (get_or stacks index 0))
payee_at [] stacks index player same within is = absurd (omega arith)
payee_at (first ∷ players) [] index player same within is = absurd (omega arith)
payee_at (first ∷ players) (stack ∷ stacks) zero player same within is =
    ap (λ (player : StartSeat). with_stack player stack) is
payee_at (first ∷ players) (stack ∷ stacks) (suc index) player same within is =
    payee_at players stacks index player (omega arith) (omega arith) is

-- Players with other stacks have their numbers.
pub payees_with_stacks : (players : List StartSeat) (stacks : List ℕ) → length stacks ≡ length players
    → ArePayees players → ArePayees (with_stacks players stacks)
payees_with_stacks players stacks same payable = record {
  apart = rw (numbers players stacks same) payable.apart;
  entries = tested players stacks same payable.entries;
}
  where
    numbers : (players : List StartSeat) (stacks : List ℕ) → length stacks ≡ length players
        → map (λ payee. payee.player) (with_stacks players stacks) ≡ map (λ payee. payee.player) players
    numbers [] stacks same = refl
    numbers (player ∷ players) [] same = absurd (omega arith)
    numbers (player ∷ players) (stack ∷ stacks) same = ap (◌∷◌ player.player) (numbers players stacks (omega arith))

    tested : (players : List StartSeat) (stacks : List ℕ) → length stacks ≡ length players
        → list_all (λ payee. nat_lt payee.player most_entries) players ≡ true
        → list_all (λ payee. nat_lt payee.player most_entries) (with_stacks players stacks) ≡ true
    tested [] stacks same all = refl
    tested (player ∷ players) [] same all = absurd (omega arith)
    tested (player ∷ players) (stack ∷ stacks) same all =
        let parts = and_parts (nat_lt player.player most_entries)
        (list_all (λ payee. nat_lt payee.player most_entries) players) all in
        and_from (nat_lt player.player most_entries) (list_all (λ payee. nat_lt payee.player most_entries)
        (with_stacks players stacks)) parts.0 (tested players stacks (omega arith) parts.1)
