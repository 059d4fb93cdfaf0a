-- A street on which two can act is not closed.
use Rattle.std.proofs.Common.{◌≡◌, ◌≤◌, ℕ, true, false, List, Some, None, arith}
use Rattle.std.specs.Prelude.{Bool, Option, ◌==◌, ◌&&◌, ◌||◌, not, nat_le, nat_lt, count_by, cond}
use Rattle.std.specs.List.{list_any}
use Rattle.std.proofs.lemmas.Bool.Decides.{nat_tests}
use Rattle.std.proofs.lemmas.List.Sums.{sum_by-le-sum_by}
use Rattle.rulebook.proofs.Tests.{at_most_one}
use Rattle.betting_round.specs.declared.bettor.Player.{Player}
use Rattle.betting_round.specs.WhoIsDue.{is_there, is_live, can_act, has_put_most, is_closed}

-- Who can act is live, so at least as many are live.
few_act : (players : List (Option Player)) → count_by (is_there can_act) players ≤ count_by (is_there is_live) players
few_act players =
    sum_by-le-sum_by (λ slot. cond (is_there can_act slot) 1 0) (λ slot. cond (is_there is_live slot) 1 0) players each
  where
    each : (slot : Option Player) → cond {A = ℕ} (is_there can_act slot) 1 0 ≤ cond (is_there is_live slot) 1 0
    each None = omega arith
    each (Some player) = at_most player.bettor.live (nat_lt 0 player.bettor.behind)
      where
        at_most : (live able : Bool) → cond {A = ℕ} (live && able) 1 0 ≤ cond live 1 0
        at_most true able = at_most_one able
        at_most false able = omega arith

open_of_two : (able live : ℕ) (most : Bool) → able ≤ live
    → (not (nat_le 2 able) && (live == 1 || (able == 1 && most))) ≡ (live == 1 || (able == 1 && most))
open_of_two able live most less = grind (arith, nat_tests)

-- Where two can act the street is not closed, so the test for two may be made first.
pub open_where_two_act : (players : List (Option Player))
    → (not (nat_le 2 (count_by (is_there can_act) players)) && is_closed players) ≡ is_closed players
open_where_two_act players =
    open_of_two (count_by (is_there can_act) players) (count_by (is_there is_live) players)
    (list_any (is_there (λ player. can_act player && has_put_most players player.bettor.put)) players) (few_act players)
