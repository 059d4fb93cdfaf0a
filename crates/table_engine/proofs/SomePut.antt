-- Somebody has put in a chip at each moment of every lawful play: the big blind is posted.
use Rattle.std.proofs.Common.{◌≡◌, ◌∙◌, ℕ, ◌+◌, ◌-◌, ◌<◌, true, None, List, [], ◌∷◌, ap, inl, inr, arith}
use Rattle.std.specs.Prelude.{◌==◌, sum_by}
use Rattle.std.specs.List.{list_all, list_any}
use Rattle.std.proofs.lemmas.Bool.{and_parts, cases_Bool}
use Rattle.std.proofs.lemmas.List.Sums.{sum_by-cons}
use Rattle.betting_round.specs.declared.act.Act.{Act}
use Rattle.betting_round.specs.declared.bettor.Bettor.{Bettor}
use Rattle.betting_round.specs.declared.bettor.Player.{Player}
use Rattle.betting_round.specs.declared.street.Street.{Street}
use Rattle.betting_round.specs.ActChecks.{act_refusal}
use Rattle.betting_round.specs.Running.{amount_of, moved}
use Rattle.betting_round.specs.StreetActs.{SeatAct, fresh, sum_over}
use Rattle.betting_round.proofs.Acted.{who-acts}
use Rattle.betting_round.proofs.Steps.{street_start_is, sum_map, sum_set}
use Rattle.pot_layers.specs.Tallies.{total_put}
use Rattle.table_engine.specs.declared.start.HandStart.{HandStart}
use Rattle.table_engine.specs.declared.start.StartSeat.{StartSeat}
use Rattle.table_engine.specs.Acts.{limits_on}
use Rattle.table_engine.specs.Hands.{HandTerms, Streets, first_street, first_streets, players_by_seat, posted, put_on, seated, street_now, streets_of, with_act, with_next_street}
use Rattle.table_engine.specs.Plays.{IsLawfulPlay}
use Rattle.table_engine.specs.Results.{pot, pots_in_hand, puts_in_hand}
use Rattle.table_engine.specs.Starts.{IsLawfulStart, is_playable_stack}
use Rattle.table_engine.proofs.Along.{kept-play}
use Rattle.table_engine.proofs.BySeat.{sum-of_start}
use Rattle.table_engine.proofs.Chips.{pot-is}
use Rattle.table_engine.proofs.Showdowns.{pots-sum, put-pot}
use Rattle.table_engine.proofs.Sound.{IsSound, placed-is}
use Rattle.table_engine.proofs.WholeUnits.{AreBlinds, blinds-lawful, playable-parts}
use Rattle.pot_layers.specs.PotTests.{total_of}

-- What was put in on the streets so far.
put_on_all : Streets → ℕ
put_on_all streets = put_on streets.last + sum_by put_on streets.before

-- Who sits in the big mark's seat posts a chip at least.
big-posts : (start : HandStart) (player : StartSeat) → AreBlinds start → (player.seat == start.marks.big) ≡ true
    → 0 < player.stack → 0 < posted start player
big-posts start player blinds is some = let big = blinds.some in rw is (omega arith)

-- Where one of some players sits in the big mark's seat, they post a chip at least.
some-posted : (start : HandStart) (players : List StartSeat) → AreBlinds start
    → list_any (λ player. player.seat == start.marks.big) players ≡ true
    → list_all (λ player. is_playable_stack start.blind.unit player.stack) players ≡ true
    → 0 < sum_by (posted start) players
some-posted start [] blinds there stacks = absurd cc
some-posted start (player ∷ players) blinds there stacks =
    let all = sum_by-cons (posted start) player players in
    let parts = and_parts (is_playable_stack start.blind.unit player.stack)
    (list_all (λ other. is_playable_stack start.blind.unit other.stack) players) stacks in
    elim (cases_Bool (player.seat == start.marks.big)) [
      | inl is ↦
          let his = big-posts start player blinds is
          (playable-parts start.blind.unit player.stack parts.0).0 in
          omega arith
      | inr other ↦ let later = some-posted start players blinds (rw other at there) parts.1 in omega arith
    ]

-- Before any act the blinds are put in.
some-first : (start : HandStart) → IsLawfulStart start → 0 < put_on_all (first_streets start)
unfolding put_on_all
some-first start lawful =
    let first = first_street start in
    let began = street_start_is first in
    let put : put_on (first_streets start).last ≡ sum_over (posted start) (players_by_seat start) =
    ap (λ (s : Street). sum_over (λ (player : Player). player.bettor.put) s.players) began
    ∙ sum_map (λ (player : Player). player.bettor.put) fresh first.bettors
    ∙ sum_map (λ (bettor : Bettor). bettor.put) (seated start) (players_by_seat start) in
    let all = sum-of_start start (posted start) lawful in
    let some = some-posted start start.seats (blinds-lawful start lawful) lawful.big lawful.stacks in
    omega arith

-- What is put in stays in where the next street begins.
some-next : (start : HandStart) (streets : Streets) → 0 < put_on_all streets
    → 0 < put_on_all (with_next_street start streets)
unfolding put_on_all
some-next start streets some = let all = sum_by-cons put_on streets.last streets.before in omega arith

-- An act takes nothing out.
some-act : (start : HandStart) (streets : Streets) (acts seat : ℕ) (act : Act) → IsSound start streets acts
    → act_refusal (limits_on start streets) (street_now streets) seat act ≡ None → 0 < put_on_all streets
    → 0 < put_on_all (with_act streets (record { seat = seat; act = act }))
unfolding put_on_all
some-act start streets acts seat act sound free some =
    let limits = limits_on start streets in
    let street = street_now streets in
    let entry : SeatAct = record { seat = seat; act = act } in
    let acting = who-acts limits street seat act free in
    let now = acting.0 in
    let acted = acting.1 in
    let put_in = amount_of street.level now act in
    let is = placed-is limits streets.last.start streets.last.acts entry now sound.right acted in
    let sums = sum_set (seat - 1) (λ (player : Player). player.bettor.put) now (moved put_in now act) street.players
    acted.sits in
    let same = ap (λ (s : Street). sum_over (λ (player : Player). player.bettor.put) s.players) is in
    omega arith

-- Somebody has put in a chip at each moment of every lawful play.
pub some-put : (hand : HandTerms) → IsLawfulStart hand.start → IsLawfulPlay hand → 0 < total_put (puts_in_hand hand)
some-put hand lawful play =
    let kept = kept-play hand (λ streets. 0 < put_on_all streets) lawful play
    (record {
      first = some-first hand.start lawful;
      next = λ streets acts sound ended some. some-next hand.start streets some;
      act = λ streets acts seat act sound free some. some-act hand.start streets acts seat act sound free some;
    }) in
    let some : 0 < put_on (streets_of hand).last + sum_by put_on (streets_of hand).before = unfold put_on_all in kept in
    let all = pot-is hand lawful play in
    let puts = put-pot hand lawful in
    omega arith

-- At each moment of a lawful play the pots of the hand sum to all that was put in and the antes.
pub pots-all : (hand : HandTerms) → IsLawfulStart hand.start → IsLawfulPlay hand
    → total_of (pots_in_hand hand) ≡ pot hand
pots-all hand lawful play = pots-sum hand lawful (some-put hand lawful play)
