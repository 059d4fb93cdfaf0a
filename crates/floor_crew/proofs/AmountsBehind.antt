-- What a player bets or raises to he has, and so it is a number that a line may hold.
use Rattle.std.proofs.Common.{◌≡◌, ◌∙◌, refl, sym, ℕ, ◌+◌, ◌≤◌, ◌<◌, ◌^◌, List, arith}
use Rattle.std.specs.Prelude.{◌==◌, nat_le, Option, Some, None}
use Rattle.std.proofs.lemmas.Bool.{leb-true}
use Rattle.rulebook.proofs.Tests.{find-all}
use Rattle.floor_text.specs.declared.refusal.Refusal.TheVariants.{NotDealt}
use Rattle.line_words.specs.Fields.{HasLineAmount}
use Rattle.betting_round.specs.declared.act.Act.{Act}
use Rattle.betting_round.specs.declared.act.Act.TheVariants.{Fold, Check, Call, AllIn, Bet, Raise}
use Rattle.betting_round.specs.Acts.{amount}
use Rattle.betting_round.proofs.Acted.{who-acts}
use Rattle.table_engine.specs.declared.start.StartSeat.{StartSeat}
use Rattle.table_engine.specs.Acts.{limits_on, refusal_of_act}
use Rattle.table_engine.specs.Hands.{HandTerms, seat_of_name, street_of, streets_of}
use Rattle.table_engine.specs.Plays.{IsLawfulPlay}
use Rattle.table_engine.specs.Starts.{IsLawfulStart, chips_of}
use Rattle.table_engine.proofs.Refusals.{refused-in_seat, refused-without_seat}
use Rattle.table_engine.proofs.Sitting.{sits-dealt}
use Rattle.table_engine.proofs.Sound.{put_from-there, sound-play}
use Rattle.table_engine.proofs.Starts.{each-in_sum}

small : (level put behind : ℕ) (act : Act) → amount level put behind act ≤ behind → behind + put < 2 ^ 53
    → HasLineAmount act
small level put behind Fold covered few = tt
small level put behind Check covered few = tt
small level put behind Call covered few = tt
small level put behind AllIn covered few = tt
small level put behind (Bet n) covered few = omega (arith, covered, few)
small level put behind (Raise n) covered few = omega (arith, covered, few)

-- The amount of an act that a hand does not refuse is a number of a line.
pub amount-small : (hand : HandTerms) (name : List ℕ) (act : Act) → IsLawfulStart hand.start → IsLawfulPlay hand
    → refusal_of_act hand name act ≡ None → HasLineAmount act
amount-small hand name act lawful play free = by_seat (seat_of_name hand.start name) refl
  where
    by_seat : (found : Option ℕ) → seat_of_name hand.start name ≡ found → HasLineAmount act
    by_seat None none =
        let never : None ≡ Some NotDealt = sym free ∙ refused-without_seat hand name act none in absurd cc
    by_seat (Some seat) is =
        let who = who-acts (limits_on hand.start (streets_of hand)) (street_of hand) seat act
        (sym (refused-in_seat hand name act seat is) ∙ free) in
        let now = who.0 in
        let acts = who.1 in
        let sound = sound-play hand lawful play in
        let his = sound.each seat now acts.low acts.sits in
        let dealt = sits-dealt hand.start (street_of hand).players seat now sound.there
        (record { low = acts.low; there = acts.sits }) in
        let stack = his.stack dealt.0 dealt.1 in
        let put = put_from-there (streets_of hand).last seat now acts.low acts.sits in
        let most = leb-true dealt.0.stack (chips_of hand.start.seats)
        (find-all (λ (other : StartSeat). other.seat == seat)
        (λ (other : StartSeat). nat_le other.stack (chips_of hand.start.seats)) hand.start.seats dealt.0 dealt.1
        (each-in_sum (λ (player : StartSeat). player.stack) hand.start.seats)) in
        let few = lawful.chips in
        small (street_of hand).level now.bettor.put now.bettor.behind act acts.covered
        (omega (arith, stack, put, most, few))
