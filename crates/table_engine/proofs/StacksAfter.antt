-- After a hand that is won by folds each player has a stack above 0 that is a multiple of the unit.
use Rattle.std.proofs.Common.{◌≡◌, ◌∙◌, ap, sym, ℕ, ◌+◌, ◌-◌, ◌%◌, ◌≤◌, ◌<◌, Bool, true, false, cond, Some, arith}
use Rattle.std.specs.Prelude.{Option, ◌==◌, ◌&&◌, ◌||◌, nat_le, nat_lt, sum_by}
use Rattle.std.specs.Option.{option_map_or}
use Rattle.std.proofs.Math.Nat.{zero-mod}
use Rattle.std.proofs.lemmas.Bool.{and_from, and_parts, eq-eqb, leb-true}
use Rattle.std.proofs.lemmas.Bool.Decides.{nat_tests}
use Rattle.std.proofs.lemmas.List.Folds.{list_all-map}
use Rattle.rulebook.proofs.Tests.{list_all-both, list_all-follows}
use Rattle.rulebook.proofs.Multiples.{multiple-add, multiple-sub, multiple-sum}
use Rattle.betting_round.specs.declared.bettor.Player.{Player}
use Rattle.table_engine.specs.declared.start.HandStart.{HandStart}
use Rattle.table_engine.specs.declared.start.StartSeat.{StartSeat}
use Rattle.table_engine.specs.Starts.{IsLawfulStart, have_playable_stacks, is_playable_stack}
use Rattle.table_engine.specs.Hands.{HandTerms, ante_posted, behind, dead_chips, is_live, player_of, playing, put_in_hand, street_of}
use Rattle.table_engine.specs.Plays.{IsLawfulPlay}
use Rattle.table_engine.specs.Results.{is_won_by_folds, players_after, pot, stack_after_hand, with_stack}
use Rattle.table_engine.proofs.BySeat.{found-all, found-within, player_in-there}
use Rattle.table_engine.proofs.Chips.{all-found, stands}
use Rattle.table_engine.proofs.Sound.{sound-play}
use Rattle.table_engine.proofs.Starts.{each-in_sum}
use Rattle.table_engine.proofs.WholeUnits.{ante-whole, blinds-lawful, playable-parts, playing-some, playing-whole}

-- A stack above 0 that is a multiple of the unit can be played with.
playable-from : (unit stack : ℕ) → 0 < stack → stack % unit ≡ 0 → is_playable_stack unit stack ≡ true
playable-from unit stack above whole = grind (arith, nat_tests)

-- What a player who is found at his seat put in is a multiple of the unit.
pub put-whole : (hand : HandTerms) (player : StartSeat) → IsLawfulStart hand.start → IsLawfulPlay hand
    → player_of hand.start player.seat ≡ Some player
    → player.stack % hand.start.blind.unit ≡ 0 → put_in_hand hand player % hand.start.blind.unit ≡ 0
put-whole hand player lawful play found whole =
    let sound = sound-play hand lawful play in
    let his = stands hand player lawful sound found in
    let low = (found-within hand.start player.seat player lawful found).1 in
    let at = sym (player_in-there (street_of hand).players player.seat low) ∙ his.1.there in
    let now = sound.each player.seat his.0 low at in
    let stack = his.1.stack in
    let put : put_in_hand hand player ≡ playing hand.start player - his.0.bettor.behind = omega arith in
    rw put (multiple-sub hand.start.blind.unit (playing hand.start player) his.0.bettor.behind (omega arith)
    (playing-whole hand.start player (blinds-lawful hand.start lawful) whole) now.behind)

-- The antes are a multiple of the unit.
pub dead-whole : (start : HandStart) → IsLawfulStart start → dead_chips start % start.blind.unit ≡ 0
dead-whole start lawful =
    multiple-sum start.blind.unit (ante_posted start) start.seats
    (list_all-follows (λ (player : StartSeat). is_playable_stack start.blind.unit player.stack)
    (λ player. ante_posted start player % start.blind.unit == 0) start.seats
    (λ player playable. eq-eqb (ante_posted start player % start.blind.unit) 0
    (ante-whole start player (blinds-lawful start lawful) (playable-parts start.blind.unit player.stack playable).1))
    lawful.stacks)

-- The pot is a multiple of the unit.
pub pot-whole : (hand : HandTerms) → IsLawfulStart hand.start → IsLawfulPlay hand → pot hand % hand.start.blind.unit ≡ 0
pot-whole hand lawful play =
    multiple-add hand.start.blind.unit (sum_by (put_in_hand hand) hand.start.seats) (dead_chips hand.start)
    (multiple-sum hand.start.blind.unit (put_in_hand hand) hand.start.seats
    (all-found hand.start.seats (λ (player : StartSeat). is_playable_stack hand.start.blind.unit player.stack)
    (λ player. put_in_hand hand player % hand.start.blind.unit == 0) hand.start.seats
    (found-all hand.start lawful)
    (λ player found playable. eq-eqb (put_in_hand hand player % hand.start.blind.unit) 0
    (put-whole hand player lawful play found (playable-parts hand.start.blind.unit player.stack playable).1))
    lawful.stacks))
    (dead-whole hand.start lawful)

-- A player who is live or has chips behind has chips after the hand: all that he put in is in the pot.
above-after : (behind put pot stack : ℕ) (live : Bool) → (live || nat_lt 0 behind) ≡ true → behind + put ≡ stack
    → 0 < stack → put ≤ pot
    → 0 < behind + cond live pot 0
above-after behind put pot stack true more all some within = omega arith
above-after behind put pot stack false more all some within =
    let left : 0 < behind = grind (arith, nat_tests) in omega arith

whole-after : (unit behind pot : ℕ) (live : Bool) → behind % unit ≡ 0 → pot % unit ≡ 0
    → (behind + cond live pot 0) % unit ≡ 0
whole-after unit behind pot true first second = multiple-add unit behind pot first second
whole-after unit behind pot false first second = multiple-add unit behind 0 first (zero-mod unit)

-- After the hand a player who is found at his seat has a stack that can be played with.
playable-after : (hand : HandTerms) (player : StartSeat) → IsLawfulStart hand.start → IsLawfulPlay hand
    → player_of hand.start player.seat ≡ Some player
    → is_playable_stack hand.start.blind.unit player.stack ≡ true → put_in_hand hand player ≤ pot hand
    → is_won_by_folds hand ≡ true → is_playable_stack hand.start.blind.unit (stack_after_hand hand player) ≡ true
playable-after hand player lawful play found playable within won =
    let sound = sound-play hand lawful play in
    let his = stands hand player lawful sound found in
    let now = his.0 in
    let low = (found-within hand.start player.seat player lawful found).1 in
    let at = sym (player_in-there (street_of hand).players player.seat low) ∙ his.1.there in
    let sound_now = sound.each player.seat now low at in
    let some = playing-some hand.start player (blinds-lawful hand.start lawful)
    (playable-parts hand.start.blind.unit player.stack playable).0 in
    let live : is_live hand player ≡ now.bettor.live =
    ap (λ (slot : Option Player). option_map_or (λ (other : Player). other.bettor.live) slot false) his.1.there in
    let above = above-after now.bettor.behind (put_in_hand hand player)
    (pot hand) (playing hand.start player) now.bettor.live sound_now.more his.1.stack some within in
    let whole = whole-after hand.start.blind.unit now.bettor.behind (pot hand) now.bettor.live sound_now.behind
    (pot-whole hand lawful play) in
    let by_folds : stack_after_hand hand player ≡ behind hand player + cond (is_live hand player) (pot hand) 0 =
    rw won in
    let is : stack_after_hand hand player ≡ now.bettor.behind + cond now.bettor.live (pot hand) 0 =
    by_folds ∙ ap (λ (n : ℕ). n + cond (is_live hand player) (pot hand) 0) his.1.behind
    ∙ ap (λ (b : Bool). now.bettor.behind + cond b (pot hand) 0) live in
    ap (is_playable_stack hand.start.blind.unit) is ∙ playable-from hand.start.blind.unit
    (now.bettor.behind + cond now.bettor.live (pot hand) 0) above whole

-- After a lawful play of a lawful start that is won by folds each player has a stack above 0 that is a multiple of the
-- unit.
pub stacks-playable : (hand : HandTerms) → IsLawfulStart hand.start → IsLawfulPlay hand → is_won_by_folds hand ≡ true
    → have_playable_stacks hand.start.blind.unit (players_after hand) ≡ true
stacks-playable hand lawful play won =
    let made = list_all-map (λ (player : StartSeat). is_playable_stack hand.start.blind.unit player.stack)
    (λ (player : StartSeat). with_stack player (stack_after_hand hand player)) hand.start.seats in
    let put_by_all = sum_by (put_in_hand hand) hand.start.seats in
    let within : StartSeat → Bool = λ player. nat_le (put_in_hand hand player) put_by_all in
    let can_play : StartSeat → Bool = λ player. is_playable_stack hand.start.blind.unit player.stack in
    let both = list_all-both within can_play (λ player. within player && can_play player) hand.start.seats
    (λ player first second. and_from (within player) (can_play player) first second)
    (each-in_sum (put_in_hand hand) hand.start.seats) lawful.stacks in
    made
    ∙ all-found hand.start.seats (λ player. within player && can_play player)
    (λ player. is_playable_stack hand.start.blind.unit (stack_after_hand hand player))
    hand.start.seats (found-all hand.start lawful)
    (λ player found passes.
    let parts = and_parts (within player) (can_play player) passes in
    let least = leb-true (put_in_hand hand player) put_by_all parts.0 in
    playable-after hand player lawful play found parts.1 (omega arith) won)
    both
