-- The stacks after a hand.
use Rattle.std.proofs.Common.{◌≡◌, ◌∙◌, ℕ, zero, suc, ◌+◌, ◌-◌, ◌%◌, List, [], ◌∷◌, map, Bool, true, false, cond, sum, refl, ap, sym, inl, inr, arith}
use Rattle.std.specs.Prelude.{Option, ◌==◌, slice_index_or, sum_by}
use Rattle.std.specs.List.{list_all}
use Rattle.std.specs.Option.{option_map_or}
use Rattle.std.proofs.Math.Nat.{zero-mod}
use Rattle.std.proofs.lemmas.Bool.{and_parts, cases_Bool, eq-eqb, eqb-true}
use Rattle.std.proofs.lemmas.List.Folds.{list_all-map}
use Rattle.std.proofs.lemmas.List.Sums.{sum-map}
use Rattle.rulebook.proofs.Multiples.{multiple-add}
use Rattle.rulebook.proofs.Tests.{sum_by-map, sum_by-plus}
use Rattle.betting_round.specs.declared.bettor.Player.{Player}
use Rattle.betting_round.specs.WhoIsDue.{player_in}
use Rattle.table_engine.specs.declared.awards.Awards.{Awards}
use Rattle.table_engine.specs.declared.start.StartSeat.{StartSeat}
use Rattle.table_engine.specs.Awards.{award_in, awards_in_hand, stack_after}
use Rattle.table_engine.specs.Hands.{HandTerms, behind, is_live, is_over, street_of}
use Rattle.table_engine.specs.Plays.{IsLawfulPlay}
use Rattle.table_engine.specs.Results.{award, is_won_by_folds, players_after, pot, showdown_awards, stack_after_hand, stacks_after_hand, starting_stacks, with_stack}
use Rattle.table_engine.specs.Starts.{IsLawfulStart, chips_of, is_playable_stack}
use Rattle.table_engine.proofs.BySeat.{found-all, found-within, player_in-there}
use Rattle.table_engine.proofs.Chips.{all-found, chips-in_play, map-found, one-gets, stands}
use Rattle.table_engine.proofs.Showdowns.{awards-whole, is-showdown, showdown-gets}
use Rattle.table_engine.proofs.Sound.{sound-play}
use Rattle.table_engine.proofs.StacksAfter.{pot-whole}

-- What the players of a hand that is over get sums to the pot.
pub gets-pot : (hand : HandTerms) → IsLawfulStart hand.start → IsLawfulPlay hand → is_over hand ≡ true
    → sum_by (award hand) hand.start.seats ≡ pot hand
gets-pot hand lawful play over =
    elim (cases_Bool (is_won_by_folds hand)) [
      | inl won ↦ one-gets hand lawful play won
      | inr many ↦ rw many (showdown-gets hand lawful (is-showdown hand lawful play over many))
    ]

-- The stacks after a hand that is over sum to the starting stacks.
pub chips-after : (hand : HandTerms) → IsLawfulStart hand.start → IsLawfulPlay hand → is_over hand ≡ true
    → sum (stacks_after_hand hand) ≡ sum (starting_stacks hand)
chips-after hand lawful play over =
    let stacks = sum-map (stack_after_hand hand) hand.start.seats in
    let parts = sum_by-plus (behind hand) (award hand) (stack_after_hand hand) hand.start.seats (λ player. refl) in
    let all = chips-in_play hand lawful play in
    let gets = gets-pot hand lawful play over in
    omega arith

-- After a hand that is over its players have the chips with which they began.
pub chips-players : (hand : HandTerms) → IsLawfulStart hand.start → IsLawfulPlay hand → is_over hand ≡ true
    → chips_of (players_after hand) ≡ chips_of hand.start.seats
chips-players hand lawful play over =
    let after = sum_by-map (λ (player : StartSeat). player.stack)
    (λ (player : StartSeat). with_stack player (stack_after_hand hand player)) hand.start.seats in
    let stacks = sum-map (stack_after_hand hand) hand.start.seats in
    let start = sum-map (λ (player : StartSeat). player.stack) hand.start.seats in
    after ∙ sym stacks ∙ chips-after hand lawful play over ∙ start

-- What a player gets, as the hand works it out.
pub award-is : (hand : HandTerms) (player : StartSeat)
    → award_in (awards_in_hand hand) player.seat (is_live hand player) ≡ award hand player
award-is hand player =
    elim (cases_Bool (is_won_by_folds hand)) [ inl won ↦ rw won refl | inr many ↦ rw many refl ]

-- What the players of the street have after the hand are its stacks.
pub street-stacks : (hand : HandTerms) (awards : Awards) → IsLawfulStart hand.start → IsLawfulPlay hand
    → awards ≡ awards_in_hand hand
    → map (λ player. stack_after awards player.seat (player_in (street_of hand).players player.seat)) hand.start.seats
    ≡ stacks_after_hand hand
street-stacks hand awards lawful play is =
    let sound = sound-play hand lawful play in
    map-found hand.start.seats (λ player. stack_after awards player.seat
    (player_in (street_of hand).players player.seat)) (stack_after_hand hand)
    hand.start.seats (found-all hand.start lawful)
    (λ player found.
    let his = stands hand player lawful sound found in
    let now = his.0 in
    let live : is_live hand player ≡ now.bettor.live =
    ap (λ (slot : Option Player). option_map_or (λ (other : Player). other.bettor.live) slot false) his.1.there in
    ap (stack_after awards player.seat) his.1.there
    ∙ ap (λ (n : ℕ). n + award_in awards player.seat now.bettor.live) (sym his.1.behind)
    ∙ ap (λ (b : Bool). behind hand player + award_in awards player.seat b) (sym live)
    ∙ ap (λ (a : Awards). behind hand player + award_in a player.seat (is_live hand player)) is
    ∙ ap (λ (n : ℕ). behind hand player + n) (award-is hand player))

-- A stack is a multiple of the unit.
whole-at : (unit : ℕ) (awards : List ℕ) (index : ℕ) → list_all (λ award. award % unit == 0) awards ≡ true
    → slice_index_or awards index 0 % unit ≡ 0
whole-at unit [] index all = zero-mod unit
whole-at unit (first ∷ awards) zero all =
    let parts = and_parts (first % unit == 0) (list_all (λ award. award % unit == 0) awards) all in
    eqb-true (first % unit) 0 parts.0
whole-at unit (first ∷ awards) (suc index) all =
    let parts = and_parts (first % unit == 0) (list_all (λ award. award % unit == 0) awards) all in
    whole-at unit awards index parts.1

-- After a lawful play of a lawful start each stack is a multiple of the unit.
pub stacks-whole : (hand : HandTerms) → IsLawfulStart hand.start → IsLawfulPlay hand
    → list_all (λ (player : StartSeat). player.stack % hand.start.blind.unit == 0) (players_after hand) ≡ true
stacks-whole hand lawful play =
    let unit = hand.start.blind.unit in
    let sound = sound-play hand lawful play in
    list_all-map (λ (player : StartSeat). player.stack % unit == 0)
    (λ (player : StartSeat). with_stack player (stack_after_hand hand player)) hand.start.seats
    ∙ all-found hand.start.seats (λ player. is_playable_stack unit player.stack)
    (λ player. stack_after_hand hand player % unit == 0)
    hand.start.seats (found-all hand.start lawful)
    (λ player found passes.
    let his = stands hand player lawful sound found in
    let low = (found-within hand.start player.seat player lawful found).1 in
    let at = sym (player_in-there (street_of hand).players player.seat low) ∙ his.1.there in
    let now = sound.each player.seat his.0 low at in
    let left : behind hand player % unit ≡ 0 = ap (λ (n : ℕ). n % unit) his.1.behind ∙ now.behind in
    eq-eqb (stack_after_hand hand player % unit) 0 (multiple-add unit (behind hand player) (award hand player) left
    (gets-whole player)))
    lawful.stacks
  where
    sole-whole : (live : Bool) → pot hand % hand.start.blind.unit ≡ 0
        → cond live (pot hand) 0 % hand.start.blind.unit ≡ 0
    sole-whole true whole = whole
    sole-whole false whole = zero-mod hand.start.blind.unit

    gets-whole : (player : StartSeat) → award hand player % hand.start.blind.unit ≡ 0
    gets-whole player =
        elim (cases_Bool (is_won_by_folds hand)) [
          | inl won ↦ rw won (sole-whole (is_live hand player) (pot-whole hand lawful play))
          | inr many ↦
              rw many (whole-at hand.start.blind.unit (showdown_awards hand) (player.seat - 1) (awards-whole hand))
        ]
