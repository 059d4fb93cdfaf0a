-- The chips of a hand are kept.
use Rattle.std.proofs.Common.{◌≡◌, ◌∙◌, ℕ, ◌+◌, ◌*◌, List, [], ◌∷◌, map, Bool, true, false, cond, sum, Some, None, refl, ap, sym, arith}
use Rattle.std.specs.Prelude.{Option, ◌==◌, find, length, nat_le, sum_by, count_by}
use Rattle.std.specs.List.{list_all}
use Rattle.std.specs.Option.{is_some, option_map_or}
use Rattle.std.proofs.lemmas.Bool.{and_from, and_parts, eqb-true, le-leb}
use Rattle.std.proofs.lemmas.List.Folds.{fold_stays}
use Rattle.std.proofs.lemmas.List.Sums.{sum-map, sum_by-cons}
use Rattle.rulebook.proofs.Tests.{list_all-always, sum_by-plus}
use Rattle.betting_round.specs.declared.bettor.Player.{Player}
use Rattle.betting_round.specs.StreetActs.{street_after, sum_over}
use Rattle.betting_round.specs.WhoIsDue.{is_live, is_there, player_in}
use Rattle.table_engine.specs.declared.start.HandStart.{HandStart}
use Rattle.table_engine.specs.declared.start.StartSeat.{StartSeat}
use Rattle.table_engine.specs.Starts.{IsLawfulStart, chips_of}
use Rattle.table_engine.specs.Hands.{HandTerms, StreetPlayed, ante_posted, behind, dead_chips, player_of, players_by_seat, playing, put_from, put_in_hand, put_on, put_so_far, street_of, streets_of}
use Rattle.table_engine.specs.Plays.{IsLawfulPlay}
use Rattle.table_engine.specs.Results.{pot, award, is_won_by_folds, starting_stacks}
use Rattle.table_engine.proofs.BySeat.{AreFound, found-all, found-within, number_of, player_in-there, sum-of_street, there-at}
use Rattle.table_engine.proofs.Sound.{AreThere, IsSound, sound-play}

-- A player of a hand as he stands: he is on its street, and has what he had to play with in two parts.
pub record Stands (hand : HandTerms) (player : StartSeat) (now : Player) : Type 0 where
  pub there : player_in (street_of hand).players player.seat ≡ Some now
  pub behind : behind hand player ≡ now.bettor.behind
  pub stack : now.bettor.behind + put_in_hand hand player ≡ playing hand.start player

-- Who is found at his seat stands in the hand.
pub stands : (hand : HandTerms) (player : StartSeat) → IsLawfulStart hand.start
    → IsSound hand.start (streets_of hand) (length hand.acts)
    → player_of hand.start player.seat ≡ Some player → (now : Player) × Stands hand player now
stands hand player lawful sound found =
    let within = found-within hand.start player.seat player lawful found in
    let low = within.1 in
    let at = there-at hand.start (street_of hand).players player.seat player lawful sound.there found in
    let now = at.0 in
    let his = sound.each player.seat now low at.1 in
    let stack = his.stack player found in (
      now,
      record {
        there = player_in-there (street_of hand).players player.seat low ∙ at.1;
        behind = omega arith;
        stack = stack;
      },
    )

-- Of players who are found at their seats: two numbers of each that sum to a third sum so together.
sum_by-found : (all : List StartSeat) (f g h : StartSeat → ℕ) (players : List StartSeat) → AreFound all players
    → ((player : StartSeat) → find (λ (other : StartSeat). other.seat == player.seat) all ≡ Some player
    → f player + g player ≡ h player)
    → sum_by f players + sum_by g players ≡ sum_by h players
sum_by-found all f g h [] found each = refl
sum_by-found all f g h (player ∷ players) found each =
    let later = sum_by-found all f g h players found.1 each in
    let here = each player found.0 in
    omega (arith, sum_by-cons f player players, sum_by-cons g player players, sum_by-cons h player players)

-- Of players who are found at their seats: what is made of each in one way is made of each in another.
pub map-found : {X : Type 0} (all : List StartSeat) (f g : StartSeat → X) (players : List StartSeat)
    → AreFound all players
    → ((player : StartSeat) → find (λ (other : StartSeat). other.seat == player.seat) all ≡ Some player
    → f player ≡ g player)
    → map f players ≡ map g players
map-found all f g [] found each = refl
map-found all f g (player ∷ players) found each =
    let later = map-found all f g players found.1 each in
    let here = each player found.0 in
    cc

-- Of players who are found at their seats and pass a test: each passes another.
pub all-found : (all : List StartSeat) (one other : StartSeat → Bool) (players : List StartSeat) → AreFound all players
    → ((player : StartSeat) → find (λ (other : StartSeat). other.seat == player.seat) all ≡ Some player
    → one player ≡ true → other player ≡ true)
    → list_all one players ≡ true → list_all other players ≡ true
all-found all one other [] found each passes = refl
all-found all one other (player ∷ players) found each passes =
    let parts = and_parts (one player) (list_all one players) passes in
    and_from _ _ (each player found.0 parts.0) (all-found all one other players found.1 each parts.1)

-- What the players have to play with and the antes are their stacks.
pub playing-dead : (start : HandStart) → sum_by (playing start) start.seats + dead_chips start ≡ chips_of start.seats
playing-dead start = sum_by-plus (playing start) (ante_posted start) (λ player. player.stack) start.seats
    (λ player. omega arith)

-- At each moment all that the players have behind, all that they have put in and the antes sum to their starting stacks.
pub chips-by : (hand : HandTerms) → IsLawfulStart hand.start → IsLawfulPlay hand
    → sum_by (behind hand) hand.start.seats + sum_by (put_in_hand hand) hand.start.seats + dead_chips hand.start
    ≡ chips_of hand.start.seats
chips-by hand lawful play =
    let sound = sound-play hand lawful play in
    let parts = sum_by-found hand.start.seats (behind hand) (put_in_hand hand) (playing hand.start) hand.start.seats
    (found-all hand.start lawful)
    (λ player found.
    let his = stands hand player lawful sound found in
    let behind_so = his.1.behind in
    let stack = his.1.stack in
    omega arith) in
    let all = playing-dead hand.start in
    omega arith

-- What all players have behind, what they have put in and the antes come to the sum of the list of their starting
-- stacks.
pub chips-in_play : (hand : HandTerms) → IsLawfulStart hand.start → IsLawfulPlay hand
    → sum_by (behind hand) hand.start.seats + sum_by (put_in_hand hand) hand.start.seats + dead_chips hand.start
    ≡ sum (starting_stacks hand)
chips-in_play hand lawful play = chips-by hand lawful play
    ∙ sym (sum-map (λ (player : StartSeat). player.stack) hand.start.seats)

-- Nobody puts in more than his stack.
pub chips-within : (hand : HandTerms) → IsLawfulStart hand.start → IsLawfulPlay hand
    → list_all (λ player. nat_le (put_in_hand hand player + ante_posted hand.start player) player.stack)
    hand.start.seats ≡ true
chips-within hand lawful play =
    let sound = sound-play hand lawful play in
    all-found hand.start.seats (λ player. true) (λ player. nat_le
    (put_in_hand hand player + ante_posted hand.start player) player.stack) hand.start.seats (found-all hand.start lawful)
    (λ player found passes.
    let his = stands hand player lawful sound found in
    let stack = his.1.stack in
    le-leb (put_in_hand hand player + ante_posted hand.start player) player.stack (omega arith))
    (list_all-always (λ (player : StartSeat). true) hand.start.seats (λ player. refl))

-- What was put in on a street, by the players of the start.
put-on_street : (start : HandStart) (played : StreetPlayed) → IsLawfulStart start
    → map is_some (street_after played.start played.acts).players ≡ map is_some (players_by_seat start)
    → sum_by (λ (player : StartSeat). put_from player.seat played) start.seats ≡ put_on played
put-on_street start played lawful there =
    sum-of_street start (λ (player : Player). player.bettor.put)
    (street_after played.start played.acts).players lawful there

-- What was put in on several streets, by the players of the start.
put-on_streets : (start : HandStart) (streets : List StreetPlayed) → IsLawfulStart start → AreThere start streets
    → sum_by (λ (player : StartSeat). sum_by (put_from player.seat) streets) start.seats ≡ sum_by put_on streets
put-on_streets start [] lawful there =
    fold_stays (λ (total : ℕ) (player : StartSeat). total + 0) 0 (λ player. refl) start.seats
put-on_streets start (played ∷ streets) lawful there =
    let here = put-on_street start played lawful there.0 in
    let later = put-on_streets start streets lawful there.1 in
    let both = sum_by-plus (λ (player : StartSeat). put_from player.seat played)
    (λ (player : StartSeat). sum_by (put_from player.seat) streets)
    (λ (player : StartSeat). sum_by (put_from player.seat) (played ∷ streets)) start.seats
    (λ player. sym (sum_by-cons (put_from player.seat) played streets)) in
    let all = sum_by-cons put_on played streets in
    omega arith

-- The pot is what was put in on all streets.
pub pot-is : (hand : HandTerms) → IsLawfulStart hand.start → IsLawfulPlay hand → pot hand
    ≡ put_so_far hand.start (streets_of hand)
pot-is hand lawful play =
    let sound = sound-play hand lawful play in
    let streets = streets_of hand in
    let last = put-on_street hand.start streets.last lawful sound.there in
    let before = put-on_streets hand.start streets.before lawful sound.earlier in
    let both = sum_by-plus (λ (player : StartSeat). put_from player.seat streets.last)
    (λ (player : StartSeat). sum_by (put_from player.seat) streets.before)
    (put_in_hand hand) hand.start.seats (λ player. refl) in
    omega arith

-- One more that passes, or one that does not.
counted_again : (n count : ℕ) (passes : Bool) → cond passes n 0 + count * n ≡ (cond passes 1 0 + count) * n
counted_again n count true = grind arith
counted_again n count false = grind arith

-- The same for each live player of a street, and nothing for the others.
sum-live : (n : ℕ) (slots : List (Option Player)) → sum_over (λ (player : Player). cond player.bettor.live n 0) slots
    ≡ count_by (is_there is_live) slots * n
sum-live n [] = grind arith
sum-live n (None ∷ slots) =
    let count = sum_by-cons (λ (slot : Option Player). cond (is_there is_live slot) 1 0) None slots in
    let less : 0 + count_by (is_there is_live) slots ≡ count_by (is_there is_live) slots = omega arith in
    rw (count, less) (sum-live n slots)
sum-live n (Some player ∷ slots) =
    let count = sum_by-cons (λ (slot : Option Player). cond (is_there is_live slot) 1 0) (Some player) slots in
    rw (count, sum-live n slots) (counted_again n (count_by (is_there is_live) slots) player.bettor.live)

-- Where one player alone is live, one player gets the pot.
pub one-gets : (hand : HandTerms) → IsLawfulStart hand.start → IsLawfulPlay hand → is_won_by_folds hand ≡ true
    → sum_by (award hand) hand.start.seats ≡ pot hand
one-gets hand lawful play won =
    let sound = sound-play hand lawful play in
    let slots = (street_of hand).players in
    let one : count_by (is_there is_live) slots ≡ 1 = eqb-true _ 1 won in
    let by_slots = sum-of_street hand.start (λ (player : Player). cond player.bettor.live
    (pot hand) 0) slots lawful sound.there in
    let of_one : StartSeat → ℕ = number_of (λ (player : Player). cond player.bettor.live (pot hand) 0) slots in
    let each : (player : StartSeat) → award hand player ≡ of_one player =
    λ player. rw won (award-slot (player_in slots player.seat) (pot hand)) in
    let same : sum_by (award hand) hand.start.seats ≡ sum_by of_one hand.start.seats =
    λ i. sum_by (λ player. each player i) hand.start.seats in
    let once : 1 * pot hand ≡ pot hand = omega arith in
    same ∙ by_slots ∙ sum-live (pot hand) slots ∙ ap (λ (n : ℕ). n * pot hand) one ∙ once
  where
    award-slot : (slot : Option Player) (n : ℕ)
        → cond (option_map_or (λ (player : Player). player.bettor.live) slot false) n 0
        ≡ option_map_or (λ (player : Player). cond player.bettor.live n 0) slot 0
    award-slot None n = refl
    award-slot (Some player) n = refl
