-- The players of a hand with their stacks after it.
use Rattle.std.proofs.Common.{◌≡◌, ◌∙◌, refl, ap, ℕ, ◌+◌, ◌<◌, List, [], ◌∷◌, ◌++◌, length, take, drop, map, get_or, set, arith}
use Rattle.std.specs.List.{zip}
use Rattle.std.proofs.lemmas.Slice.Zip.{length-zip, get_or-zip}
use Rattle.table_engine.specs.declared.start.StartSeat.{StartSeat}
use Rattle.table_engine.specs.declared.record.HandRecord.{HandRecord}
use Rattle.table_engine.specs.Hands.{HandTerms}
use Rattle.table_engine.specs.Results.{stack_after_hand, stacks_after_hand, with_stack, with_stacks, players_after}
use Rattle.table_engine.specs.Plays.{recorded_hand, IsCompletePlay}
use Rattle.rulebook.proofs.Rewrites.{rewritten-more, rewritten-here}

-- Another stack for one player more.
pub stacks-more : (before now : List StartSeat) (stacks : List ℕ) (i : ℕ) (player : StartSeat)
    → length stacks ≡ length before → i < length before → player ≡ get_or now i player
    → now ≡ map (λ pair. with_stack pair.0 pair.1) (take i (zip before stacks)) ++ drop i before
    → set now i (with_stack player (get_or stacks i 0))
    ≡ map (λ pair. with_stack pair.0 pair.1) (take (i + 1) (zip before stacks)) ++ drop (i + 1) before
stacks-more before now stacks i player same within is kept =
    let both : i < length (zip before stacks) = rw (length-zip before stacks) (omega arith) in
    let here = rewritten-here (λ (pair : StartSeat × ℕ). with_stack pair.0 pair.1)
    (zip before stacks) before i player both within in
    let more = rewritten-more (λ (pair : StartSeat × ℕ). with_stack pair.0 pair.1) (zip before stacks) before i
    (player, 0) both within in
    let pair : get_or (zip before stacks) i (player, 0) ≡ (get_or before i player, get_or stacks i 0) =
    get_or-zip before stacks i (player, 0) within (omega arith) in
    let his : player ≡ get_or before i player = is ∙ ap (λ (players : List StartSeat). get_or players i player) kept
    ∙ here in
    rw kept (ap (λ (p : StartSeat). set (map (λ (pair : StartSeat × ℕ). with_stack pair.0 pair.1)
    (take i (zip before stacks)) ++ drop i before) i (with_stack p (get_or stacks i 0))) his ∙ (rw pair at more))

-- Players with stacks that are made of them are players each with the stack that is made of him.
with_stacks-made : (stack_of : StartSeat → ℕ) (players : List StartSeat)
    → with_stacks players (map stack_of players) ≡ map (λ player. with_stack player (stack_of player)) players
with_stacks-made stack_of [] = refl
with_stacks-made stack_of (player ∷ players) = ap (◌∷◌ (with_stack player (stack_of player)))
    (with_stacks-made stack_of players)

-- The players of a complete play, with the stacks of its record, are those of the hand after it.
pub players-of_record : (done : HandRecord) → IsCompletePlay done
    → with_stacks done.start.seats done.stacks ≡ players_after (recorded_hand done)
players-of_record done complete = rw complete.stacks
    (with_stacks-made (stack_after_hand (recorded_hand done)) done.start.seats)

-- What does not look at a player's stack is the same of players with other stacks.
same-whatever_stack : {K : Type 0} (key : StartSeat → K) (stack_of : StartSeat → ℕ) (players : List StartSeat)
    → ((player : StartSeat) (stack : ℕ) → key (with_stack player stack) ≡ key player)
    → map key (map (λ player. with_stack player (stack_of player)) players) ≡ map key players
same-whatever_stack key stack_of [] same = refl
same-whatever_stack key stack_of (player ∷ players) same =
    let here = same player (stack_of player) in
    let rest = same-whatever_stack key stack_of players same in
    cc

-- After the hand the players have the numbers, names and seats that they had.
pub numbers-after : (hand : HandTerms) → map (λ player. player.player) (players_after hand)
    ≡ map (λ player. player.player) hand.start.seats
numbers-after hand = same-whatever_stack (λ player. player.player) (stack_after_hand hand) hand.start.seats
    (λ player stack. refl)

-- After the hand the players have the names that they had, in the same order.
pub names-after : (hand : HandTerms) → map (λ player. player.name) (players_after hand)
    ≡ map (λ player. player.name) hand.start.seats
names-after hand = same-whatever_stack (λ player. player.name) (stack_after_hand hand) hand.start.seats
    (λ player stack. refl)

-- After the hand the players have the seats that they had, in the same order.
pub seats-after : (hand : HandTerms) → map (λ player. player.seat) (players_after hand)
    ≡ map (λ player. player.seat) hand.start.seats
seats-after hand = same-whatever_stack (λ player. player.seat) (stack_after_hand hand) hand.start.seats
    (λ player stack. refl)

-- After the hand their stacks are those after the hand.
pub stacks-after : (hand : HandTerms) → map (λ player. player.stack) (players_after hand) ≡ stacks_after_hand hand
stacks-after hand = by_list hand.start.seats
  where
    by_list : (players : List StartSeat) → map (λ player. player.stack)
        (map (λ player. with_stack player (stack_after_hand hand player)) players) ≡ map (stack_after_hand hand) players
    by_list [] = refl
    by_list (player ∷ players) = ap (◌∷◌ (stack_after_hand hand player)) (by_list players)
