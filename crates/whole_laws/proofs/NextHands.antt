-- Which of a table's hands is the one that begins next, and the one that is settled next.
use Rattle.std.proofs.Common.{◌≡◌, ap, subst, ℕ, zero, suc, List, [], ◌∷◌, ◌++◌, map, take, drop, length}
use Rattle.table_engine.specs.declared.start.HandStart.{HandStart}
use Rattle.table_engine.specs.Hands.{HandTerms}
use Rattle.table_engine.specs.Plays.{IsLawfulPlay}
use Rattle.table_engine.proofs.Plays.{lawful_play-none}
use Rattle.dock_rules.specs.Whole.{first_acts}
use Rattle.whole_laws.proofs.LawfulHands.{AreLawful}

-- Where the starts of hands are in order some starts, and others are to come, the hand that comes next is a lawful play
-- of the start that comes next, or no hand comes and it has no act.
pub begun-lawful : (played : List HandTerms) (before : List HandStart) (start : HandStart)
    (rest later : List HandStart) → AreLawful played
    → before ++ start ∷ rest ≡ map (λ (hand : HandTerms). hand.start) played ++ later
    → IsLawfulPlay (record { start = start; acts = first_acts (drop (length before) played) })
begun-lawful [] [] start rest later lawful is = lawful_play-none start
begun-lawful [] (first ∷ before) start rest later lawful is = lawful_play-none start
begun-lawful (hand ∷ played) [] start rest later lawful is =
    let same : hand.start ≡ start = cc in
    subst (λ (start : HandStart). IsLawfulPlay (record { start = start; acts = hand.acts })) same lawful.0
begun-lawful (hand ∷ played) (first ∷ before) start rest later lawful is =
    begun-lawful played before start rest later lawful.1 (cc)

-- The hand that is settled next has the acts of the next of all hands, and is a lawful play.
pub record IsNextSettled (played : List HandTerms) (before : List HandTerms) (hand : HandTerms) : Type 0 where
  pub acts : first_acts (drop (length before) played) ≡ hand.acts
  pub lawful : IsLawfulPlay hand

some_there : (before : List HandTerms) (hand : HandTerms) (rest : List HandTerms) → before ++ hand ∷ rest ≡ [] → ⊥
some_there [] hand rest none = cc
some_there (first ∷ before) hand rest none = cc

-- It is so where those that are settled are the first that were closed.
pub settled-next : (count : ℕ) (closed lying before : List HandTerms) (hand : HandTerms) (rest : List HandTerms)
    → AreLawful (closed ++ lying) → before ++ hand ∷ rest ≡ take count closed
    → IsNextSettled (closed ++ lying) before hand
settled-next zero closed lying before hand rest lawful is = absurd (some_there before hand rest is)
settled-next (suc count) [] lying before hand rest lawful is = absurd (some_there before hand rest is)
settled-next (suc count) (first ∷ closed) lying [] hand rest lawful is =
    let same : first ≡ hand = cc in
    record { acts = ap (λ (hand : HandTerms). hand.acts) same; lawful = subst IsLawfulPlay same lawful.0 }
settled-next (suc count) (first ∷ closed) lying (other ∷ before) hand rest lawful is =
    let next = settled-next count closed lying before hand rest lawful.1 (cc) in
    record { acts = next.acts; lawful = next.lawful }
