-- Which cards a player may show of those dealt.
use Rattle.std.specs.Prelude.{◌≢◌, ℕ, zero, suc, List, [], ◌∷◌, ◌++◌, map}
use Rattle.std.specs.List.{AllPairs, flat_map}
use Rattle.card_set.specs.declared.card.Card.{Card}

-- the choices of so many things of a list, in the list's order: those with its first thing, and then those without it
abbrev pub choices : {A : Type 0} → ℕ → List A → List (List A)
choices zero things = [] ∷ []
choices (suc more) [] = []
choices (suc more) (first ∷ others) = map (λ chosen. first ∷ chosen) (choices more others) ++ choices (suc more) others

-- in hold'em a player may show any five of his two hole cards and the board (Robert's Rules of Poker, hold'em)
abbrev pub holdem_choices : List Card → List Card → List (List Card)
holdem_choices hole board = choices 5 (hole ++ board)

-- in Omaha a player shows two of his four hole cards with three of the board (Robert's Rules of Poker, Omaha)
abbrev pub omaha_choices : List Card → List Card → List (List Card)
omaha_choices hole board = flat_map (λ pair. map (λ three. pair ++ three) (choices 3 board)) (choices 2 hole)

-- no card comes twice: each card differs from each later one
abbrev pub AreDistinct : List Card → Type 0
AreDistinct cards = AllPairs (λ one other. one ≢ other) cards
