-- Who has won: the last player where the tournament is over, and nobody before.
use Rattle.std.proofs.Common.{◌≡◌, ◌∙◌, refl, ap, ℕ, ◌⊎◌, inl, inr, Bool, true, false, ◌==◌, List, [], ◌∷◌, length, arith}
use Rattle.std.specs.Prelude.{nat_lt, slice_get, if◌then◌else◌, Some, None, option_map}
use Rattle.std.proofs.lemmas.Bool.{and_parts, eqb-true}
use Rattle.seat_book.specs.declared.seated.Seated.{Seated}
use Rattle.tournament_rules.specs.Books.{BookState}
use Rattle.tournament_rules.specs.Checks.{is_over_for_all}
use Rattle.tournament_rules.specs.Report.{winner}

-- The winner is the one player who is in.
pub record HasWon (book : BookState) (last : ℕ) : Type 0 where
  pub is : winner book ≡ Some last
  pub seated : Seated
  pub alone : book.seating.players ≡ seated ∷ []
  pub number : seated.player ≡ last

-- Where the tournament is over somebody has won.
pub over-won : (book : BookState) → is_over_for_all book ≡ true → (last : ℕ) × HasWon book last
over-won book over =
    let one = eqb-true (length book.seating.players) 1
    (and_parts (nat_lt 0 (length book.busts)) (length book.seating.players == 1) over).1 in
    by_players book.seating.players one refl
  where
    by_players : (players : List Seated) → length players ≡ 1 → book.seating.players ≡ players
        → (last : ℕ) × HasWon book last
    by_players [] one same = absurd cc
    by_players (player ∷ []) one same = (
      player.player,
      record {
        is =
            ap (λ (over : Bool). if over then option_map (λ (player : Seated). player.player)
            (slice_get book.seating.players 0) else None) over
            ∙ ap (λ (players : List Seated).
            option_map (λ (player : Seated). player.player) (slice_get players 0)) same;
        seated = player;
        alone = same;
        number = refl;
      },
    )
    by_players (player ∷ other ∷ players) one same = absurd (omega (arith, one))

-- Where it is not over nobody has.
pub none_won : (book : BookState) → is_over_for_all book ≡ false → winner book ≡ None
none_won book going =
    ap (λ (over : Bool). if over then option_map (λ (player : Seated). player.player)
    (slice_get book.seating.players 0) else None) going

-- Somebody has won, or nobody has.
pub won_or_none : (book : BookState) → ((last : ℕ) × HasWon book last) ⊎ (winner book ≡ None)
won_or_none book = by_test (is_over_for_all book) refl
  where
    by_test : (over : Bool) → is_over_for_all book ≡ over → ((last : ℕ) × HasWon book last) ⊎ (winner book ≡ None)
    by_test true over = inl (over-won book over)
    by_test false going = inr (none_won book going)
