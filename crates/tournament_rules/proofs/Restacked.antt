-- What stays of the players and of their tables where stacks at rest alone change.
use Rattle.std.proofs.Common.{◌≡◌, ◌∙◌, refl, sym, ap, subst, ℕ, ◌+◌, Bool, cond, List, [], ◌∷◌, map, get_or}
use Rattle.std.specs.Prelude.{not, count_by, slice_get, Some}
use Rattle.std.specs.List.{list_all, list_any}
use Rattle.std.proofs.lemmas.List.Sums.{sum_by-cons}
use Rattle.std.proofs.lemmas.List.Elements.{All-map}
use Rattle.place_list.specs.declared.bust.Bust.{Bust}
use Rattle.seat_book.specs.declared.seated.Seated.{Seated}
use Rattle.seat_book.specs.Places.{are_rising}
use Rattle.seat_book.specs.Players.{is_numbered, are_in_order, are_apart}
use Rattle.tournament_rules.specs.Players.{with_rest}
use Rattle.tournament_rules.specs.Valid.{AreEntered, is_bust_of}

-- A change of players changes their stacks at rest and nothing else.
pub record ChangesStacks (change : Seated → Seated) : Type 0 where
  pub same : (player : Seated) → change player ≡ with_rest player (change player).stack

-- Something about a player does not depend on his stack.
pub record IsKey {K : Type 0} (key : Seated → K) : Type 0 where
  pub same : (player : Seated) (stack : ℕ) → key (with_rest player stack) ≡ key player

-- What does not depend on his stack is the same of a player whose stack is changed.
pub key_changed : {K : Type 0} (key : Seated → K) (change : Seated → Seated) → IsKey key → ChangesStacks change
    → (player : Seated) → key (change player) ≡ key player
key_changed key change keeps stacks player = ap key (stacks.same player) ∙ keeps.same player (change player).stack

-- And of all players.
pub keys_changed : {K : Type 0} (key : Seated → K) (change : Seated → Seated) → IsKey key → ChangesStacks change
    → (players : List Seated) → map key (map change players) ≡ map key players
keys_changed key change keeps stacks [] = refl
keys_changed key change keeps stacks (player ∷ players) =
    rw (key_changed key change keeps stacks player, keys_changed key change keeps stacks players) refl

-- A test that does not look at stacks passes for all of the players where it did.
pub all_changed : (test : Seated → Bool) (change : Seated → Seated) → IsKey test → ChangesStacks change
    → (players : List Seated) → list_all test (map change players) ≡ list_all test players
all_changed test change keeps stacks [] = refl
all_changed test change keeps stacks (player ∷ players) =
    rw (key_changed test change keeps stacks player, all_changed test change keeps stacks players) refl

-- It passes for some of them where it did.
pub any_changed : (test : Seated → Bool) (change : Seated → Seated) → IsKey test → ChangesStacks change
    → (players : List Seated) → list_any test (map change players) ≡ list_any test players
any_changed test change keeps stacks [] = refl
any_changed test change keeps stacks (player ∷ players) =
    rw (key_changed test change keeps stacks player, any_changed test change keeps stacks players) refl

-- It passes for as many.
pub count_changed : (test : Seated → Bool) (change : Seated → Seated) → IsKey test → ChangesStacks change
    → (players : List Seated) → count_by test (map change players) ≡ count_by test players
count_changed test change keeps stacks [] = refl
count_changed test change keeps stacks (player ∷ players) =
    sum_by-cons (λ x. cond (test x) 1 0) (change player) (map change players)
    ∙ (rw (key_changed test change keeps stacks player, count_changed test change keeps stacks players)
    (sym (sum_by-cons (λ x. cond (test x) 1 0) player players)))

-- The players sit where they sat.
pub order_changed : (change : Seated → Seated) → ChangesStacks change → (players : List Seated)
    → are_in_order (map change players) ≡ are_in_order players
order_changed change stacks players =
    ap are_rising (keys_changed (λ player. player.place) change (record { same = λ player stack. refl }) stacks players)

-- No two have one number where no two had.
pub apart_changed : (change : Seated → Seated) → ChangesStacks change → (players : List Seated)
    → are_apart (map change players) ≡ are_apart players
apart_changed change stacks [] = refl
apart_changed change stacks (player ∷ players) =
    let number = key_changed (λ (player : Seated). player.player) change (record { same = λ player stack. refl })
    stacks player in
    let others = all_changed (λ other. not (is_numbered player.player other)) change
    (record { same = λ player stack. refl }) stacks players in
    let rest = apart_changed change stacks players in
    rw (number, others, rest) refl

-- The entries, the players and those who are out agree where they did.
pub entered_changed : (entries : List (List ℕ)) (reentries : ℕ) (players : List Seated) (busts : List Bust)
    (change : Seated → Seated)
    → ChangesStacks change → AreEntered entries reentries players busts
    → AreEntered entries reentries (map change players) busts
entered_changed entries reentries players busts change stacks entered = record {
  few = entered.few;
  names = entered.names;
  once = λ number. ap (λ (count : ℕ). count + count_by (is_bust_of number) busts)
      (count_changed (is_numbered number) change (record { same = λ player stack. refl }) stacks players)
      ∙ entered.once number;
  named = All-map (λ player. slice_get entries player.player ≡ Some player.name) change players
      (λ k d within. named_one (get_or players k d) (entered.named k d within));
}
  where
    named_one : (player : Seated) → slice_get entries player.player ≡ Some player.name
        → slice_get entries (change player).player ≡ Some (change player).name
    named_one player named =
        subst (λ (p : Seated). slice_get entries p.player ≡ Some p.name) (sym (stacks.same player)) named
