-- A tally that is told a list of puts, seat by seat.
use Rattle.std.proofs.Common.{◌≡◌, ◌∙◌, ℕ, zero, suc, ◌+◌, ◌-◌, ◌<◌, List, [], ◌∷◌, ◌++◌, Bool, true, false, length, get_or, take, replicate, refl, ap, sym, add-one, arith}
use Rattle.pot_layers.specs.declared.put.Put.{Put}
use Rattle.pot_layers.specs.Tallies.{Tally, put_in_at, folded_at}
use Rattle.pot_layers.proofs.Raised.{no_put}

-- A tally is its puts and its dead chips.
pub tally-of : (tally : Tally) (puts : List Put) (dead : ℕ) → tally.puts ≡ puts → tally.dead ≡ dead
    → tally ≡ record { puts = puts; dead = dead }
tally-of tally puts dead is also =
    ap (λ (p : List Put). record { puts = p; dead = tally.dead }) is
    ∙ ap (λ (d : ℕ). record { puts = puts; dead = d }) also

abbrev pub fresh : Put
fresh = record { amount = 0; live = true }

-- The puts up to an index are told.
abbrev pub told_so_far : List Put → ℕ → List Put
told_so_far puts index = take index puts ++ replicate (10 - index) fresh

put-next : (puts : List Put) (index rest : ℕ) → index < length puts
    → put_in_at (take index puts ++ replicate (suc rest) fresh) index (get_or puts index no_put).amount
    ≡ take index puts ++ record (get_or puts index no_put) { live = true } ∷ replicate rest fresh
put-next [] index rest within = absurd (omega arith)
put-next (put ∷ more) zero rest within = let sum : 0 + put.amount ≡ put.amount = omega arith in
    ap (λ (n : ℕ). record { amount = n; live = true } ∷ replicate rest fresh) sum
put-next (put ∷ more) (suc index) rest within = ap (λ puts. put ∷ puts) (put-next more index rest (omega arith))

fold-next : (puts rest : List Put) (index : ℕ) → index < length puts
    → folded_at (take index puts ++ record (get_or puts index no_put) { live = true } ∷ rest) index
    ≡ take index puts ++ record (get_or puts index no_put) { live = false } ∷ rest
fold-next [] rest index within = absurd (omega arith)
fold-next (put ∷ more) rest zero within = refl
fold-next (put ∷ more) rest (suc index) within = ap (λ puts. put ∷ puts) (fold-next more rest index (omega arith))

told-next : (puts rest : List Put) (index : ℕ) (live : Bool) → index < length puts
    → (get_or puts index no_put).live ≡ live
    → take index puts ++ record (get_or puts index no_put) { live = live } ∷ rest ≡ take (suc index) puts ++ rest
told-next [] rest index live within is = absurd (omega arith)
told-next (put ∷ more) rest zero live within is = ap (λ (own : Bool). record { amount = put.amount; live = own } ∷ rest)
    (sym is)
told-next (put ∷ more) rest (suc index) live within is =
    ap (λ puts. put ∷ puts) (told-next more rest index live (omega arith) is)

-- The next player has put in so much.
pub put-told : (puts tally : List Put) (index : ℕ) → index < length puts → length puts ≡ 10
    → tally ≡ told_so_far puts index
    → put_in_at tally index (get_or puts index no_put).amount
    ≡ take index puts ++ record (get_or puts index no_put) { live = true } ∷ replicate (10 - (index + 1)) fresh
put-told puts tally index within ten told =
    let left : 10 - index ≡ suc (10 - (index + 1)) = omega arith in
    ap (λ puts'. put_in_at puts' index (get_or puts index no_put).amount) (told
    ∙ ap (λ (n : ℕ). take index puts ++ replicate n fresh) left)
    ∙ put-next puts index (10 - (index + 1)) within

-- A live player is told.
pub live-told : (puts tally : List Put) (index : ℕ) → index < length puts → length puts ≡ 10
    → tally ≡ told_so_far puts index → (get_or puts index no_put).live ≡ true
    → put_in_at tally index (get_or puts index no_put).amount ≡ told_so_far puts (index + 1)
live-told puts tally index within ten told live =
    put-told puts tally index within ten told
    ∙ told-next puts (replicate (10 - (index + 1)) fresh) index true within live
    ∙ ap (λ (n : ℕ). take n puts ++ replicate (10 - (index + 1)) fresh) (sym (add-one index))

-- A player who has folded is told.
pub folded-told : (puts tally : List Put) (index : ℕ) → index < length puts → length puts ≡ 10
    → tally ≡ told_so_far puts index → (get_or puts index no_put).live ≡ false
    → folded_at (put_in_at tally index (get_or puts index no_put).amount) index ≡ told_so_far puts (index + 1)
folded-told puts tally index within ten told folded =
    ap (λ puts'. folded_at puts' index) (put-told puts tally index within ten told)
    ∙ fold-next puts (replicate (10 - (index + 1)) fresh) index within
    ∙ told-next puts (replicate (10 - (index + 1)) fresh) index false within folded
    ∙ ap (λ (n : ℕ). take n puts ++ replicate (10 - (index + 1)) fresh) (sym (add-one index))
