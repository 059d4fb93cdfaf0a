use Rattle.std.proofs.Common.{◌≡◌, ◌∙◌, ap, sym, ◌*◌, length, arith, ◌++◌}
use Rattle.std.specs.Prelude.{map}
use Rattle.std.proofs.lemmas.List.Sorted.{length_permutation}
use Rattle.place_list.specs.Standings.{standings_of, standing_of, standings_with, winner_of}
use Rattle.place_list.specs.Prizes.{pool_of, prizes_of}
use Rattle.place_list.proofs.InOrder.{ordered-sorted}
use Rattle.place_list.proofs.place_list.PlaceList.standings.Goals as goal

pub add_standings-requires-clause-most : goal.add_standings-requires-clause-most
add_standings-requires-clause-most c =
    let size = length_permutation c.deref.result.now c.in_ok-busts.busts.items c.in_ok-busts.ensures.same in
    let from = ap length c.deref.ensures.value in
    let to = ap length c.deref-3.ensures.value in
    omega (arith, size, from, to, c.self.invariant.1)

pub returns : goal.returns
unfolding standings_of
returns c =
    let sorted = c.in_ok-busts.busts.items in
    let pool = pool_of c.args.entries c.args.reentries c.args.buyin in
    let prizes = prizes_of c.args.entries pool c.args.shares.now in
    let whole : c.from.result * c.args.buyin ≡ pool = ap (λ n. n * c.args.buyin) c.from.ensures in
    let said : c.in_ok-prizes.prizes.items ≡ prizes = c.in_ok-prizes.ensures.prizes
    ∙ ap (λ pool. prizes_of c.args.entries pool c.args.shares.now) whole in
    let first : c.deref-2.result.now ≡ prizes = c.deref-2.ensures.value ∙ said in
    let second : c.deref-4.result.now ≡ prizes = c.deref-4.ensures.value ∙ said in
    let winner = c.in_ok-add_winner.ensures
    ∙ ap (λ list. list ++ winner_of c.deref-2.result.now c.args.last) c.in_ok-standings.ensures.items
    ∙ ap (λ list. winner_of list c.args.last) first in
    c.in_ok-add_standings.ensures
    ∙ ap (λ list. list ++ map (standing_of c.args.entries c.deref-4.result.now c.deref-3.result.now)
    c.deref-3.result.now) winner
    ∙ ap (λ list. winner_of prizes c.args.last ++ map
    (standing_of c.args.entries list c.deref-3.result.now) c.deref-3.result.now) second
    ∙ ap (λ list. winner_of prizes c.args.last ++ map (standing_of c.args.entries prizes list) list)
    c.deref-3.ensures.value
    ∙ ap (λ list. winner_of prizes c.args.last ++ list)
    (sym (ordered-sorted c.args.entries prizes c.deref.result.now sorted c.in_ok-busts.ensures.same
    c.in_ok-busts.ensures.order))
    ∙ ap (λ list. standings_with c.args.entries prizes c.args.last list) (c.deref.ensures.value ∙ c.self.view_is)
