use Rattle.std.proofs.Common.{◌≡◌, ◌∙◌, ap, ◌+◌, take, drop, get_or, arith, rules, ◌∷◌, [], ◌++◌}
use Rattle.std.specs.Prelude.{sum}
use Rattle.std.proofs.lemmas.List.Sums.{sum_by-take-le, sum_by-take-drop}
use Rattle.place_list.specs.declared.bust.Bust.{Bust}
use Rattle.place_list.specs.declared.standing.Standing.{Standing}
use Rattle.place_list.specs.Places.{still_in}
use Rattle.place_list.specs.Standings.{standing_of}
use Rattle.place_list.proofs.InOrder.{standing-in_tie, standings-more}
use Rattle.place_list.proofs.TieBlocks.{tie-before_next}
use Rattle.place_list.proofs.place_list.add_standings.Goals as goal

pub equal_share-requires-clause-fits : goal.equal_share-requires-clause-fits
equal_share-requires-clause-fits c =
    let before = c.saturating_sub-still_in.result + c.next-tie.result.first in
    let own = sum_by-take-le (λ n. n)
    (drop (c.saturating_sub-still_in.result + c.next-tie.result.first) c.args.prizes.now)
    c.next-tie.result.players in
    let all = sum_by-take-drop (λ n. n) c.args.prizes.now (c.saturating_sub-still_in.result + c.next-tie.result.first)
    in
    omega (arith, own, all, c.prizes_together-together.ensures, c.requires.fits)

pub loop-index-preserved : goal.loop-index-preserved
loop-index-preserved c =
    let none : Bust = record { player = 0; stack = 0; group = 0 } in
    let bust : Bust = get_or c.args.busts.now c.loop-index.index none in
    let standing : Standing =
    record {
      player = bust.player;
      place = c.saturating_sub-still_in.result + c.next-tie.result.first + 1;
      prize =
          c.equal_share.result;
    } in
    let items : c.push.new.self.items ≡ c.loop-index.standings.items ++ standing ∷ [] = search rules in
    let still : c.saturating_sub-still_in.result ≡ still_in c.args.entries c.args.busts.now =
    c.saturating_sub-still_in.ensures in
    let together : c.prizes_together-together.result
    ≡ sum (take c.next-tie.result.players
    (drop (still_in c.args.entries c.args.busts.now + c.next-tie.result.first) c.args.prizes.now)) =
    c.prizes_together-together.ensures
    ∙ ap (λ n. sum (take c.next-tie.result.players (drop (n + c.next-tie.result.first) c.args.prizes.now)))
    still in
    let stands = standing-in_tie c.args.entries c.args.prizes.now c.args.busts.now c.next-tie.result
    c.loop-index.index none (c.saturating_sub-still_in.result + c.next-tie.result.first
    + 1) c.prizes_together-together.result
    c.requires.placed c.next-tie.ensures (ap (λ n. n + c.next-tie.result.first + 1) still) together in
    record {
      tie_before = tie-before_next c.args.busts.now c.next-tie.result c.loop-index.index c.next-tie.ensures;
      so_far = standings-more (standing_of c.args.entries c.args.prizes.now c.args.busts.now) c.args.busts.now
          c.loop-index.standings.items c.push.new.self.items c.args.standings.now.items standing c.loop-index.index
          none
          (omega arith) items (ap (λ n. record standing { prize = n }) c.equal_share.ensures
          ∙ stands) c.loop-index.invariant.so_far;
    }
