use Rattle.std.proofs.Common.{◌≡◌, ◌∙◌, ◌≤◌, ap, sym, ℕ, ◌-◌, [], ◌∷◌, ◌++◌, take, arith, rules}
use Rattle.std.proofs.lemmas.Grind.{common_steps}
use Rattle.std.specs.Prelude.{sum, map}
use Rattle.std.proofs.lemmas.List.Sums.{sum_by-take-le, sum_by-append}
use Rattle.std.proofs.lemmas.List.{take_all}
use Rattle.place_list.specs.Prizes.{part_of, parts, first_gets, prizes_of}
use Rattle.place_list.proofs.PrizeLists.{part-left, parts-more, take-min}
use Rattle.place_list.proofs.prizes.prizes_of.Goals as goal

pub overflow_sub-left : goal.overflow_sub-left
overflow_sub-left c =
    let few : sum (take c.min.result c.args.shares.now) ≤ 1000 =
    (let within = sum_by-take-le (λ n. n) c.args.shares.now c.min.result in
    omega (arith, within, c.requires.shares)) in
    let enough = part-left _ (take c.min.result c.args.shares.now) c.loop-share.prizes.items c.loop-share.left
    c.loop-share.share-index (omega arith) few c.loop-share.invariant.parts c.loop-share.invariant.whole in
    rw c.part_of-part.ensures enough

pub loop-share-preserved : goal.loop-share-preserved
loop-share-preserved c =
    let items : c.push.new.self.items ≡ c.loop-share.prizes.items ++ c.part_of-part.result ∷ [] = search rules in
    let grown = ap sum items ∙ sum_by-append (λ (n : ℕ). n) c.loop-share.prizes.items (c.part_of-part.result ∷ []) in
    let few : sum (take c.min.result c.args.shares.now) ≤ 1000 =
    (let within = sum_by-take-le (λ n. n) c.args.shares.now c.min.result in
    omega (arith, within, c.requires.shares)) in
    let enough = part-left _ (take c.min.result c.args.shares.now) c.loop-share.prizes.items c.loop-share.left
    c.loop-share.share-index (omega arith) few c.loop-share.invariant.parts c.loop-share.invariant.whole in
    let part = c.part_of-part.ensures in
    record {
      parts = items ∙ ap (λ front. front ++ c.part_of-part.result ∷ []) c.loop-share.invariant.parts
          ∙ ap (λ last. map (part_of c.args.pool)
          (take c.loop-share.share-index (take c.min.result c.args.shares.now)) ++ last ∷ []) part
          ∙ sym (parts-more c.args.pool
          (take c.min.result c.args.shares.now) c.loop-share.share-index (omega arith));
      whole = omega (arith, grown, enough, part, c.loop-share.invariant.whole);
    }

pub returns-clause-prizes : goal.returns-clause-prizes
unfolding prizes_of
returns-clause-prizes c =
    let shares : take c.loop-share.share-index (take c.min.result c.args.shares.now)
    ≡ take c.args.entries c.args.shares.now =
    take_all c.loop-share.share-index (take c.min.result c.args.shares.now) (omega arith)
    ∙ take-min c.args.shares.now c.args.entries c.min.result c.min.ensures in
    let items : c.loop-share.prizes.items ≡ parts c.args.entries c.args.pool c.args.shares.now =
    c.loop-share.invariant.parts ∙ ap (map (part_of c.args.pool)) shares in
    let total = ap sum items in
    let left : c.loop-share.left ≡ c.args.pool - sum (parts c.args.entries c.args.pool c.args.shares.now) =
    omega (arith, total, c.loop-share.invariant.whole) in
    c.first_gets.ensures ∙ ap (λ n. first_gets n c.loop-share.prizes.items) left
    ∙ ap (first_gets (c.args.pool - sum (parts c.args.entries c.args.pool c.args.shares.now))) items

pub part_of-part-requires-clause-share : goal.part_of-part-requires-clause-share
part_of-part-requires-clause-share c = grind (arith, common_steps)

pub returns-clause-pool : goal.returns-clause-pool
returns-clause-pool c = grind (arith, common_steps)
