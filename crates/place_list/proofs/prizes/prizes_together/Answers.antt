use Rattle.std.proofs.Common.{◌-◌, take, drop, length, arith}
use Rattle.std.proofs.lemmas.List.Sums.{sum_by-take-le, sum_by-take-drop}
use Rattle.place_list.proofs.prizes.prizes_together.Goals as goal

pub total-requires : goal.total-requires
total-requires c =
    let own = sum_by-take-le (λ n. n) (take (length c.args.prizes.now - c.min.result)
    (drop c.min.result c.args.prizes.now)) c.min-2.result in
    let behind = sum_by-take-le (λ n. n) (drop c.min.result c.args.prizes.now)
    (length c.args.prizes.now - c.min.result) in
    let all = sum_by-take-drop (λ n. n) c.args.prizes.now c.min.result in
    omega (arith, own, behind, all, c.requires)
