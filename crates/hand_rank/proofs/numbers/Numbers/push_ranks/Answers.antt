use Rattle.std.proofs.Common.{◌++◌, ◌∷◌, ◌∙◌, [], length, ap, sym, append_assoc, append-nil, length-append, arith}
use Rattle.std.proofs.lemmas.List.{nil_from_length}
use Rattle.hand_rank.specs.Sets.{ranks_of}
use Rattle.hand_rank.proofs.SoManyLaws.{ranks-first, ranks-over}
use Rattle.hand_rank.proofs.numbers.Numbers.push_ranks.Goals as goal

pub push-requires : goal.push-requires
push-requires c =
    let first = ranks-first c.loop.left.bits c.without-left.result.bits c.in-Some.rank
    (sym c.highest.ensures.rank ∙ c.in-Some.is) c.without-left.ensures in
    omega (
      arith,
      ap length first,
      ap length c.loop.invariant.written,
      length-append c.loop.self (ranks_of c.loop.left.bits),
      length-append c.args.self.now (ranks_of c.args.ranks.bits),
      c.requires,
    )

pub loop-preserved : goal.loop-preserved
loop-preserved c =
    let first = ranks-first c.loop.left.bits c.without-left.result.bits c.in-Some.rank
    (sym c.highest.ensures.rank ∙ c.in-Some.is) c.without-left.ensures in
    record {
      written = ap (λ xs. xs ++ ranks_of c.without-left.result.bits) c.push.ensures
          ∙ append_assoc c.loop.self (c.in-Some.rank ∷ []) (ranks_of c.without-left.result.bits)
          ∙ ap (λ rs. c.loop.self ++ rs) (sym first) ∙ c.loop.invariant.written;
      so_far = omega (arith, ap length first, c.loop.invariant.so_far);
    }

pub returns-in_default : goal.returns-in_default
returns-in_default c =
    let none = ranks-over c.loop.left.bits (sym c.highest.ensures.rank ∙ c.in_default.is) in
    sym (append-nil c.loop.self) ∙ ap (λ rs. c.loop.self ++ rs) (sym none) ∙ c.loop.invariant.written

pub returns : goal.returns
returns c =
    let none = nil_from_length (ranks_of c.loop.left.bits)
    (omega (arith, c.loop.invariant.so_far, c.loop-test.false, c.requires)) in
    sym (append-nil c.loop.self) ∙ ap (λ rs. c.loop.self ++ rs) (sym none) ∙ c.loop.invariant.written
