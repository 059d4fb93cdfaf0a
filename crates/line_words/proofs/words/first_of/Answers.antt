use Rattle.std.proofs.Common.{◌+◌, ap, option_map, sym, ◌∙◌}
use Rattle.line_words.proofs.Positions.{behind}
use Rattle.line_words.proofs.words.first_of.Goals as goal

pub returns-in_err-index : goal.returns-in_err-index
returns-in_err-index c =
    c.from_residual.ensures ∙ ap (option_map (λ i. i + 8)) (sym c.in_err-index.was)
    ∙ behind c.args.between 8 c.args.bytes.now c.memchr.result c.in_default.ensures c.if-bytes-le-NEAR_BYTES.false
    c.memchr.ensures

pub returns : goal.returns
returns c =
    ap (option_map (λ i. i + 8)) (sym c.in_ok-index.was)
    ∙ behind c.args.between 8 c.args.bytes.now c.memchr.result c.in_default.ensures c.if-bytes-le-NEAR_BYTES.false
    c.memchr.ensures
