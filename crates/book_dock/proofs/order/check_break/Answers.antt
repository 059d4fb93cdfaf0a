use Rattle.std.proofs.Common.{◌∙◌, ap}
use Rattle.std.specs.Prelude.{Some}
use Rattle.book_dock.proofs.Asking.{refused-none, refused-other, refused-wrong}
use Rattle.book_dock.proofs.order.check_break.Goals as goal

pub returns-in-DrawWrong : goal.returns-in-DrawWrong
returns-in-DrawWrong c = λ places names draws.
    refused-wrong c.args.book.now c.args.table places c.new.result names c.new-2.result draws c.check_round.result
    (c.in-Err.ensures.err ∙ ap Some c.in-DrawWrong.is) c.check_round.ensures

pub returns-in-Err : goal.returns-in-Err
returns-in-Err c = λ places names draws.
    refused-other c.args.book.now c.args.table places c.new.result names c.new-2.result draws c.in-Err.refusal
    c.in_default.not-DrawWrong c.in-Err.ensures.err

pub returns : goal.returns
returns c = λ places names draws.
    refused-none c.args.book.now c.args.table places c.new.result names c.new-2.result draws c.in-Ok.ensures.ok
