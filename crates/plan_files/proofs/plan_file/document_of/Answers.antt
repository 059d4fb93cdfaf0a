use Rattle.std.proofs.Common.{rules}
-- The bytes are the document that the grammar reads, or no UTF-8 or no document.
use Rattle.std.proofs.lemmas.Bool.{false≢true}
use Rattle.toml.specs.View.{table_view}
use Rattle.plan_files.proofs.WordsRead.{is_document, is_no_document}
use Rattle.plan_files.proofs.plan_file.document_of.Goals as goal

pub returns-in-Ok-clause-file : goal.returns-in-Ok-clause-file
returns-in-Ok-clause-file c =
    is_document c.args.bytes.now (table_view c.in-Ok.file) c.in-Ok.ensures.ok.0 c.in-Ok.ensures.ok.1

pub returns-in-Err-2-clause-wrong : goal.returns-in-Err-2-clause-wrong
returns-in-Err-2-clause-wrong c =
    is_no_document c.args.bytes.now
    (c.in-Err.ensures.refused (λ memory. false≢true (c.if-is_memory.ensures.1 memory)))

pub returns-in-Ok-clause-wrong : goal.returns-in-Ok-clause-wrong
returns-in-Ok-clause-wrong c = search rules
