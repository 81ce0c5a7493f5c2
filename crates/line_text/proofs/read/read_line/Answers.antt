use Rattle.std.proofs.Common.{◌≡◌, ap, subst, IfOk}
use Rattle.std.proofs.lemmas.Bool.{false≢true}
use Rattle.toml.proofs.Views.{view-Table}
use Rattle.line_text.specs.File.{table_read, bytes_read}
use Rattle.line_text.proofs.Documents.{document_found, document_none}
use Rattle.line_text.proofs.read.read_line.Goals as goal

pub returns-in-Ok : goal.returns-in-Ok
unfolding bytes_read
returns-in-Ok c =
    rw (document_found c.args.bytes.now _ c.in-Ok.ensures.ok)
    (subst (λ r. IfOk c.read_table.result (λ read. read ≡ r)) (ap table_read (view-Table c.in-Ok.table)) c.read_table.ensures)

pub returns-else-is_memory : goal.returns-else-is_memory
unfolding bytes_read
returns-else-is_memory c =
    rw (document_none c.args.bytes.now (c.in-Err.ensures.refused (λ memory. false≢true (c.if-is_memory.ensures.1 memory))))
