use Rattle.std.proofs.Common.{◌≡◌, true}
use Rattle.tech_file.proofs.Tables.{table_read, no_table}
use Rattle.tech_file.proofs.reading.table.Goals as goal

pub returns-in-Ok-clause-read : goal.returns-in-Ok-clause-read
returns-in-Ok-clause-read c = table_read _ _ c.in-Ok.ensures.ok.0 c.in-Ok.ensures.ok.1

pub returns-else-is_memory-clause-refused : goal.returns-else-is_memory-clause-refused
returns-else-is_memory-clause-refused c =
    no_table _ (c.in-Err.ensures.refused (λ m. let t : c.is_memory.result ≡ true = c.is_memory.ensures.1 m in cc))
