-- The table that stands in words whose counts are known. Assumes nothing.
use Rattle.checker.specs.declared.table.StoredTable.{StoredTable}
use Rattle.checker.specs.Table.{Table}
use Rattle.checker.specs.Check.{table_at}

abbrev pub table_of : StoredTable → Table
table_of t = table_at t.words.now t.nodes t.quantifiers
