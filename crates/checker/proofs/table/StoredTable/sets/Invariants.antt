-- `checker::table::StoredTable::sets` meets its contract. Assumes nothing.
use Rattle.std.proofs.Common.{◌≡◌}
use Rattle.checker.specs.Search.{count}
use Rattle.checker.specs.Table.{one_too_many, binds_set}
use Rattle.checker.specs.Stored.{table_of}
use Rattle.checker.proofs.Search.{Upto}
use Rattle.checker.proofs.table.StoredTable.sets.Given as goal

abbrev pub invariant-loop-i : goal.invariant-loop-i
invariant-loop-i l =
    record {
      searched : Upto (one_too_many l.most (table_of l.self)) l.self.quantifiers l.i;
      counted : l.sets ≡ count (binds_set (table_of l.self)) l.i;
    }
