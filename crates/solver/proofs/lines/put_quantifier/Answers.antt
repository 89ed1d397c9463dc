-- `solver::lines::put_quantifier` meets its contract: a law for each kind that the check does not find. Assumes nothing.
use Rattle.std.proofs.Common.{rules}
use Rattle.solver.proofs.Parts.{some_count_line, all_counts_line, other_line}
use Rattle.solver.proofs.lines.put_quantifier.Goals as goal

pub returns-in-5-clause-put : goal.returns-in-5-clause-put
returns-in-5-clause-put g c = rw (some_count_line c.args.i c.args.kind c.in-5.is) c.put_count.ensures

pub returns-in-6-clause-put : goal.returns-in-6-clause-put
returns-in-6-clause-put g c = rw (all_counts_line c.args.i c.args.kind c.in-6.is) c.put_count-in-6.ensures

pub returns-in_default-clause-put : goal.returns-in_default-clause-put
returns-in_default-clause-put g c = rw (other_line c.args.i c.args.kind (search rules)) c.put_one-in_default.ensures
