-- `reducer::size::constraint_nodes` meets its contract. Assumes nothing.
use native.Mathlib.Omega.{arith}
use Rattle.checker.specs.Words.{claim_of}
use Rattle.checker.proofs.Claims.{sound}
use Rattle.reducer.proofs.Sizes.{constraints_length}
use Rattle.reducer.proofs.Counted.{alls_few, regions_known, regions_some, regions_few}
use Rattle.reducer.proofs.size.constraint_nodes.Goals as goal

pub overflow_shl-regions : goal.overflow_shl-regions
overflow_shl-regions c =
    omega (arith, (sound c.args.words.now _ c.requires).few_sets)

pub overflow_sub-result : goal.overflow_sub-result
overflow_sub-result c =
    regions_some (sound c.args.words.now _ c.requires)

pub overflow_mul-result : goal.overflow_mul-result
overflow_mul-result c =
    omega (arith, regions_few (sound c.args.words.now _ c.requires))

pub overflow_add-result : goal.overflow_add-result
overflow_add-result c =
    let known = sound c.args.words.now c.args.shape c.requires in
    omega (arith, regions_few known, c.for_alls.ensures, alls_few (claim_of c.args.words.now).quantifiers, known.quantifiers, known.few_quantifiers)

pub returns : goal.returns
returns c =
    let known = sound c.args.words.now c.args.shape c.requires in
    omega (arith, regions_known known, c.for_alls.ensures, constraints_length (claim_of c.args.words.now))
