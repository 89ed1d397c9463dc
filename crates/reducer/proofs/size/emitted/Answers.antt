-- `reducer::size::emitted` meets its contract. Assumes nothing.
use mathlib.Core.Path.{ap, ◌∙◌}
use native.Mathlib.Omega.{arith}
use Rattle.checker.specs.Words.{claim_of}
use Rattle.reducer.proofs.Accepted.{accepted_nodes}
use Rattle.reducer.proofs.Joining.{known}
use Rattle.reducer.proofs.Counted.{quantifiers_next, nodes_are}
use Rattle.reducer.proofs.size.emitted.Goals as goal

pub frame_at-all-requires : goal.frame_at-all-requires
frame_at-all-requires c =
    omega (arith, c.requires.0.planned.long, (known c.requires.0).quantifiers)

pub overflow_add-result : goal.overflow_add-result
overflow_add-result c =
    let ws = c.args.words.now in
    omega (arith, c.requires.1, c.constraint_nodes.ensures, nodes_are (claim_of ws), accepted_nodes ws c.args.shape c.requires.0.accepted)

pub returns : goal.returns
returns c =
    record {
      nodes_value = omega (arith, c.requires.1, c.constraint_nodes.ensures, nodes_are (claim_of c.args.words.now));
      quantifiers_value = ap (λ f. f.next) c.frame_at-all.ensures ∙ quantifiers_next c.requires.0;
    }
