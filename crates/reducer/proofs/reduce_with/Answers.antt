-- `reducer::reduce_with` meets its contract: what is admitted is written, and what is refused leaves
-- `out` as it was. Assumes nothing.
use mathlib.Core.Path.{sym, ◌∙◌}
use native.Mathlib.Omega.{arith}
use lib.ListN.{length}
use Rattle.checker.specs.Words.{claim_of}
use Rattle.emission.specs.Emission.{emission}
use Rattle.reducer.proofs.Admitted.{admitted_room, emitted_held}
use Rattle.checker.proofs.Claims.{sound}
use Rattle.region.proofs.Pattern.{roomy_same}
use Rattle.reducer.proofs.reduce_with.Goals as goal

pub make-requires : goal.make-requires
make-requires g c =
    (c.requires.accepted, omega (arith, (sound c.args.words.now _ c.requires.accepted).few_quantifiers))

pub put_emission-requires : goal.put_emission-requires
put_emission-requires g c =
    let claim = emission (claim_of c.args.words.now) in
    let first = c.count-first.ensures.nodes_value in
    let size = c.emitted-size.ensures in
    let passed = sym (c.admit.ensures claim size.nodes_value size.quantifiers_value) ∙ c.in_ok-admit.was in record {
      prepared = (
        record { accepted = c.requires.accepted; planned = c.make.ensures.planned },
        record { nodes = first.0; root = first.1 },
        roomy_same c.count-first.auto.patterns c.requires.roomy,
      );
      words_in_bounds = admitted_room claim (length c.args.out.now) c.args.shape passed;
    }

pub returns-clause-out_after : goal.returns-clause-out_after
returns-clause-out_after g c =
    let claim = emission (claim_of c.args.words.now) in
    let size = c.emitted-size.ensures in
    let passed = sym (c.admit.ensures claim size.nodes_value size.quantifiers_value) ∙ c.in_ok-admit.was in
    emitted_held claim c.put_emission.ensures (admitted_room claim (length c.args.out.now) c.args.shape passed)
