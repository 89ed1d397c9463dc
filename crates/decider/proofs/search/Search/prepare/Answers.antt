use mathlib.Core.Path.{◌≡◌, sym, ap, ◌∙◌}
use Prim.Native.Nat.{◌^◌}
use native.Mathlib.Omega.{arith}
use lib.ListN.{length}
use lib.Pow.{pow_mono}
use Rattle.checker.specs.Words.{claim_of}
use Rattle.checker.specs.Check.{max_sets, check_of}
use Rattle.checker.proofs.Search.{first_le}
use Rattle.checker.proofs.Claims.{sound}
use Rattle.matrix.specs.Bound.{over_bound}
use Rattle.decider.proofs.Admitted.{admitted}
use Rattle.decider.proofs.search.Search.prepare.Goals as goal

pub invariant_of-result : goal.invariant_of-result
invariant_of-result c =
    let claim = claim_of c.args.words.now in
    let granted = admitted c.args.size claim (check_of c.args.words.now) c.args.shape c.requires.words_value.0 in
    let shape = sound _ _ granted.checked in
    let regions : 2 ^ c.args.shape.sets ≡ c.fill_somes-regions.result = ap (λ n. 2 ^ n) shape.sets ∙ sym c.fill_somes-regions.ensures.value in
    record {
      ready = record {
        shape = c.args.shape;
        accepted = granted.checked;
        bounded = omega (arith, granted.bounded, first_le (over_bound c.args.size claim) (length claim.nodes));
      };
      small = granted.small;
      filled = rw shape.nodes at c.prepare.ensures.filled;
      ordered = c.arrange-rows.ensures.order.0;
      rooted = (rw shape.root c.arrange-rows.ensures.order.1, shape.root);
      final = c.fill_somes-regions.ensures.value;
      few = omega (arith, regions, pow_mono {j = max_sets} shape.few_sets);
      long = (omega (arith, regions), omega (arith, regions));
      quantified = c.fill_somes-regions.ensures.somes;
      scheduled = rw regions at c.arrange-rows.ensures.scheduled;
    }
