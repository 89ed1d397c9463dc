use Rattle.std.proofs.Common.{arith}
use Rattle.checker.proofs.Claims.{sound}
use Rattle.matrix.proofs.patterns.over_sets.Goals as goal

pub overflow_mul-shape : goal.overflow_mul-shape
overflow_mul-shape c = record { fits = omega (arith, (sound _ _ c.requires.words_value).few_nodes) }

pub overflow_add-shape : goal.overflow_add-shape
overflow_add-shape c =
    let ok = sound _ _ c.requires.words_value in
    record { fits = omega (arith, ok.few_nodes, ok.few_quantifiers) }
