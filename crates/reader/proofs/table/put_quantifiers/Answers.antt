-- `reader::table::put_quantifiers` meets its contract: what is left of the text decides. Assumes nothing.
use Rattle.std.proofs.Common.{refl, sym, ◌∙◌, map, arith, rules}
use Rattle.std.proofs.lemmas.Int.{to_z-of_z}
use mir.Syntax.{w64}
use mir.Val.{SFits}
use Rattle.checker.specs.Words.{quantifier_word}
use Rattle.reader.specs.Runs.{limits}
use Rattle.reader.proofs.Lefts.{left_step, left_over, left_full, quantifiers_run}
use Rattle.reader.proofs.table.put_quantifiers.Goals as goal

pub loop-i-preserved : goal.loop-i-preserved
loop-i-preserved c =
    let word : SFits w64 c.quantifier-quantifier.result.value = search rules in
    let begins = sym c.quantifies.ensures ∙ c.if-not-quantifies.false in
    let put = simp to_z-of_z at c.put_held.ensures in
    left_step (map quantifier_word) 1 quantifiers_run limits.quantifiers c.loop-i.invariant c.loop-i-test.true begins
    (λ xs. rw c.quantifier-quantifier.ensures.value) refl (omega arith) put c.quantifier-quantifier.ensures.rest

pub returns-then-not-quantifies-clause-put : goal.returns-then-not-quantifies-clause-put
returns-then-not-quantifies-clause-put c =
    let over = sym c.quantifies.ensures ∙ c.if-not-quantifies.true in
    left_over (map quantifier_word) 1 quantifiers_run limits.quantifiers c.loop-i.invariant refl _ refl refl over

pub returns-clause-put : goal.returns-clause-put
returns-clause-put c =
    left_full (map quantifier_word) 1 quantifiers_run limits.quantifiers c.loop-i.invariant refl _ (omega arith) refl c.loop-i-test.false
