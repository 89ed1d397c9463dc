use mathlib.Core.Path.{refl, ap, ◌∙◌}
use native.Mathlib.Omega.{arith}
use lib.ListN.{take}
use Rattle.std.proofs.Common.{Err}
use Rattle.std.proofs.lemmas.Result.{err_from_is_err_and}
use Rattle.decider.proofs.Heap.{shorter, still}
use Rattle.decider.proofs.Settling.{stands_passed}
use Rattle.decider.proofs.Turns.{tried_none, tried_all, stands_below, spent_below, found_below, goes_on}
use Rattle.decider.proofs.search.Search.+search.Goals as goal
use Rattle.decider.proofs.search.Search.+search.Goals.{splits-else-loop-k-test, splits-then-loop-k-test+in_ok-found+else-found-some+else-k-k-end}

pub search-step-requires-clause-stands : goal.search-step-requires-clause-stands
search-step-requires-clause-stands t c =
    let stands = rw (← c.self.view_is) at c.requires.stands in
    rw (← c.self.view_is) (rw c.if-first-self.true at (stands_passed c.self.invariant stands c.pass-first.ensures c.pass-first.auto.counts))

pub search-splits-requires : goal.search-splits-requires
search-splits-requires t c =
    let stands = rw (← c.self.view_is) at c.requires.stands in
    let regions = ap (λ s. s.regions) c.self.view_is in (
      omega (arith, c.decreases, c.pass-first.ensures.from, c.pass-first.ensures.upto, c.if-first-self.false, regions),
      (
        rw (← c.self.view_is) (stands_passed c.self.invariant stands c.pass-first.ensures c.pass-first.auto.counts),
        (omega (arith, c.pass-first.ensures.upto, c.if-first-self.false, regions), c.requires.taken_bound),
      ),
    )

pub search-returns-else-first-self-clause-counts_unchanged : goal.search-returns-else-first-self-clause-counts_unchanged
search-returns-else-first-self-clause-counts_unchanged t c =
    let lower = c.pass-first.ensures.from in
    shorter _ _ _ _ _ (omega arith) c.splits.ensures.counts_unchanged c.pass-first.ensures.stands

pub splits-loop-k-init : goal.splits-loop-k-init
splits-loop-k-init t c =
    let lt = rw (← c.self.view_is) at c.requires.h_lt_regions in
    rw (← c.self.view_is) (tried_none c.self.invariant c.requires.stands.place.0 lt refl)

pub splits-search-requires : goal.splits-search-requires
splits-search-requires t c =
    let settles = rw c.self.view_is at c.self.invariant in (
      omega (arith, c.decreases, c.requires.h_lt_regions),
      (
        stands_below _ c.loop-k.invariant (omega arith) c.children.ensures settles c.requires.stands c.requires.h_lt_regions c.advance-next.ensures.value
            c.advance-next.ensures.known_2 (c.children.auto.counts ∙ c.loop-k.auto.counts) (c.loop-k.auto.values ∙ c.advance-next.auto.values),
        omega (arith, c.loop-k.invariant.paid, c.requires.taken_bound),
      ),
    )

pub splits-returns-in_err-found-clause-value : goal.splits-returns-in_err-found-clause-value
splits-returns-in_err-found-clause-value t c =
    let r = err_from_is_err_and c.from_residual.result c.from_residual.ensures.1 in
    r.1 ∙ ap Err r.2 ∙ spent_below _ c.loop-k.invariant (omega arith) c.children.ensures c.search.ensures.value c.in_err-found.was

pub splits-returns-in_err-found-clause-counts_unchanged : goal.splits-returns-in_err-found-clause-counts_unchanged
splits-returns-in_err-found-clause-counts_unchanged t c =
    still _ _ _ _ _ c.loop-k.invariant.stands c.children.ensures (omega arith) _ c.search.ensures.counts_unchanged

pub splits-returns-then-found-some-clause-value : goal.splits-returns-then-found-some-clause-value
splits-returns-then-found-some-clause-value t c =
    found_below _ c.loop-k.invariant (omega arith) c.children.ensures c.search.ensures.value c.in_ok-found.was c.if-found-some.true

pub splits-returns-then-found-some-clause-counts_unchanged : goal.splits-returns-then-found-some-clause-counts_unchanged
splits-returns-then-found-some-clause-counts_unchanged t c =
    still _ _ _ _ _ c.loop-k.invariant.stands c.children.ensures (omega arith) _ c.search.ensures.counts_unchanged

pub splits-loop-k-preserved : goal.splits-loop-k-preserved
splits-loop-k-preserved t c =
    goes_on _ c.loop-k.invariant (omega arith) c.children.ensures c.search.ensures.value (omega arith) c.in_ok-found.was c.if-found-some.false
    c.search.ensures.counts_unchanged c.search.ensures.kept

pub splits-returns-clause-value : goal.splits-returns-clause-value
splits-returns-clause-value t c =
    elim c.loop-k-test.branch [
      | splits-else-loop-k-test w ↦ absurd (omega arith)
      | splits-then-loop-k-test+in_ok-found+else-found-some+else-k-k-end w ↦
          rw w.rest-is
          (tried_all
          (goes_on _ c.loop-k.invariant (omega arith) w.children.ensures w.search.ensures.value (omega arith) w.in_ok-found.was w.if-found-some.false
          w.search.ensures.counts_unchanged w.search.ensures.kept) (omega arith))
    ]

pub splits-returns-clause-counts_unchanged : goal.splits-returns-clause-counts_unchanged
splits-returns-clause-counts_unchanged t c =
    elim c.loop-k-test.branch [
      | splits-else-loop-k-test w ↦ ap (take _) w.counts-is ∙ c.loop-k.invariant.stands
      | splits-then-loop-k-test+in_ok-found+else-found-some+else-k-k-end w ↦
          ap (take _) w.counts-is ∙ still _ _ _ _ _ c.loop-k.invariant.stands w.children.ensures (omega arith) _ w.search.ensures.counts_unchanged
    ]
