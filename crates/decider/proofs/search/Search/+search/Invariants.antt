use Prim.Native.Nat.{◌+◌, ◌*◌, ◌-◌}
use Rattle.decider.proofs.Turns.{Tried}
use Rattle.decider.proofs.search.Search.+search.Given as goal

abbrev pub decreases-search : goal.decreases-search
decreases-search l = 2 * (l.self.now.regions - l.h) + 1

abbrev pub decreases-splits : goal.decreases-splits
decreases-splits l = 2 * (l.self.now.regions - l.h)

abbrev pub invariant-splits-loop-k : goal.invariant-splits-loop-k
invariant-splits-loop-k l = Tried l.self l.h l.next l.initial.counts l.initial.values l.initial.rest l.some l.k l.counts l.values l.rest
