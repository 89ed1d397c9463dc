-- One turn of the evaluation: the node at place k of the order can be worked out, and once it is stored one place more is known. Assumes nothing.
use mathlib.Core.Path.{◌≡◌, subst}
use mathlib.Core.Bool.{true}
use mathlib.Core.List.{List}
use Prim.Native.Nat.{ℕ, ◌+◌, ◌^◌, ◌≤◌, ◌<◌}
use native.Mathlib.Omega.{arith}
use lib.IntN.{ℤ, nat_abs}
use lib.ListN.{length, get_or, set, length-append}
use Rattle.checker.specs.Claim.{Claim, unknown}
use Rattle.checker.specs.Sorts.{sets}
use Rattle.checker.specs.Words.{word, node_at, claim_of}
use Rattle.checker.proofs.Accepted.{accepted_claim}
use Rattle.checker.proofs.Claims.{node_at_lem}
use Rattle.region.specs.Regions.{over}
use Rattle.region.specs.Pattern.{covers_at, Counted}
use Rattle.region.proofs.Covered.{over-append}
use Rattle.matrix.specs.Bound.{max_bound}
use Rattle.matrix.specs.Entry.{Filled}
use Rattle.matrix.specs.Work.{children, Every, work}
use Rattle.matrix.specs.Order.{Order}
use Rattle.matrix.specs.Known.{Ready, Open, Known, Settled, Workable}
use Rattle.matrix.proofs.Build.{node_room}
use Rattle.matrix.proofs.Known.{next_small, next_earlier, known_next}

-- the first regions have no more ports than all
open_le : (c : Claim) (N : ℕ) (front : List ℕ) → Open c N front → over (λ r. true) front ≤ N
open_le c N front o = omega (arith, over-append front o.rest (λ r. true), o.counts.total)

-- and they are no more than all
open_few : (c : Claim) (N : ℕ) (front : List ℕ) → Open c N front → length front ≤ 2 ^ sets c.quantifiers
open_few c N front o = omega (arith, length-append front o.rest, o.counts.regions)

module _ (ws : List ℤ) (N : ℕ) (ready : Ready ws N) (patterns : List ℕ) (filled : Filled (claim_of ws) (length (claim_of ws).nodes) patterns)
    (order : List ℕ) (known to : ℕ) (ordered : Order (claim_of ws) order to) (counts : List ℕ) (can : Open (claim_of ws) N counts)
    (settled : Settled patterns (length counts) order known to)
    (xs : List ℤ) (room : length (claim_of ws).nodes ≤ length xs) (k : ℕ) (from : known ≤ k) (h : k < to) (u : Known (claim_of ws) N counts order k xs) where
  abbrev i : ℕ
  i = get_or order k 0

  abbrev ports : ℕ
  ports = over (covers_at patterns i) counts

  is_node : get_or (claim_of ws).nodes i unknown ≡ node_at ws i
  is_node = node_at_lem ws i (ordered.nodes k h)

  pub workable : Workable ws N ports xs i
  workable =
      let ok = accepted_claim ws ready.shape ready.accepted in
      let below = ordered.nodes k h in
      record {
        few = omega (arith, ok.limited.few_nodes);
        room = node_room ws ready.shape ready.accepted i below;
        inside = omega arith;
        earlier = subst (λ n. Every (λ a. (a < i) × (nat_abs (word xs a) ≤ max_bound)) (children n)) is_node
            (next_earlier (claim_of ws) ok.sorted.0 N ready.bounded patterns filled order to ordered k h counts (settled k from h) xs u can.rest can.counts);
        small = subst (λ n. nat_abs (work N ports xs n) ≤ max_bound) is_node
            (next_small (claim_of ws) ok.sorted.0 N ready.bounded patterns filled order to ordered k h counts (settled k from h) xs u can.rest can.counts);
      }

  pub countable : N < 2 ^ 32 → Counted patterns i counts
  countable small = record {
    entry = omega (arith, filled.long, ordered.nodes k h);
    room = omega (arith, filled.room, open_few (claim_of ws) N counts can);
    within = settled k from h;
    small = omega (arith, open_le (claim_of ws) N counts can);
  }

  pub turned : (v : ℤ) → v ≡ work N ports xs (node_at ws i) → Known (claim_of ws) N counts order (k + 1) (set xs i v)
  turned v e =
      let ok = accepted_claim ws ready.shape ready.accepted in
      let below = ordered.nodes k h in
      rw (e, ← is_node)
      (known_next (claim_of ws) ok.sorted.0 N ready.bounded patterns filled order to ordered k h counts (settled k from h) xs u (omega arith))
