-- What is known before node i: its kind, its node and that it fits.
-- Assumes nothing.
use Rattle.std.proofs.Common.{Ok}
use mathlib.Core.Path.{◌≡◌, ap, ◌∙◌}
use mathlib.Core.List.{List}
use Prim.Native.Nat.{ℕ, ◌+◌, ◌*◌, ◌≤◌, ◌<◌}
use native.Mathlib.Omega.{arith}
use lib.IntN.{ℤ}
use lib.ListN.{length, get_or, take}
use Rattle.checker.specs.declared.Shape.{Shape}
use Rattle.checker.specs.Claim.{Node, unknown}
use Rattle.checker.specs.Kinds.{node_of, sort_table, entry_in}
use Rattle.checker.specs.Words.{word, word_at, node_at, claim_of}
use Rattle.checker.specs.Sorts.{Fits}
use Rattle.checker.specs.Check.{check_of}
use Rattle.region.specs.Pattern.{pattern_bits, Roomy}
use Rattle.emission.specs.Runs.{Patterned, Ready}
use Rattle.emission.specs.declared.source.Source.{Source}
use Rattle.emission.specs.declared.Frame.{Frame}
use Rattle.emission.specs.Plan.{Says, frame_at}
use Rattle.emission.specs.Write.{max_number}
use Rattle.checker.proofs.Claims.{Sound, sound}
use Rattle.emission.proofs.Claims.{node_is, node_fits}
use Rattle.emission.proofs.Frames.{regions_are, says_all, first_small}
use Rattle.emission.proofs.Walk.{patterned_none}

of_kind : (ws : List ℤ) (i k : ℕ) → word_at ws (3 * i) ≡ k → node_at ws i ≡ (entry_in sort_table k).node (word ws (3 * i + 1)) (word ws (3 * i + 2))
unfolding word_at node_of
of_kind ws i k e = ap (λ k. (entry_in sort_table k).node (word ws (3 * i + 1)) (word ws (3 * i + 2))) e

module _ {ws : List ℤ} {shape : Shape} {plan : List ℕ} {i : ℕ} (ready : Ready ws shape plan i) where
  pub known : Sound ws shape
  known = sound ws shape ready.accepted

  pub few : i < 1024
  few = omega (arith, ready.here, known.few_nodes)

  pub inside_claim : i < length (claim_of ws).nodes
  inside_claim = omega (arith, ready.here, known.nodes)

  abbrev pub here : Node
  here = get_or (claim_of ws).nodes i unknown

  pub of_its_kind : (k : ℕ) → word_at ws (3 * i) ≡ k → here ≡ (entry_in sort_table k).node (word ws (3 * i + 1)) (word ws (3 * i + 2))
  of_its_kind k e = node_is known i ready.here ∙ of_kind ws i k e

  pub fitting : (n : Node) → here ≡ n → Fits (claim_of ws).quantifiers (take i (claim_of ws).nodes) n
  fitting n e = rw e at (node_fits known i ready.here)

  -- no node of an accepted claim is of kind 0
  pub kind_some : word_at ws (3 * i) ≡ 0 → ⊥
  kind_some e = fitting unknown (of_its_kind 0 e)

  -- the frame inside all quantifiers
  module _ {f : Frame} (e : f ≡ frame_at plan shape.quantifiers) where
    pub inner_says : Says (claim_of ws).quantifiers f
    inner_says = says_all ready.planned known.quantifiers e

    pub inner_small : f.first + pattern_bits ≤ max_number
    inner_small =
        omega (arith, first_small inner_says (omega (arith, known.quantifiers, known.few_quantifiers)) (omega (arith, known.sets, known.few_sets)))

-- what a source knows
pub ready_at : (s : Source) {i : ℕ} → i < s.shape.nodes → Ready s.words.now s.shape s.plan.now i
ready_at s h = record { accepted = s.accepted; planned = s.planned; here = h }

-- before the first node nothing is asked of the table but its room
pub patterned_start : (ws : List ℤ) {shape : Shape} {patterns : List ℕ} → check_of ws ≡ Ok shape → Roomy shape patterns → Patterned (claim_of ws) patterns 0
patterned_start ws {shape} {patterns} accepted roomy =
    let claim = sound ws shape accepted in
    patterned_none (claim_of ws) patterns (omega (arith, claim.nodes, roomy.long))
    (rw (regions_are (claim_of ws).quantifiers, ← claim.sets) roomy.room)
