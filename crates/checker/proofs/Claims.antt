-- What is known of the claim that words are read as: how many nodes and quantifiers it has and what stands at each, and, where the words are
-- accepted, what the shape that is handed on says of it. Assumes nothing.
use Rattle.std.proofs.Common.{Ok}
use mathlib.Core.Path.{◌≡◌, ap}
use mathlib.Core.Bool.{true}
use mathlib.Core.List.{List}
use Prim.Native.Nat.{ℕ, ◌+◌, ◌*◌, ◌≤◌, ◌<◌}
use native.Mathlib.Omega.{arith}
use lib.IntN.{ℤ}
use lib.ListN.{length, get_or}
use Rattle.checker.specs.declared.Shape.{Shape}
use Rattle.checker.specs.Claim.{unknown, int_q}
use Rattle.checker.specs.Words.{nodes_in, quantifiers_in, node_at, quantifier_at, claim_of, words_of}
use Rattle.checker.specs.Sorts as Sorts
use Rattle.checker.specs.Sorts.{WellSorted}
use Rattle.checker.specs.Check.{check_of, max_nodes, max_quantifiers, max_sets}
use Rattle.checker.proofs.Accepted.{accepted_claim}
use Rattle.checker.proofs.Tab.{tab_at, tab-length}
use Rattle.checker.proofs.Words.{words-length}

module _ (ws : List ℤ) where
  pub node_count_lem : length (claim_of ws).nodes ≡ nodes_in ws
  unfolding claim_of
  node_count_lem = tab-length (nodes_in ws) (node_at ws)

  pub quantifier_count : length (claim_of ws).quantifiers ≡ quantifiers_in ws
  unfolding claim_of
  quantifier_count = tab-length (quantifiers_in ws) (quantifier_at ws (nodes_in ws))

  pub node_at_lem : (i : ℕ) → i < length (claim_of ws).nodes → get_or (claim_of ws).nodes i unknown ≡ node_at ws i
  unfolding claim_of
  node_at_lem i h = tab_at (nodes_in ws) (node_at ws) unknown i (omega (arith, node_count_lem))

  pub quantifier_in : (j : ℕ) → j < length (claim_of ws).quantifiers → get_or (claim_of ws).quantifiers j (int_q true) ≡ quantifier_at ws (nodes_in ws) j
  unfolding claim_of
  quantifier_in j h = tab_at (quantifiers_in ws) (quantifier_at ws (nodes_in ws)) (int_q true) j (omega (arith, quantifier_count))

-- ---- accepted words

pub record Sound (ws : List ℤ) (shape : Shape) : Type 0 where
  pub sorted : WellSorted (claim_of ws)
  pub same : words_of (claim_of ws) ≡ ws
  pub nodes : shape.nodes ≡ length (claim_of ws).nodes
  pub quantifiers : shape.quantifiers ≡ length (claim_of ws).quantifiers
  pub sets : shape.sets ≡ Sorts.sets (claim_of ws).quantifiers
  pub root : shape.root ≡ (claim_of ws).root
  pub few_nodes : shape.nodes ≤ max_nodes
  pub few_quantifiers : shape.quantifiers ≤ max_quantifiers
  pub few_sets : shape.sets ≤ max_sets
  pub long : length ws ≡ 3 * shape.nodes + shape.quantifiers + 4

pub sound : (ws : List ℤ) (shape : Shape) → check_of ws ≡ Ok shape → Sound ws shape
sound ws shape e =
    let a = accepted_claim ws shape e in
    let n : shape.nodes ≡ length (claim_of ws).nodes = ap (λ s. s.nodes) a.shape in
    let q : shape.quantifiers ≡ length (claim_of ws).quantifiers = ap (λ s. s.quantifiers) a.shape in
    let s : shape.sets ≡ Sorts.sets (claim_of ws).quantifiers = ap (λ s. s.sets) a.shape in
    record {
      sorted = a.sorted;
      same = a.words;
      nodes = n;
      quantifiers = q;
      sets = s;
      root = ap (λ s. s.root) a.shape;
      few_nodes = omega (arith, a.limited.few_nodes);
      few_quantifiers = omega (arith, a.limited.few_quantifiers);
      few_sets = omega (arith, a.limited.few_sets);
      long = omega (arith, ap length a.words, words-length (claim_of ws));
    }
