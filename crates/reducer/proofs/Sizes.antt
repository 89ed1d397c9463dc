-- How many nodes, quantifiers and words the emission has (01, "The emission", last paragraph).
-- Assumes nothing.
use mathlib.Core.Path.{◌≡◌, sym, ◌∙◌, ap, subst}
use mathlib.Core.Bool.{true, false}
use mathlib.Core.List.{List, [], ◌∷◌, ◌++◌, append_assoc, append-nil}
use Prim.Native.Nat.{ℕ, ◌+◌, ◌*◌, ◌-◌, ◌^◌, ◌<◌, ◌≤◌}
use native.Mathlib.Decide.{dec_le}
use native.Mathlib.Nat.{zero-add, one-le-pow, one-mul, zero-mul, suc-mul, mul-le-mul}
use native.Mathlib.Omega.{arith}
use lib.ListN.{length, get_or, length-append, drop}
use lib.Pow.{pow_mono}
use lib.Seq.{drop-append_seam}
use Rattle.checker.specs.Claim.{Node, Quantifier, Claim, int_q, set_q, count_q}
use Rattle.checker.specs.Words.{words_of}
use Rattle.checker.specs.Sorts.{sets}
use Rattle.checker.specs.declared.Dialect.TheVariants as dialect
use Rattle.checker.specs.Dialect.{most_nodes, most_quantifiers}
use Rattle.checker.specs.Check.{max_nodes, max_quantifiers, max_sets}
use Rattle.checker.proofs.Words.{words-length}
use Rattle.emission.specs.Emission.{Frame, none, start, inside_all, run_of, Emitted, emit_node, emit_nodes, Body, join_some, join_all, join, close, body, emission}
use Rattle.emission.specs.Sizes.{all_sets}
use Rattle.emission.proofs.Lengths.{regions_power, quantifiers-length, run_short, close-length}
use Rattle.reducer.specs.Sizes.{region_count, constraint_part}
use Rattle.reducer.proofs.Stands.{nothing}
use Rattle.reducer.proofs.Bodies.{close_keeps}

-- ---- regions

regions_are : (c : Claim) → (inside_all start c.quantifiers).regions ≡ region_count c
unfolding start
regions_are c = regions_power c.quantifiers start ∙ one-mul (region_count c)

some_regions : (c : Claim) → 1 ≤ region_count c
some_regions c = one-le-pow (sets c.quantifiers) 2 (omega arith)

-- ---- the constraint part

-- ys starts with xs
pub record Starts (xs ys : List Node) : Type 0 where
  pub rest : List Node
  pub is : ys ≡ xs ++ rest

starts_more : {xs ys : List Node} → Starts xs ys → (zs : List Node) → Starts xs (ys ++ zs)
starts_more {xs} s zs = record { rest = s.rest ++ zs; is = ap (λ l. l ++ zs) s.is ∙ append_assoc xs s.rest zs }

join_starts : (xs : List Node) (f : Frame) (q : Quantifier) (b : Body) → Starts xs b.nodes → Starts xs (join f q b).nodes
unfolding join_some join_all
join_starts xs f (int_q some) b s = s
join_starts xs f (set_q true) b s = starts_more (starts_more s _) _
join_starts xs f (set_q false) b s = starts_more (starts_more s _) _
join_starts xs f (count_q some) b s = s

-- constraints are added to what is there
pub close_starts : (qs : List Quantifier) (f : Frame) (b : Body) → Starts b.nodes (close f qs b).nodes
close_starts qs f b =
    close_keeps (λ b'. Starts b.nodes b'.nodes) (join_starts b.nodes) qs f b (record { rest = []; is = sym (append-nil b.nodes) })

pub starts_with : {xs ys : List Node} → Starts xs ys → ys ≡ xs ++ drop (length xs) ys
starts_with {xs} {ys} s = s.is ∙ ap (λ l. xs ++ l) (sym (ap (drop (length xs)) s.is ∙ drop-append_seam xs s.rest))

-- the runs of the input's nodes come first
pub constraints_last : (c : Claim) → (emission c).nodes ≡ (body c).nodes ++ constraint_part c
unfolding emission constraint_part
constraints_last c = starts_with (close_starts c.quantifiers start (body c))

-- "The constraint part is exactly 6 × (R − 1) nodes plus one per for-all set quantifier."
pub constraints_length : (c : Claim) → length (constraint_part c) ≡ 6 * (region_count c - 1) + all_sets c.quantifiers
unfolding emission start
constraints_length c =
    omega (
      arith,
      ap length (constraints_last c),
      length-append (body c).nodes (constraint_part c),
      close-length c.quantifiers start (body c) (omega arith),
      regions_are c,
      some_regions c,
    )

-- ---- the whole

all_sets_few : (qs : List Quantifier) → all_sets qs ≤ sets qs
unfolding sets all_sets
all_sets_few [] = omega arith
all_sets_few (int_q some ∷ qs) = all_sets_few qs
all_sets_few (set_q true ∷ qs) = omega (arith, all_sets_few qs)
all_sets_few (set_q false ∷ qs) = omega (arith, all_sets_few qs)
all_sets_few (count_q some ∷ qs) = all_sets_few qs

nodes_short : (f : Frame) (ns : List Node) (e : Emitted) → 0 < f.regions
    → length (emit_nodes f e ns).nodes ≤ length e.nodes + length ns * (2 * f.regions + 5)
unfolding emit_nodes emit_node
nodes_short f [] e h = omega (arith, zero-mul (2 * f.regions + 5))
nodes_short f (n ∷ ns) e h =
    let run = run_of f (length e.nodes) (λ a. get_or e.stands a 0) (λ a. get_or e.patterns a none) n in
    omega (
      arith,
      nodes_short f ns (emit_node f e n) h,
      run_short f (length e.nodes) (λ a. get_or e.stands a 0) (λ a. get_or e.patterns a none) n h,
      length-append e.nodes run,
      suc-mul (length ns) (2 * f.regions + 5),
    )

body_short : (c : Claim) → length (body c).nodes ≤ length c.nodes * (2 * region_count c + 5)
unfolding body nothing
body_short c =
    let some : 0 < (inside_all start c.quantifiers).regions = omega (arith, regions_are c, some_regions c) in
    rw zero-add at (subst (λ r. length (body c).nodes ≤ 0 + length c.nodes * (2 * r + 5)) (regions_are c)
    (nodes_short (inside_all start c.quantifiers) c.nodes nothing some))

-- "The whole has at most n × (2R + 5) + 6 × (R − 1) + S nodes for n input nodes."
pub nodes_bound : (c : Claim)
    → length (emission c).nodes ≤ length c.nodes * (2 * region_count c + 5) + 6 * (region_count c - 1) + sets c.quantifiers
nodes_bound c =
    omega (
      arith,
      ap length (constraints_last c),
      length-append (body c).nodes (constraint_part c),
      constraints_length c,
      all_sets_few c.quantifiers,
      body_short c,
    )

-- A set quantifier with e sets outside it becomes 2 ^ (e + 1) quantifiers; together those are 2 (R - 1).
pub quantifier_count : (c : Claim)
    → length (emission c).quantifiers + sets c.quantifiers ≡ length c.quantifiers + 2 * (region_count c - 1)
unfolding emission start
quantifier_count c = omega (arith, quantifiers-length c.quantifiers start, regions_are c, some_regions c)

pub word_count : (c : Claim) → length (words_of (emission c)) ≡ 3 * length (emission c).nodes + length (emission c).quantifiers + 4
word_count c = words-length (emission c)

-- ---- within the limits of a claim

pub nodes_limit : (c : Claim) → length c.nodes ≤ max_nodes → sets c.quantifiers ≤ max_sets → length (emission c).nodes ≤ most_nodes dialect.Emitted
nodes_limit c n s =
    let r : region_count c ≤ 2 ^ max_sets = pow_mono s in
    let w : 2 * region_count c + 5 ≤ 2 * 2 ^ max_sets + 5 = omega arith in
    let m : length c.nodes * (2 * region_count c + 5) ≤ max_nodes * (2 * 2 ^ max_sets + 5) = mul-le-mul n w in
    omega (arith, nodes_bound c)

-- a set makes at least as many regions as it takes quantifiers, so that the most sets make the most quantifiers
power_limit : (s : ℕ) → s ≤ max_sets → 2 * 2 ^ s + max_sets ≤ 2 * 2 ^ max_sets + s
power_limit s h = go (dec_le max_sets s)
  where
    go : Dec (max_sets ≤ s) → 2 * 2 ^ s + max_sets ≤ 2 * 2 ^ max_sets + s
    go (yes k) = omega (arith, pow_mono h)
    go (no k) = omega (arith, pow_mono {i = s} {j = max_sets - 1} (omega arith))

pub quantifiers_limit : (c : Claim) → length c.quantifiers ≤ max_quantifiers → sets c.quantifiers ≤ max_sets
    → length (emission c).quantifiers ≤ most_quantifiers dialect.Emitted
quantifiers_limit c n s = omega (arith, quantifier_count c, power_limit (sets c.quantifiers) s)
