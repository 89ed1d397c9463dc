-- The free words of nodes: constants, factors and divisors. Those of an emission are those of its claim and 0, so they fit 32 bits if the claim's do.
-- Assumes nothing.
use mathlib.Core.Bool.{true, false}
use mathlib.Core.List.{List, [], ◌∷◌, ◌++◌}
use Prim.Native.Nat.{ℕ, zero, suc, ◌+◌, ◌*◌, ◌-◌}
use native.Mathlib.Omega.{arith}
use lib.IntN.{ℤ, pos}
use lib.ListN.{length}
use mir.Syntax.{w32}
use mir.Val.{SFits}
use Rattle.checker.specs.Claim.{Node, Quantifier, Claim, set_var, empty, whole, union, inter, compl, num_var, const, maxc, sum, diff, multiple, card, equal, less, divided, set_equal, subset, conj, disj, neg, unknown, int_q, set_q, count_q}
use Rattle.checker.specs.Meaning.{Set}
use Rattle.emission.specs.Emission.{Place, region_node, Frame, start, inside_all, sum_run, card_run, last, empty_run, both_run, run_of, Emitted, emit_node, emit_nodes, five, further_fives, constraint, Body, split_run, join_some, join_all, join, body, emission, size, counts}
use Rattle.reducer.proofs.Stands.{nothing, run_at}
use Rattle.reducer.proofs.Bodies.{close_keeps}

-- a node's free word, and 0 if it has none
abbrev pub free : Node → ℤ
free (set_var q) = pos 0
free empty = pos 0
free whole = pos 0
free (union a b) = pos 0
free (inter a b) = pos 0
free (compl a) = pos 0
free (num_var q) = pos 0
free (const w) = w
free maxc = pos 0
free (sum a b) = pos 0
free (diff a b) = pos 0
free (multiple w b) = w
free (card a) = pos 0
free (equal a b) = pos 0
free (less a b) = pos 0
free (divided w b) = w
free (set_equal a b) = pos 0
free (subset a b) = pos 0
free (conj a b) = pos 0
free (disj a b) = pos 0
free (neg a) = pos 0
free unknown = pos 0

abbrev pub Small : ℤ → Type 0
Small w = SFits w32 w

abbrev pub FreeSmall : List Node → Type 0
FreeSmall [] = Unit {0}
FreeSmall (n ∷ ns) = Small (free n) × FreeSmall ns

pub zero_small : Small (pos 0)
zero_small = record { sfits = omega arith }

append : (xs ys : List Node) → FreeSmall xs → FreeSmall ys → FreeSmall (xs ++ ys)
append [] ys h k = k
append (x ∷ xs) ys (p, h) k = (p, append xs ys h k)

-- ---- runs

of_region : (p : Place) (r : ℕ) → Small (free (region_node p r))
of_region size r = zero_small
of_region (counts first) r = zero_small

of_sum : (p : Place) (rs : List ℕ) (k : ℕ) → FreeSmall (sum_run p k rs)
unfolding sum_run
of_sum p [] k = tt
of_sum p (r ∷ rs) k = (of_region p r, (zero_small, of_sum p rs (k + 2)))

of_card : (p : Place) (rs : List ℕ) (k : ℕ) → FreeSmall (card_run p k rs)
unfolding card_run
of_card p [] k = (zero_small, tt)
of_card p (r ∷ rs) k = (of_region p r, of_sum p rs k)

of_empty : (p : Place) (rs : List ℕ) (k : ℕ) → FreeSmall (empty_run p k rs)
unfolding empty_run
of_empty p rs k = append (card_run p k rs) _ (of_card p rs k) (zero_small, (zero_small, tt))

of_both : (p : Place) (rs ss : List ℕ) (k : ℕ) → FreeSmall (both_run p k rs ss)
unfolding both_run
of_both p rs ss k =
    let one = empty_run p k rs in
    let two = empty_run p (k + length one) ss in
    append (one ++ two) (conj (last k one) (last (k + length one) two) ∷ []) (append one two (of_empty p rs k) (of_empty p ss (k + length one))) (zero_small, tt)

of_run : (f : Frame) (k : ℕ) (st : ℕ → ℕ) (pat : ℕ → Set) (n : Node) → Small (free n) → FreeSmall (run_of f k st pat n)
unfolding run_of
of_run f k st pat (set_var q) h = tt
of_run f k st pat empty h = tt
of_run f k st pat whole h = tt
of_run f k st pat (union a b) h = tt
of_run f k st pat (inter a b) h = tt
of_run f k st pat (compl a) h = tt
of_run f k st pat (num_var q) h = (h, tt)
of_run f k st pat (const w) h = (h, tt)
of_run f k st pat maxc h = (h, tt)
of_run f k st pat (sum a b) h = (h, tt)
of_run f k st pat (diff a b) h = (h, tt)
of_run f k st pat (multiple w b) h = (h, tt)
of_run f k st pat (card a) h = of_card f.place _ k
of_run f k st pat (equal a b) h = (h, tt)
of_run f k st pat (less a b) h = (h, tt)
of_run f k st pat (divided w b) h = (h, tt)
of_run f k st pat (set_equal a b) h = of_both f.place _ _ k
of_run f k st pat (subset a b) h = of_empty f.place _ k
of_run f k st pat (conj a b) h = (h, tt)
of_run f k st pat (disj a b) h = (h, tt)
of_run f k st pat (neg a) h = (h, tt)
of_run f k st pat unknown h = (h, tt)

of_nodes : (f : Frame) (ns : List Node) (e : Emitted) → FreeSmall ns → FreeSmall e.nodes → FreeSmall (emit_nodes f e ns).nodes
unfolding emit_nodes
of_nodes f [] e s h = h
of_nodes f (n ∷ ns) e (s, ss) h =
    of_nodes f ns (emit_node f e n) ss (unfold emit_node in append e.nodes (run_at f e n) h (of_run f (length e.nodes) _ _ n s))

-- ---- constraints

of_five : (p q : Place) (k i : ℕ) → FreeSmall (five p q k i)
unfolding five
of_five p q k i = (of_region p i, (of_region q (2 * i), (of_region q (2 * i + 1), (zero_small, (zero_small, tt)))))

of_further : (p q : Place) (n k i : ℕ) → FreeSmall (further_fives p q k i n)
unfolding further_fives
of_further p q zero k i = tt
of_further p q (suc n) k i = append (five p q (k + 1) i) _ (of_five p q (k + 1) i) (zero_small, of_further p q n (k + 6) (i + 1))

of_split : (f : Frame) (k : ℕ) → FreeSmall (split_run f k)
unfolding split_run constraint
of_split f k =
    append (five f.place (counts f.next) k 0) _ (of_five f.place (counts f.next) k 0)
    (of_further f.place (counts f.next) (f.regions - 1) (k + 4) 1)

of_join : (f : Frame) (q : Quantifier) (b : Body) → FreeSmall b.nodes → FreeSmall (join f q b).nodes
unfolding join_some join_all
of_join f (int_q some) b h = h
of_join f (set_q true) b h =
    let nodes = b.nodes ++ split_run f (length b.nodes) in
    append nodes (conj (last 0 nodes) b.root ∷ []) (append b.nodes _ h (of_split f _)) (zero_small, tt)
of_join f (set_q false) b h =
    let nodes = b.nodes ++ split_run f (length b.nodes) in
    append nodes (neg (last 0 nodes) ∷ disj (length nodes) b.root ∷ []) (append b.nodes _ h (of_split f _)) (zero_small, (zero_small, tt))
of_join f (count_q some) b h = h

pub emission_free : (c : Claim) → FreeSmall c.nodes → FreeSmall (emission c).nodes
unfolding emission body nothing
emission_free c h =
    close_keeps (λ b. FreeSmall b.nodes) of_join c.quantifiers start (body c)
    (of_nodes (inside_all start c.quantifiers) c.nodes nothing h tt)
