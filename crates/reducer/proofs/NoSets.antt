-- The emission has no set nodes and no set quantifiers.
-- Assumes nothing.
use mathlib.Core.Path.{◌≡◌, refl}
use mathlib.Core.Bool.{true, false}
use mathlib.Core.List.{List, [], ◌∷◌, ◌++◌}
use Prim.Native.Nat.{ℕ, zero, suc, ◌+◌, ◌*◌, ◌-◌}
use lib.ListN.{length}
use Rattle.checker.specs.Claim.{Node, Quantifier, Claim, set_var, empty, whole, union, inter, compl, num_var, const, maxc, sum, diff, multiple, card, equal, less, divided, set_equal, subset, conj, disj, neg, unknown, int_q, set_q, count_q}
use Rattle.checker.specs.Kinds.{is_set}
use Rattle.checker.specs.Sorts.{sort, sets}
use Rattle.checker.specs.Meaning.{Set}
use Rattle.emission.specs.Emission.{Place, region_node, Frame, start, inside_all, sum_run, card_run, last, empty_run, both_run, run_of, Emitted, emit_node, emit_nodes, five, further_fives, constraint, Body, split_run, join_some, join_all, join, body, emission, size, counts}
use Rattle.reducer.specs.Sizes.{NoSetNodes}
use Rattle.reducer.proofs.Stands.{nothing, run_at}
use Rattle.reducer.proofs.Bodies.{close_keeps}
use Rattle.reducer.proofs.Bindings.{no_sets_emit}

no_set_append : (xs ys : List Node) → NoSetNodes xs → NoSetNodes ys → NoSetNodes (xs ++ ys)
no_set_append [] ys h k = k
no_set_append (x ∷ xs) ys (p, h) k = (p, no_set_append xs ys h k)

region_no_set : (p : Place) (r : ℕ) → is_set (sort (region_node p r)) ≡ false
region_no_set size r = refl
region_no_set (counts first) r = refl

sum_no_set : (p : Place) (rs : List ℕ) (k : ℕ) → NoSetNodes (sum_run p k rs)
unfolding sum_run
sum_no_set p [] k = tt
sum_no_set p (r ∷ rs) k = (region_no_set p r, (refl, sum_no_set p rs (k + 2)))

card_no_set : (p : Place) (rs : List ℕ) (k : ℕ) → NoSetNodes (card_run p k rs)
unfolding card_run
card_no_set p [] k = (refl, tt)
card_no_set p (r ∷ rs) k = (region_no_set p r, sum_no_set p rs k)

empty_no_set : (p : Place) (rs : List ℕ) (k : ℕ) → NoSetNodes (empty_run p k rs)
unfolding empty_run
empty_no_set p rs k = no_set_append (card_run p k rs) _ (card_no_set p rs k) (refl, (refl, tt))

both_no_set : (p : Place) (rs ss : List ℕ) (k : ℕ) → NoSetNodes (both_run p k rs ss)
unfolding both_run
both_no_set p rs ss k =
    let one = empty_run p k rs in
    let two = empty_run p (k + length one) ss in
    no_set_append (one ++ two) (conj (last k one) (last (k + length one) two) ∷ []) (no_set_append one two (empty_no_set p rs k) (empty_no_set p ss (k + length one))) (refl, tt)

run_no_set : (f : Frame) (k : ℕ) (st : ℕ → ℕ) (pat : ℕ → Set) (n : Node) → NoSetNodes (run_of f k st pat n)
unfolding run_of
run_no_set f k st pat (set_var q) = tt
run_no_set f k st pat empty = tt
run_no_set f k st pat whole = tt
run_no_set f k st pat (union a b) = tt
run_no_set f k st pat (inter a b) = tt
run_no_set f k st pat (compl a) = tt
run_no_set f k st pat (num_var q) = (refl, tt)
run_no_set f k st pat (const c) = (refl, tt)
run_no_set f k st pat maxc = (refl, tt)
run_no_set f k st pat (sum a b) = (refl, tt)
run_no_set f k st pat (diff a b) = (refl, tt)
run_no_set f k st pat (multiple c b) = (refl, tt)
run_no_set f k st pat (card a) = card_no_set f.place _ k
run_no_set f k st pat (equal a b) = (refl, tt)
run_no_set f k st pat (less a b) = (refl, tt)
run_no_set f k st pat (divided c b) = (refl, tt)
run_no_set f k st pat (set_equal a b) = both_no_set f.place _ _ k
run_no_set f k st pat (subset a b) = empty_no_set f.place _ k
run_no_set f k st pat (conj a b) = (refl, tt)
run_no_set f k st pat (disj a b) = (refl, tt)
run_no_set f k st pat (neg a) = (refl, tt)
run_no_set f k st pat unknown = (refl, tt)

nodes_no_set : (f : Frame) (ns : List Node) (e : Emitted) → NoSetNodes e.nodes → NoSetNodes (emit_nodes f e ns).nodes
unfolding emit_nodes
nodes_no_set f [] e h = h
nodes_no_set f (n ∷ ns) e h =
    nodes_no_set f ns (emit_node f e n) (unfold emit_node in no_set_append e.nodes (run_at f e n) h (run_no_set f (length e.nodes) _ _ n))

five_no_set : (p q : Place) (k i : ℕ) → NoSetNodes (five p q k i)
unfolding five
five_no_set p q k i = (region_no_set p i, (region_no_set q (2 * i), (region_no_set q (2 * i + 1), (refl, (refl, tt)))))

further_no_set : (p q : Place) (n k i : ℕ) → NoSetNodes (further_fives p q k i n)
unfolding further_fives
further_no_set p q zero k i = tt
further_no_set p q (suc n) k i = no_set_append (five p q (k + 1) i) _ (five_no_set p q (k + 1) i) (refl, further_no_set p q n (k + 6) (i + 1))

constraint_no_set : (p q : Place) (k n : ℕ) → NoSetNodes (constraint p q k n)
unfolding constraint
constraint_no_set p q k n = no_set_append (five p q k 0) _ (five_no_set p q k 0) (further_no_set p q (n - 1) (k + 4) 1)

split_no_set : (f : Frame) (k : ℕ) → NoSetNodes (split_run f k)
unfolding split_run
split_no_set f k = constraint_no_set f.place (counts f.next) k f.regions

join_no_set : (f : Frame) (q : Quantifier) (b : Body) → NoSetNodes b.nodes → NoSetNodes (join f q b).nodes
unfolding join_some join_all
join_no_set f (int_q some) b h = h
join_no_set f (set_q true) b h =
    let nodes = b.nodes ++ split_run f (length b.nodes) in
    no_set_append nodes (conj (last 0 nodes) b.root ∷ []) (no_set_append b.nodes _ h (split_no_set f _)) (refl, tt)
join_no_set f (set_q false) b h =
    let nodes = b.nodes ++ split_run f (length b.nodes) in
    no_set_append nodes (neg (last 0 nodes) ∷ disj (length nodes) b.root ∷ []) (no_set_append b.nodes _ h (split_no_set f _)) (refl, (refl, tt))
join_no_set f (count_q some) b h = h

pub emission_no_set_nodes : (c : Claim) → NoSetNodes (emission c).nodes
unfolding emission body nothing
emission_no_set_nodes c =
    close_keeps (λ b. NoSetNodes b.nodes) join_no_set c.quantifiers start (body c)
    (nodes_no_set (inside_all start c.quantifiers) c.nodes nothing tt)

pub emission_no_sets : (c : Claim) → sets (emission c).quantifiers ≡ 0
unfolding emission
emission_no_sets c = no_sets_emit c.quantifiers start
