-- The emission (01, "The emission"): the counting claim that a claim is reduced to, node for node.
-- Assumes nothing.
use Rattle.std.specs.Prelude.{true, false, not, ◌&&◌, ◌||◌, List, [], ◌∷◌, ◌++◌, map, ℕ, zero, suc, ◌+◌, ◌*◌, ◌-◌, pos, length, get_or, replicate}
use Rattle.checker.specs.Claim.{Node, set_var, empty, whole, union, inter, compl, num_var, const, maxc, sum, diff, multiple, card, equal, less, divided, set_equal, subset, conj, disj, neg, unknown, Quantifier, int_q, set_q, count_q, Claim}
use Rattle.checker.specs.Meaning.{Set}
use Rattle.region.specs.Regions.{half, odd, dbl, minus, covered}

-- ---- quantifiers

-- Where the counts of the regions stand: the only region is MAXC, or region r is quantifier `first + r`.
pub data Place : Type 0 where
  size : Place
  counts : (first : ℕ) → Place

abbrev pub region_node : Place → ℕ → Node
region_node size r = maxc
region_node (counts first) r = num_var (first + r)

-- What the quantifiers so far give: the regions and where they stand; for each quantifier the number of the first that it became
-- and the regions that it covers (none, if it is no set); the number of emitted quantifiers.
pub record Frame : Type 0 where
  pub regions : ℕ
  pub place : Place
  pub numbers : List ℕ
  pub covers : List Set
  pub next : ℕ

abbrev pub none : Set
none r = false

-- a set that covers region i covers 2 i and 2 i + 1 after one more set
abbrev pub halved : Set → Set
halved p r = p (half r)

unfoldable pub start : Frame
start = record { regions = 1; place = size; numbers = []; covers = []; next = 0 }

unfoldable pub with_number : Frame → Frame
with_number f =
    record {
      regions = f.regions;
      place = f.place;
      numbers = f.numbers ++ f.next ∷ [];
      covers = f.covers ++ none ∷ [];
      next = f.next + 1;
    }

unfoldable pub with_set : Frame → Frame
with_set f =
    record {
      regions = dbl f.regions;
      place = counts f.next;
      numbers = f.numbers ++ f.next ∷ [];
      covers = map halved f.covers ++ odd ∷ [];
      next = f.next + dbl f.regions;
    }

-- the frame inside one more quantifier, and inside all
abbrev pub inside : Frame → Quantifier → Frame
inside f (int_q some) = with_number f
inside f (set_q some) = with_set f
inside f (count_q some) = with_number f

unfoldable pub inside_all : Frame → List Quantifier → Frame
inside_all f [] = f
inside_all f (q ∷ qs) = inside_all (inside f q) qs

-- what a quantifier becomes
unfoldable pub becomes : Frame → Quantifier → List Quantifier
becomes f (int_q some) = int_q some ∷ []
becomes f (set_q some) = replicate (dbl f.regions) (count_q some)
becomes f (count_q some) = count_q some ∷ []

unfoldable pub emit_quantifiers : Frame → List Quantifier → List Quantifier
emit_quantifiers f [] = []
emit_quantifiers f (q ∷ qs) = becomes f q ++ emit_quantifiers (inside f q) qs

-- ---- nodes. Where nothing else is said, `k` is the number of nodes before the run.

-- the further regions of a cardinality; node k is the result so far
unfoldable pub sum_run : Place → ℕ → List ℕ → List Node
sum_run p k [] = []
sum_run p k (r ∷ rs) = region_node p r ∷ sum k (k + 1) ∷ sum_run p (k + 2) rs

unfoldable pub card_run : Place → ℕ → List ℕ → List Node
card_run p k [] = const (pos 0) ∷ []
card_run p k (r ∷ rs) = region_node p r ∷ sum_run p k rs

-- the number of a run's last node
abbrev pub last : ℕ → List Node → ℕ
last k run = k + length run - 1

-- the run that says that no port is in the regions rs
unfoldable pub empty_run : Place → ℕ → List ℕ → List Node
empty_run p k rs = run ++ const (pos 0) ∷ equal (last k run) (k + length run) ∷ []
  where
    run : List Node
    run = card_run p k rs

unfoldable pub both_run : Place → ℕ → List ℕ → List ℕ → List Node
both_run p k rs ss = one ++ two ++ conj (last k one) (last (k + length one) two) ∷ []
  where
    one : List Node
    one = empty_run p k rs

    two : List Node
    two = empty_run p (k + length one) ss

-- The run of a node; `new a` is the node that stands for node a, and `pat a` what set node a covers.
unfoldable pub run_of : Frame → ℕ → (ℕ → ℕ) → (ℕ → Set) → Node → List Node
run_of f k new pat (set_var q) = []
run_of f k new pat empty = []
run_of f k new pat whole = []
run_of f k new pat (union a b) = []
run_of f k new pat (inter a b) = []
run_of f k new pat (compl a) = []
run_of f k new pat (num_var q) = num_var (get_or f.numbers q 0) ∷ []
run_of f k new pat (const c) = const c ∷ []
run_of f k new pat maxc = maxc ∷ []
run_of f k new pat (sum a b) = sum (new a) (new b) ∷ []
run_of f k new pat (diff a b) = diff (new a) (new b) ∷ []
run_of f k new pat (multiple c b) = multiple c (new b) ∷ []
run_of f k new pat (card a) = card_run f.place k (covered 0 f.regions (pat a))
run_of f k new pat (equal a b) = equal (new a) (new b) ∷ []
run_of f k new pat (less a b) = less (new a) (new b) ∷ []
run_of f k new pat (divided c b) = divided c (new b) ∷ []
run_of f k new pat (set_equal a b) =
    both_run f.place k (covered 0 f.regions (minus (pat a) (pat b))) (covered 0 f.regions (minus (pat b) (pat a)))
run_of f k new pat (subset a b) = empty_run f.place k (covered 0 f.regions (minus (pat a) (pat b)))
run_of f k new pat (conj a b) = conj (new a) (new b) ∷ []
run_of f k new pat (disj a b) = disj (new a) (new b) ∷ []
run_of f k new pat (neg a) = neg (new a) ∷ []
run_of f k new pat unknown = unknown ∷ []

-- The regions that a set node covers.
unfoldable pub pattern_of : Frame → (ℕ → Set) → Node → Set
pattern_of f pat (set_var q) = get_or f.covers q none
pattern_of f pat empty = none
pattern_of f pat whole = λ r. true
pattern_of f pat (union a b) = λ r. pat a r || pat b r
pattern_of f pat (inter a b) = λ r. pat a r && pat b r
pattern_of f pat (compl a) = λ r. not (pat a r)
pattern_of f pat (num_var q) = none
pattern_of f pat (const c) = none
pattern_of f pat maxc = none
pattern_of f pat (sum a b) = none
pattern_of f pat (diff a b) = none
pattern_of f pat (multiple c b) = none
pattern_of f pat (card a) = none
pattern_of f pat (equal a b) = none
pattern_of f pat (less a b) = none
pattern_of f pat (divided c b) = none
pattern_of f pat (set_equal a b) = none
pattern_of f pat (subset a b) = none
pattern_of f pat (conj a b) = none
pattern_of f pat (disj a b) = none
pattern_of f pat (neg a) = none
pattern_of f pat unknown = none

-- What stands after some input nodes: the emitted nodes, and for each input node the number that stands for it and what it covers.
pub record Emitted : Type 0 where
  pub nodes : List Node
  pub stands : List ℕ
  pub patterns : List Set

unfoldable pub emit_node : Frame → Emitted → Node → Emitted
emit_node f e n =
    record {
      nodes = e.nodes ++ run;
      stands = e.stands ++ last (length e.nodes) run ∷ [];
      patterns = e.patterns ++ pattern_of f pat n ∷ [];
    }
  where
    pat : ℕ → Set
    pat a = get_or e.patterns a none

    run : List Node
    run = run_of f (length e.nodes) (λ a. get_or e.stands a 0) pat n

unfoldable pub emit_nodes : Frame → Emitted → List Node → Emitted
emit_nodes f e [] = e
emit_nodes f e (n ∷ ns) = emit_nodes f (emit_node f e n) ns

-- ---- constraints

-- parent region i is the sum of its children: five nodes
unfoldable pub five : Place → Place → ℕ → ℕ → List Node
five p q k i =
    region_node p i ∷ region_node q (2 * i) ∷ region_node q (2 * i + 1) ∷ sum (k + 1) (k + 2) ∷ equal k (k + 3) ∷ []

-- n further parent regions from i; node k is the result so far
unfoldable pub further_fives : Place → Place → ℕ → ℕ → ℕ → List Node
further_fives p q k i zero = []
further_fives p q k i (suc n) = five p q (k + 1) i ++ conj k (k + 5) ∷ further_fives p q (k + 6) (i + 1) n

-- the constraint of n parent regions, one at least; its last node says it
unfoldable pub constraint : Place → Place → ℕ → ℕ → List Node
constraint p q k n = five p q k 0 ++ further_fives p q (k + 4) 1 (n - 1)

-- nodes with the body, which the next constraint is joined to
pub record Body : Type 0 where
  pub nodes : List Node
  pub root : ℕ

-- The constraint of a set quantifier, after k nodes: each region is the sum of the two that the set splits it into.
unfoldable pub split_run : Frame → ℕ → List Node
split_run f k = constraint f.place (counts f.next) k f.regions

-- exists: and(constraint, body); for all: not(constraint), or(that, body)
unfoldable pub join_some : List Node → Body → Body
join_some run b = record { nodes = nodes ++ conj (last 0 nodes) b.root ∷ []; root = length nodes }
  where
    nodes : List Node
    nodes = b.nodes ++ run

unfoldable pub join_all : List Node → Body → Body
join_all run b = record { nodes = nodes ++ neg (last 0 nodes) ∷ disj (length nodes) b.root ∷ []; root = length nodes + 1 }
  where
    nodes : List Node
    nodes = b.nodes ++ run

abbrev pub join : Frame → Quantifier → Body → Body
join f (int_q some) b = b
join f (set_q true) b = join_some (split_run f (length b.nodes)) b
join f (set_q false) b = join_all (split_run f (length b.nodes)) b
join f (count_q some) b = b

-- the constraints of the quantifiers from the innermost to the outermost
unfoldable pub close : Frame → List Quantifier → Body → Body
close f [] b = b
close f (q ∷ qs) b = join f q (close (inside f q) qs b)

-- ---- the emission

unfoldable pub body : Claim → Body
body c = record { nodes = e.nodes; root = get_or e.stands c.root 0 }
  where
    e : Emitted
    e = emit_nodes (inside_all start c.quantifiers) (record { nodes = []; stands = []; patterns = [] }) c.nodes

unfoldable pub emission : Claim → Claim
emission c = record { nodes = b.nodes; quantifiers = emit_quantifiers start c.quantifiers; root = b.root }
  where
    b : Body
    b = close start c.quantifiers (body c)
