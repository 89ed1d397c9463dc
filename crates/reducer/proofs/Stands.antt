-- Which emitted node stands for an input node: the last of its run, which is of the same sort.
-- Assumes nothing.
use mathlib.Core.Path.{◌≡◌, refl, sym, ◌∙◌, ap, subst}
use mathlib.Core.List.{List, [], ◌∷◌, ◌++◌, append_assoc, append-nil}
use Prim.Native.Nat.{ℕ, ◌+◌, ◌<◌}
use native.Mathlib.Omega.{arith}
use lib.IntN.{pos}
use lib.ListN.{length, get_or, length-append}
use Rattle.std.specs.Prelude.{Option, Some, None}
use Rattle.checker.specs.declared.Sort.{Sort}
use Rattle.checker.specs.declared.Sort.TheVariants.{ASet, ATerm, AFormula}
use Rattle.checker.specs.Claim.{Node, set_var, empty, whole, union, inter, compl, num_var, const, maxc, sum, diff, multiple, card, equal, less, divided, set_equal, subset, conj, disj, neg, unknown}
use Rattle.checker.specs.Sorts.{sort, Is}
use Rattle.checker.specs.Meaning.{Set}
use Rattle.emission.specs.Emission.{Place, region_node, Frame, none, sum_run, card_run, last, empty_run, both_run, run_of, Emitted, emit_node, emit_nodes, size, counts}
use Rattle.reducer.proofs.Lists.{new_at, old_at, at_each}

-- the sorts that nodes are emitted for
abbrev pub Scalar : Option Sort → Type 0
Scalar (Some ASet) = ⊥
Scalar (Some ATerm) = Unit {0}
Scalar (Some AFormula) = Unit {0}
Scalar None = ⊥

-- ---- nodes after nodes

-- what is a node stays one
pub is_more : {s : Sort} (xs ys : List Node) (a : ℕ) → Is s xs a → Is s (xs ++ ys) a
is_more xs ys a (l, e) = (omega (arith, length-append xs ys), ap sort (old_at xs ys unknown a l) ∙ e)

pub is_old : {s : Sort} (xs : List Node) (n : Node) (a : ℕ) → a < length xs → Is s (xs ++ n ∷ []) a → Is s xs a
is_old xs n a l (h, e) = (l, ap sort (sym (old_at xs (n ∷ []) unknown a l)) ∙ e)

-- the node just added
pub is_new : {s : Sort} (xs : List Node) (n : Node) (a : ℕ) → a ≡ length xs → sort n ≡ Some s → Is s (xs ++ n ∷ []) a
is_new xs n a e k = (omega (arith, length-append xs (n ∷ [])), ap sort (new_at xs n unknown a e) ∙ k)

pub new_sort : {s : Sort} (xs : List Node) (n : Node) (a : ℕ) → a ≡ length xs → Is s (xs ++ n ∷ []) a → sort n ≡ Some s
new_sort xs n a l (h, e) = ap sort (sym (new_at xs n unknown a l)) ∙ e

-- ---- a run ends with a node of the sort that it stands for

pub record Tail (s : Option Sort) (xs : List Node) : Type 0 where
  pub front : List Node
  pub final : Node
  pub is : xs ≡ front ++ final ∷ []
  pub sorted : sort final ≡ s

tail_one : (n : Node) → Tail (sort n) (n ∷ [])
tail_one n = record { front = []; final = n; is = refl; sorted = refl }

pub region_sort : (p : Place) (r : ℕ) → sort (region_node p r) ≡ Some ATerm
region_sort size r = refl
region_sort (counts first) r = refl

sum_tail : (p : Place) (rs : List ℕ) (k : ℕ) (n : Node) → sort n ≡ Some ATerm → Tail (Some ATerm) (n ∷ sum_run p k rs)
unfolding sum_run
sum_tail p [] k n e = record { front = []; final = n; is = refl; sorted = e }
sum_tail p (r ∷ rs) k n e =
    let t = sum_tail p rs (k + 2) (sum k (k + 1)) refl in
    record { front = n ∷ region_node p r ∷ t.front; final = t.final; is = ap (λ l. n ∷ region_node p r ∷ l) t.is; sorted = t.sorted }

pub card_tail : (p : Place) (k : ℕ) (rs : List ℕ) → Tail (Some ATerm) (card_run p k rs)
unfolding card_run
card_tail p k [] = tail_one (const (pos 0))
card_tail p k (r ∷ rs) = sum_tail p rs k (region_node p r) (region_sort p r)

pub empty_tail : (p : Place) (k : ℕ) (rs : List ℕ) → Tail (Some AFormula) (empty_run p k rs)
unfolding empty_run
empty_tail p k rs =
    let run = card_run p k rs in
    record { front = run ++ const (pos 0) ∷ []; final = equal (last k run) (k + length run); is = sym (append_assoc run (const (pos 0) ∷ []) _); sorted = refl }

both_tail : (p : Place) (k : ℕ) (rs ss : List ℕ) → Tail (Some AFormula) (both_run p k rs ss)
unfolding both_run
both_tail p k rs ss =
    let one = empty_run p k rs in
    let two = empty_run p (k + length one) ss in
    record { front = one ++ two; final = conj (last k one) (last (k + length one) two); is = refl; sorted = refl }

run_tail : (f : Frame) (k : ℕ) (st : ℕ → ℕ) (pat : ℕ → Set) (n : Node) → Scalar (sort n) → Tail (sort n) (run_of f k st pat n)
unfolding run_of
run_tail f k st pat (set_var q) s = absurd s
run_tail f k st pat empty s = absurd s
run_tail f k st pat whole s = absurd s
run_tail f k st pat (union a b) s = absurd s
run_tail f k st pat (inter a b) s = absurd s
run_tail f k st pat (compl a) s = absurd s
run_tail f k st pat (num_var q) s = tail_one _
run_tail f k st pat (const c) s = tail_one _
run_tail f k st pat maxc s = tail_one _
run_tail f k st pat (sum a b) s = tail_one _
run_tail f k st pat (diff a b) s = tail_one _
run_tail f k st pat (multiple c b) s = tail_one _
run_tail f k st pat (card a) s = card_tail f.place k _
run_tail f k st pat (equal a b) s = tail_one _
run_tail f k st pat (less a b) s = tail_one _
run_tail f k st pat (divided c b) s = tail_one _
run_tail f k st pat (set_equal a b) s = both_tail f.place k _ _
run_tail f k st pat (subset a b) s = empty_tail f.place k _
run_tail f k st pat (conj a b) s = tail_one _
run_tail f k st pat (disj a b) s = tail_one _
run_tail f k st pat (neg a) s = tail_one _
run_tail f k st pat unknown s = absurd s

-- the last node of what follows
pub tail_is : {s : Sort} (xs ys : List Node) → Tail (Some s) ys → Is s (xs ++ ys) (last (length xs) ys)
tail_is {s} xs ys t =
    let len : length ys ≡ length t.front + 1 = omega (arith, ap length t.is, length-append t.front (t.final ∷ [])) in
    let same : xs ++ ys ≡ (xs ++ t.front) ++ t.final ∷ [] = ap (λ l. xs ++ l) t.is ∙ sym (append_assoc xs t.front (t.final ∷ [])) in (
      omega (arith, length-append xs ys),
      ap sort (ap (λ l. get_or l (last (length xs) ys) unknown) same
          ∙ new_at (xs ++ t.front) t.final unknown (last (length xs) ys) (omega (arith, length-append xs t.front))) ∙ t.sorted,
    )

-- ---- which node stands for an input node

pub record Shaped (done : List Node) (e : Emitted) : Type 0 where
  pub stands_long : length e.stands ≡ length done
  pub patterns_long : length e.patterns ≡ length done
  pub placed : (s : Sort) → Scalar (Some s) → (a : ℕ) → Is s done a → Is s e.nodes (get_or e.stands a 0)

unfoldable pub nothing : Emitted
nothing = record { nodes = []; stands = []; patterns = [] }

pub shaped_none : Shaped [] nothing
unfolding nothing
shaped_none = record { stands_long = refl; patterns_long = refl; placed = λ s sc a i. absurd (omega (arith, i.0)) }

-- the run of the next node
abbrev pub run_at : Frame → Emitted → Node → List Node
run_at f e n = run_of f (length e.nodes) (λ a. get_or e.stands a 0) (λ a. get_or e.patterns a none) n

pub shaped_step : (f : Frame) (done : List Node) (e : Emitted) (n : Node) → Shaped done e → Shaped (done ++ n ∷ []) (emit_node f e n)
unfolding emit_node
shaped_step f done e n h =
    record {
      stands_long = simp length-append (omega (arith, h.stands_long));
      patterns_long = simp length-append (omega (arith, h.patterns_long));
      placed = λ s sc a i.
          at_each (λ a y. Is s (done ++ n ∷ []) a → Is s (e.nodes ++ run) y) e.stands (last (length e.nodes) run) 0 (earlier s sc) (latest s sc) a
          (simp length-append (omega (arith, h.stands_long, i.0, length-append done (n ∷ [])))) i;
    }
  where
    run : List Node
    run = run_at f e n

    earlier : (s : Sort) → Scalar (Some s) → (a : ℕ) → a < length e.stands → Is s (done ++ n ∷ []) a → Is s (e.nodes ++ run) (get_or e.stands a 0)
    earlier s sc a l i = is_more e.nodes run _ (h.placed s sc a (is_old done n a (omega (arith, h.stands_long)) i))

    latest : (s : Sort) → Scalar (Some s) → Is s (done ++ n ∷ []) (length e.stands) → Is s (e.nodes ++ run) (last (length e.nodes) run)
    latest s sc i =
        let k : sort n ≡ Some s = new_sort done n (length e.stands) h.stands_long i in
        tail_is e.nodes run (subst (λ t. Tail t run) k (run_tail f _ _ _ n (subst Scalar (sym k) sc)))

pub shaped_all : (f : Frame) (ns done : List Node) (e : Emitted) → Shaped done e → Shaped (done ++ ns) (emit_nodes f e ns)
unfolding emit_nodes
shaped_all f [] done e h = rw append-nil h
shaped_all f (n ∷ ns) done e h = rw append_assoc at (shaped_all f ns (done ++ n ∷ []) (emit_node f e n) (shaped_step f done e n h))
