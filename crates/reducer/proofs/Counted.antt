-- How much is emitted, as the code counts it, and the words in the order in which they are written.
-- Assumes nothing.
use Rattle.std.proofs.Common.{◌≡◌, refl, sym, ap, ◌∙◌, true, false, List, [], ◌∷◌, ◌++◌, map, append_assoc, ℕ, suc, ◌+◌, ◌*◌, ◌-◌, ◌^◌, ◌%◌, ◌≤◌, ◌<◌, zero-add, arith, ℤ, pos, int_eq, length, take, length-append, slice_range, filter, count_by}
use Rattle.std.proofs.lemmas.List.Sums.{length-filter}
use Rattle.std.proofs.lemmas.List.{length-map}
use native.Mathlib.Nat.{pow-le-pow_right}
use lib.Pow.{pow_pos}
use lib.Seq.{take-length, drop-append_seam, take-append_seam}
use Rattle.checker.specs.declared.Shape.{Shape}
use Rattle.checker.specs.Claim.{Quantifier, int_q, set_q, count_q, Claim}
use Rattle.checker.specs.Words.{claim_of, nodes_words, quantifier_word, mark, trailer, words_of}
use Rattle.checker.specs.Check.{max_sets}
use Rattle.checker.proofs.Words.{nodes_words-length, words_append, words-length}
use Rattle.emission.specs.Emission.{start, inside_all, emit_quantifiers, body, emission}
use Rattle.emission.specs.Sizes.{all_sets}
use Rattle.emission.specs.Plan.{frame_at}
use Rattle.lent.specs.Write.{Wrote}
use Rattle.emission.specs.Write.{Room, WroteNodes}
use Rattle.checker.proofs.Claims.{Sound}
use Rattle.emission.proofs.Lengths.{next_is}
use Rattle.lent.proofs.Writing.{wrote_then}
use Rattle.emission.proofs.Writing.{nodes_after}
use Rattle.reducer.specs.Sizes.{region_count, constraint_part}
use Rattle.emission.specs.declared.Body as kept
use Rattle.reducer.specs.Closing.{Prepared, closed_from, Tells, closing}
use Rattle.reducer.proofs.Sizes.{constraints_last}
use Rattle.reducer.proofs.Accepted.{accepted_nodes}
use Rattle.reducer.proofs.Constraints.{regions_are}
use Rattle.reducer.proofs.Joining.{known, rooted}

-- ---- for-alls

pub alls_few : (qs : List Quantifier) → all_sets qs ≤ length qs
unfolding all_sets
alls_few [] = omega arith
alls_few (int_q some ∷ qs) = omega (arith, alls_few qs)
alls_few (set_q true ∷ qs) = omega (arith, alls_few qs)
alls_few (set_q false ∷ qs) = omega (arith, alls_few qs)
alls_few (count_q some ∷ qs) = omega (arith, alls_few qs)

-- the words of the for-alls are those that are 4
alls_counted : (qs : List Quantifier) → length (filter (λ w. int_eq w (pos 4)) (map quantifier_word qs)) ≡ all_sets qs
unfolding all_sets
alls_counted [] = refl
alls_counted (int_q true ∷ qs) = alls_counted qs
alls_counted (int_q false ∷ qs) = alls_counted qs
alls_counted (set_q true ∷ qs) = alls_counted qs
alls_counted (set_q false ∷ qs) = ap suc (alls_counted qs)
alls_counted (count_q true ∷ qs) = alls_counted qs
alls_counted (count_q false ∷ qs) = alls_counted qs

middle : (xs ys zs : List ℤ) (a b : ℕ) → a ≡ length xs → b ≡ length ys → slice_range (xs ++ (ys ++ zs)) a (a + b) ≡ ys
middle xs ys zs a b e f =
    let n : a + b - a ≡ length ys = omega arith in
    rw (n, e, drop-append_seam xs (ys ++ zs)) (take-append_seam ys zs)

module _ {ws : List ℤ} {shape : Shape} (s : Sound ws shape) where
  pub regions_known : 1 * 2 ^ shape.sets % 2 ^ 64 ≡ region_count (claim_of ws)
  regions_known = regions_are shape.sets s.few_sets ∙ ap (λ n. 2 ^ n) s.sets

  pub alls_in : count_by (λ w. int_eq w (pos 4)) (slice_range ws (3 * shape.nodes) (3 * shape.nodes + shape.quantifiers)) ≡ all_sets (claim_of ws).quantifiers
  unfolding words_of
  alls_in =
      let c = claim_of ws in
      let qs = map quantifier_word c.quantifiers in
      let e : slice_range (words_of c) (3 * shape.nodes) (3 * shape.nodes + shape.quantifiers) ≡ qs =
      middle (nodes_words c.nodes) qs (trailer c) _ _ (omega (arith, nodes_words-length c.nodes, s.nodes)) (omega (arith, length-map c.quantifiers quantifier_word, s.quantifiers)) in
      rw (rw s.same at e) (sym (length-filter _ qs) ∙ alls_counted c.quantifiers)

  pub regions_some : 1 ≤ 1 * 2 ^ shape.sets % 2 ^ 64
  regions_some = omega (arith, regions_are shape.sets s.few_sets, pow_pos shape.sets)

  pub regions_few : 1 * 2 ^ shape.sets % 2 ^ 64 ≤ 2 ^ max_sets
  regions_few = rw (regions_are shape.sets s.few_sets) (pow-le-pow_right {n = 2} (omega arith) s.few_sets)

-- ---- the whole

-- what all quantifiers give has the number of those emitted
pub quantifiers_next : {ws : List ℤ} {shape : Shape} {plan : List ℕ} → Prepared ws shape plan
    → (frame_at plan shape.quantifiers).next ≡ length (emission (claim_of ws)).quantifiers
unfolding emission start
quantifiers_next {ws} {shape} {plan} p =
    let qs = (claim_of ws).quantifiers in
    let all = (known p).quantifiers in
    (p.planned.says shape.quantifiers (omega (arith, all))).next
    ∙ ap (λ l. (inside_all start l).next) (ap (λ n. take n qs) all ∙ take-length qs) ∙ next_is qs start ∙ zero-add (length (emit_quantifiers start qs))

pub nodes_are : (c : Claim) → length (emission c).nodes ≡ length (body c).nodes + length (constraint_part c)
nodes_are c = ap length (constraints_last c) ∙ length-append (body c).nodes (constraint_part c)

pub closing_parts : (c : Claim) (root nodes quantifiers : ℕ) → root ≡ (emission c).root → nodes ≡ length (emission c).nodes → quantifiers ≡ length (emission c).quantifiers
    → closing c ≡ nodes_words (constraint_part c) ++ (map quantifier_word (emission c).quantifiers ++ pos root ∷ pos nodes ∷ pos quantifiers ∷ pos mark ∷ [])
unfolding closing
closing_parts c root nodes quantifiers r n q = rw (r, n, q)

-- the nodes' runs and what follows them
pub words_are : (c : Claim) → words_of (emission c) ≡ nodes_words (body c).nodes ++ closing c
unfolding words_of closing
words_are c =
    ap (λ l. nodes_words l ++ (map quantifier_word (emission c).quantifiers ++ trailer (emission c))) (constraints_last c)
    ∙ ap (λ l. l ++ (map quantifier_word (emission c).quantifiers ++ trailer (emission c))) (words_append (body c).nodes (constraint_part c))
    ∙ append_assoc (nodes_words (body c).nodes) (nodes_words (constraint_part c)) _

-- ---- room

module _ {ws : List ℤ} {shape : Shape} {plan : List ℕ} (p : Prepared ws shape plan) where
  abbrev c : Claim
  c = claim_of ws

  pub root_below : (emission c).root < length (emission c).nodes
  unfolding closed_from inside_all emission
  root_below = rooted p 0

  pub constraints_room : {first : kept.Body} {l : List ℤ} → Tells (body c) first → length (words_of (emission c)) ≤ length l
      → Room l first.nodes (length (constraint_part c))
  constraints_room t h =
      record {
        fits = omega (arith, words-length (emission c), nodes_are c, t.nodes);
        numbers = omega (arith, accepted_nodes ws shape p.accepted, nodes_are c, t.nodes);
      }

  pub constraints_done : {first : kept.Body} {l l' : List ℤ} {n : ℕ} → Tells (body c) first → WroteNodes l first.nodes (constraint_part c) l' n
      → n ≡ length (emission c).nodes
  constraints_done t w = omega (arith, nodes_after w, t.nodes, nodes_are c)

  -- the nodes' runs and then the rest are the whole
  pub runs_room : {l : List ℤ} → length (words_of (emission c)) ≤ length l → Room l 0 (length (body c).nodes)
  runs_room h =
      record {
        fits = omega (arith, words-length (emission c), nodes_are c);
        numbers = omega (arith, accepted_nodes ws shape p.accepted, nodes_are c);
      }

  pub emission_done : {first : kept.Body} {l l₁ l₂ : List ℤ} {m n : ℕ} → Tells (body c) first → WroteNodes l 0 (body c).nodes l₁ m
      → Wrote l₁ (3 * first.nodes) (closing c) l₂ n → Wrote l 0 (words_of (emission c)) l₂ n
  emission_done {first} {m = m} t runs rest =
      let e : m ≡ first.nodes = omega (arith, nodes_after runs, t.nodes) in
      rw (words_are c) (wrote_then (rw e at runs.words) rest)
