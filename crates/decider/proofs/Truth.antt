-- P6: the truth that the rule finds is the claim's, over counts and so over sets. Assumes nothing.
use mathlib.Core.Path.{◌≡◌, refl, ◌∙◌, ap, fun_ext}
use mathlib.Core.Logic.Iff
use mathlib.Core.Logic.{◌↔◌}
use mathlib.Core.Bool.{Bool, true, false}
use mathlib.Core.List.{List, [], ◌∷◌, ◌++◌, append_assoc, append-nil}
use Prim.Native.Nat.{ℕ, zero, suc, ◌+◌, ◌*◌, ◌-◌, ◌^◌, ◌≤◌, ◌<◌}
use native.Mathlib.Nat.{zero-add, add-zero, mul-le-mul_left, pow-suc}
use native.Mathlib.Numerals.{add-one}
use native.Mathlib.Omega.{arith}
use borrow.Author.Tests.{lt-ltb, le-ltb}
use lib.Dec.{T}
use lib.ListN.{length, get_or, drop, length-append}
use lib.Pow.{pow_pos}
use lib.Seq.{drop-cons, drop-append-le}
use Rattle.checker.specs.Claim.{Quantifier, int_q, set_q, count_q, Claim}
use Rattle.checker.specs.Sorts.{sets}
use Rattle.checker.specs.Meaning.{Value, matrix, Quantified, TrueAt}
use Rattle.region.specs.Regions.{Split, regions}
use Rattle.region.specs.Counting.{grow, HoldsR}
use Rattle.region.proofs.Regions.{dbl_is, split_doubles}
use Rattle.region.proofs.Quantified.{quantified, quantified_same, quantified_any, quantified_pair}
use Rattle.region.proofs.Counting.{theorem_a}
use Rattle.decider.specs.Rule.{Ruling, tries, split, rule}
use Rattle.matrix.specs.Final.{final_values}
use Rattle.matrix.proofs.Grown.{grown, grown_final}
use Rattle.decider.specs.Plan.{some_at, plan_of, ruling, only_sets}
use Rattle.decider.proofs.Tries.{Yes, Tried, tries_iff}

-- ---- heap order is the order of a queue: the parts of a split region go to the end

module _ (holds : List ℕ → Bool) (some : ℕ → Bool) where
  -- n splits are left, the next is h, and cs are the counts of the regions that stand, h first
  queue : ℕ → ℕ → List ℕ → Ruling
  queue zero h cs = record { truth = holds cs; steps = 1 }
  queue (suc n) h [] = record { truth = false; steps = 0 }
  queue (suc n) h (c ∷ cs) = tries (some h) (λ k. queue n (h + 1) (cs ++ (c - k) ∷ k ∷ [])) (c + 1 - 0) 0

rule_queue : (c : Claim) (n h : ℕ) (l : List ℕ) → 0 < h → length l ≡ h + h
    → rule (plan_of c) n h l ≡ queue (plan_of c).matrix (plan_of c).some n h (drop h l)
unfolding rule queue
rule_queue c zero h l p e = refl
rule_queue c (suc n) h l p e =
    let rest : (k : ℕ) → rule (plan_of c) n (h + 1) (split l h k) ≡ queue (plan_of c).matrix (plan_of c).some n (h + 1) (drop (h + 1) (split l h k)) =
    λ k. rule_queue c n (h + 1) (split l h k) (omega arith) (omega (arith, length-append l ((get_or l h 0 - k) ∷ k ∷ []))) in
    let parts : (k : ℕ) → drop (h + 1) (split l h k) ≡ drop (suc h) l ++ (get_or l h 0 - k) ∷ k ∷ [] =
    λ k. rw (add-one h) (drop-append-le (suc h) l ((get_or l h 0 - k) ∷ k ∷ []) (omega arith)) in
    rw (drop-cons l h 0 (omega arith))
    (ap (λ (f : ℕ → Ruling). tries (some_at c.quantifiers 1 h) f (get_or l h 0 + 1 - 0) 0)
    (fun_ext (λ k. rest k ∙ ap (queue (plan_of c).matrix (plan_of c).some n (h + 1)) (parts k))))

-- ---- one quantifier: its splits, of all regions that stand when it begins

-- A split of one region and more is how many of the first are inside, and a split of the others.
join : (n : ℕ) (cs : List ℕ) → ((k : ℕ) × Tried (n + 1 - 0) 0 k) × ((ls : List ℕ) × Split cs ls) → (ls : List ℕ) × Split (n ∷ cs) ls
join n cs x = ((n - x.0.0) ∷ x.0.0 ∷ x.1.0, (omega (arith, x.0.1), x.1.1))

part : (n : ℕ) (cs ls : List ℕ) → Split (n ∷ cs) ls → ((k : ℕ) × Tried (n + 1 - 0) 0 k) × ((ls : List ℕ) × Split cs ls)
part n cs [] s = absurd s
part n cs (a ∷ []) s = absurd s
part n cs (a ∷ b ∷ ls) (e, s) = ((b, (omega arith, omega arith)), (ls, s))

join_part : (n : ℕ) (cs ls : List ℕ) (s : Split (n ∷ cs) ls) → (join n cs (part n cs ls s)).0 ≡ ls
unfolding join part
join_part n cs [] s = absurd s
join_part n cs (a ∷ []) s = absurd s
join_part n cs (a ∷ b ∷ ls) (e, s) = let outside : n - b ≡ a = omega arith in ap (λ k. k ∷ b ∷ ls) outside

module _ (holds : List ℕ → Bool) (some : ℕ → Bool) (one : Bool) (m : ℕ) where
  -- What is left to find once every region of cs is split, those of `done` being split before, and m splits are left then.
  abbrev Level : ℕ → List ℕ → List ℕ → Type 0
  Level h cs done = Quantified one ((ls : List ℕ) × Split cs ls) (λ x. Yes (queue holds some m (h + length cs) (done ++ x.0)))

  level : (cs done : List ℕ) (h : ℕ) → ((j : ℕ) → h ≤ j → j < h + length cs → some j ≡ one)
      → Yes (queue holds some (length cs + m) h (cs ++ done)) ↔ Level h cs done
  unfolding queue join
  level [] done h pol = rw (zero-add m, add-zero h) (Iff.symm (quantified_any one ([], tt) (λ x. none x.0 x.1)))
    where
      none : (ls : List ℕ) → Split [] ls → Yes (queue holds some m h (done ++ ls)) ↔ Yes (queue holds some m h done)
      none [] s = rw (append-nil done) Iff.rfl
      none (l ∷ ls) s = absurd s
  level (n ∷ cs) done h pol =
      let first : some h ≡ one = pol h (omega arith) (omega arith) in
      let more : suc (length cs) + m ≡ suc (length cs + m) = omega arith in
      let past : h + suc (length cs) ≡ h + 1 + length cs = omega arith in
      let later : (j : ℕ) → h + 1 ≤ j → j < h + 1 + length cs → some j ≡ one = λ j a b. pol j (omega arith) (omega arith) in
      rw (more, past, first)
      (Iff.trans (tries_iff one (λ k. queue holds some (length cs + m) (h + 1) (cs ++ done ++ (n - k) ∷ k ∷ [])) (n + 1 - 0) 0)
      (Iff.trans (quantified_same one (λ x. rw (append_assoc cs done ((n - x.0) ∷ x.0 ∷ [])) (level cs (done ++ (n - x.0) ∷ x.0 ∷ []) (h + 1) later)))
      (Iff.trans (quantified_pair one ((k : ℕ) × Tried (n + 1 - 0) 0 k) ((ls : List ℕ) × Split cs ls) (λ x y. Yes (queue holds some m (h + 1 + length cs) (done ++ (n - x.0) ∷ x.0 ∷ [] ++ y.0))))
      (quantified one (join n cs) (λ x. part n cs x.0 x.1)
      (λ x. same x.0.0 x.1.0)
      (λ x. rw (join_part n cs x.0 x.1) at (same (part n cs x.0 x.1).0.0 (part n cs x.0 x.1).1.0))))))
    where
      same : (k : ℕ) (ls : List ℕ) → Yes (queue holds some m (h + 1 + length cs) (done ++ (n - k) ∷ k ∷ [] ++ ls)) ↔ Yes (queue holds some m (h + 1 + length cs) (done ++ (n - k) ∷ k ∷ ls))
      same k ls = rw (append_assoc done ((n - k) ∷ k ∷ []) ls) Iff.rfl

-- ---- P6

split-length : (cs ls : List ℕ) → Split cs ls → length ls ≡ length cs + length cs
split-length cs ls s = omega (arith, split_doubles cs ls s, dbl_is (length cs))

-- how many splits n regions take, by one set more
splits_more : (n s : ℕ) → n * 2 ^ suc s - n ≡ n + ((n + n) * 2 ^ s - (n + n))
splits_more n s =
    let twice : n * 2 ^ suc s ≡ (n + n) * 2 ^ s = rw (pow-suc 2 s) (omega arith) in
    let grown : (n + n) * 1 ≤ (n + n) * 2 ^ s = mul-le-mul_left (n + n) (pow_pos s) in
    omega arith

module _ (c : Claim) where
  -- At any sets that are bound already, `vs` being their values over the regions that stand.
  queue_true : (qs : List Quantifier) → T (only_sets qs) → (vs : List Value) (cs : List ℕ) (some : ℕ → Bool)
      → ((j : ℕ) → length cs ≤ j → some j ≡ some_at qs (length cs) j)
      → Yes (queue (λ ls. matrix (regions ls) c (grown qs vs)) some (length cs * 2 ^ sets qs - length cs) (length cs) cs) ↔ HoldsR c qs vs cs
  unfolding queue grown some_at only_sets sets
  queue_true [] o vs cs some pol = let none : length cs * 1 - length cs ≡ 0 = omega arith in rw none Iff.rfl
  queue_true (int_q one ∷ qs) o vs cs some pol = absurd o
  queue_true (set_q one ∷ qs) o vs cs some pol =
      let n = length cs in
      let here : (j : ℕ) → n ≤ j → j < n + n → some j ≡ one = λ j a b. pol j a ∙ rw (lt-ltb j (n + n) b) in
      let later : (j : ℕ) → n + n ≤ j → some j ≡ some_at qs (n + n) j = λ j a. pol j (omega arith) ∙ rw (le-ltb j (n + n) a) in
      let holds : List ℕ → Bool = λ ls. matrix (regions ls) c (grown qs (grow vs)) in
      rw (splits_more n (sets qs))
      (Iff.trans (rw (append-nil cs) at (level holds some one ((n + n) * 2 ^ sets qs - (n + n)) cs [] n here))
      (quantified_same one (λ x. rw (split-length cs x.0 x.1) at (queue_true qs o (grow vs) x.0 some (rw (split-length cs x.0 x.1) later)))))
  queue_true (count_q one ∷ qs) o vs cs some pol = absurd o

-- P6: the rule's truth at size N is the claim's.
pub rule_true : (N : ℕ) (c : Claim) → T (only_sets c.quantifiers) → ((ruling N c).truth ≡ true) ↔ TrueAt N c
unfolding ruling
rule_true N c o =
    let qs = c.quantifiers in
    let all : 1 * 2 ^ sets qs - 1 ≡ 2 ^ sets qs - 1 = omega arith in
    let values : grown qs [] ≡ final_values qs = grown_final qs in
    let found = rw (all, values) at (queue_true c qs o [] (N ∷ []) (plan_of c).some (λ j a. refl)) in
    rw (rule_queue c (2 ^ sets qs - 1) 1 (0 ∷ N ∷ []) (omega arith) refl) (Iff.trans found (Iff.symm (theorem_a N c)))
