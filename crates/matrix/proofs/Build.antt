-- Lists that are built node by node, each element from the earlier ones: the values of nodes and their bounds. And the nodes of a claim in words.
-- Assumes nothing.
use Rattle.std.proofs.Common.{Ok}
use mathlib.Core.Path.{◌≡◌, refl, sym, ap, ◌∙◌}
use mathlib.Core.List.{List, [], ◌∷◌, ◌++◌}
use Prim.Native.Nat.{ℕ, zero, suc, ◌+◌, ◌*◌, ◌<◌, ◌≤◌}
use native.Mathlib.Nat.{add-zero}
use native.Mathlib.Numerals.{add-one}
use native.Mathlib.Omega.{arith}
use lib.IntN.{ℤ}
use lib.ListN.{length, get_or, take, length-append}
use lib.Seq.{take-append_seam, get_or-append_seam, get_or-take, take-take, take-length}
use Rattle.checker.specs.declared.Shape.{Shape}
use Rattle.checker.specs.Claim.{Node, unknown}
use Rattle.checker.specs.Words.{claim_of}
use Rattle.checker.specs.Check.{check_of}
use Rattle.checker.specs.Meaning.{Value, World, value_of, values}
use Rattle.checker.proofs.Words.{words-length}
use Rattle.checker.proofs.Accepted.{accepted_claim}
use Rattle.matrix.specs.Bound.{bound_of, bounds_after}

unfoldable pub build : {A : Type 0} → (List A → Node → A) → List A → List Node → List A
build f done [] = done
build f done (n ∷ ns) = build f (done ++ f done n ∷ []) ns

module _ {A : Type 0} (f : List A → Node → A) where
  pub build_length : (done : List A) (ns : List Node) → length (build f done ns) ≡ length done + length ns
  unfolding build
  build_length done [] = sym (add-zero (length done))
  build_length done (n ∷ ns) = build_length (done ++ f done n ∷ []) ns ∙ rw (length-append done (f done n ∷ [])) (omega arith)

  -- what stands already stays in front
  build_front : (done : List A) (ns : List Node) → take (length done) (build f done ns) ≡ done
  unfolding build
  build_front done [] = take-length done
  build_front done (n ∷ ns) =
      let more : List A = done ++ f done n ∷ [] in
      let long : length done ≤ length more = rw (length-append done (f done n ∷ [])) (omega arith) in
      sym (take-take (length done) (length more) (build f more ns) long)
      ∙ ap (take (length done)) (build_front more ns)
      ∙ take-append_seam done (f done n ∷ [])

  build_at' : (done : List A) (ns : List Node) (i : ℕ) (d : A) → i < length ns
      → get_or (build f done ns) (length done + i) d ≡ f (take (length done + i) (build f done ns)) (get_or ns i unknown)
  unfolding build
  build_at' done [] i d h = absurd (omega arith)
  build_at' done (n ∷ ns) zero d h =
      let more : List A = done ++ f done n ∷ [] in
      let long : length more ≡ suc (length done) = length-append done (f done n ∷ []) ∙ add-one (length done) in
      rw (add-zero (length done))
      (sym (get_or-take (length more) (build f more ns) (length done) d (omega arith))
      ∙ ap (λ l. get_or l (length done) d) (build_front more ns)
      ∙ get_or-append_seam done (f done n) [] d
      ∙ ap (λ l. f l n) (sym (build_front done (n ∷ ns))))
  build_at' done (n ∷ ns) (suc i) d h =
      let more : List A = done ++ f done n ∷ [] in
      let next : length done + suc i ≡ length more + i = rw (length-append done (f done n ∷ [])) (omega arith) in
      rw next (build_at' more ns i d (omega arith))

  -- node i's element, from those before it
  pub build_at : (ns : List Node) (i : ℕ) (d : A) → i < length ns → get_or (build f [] ns) i d ≡ f (take i (build f [] ns)) (get_or ns i unknown)
  build_at ns i d h = let z : 0 + i ≡ i = omega arith in rw z at (build_at' [] ns i d h)

pub values_build : (w : World) (qs vs : List Value) (ns : List Node) → values w qs vs ns ≡ build (value_of w qs) vs ns
unfolding values build
values_build w qs vs [] = refl
values_build w qs vs (n ∷ ns) = values_build w qs (vs ++ value_of w qs vs n ∷ []) ns

pub bounds_build : (N : ℕ) (bs : List ℕ) (ns : List Node) → bounds_after N bs ns ≡ build (bound_of N) bs ns
unfolding bounds_after build
bounds_build N bs [] = refl
bounds_build N bs (n ∷ ns) = bounds_build N (bs ++ bound_of N bs n ∷ []) ns

-- ---- the nodes of a claim in words

-- there are words for each
pub node_room : (ws : List ℤ) (s : Shape) → check_of ws ≡ Ok s → (i : ℕ) → i < length (claim_of ws).nodes → 3 * i + 3 ≤ length ws
node_room ws s e i h = omega (arith, words-length (claim_of ws), ap length (accepted_claim ws s e).words)
