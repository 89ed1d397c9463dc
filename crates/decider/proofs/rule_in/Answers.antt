-- `decider::rule_in` meets its contract: the search starts with one region of all ports. Assumes nothing.
use mathlib.Core.Path.{◌≡◌, refl, sym, ◌∙◌}
use mathlib.Core.List.{List, [], ◌∷◌}
use Prim.Native.Nat.{ℕ, ◌≤◌, zero-le}
use native.Mathlib.Nat.{add-zero}
use native.Mathlib.Omega.{arith}
use lib.ListN.{length, set, take, length-set}
use lib.Pow.{pow_pos}
use Rattle.checker.specs.Check.{check_of}
use Rattle.checker.proofs.Claims.{Sound, sound}
use Rattle.region.specs.Regions.{over}
use Rattle.matrix.proofs.Known.{known_none}
use Rattle.decider.specs.Plan.{ruling}
use Rattle.decider.specs.Standing.{Total}
use Rattle.decider.proofs.Admitted.{admitted}
use Rattle.decider.proofs.rule_in.Goals as goal

-- the first two counts are written
front : (l : List ℕ) (n : ℕ) → 2 ≤ length l → take 2 (set (set l 0 0) 1 n) ≡ 0 ∷ n ∷ []
front [] n h = absurd (omega arith)
front (a ∷ []) n h = absurd (omega arith)
front (a ∷ b ∷ l) n h = refl

begun : (l : List ℕ) (n m : ℕ) → 2 ≤ length l → n ≡ m → Total (set (set l 0 0) 1 n) 1 m
unfolding over
begun l n m h e = rw (front l n h) (add-zero n ∙ e)

pub search-requires-clause-stands : goal.search-requires-clause-stands
search-requires-clause-stands c =
    let made = c.prepare-search.ensures in
    let shape : Sound c.args.words.now c.args.shape = sound _ _ (admitted c.args.size _ (check_of c.args.words.now) c.args.shape c.requires.words_value).checked in
    let two : 2 ≤ length c.args.counts.now = omega (arith, c.requires.roomy.1.regions.2, pow_pos c.args.shape.sets) in
    record {
      place = (omega arith, omega (arith, made.2, pow_pos c.args.shape.sets));
      total = begun c.args.counts.now c.args.size _ two (sym made.1);
      few = zero-le;
      shown = known_none _ _ _ 0 _ _;
      roomy = (simp length-set (omega (arith, c.requires.roomy.1.regions.2, made.2)), rw made.0 (omega (arith, c.requires.roomy.1.nodes.1, shape.nodes)));
    }

pub returns : goal.returns
unfolding ruling
returns c =
    let made = c.prepare-search.ensures in
    let shape : Sound c.args.words.now c.args.shape = sound _ _ (admitted c.args.size _ (check_of c.args.words.now) c.args.shape c.requires.words_value).checked in
    let two : 2 ≤ length c.args.counts.now = omega (arith, c.requires.roomy.1.regions.2, pow_pos c.args.shape.sets) in
    c.search.ensures.value ∙ rw (made.0, made.2, shape.sets, front c.args.counts.now c.args.size two) refl
