use mathlib.Core.Path.{◌≡◌, ap, ◌∙◌}
use mathlib.Core.Bool.{Bool}
use mathlib.Core.List.{List, ◌++◌}
use Prim.Native.Nat.{ℕ, ◌+◌, ◌-◌, ◌^◌, ◌≤◌, ◌<◌}
use native.Mathlib.Omega.{arith}
use lib.Dec.{eqb}
use lib.ListN.{length, take, drop, replicate, length-take, length-drop, length-replicate}
use borrow.Rule.Slice.PartMut.{put_mid}
use Rattle.std.proofs.lemmas.Slice.{take-put_mid}
use Rattle.checker.specs.Words.{claim_of}
use Rattle.checker.specs.Sorts.{sets}
use Rattle.checker.proofs.Claims.{node_count_lem, sound}
use Rattle.decider.proofs.Levels.{level_none, level_more, level_room, exists_at, somes_more, sets_all}
use Rattle.decider.proofs.somes.fill_somes.Goals as goal

pub overflow_mul-first : goal.overflow_mul-first
overflow_mul-first c =
    omega (arith, (sound _ _ c.requires.words_value).few_nodes)

pub loop-q-init : goal.loop-q-init
loop-q-init c =
    (level_none _, λ h a b. absurd (omega arith))

pub overflow_add-first : goal.overflow_add-first
overflow_add-first c =
    omega (arith, (sound _ _ c.requires.words_value).long)

pub overflow_add-regions : goal.overflow_add-regions
overflow_add-regions c =
    omega (arith, level_room c.loop-q.invariant.0 c.loop-q-test.true c.requires.quantifiers_in_bounds)

pub slice_bounds-fill-end : goal.slice_bounds-fill-end
slice_bounds-fill-end c =
    omega (arith, level_room c.loop-q.invariant.0 c.loop-q-test.true c.requires.quantifiers_in_bounds)

-- Where the regions from n up to 2 n - 1 are filled, the entries before them stand.
filled : (n : ℕ) (before part : List Bool) (some : Bool) → n + n ≤ length before → part ≡ replicate (length (take (n + n - n) (drop n before))) some
    → take (n + n) (put_mid n (n + n - n) before part) ≡ take n before ++ replicate n some
filled n before part some room e =
    let whole : length (take (n + n - n) (drop n before)) ≡ n = simp (length-take, length-drop) (omega arith) in
    let is : part ≡ replicate n some = e ∙ ap (λ k. replicate k some) whole in
    take-put_mid n (n + n - n) before part (n + n) (omega (arith, ap length is, length-replicate n some)) (omega arith) ∙ ap (λ ys. take n before ++ ys) is

pub loop-q-preserved : goal.loop-q-preserved
loop-q-preserved c =
    let ws = c.args.words.now in
    let shape = sound _ _ c.requires.words_value in
    let there : c.loop-q.q < length (claim_of ws).quantifiers = omega (arith, c.loop-q-test.true, shape.quantifiers) in
    let some = exists_at ws c.requires.t c.args.shape.nodes c.loop-q.q (shape.nodes ∙ node_count_lem ws) there in
    let room : c.loop-q.regions + c.loop-q.regions ≤ length c.loop-q.somes = omega (arith, level_room c.loop-q.invariant.0 c.loop-q-test.true c.requires.quantifiers_in_bounds) in (
      level_more _ c.requires.t _ _ there c.loop-q.invariant.0,
      somes_more _ c.requires.t _ _ there c.loop-q.invariant.0 c.loop-q.somes _ _ c.loop-q.invariant.1 (omega (arith, room))
          (filled c.loop-q.regions c.loop-q.somes c.fill.new.self _ room (c.fill.ensures.after (λ y x. x))) (ap (λ k. eqb k 3) c.word-some.ensures ∙ some),
    )

pub returns-clause-value : goal.returns-clause-value
returns-clause-value c =
    let quantifiers = (claim_of c.args.words.now).quantifiers in
    let all : c.loop-q.q ≡ sets quantifiers = omega (arith, (sound _ _ c.requires.words_value).quantifiers, sets_all quantifiers c.requires.t) in
    c.loop-q.invariant.0.power ∙ ap (λ e. 2 ^ e) all
