-- What a body says after a constraint is joined to it.
-- Assumes nothing.
use mathlib.Core.Path.{◌≡◌, ◌∙◌, ap, ap₂}
use mathlib.Core.Bool.{Bool, true, false, not, ◌&&◌, ◌||◌}
use mathlib.Core.List.{List, [], ◌∷◌, ◌++◌}
use Prim.Native.Nat.{◌+◌, ◌<◌}
use native.Mathlib.Omega.{arith}
use lib.ListN.{length, length-append}
use Rattle.checker.specs.Claim.{Node, Quantifier, conj, disj, neg, int_q, set_q, count_q}
use Rattle.checker.specs.Meaning.{Value, as_truth, truth_at, World, value_of, values, every, truth}
use Rattle.emission.specs.Emission.{Frame, inside, last, Body, split_run, join_some, join_all, join, close, counts}
use Rattle.reducer.proofs.Lists.{new_at}
use Rattle.reducer.proofs.Ends.{no_value, values-append, values_length, Ends, ends_keep, truth_at_lem, truth_below}
use Rattle.reducer.proofs.Runs.{meets, constraint_ends}

unfoldable pub says : World → List Value → Body → Bool
says w us b = truth_at (values w us [] b.nodes) b.root

-- each parent region is the sum of its children, one set further in
unfoldable pub held : World → List Value → Frame → Bool
held w us f = every f.regions (meets w us f.place (counts f.next))

abbrev pub Rooted : Body → Type 0
Rooted b = b.root < length b.nodes

split_ends : (w : World) (us : List Value) (f : Frame) → 0 < f.regions → (b : Body)
    → Ends w us (values w us [] b.nodes) (split_run f (length b.nodes)) (truth (held w us f))
unfolding held split_run
split_ends w us f h b =
    constraint_ends w us f.place (counts f.next) f.regions h (values w us [] b.nodes) (length b.nodes)
    (omega (arith, values_length w us [] b.nodes))

-- ---- a run that ends with the truth t is joined to a body

module _ (run : List Node) (b : Body) (h : Rooted b) where
  abbrev joint : List Node
  joint = b.nodes ++ run

  module _ (w : World) (us : List Value) (t : Bool) (then : Ends w us (values w us [] b.nodes) run (truth t)) where
    -- the values of the nodes of the body and of the run
    zs : List Value
    zs = then.before ++ truth t ∷ []

    all_values : values w us [] joint ≡ zs
    unfolding zs
    all_values = values-append w us [] b.nodes run ∙ then.is

    all-length : length joint ≡ length zs
    all-length = omega (arith, ap length all_values, values_length w us [] joint)

    -- the last says t, and the root says what it said
    says_run : truth_at zs (last 0 joint) ≡ t
    unfolding zs
    says_run = truth_at_lem _ _ _ (new_at then.before (truth t) no_value (last 0 joint) (omega (arith, all-length, length-append then.before (truth t ∷ []))))

    says_body : truth_at zs b.root ≡ says w us b
    unfolding says truth_at zs
    says_body = ap as_truth (ends_keep w us then b.root (omega (arith, values_length w us [] b.nodes)))

    says_some : says w us (join_some run b) ≡ (t && says w us b)
    unfolding join_some says values value_of
    says_some =
        ap (λ vs. truth_at vs (length joint)) (values-append w us [] joint _ ∙ ap (λ vs. values w us vs (conj (last 0 joint) b.root ∷ [])) all_values)
        ∙ truth_at_lem _ _ _ (new_at zs _ no_value (length joint) all-length)
        ∙ ap₂ ◌&&◌ says_run says_body

    says_all : says w us (join_all run b) ≡ (not t || says w us b)
    unfolding join_all says values value_of
    says_all =
        let v = truth (not (truth_at zs (last 0 joint))) in
        let m = length joint in
        ap (λ vs. truth_at vs (m + 1)) (values-append w us [] joint _ ∙ ap (λ vs. values w us vs (neg (last 0 joint) ∷ disj m b.root ∷ [])) all_values)
        ∙ truth_at_lem _ _ _ (new_at (zs ++ v ∷ []) _ no_value (m + 1) (omega (arith, all-length, length-append zs (v ∷ []))))
        ∙ ap₂ ◌||◌ (truth_at_lem (zs ++ v ∷ []) m _ (new_at zs v no_value m all-length) ∙ ap not says_run)
        (truth_below zs (v ∷ []) b.root (omega (arith, all-length, length-append b.nodes run)) ∙ says_body)

-- What a set quantifier makes of its constraint and the body: an exists asks for it, a for-all supposes it.
abbrev pub guarded : Bool → Bool → Bool → Bool
guarded true t b = t && b
guarded false t b = not t || b

pub says-join : (w : World) (us : List Value) (f : Frame) → 0 < f.regions → (some : Bool) (b : Body) → Rooted b
    → says w us (join f (set_q some) b) ≡ guarded some (held w us f) (says w us b)
says-join w us f n true b h = says_some _ b h w us (held w us f) (split_ends w us f n b)
says-join w us f n false b h = says_all _ b h w us (held w us f) (split_ends w us f n b)

-- ---- the constraints of all quantifiers

-- what each joint keeps is kept to the end
pub close_keeps : (P : Body → Type 0) → ((f : Frame) (q : Quantifier) (b : Body) → P b → P (join f q b))
    → (qs : List Quantifier) (f : Frame) (b : Body) → P b → P (close f qs b)
unfolding close
close_keeps P step [] f b h = h
close_keeps P step (q ∷ qs) f b h = step f q (close (inside f q) qs b) (close_keeps P step qs (inside f q) b h)

join_rooted : (f : Frame) (q : Quantifier) (b : Body) → Rooted b → Rooted (join f q b)
unfolding join_some join_all
join_rooted f (int_q some) b h = h
join_rooted f (set_q true) b h = simp length-append (omega arith)
join_rooted f (set_q false) b h = simp length-append (omega arith)
join_rooted f (count_q some) b h = h

pub close_rooted : (qs : List Quantifier) (f : Frame) (b : Body) → Rooted b → Rooted (close f qs b)
close_rooted qs f b h = close_keeps Rooted join_rooted qs f b h
