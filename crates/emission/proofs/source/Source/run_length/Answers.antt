-- `Source::run_length` meets its contract: kind by kind, how long the run of node i is. Assumes nothing.
use mathlib.Core.Path.{◌≡◌, refl, sym, ap, ◌∙◌}
use mathlib.Core.List.{List}
use Prim.Native.Nat.{ℕ, ◌+◌, ◌*◌, ◌<◌}
use native.Mathlib.Omega.{arith}
use lib.ListN.{length}
use Rattle.checker.specs.Words.{word_at, claim_of}
use Rattle.emission.specs.Emission.{Place}
use Rattle.emission.specs.Plan.{place_in, frame_at}
use Rattle.emission.specs.Runs.{emitted_to, without}
use Rattle.emission.proofs.Lengths.{empty_length, both-length}
use Rattle.emission.proofs.Frames.{says_all}
use Rattle.emission.proofs.Ready.{ready_at}
use Rattle.emission.proofs.Sets.{entry_here, spared_none, spared_then, spared_next, without_spared}
use Rattle.emission.proofs.Kindwise.{other_kind, run_none, run_single, card_child, run_card, equal_children, run_equal, subset_children, run_subset}
use borrow.Author.Rules.{rules}
use Rattle.emission.proofs.source.Source.run_length.Goals as goal

apart : {x i : ℕ} → x < i → x ≡ i → ⊥
apart h e = omega arith

pub returns-then-kind-le-COMPLEMENT-clause-value : goal.returns-then-kind-le-COMPLEMENT-clause-value
returns-then-kind-le-COMPLEMENT-clause-value c =
    let none = run_none (ready_at c.args.self.now c.requires.0) (omega (arith, c.node-kind.ensures.kind, c.if-kind-le-COMPLEMENT.true)) in
    (sym (ap length none), omega arith)

pub size-requires : goal.size-requires
size-requires c =
    let kind = sym c.node-kind.ensures.kind ∙ c.in-16.is in
    rw c.node-kind.ensures.a (card_child (ready_at c.args.self.now c.requires.0) c.requires.1 kind).entry

pub within_length-requires : goal.within_length-requires
within_length-requires c =
    let ready = ready_at c.args.self.now c.requires.0 in
    let children = equal_children ready c.requires.1 (sym c.node-kind.ensures.kind ∙ c.in-23.is) in
    (entry_here ready c.requires.1, rw c.node-kind.ensures.a children.0.entry, rw c.node-kind.ensures.b children.1.entry)

pub within_length-requires-in-23 : goal.within_length-requires-in-23
within_length-requires-in-23 c =
    let ready = ready_at c.args.self.now c.requires.0 in
    let children = equal_children ready c.requires.1 (sym c.node-kind.ensures.kind ∙ c.in-23.is) in
    let long = c.within_length.ensures.spared.long in
    (rw long (entry_here ready c.requires.1), rw (long, c.node-kind.ensures.b) children.1.entry, rw (long, c.node-kind.ensures.a) children.0.entry)

pub within_length-requires-in-24 : goal.within_length-requires-in-24
within_length-requires-in-24 c =
    let ready = ready_at c.args.self.now c.requires.0 in
    let children = subset_children ready c.requires.1 (sym c.node-kind.ensures.kind ∙ c.in-24.is) in
    (entry_here ready c.requires.1, rw c.node-kind.ensures.a children.0.entry, rw c.node-kind.ensures.b children.1.entry)

pub returns-in-16 : goal.returns-in-16
returns-in-16 c =
    let ready = ready_at c.args.self.now c.requires.0 in
    let kind = sym c.node-kind.ensures.kind ∙ c.in-16.is in
    let run = run_card ready c.requires.1 (says_all ready.planned refl refl) _ refl kind in
    let card = c.card_length.ensures in
    let size = rw c.node-kind.ensures.a at c.size.ensures.0 in
    record {
      value = (card.0 _ _ _ size ∙ sym (ap length run), omega (arith, card.1));
      patterned = spared_next ready c.requires.1 (spared_none _ _) (omega (arith, kind));
    }

pub returns-in-23 : goal.returns-in-23
returns-in-23 c =
    let ready = ready_at c.args.self.now c.requires.0 in
    let words = c.args.self.now.words.now in
    let t = c.args.patterns.now in
    let kind = sym c.node-kind.ensures.kind ∙ c.in-23.is in
    let a = c.node-kind.ensures.a in
    let b = c.node-kind.ensures.b in
    let children = equal_children ready c.requires.1 kind in
    let p : Place = place_in (frame_at c.args.self.now.plan.now (length (claim_of words).quantifiers)) in
    let at = length (emitted_to (claim_of words) c.args.i).nodes in
    let rs : List ℕ = without t (word_at words (3 * c.args.i + 1)) (word_at words (3 * c.args.i + 2)) in
    let ss : List ℕ = without t (word_at words (3 * c.args.i + 2)) (word_at words (3 * c.args.i + 1)) in
    let spared = c.within_length.ensures.spared in
    let one = rw (a, b) at (c.within_length.ensures.upper_bound.0 p at) in
    let two = rw (a, b, without_spared _ _ spared (apart children.1.before) (apart children.0.before)) at (c.within_length-in-23.ensures.upper_bound.0 p at) in
    let run = ap length (run_equal ready c.requires.1 (says_all ready.planned refl refl) _ refl kind) in
    record {
      value = (
        omega (arith, one, two, run, empty_length p rs at, empty_length p ss at, both-length p rs ss at),
        omega (arith, c.within_length.ensures.upper_bound.1, c.within_length-in-23.ensures.upper_bound.1),
      );
      patterned = spared_next ready c.requires.1 (spared_then spared c.within_length-in-23.ensures.spared) (omega (arith, kind));
    }

pub returns-in-24 : goal.returns-in-24
returns-in-24 c =
    let ready = ready_at c.args.self.now c.requires.0 in
    let words = c.args.self.now.words.now in
    let kind = sym c.node-kind.ensures.kind ∙ c.in-24.is in
    let run = run_subset ready c.requires.1 (says_all ready.planned refl refl) _ refl kind in
    let p : Place = place_in (frame_at c.args.self.now.plan.now (length (claim_of words).quantifiers)) in
    let at = length (emitted_to (claim_of words) c.args.i).nodes in
    let within = c.within_length-in-24.ensures in
    let one = rw (c.node-kind.ensures.a, c.node-kind.ensures.b) at (within.upper_bound.0 p at) in
    record {
      value = (one ∙ sym (ap length run), omega (arith, within.upper_bound.1));
      patterned = spared_next ready c.requires.1 within.spared (omega (arith, kind));
    }

pub returns-in_default : goal.returns-in_default
returns-in_default c =
    let ready = ready_at c.args.self.now c.requires.0 in
    let single = other_kind c.node-kind.ensures.kind c.if-kind-le-COMPLEMENT.false (search rules) in
    record {
      value = (sym (run_single ready single), omega arith);
      patterned = spared_next ready c.requires.1 (spared_none _ _) (omega (arith, c.node-kind.ensures.kind, c.if-kind-le-COMPLEMENT.false));
    }
