-- `Source::put_renewed` meets its contract: kind by kind, the one node that node i becomes. Assumes nothing.
use mathlib.Core.Path.{◌≡◌, sym, ◌∙◌}
use mathlib.Core.Logic.{◌⊎◌, inl, inr}
use Prim.Native.Nat.{ℕ, ◌+◌, ◌*◌}
use native.Mathlib.Omega.{arith}
use mir.Syntax.{w32}
use mir.Val.{SFits}
use Rattle.std.proofs.lemmas.Int.{to_z-of_z}
use Rattle.checker.specs.Claim.{num_var, const, maxc, neg}
use Rattle.checker.specs.Words.{word, claim_of}
use Rattle.emission.specs.Runs.{Single}
use Rattle.emission.proofs.Frames.{says_small}
use Rattle.emission.proofs.Ready.{known, ready_at}
use Rattle.emission.proofs.Kindwise.{name_number, run_number, run_constant, run_maxc, word_child, neg_child, run_neg, Pair, pair_children}
use Rattle.emission.proofs.Writing.{as_node, as_fields}
use borrow.Author.Rules.{rules}
use Rattle.emission.proofs.source.Source.put_renewed.Goals as goal

-- the kinds of the arms with more than one
either : {k m : ℕ} → k ≡ m → (k ≡ 15) ⊎ (k ≡ 22) → (m ≡ 15) ⊎ (m ≡ 22)
either e h = rw (← e) h

pair : {k m : ℕ} → k ≡ m → Single m → ((((Unit {0} × (k ≡ 10 → ⊥)) × (k ≡ 11 → ⊥)) × (k ≡ 12 → ⊥)) × ((k ≡ 15) ⊎ (k ≡ 22) → ⊥)) × (k ≡ 27 → ⊥) → Pair m
pair e s n =
    rw (← e) (
    record {
      single = rw (← e) at s;
      no_number_lem = n.0.0.0.0.1;
      no_constant = n.0.0.0.1;
      no_maxc = n.0.0.1;
      no_multiple = λ h. n.0.1 (inl h);
      no_divided = λ h. n.0.1 (inr h);
      no_neg = n.1;
    }
    )

pub frame_at-outside-requires : goal.frame_at-outside-requires
frame_at-outside-requires c =
    let ready = ready_at c.args.self.now c.requires.standing.0 in
    omega (arith, ready.planned.long, c.node-kind.ensures.a, name_number ready (sym c.node-kind.ensures.kind ∙ c.in-10.is))

pub put_node-requires : goal.put_node-requires
put_node-requires c =
    let ready = ready_at c.args.self.now c.requires.standing.0 in
    let claim = known ready in
    let a = c.node-kind.result.a in
    let here = ready.planned.says a (omega (arith, c.node-kind.ensures.a, name_number ready (sym c.node-kind.ensures.kind ∙ c.in-10.is))) in
    let next =
    says_small (claim_of c.args.self.now.words.now).quantifiers a (omega (arith, claim.quantifiers, claim.few_quantifiers)) (omega (arith, claim.sets, claim.few_sets)) here in
    (c.requires.single.1, search rules, rw c.frame_at-outside.ensures (omega (arith, next.0)), search rules)

pub offset_bounds-stands-b : goal.offset_bounds-stands-b
offset_bounds-stands-b c =
    let w = word_child (ready_at c.args.self.now c.requires.standing.0) c.requires.standing.1 c.requires.standing.2 (either c.node-kind.ensures.kind c.in-15.is) in
    omega (arith, c.node-kind.ensures.b, w.second.few)

pub bounds-stands-b : goal.bounds-stands-b
bounds-stands-b c =
    let w = word_child (ready_at c.args.self.now c.requires.standing.0) c.requires.standing.1 c.requires.standing.2 (either c.node-kind.ensures.kind c.in-15.is) in
    omega (arith, c.node-kind.ensures.b, w.second.entry)

pub word-requires-in-15-2 : goal.word-requires-in-15-2
word-requires-in-15-2 c =
    let w = word_child (ready_at c.args.self.now c.requires.standing.0) c.requires.standing.1 c.requires.standing.2 (either c.node-kind.ensures.kind c.in-15.is) in
    rw c.node-kind.ensures.b (omega (arith, w.second.low, c.requires.single.1.numbers))

pub offset_bounds-stands-a : goal.offset_bounds-stands-a
offset_bounds-stands-a c =
    let kind = sym c.node-kind.ensures.kind ∙ c.in-27.is in
    let one = neg_child (ready_at c.args.self.now c.requires.standing.0) c.requires.standing.1 c.requires.standing.2 kind in
    omega (arith, c.node-kind.ensures.a, one.few)

pub bounds-stands-a : goal.bounds-stands-a
bounds-stands-a c =
    let kind = sym c.node-kind.ensures.kind ∙ c.in-27.is in
    let one = neg_child (ready_at c.args.self.now c.requires.standing.0) c.requires.standing.1 c.requires.standing.2 kind in
    omega (arith, c.node-kind.ensures.a, one.entry)

pub put_node-requires-in-27 : goal.put_node-requires-in-27
put_node-requires-in-27 c =
    let kind = sym c.node-kind.ensures.kind ∙ c.in-27.is in
    let one = neg_child (ready_at c.args.self.now c.requires.standing.0) c.requires.standing.1 c.requires.standing.2 kind in
    (c.requires.single.1, search rules, rw c.node-kind.ensures.a (omega (arith, one.low, c.requires.single.1.numbers)), search rules)

pub offset_bounds-stands-a-in_default : goal.offset_bounds-stands-a-in_default
offset_bounds-stands-a-in_default c =
    let p = pair_children (ready_at c.args.self.now c.requires.standing.0) c.requires.standing.1 c.requires.standing.2 (pair c.node-kind.ensures.kind c.requires.single.0 (search rules)) in
    omega (arith, c.node-kind.ensures.a, p.first.few)

pub bounds-stands-a-in_default : goal.bounds-stands-a-in_default
bounds-stands-a-in_default c =
    let p = pair_children (ready_at c.args.self.now c.requires.standing.0) c.requires.standing.1 c.requires.standing.2 (pair c.node-kind.ensures.kind c.requires.single.0 (search rules)) in
    omega (arith, c.node-kind.ensures.a, p.first.entry)

pub offset_bounds-stands-b-in_default : goal.offset_bounds-stands-b-in_default
offset_bounds-stands-b-in_default c =
    let p = pair_children (ready_at c.args.self.now c.requires.standing.0) c.requires.standing.1 c.requires.standing.2 (pair c.node-kind.ensures.kind c.requires.single.0 (search rules)) in
    omega (arith, c.node-kind.ensures.b, p.second.few)

pub bounds-stands-b-in_default : goal.bounds-stands-b-in_default
bounds-stands-b-in_default c =
    let p = pair_children (ready_at c.args.self.now c.requires.standing.0) c.requires.standing.1 c.requires.standing.2 (pair c.node-kind.ensures.kind c.requires.single.0 (search rules)) in
    omega (arith, c.node-kind.ensures.b, p.second.entry)

pub put_node-requires-in_default : goal.put_node-requires-in_default
put_node-requires-in_default c =
    let p = pair_children (ready_at c.args.self.now c.requires.standing.0) c.requires.standing.1 c.requires.standing.2 (pair c.node-kind.ensures.kind c.requires.single.0 (search rules)) in (
      c.requires.single.1,
      omega (arith, c.node-kind.ensures.kind, p.small),
      rw c.node-kind.ensures.a (omega (arith, p.first.low, c.requires.single.1.numbers)),
      rw c.node-kind.ensures.b (omega (arith, p.second.low, c.requires.single.1.numbers)),
    )

pub returns-in-10 : goal.returns-in-10
returns-in-10 c =
    let ready = ready_at c.args.self.now c.requires.standing.0 in
    rw (run_number ready (sym c.node-kind.ensures.kind ∙ c.in-10.is) c.node-kind.ensures.a c.frame_at-outside.ensures)
    (as_node (num_var c.frame_at-outside.result.next) c.put_node.ensures)

pub returns-in-11 : goal.returns-in-11
returns-in-11 c =
    let ready = ready_at c.args.self.now c.requires.standing.0 in
    let kind_fits : SFits w32 c.word.result = search rules in
    let constant_fits : SFits w32 c.node-kind.result.constant = search rules in
    let put = rw (c.word.ensures, c.node-kind.ensures.constant) at (simp to_z-of_z at c.put_words.ensures) in
    rw (run_constant ready (sym c.node-kind.ensures.kind ∙ c.in-11.is)) (as_node (const (word c.args.self.now.words.now (3 * c.args.i + 1))) put)

pub returns-in-12 : goal.returns-in-12
returns-in-12 c =
    rw (run_maxc (ready_at c.args.self.now c.requires.standing.0) (sym c.node-kind.ensures.kind ∙ c.in-12.is)) (as_node maxc c.put_node-in-12.ensures)

pub returns-in-15 : goal.returns-in-15
returns-in-15 c =
    let w = word_child (ready_at c.args.self.now c.requires.standing.0) c.requires.standing.1 c.requires.standing.2 (either c.node-kind.ensures.kind c.in-15.is) in
    let kind_fits : SFits w32 c.word-in-15.result = search rules in
    let constant_fits : SFits w32 c.node-kind.result.constant = search rules in
    let child_fits : SFits w32 c.word-in-15-2.result = search rules in
    let put = rw (c.word-in-15.ensures, c.node-kind.ensures.constant, c.word-in-15-2.ensures) at (simp to_z-of_z at c.put_words-in-15.ensures) in
    rw w.run (as_fields w.node (w.words ∙ rw (← c.node-kind.ensures.kind, ← c.node-kind.ensures.b)) put)

pub returns-in-27 : goal.returns-in-27
returns-in-27 c =
    let ready = ready_at c.args.self.now c.requires.standing.0 in
    rw (run_neg ready c.requires.standing.1 c.requires.standing.2 (sym c.node-kind.ensures.kind ∙ c.in-27.is), ← c.node-kind.ensures.a) (as_node (neg _) c.put_node-in-27.ensures)

pub returns-in_default : goal.returns-in_default
returns-in_default c =
    let p = pair_children (ready_at c.args.self.now c.requires.standing.0) c.requires.standing.1 c.requires.standing.2 (pair c.node-kind.ensures.kind c.requires.single.0 (search rules)) in
    rw p.run (as_fields p.node (p.words ∙ rw (← c.node-kind.ensures.kind, ← c.node-kind.ensures.a, ← c.node-kind.ensures.b)) c.put_node-in_default.ensures)
