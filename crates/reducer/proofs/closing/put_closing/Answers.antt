-- `reducer::closing::put_closing` meets its contract: constraints, quantifiers and trailer are written one after the other. Assumes nothing.
use mathlib.Core.Path.{◌≡◌}
use Prim.Native.Nat.{◌*◌, ◌-◌}
use native.Mathlib.Omega.{arith}
use lib.ListN.{length, length-map}
use Rattle.checker.specs.Words.{claim_of, quantifier_word}
use Rattle.checker.proofs.Words.{words-length}
use Rattle.emission.specs.Emission.{emission}
use Rattle.lent.proofs.Writing.{wrote_long, wrote_then}
use Rattle.emission.proofs.Writing.{nodes_long}
use Rattle.reducer.proofs.Accepted.{accepted_nodes, accepted_quantifiers}
use Rattle.reducer.proofs.Counted.{closing_parts, root_below, constraints_room, constraints_done}
use Rattle.reducer.proofs.closing.put_closing.Goals as goal

pub put_constraints-last-requires : goal.put_constraints-last-requires
put_constraints-last-requires c =
    record {
      prepared = c.requires.prepared;
      room = constraints_room c.requires.prepared.0 c.requires.prepared.1 c.requires.words_in_bounds;
    }

pub overflow_mul-at : goal.overflow_mul-at
overflow_mul-at c =
    let p = c.requires.prepared.0 in
    let nodes = constraints_done p c.requires.prepared.1 c.put_constraints-last.ensures.wrote_nodes in
    omega (arith, nodes, accepted_nodes c.args.words.now c.args.shape p.accepted)

pub put_quantifiers-end-requires : goal.put_quantifiers-end-requires
put_quantifiers-end-requires c =
    let claim = claim_of c.args.words.now in
    let put = c.put_constraints-last.ensures.wrote_nodes in (
      c.requires.prepared.0,
      omega (arith, c.requires.words_in_bounds, words-length (emission claim), constraints_done c.requires.prepared.0 c.requires.prepared.1 put, nodes_long put),
    )

pub put_trailer-requires : goal.put_trailer-requires
put_trailer-requires c =
    let ws = c.args.words.now in
    let claim = claim_of ws in
    let p = c.requires.prepared.0 in
    let put = c.put_constraints-last.ensures in
    let more = c.put_quantifiers-end.ensures in
    let nodes = constraints_done p c.requires.prepared.1 put.wrote_nodes in
    let few = accepted_nodes ws c.args.shape p.accepted in
    let some = length-map (emission claim).quantifiers quantifier_word in (
      omega (arith, c.requires.words_in_bounds, words-length (emission claim), nodes, nodes_long put.wrote_nodes, more.after, wrote_long more, some),
      omega (arith, put.root_value, root_below p, few),
      omega (arith, nodes, few),
      omega (arith, more.after, some, accepted_quantifiers ws c.args.shape p.accepted),
    )

pub returns : goal.returns
returns c =
    let claim = claim_of c.args.words.now in
    let put = c.put_constraints-last in
    let more = c.put_quantifiers-end in
    let at = 3 * put.result.nodes in
    let nodes = constraints_done c.requires.prepared.0 c.requires.prepared.1 put.ensures.wrote_nodes in
    let some : more.result - at ≡ length (emission claim).quantifiers = omega (arith, more.ensures.after, length-map (emission claim).quantifiers quantifier_word) in
    rw (closing_parts claim put.result.root put.result.nodes (more.result - at) put.ensures.root_value nodes some)
    (wrote_then put.ensures.wrote_nodes.words (wrote_then more.ensures c.put_trailer.ensures))
