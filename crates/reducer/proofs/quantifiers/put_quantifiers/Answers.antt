-- `reducer::quantifiers::put_quantifiers` meets its contract: what the first j quantifiers become is written before turn j. Assumes nothing.
use mathlib.Core.Path.{◌≡◌}
use native.Mathlib.Omega.{arith}
use lib.ListN.{length}
use Rattle.checker.specs.Words.{claim_of}
use Rattle.lent.proofs.Writing.{wrote_long, wrote_none, wrote_then}
use Rattle.reducer.proofs.Joining.{known}
use Rattle.reducer.proofs.Becoming.{emitted_none, emitted_step, emitted_room, emitted_all}
use Rattle.reducer.proofs.quantifiers.put_quantifiers.Goals as goal

pub loop-j-init : goal.loop-j-init
loop-j-init c = rw (emitted_none (claim_of c.args.words.now)) (wrote_none _ _)

pub put_quantifier-here-requires : goal.put_quantifier-here-requires
put_quantifier-here-requires c =
    let loop = c.loop-j in
    let room = emitted_room (claim_of c.args.words.now) loop.j (omega (arith, (known c.requires.0).quantifiers)) in
    (c.requires.0, omega arith, omega (arith, loop.invariant.after, wrote_long loop.invariant, room))

pub loop-j-preserved : goal.loop-j-preserved
loop-j-preserved c =
    let step = emitted_step (claim_of c.args.words.now) c.loop-j.j (omega (arith, (known c.requires.0).quantifiers)) in
    rw step (wrote_then c.loop-j.invariant c.put_quantifier-here.ensures)

pub shape_of-out : goal.shape_of-out
shape_of-out c = wrote_long c.loop-j.invariant

pub returns : goal.returns
returns c =
    let all : c.loop-j.j ≡ length (claim_of c.args.words.now).quantifiers = omega (arith, (known c.requires.0).quantifiers) in
    rw (← emitted_all (claim_of c.args.words.now) c.loop-j.j all) c.loop-j.invariant
