-- What a turn of `read_input` keeps: the bytes read are in the buffer, which is as long as ever, and the reader lost just them. Each turn but the last reads a byte.
use Rattle.std.proofs.Common.{length, take, ◌-◌, ◌≡◌, ◌≤◌}
use Rattle.std.specs.Io.KnownBytes.{Consumes}
use Rattle.streams.proofs.read_input.Given as goal

abbrev pub invariant-loop-done : goal.invariant-loop-done
invariant-loop-done g l = (l.done ≤ length l.buf) × (length l.buf ≡ length l.initial.buf) × Consumes (g.R.Read.remaining l.initial.stdin) (g.R.Read.remaining l.stdin) (take l.done l.buf)

abbrev pub decreases-loop-done : goal.decreases-loop-done
decreases-loop-done g l = length l.initial.buf - l.done
