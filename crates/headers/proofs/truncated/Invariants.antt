use Prim.Native.Nat.{◌^◌, ◌<◌}
use mathlib.Core.Path.{◌≡◌}
use Rattle.wire.specs.Number.{big_endian}
use Rattle.headers.proofs.truncated.Given as goal

abbrev pub invariant-loop-b : goal.invariant-loop-b
invariant-loop-b l = (l.value ≡ big_endian l.s 0 l.b-index) × (l.value < 256 ^ l.b-index)
