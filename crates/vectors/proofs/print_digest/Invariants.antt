-- The digest stays below the modulus, so the next product and sum fit.
use Rattle.std.proofs.Common.{◌<◌}
use Rattle.vectors.proofs.print_digest.Given as goal

abbrev pub invariant-loop-byte : goal.invariant-loop-byte
invariant-loop-byte g l = l.digest < 4294967291
