-- `bytes_for` meets its contract.
use native.Mathlib.Omega.{arith}
use Rattle.blocks.specs.Encoding.{blocks_for}
use Rattle.writing.proofs.writer.bytes_for.Goals as goal

pub overflow_mul-result : goal.overflow_mul-result
unfolding blocks_for
overflow_mul-result c = omega arith

pub returns : goal.returns
unfolding blocks_for
returns c = (omega arith, omega arith)
