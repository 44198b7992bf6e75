use Rattle.blocks.proofs.RoundTrip.Accepting.{accepted-encodes, encoded-accepted}
use Rattle.blocks.proofs.RoundTrip.Decoding.{decode-encode}
use Rattle.laws.proofs.bytes_and_entries.Goals as goal

pub returns-clause-one_to_one : goal.returns-clause-one_to_one
returns-clause-one_to_one c = (decode-encode, λ σ i n s b e. accepted-encodes σ i s b e)

pub returns-clause-accepted : goal.returns-clause-accepted
returns-clause-accepted c = λ σ i es. encoded-accepted σ i es
