-- Two entries exchanged, by the number that is returned.
-- Assumes nothing.
use Rattle.std.proofs.Common.{◌≡◌, ℕ, arith}
use Rattle.blocks.proofs.Refusing.Readings.{reading-cases}
use Rattle.blocks.proofs.RoundTrip.Exchanging.{exchange-exactly, exchange-otherwise}
use Rattle.blocks.specs.Reading.{reading_of}
use Rattle.blocks.specs.Refusals.{number_of}
use Rattle.laws.specs.Laws.{ExchangeOtherwise, ExchangeRefused}

pub exchange_otherwise : ExchangeOtherwise
exchange_otherwise σ i n s t b e p a within some used x = exchange-otherwise σ i s t b e p a within some used x

pub exchange_refused : ExchangeRefused
exchange_refused σ i n s t b e p a within some used x = (
  λ two m.
      reading-cases (reading_of σ i t)
      (λ k j q r.
      let z : number_of k ≡ 2 = rw r at two in
      omega (arith, exchange-otherwise σ i s t b e p a within some used x m k j q r))
      (λ c r. let z : ◌≡◌ {A = ℕ} 0 2 = rw r at two in omega arith),
  λ ne. let r = (exchange-exactly σ i s t b e p a within some used x).1 ne in rw r,
)
