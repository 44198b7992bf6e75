-- The table of legal descriptions, of which each is contained in which under a background, is reflexive and transitive.
-- Assumes nothing.
use Rattle.std.proofs.Common.{◌≡◌, ℕ, ◌<◌, Bool, true, eqb, List}
use Rattle.base.proofs.Tests.{eq-eqb, eqb-eq}
use Rattle.blocks.specs.Promise.{Legal}
use Rattle.blocks.specs.declared.Entry.{Entry}
use Rattle.blocks.specs.declared.Schema.TheVariants.{Description}
use Rattle.meaning.specs.Hierarchy.{Ordered, within}
use Rattle.logic.specs.Background.{Background, LawfulBackground}
use Rattle.meaning.proofs.Verdicts.Contained.{contained-all}
use Rattle.meaning.specs.Failing.{failing}
use Rattle.meaning.specs.Promise.{Subsumed}
use Rattle.meaning.specs.Description.{place_of}

pub table-ordered : (b : Background) → LawfulBackground b → (service : ℕ → List Entry) (n : ℕ) → ((i : ℕ) → i < n → Legal Description (service i))
    → Ordered (within b service) n
table-ordered b L service n legal =
    record {
      itself = λ i l. eq-eqb ((contained-all L (service i) (service i) (legal i l)).1 (λ r K x h f. f));
      through = λ i j k li lj lk p q.
          let a = (contained-all L (service i) (service j) (legal j lj)).0 (eqb-eq p) in
          let c = (contained-all L (service j) (service k) (legal k lk)).0 (eqb-eq q) in
          eq-eqb ((contained-all L (service i) (service k) (legal k lk)).1 (λ r K x h f. c r K x h (a r K x h f)));
    }
