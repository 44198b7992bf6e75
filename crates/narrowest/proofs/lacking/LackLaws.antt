-- A place lacks what it has a partner of.
-- Assumes nothing.
use Prim.Native.Nat.{ℕ}
use mathlib.Core.Bool.{◌&&◌, false≢true}
use mathlib.Core.List.{List}
use mathlib.Core.Path.{◌≡◌}
use Rattle.base.proofs.Missing.{opt_cases}
use Rattle.base.proofs.Tests.{and_both, and_left, and_right}
use mathlib.Core.Path.{◌∙◌, ap, refl, sym}
use Rattle.logic.proofs.PlaceTrees.Lookup.{excluder, is-excluded}
use Rattle.logic.specs.Normal.{excluded, find, found}
use Rattle.logic.specs.Place.{Place, has}
use Rattle.narrow.proofs.Joining.JoinParts.{implied-shared, shared-implied}
use Rattle.narrow.specs.Join.{implied}
use Rattle.pairs.proofs.Partners.{partnered-is}
use Rattle.pairs.specs.Pairs.{under}
use Rattle.pairs.specs.code.Index.{named_count, partnered}

module _ (P : List ℕ) (p : ℕ) where
  -- one that it has
  pub excluded-partner : (t : Place) → excluded (under P) p t ≡ partnered P (λ q. found (find has q t)) p (named_count P)
  excluded-partner t =
      partnered-is P (λ q. found (find has q t)) p
      (λ e. let x = excluder (under P) p t e in record { name = x.name; held = rw x.listed refl; excluding = x.against })
      (λ x. opt_cases (find has x.name t)
      (λ n. absurd (false≢true (sym (ap found n) ∙ x.held)))
      (λ m e. is-excluded (under P) p t (record { name = x.name; number = m; listed = e; against = x.excluding })))

  -- one that both have
  pub implied-partner : (t u : Place) → implied (under P) p t u ≡ partnered P (λ q. found (find has q t) && found (find has q u)) p (named_count P)
  implied-partner t u =
      partnered-is P (λ q. found (find has q t) && found (find has q u)) p
      (λ e. let x = implied-shared (under P) p u t e in record { name = x.name; held = and_both x.first x.second; excluding = x.against })
      (λ x. shared-implied (under P) p u t (record {
        name = x.name;
        first = and_left (found (find has x.name t)) _ x.held;
        second = and_right (found (find has x.name t)) _ x.held;
        against = x.excluding;
      }))
