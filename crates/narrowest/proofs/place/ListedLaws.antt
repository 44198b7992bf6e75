-- What a place lists, by the entry that is found.
-- Assumes nothing.
use Prim.Native.Nat.{◌-◌, ◌<◌, suc, ℕ}
use lib.ListN.{get_or, length, length-map}
use mathlib.Core.List.{List}
use mathlib.Core.Logic.{◌≢◌}
use mathlib.Core.Path.{◌∙◌, ◌≡◌, refl, sym}
use native.Mathlib.Omega.{arith}
use Rattle.logic.specs.Normal.{find, rank}
use Rattle.logic.specs.Place.{Kind}
use Rattle.meaning.proofs.Descriptions.Lookups.{find-some, find_none, match-within}
use Rattle.meaning.specs.Description.{place_of}
use Rattle.meaning.specs.Lookup.{entry_for}
use Rattle.narrowest.proofs.form.SeekLaws.{nth-row}
use Rattle.narrowest.specs.code.Forms.{Held, entries_in, option_of}
use Rattle.std.specs.Prelude.{None, Some}
use Rattle.unfolding.specs.code.Rows.{entry_of_row}

module _ {rows : List ℕ} (H : Held rows) (o : ℕ) (k : Kind) (n : ℕ) {j : ℕ} (e : j ≡ entry_for (entries_in rows) o (rank k) n) where
  pub listed-none : j ≡ 0 → None ≡ option_of (find k n (place_of (entries_in rows) o))
  listed-none z = rw (find_none (entries_in rows) H.legal o k n (sym e ∙ z)) refl

  pub listed-within : j ≢ 0 → j - 1 < length rows
  listed-within z =
      let w = match-within (entries_in rows) o (rank k) n in
      omega (arith, e, w, length-map rows entry_of_row)

  pub listed_some : j ≢ 0 → Some (entry_of_row (get_or rows (j - 1) 0)).number ≡ option_of (find k n (place_of (entries_in rows) o))
  listed_some z =
      let l = listed-within z in
      let s : suc (j - 1) ≡ j = omega arith in
      let f = find-some (entries_in rows) H.legal o k n (sym e) z in
      rw (f, ← nth-row rows (j - 1) l, s) refl
