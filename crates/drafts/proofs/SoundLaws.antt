-- What a sound desk keeps, by its counters.
-- Assumes nothing.
use Rattle.std.proofs.Common.{◌≡◌, ◌≢◌, ℕ, ◌≤◌, ◌<◌, true, false, not, ◌&&◌, eqb, leb, List, length, get_or, arith}
use Rattle.base.proofs.RangeLaws.{all-at}
use Rattle.base.proofs.Tests.{and_left, and_right, eqb-eq, eqb-ne, false_of_not, ge-ltb, gt-leb, le-leb, leb-le, lt-ltb}
use Rattle.base.specs.Range.{all}
use Rattle.drafts.specs.Memory.{area, entries_at}
use Rattle.drafts.specs.Sound.{areas_ok, counters_ok, drafted, is_new, sound, stand_ok}
use Rattle.drafts.specs.declared.Desk.{Desk}

-- ---- the counters

module _ (d : Desk) (h : counters_ok d ≡ true) where
  parts : (leb d.count 1008 && (leb d.stands 4 && all (stand_ok d) 0 4)) ≡ true
  unfolding counters_ok
  parts = h

  pub few-entries : d.count ≤ 1008
  few-entries = leb-le (and_left _ _ parts)

  pub few-stands : d.stands ≤ 4
  few-stands = leb-le (and_left _ _ (and_right _ _ parts))

  pub each-stand : (j : ℕ) → j < 4 → stand_ok d j ≡ true
  each-stand j l = all-at (stand_ok d) 0 4 (and_right _ _ (and_right _ _ parts)) j (omega arith) (omega arith)

  there : (j : ℕ) → j < d.stands → (not (eqb (get_or d.names j 0) 0) && (leb (get_or d.counts j 0) 1008 && is_new d.names j)) ≡ true
  there j l = let s = each-stand j (let f = few-stands in omega arith) in rw (lt-ltb l) at s

  pub named-so : (j : ℕ) → j < d.stands → get_or d.names j 0 ≢ 0
  named-so j l = eqb-ne (false_of_not _ (and_left _ _ (there j l)))

  pub few-kept : (j : ℕ) → j < d.stands → get_or d.counts j 0 ≤ 1008
  few-kept j l = leb-le (and_left _ _ (and_right _ _ (there j l)))

  pub new-name : (j : ℕ) → j < d.stands → is_new d.names j ≡ true
  new-name j l = and_right _ _ (and_right _ _ (there j l))

  rest : (j : ℕ) → d.stands ≤ j → j < 4 → (eqb (get_or d.names j 0) 0 && eqb (get_or d.counts j 0) 0) ≡ true
  rest j g l = let s = each-stand j l in rw (ge-ltb g) at s

  pub no-name : (j : ℕ) → d.stands ≤ j → j < 4 → get_or d.names j 0 ≡ 0
  no-name j g l = eqb-eq (and_left _ _ (rest j g l))

  pub no-count : (j : ℕ) → d.stands ≤ j → j < 4 → get_or d.counts j 0 ≡ 0
  no-count j g l = eqb-eq (and_right _ _ (rest j g l))

-- ---- counters and memory

module _ (d : Desk) (m : List ℕ) (h : sound d m ≡ true) where
  all-parts : (leb 40320 (length m) && (counters_ok d && areas_ok d m)) ≡ true
  unfolding sound
  all-parts = h

  pub long-enough : 40320 ≤ length m
  long-enough = leb-le (and_left _ _ all-parts)

  pub counted : counters_ok d ≡ true
  counted = and_left _ _ (and_right _ _ all-parts)

  areas : areas_ok d m ≡ true
  areas = and_right _ _ (and_right _ _ all-parts)

  pub drafted-stand : (j : ℕ) → j < d.stands → drafted (entries_at m (area j) (get_or d.counts j 0)) ≡ true
  drafted-stand j l = all-at (λ k. drafted (entries_at m (area k) (get_or d.counts k 0))) 0 d.stands (and_left _ _ areas) j (omega arith) (omega arith)

  pub drafted-held : drafted (entries_at m 0 d.count) ≡ true
  drafted-held = and_right _ _ areas

-- ---- test by test

module _ (d : Desk) (m : List ℕ) where
  pub short-unsound : length m < 40320 → sound d m ≡ false
  unfolding sound
  short-unsound h = rw (sound, gt-leb h)

  pub counters-unsound : 40320 ≤ length m → counters_ok d ≡ false → sound d m ≡ false
  unfolding sound
  counters-unsound h c = rw (sound, le-leb h, c)

  pub stands-unsound : 40320 ≤ length m → counters_ok d ≡ true → all (λ (j : ℕ). drafted (entries_at m (area j) (get_or d.counts j 0))) 0 d.stands ≡ false → sound d m ≡ false
  unfolding sound
  stands-unsound h c s = rw (sound, le-leb h, c, s)

  pub held-decides : 40320 ≤ length m → counters_ok d ≡ true → all (λ (j : ℕ). drafted (entries_at m (area j) (get_or d.counts j 0))) 0 d.stands ≡ true
      → sound d m ≡ drafted (entries_at m 0 d.count)
  unfolding sound
  held-decides h c s = rw (sound, le-leb h, c, s)
