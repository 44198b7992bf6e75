-- The walk over the rows that are written, with the codes of the places that they lead to in a table.
-- Assumes nothing.
use Prim.Native.Nat.{◌+◌, ◌-◌, ◌<◌, ◌≤◌, suc, ℕ}
use lib.ListN.{get_or, length, length-append, length-map, length-replicate, replicate, take}
use lib.Seq.{length-take-le}
use mathlib.Core.List.{List, [], ◌++◌, append_assoc, append-nil, map, map-append}
use mathlib.Core.Logic.{◌≢◌}
use mathlib.Core.Path.{◌∙◌, ◌≡◌, ap, refl, sym}
use native.Mathlib.Omega.{arith}
use Rattle.base.proofs.Lists.{zeros-read}
use Rattle.logic.proofs.TreeRows.LaidLaws.{codes-length, done-laid, joint-length, leaf-length, place-laid, place-load}
use Rattle.logic.specs.Laying.{Joint, codes, joints, leaves, place_numbers}
use Rattle.logic.proofs.TreeRows.FillLaws.{Codes, noted-after, noted-good, noted-length, queue-each, queue-next, queue-none, queue-past}
use Rattle.logic.proofs.TreeRows.LayoutLaws.{load}
use Rattle.logic.specs.Filling.{Joined, later_each, queue_from}
use Rattle.logic.specs.Layout.{Queue, done, job, lay, weight, write}
use Rattle.logic.specs.Tree.{Row, Tree}

-- ---- the numbers of a place

-- one number for each leaf and each node
pub numbers-length : {A B : Type 0} (num : Row A B → ℕ) (o : ℕ) (ls : List A) (ns : List (Joint B)) → length (place_numbers num o ls ns) ≡ length ls + length ns
numbers-length num o ls ns = simp (length-append, length-map, leaf-length, joint-length)

-- the numbers of a place and of the places that wait
place-numbers : {A B : Type 0} (T : ℕ → Tree A B) (num : Row A B → ℕ) (ls : List A) (ns : List (Joint B)) (f g k o : ℕ) (Q : Queue (Tree A B))
    → g ≡ length ls + (suc (length ns) + f)
    → map num (lay g k (job o (leaves ls (joints T ns)) Q))
    ≡ place_numbers num o ls ns ++ map num (lay f (k + length ls + length ns) (later_each T Q (k + length ls) (codes ns)))
place-numbers T num ls ns f g k o Q e = ap (map num) (place-laid T ls ns f g k o Q e) ∙ simp (map-append, append_assoc)

-- ---- the walk, some done

-- Of the numbers `whole`, those of the rows up to row count are in the table, which has room for cap; the places of the rows from row k on are still to do.
pub record Walking {A B : Type 0} (cap : ℕ) (T : ℕ → Tree A B) (num : Row A B → ℕ) (Good : ℕ → Type 0) (whole : List ℕ) (k : ℕ) (rows : List ℕ) (count : ℕ) (below : List ℕ) : Type 0 where
  pub size : length rows ≡ cap
  pub from : 1 ≤ k
  pub to : k ≤ count + 1
  pub fuel : ℕ
  pub enough : load (queue_from T below k (count + 1 - k)) ≤ fuel
  pub few : count ≤ cap
  pub parts : whole ≡ take count rows ++ map num (lay fuel (count + 1) (queue_from T below k (count + 1 - k)))
  pub width : length below ≡ cap + 1
  pub zeros : (j : ℕ) → count < j → get_or below j 0 ≡ 0
  pub goods : (j : ℕ) → get_or below j 0 ≢ 0 → Good (get_or below j 0)

module _ {A B : Type 0} (cap : ℕ) (T : ℕ → Tree A B) (L : ℕ → List A) (N : ℕ → List (Joint B)) (Good : ℕ → Type 0)
    (unfolds : (c : ℕ) → Good c → T c ≡ leaves (L c) (joints T (N c)))
    (good : (c : ℕ) → Good c → Codes Good (codes (N c)))
    (num : Row A B → ℕ) where
  -- the steps that a place takes, and those of the jobs after it
  place-fuel : (c fuel k o : ℕ) (Q : Queue (Tree A B)) → Good c → load (job o (T c) Q) ≤ fuel
      → length (L c) + (suc (length (N c)) + load (later_each T Q k (codes (N c)))) ≤ fuel
  place-fuel c fuel k o Q g e = rw (← place-load T (L c) (N c) k o Q, ← unfolds c g) e

  -- the numbers of a place, and those of the jobs after it
  place-parts : (c f fuel k o : ℕ) (Q : Queue (Tree A B)) → Good c → fuel ≡ length (L c) + (suc (length (N c)) + f)
      → map num (lay fuel k (job o (T c) Q))
      ≡ place_numbers num o (L c) (N c) ++ map num (lay f (k + length (L c) + length (N c)) (later_each T Q (k + length (L c)) (codes (N c))))
  place-parts c f fuel k o Q g e = rw (unfolds c g) (place-numbers T num (L c) (N c) f fuel k o Q e)

  -- the whole has at least the rows that are there and those of a place that is still to do
  place-least : (c fuel k o : ℕ) (Q : Queue (Tree A B)) {whole : List ℕ} (front : List ℕ) {count : ℕ} → Good c → load (job o (T c) Q) ≤ fuel
      → whole ≡ front ++ map num (lay fuel k (job o (T c) Q)) → length front ≡ count → count + length (place_numbers num o (L c) (N c)) ≤ length whole
  place-least c fuel k o Q {whole} front {count} g en e l =
      let P = place_numbers num o (L c) (N c) in
      let f : ℕ = fuel - (length (L c) + suc (length (N c))) in
      let h : fuel ≡ length (L c) + (suc (length (N c)) + f) = omega (arith, place-fuel c fuel k o Q g en) in
      let R = map num (lay f (k + length (L c) + length (N c)) (later_each T Q (k + length (L c)) (codes (N c)))) in
      let w : length whole ≡ length front + (length P + length R) =
      ap length (e ∙ ap (λ (l : List ℕ). front ++ l) (place-parts c f fuel k o Q g h)) ∙ length-append front (P ++ R) ∙ ap (λ (n : ℕ). length front + n) (length-append P R) in
      omega (arith, w, l)

  -- a place is done, which had room
  place-step : (c fuel k o : ℕ) {whole rows rows' below below' : List ℕ} {count count' : ℕ} → Good c → 1 ≤ k → k ≤ count + 1
      → load (job o (T c) (queue_from T below k (count + 1 - k))) ≤ fuel
      → whole ≡ take count rows ++ map num (lay fuel (count + 1) (job o (T c) (queue_from T below k (count + 1 - k))))
      → length (take count rows) ≡ count → count + length (place_numbers num o (L c) (N c)) ≤ cap
      → length below ≡ cap + 1 → ((j : ℕ) → count < j → get_or below j 0 ≡ 0) → ((j : ℕ) → get_or below j 0 ≢ 0 → Good (get_or below j 0))
      → Joined cap rows count (place_numbers num o (L c) (N c)) below (count + length (L c) + 1) (codes (N c)) rows' count' below'
      → Walking cap T num Good whole k rows' count' below'
  place-step c fuel k o {whole} {rows} {rows'} {below} {below'} {count} {count'} g fr to en e l room wi ze go p =
      let la = length (L c) in
      let lb = length (N c) in
      let cs = codes (N c) in
      let P = place_numbers num o (L c) (N c) in
      let n = count + 1 - k in
      let Q = queue_from T below k n in
      let f : ℕ = fuel - (la + suc lb) in
      let steps = place-fuel c fuel (count + 1 + la) o Q g en in
      let h : fuel ≡ la + (suc lb + f) = omega (arith, steps) in
      let lc : length cs ≡ lb = codes-length (N c) in
      let lp : length P ≡ la + lb = numbers-length num o (L c) (N c) in
      let total : count' ≡ count + la + length cs = omega (arith, p.pushed.total, lc, lp) in
      let at : k + (n + la) ≡ count + la + 1 = omega (arith, fr, to) in
      let at' : count + 1 + la ≡ count + la + 1 = omega arith in
      let none : queue_from T below k (n + la) ≡ Q = queue-none T below k n la (λ j a b. ze j (omega (arith, a, fr, to))) in
      let each = queue-each T Good below k (n + la) cs (good c g) (omega (arith, at, room, lc, lp, wi)) in
      let left : count' + 1 - k ≡ n + la + length cs = omega (arith, total, fr, to) in
      let next : count' + 1 ≡ count + 1 + la + lb = omega (arith, total, lc) in
      let jobs : queue_from T below' k (count' + 1 - k) ≡ later_each T Q (count + 1 + la) cs = rw (p.notes, ← at, left, each, none, at', at) in
      record {
        size = p.pushed.size;
        from = fr;
        to = omega (arith, to, total);
        fuel = f;
        enough = rw jobs (omega (arith, steps));
        few = omega (arith, total, room, lc, lp);
        parts = rw (jobs, next) (e ∙ rw (place-parts c f fuel (count + 1) o Q g h, p.pushed.held, append_assoc (take count rows) P));
        width = rw p.notes (noted-length below _ cs ∙ wi);
        zeros = λ j b. rw p.notes (noted-after below _ cs j (omega (arith, b, total)) ∙ ze j (omega (arith, b, total)));
        goods = rw p.notes (noted-good Good below _ cs (good c g) (omega (arith, room, lc, lp, wi)) go);
      }

  -- ---- the top's place

  -- there are steps enough
  top-load : (c : ℕ) → load (job 0 (T c) done) ≤ weight (T c)
  unfolding load
  top-load c = omega arith

  -- the whole has at least the rows of the top's place
  pub top-least : (c : ℕ) → Good c → 0 + length (place_numbers num 0 (L c) (N c)) ≤ length (map num (write (T c)))
  unfolding write
  top-least c g = place-least c (weight (T c)) 1 0 done [] g (top-load c) refl refl

  -- the top's place is done
  pub walking_start : (c : ℕ) {rows rows' : List ℕ} {count : ℕ} {below below' : List ℕ} → Good c → below ≡ replicate (cap + 1) 0 → 0 + length (place_numbers num 0 (L c) (N c)) ≤ cap
      → Joined cap rows 0 (place_numbers num 0 (L c) (N c)) below (0 + length (L c) + 1) (codes (N c)) rows' count below'
      → Walking cap T num Good (map num (write (T c))) 1 rows' count below'
  unfolding write queue_from
  walking_start c g e few p =
      place-step c (weight (T c)) 1 0 g (omega arith) (omega arith) (top-load c) refl refl few
      (ap length e ∙ length-replicate {A = ℕ} (cap + 1) 0) (λ j b. zeros-read (cap + 1) e j) (λ j z. absurd (z (zeros-read (cap + 1) e j))) p

  -- ---- row k

  -- a row that leads nowhere is passed
  pub walking-next : {whole : List ℕ} {k : ℕ} {rows : List ℕ} {count : ℕ} {below : List ℕ}
      → Walking cap T num Good whole k rows count below → k ≤ count → get_or below k 0 ≡ 0 → Walking cap T num Good whole (k + 1) rows count below
  walking-next {k = k} {count = count} {below = below} w l z =
      let q = queue-past T below k count l z in
      record {
        size = w.size;
        from = omega arith;
        to = omega arith;
        fuel = w.fuel;
        enough = rw (← q) w.enough;
        few = w.few;
        parts = rw (← q) w.parts;
        width = w.width;
        zeros = w.zeros;
        goods = w.goods;
      }

  -- the whole has at least the rows that are there and those of the place that row k leads to
  pub walking-least : {whole : List ℕ} {k : ℕ} {rows : List ℕ} {count : ℕ} {below : List ℕ}
      → Walking cap T num Good whole k rows count below → k ≤ count → get_or below k 0 ≢ 0
      → count + length (place_numbers num k (L (get_or below k 0)) (N (get_or below k 0))) ≤ length whole
  walking-least {k = k} {rows} {count} {below} w l z =
      let q = queue-next T below k count l z in
      let Q = queue_from T below (k + 1) (count + 1 - (k + 1)) in
      place-least (get_or below k 0) w.fuel (count + 1) k Q (take count rows) (w.goods k z) (rw (← q) w.enough) (w.parts ∙ rw q)
      (length-take-le count rows (omega (arith, w.size, w.few)))

  -- the place that row k leads to is done
  pub walking-place : {whole : List ℕ} {k : ℕ} {rows : List ℕ} {count : ℕ} {below rows' : List ℕ} {count' : ℕ} {below' : List ℕ}
      → Walking cap T num Good whole k rows count below → k ≤ count → get_or below k 0 ≢ 0
      → count + length (place_numbers num k (L (get_or below k 0)) (N (get_or below k 0))) ≤ cap
      → Joined cap rows count (place_numbers num k (L (get_or below k 0)) (N (get_or below k 0))) below (count + length (L (get_or below k 0)) + 1) (codes (N (get_or below k 0))) rows' count' below'
      → Walking cap T num Good whole (k + 1) rows' count' below'
  walking-place {k = k} {rows} {count} {below} w l z few p =
      let q = queue-next T below k count l z in
      place-step (get_or below k 0) w.fuel (k + 1) k (w.goods k z) (omega arith) (omega arith) (rw (← q) w.enough) (w.parts ∙ rw q)
      (length-take-le count rows (omega (arith, w.size, w.few))) few w.width w.zeros w.goods p

  -- all rows are done
  pub walking-done : {whole : List ℕ} {k : ℕ} {rows : List ℕ} {count : ℕ} {below : List ℕ}
      → Walking cap T num Good whole k rows count below → count < k → take count rows ≡ whole
  unfolding queue_from
  walking-done {k = k} {rows} {count} {below} w l =
      let e : count + 1 - k ≡ 0 = omega arith in
      let none : map num (lay w.fuel (count + 1) (queue_from T below k (count + 1 - k))) ≡ [] = rw (e, queue_from, done-laid w.fuel (count + 1)) in
      sym (w.parts ∙ rw (none, append-nil (take count rows)))
