-- Laws of the first pass: one entry more.
-- Assumes nothing.
use Prim.Native.Nat.{◌+◌, ◌<◌, ◌≤◌, max, suc, zero, ℕ}
use lib.Dec.{eqb, ltb}
use lib.ListN.{drop, drop_of_length-le, get_or, length, length-map, length-set, set}
use lib.Seq.{get_or-set_other, get_or-set_same}
use mathlib.Core.Bool.{false, true}
use mathlib.Core.List.{List, [], ◌∷◌, map}
use mathlib.Core.Logic.{◌≢◌}
use mathlib.Core.Option.{none, some}
use mathlib.Core.Path.{◌∙◌, ◌≡◌, ap, fun_ext, refl, sym}
use native.Mathlib.Omega.{arith}
use Rattle.base.specs.Ways.{by_quotient}
use Rattle.base.proofs.WayLaws.{planted-start, quotient-parting}
use Rattle.base.proofs.Tests.{and_zero, bool_cases, eq-cases, eq-eqb, eqb-eq, iff-eq, lt-ltb, ne_eqb, tests}
use Rattle.blocks.specs.Entries.{Bounded, entries_of, nth, zero_entry}
use Rattle.blocks.specs.Owners.{owner_of}
use Rattle.blocks.specs.declared.Entry.{Entry}
use Rattle.logic.specs.Place.{kind_of}
use Rattle.meaning.specs.Description.{row_of}
use Rattle.meaning.specs.Owned.{Owned}
use Rattle.passes.specs.code.Slots.{at_top, build, high, is_link, leading, low, position, slots, tighten}
use Rattle.slots.specs.code.Tables.{Blank, Building, Built, Entered, Exact, Kept, Nodes, Cleared, built_slots, high_in, high_kind, keys_of, leads_to, link_kind, low_kind, slots_from, slots_in}

-- ---- kinds by number

pub link-kind : (k : ℕ) → eqb k 5 ≡ false → is_link (kind_of k) ≡ link_kind k
unfolding kind_of link_kind
link-kind k q =
    eq-cases k 1 (λ z. rw z) (λ z₁. eq-cases k 2 (λ z. rw z) (λ z₂. eq-cases k 3 (λ z. rw z) (λ z₃. eq-cases k 4 (λ z. rw z)
    (λ z₄. rw (kind_of, link_kind, ne_eqb z₁, ne_eqb z₂, ne_eqb z₃, ne_eqb z₄, q)))))

pub low-kind : (k m : ℕ) → eqb k 5 ≡ false → low (kind_of k) m ≡ low_kind k m
unfolding kind_of low_kind
low-kind k m q =
    eq-cases k 1 (λ z. rw z) (λ z₁. eq-cases k 2 (λ z. rw z) (λ z₂. eq-cases k 3 (λ z. rw z) (λ z₃. eq-cases k 4 (λ z. rw z)
    (λ z₄. rw (kind_of, low_kind, ne_eqb z₁, ne_eqb z₂, ne_eqb z₃, ne_eqb z₄, q)))))

pub high-kind : (k m : ℕ) → m < 65536 → eqb k 5 ≡ false → high (kind_of k) m ≡ high_in (high_kind k m)
unfolding kind_of high_kind
high-kind k m s q =
    eq-cases k 1 (λ z. rw z) (λ z₁. eq-cases k 2 (λ z. rw z) (λ z₂. eq-cases k 3 (λ z. rw z) (λ z₃. eq-cases k 4 (λ z. rw z (rw (lt-ltb s)))
    (λ z₄. rw (kind_of, high_kind, ne_eqb z₁, ne_eqb z₂, ne_eqb z₃, ne_eqb z₄, q)))))

-- ---- the rows left

rows_left : (es : List Entry) (k : ℕ) → k < length es → drop k (map row_of es) ≡ row_of (get_or es k zero_entry) ∷ drop (suc k) (map row_of es)
rows_left [] k h = absurd (omega arith)
rows_left (e ∷ es) zero h = refl
rows_left (e ∷ es) (suc k) h = rows_left es k (omega arith)

rows_none : (es : List Entry) (k : ℕ) → length es ≤ k → drop k (map row_of es) ≡ []
rows_none es k h = drop_of_length-le (map row_of es) {i = k} (omega (arith, length-map es row_of))

-- ---- where entries lead

leads-owner : (es : List Entry) (node : List ℕ) (n o : ℕ) → o < n → (o ≢ 0 → (nth es o).kind ≡ 5) → leads_to es node n o ≡ some (get_or node o 0)
unfolding leads_to
leads-owner es node n o h k =
    eq-cases o 0
    (λ z. rw (leads_to, eq-eqb z))
    (λ z. rw (leads_to, ne_eqb z, lt-ltb h, eq-eqb (k z)))

-- an entry that is no 'every' leads nowhere
leads-same : (es : List Entry) (node : List ℕ) (n s : ℕ) → 1 ≤ n → eqb (nth es n).kind 5 ≡ false → leads_to es (set node n s) (suc n) ≡ leads_to es node n
unfolding leads_to
leads-same es node n s one k = fun_ext (λ j.
    eq-cases j n
    (λ q.
    let z : eqb j 0 ≡ false = omega tests in
    let a : ltb j n ≡ false = omega tests in
    let c : eqb (nth es j).kind 5 ≡ false = rw q k in
    rw (leads_to, z, a, c, and_zero (ltb j (suc n))))
    (λ q.
    let a : ltb j (suc n) ≡ ltb j n = iff-eq (λ y. omega tests) (λ y. omega tests) in
    rw (leads_to, a, get_or-set_other node n j s 0 q)))

-- an 'every' leads to its slot
leads-on : (es : List Entry) (node : List ℕ) (n s : ℕ) → 1 ≤ n → n < length node → (nth es n).kind ≡ 5
    → leads_to es (set node n s) (suc n) ≡ leading (leads_to es node n) n s
unfolding leads_to
leads-on es node n s one l k = fun_ext (λ j.
    eq-cases j n
    (λ q.
    let z : eqb j 0 ≡ false = omega tests in
    let a : ltb j (suc n) ≡ true = omega tests in
    let c : eqb (nth es j).kind 5 ≡ true = rw q (eq-eqb k) in
    let y : eqb n j ≡ true = omega tests in
    rw (leads_to, z, a, c, y, q) (ap some (get_or-set_same node n s 0 l)))
    (λ q.
    let a : ltb j (suc n) ≡ ltb j n = iff-eq (λ y. omega tests) (λ y. omega tests) in
    let y : eqb n j ≡ false = omega tests in
    rw (leads_to, a, y, get_or-set_other node n j s 0 q)))

-- ---- the pass

build-starts : (es : List Entry) (t node : List ℕ) → get_or node 0 0 ≡ 0 → slots (map row_of es) ≡ build (leads_to es node 1) (slots_in t 0) 1 (drop 0 (map row_of es))
unfolding slots slots_from leads_to
build-starts es t node e =
    let same : leads_to es node 1 ≡ at_top = fun_ext (λ j.
    eq-cases j 0
    (λ q. rw (leads_to, q) (ap some e))
    (λ q. let a : ltb j 1 ≡ false = omega tests in let y : eqb 0 j ≡ false = omega tests in rw (leads_to, ne_eqb q, a, y))) in
    rw same

module _ {es : List Entry} (O : Owned es) {t cells : List ℕ} {most : ℕ} {used : ℕ} {node : List ℕ} (N : Nodes node used) (n : ℕ) {e : Entry} {s : ℕ} {t' cells' : List ℕ}
    (le : n < length es) (there : suc n < length node) (is' : e ≡ nth es (suc n)) (small : e.number < 65536)
    (E : Entered t most cells used (get_or node e.owner 0) (link_kind e.kind) e.name (low_kind e.kind e.number) (high_kind e.kind e.number) s t' cells') where
  owner-leads : leads_to es node (suc n) e.owner ≡ some (get_or node e.owner 0)
  owner-leads =
      let o : owner_of es (suc n) ≡ e.owner = unfold owner_of in ap (λ (x : Entry). x.owner) (sym is') in
      leads-owner es node (suc n) e.owner (omega (arith, O.earlier (suc n) (omega arith) (omega arith)))
      (λ z. rw (← o) (O.every (suc n) (omega arith) (omega arith) (λ q. z (sym o ∙ q))))

  row_here : drop n (map row_of es) ≡ row_of e ∷ drop (suc n) (map row_of es)
  unfolding nth
  row_here = rows_left es n le ∙ rw is'

  build-goes : build (leads_to es node (suc n)) (slots_in t used) (suc n) (drop n (map row_of es))
      ≡ build (leads_to es (set node (suc n) s) (suc (suc n))) (slots_in t' (max used s)) (suc (suc n)) (drop (suc n) (map row_of es))
  unfolding build row_of link_kind low_kind high_kind
  build-goes =
      let kind : (nth es (suc n)).kind ≡ e.kind = ap (λ (x : Entry). x.kind) (sym is') in
      rw row_here
      (bool_cases (eqb e.kind 5)
      (λ q.
      let five : e.kind ≡ 5 = eqb-eq q in
      let put : slots_in t' (max used s) ≡ tighten (slots_in t used) (get_or node e.owner 0) true e.name 0 none = E.tightened ∙ rw five in
      let at : s ≡ position 1 (slots_in t used) (get_or node e.owner 0) true e.name = E.at ∙ rw five in
      rw (row_of, q, build, owner-leads, put, leads-on es node (suc n) s (omega arith) there (kind ∙ five), ← at))
      (λ q.
      let put : slots_in t' (max used s) ≡ tighten (slots_in t used) (get_or node e.owner 0) (is_link (kind_of e.kind)) e.name (low (kind_of e.kind) e.number) (high (kind_of e.kind) e.number)
      = E.tightened ∙ rw (link-kind e.kind q, low-kind e.kind e.number q, high-kind e.kind e.number small q) in
      let other : eqb (nth es (suc n)).kind 5 ≡ false = rw kind q in
      rw (row_of, q, build, owner-leads, put, leads-same es node (suc n) s (omega arith) other)))

  nodes-more : Nodes (set node (suc n) s) (max used s)
  nodes-more = record {
    top = get_or-set_other node (suc n) 0 s 0 (λ q. omega arith) ∙ N.top;
    small = λ j. eq-cases j (suc n)
        (λ q. rw q (omega (arith, get_or-set_same node (suc n) s 0 there)))
        (λ q. omega (arith, get_or-set_other node (suc n) j s 0 q, N.small j));
  }

-- one entry more
module _ {d : List ℕ} (O : Owned (entries_of d)) {n used : ℕ} {t cells node : List ℕ} {most : ℕ} (B : Building d n used t most cells node) (le : n < length (entries_of d))
    {e : Entry} (is' : e ≡ nth (entries_of d) (suc n)) where
  pub building-more : Bounded e → {s m : ℕ} {t' cells' : List ℕ} → s ≤ used + 1 → m ≡ suc n → length t' ≡ length t
      → Entered t most cells used (get_or node e.owner 0) (link_kind e.kind) e.name (low_kind e.kind e.number) (high_kind e.kind e.number) s t' cells'
      → Building d m (max used s) t' most cells' (set node m s)
  building-more b {s} small q size E =
      let there : suc n < length node = omega (arith, B.places) in
      rw q (record {
        few = omega (arith, B.few);
        kept = E.kept;
        nodes = nodes-more O B.nodes n le there is' b.number E;
        slotted = B.slotted ∙ build-goes O B.nodes n le there is' b.number E;
        bounded = λ j lo hi. eq-cases j (suc n) (λ z. rw (z, ← is') b) (λ z. B.bounded j lo (omega arith));
        room = rw size B.room;
        inside = rw E.sized B.inside;
        places = rw (length-set node (suc n) s) B.places;
      })

-- all entered
pub building-ends : {d : List ℕ} {n used : ℕ} {origin t cells node : List ℕ} {most : ℕ} → length (entries_of d) ≤ n → Building d n used t most cells node → Exact origin t used
    → used ≤ length (entries_of d) → Built (built_slots d) d used origin t most cells
unfolding build
building-ends {d} {n} l B x f = record {
  slotted = B.slotted ∙ rw (rows_none (entries_of d) n l);
  exact = x;
  kept = B.kept;
  few = f;
  bounded = λ j lo hi. B.bounded j lo (omega arith);
}

-- ---- the tables at the start

pub exact-starts : (t : List ℕ) → Exact t t 0
exact-starts t = record { size = refl; high = λ j a b. absurd (omega arith); top = refl; rest = λ j l. refl }

kept-starts : {n most : ℕ} {t cells node : List ℕ} → 0 < length t → Cleared n most cells node → Kept t most cells 0
kept-starts {most = most} {t} e w =
    record {
      room = e;
      wide = w.wide;
      narrow = w.narrow;
      small = w.small;
      keys = λ j lo hi. absurd (omega arith);
      planted = planted-start (keys_of t) (by_quotient most) (quotient-parting most (omega (arith, w.wide))) (omega (arith, w.inside)) w.zero';
      apart = λ i j a b c. absurd (omega arith);
    }

nodes-start : {k : ℕ} {node : List ℕ} → Blank k node → Nodes node 0
nodes-start b = record { top = b.zero' 0; small = λ j. omega (arith, b.zero' j) }

pub building-starts : {d t cells node : List ℕ} {most total : ℕ} → total ≡ length (entries_of d) → total < length t → Cleared total most cells node → Building d 0 0 t most cells node
building-starts {d} {t} {cells} {node} e r w =
    record {
      few = omega arith;
      kept = kept-starts (omega arith) w;
      nodes = nodes-start w.nodes;
      slotted = build-starts (entries_of d) t node (w.nodes.zero' 0);
      bounded = λ j lo hi. absurd (omega arith);
      room = omega arith;
      inside = omega (arith, w.inside);
      places = omega (arith, w.nodes.room);
    }
