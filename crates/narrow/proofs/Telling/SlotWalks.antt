-- The slots of a description keep to the bounds of each of its entries, at the place that the entry's links lead to; so
-- where no place of them is inconsistent, no two entries clash.
-- Assumes nothing.
use Prim.Native.Nat.{◌+◌, ◌<◌, ◌≤◌, suc, ℕ}
use lib.Dec.{eqb}
use lib.ListN.{length}
use mathlib.Core.Bool.{Bool, false, false≢true, true}
use mathlib.Core.List.{List, [], ◌++◌, ◌∷◌, map}
use mathlib.Core.Logic.{◌≢◌, ◌⊎◌, inl, inr}
use mathlib.Core.Option.{Option, none, some}
use mathlib.Core.Path.{◌∙◌, ◌≡◌, ap, refl, subst, sym}
use native.Mathlib.Omega.{arith}
use Rattle.base.proofs.Tests.{and_both, bool_cases, eq-cases, eq-eqb, eqb-self, ne_eqb, or_cases, or_left, or_right, tests}
use Rattle.blocks.proofs.Refusing.Legal.{owner-earlier, owner-kind}
use Rattle.blocks.specs.Entries.{nth}
use Rattle.blocks.specs.Owners.{owner_of}
use Rattle.blocks.specs.Promise.{Legal}
use Rattle.blocks.specs.declared.Entry.{Entry}
use Rattle.blocks.specs.declared.Schema.TheVariants.{Description}
use Rattle.logic.specs.Background.{Background}
use Rattle.logic.specs.Place.{Atom, Kind, atom, kind_of}
use Rattle.meaning.proofs.Descriptions.Links.{links_into}
use Rattle.meaning.specs.Description.{atom_of, links_to, row_of}
use Rattle.narrow.proofs.Telling.EntriesTold.{Peaceful, Rest, into-owner, rest-after, rest-first}
use Rattle.narrow.proofs.Telling.SlotPeace.{no-clash}
use Rattle.narrow.specs.Bounds.{Bounding, covers, high_of, low_of, walk}
use Rattle.passes.proofs.SlotLists.SlotLaws.{class-self}
use Rattle.passes.specs.code.Restrict.{slots_under}
use Rattle.passes.specs.code.Slots.{Slot, at_top, build, high, inconsistent, is_link, leading, low, position, same_key, slot, slots, smaller, taken, tighten}

-- the slots that links pass are there
abbrev Taken : List Slot → ℕ → List ℕ → Type 0
Taken ss v [] = Unit {0}
Taken ss v (l ∷ w) = (taken ss v true l ≡ true) × Taken ss (position 1 ss v true l) w

key-self : (v : ℕ) (d : Bool) (n : ℕ) → same_key v d n v d n ≡ true
key-self v d n = and_both (eqb-self v) (and_both (class-self d) (eqb-self n))

covers-smaller : (o hi hi' : Option ℕ) → covers hi' o ≡ true → covers (smaller hi' hi) o ≡ true
covers-smaller none hi hi' e = refl
covers-smaller (some h) hi none e = absurd (false≢true e)
covers-smaller (some h) none (some q) e = e
covers-smaller (some h) (some q') (some q) e = omega tests

covers-other : (hi hi' : Option ℕ) → covers (smaller hi' hi) hi ≡ true
covers-other none hi' = refl
covers-other (some h) none = omega tests
covers-other (some h) (some q) = omega tests

-- ---- one entry more

module _ (u : ℕ) (d : Bool) (n lo : ℕ) (hi : Option ℕ) where
  abbrev T : List Slot → List Slot
  T ss = tighten ss u d n lo hi

  taken-new : (ss : List Slot) → taken (T ss) u d n ≡ true
  unfolding taken tighten
  taken-new [] = or_left false (key-self u d n)
  taken-new (slot u' d' n' lo' hi' ∷ ss) =
      bool_cases (same_key u' d' n' u d n) (λ q. rw q (or_left (taken ss u d n) q)) (λ q. rw q (or_right (same_key u' d' n' u d n) (taken-new ss)))

  position-new : (k : ℕ) (ss : List Slot) → position k (T ss) u d n ≡ position k ss u d n
  unfolding position tighten
  position-new k [] = rw (key-self u d n)
  position-new k (slot u' d' n' lo' hi' ∷ ss) =
      bool_cases (same_key u' d' n' u d n) (λ q. rw (q, q)) (λ q. rw (q, q) (position-new (suc k) ss))

  low-new : (ss : List Slot) → lo ≤ low_of (T ss) u d n
  unfolding low_of tighten
  low-new [] = rw (key-self u d n) (omega arith)
  low-new (slot u' d' n' lo' hi' ∷ ss) = bool_cases (same_key u' d' n' u d n) (λ q. rw (q, q) (omega arith)) (λ q. rw (q, q) (low-new ss))

  high-new : (ss : List Slot) → covers (high_of (T ss) u d n) hi ≡ true
  unfolding high_of tighten
  high-new [] = rw (key-self u d n) (itself hi)
    where
      itself : (o : Option ℕ) → covers o o ≡ true
      itself none = refl
      itself (some q) = omega tests
  high-new (slot u' d' n' lo' hi' ∷ ss) = bool_cases (same_key u' d' n' u d n) (λ q. rw (q, q) (covers-other hi hi')) (λ q. rw (q, q) (high-new ss))

  module _ (v : ℕ) (e : Bool) (m : ℕ) where
    taken-keeps : (ss : List Slot) → taken ss v e m ≡ true → taken (T ss) v e m ≡ true
    unfolding taken tighten
    taken-keeps [] h = absurd (false≢true h)
    taken-keeps (slot u' d' n' lo' hi' ∷ ss) h =
        bool_cases (same_key u' d' n' u d n)
        (λ q. rw q h)
        (λ q. rw q (or_cases (same_key u' d' n' v e m) (taken ss v e m) h
        (λ z. or_left (taken (T ss) v e m) z) (λ z. or_right (same_key u' d' n' v e m) (taken-keeps ss z))))

    position-keeps : (k : ℕ) (ss : List Slot) → taken ss v e m ≡ true → position k (T ss) v e m ≡ position k ss v e m
    unfolding taken position tighten
    position-keeps k [] h = absurd (false≢true h)
    position-keeps k (slot u' d' n' lo' hi' ∷ ss) h =
        bool_cases (same_key u' d' n' u d n)
        (λ q. rw q)
        (λ q. bool_cases (same_key u' d' n' v e m) (λ z. rw (q, z)) (λ z. rw (q, z) (position-keeps (suc k) ss (rw z at h))))

    low-keeps : (ss : List Slot) → low_of ss v e m ≤ low_of (T ss) v e m
    unfolding low_of tighten
    low-keeps [] = omega arith
    low-keeps (slot u' d' n' lo' hi' ∷ ss) =
        bool_cases (same_key u' d' n' u d n)
        (λ q. bool_cases (same_key u' d' n' v e m) (λ z. rw (q, z) (omega arith)) (λ z. rw (q, z) (omega arith)))
        (λ q. bool_cases (same_key u' d' n' v e m) (λ z. rw (q, z) (omega arith)) (λ z. rw (q, z) (low-keeps ss)))

    high-keeps : (o : Option ℕ) (ss : List Slot) → covers (high_of ss v e m) o ≡ true → covers (high_of (T ss) v e m) o ≡ true
    unfolding high_of tighten
    high-keeps none ss h = refl
    high-keeps (some q) [] h = absurd (false≢true h)
    high-keeps (some x) (slot u' d' n' lo' hi' ∷ ss) h =
        bool_cases (same_key u' d' n' u d n)
        (λ q. bool_cases (same_key u' d' n' v e m) (λ z. rw (q, z) (covers-smaller (some x) hi hi' (rw z at h))) (λ z. rw (q, z) (rw z at h)))
        (λ q. bool_cases (same_key u' d' n' v e m) (λ z. rw (q, z) (rw z at h)) (λ z. rw (q, z) (high-keeps (some x) ss (rw z at h))))

  -- what was passed is passed as before
  walk-keeps : (ss : List Slot) (v : ℕ) (w : List ℕ) → Taken ss v w → (walk (T ss) v w ≡ walk ss v w) × Taken (T ss) v w
  unfolding walk
  walk-keeps ss v [] h = (refl, tt)
  walk-keeps ss v (l ∷ w) h =
      let p = position-keeps v true l 1 ss h.0 in
      let x = walk-keeps ss (position 1 ss v true l) w h.1 in
      (ap (λ (y : ℕ). walk (T ss) y w) p ∙ x.0, (taken-keeps v true l ss h.0, subst (λ (y : ℕ). Taken (T ss) y w) (sym p) x.1))

  bounding-keeps : (ss : List Slot) (v : ℕ) (a : Atom) → Bounding ss v a → Bounding (T ss) v a
  bounding-keeps ss v (atom k p m) h =
      (let y = low-keeps v (is_link k) p ss in omega (arith, h.0), high-keeps v (is_link k) p (high k m) ss h.1)

-- a link further
walk-further : (ss : List Slot) (v : ℕ) (w : List ℕ) (l : ℕ) → walk ss v (w ++ (l ∷ [])) ≡ position 1 ss (walk ss v w) true l
unfolding walk
walk-further ss v [] l = refl
walk-further ss v (l' ∷ w) l = walk-further ss (position 1 ss v true l') w l

taken-further : (ss : List Slot) (v : ℕ) (w : List ℕ) (l : ℕ) → Taken ss v w → taken ss (walk ss v w) true l ≡ true → Taken ss v (w ++ (l ∷ []))
unfolding walk
taken-further ss v [] l h e = (e, tt)
taken-further ss v (l' ∷ w) l h e = (h.0, taken-further ss (position 1 ss v true l') w l h.1 e)

-- ---- the entries, one after the other

owner-at : (d : List Entry) (ν : ℕ → Option ℕ) (k : ℕ) (e : Entry) → e ≡ nth d k → {x : Option ℕ} → ν (owner_of d k) ≡ x → ν e.owner ≡ x
unfolding owner_of
owner-at d ν k e i h = rw i h

module _ (d : List Entry) (D : Legal Description d) where
  -- entry m owns a place: it is the top or an 'every'
  abbrev Owning : ℕ → Type 0
  Owning m = (m ≡ 0) ⊎ ((1 ≤ m) × (m ≤ length d) × ((nth d m).kind ≡ 5))

  -- what holds where entries up to k are entered
  record Entered (ν : ℕ → Option ℕ) (ss : List Slot) (k : ℕ) : Type 0 where
    pub leads : (m : ℕ) → m < k → Owning m → ν m ≡ some (walk ss 0 (links_into d m))
    pub passed : (m : ℕ) → m < k → Owning m → Taken ss 0 (links_into d m)
    pub bounds : (m : ℕ) → 1 ≤ m → m < k → (nth d m).kind ≢ 5 → Bounding ss (walk ss 0 (links_to d m)) (atom_of (nth d m))
    pub ways : (m : ℕ) → 1 ≤ m → m < k → (nth d m).kind ≢ 5 → Taken ss 0 (links_to d m)

  owner-owning : (n : ℕ) → 1 ≤ n → n ≤ length d → Owning (owner_of d n)
  owner-owning n lo hi =
      eq-cases (owner_of d n) 0 (λ z. inl z) (λ z. inr (omega arith, omega (arith, owner-earlier D n lo hi), owner-kind D n lo hi z))

  -- the links into what entry k owns
  into-every : (k : ℕ) → 1 ≤ k → k ≤ length d → links_into d k ≡ links_into d (owner_of d k) ++ ((nth d k).name ∷ [])
  unfolding links_into
  into-every k lo hi =
      let z : eqb k 0 ≡ false = omega tests in
      rw z (ap (λ (w : List ℕ). w ++ ((nth d k).name ∷ [])) (into-owner d D k (owner_of d k) lo hi refl))

  module _ (ν : ℕ → Option ℕ) (ss : List Slot) (k : ℕ) (lo : 1 ≤ k) (hi : k ≤ length d) (E : Entered ν ss k) where
    abbrev o : ℕ
    o = owner_of d k

    abbrev v : ℕ
    v = walk ss 0 (links_into d o)

    -- where its owner leads
    owner-leads : ν o ≡ some v
    owner-leads = E.leads o (owner-earlier D k lo hi) (owner-owning k lo hi)

    module _ (c : Bool) (n low' : ℕ) (high' : Option ℕ) where
      abbrev S : List Slot
      S = tighten ss v c n low' high'

      kept-walk : (w : List ℕ) → Taken ss 0 w → walk S 0 w ≡ walk ss 0 w
      kept-walk w t = (walk-keeps v c n low' high' ss 0 w t).0

      kept-taken : (w : List ℕ) → Taken ss 0 w → Taken S 0 w
      kept-taken w t = (walk-keeps v c n low' high' ss 0 w t).1

      kept-bounds : (m : ℕ) → 1 ≤ m → m < k → (nth d m).kind ≢ 5 → Bounding S (walk S 0 (links_to d m)) (atom_of (nth d m))
      kept-bounds m l h z =
          subst (λ (y : ℕ). Bounding S y (atom_of (nth d m))) (sym (kept-walk (links_to d m) (E.ways m l h z)))
          (bounding-keeps v c n low' high' ss (walk ss 0 (links_to d m)) (atom_of (nth d m)) (E.bounds m l h z))

      -- the way to the entry itself
      own-walk : walk S 0 (links_to d k) ≡ v
      own-walk = ap (walk S 0) (into-owner d D k o lo hi refl) ∙ kept-walk (links_into d o) (E.passed o (owner-earlier D k lo hi) (owner-owning k lo hi))

      own-taken : Taken S 0 (links_to d k)
      own-taken = rw (into-owner d D k o lo hi refl) (kept-taken (links_into d o) (E.passed o (owner-earlier D k lo hi) (owner-owning k lo hi)))

    -- an atom
    abbrev a : Kind
    a = kind_of (nth d k).kind

    abbrev n : ℕ
    n = (nth d k).name

    abbrev m : ℕ
    m = (nth d k).number

    abbrev c : Bool
    c = is_link a

    enter-atom : (nth d k).kind ≢ 5 → Entered ν (tighten ss v c n (low a m) (high a m)) (suc k)
    enter-atom z =
        record {
          leads = λ j h w. let y : j < k = earlier j h w in E.leads j y w ∙ ap some (sym (kept-walk c n (low a m) (high a m) (links_into d j) (E.passed j y w)));
          passed = λ j h w. kept-taken c n (low a m) (high a m) (links_into d j) (E.passed j (earlier j h w) w);
          bounds = λ j l h y. eq-cases j k
              (λ q. rw (q, own-walk c n (low a m) (high a m)) (low-new v c n (low a m) (high a m) ss, high-new v c n (low a m) (high a m) ss))
              (λ q. kept-bounds c n (low a m) (high a m) j l (omega arith) y);
          ways = λ j l h y. eq-cases j k
              (λ q. rw q (own-taken c n (low a m) (high a m)))
              (λ q. kept-taken c n (low a m) (high a m) (links_to d j) (E.ways j l (omega arith) y));
        }
      where
        earlier : (j : ℕ) → j < suc k → Owning j → j < k
        earlier j h (inl w) = omega arith
        earlier j h (inr w) = eq-cases j k (λ q. absurd (z (rw q at w.2))) (λ q. omega arith)

    -- an 'every'
    enter-every : (nth d k).kind ≡ 5 → Entered (leading ν k (position 1 ss v true (nth d k).name)) (tighten ss v true (nth d k).name 0 none) (suc k)
    enter-every z =
        let l : ℕ = (nth d k).name in
        record {
          leads = λ j h w. eq-cases j k
              (λ q.
              rw (q, eqb-self k)
              (ap some (sym (ap (walk (S true l 0 none) 0) (into-every k lo hi)
              ∙ walk-further (S true l 0 none) 0 (links_into d o) l
              ∙ ap (λ (y : ℕ). position 1 (S true l 0 none) y true l) (kept-walk true l 0 none (links_into d o) (E.passed o (owner-earlier D k lo hi) (owner-owning k lo hi)))
              ∙ position-new v true l 0 none 1 ss))))
              (λ q.
              let y : eqb k j ≡ false = omega tests in
              rw y (E.leads j (omega arith) w ∙ ap some (sym (kept-walk true l 0 none (links_into d j) (E.passed j (omega arith) w)))));
          passed = λ j h w. eq-cases j k
              (λ q.
              rw (q, into-every k lo hi)
              (taken-further (S true l 0 none) 0 (links_into d o) l
              (kept-taken true l 0 none (links_into d o) (E.passed o (owner-earlier D k lo hi) (owner-owning k lo hi)))
              (rw (kept-walk true l 0 none (links_into d o) (E.passed o (owner-earlier D k lo hi) (owner-owning k lo hi))) (taken-new v true l 0 none ss))))
              (λ q. kept-taken true l 0 none (links_into d j) (E.passed j (omega arith) w));
          bounds = λ j m h y. kept-bounds true l 0 none j m (not-last j h y) y;
          ways = λ j m h y. kept-taken true l 0 none (links_to d j) (E.ways j m (not-last j h y) y);
        }
      where
        not-last : (j : ℕ) → j < suc k → (nth d j).kind ≢ 5 → j < k
        not-last j h y = eq-cases j k (λ q. absurd (y (rw q z))) (λ q. omega arith)

  -- all of them are entered
  all-entered : (k : ℕ) (fs : List Entry) → Rest d D k fs → (ν : ℕ → Option ℕ) (ss : List Slot) → Entered ν ss k
      → (n : ℕ) → 1 ≤ n → n ≤ length d → (nth d n).kind ≢ 5
      → Bounding (build ν ss k (map row_of fs)) (walk (build ν ss k (map row_of fs)) 0 (links_to d n)) (atom_of (nth d n))
  unfolding build row_of
  all-entered k [] r ν ss E n lo hi z = E.bounds n lo (omega (arith, r.size)) z
  all-entered k (e ∷ fs) r ν ss E n lo hi z =
      let i : e ≡ nth d k = rest-first d D k e fs r in
      let last : k ≤ length d = omega (arith, r.size) in
      let own : ν e.owner ≡ some (walk ss 0 (links_into d (owner_of d k))) = owner-at d ν k e i (owner-leads ν ss k r.low last E) in
      eq-cases e.kind 5
      (λ q.
      let E' = enter-every ν ss k r.low last E (sym (ap (λ (u : Entry). u.kind) i) ∙ q) in
      rw (eq-eqb q, own)
      (all-entered (suc k) fs (rest-after d D k e fs r) (leading ν k (position 1 ss (walk ss 0 (links_into d (owner_of d k))) true e.name))
      (tighten ss (walk ss 0 (links_into d (owner_of d k))) true e.name 0 none) (rw i E') n lo hi z))
      (λ q.
      let E' = enter-atom ν ss k r.low last E (λ y. q (ap (λ (u : Entry). u.kind) i ∙ y)) in
      rw (ne_eqb q, own)
      (all-entered (suc k) fs (rest-after d D k e fs r) ν
      (tighten ss (walk ss 0 (links_into d (owner_of d k))) (is_link (kind_of e.kind)) e.name (low (kind_of e.kind) e.number) (high (kind_of e.kind) e.number)) (rw i E') n lo hi z))

  begun : Entered at_top [] 1
  unfolding links_into walk
  begun =
      record {
        leads = λ m h w. let z : m ≡ 0 = omega arith in rw z;
        passed = λ m h w. let z : m ≡ 0 = omega arith in rw z tt;
        bounds = λ m l h y. absurd (omega arith);
        ways = λ m l h y. absurd (omega arith);
      }

  -- the slots keep to the bounds of each entry
  pub slots-bound : (n : ℕ) → 1 ≤ n → n ≤ length d → (nth d n).kind ≢ 5
      → Bounding (slots (map row_of d)) (walk (slots (map row_of d)) 0 (links_to d n)) (atom_of (nth d n))
  unfolding slots
  slots-bound =
      all-entered 1 d
      (record { low = omega arith; size = omega arith; each = λ i h. let w : 1 + i ≡ suc i = omega arith in rw w (unfold nth in refl) })
      at_top [] begun

  -- where no place of its slots is inconsistent, no two entries of a description clash
  pub slots-peaceful : (b : Background) → ((v : ℕ) → inconsistent 1 (slots_under b (map row_of d)) v ≡ false) → Peaceful b d
  unfolding slots_under
  slots-peaceful b h =
      record {
        apart = λ i j li hi lj hj zi zj e.
            no-clash b (slots (map row_of d)) h (walk (slots (map row_of d)) 0 (links_to d i)) (atom_of (nth d i)) (atom_of (nth d j))
            (slots-bound i li hi zi)
            (rw (← e) at (slots-bound j lj hj zj));
      }
