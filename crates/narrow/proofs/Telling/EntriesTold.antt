-- What a description says, where no two entries at one path clash: what every record keeps, and what one entry says by
-- itself, at its path.
-- Assumes nothing.
use Prim.Native.Nat.{◌+◌, ◌<◌, ◌≤◌, suc, ℕ}
use lib.Dec.{eqb}
use lib.ListN.{get_or, length}
use mathlib.Core.Bool.{◌||◌, false, false≢true, not, true}
use mathlib.Core.List.{List, [], ◌++◌, ◌∷◌, append-nil, append_assoc, map}
use mathlib.Core.Logic.{◌≢◌, ◌↔◌, ◌⊎◌, inl, inr, ⊎_elim}
use mathlib.Core.Path.{◌∙◌, ◌≡◌, ap, refl, subst, sym}
use native.Mathlib.Omega.{arith}
use Rattle.base.proofs.Tests.{and_left, and_right, eq-cases, eq-eqb, eqb-eq, ne_eqb, or_left, or_right, tests}
use Rattle.blocks.proofs.Refusing.Legal.{owner-earlier}
use Rattle.blocks.specs.Entries.{nth, zero_entry}
use Rattle.blocks.specs.Owners.{owner_of}
use Rattle.blocks.specs.Promise.{Legal}
use Rattle.blocks.specs.declared.Entry.{Entry}
use Rattle.blocks.specs.declared.Schema.TheVariants.{Description}
use Rattle.logic.proofs.NormalForm.Fits.{linked-follows}
use Rattle.logic.proofs.Records.Counting.{every_of}
use Rattle.logic.proofs.NormalForm.IsNormal.{canonical-end}
use Rattle.logic.proofs.OneMeaning.HoldsExactly.{holds_at-sound, nf-holds-entails}
use Rattle.logic.specs.Background.{Background, Keeps, LawfulBackground}
use Rattle.logic.specs.Holds.{holds, holds_at}
use Rattle.logic.specs.Meaning.{Entails}
use Rattle.logic.specs.Normal.{clash, is_bottom, nf, sub, supports}
use Rattle.logic.specs.Place.{Atom, Place}
use Rattle.logic.specs.Record.{Record, along, fits, meets}
use Rattle.logic.specs.Tree.{end, leaf, node, tree}
use Rattle.meaning.proofs.Descriptions.Links.{links-into, links_into}
use Rattle.meaning.proofs.Descriptions.Paths.{fits-paths}
use Rattle.meaning.specs.Description.{atom_of, links_to, place_of, row_of}
use Rattle.narrow.proofs.Telling.HeardLaws.{possible-alive, single-support}
use Rattle.narrow.proofs.Telling.Peaceful.{Made, Told, World, below, heard-told, peaceful-possible}
use Rattle.narrow.specs.Heard.{Possible, alone}
use Rattle.narrow.specs.Told.{tells}

-- some entry at this path says this
pub record Says (d : List Entry) (w : List ℕ) (a : Atom) : Type 0 where
  pub entry : ℕ
  pub from_one : 1 ≤ entry
  pub to_last : entry ≤ length d
  pub kind : (nth d entry).kind ≢ 5
  pub path : links_to d entry ≡ w
  pub says : atom_of (nth d entry) ≡ a

-- some entry, by itself, says the atom a at the path w
pub record ToldBy (b : Background) (d : List Entry) (w : List ℕ) (a : Atom) : Type 0 where
  pub entry : ℕ
  pub from_one : 1 ≤ entry
  pub to_last : entry ≤ length d
  pub kind : (nth d entry).kind ≢ 5
  pub telling : tells b (links_to d entry) (atom_of (nth d entry)) w a ≡ true

-- no two entries at one path clash, nor does one by itself
pub record Peaceful (b : Background) (d : List Entry) : Type 0 where
  pub apart : (i j : ℕ) → 1 ≤ i → i ≤ length d → 1 ≤ j → j ≤ length d → (nth d i).kind ≢ 5 → (nth d j).kind ≢ 5
      → links_to d i ≡ links_to d j → clash b (alone (atom_of (nth d i))) (atom_of (nth d j)) ≡ false

-- ---- the atoms of a description stand at their paths

made-more : (V W : World) → ((w : List ℕ) (a : Atom) → V w a → W w a) → (t : Place) → Made V t → Made W t
made-more V W f end m = tt
made-more V W f (leaf x r) m = (f [] x m.0, made-more V W f r m.1)
made-more V W f (node l s r) m = (made-more (below l V) (below l W) (λ w a q. f (l ∷ w) a q) s m.0, made-more V W f r m.1)

module _ (d : List Entry) (D : Legal Description d) where
  -- what the entries below owner o say
  abbrev Here : ℕ → World
  Here o = λ w a. Says d (links_into d o ++ w) a

  -- the rest of the list, from entry k on
  pub record Rest (k : ℕ) (fs : List Entry) : Type 0 where
    pub low : 1 ≤ k
    pub size : k + length fs ≡ suc (length d)
    pub each : (i : ℕ) → i < length fs → get_or fs i zero_entry ≡ nth d (k + i)

  pub rest-after : (k : ℕ) (e : Entry) (fs : List Entry) → Rest k (e ∷ fs) → Rest (suc k) fs
  rest-after k e fs r =
      record {
        low = omega arith;
        size = omega (arith, r.size);
        each = λ i h. let w : k + suc i ≡ suc k + i = omega arith in rw w at (r.each (suc i) (omega arith));
      }

  pub rest-first : (k : ℕ) (e : Entry) (fs : List Entry) → Rest k (e ∷ fs) → e ≡ nth d k
  rest-first k e fs r = let w : k + 0 ≡ k = omega arith in rw w at (r.each 0 (omega arith))

  pub into-owner : (k o : ℕ) → 1 ≤ k → k ≤ length d → owner_of d k ≡ o → links_to d k ≡ links_into d o
  into-owner k o lo hi e = links-into d (owner-earlier D) k lo hi ∙ ap (links_into d) e

  into-below : (k o : ℕ) → 1 ≤ k → k ≤ length d → owner_of d k ≡ o → (w : List ℕ) → links_into d k ++ w ≡ links_into d o ++ ((nth d k).name ∷ w)
  unfolding links_into
  into-below k o lo hi e w =
      let z : eqb k 0 ≡ false = omega tests in
      rw z (append_assoc (links_to d k) ((nth d k).name ∷ []) w ∙ ap (λ (u : List ℕ). u ++ ((nth d k).name ∷ w)) (into-owner k o lo hi e))

  own-of : (k : ℕ) (e : Entry) → e ≡ nth d k → owner_of d k ≡ e.owner
  unfolding owner_of
  own-of k e i = ap (λ (u : Entry). u.owner) (sym i)

  made-rows : (k : ℕ) (fs : List Entry) → Rest k fs → (o : ℕ) → Made (Here o) (tree k (map row_of fs) o)
  unfolding tree row_of
  made-rows k [] r o = tt
  made-rows k (e ∷ fs) r o =
      let i : e ≡ nth d k = rest-first k e fs r in
      let hi : k ≤ length d = omega (arith, r.size) in
      let x = made-rows (suc k) fs (rest-after k e fs r) o in
      let y = made-rows (suc k) fs (rest-after k e fs r) k in
      eq-cases e.kind 5
      (λ z. eq-cases o e.owner
      (λ q.
      let own : owner_of d k ≡ o = own-of k e i ∙ sym q in
      rw (eq-eqb z, eq-eqb q) (
        made-more (Here k) (below e.name (Here o))
            (λ w a s. subst (λ (v : List ℕ). Says d v a) (into-below k o r.low hi own w ∙ ap (λ (u : Entry). links_into d o ++ (u.name ∷ w)) (sym i)) s)
            (tree (suc k) (map row_of fs) k) y,
        x,
      ))
      (λ q. rw (eq-eqb z, ne_eqb q) x))
      (λ z. eq-cases o e.owner
      (λ q.
      let own : owner_of d k ≡ o = own-of k e i ∙ sym q in
      rw (ne_eqb z, eq-eqb q) (
        record {
          entry = k;
          from_one = r.low;
          to_last = hi;
          kind = λ v. z (ap (λ (u : Entry). u.kind) i ∙ v);
          path = into-owner k o r.low hi own ∙ sym (append-nil (links_into d o));
          says = ap atom_of (sym i);
        },
        x,
      ))
      (λ q. rw (ne_eqb z, ne_eqb q) x))

  pub made-entries : Made (Says d) (place_of d 0)
  unfolding place_of links_into
  made-entries =
      made-rows 1 d
      (record { low = omega arith; size = omega arith; each = λ i h. let w : 1 + i ≡ suc i = omega arith in rw w (unfold nth in refl) }) 0

-- ---- what one entry says, the description says

fits-alone : (r : Record) (x : Atom) (y : ℕ) → meets r x y ≡ true → fits r (alone x) y ≡ true
unfolding fits
fits-alone r x y h = rw h

told-meets : {b : Background} (r : Record) → Keeps b r → (v : List ℕ) (x : Atom) (w : List ℕ) (a : Atom) → tells b v x w a ≡ true
    → (y : ℕ) → y < r.size → along r v y (meets r x) ≡ true → along r w y (meets r a) ≡ true
unfolding tells along
told-meets {b} r kept [] x [] a e y i h =
    holds_at-sound {b = b} (alone x) [] a (unfold holds_at in e) r kept y i (fits-alone r x y h)
told-meets {b} r kept [] x (l ∷ w) a e y i h =
    holds_at-sound {b = b} (alone x) (l ∷ w) a (unfold holds_at in or_left (holds_at b (sub l (alone x)) w a) e) r kept y i (fits-alone r x y h)
told-meets r kept (l' ∷ v) x [] a e y i h = absurd (false≢true e)
told-meets {b} r kept (l' ∷ v) x (l ∷ w) a e y i h =
    let z : l ≡ l' = eqb-eq (and_left (eqb l l') (tells b v x w a) e) in
    let t : tells b v x w a ≡ true = and_right (eqb l l') (tells b v x w a) e in
    linked-follows r l y (λ u. along r v u (meets r x)) (λ u. along r w u (meets r a)) (λ u j f. told-meets r kept v x w a t u j f)
    (rw z h)

trivial-along : {b : Background} (r : Record) → Keeps b r → (w : List ℕ) (a : Atom) → supports b end a ≡ true → (x : ℕ) → x < r.size
    → along r w x (meets r a) ≡ true
unfolding along holds_at fits
trivial-along {b} r kept [] a e x i = holds_at-sound {b = b} end [] a e r kept x i refl
trivial-along r kept (l ∷ w) a e x i =
    linked-follows r l x (λ u. true) (λ u. along r w u (meets r a)) (λ u j f. trivial-along r kept w a e u j)
    (every_of (λ u. not (r.link l x u) || true) r.size (λ u j. or_right (not (r.link l x u)) refl))

module _ {b : Background} (law : LawfulBackground b) (d : List Entry) (D : Legal Description d) where
  pub told-entails : (w : List ℕ) (a : Atom) → ToldBy b d w a → Entails b (place_of d 0) w a
  told-entails w a t r kept x i h =
      told-meets r kept (links_to d t.entry) (atom_of (nth d t.entry)) w a t.telling x i (fits-paths r d D x h t.entry t.from_one t.to_last t.kind)

  -- what every record keeps, a description says
  pub trivial-entails : (t : Place) (w : List ℕ) (a : Atom) → supports b end a ≡ true → Entails b t w a
  trivial-entails t w a e r kept x i h = trivial-along r kept w a e x i

  -- a description of which no two entries clash says nothing by two of them together
  pub told-exactly : Peaceful b d → (w : List ℕ) (a : Atom) → Entails b (place_of d 0) w a ↔ ((supports b end a ≡ true) ⊎ ToldBy b d w a)
  unfolding holds
  told-exactly P w a = (
    λ f.
        let made = made-entries d D in
        let p : Possible b (place_of d 0) end = peaceful-possible law (Says d) apart (place_of d 0) made in
        let z : is_bottom (nf b (place_of d 0)) ≡ false = unfold nf in possible-alive law (place_of d 0) end (canonical-end law) p in
        let h : holds_at b (nf b (place_of d 0)) w a ≡ true = rw z at ((nf-holds-entails law (place_of d 0) w a).1 f) in
        ⊎_elim (λ v. inl v) (λ v. inr (by-entry (heard-told (Says d) (place_of d 0) made w a v))) (single-support law (place_of d 0) p w a h),
    λ s. ⊎_elim (λ v. trivial-entails (place_of d 0) w a v) (λ v. told-entails w a v) s,
  )
    where
      apart : (w : List ℕ) (x y : Atom) → Says d w x → Says d w y → clash b (alone x) y ≡ false
      apart w x y p q =
          rw (p.says, q.says) at (P.apart p.entry q.entry p.from_one p.to_last q.from_one q.to_last p.kind q.kind (p.path ∙ sym q.path))

      by-entry : Told b (Says d) w a → ToldBy b d w a
      by-entry t =
          let m = t.member in
          record {
            entry = m.entry;
            from_one = m.from_one;
            to_last = m.to_last;
            kind = m.kind;
            telling = rw (m.path, m.says) t.telling;
          }
