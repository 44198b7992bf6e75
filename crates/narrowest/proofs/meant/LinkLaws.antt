-- The links of a place of the result: those below which something stands.
-- Assumes nothing.
use Prim.Native.Nat.{◌%◌, ◌<◌, ◌≤◌, suc, zero, ℕ}
use lib.Dec.{eqb}
use lib.ListN.{get_or, length}
use mathlib.Core.Bool.{Bool, ◌&&◌, ◌||◌, false, false≢true, not, true}
use mathlib.Core.List.{List, [], ◌++◌, ◌∷◌, map}
use mathlib.Core.Logic.{◌≢◌}
use mathlib.Core.Path.{◌∙◌, ◌≡◌, ap₂, refl, sym}
use native.Mathlib.Omega.{arith}
use Rattle.base.proofs.Tests.{bool_cases, eq-cases, eq-eqb, eqb-eq, eqb-ne, eqb-self, leb-le, ne_eqb, or_cases, or_left, or_right}
use Rattle.blocks.specs.Entries.{nth, zero_entry}
use Rattle.blocks.specs.declared.Entry.{Entry}
use Rattle.logic.proofs.TreeRows.FillLaws.{Codes}
use Rattle.logic.specs.Laying.{codes, joints}
use Rattle.logic.specs.Normal.{is_end, sub}
use Rattle.logic.specs.Place.{Place, most}
use Rattle.logic.specs.Tree.{node}
use Rattle.logic.specs.Witness.{member}
use Rattle.meaning.proofs.Descriptions.Lookups.{find-some, find_none, match-fields, match-within}
use Rattle.meaning.specs.Description.{place_of}
use Rattle.meaning.specs.Lookup.{entry_for}
use Rattle.narrow.specs.code.Made.{nodes_of}
use Rattle.narrowest.proofs.form.SeekLaws.{entry-small}
use Rattle.narrowest.proofs.meant.BelowLaws.{Leading, leading}
use Rattle.narrowest.proofs.meant.OnceLaws.{Once, once-each}
use Rattle.narrowest.specs.code.Codes.{closes, code_below, first_alone, joined_code, knot, leads, links_in, links_of, along, place_by, second_alone, tree_by}
use Rattle.narrowest.specs.code.Forms.{Held, entries_in, owned_by}
use Rattle.narrowest.specs.code.Mates.{Good, GoodCode, Joinable, Mated, Settled}
use Rattle.std.specs.List.{flat_map}
use Rattle.unfolding.specs.code.Rows.{entry_of_row}

member-append : (x : ℕ) (q r : List ℕ) → member x (q ++ r) ≡ (member x q || member x r)
unfolding member
member-append x [] r = refl
member-append x (y ∷ q) r = bool_cases (eqb x y) (λ z. rw z refl) (λ z. rw z (member-append x q r))

module _ (one two : List Entry) (F : List ℕ) (o s : ℕ) where
  abbrev code : ℕ → ℕ
  code l = code_below one two F o s l

  -- one entry notes a link
  one-link : (l : ℕ) (e : Entry) → member l (links_of one two F o s e) ≡ (leads e && (not (eqb (code l) 0) && eqb l e.name))
  unfolding links_of member
  one-link l e =
      bool_cases (leads e)
      (λ f. bool_cases (eqb l e.name)
      (λ q.
      let i : l ≡ e.name = eqb-eq q in
      rw (f, q, i) (bool_cases (eqb (code e.name) 0) (λ z. rw z refl) (λ z. rw (z, eqb-self e.name) refl)))
      (λ q. rw (f, q) (bool_cases (eqb (code e.name) 0)
      (λ z. rw z (sym (and-last (not (eqb (code l) 0)))))
      (λ z. rw (z, q) (sym (and-last (not (eqb (code l) 0))))))))
      (λ f. rw f refl)
    where
      and-last : (x : Bool) → (x && false) ≡ false
      and-last true = refl
      and-last false = refl

  -- what is noted has something below it
  noted-some : (l : ℕ) (es : List Entry) → member l (flat_map (links_of one two F o s) es) ≡ true → code l ≢ 0
  unfolding member
  noted-some l [] e = absurd (false≢true e)
  noted-some l (x ∷ es) e =
      or_cases (member l (links_of one two F o s x)) (member l (flat_map (links_of one two F o s) es))
      (sym (member-append l (links_of one two F o s x) (flat_map (links_of one two F o s) es)) ∙ e)
      (λ h.
      let p = sym (one-link l x) ∙ h in
      bool_cases (eqb (code l) 0)
      (λ z. absurd (false≢true (dropped (leads x) (eqb l x.name) (rw z at p))))
      (λ z. eqb-ne z))
      (λ h. noted-some l es h)
    where
      dropped : (x y : Bool) → (x && (false && y)) ≡ true → false ≡ true
      dropped true y e = e
      dropped false y e = e

  -- and is noted, where an entry of the place leads there
  some-noted : (l v : ℕ) (es : List Entry) (p : ℕ) → p < length es → (get_or es p zero_entry).owner ≡ v → leads (get_or es p zero_entry) ≡ true
      → (get_or es p zero_entry).name ≡ l → code l ≢ 0 → member l (flat_map (links_of one two F o s) (owned_by v es)) ≡ true
  unfolding owned_by
  some-noted l v [] p i a f n z = absurd (omega arith)
  some-noted l v (e ∷ es) zero i a f n z =
      let y : eqb v e.owner ≡ true = eq-eqb (sym a) in
      rw y (member-append l (links_of one two F o s e) (flat_map (links_of one two F o s) (owned_by v es))
      ∙ or_left (member l (flat_map (links_of one two F o s) (owned_by v es))) (one-link l e ∙ rw (f, ne_eqb z, eq-eqb (sym n)) refl))
  some-noted l v (e ∷ es) (suc p) i a f n z =
      let ih = some-noted l v es p (omega arith) a f n z in
      bool_cases (eqb v e.owner)
      (λ y. rw y (member-append l (links_of one two F o s e) (flat_map (links_of one two F o s) (owned_by v es)) ∙ or_right (member l (links_of one two F o s e)) ih))
      (λ y. rw y ih)

  -- links are words
  noted-small : (l v : ℕ) (rows : List ℕ) → member l (flat_map (links_of one two F o s) (owned_by v (entries_in rows))) ≡ true → l < 65536
  unfolding owned_by member
  noted-small l v [] e = absurd (false≢true e)
  noted-small l v (x ∷ rows) e =
      bool_cases (eqb v (entry_of_row x).owner)
      (λ y.
      or_cases (member l (links_of one two F o s (entry_of_row x))) (member l (flat_map (links_of one two F o s) (owned_by v (entries_in rows))))
      (sym (member-append l (links_of one two F o s (entry_of_row x)) (flat_map (links_of one two F o s) (owned_by v (entries_in rows)))) ∙ rw y at e)
      (λ h.
      let n : eqb l (entry_of_row x).name ≡ true = last (leads (entry_of_row x)) (not (eqb (code l) 0)) (sym (one-link l (entry_of_row x)) ∙ h) in
      omega (arith, eqb-eq n, (entry-small x).1))
      (λ h. noted-small l v rows h))
      (λ y. noted-small l v rows (rw y at e))
    where
      last : (x y : Bool) {z : Bool} → (x && (y && z)) ≡ true → z ≡ true
      last true true e = e
      last true false e = absurd (false≢true e)
      last false y e = absurd (false≢true e)

  -- an entry by its number that leads to a link
  some-numbered : (l v : ℕ) (es : List Entry) (j : ℕ) → 1 ≤ j → j ≤ length es → (nth es j).owner ≡ v → leads (nth es j) ≡ true → (nth es j).name ≡ l → code l ≢ 0
      → member l (flat_map (links_of one two F o s) (owned_by v es)) ≡ true
  unfolding nth
  some-numbered l v es zero lo hi a f n z = absurd (omega arith)
  some-numbered l v es (suc p) lo hi a f n z = some-noted l v es p (omega arith) a f n z

  -- an 'every' that is found is one
  every-noted : (l v : ℕ) (es : List Entry) → entry_for es v 5 l ≢ 0 → code l ≢ 0 → member l (flat_map (links_of one two F o s) (owned_by v es)) ≡ true
  every-noted l v es y z =
      let f = match-fields es v 5 l refl y in
      some-numbered l v es (entry_for es v 5 l) (omega arith) (match-within es v 5 l) f.0 (rw f.1 refl) f.2 z

module _ {P a b : List ℕ} (J : Joinable P a b) (HA : Held a) (HB : Held b) {M F : List ℕ} (m : Mated (entries_in a) (entries_in b) (length (entries_in a)) M) {k : ℕ}
    (S : Settled P (entries_in a) (entries_in b) k M F) {o s : ℕ} (g : Good P (entries_in a) (entries_in b) M o s) (later : k ≤ o) where
  abbrev one : List Entry
  one = entries_in a

  abbrev two : List Entry
  two = entries_in b

  abbrev T : Place
  T = place_by P one two o s

  abbrev c : ℕ → ℕ
  c l = code_below one two F o s l

  abbrev all : List ℕ
  all = flat_map (links_of one two F o s) (along one two o s)

  lead : (l : ℕ) → Leading J HA HB m S (sub l T) (c l)
  lead l = leading J HA HB m S g later l

  -- an at most 0 is listed by an entry
  close-noted : (l : ℕ) → closes l (place_of one o) ≡ true → c l ≢ 0 → member l (flat_map (links_of one two F o s) (owned_by o one)) ≡ true
  close-noted l e z =
      let j = entry_for one o 4 l in
      eq-cases j 0
      (λ y. absurd (false≢true (rw (find_none one HA.legal o most l y) at e)))
      (λ y.
      let f = match-fields one o 4 l refl y in
      let w = find-some one HA.legal o most l refl y in
      let n : (nth one j).number ≡ 0 = omega (arith, leb-le (rw w at e)) in
      some-numbered one two F o s l o one j (omega arith) (match-within one o 4 l) f.0 (rw (f.1, eq-eqb n) refl) f.2 z)

  -- what has something below it is noted
  led : (l : ℕ) → c l ≢ 0 → member l all ≡ true
  unfolding code_below joined_code
  led l z =
      bool_cases (second_alone o s)
      (λ f.
      let e : first_alone o s ≡ false = apart o s f in
      rw f (every-noted one two F o s l s two (λ y. z (rw (e, f) y)) z))
      (λ f. rw f (
      bool_cases (first_alone o s)
      (λ e. every-noted one two F o s l o one (λ y. z (rw (e, y) refl)) z)
      (λ e. bool_cases (closes l (place_of two s))
      (λ q. every-noted one two F o s l o one (λ y. z (rw (e, f, q, y) refl)) z)
      (λ q. bool_cases (closes l (place_of one o))
      (λ p. close-noted l p z)
      (λ p. every-noted one two F o s l o one (λ y. z (rw (e, f, q, p, y, S.top) refl)) z)))))
    where
      apart : (x y : ℕ) → second_alone x y ≡ true → first_alone x y ≡ false
      apart x y h =
          eq-cases x 0
          (λ q. rw (eq-eqb q) refl)
          (λ q. absurd (false≢true (rw (ne_eqb q) at h)))

  small : (l : ℕ) → member l all ≡ true → l < 65536
  small l e =
      bool_cases (second_alone o s)
      (λ f. noted-small one two F o s l s b (rw f at e))
      (λ f. noted-small one two F o s l o a (rw f at e))

  -- the links that are written: those below which something stands
  pub links-once : Once all (links_in one two F o s)
  unfolding links_in
  links-once = once-each all small

  pub links-named : (l : ℕ) → member l (links_in one two F o s) ≡ not (is_end (sub l T))
  links-named l =
      links-once.same l ∙
      eq-cases (c l) 0
      (λ z. rw ((lead l).none z) (bool_cases (member l all) (λ e. absurd (noted-some one two F o s l (along one two o s) e z)) (λ e. e)))
      (λ z. rw ((lead l).some z) (led l z))

  -- ---- the 'every' entries, by the codes of the places below them

  link-leads : (l : ℕ) → member l (links_in one two F o s) ≡ true → c l ≢ 0
  link-leads l e = noted-some one two F o s l (along one two o s) (sym (links-once.same l) ∙ e)

  knots-joined : (ls : List ℕ) → ((l : ℕ) → member l ls ≡ true → member l (links_in one two F o s) ≡ true)
      → nodes_of (λ l. sub l T) ls ≡ joints (tree_by P one two) (map (knot one two F o s) ls)
  unfolding nodes_of joints member
  knots-joined [] h = refl
  knots-joined (l ∷ ls) h =
      let i = h l (or_left (member l ls) (eqb-self l)) in
      let e : l % 65536 ≡ l = omega (arith, links-once.small l i) in
      rw e (ap₂ (λ (x y : Place). node l x y) ((lead l).tree (link-leads l i)) (knots-joined ls (λ x n. h x (or_right (eqb x l) n))))

  knots-good : (ls : List ℕ) → ((l : ℕ) → member l ls ≡ true → member l (links_in one two F o s) ≡ true)
      → Codes (GoodCode P one two M) (codes (map (knot one two F o s) ls))
  unfolding codes member
  knots-good [] h = tt
  knots-good (l ∷ ls) h =
      let i = h l (or_left (member l ls) (eqb-self l)) in
      let e : l % 65536 ≡ l = omega (arith, links-once.small l i) in
      let z = link-leads l i in
      rw e (z, (lead l).good z, knots-good ls (λ x n. h x (or_right (eqb x l) n)))

  pub every-joined : nodes_of (λ l. sub l T) (links_in one two F o s) ≡ joints (tree_by P one two) (map (knot one two F o s) (links_in one two F o s))
  every-joined = knots-joined (links_in one two F o s) (λ l e. e)

  pub every-good : Codes (GoodCode P one two M) (codes (map (knot one two F o s) (links_in one two F o s)))
  every-good = knots-good (links_in one two F o s) (λ l e. e)
