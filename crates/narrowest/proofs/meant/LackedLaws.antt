-- The lacks of a joined place.
-- Assumes nothing.
use Prim.Native.Nat.{◌%◌, ◌*◌, ◌+◌, ◌-◌, ◌<◌, ◌≤◌, suc, zero, ℕ}
use lib.Dec.{eqb}
use lib.ListN.{get_or, length, length-map}
use mathlib.Core.Bool.{Bool, ◌&&◌, ◌||◌, false, false≢true, not, true}
use mathlib.Core.List.{List, [], ◌∷◌, map}
use mathlib.Core.Path.{◌∙◌, ◌≡◌, ap, refl, sym}
use native.Mathlib.Omega.{arith}
use Rattle.base.proofs.Tests.{and_left, eq-cases, eqb-eq, eqb-self, or_cases, or_left, or_right}
use Rattle.blocks.specs.Entries.{nth, zero_entry}
use Rattle.blocks.specs.Words.{word_at}
use Rattle.blocks.specs.declared.Entry.{Entry}
use Rattle.logic.proofs.PlaceTrees.Lookup.{excluder}
use Rattle.logic.proofs.SpecimenTrees.Names.{member-once}
use Rattle.logic.specs.Laying.{leaves}
use Rattle.logic.specs.Normal.{excluded, find, found, supports}
use Rattle.logic.specs.Place.{Place, atom, lacks}
use Rattle.logic.specs.Tree.{leaf}
use Rattle.logic.specs.Witness.{member, once}
use Rattle.meaning.proofs.Descriptions.Lookups.{find_none, kind-range, match-fields, match-within}
use Rattle.meaning.specs.Description.{place_of}
use Rattle.meaning.specs.Lookup.{entry_for}
use Rattle.narrow.specs.Join.{implied}
use Rattle.narrow.specs.code.Made.{bare, leaves_of}
use Rattle.narrow_listed.proofs.NamesListed.{excluded-named}
use Rattle.narrow_listed.specs.Listed.{names_from, names_in}
use Rattle.narrowest.proofs.form.SeekLaws.{entry-small, nth-row}
use Rattle.narrowest.proofs.lacks.MemberLaws.{member-lacks}
use Rattle.narrowest.proofs.meant.OnceLaws.{Once, once-each}
use Rattle.narrowest.proofs.rows.LeavesLaws.{Kinds}
use Rattle.narrowest.specs.code.Codes.{lack_atom}
use Rattle.narrowest.specs.code.Forms.{Held, entries_in, owned_by}
use Rattle.narrowest.specs.code.Lacks.{apart, lacks_of}
use Rattle.pairs.specs.Pairs.{excludes_in, one_of, other_of, pair_count, under}
use Rattle.sorting.specs.Sorted.{sorted}
use Rattle.std.specs.List.{flat_map}
use Rattle.unfolding.specs.code.Rows.{entry_of_row}

and-assoc : (x y z : Bool) → (x && (y && z)) ≡ ((x && y) && z)
and-assoc true y z = refl
and-assoc false y z = refl

-- the kinds of a table's entries
kinds-each : (es : List Entry) → ((p : ℕ) → p < length es → (1 ≤ (get_or es p zero_entry).kind) × ((get_or es p zero_entry).kind ≤ 6)) → Kinds es
kinds-each [] h = tt
kinds-each (e ∷ es) h = let k = h 0 (omega arith) in (k.0, k.1, kinds-each es (λ p l. h (suc p) (omega arith)))

pub kinds-held : {a : List ℕ} → Held a → Kinds (entries_in a)
unfolding nth
kinds-held {a} H = kinds-each (entries_in a) (λ p l. kind-range (entries_in a) H.legal (suc p) (omega arith) (omega arith))

-- a name that an entry of a table has is a word
pub name-small : (a : List ℕ) (j : ℕ) → 1 ≤ j → j ≤ length (entries_in a) → (nth (entries_in a) j).name < 65536
name-small a zero lo hi = absurd (omega arith)
name-small a (suc p) lo hi = rw (nth-row a p (omega (arith, length-map a entry_of_row))) (entry-small (get_or a p 0)).1

module _ (P : List ℕ) (words : (i : ℕ) → word_at P i < 65536) where
  -- so are the names of the list
  names-small : (n p : ℕ) → member p (names_from P n) ≡ true → p < 65536
  unfolding names_from member one_of other_of
  names-small zero p e = absurd (false≢true e)
  names-small (suc n) p e =
      or_cases (eqb p (one_of P (suc n))) (member p (once (other_of P (suc n)) (names_from P n)))
      (sym (member-once p (one_of P (suc n)) (once (other_of P (suc n)) (names_from P n))) ∙ e)
      (λ q. let w = words (4 * (suc n - 1)) in omega (arith, eqb-eq q))
      (λ q.
      or_cases (eqb p (other_of P (suc n))) (member p (names_from P n)) (sym (member-once p (other_of P (suc n)) (names_from P n)) ∙ q)
      (λ r. let w = words (4 * (suc n - 1) + 2) in omega (arith, eqb-eq r))
      (λ r. names-small n p r))

  -- and what some property excludes
  pub excluded-small : (p q : ℕ) → excludes_in P q p ≡ true → p < 65536
  unfolding names_in
  excluded-small p q e = names-small (pair_count P) p (excluded-named P p q e)

  module _ {a : List ℕ} (HA : Held a) (o : ℕ) (u : Place) where
    abbrev one : List Entry
    one = entries_in a

    abbrev t : Place
    t = place_of one o

    abbrev all : List ℕ
    all = flat_map (lacks_of P t u) (owned_by o one)

    -- what is noted is what both say, unless it is implied
    pub lack-member : (p : ℕ) → member p all ≡ ((supports (under P) t (atom lacks p 0) && supports (under P) u (atom lacks p 0)) && not (implied (under P) p t u))
    unfolding place_of
    lack-member p =
        member-lacks P (place_of one o) u p o 1 one (kinds-held HA)
        ∙ and-assoc (supports (under P) t (atom lacks p 0)) (supports (under P) u (atom lacks p 0)) (not (implied (under P) p t u))

    lack-small : (p : ℕ) → member p all ≡ true → p < 65536
    lack-small p e =
        let w : (found (find lacks p t) || excluded (under P) p t) ≡ true
        = and_left _ (supports (under P) u (atom lacks p 0)) (and_left _ (not (implied (under P) p t u)) (sym (lack-member p) ∙ e)) in
        or_cases (found (find lacks p t)) (excluded (under P) p t) w
        (λ q.
        let j = entry_for one o 2 p in
        eq-cases j 0
        (λ z. absurd (false≢true (rw (find_none one HA.legal o lacks p z) at q)))
        (λ z. let f = match-fields one o 2 p refl z in omega (arith, name-small a j (omega arith) (match-within one o 2 p), f.2)))
        (λ q. let x = excluder (under P) p t q in excluded-small p x.name x.against)

    -- those that are written
    pub lacks-once : Once all (apart 65536 (sorted all))
    lacks-once = once-each all lack-small

-- the atoms of lacks
pub lack-leaves : (ls : List ℕ) (r : Place) → ((p : ℕ) → member p ls ≡ true → p < 65536) → leaves (map lack_atom ls) r ≡ leaves_of lacks (bare ls) r
unfolding leaves leaves_of bare member
lack-leaves [] r h = refl
lack-leaves (p ∷ ls) r h =
    let e : p % 65536 ≡ p = omega (arith, h p (or_left (member p ls) (eqb-self p))) in
    rw e (ap (λ (z : Place). leaf (atom lacks p 0) z) (lack-leaves ls r (λ x m. h x (or_right (eqb x p) m))))
