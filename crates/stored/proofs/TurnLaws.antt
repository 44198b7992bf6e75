-- A turn of the walk over a place: one entry's row, the rows of what it owns, and what is then left.
-- Assumes nothing.
use Rattle.std.proofs.Common.{◌≡◌, ◌≢◌, ℕ, zero, suc, ◌+◌, ◌<◌, ◌≤◌, List, [], ◌∷◌, ◌++◌, map, length, set, Option, refl, sym, ap, ◌∙◌, length-append, arith}
use lib.ListN.{length-map}
use Rattle.base.proofs.Tests.{eq-cases, eq-eqb}
use Rattle.base.specs.Keys.{unless_zero}
use Rattle.base.specs.Stores.{stored}
use Rattle.blocks.specs.Entries.{nth}
use Rattle.blocks.specs.Owners.{chain, depth_of, owner_of}
use Rattle.blocks.specs.Promise.{Legal}
use Rattle.blocks.specs.declared.Entry.{Entry}
use Rattle.blocks.specs.declared.Schema.TheVariants.{Description}
use Rattle.logic.specs.Size.{measure, nodes}
use Rattle.logic.specs.Tree.{Tree, leaf, node}
use Rattle.meaning.proofs.Descriptions.PlaceSize.{depth-most, depth-owned}
use Rattle.places.specs.Owned.{next_of}
use Rattle.stored.proofs.WalkCount.{length-walked, nodes-all}
use Rattle.stored.proofs.WalkLaws.{left_from, packed-leaf, packed-node, packed_left, part, part-leaf, part-node, stored-both, stored-first, then-left}
use Rattle.stored.specs.Stored.{stored_packed}
use Rattle.stored.specs.Walked.{Mark, at_depth, bare, entries_under, mark_stored, walk_of, walked}
use Rattle.stored.specs.code.Steps.{DeepAt, mark_packed, packed_walk}

-- the entries of the top have depth 0, those of an 'every' one more than it
pub deep-top : (es : List Entry) → DeepAt es 0 0
unfolding depth_of chain
deep-top es zero lo hi z = absurd (omega arith)
deep-top es (suc m) lo hi z = rw (depth_of, chain, eq-eqb z) refl

module _ (es : List Entry) (L : Legal Description es) where
  pub deep-under : (o d n : ℕ) → DeepAt es o d → 1 ≤ n → n ≤ length es → owner_of es n ≡ o → (d ≤ 32) × DeepAt es n (d + 1)
  deep-under o d n D lo hi z =
      let here = D n lo hi z in
      (omega (arith, here, depth-most es L n lo hi), λ m a b q. omega (arith, here, depth-owned es L m n lo a b q))

  module _ (o d n : ℕ) (lo : 1 ≤ n) (hi : n ≤ length es) (own : owner_of es n ≡ o) {r : Option ℕ} (after : r ≡ unless_zero (next_of es n))
      {x : ℕ} (row : x ≡ stored_packed (at_depth d (nth es n))) where
    abbrev rest : Tree Entry Entry
    rest = left_from es o r

    leaf-turn : (nth es n).kind ≢ 5 → part es o n ≡ leaf (bare (nth es n)) rest
    leaf-turn k = part-leaf es o n hi own k ∙ ap (leaf (bare (nth es n))) (then-left es o n lo hi own after).0

    node-turn : (nth es n).kind ≡ 5 → part es o n ≡ node (bare (nth es n)) (entries_under es n) rest
    node-turn k = part-node es L o n lo hi own k ∙ ap (node (bare (nth es n)) (entries_under es n)) (then-left es o n lo hi own after).0

    -- fewer entries are left
    pub leaf-fewer : (nth es n).kind ≢ 5 → nodes rest < nodes (part es o n)
    unfolding measure
    leaf-fewer k = rw (leaf-turn k) (omega arith)

    pub node-fewer : (nth es n).kind ≡ 5 → nodes rest < nodes (part es o n)
    unfolding measure
    node-fewer k = rw (node-turn k) (omega arith)

    leaf-left : (nth es n).kind ≢ 5 → packed_left d (part es o n) ≡ x ∷ packed_left d rest
    leaf-left k = ap (packed_left d) (leaf-turn k) ∙ packed-leaf d (bare (nth es n)) rest ∙ ap (λ (y : ℕ). y ∷ packed_left d rest) (sym row)

    node-left : (nth es n).kind ≡ 5 → packed_left d (part es o n) ≡ x ∷ (packed_walk es n (d + 1) ++ packed_left d rest)
    node-left k =
        let e : d + 1 ≡ suc d = omega arith in
        ap (packed_left d) (node-turn k) ∙ packed-node d (bare (nth es n)) (entries_under es n) rest
        ∙ rw (e, row) refl

    -- the rows of what is left, stored behind the entry's own, and behind those of what it owns
    pub some-left : 1 ≤ length (packed_left d (part es o n))
    some-left =
        eq-cases (nth es n).kind 5
        (λ k. rw (node-left k) (omega arith))
        (λ k. rw (leaf-left k) (omega arith))

    module _ (rows : List ℕ) (end : ℕ) where
      pub leaf-length : (nth es n).kind ≢ 5 → end + 1 + length (packed_left d rest) ≡ end + length (packed_left d (part es o n))
      leaf-length k = omega (arith, ap length (leaf-left k))

      pub leaf-rows : (nth es n).kind ≢ 5 → stored (set rows end x) (end + 1) (packed_left d rest) ≡ stored rows end (packed_left d (part es o n))
      leaf-rows k = stored-first rows end x (packed_left d rest) ∙ ap (stored rows end) (sym (leaf-left k))

      pub node-length : (nth es n).kind ≡ 5
          → end + 1 + length (packed_walk es n (d + 1)) + length (packed_left d rest) ≡ end + length (packed_left d (part es o n))
      node-length k = omega (arith, ap length (node-left k), length-append (packed_walk es n (d + 1)) (packed_left d rest))

      pub node-rows : (nth es n).kind ≡ 5
          → stored (stored (set rows end x) (end + 1) (packed_walk es n (d + 1))) (end + 1 + length (packed_walk es n (d + 1))) (packed_left d rest)
          ≡ stored rows end (packed_left d (part es o n))
      node-rows k =
          stored-both (set rows end x) (end + 1) (packed_walk es n (d + 1)) (packed_left d rest)
          ∙ stored-first rows end x (packed_walk es n (d + 1) ++ packed_left d rest) ∙ ap (stored rows end) (sym (node-left k))

  -- all entries have rows
  pub length-rows : length (packed_walk es 0 0) ≡ length es
  length-rows = length-map (walked 0 (entries_under es 0)) mark_packed ∙ length-walked 0 (entries_under es 0) ∙ nodes-all es L

-- and these are those of the entries in walking order
pub walk-rows : (es : List Entry) → packed_walk es 0 0 ≡ map stored_packed (walk_of es)
unfolding walk_of
walk-rows es = each (walked 0 (entries_under es 0))
  where
    each : (ms : List (Mark Entry Entry)) → map mark_packed ms ≡ map stored_packed (map mark_stored ms)
    each [] = refl
    each (m ∷ ms) = rw (each ms) refl
