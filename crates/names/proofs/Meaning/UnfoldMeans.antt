-- [D7] the unfolded description means the same.
-- Assumes nothing.
use Prim.Native.Nat.{ℕ}
use mathlib.Core.Bool.{Bool, ◌&&◌, and_assoc, true}
use mathlib.Core.List.{List, []}
use mathlib.Core.Path.{◌∙◌, ◌≡◌, ap, fun_ext, refl, sym}
use Rattle.base.proofs.Tests.{bool_cases}
use Rattle.blocks.specs.Entries.{is_named}
use Rattle.blocks.specs.declared.Entry.{Entry}
use Rattle.logic.specs.Place.{Place}
use Rattle.logic.specs.Record.{Record, each_linked, fits, meets}
use Rattle.logic.specs.Tree.{Tree, end, leaf, node, tree}
use Rattle.meaning.specs.Description.{place_of}
use Rattle.names.proofs.Dictionary.InTurn.{in-turn}
use Rattle.names.proofs.Entries.OwnersByNumber.{owners-of-numbers}
use Rattle.names.proofs.Meaning.JoinedTrees.{join}
use Rattle.names.proofs.Meaning.UnfoldTree.{graft, unfold-tree}
use Rattle.names.specs.NamedMeaning.{fits_by, fits_named, fits_nth, fits_place, named_place}
use Rattle.names.specs.Promise.{Each, OwnersOk, SameMeaning}
use Rattle.names.specs.Unfold.{contents, unfolded, unfolded_by}

-- an item fits entries in a row if it fits both parts
fits-join : (c : Record) (s t : Place) (x : ℕ) → fits c (join s t) x ≡ fits c s x && fits c t x
unfolding fits join
fits-join c end t x = refl
fits-join c (leaf a r) t x = rw (fits-join c r t x) (sym (and_assoc (meets c a x) (fits c r x) (fits c t x)))
fits-join c (node l s r) t x = rw (fits-join c r t x) (sym (and_assoc (each_linked c l x (λ y. fits c s y)) (fits c r x) (fits c t x)))

-- places put in: an item fits them exactly if it meets their names
pub graft-means : (c : Record) (P : ℕ → Place) (t : Tree Entry ℕ) (x : ℕ) → fits c (graft P t) x ≡ fits_place c (λ n y. fits c (P n) y) t x
unfolding fits graft fits_place
graft-means c P end x = refl
graft-means c P (leaf e r) x =
    bool_cases (is_named e)
    (λ q. rw (q, fits-join c (P e.name) (graft P r) x, graft-means c P r x))
    (λ q. rw (q, graft-means c P r x))
graft-means c P (node l s r) x =
    rw (graft-means c P r x)
    (ap (λ (p : ℕ → Bool). each_linked c l x p && fits_place c (λ n y. fits c (P n) y) r x) (fun_ext (λ y. graft-means c P s y)))

-- a description unfolded by contents, and its meaning by the items that fit them
pub unfold-fits : (c : Record) (T : ℕ → List Entry) (D : ℕ → ℕ → Bool) (es : List Entry) → OwnersOk es
    → ((n : ℕ) → (λ y. fits c (place_of (T n) 0) y) ≡ D n) → (λ y. fits c (place_of (unfolded T es) 0) y) ≡ fits_by c D es
unfold-fits c T D es w h =
    fun_ext (λ x.
    rw (unfold-tree T es (owners-of-numbers es w)) (graft-means c (λ n. place_of (T n) 0) (named_place es 0) x)
    ∙ ap (λ (f : ℕ → ℕ → Bool). fits_place c f (named_place es 0) x) (fun_ext h))

-- the contents of each description of a dictionary have its meaning
pub contents-means : (c : Record) (K : List (List Entry)) → Each (λ k d. OwnersOk d) K
    → (n : ℕ) → (λ y. fits c (place_of (contents K n) 0) y) ≡ fits_nth c K n
unfolding contents fits_nth
contents-means c K w =
    in-turn (λ es p. (λ y. fits c (place_of es 0) y) ≡ p) (λ k d. OwnersOk d) unfolded (fits_by c)
    (λ k T D d o h. unfold-fits c T D d o h) 0 (λ n. []) (λ n x. true) K w (λ n. unfold place_of fits tree in refl)

-- [D7] a plain description of the same meaning
pub unfold-means : (K : List (List Entry)) (es : List Entry) → Each (λ k d. OwnersOk d) K → OwnersOk es → SameMeaning K es
unfolding unfolded_by fits_named
unfold-means K es each own c x =
    ap (λ (p : ℕ → Bool). p x) (unfold-fits c (contents K) (fits_nth c K) es own (contents-means c K each))
