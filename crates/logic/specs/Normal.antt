-- The normal form of a place, for the records that keep a background.
-- Assumes nothing.
use Rattle.std.specs.Prelude.{ℕ, eqb, leb, ltb, Bool, ◌&&◌, ◌||◌, cond, false, true}
use Rattle.std.proofs.Math.Option.{Option, none, some}
use Rattle.logic.specs.Background.{Background}
use Rattle.logic.specs.Place.{Atom, Kind, Place, atom, has, lacks, least, most, nothing}
use Rattle.logic.specs.Tree.{end, leaf, node}

-- ---- the order of entries

-- [E11] entries ascend by owner, then kind, then name: the kind's number. An 'every' has 5.
abbrev pub rank : Kind → ℕ
rank has = 1
rank lacks = 2
rank least = 3
rank most = 4
rank nothing = 6

-- kind k and name n stand before kind k' and name n'
abbrev pub before : ℕ → ℕ → ℕ → ℕ → Bool
before k n k' n' = ltb k k' || (eqb k k' && ltb n n')

-- two entries are of one kind and name
abbrev pub same : Kind → ℕ → Kind → ℕ → Bool
same k n k' n' = eqb (rank k) (rank k') && eqb n n'

-- ---- looking up

-- the number of the first entry of kind k and name n
unfoldable pub find : Kind → ℕ → Place → Option ℕ
find k n end = none
find k n (leaf (atom k' n' m) r) = cond (same k n k' n') (some m) (find k n r)
find k n (node l s r) = find k n r

-- what the first 'every' of link l owns; the empty place if there is none
unfoldable pub sub : ℕ → Place → Place
sub l end = end
sub l (leaf a r) = sub l r
sub l (node l' s r) = cond (eqb l l') s (sub l r)

-- [S10] some property that excludes p is listed
unfoldable pub excluded : Background → ℕ → Place → Bool
excluded b p end = false
excluded b p (leaf (atom k q m) r) = (eqb (rank has) (rank k) && b.excludes q p) || excluded b p r
excluded b p (node l s r) = excluded b p r

-- the place is bottom: its first entry is of kind 6, 'nothing fits'
unfoldable pub is_bottom : Place → Bool
is_bottom end = false
is_bottom (leaf (atom k n m) r) = eqb (rank nothing) (rank k)
is_bottom (node l s r) = false

-- [N9] an 'every' that owns nothing: the place is empty
abbrev pub is_end : Place → Bool
is_end end = true
is_end (leaf a r) = false
is_end (node l s r) = false

-- ---- what a place says of an atom

-- there is a number
abbrev pub found : Option ℕ → Bool
found none = false
found (some q) = true

-- [C4] at least n is supported by as much or more, at least 0 by all
abbrev pub enough : ℕ → Option ℕ → Bool
enough m none = eqb m 0
enough m (some q) = leb m q

-- [C4] at most n is supported by as little or less
abbrev pub at_most : ℕ → Option ℕ → Bool
at_most m none = false
at_most m (some q) = leb q m

-- the number is above m
abbrev pub over : ℕ → Option ℕ → Bool
over m none = false
over m (some q) = ltb m q

-- the number is below m
abbrev pub under : ℕ → Option ℕ → Bool
under m none = false
under m (some q) = ltb q m

-- [C4] The place supports the atom: it lists it, or what says more. A property that is listed says the lack of those
-- that it excludes, and a cap says an at most [S3].
abbrev pub supports : Background → Place → Atom → Bool
supports b t (atom has p m) = found (find has p t)
supports b t (atom lacks p m) = found (find lacks p t) || excluded b p t
supports b t (atom least l m) = enough m (find least l t)
supports b t (atom most l m) = at_most m (find most l t) || at_most m (b.cap l)
supports b t (atom nothing n m) = false

-- The place rules the atom out: [N2] has and lacks, or nothing fits, [N3] more is asked than allowed.
abbrev pub clash : Background → Place → Atom → Bool
clash b t (atom has p m) = found (find lacks p t) || excluded b p t
clash b t (atom lacks p m) = found (find has p t)
clash b t (atom least l m) = under m (find most l t) || under m (b.cap l)
clash b t (atom most l m) = over m (find least l t)
clash b t (atom nothing n m) = true

-- ---- putting in and taking out

-- a place without its first entry of kind k and name n
unfoldable pub remove : Kind → ℕ → Place → Place
remove k n end = end
remove k n (leaf (atom k' n' m) r) = cond (same k n k' n') r (leaf (atom k' n' m) (remove k n r))
remove k n (node l s r) = node l s (remove k n r)

-- an atom put before the first entry that it stands before
unfoldable pub put : Kind → ℕ → ℕ → Place → Place
put k n m end = leaf (atom k n m) end
put k n m (leaf (atom k' n' m') r) =
    cond (before (rank k) n (rank k') n') (leaf (atom k n m) (leaf (atom k' n' m') r)) (leaf (atom k' n' m') (put k n m r))
put k n m (node l s r) = cond (before (rank k) n 5 l) (leaf (atom k n m) (node l s r)) (node l s (put k n m r))

-- a place without its first 'every' of link l
unfoldable pub remove_every : ℕ → Place → Place
remove_every l end = end
remove_every l (leaf a r) = leaf a (remove_every l r)
remove_every l (node l' s r) = cond (eqb l l') r (node l' s (remove_every l r))

-- an 'every' put before the first entry that it stands before
unfoldable pub put_every : ℕ → Place → Place → Place
put_every l s end = node l s end
put_every l s (leaf (atom k n m) r) = cond (before 5 l (rank k) n) (node l s (leaf (atom k n m) r)) (leaf (atom k n m) (put_every l s r))
put_every l s (node l' s' r) = cond (before 5 l 5 l') (node l s (node l' s' r)) (node l' s' (put_every l s r))

-- a place without the lacks that property p implies
unfoldable pub remove_lacks : Background → ℕ → Place → Place
remove_lacks b p end = end
remove_lacks b p (leaf (atom k q m) r) =
    cond (eqb (rank lacks) (rank k) && b.excludes p q) (remove_lacks b p r) (leaf (atom k q m) (remove_lacks b p r))
remove_lacks b p (node l s r) = node l s (remove_lacks b p r)

-- ---- adding

-- [N5] one entry of kind 6
abbrev pub bottom : Place
bottom = leaf (atom nothing 0 0) end

-- a place without what an atom makes idle: [N4] at most 0 removes the 'every' of its link; a property, the lacks that
-- it implies
abbrev pub clear : Background → Atom → Place → Place
clear b (atom has p m) t = remove_lacks b p t
clear b (atom lacks p m) t = t
clear b (atom least l m) t = t
clear b (atom most l m) t = cond (eqb m 0) (remove_every l t) t
clear b (atom nothing n m) t = t

-- the number that an atom is listed with: a property has none
abbrev pub stored : Kind → ℕ → ℕ
stored has m = 0
stored lacks m = 0
stored least m = m
stored most m = m
stored nothing m = 0

-- An atom added: [N6] the smallest at most stays, [N7] the largest at least stays, [N8] at least 0 goes. What is
-- listed and not supporting is weaker.
unfoldable pub insert : Background → Atom → Place → Place
insert b (atom k n m) t =
    cond (is_bottom t || supports b t (atom k n m)) t
    (cond (clash b t (atom k n m)) bottom (put k n (stored k m) (remove k n (clear b (atom k n m) t))))

-- The 'every' of link l now owns s: an impossible place goes with all below, and leaves at most 0 of its link [N2];
-- [N9] an 'every' that owns nothing goes.
unfoldable pub fill : Background → ℕ → Place → Place → Place
fill b l s t = cond (is_bottom s) (insert b (atom most l 0) t) (cond (is_end s) t (put_every l s (remove_every l t)))

-- what f adds, added under link l: [N1] 'every' entries of one owner and link merge
unfoldable pub within : Background → ℕ → (Place → Place) → Place → Place
within b l f t = cond (is_bottom t || supports b t (atom most l 0)) t (fill b l (f (sub l t)) t)

-- the normal place t with the entries of a place added
unfoldable pub add : Background → Place → Place → Place
add b end t = t
add b (leaf a r) t = insert b a (add b r t)
add b (node l s r) t = within b l (λ u. add b s u) (add b r t)

-- [N13] the normal form of a place
unfoldable pub nf : Background → Place → Place
nf b d = add b d end
