-- Laws of descriptions that are opened: what their entries are there, and what they give.
-- Assumes nothing.
use Prim.Native.Nat.{◌+◌, ◌-◌, ◌<◌, ◌≤◌, suc, zero, ℕ}
use lib.ListN.{drop, get_or, length, length-append, length-drop, length-map, set, take}
use lib.Seq.{drop-append_seam, get_or-set_same, length-take-le, take-append_seam, take-set-lt}
use mathlib.Core.Bool.{false, true}
use mathlib.Core.List.{List, [], ◌++◌, ◌∷◌, append_assoc, map}
use mathlib.Core.Path.{◌∙◌, ◌≡◌, ap, refl, subst, sym}
use native.Mathlib.Omega.{arith}
use Rattle.base.proofs.Lists.{get_d-map-in, listed}
use Rattle.base.proofs.Tests.{eq-cases}
use Rattle.std.proofs.lemmas.List.{get_or-drop, get_or-take, take-set-le}
use Rattle.std.specs.List.{list_any}
use Rattle.blocks.specs.Entries.{is_named, nth, zero_entry}
use Rattle.blocks.specs.declared.Entry.{Entry}
use Rattle.names.proofs.Dictionary.InTurn.{in-turn}
use Rattle.names.proofs.InPasses.MovedUnfolding.{unfold-in}
use Rattle.names.proofs.InPasses.PassStages.{inside-stage, stage-room, zero-empty}
use Rattle.names.proofs.Legality.UnfoldOwners.{unfold-owners-ok}
use Rattle.names.proofs.Measured.UnfoldSize.{contents-size}
use Rattle.names.specs.Measures.{size_nth}
use Rattle.names.specs.Promise.{Each, LegalNamed, OwnersOk}
use Rattle.names.specs.Unfold.{contents, owned_by, relocate, shifted, unfold_from, unfolded, unfolded_by}
use Rattle.names.specs.code.Passes.{Stage, inside}
use Rattle.unfolding.proofs.ReplaceLaws.{bound-set, entry-owner, entry_next, owners-within, pass-entry, pass-name, room-opened, stands-again, stands-owners, stands-put, stood-more, unfold-at}
use Rattle.unfolding.proofs.PassLaws.{stage-over}
use Rattle.unfolding.proofs.RowLaws.{any-moved, greatest-bounds, greatest-least, greatest-moved, take-twice}
use Rattle.unfolding.specs.code.Replacing.{Laid, Opened, Passing, Same, StandsAt, again, pending}
use Rattle.unfolding.specs.code.Rows.{greatest_name}
use Rattle.unfolding.specs.declared.contents.Opening.{Opening}

-- the owners of what a name stands for are allowed
pub contents-owners : (K : List (List Entry)) → Each LegalNamed K → (n : ℕ) → OwnersOk (contents K n)
unfolding contents
contents-owners K each =
    in-turn (λ (d d' : List Entry). OwnersOk d) LegalNamed unfolded unfolded (λ k s t d N h. unfold-owners-ok s h d N.owner) 0 (λ n. []) (λ n. []) K each
    (λ n i lo hi. absurd (omega arith))

-- fewer first numbers are as before, too
pub take-less : (k j : ℕ) (a b : List ℕ) → k ≤ j → take j a ≡ take j b → take k a ≡ take k b
take-less k j a b h e = sym (take-twice k j a h) ∙ ap (λ (l : List ℕ). take k l) e ∙ take-twice k j b h

shifted-by : (f q : ℕ) → shifted f f q ≡ f + q
shifted-by f zero = omega arith
shifted-by f (suc q) = refl

-- ---- a description that is opened, behind others

module _ {K : List (List Entry)} {whole xs : List Entry} {r : ℕ} (G : Stage K whole r xs) (few : r ≤ length K) (base : List Entry) {f : ℕ} (at : f ≡ length base)
    {es : List Entry} (is : es ≡ base ++ map (relocate f f) xs) where
  pub opened-long : length es ≡ f + length xs
  opened-long = omega (arith, ap length is, length-append base (map (relocate f f) xs), length-map xs (relocate f f), at)

  -- its entries
  opened-left : drop f es ≡ map (relocate f f) xs
  opened-left =
      ap (λ (l : List Entry). drop f l) is ∙ ap (λ (k : ℕ). drop k (base ++ map (relocate f f) xs)) at
      ∙ drop-append_seam base (map (relocate f f) xs)

  opened-entry : (i : ℕ) → f ≤ i → i < length es → get_or es i zero_entry ≡ relocate f f (get_or xs (i - f) zero_entry)
  opened-entry i lo hi =
      let s : i ≡ f + (i - f) = omega arith in
      ap (λ (k : ℕ). get_or es k zero_entry) s ∙ sym (get_or-drop f es (i - f) zero_entry)
      ∙ ap (λ (l : List Entry). get_or l (i - f) zero_entry) opened-left
      ∙ get_d-map-in (relocate f f) xs zero_entry zero_entry (i - f) (omega (arith, opened-long))

  -- a name that is left is one of a description
  some_name : (j : ℕ) → 1 ≤ size_nth K j → 1 ≤ j
  some_name j h = eq-cases j 0 (λ z. absurd (omega (arith, subst (λ (x : ℕ). 1 ≤ size_nth K x) z h, zero-empty K))) (λ z. omega arith)

  pub opened-is : Opened K f es
  unfolding nth
  opened-is =
      record {
        within = omega (arith, opened-long);
        names = λ i lo hi q.
            let e = opened-entry i lo hi in
            let x : Entry = get_or xs (i - f) zero_entry in
            let named : is_named x ≡ true = sym (ap is_named e) ∙ q in
            let l : (1 ≤ size_nth K x.name) × (x.name ≤ r) = G.left (suc (i - f)) (omega arith) (omega (arith, opened-long)) named in
            rw e (some_name x.name l.0, (omega (arith, l.1, few), l.0));
        owners = λ i lo hi.
            let e = opened-entry i lo hi in
            let s : i - f + 1 ≡ suc (i - f) = omega arith in
            let o = entry-owner xs (i - f) {e = nth xs (suc (i - f))} (omega (arith, opened-long)) (ap (nth xs) (sym s)) G.owner in
            rw e (omega (arith, o, shifted-by f (get_or xs (i - f) zero_entry).owner));
      }

  -- they name those up to r
  pub opened-greatest : greatest_name (drop f es) ≤ r
  opened-greatest = omega (arith, ap greatest_name opened-left, greatest-moved f f xs, greatest-least xs r (λ n lo hi q. (G.left n lo hi q).1))

  -- and give what the description stands for, at the place of o
  pub opened-gives : (number : List ℕ) (o : ℕ) (out : List Entry) → get_or number f 0 ≡ o
      → pending (contents K) es number f out ≡ out ++ map (relocate (length out) o) whole
  unfolding unfolded_by
  opened-gives number o out z =
      let m = length out in
      let T = contents K in
      let one : suc f ≡ f + 1 = omega arith in
      ap (λ (l : List Entry). out ++ l)
      (ap (λ (l : List Entry). unfold_from T (λ j. get_or number j 0) (suc f) m l) opened-left
      ∙ ap (λ (k : ℕ). unfold_from T (λ j. get_or number j 0) k m (map (relocate f f) xs)) one
      ∙ unfold-in T f f (omega arith) (λ j. get_or number j 0) 1 m (omega arith) xs
      ∙ unfold-at T (λ j. get_or number (shifted f f j) 0) m o xs z G.owner
      ∙ ap (map (relocate m o)) G.same)

-- ---- going over what is open

-- i entries are passed, since the first ones, and those after them give what all of them give
pub record Going (K : List (List Entry)) (first : ℕ) (start : Opening) (before whole : List Entry) (i : ℕ) (d : Opening) (out : List Entry) : Type 0 where
  pub passing : Passing (contents K) start.opened whole (take (length start.opened + 1) d.number) i out
  pub laid : Laid K d out
  pub same : Same (first + 1) start d
  pub grown : length before + i ≤ length out + first

module _ {K : List (List Entry)} {first : ℕ} {start : Opening} {before whole : List Entry} {i : ℕ} {d : Opening} {out : List Entry}
    (P : Going K first start before whole i d out) (O : Opened K first start.opened) (lo : first ≤ i) (hi : i < length start.opened)
    {e : Entry} (is : e ≡ get_or d.opened i zero_entry) where
  -- the entry is the next
  going-entry-is : e ≡ get_or start.opened i zero_entry
  going-entry-is = is ∙ ap (λ (es : List Entry). get_or es i zero_entry) P.same.opened

  pub going-here : e ≡ nth start.opened (i + 1)
  unfolding nth
  going-here = let s : i + 1 ≡ suc i = omega arith in rw s going-entry-is

  pub going-next : drop i start.opened ≡ e ∷ drop (suc i) start.opened
  going-next = entry_next start.opened i hi going-here

  pub going-owner : e.owner ≤ i
  going-owner = omega (arith, ap (λ (x : Entry). x.owner) going-entry-is, O.owners i lo hi)

  pub going-name : is_named e ≡ true → (1 ≤ e.name) × ((e.name ≤ length K) × (1 ≤ size_nth K e.name))
  going-name q = rw going-entry-is (O.names i lo hi (sym (ap is_named going-entry-is) ∙ q))

  -- a name has room, in the output and among those that are open
  going-some : (j : ℕ) → i ≤ j → j < length start.opened → is_named (get_or start.opened j zero_entry) ≡ true
      → 1 ≤ length (contents K (get_or start.opened j zero_entry).name)
  going-some j a b q = omega (arith, (O.names j (omega arith) b q).1.1, contents-size K (get_or start.opened j zero_entry).name)

  pub going-room : is_named e ≡ true → length out + length (contents K e.name) + (length start.opened - (i + 1)) ≤ length whole
  going-room q = room-opened P.passing going-next q going-some

  pub going-greatest : is_named e ≡ true → e.name ≤ greatest_name (drop first start.opened)
  unfolding nth
  going-greatest q =
      let s : first + (i - first) ≡ i = omega arith in
      let x : get_or (drop first start.opened) (i - first) zero_entry ≡ e =
      get_or-drop first start.opened (i - first) zero_entry ∙ ap (λ (k : ℕ). get_or start.opened k zero_entry) s ∙ sym going-entry-is in
      let b = greatest-bounds (drop first start.opened) (suc (i - first)) (omega arith) (omega (arith, length-drop first start.opened)) (ap is_named x ∙ q) in
      omega (arith, b, ap (λ (y : Entry). y.name) x)

  -- one entry more, a name
  pub going-past : {d' : Opening} {put : List Entry} → is_named e ≡ true → put ≡ out ++ map (relocate (length out) (get_or (take (length start.opened + 1) d.number) e.owner 0)) (contents K e.name)
      → Laid K d' put → Same (length d.opened + 1) d d' → Going K first start before whole (i + 1) d' put
  going-past {d'} {put} q x L S =
      let n : length d.opened + 1 ≡ length start.opened + 1 = ap (λ (es : List Entry). length es + 1) P.same.opened in
      let t : take (length start.opened + 1) d'.number ≡ take (length start.opened + 1) d.number = rw n at S.number in
      let some = (going-name q).1.1 in
      record {
        passing = rw t (pass-name P.passing going-next {xs = map (relocate (length out) (get_or (take (length start.opened + 1) d.number) e.owner 0)) (contents K e.name)} q refl x);
        laid = L;
        same = record {
          opened = S.opened ∙ P.same.opened;
          number = take-less (first + 1) (length start.opened + 1) d'.number d.number (omega arith) t ∙ P.same.number;
        };
        grown = omega (
          arith,
          P.grown,
          some,
          contents-size K e.name,
          ap length x,
          length-append out (map (relocate (length out) (get_or (take (length start.opened + 1) d.number) e.owner 0)) (contents K e.name)),
          length-map (contents K e.name) (relocate (length out) (get_or (take (length start.opened + 1) d.number) e.owner 0)),
        );
      }

  -- or any other
  pub going-on : {d' : Opening} {r : Entry} {put : List Entry} {v : ℕ} → is_named e ≡ false → length d.number ≡ 1137 → length start.opened ≤ 1136
      → r ≡ owned_by (get_or (take (length start.opened + 1) d.number) e.owner 0) e → put ≡ out ++ (r ∷ []) → v ≡ length put
      → d'.opened ≡ d.opened → d'.number ≡ set d.number (i + 1) v → d'.stood ≡ d.stood → Going K first start before whole (i + 1) d' put
  going-on {d'} {r} {put} {v} q long few x y z o n p =
      let t : take (length start.opened + 1) d'.number ≡ set (take (length start.opened + 1) d.number) (i + 1) v =
      ap (λ (l : List ℕ). take (length start.opened + 1) l) n ∙ take-set-lt (length start.opened + 1) d.number (i + 1) v (omega arith) in
      let more = length-append out (r ∷ []) in
      record {
        passing = rw t (pass-entry P.passing going-next q (omega (arith, length-take-le (length start.opened + 1) d.number (omega arith))) x y z);
        laid = record {
          stood = rw p (stood-more P.laid.stood (r ∷ []) y);
          bound = rw n (bound-set d.number (i + 1) v (omega arith) P.laid.bound (omega (arith, ap length y, more)) (omega (arith, z)));
        };
        same = record {
          opened = o ∙ P.same.opened;
          number = ap (λ (l : List ℕ). take (first + 1) l) n ∙ take-set-le (first + 1) d.number (i + 1) v (omega arith) ∙ P.same.number;
        };
        grown = omega (arith, P.grown, ap length y, more);
      }

-- ---- a name that comes first

module _ (K : List (List Entry)) (each : Each LegalNamed K) (n : ℕ) (lo : 1 ≤ n) (hi : n ≤ length K) where
  -- what its description has is no more than what it stands for
  pub inside-few : length (inside K n) ≤ length (contents K n)
  inside-few = stage-room K (contents K n) (n - 1) (inside K n) (inside-stage K each n)

  module _ (o : ℕ) (out : List Entry) (l : o ≤ length out) {put : List Entry} (is : put ≡ out ++ map (relocate (length out) o) (inside K n))
      {m : ℕ} (at : m ≡ length out) where
    pub put-long : length put ≡ m + length (inside K n)
    put-long = omega (arith, at, ap length is, length-append out (map (relocate (length out) o) (inside K n)), length-map (inside K n) (relocate (length out) o))

    put-left : drop m put ≡ map (relocate (length out) o) (inside K n)
    put-left =
        ap (λ (es : List Entry). drop m es) is ∙ ap (λ (k : ℕ). drop k (out ++ map (relocate (length out) o) (inside K n))) at
        ∙ drop-append_seam out (map (relocate (length out) o) (inside K n))

    -- where it has no names, that is all
    pub put-plain : list_any is_named (drop m put) ≡ false → inside K n ≡ contents K n
    put-plain h =
        stage-over (inside-stage K each n) (sym (ap (list_any is_named) put-left ∙ any-moved (length out) o (inside K n)) ∙ h)

    -- else it is taken away again
    put-stands : StandsAt (inside K n) m (length put - m) put
    put-stands = stands-put (inside K n) out o l is at refl

    pub put-owners : (j : ℕ) → j < length put - m → (get_or put (m + j) zero_entry).owner ≤ length put
    put-owners j b = omega (arith, put-long, stands-owners put-stands (owners-within (inside K n) (inside-stage K each n).owner) j b)

    pub put-back : take m put ≡ out
    put-back =
        ap (λ (es : List Entry). take m es) is ∙ ap (λ (k : ℕ). take k (out ++ map (relocate (length out) o) (inside K n))) at
        ∙ take-append_seam out (map (relocate (length out) o) (inside K n))

    -- and put behind what is open, and the name
    module _ (base : List Entry) {k : ℕ} (end : k ≡ length base) (e : Entry) {pushed aside : List Entry} (behind : pushed ≡ base ++ (e ∷ []))
        (taken : aside ≡ pushed ++ listed (λ i. again m (length pushed) (length pushed) (get_or put i zero_entry)) m (length put - m)) where
      aside-at : k + 1 ≡ length pushed
      aside-at = omega (arith, end, ap length behind, length-append base (e ∷ []))

      aside-is : aside ≡ pushed ++ map (relocate (k + 1) (k + 1)) (inside K n)
      aside-is =
          taken ∙ ap (λ (es : List Entry). pushed ++ es) (stands-again put-stands (length pushed) (length pushed))
          ∙ ap (λ (j : ℕ). pushed ++ map (relocate j j) (inside K n)) (sym aside-at)

      pub aside-long : length aside ≡ k + 1 + length (inside K n)
      aside-long = opened-long (inside-stage K each n) (omega arith) pushed aside-at aside-is

      pub aside-opened : Opened K (k + 1) aside
      aside-opened = opened-is (inside-stage K each n) (omega arith) pushed aside-at aside-is

      pub aside-greatest : greatest_name (drop (k + 1) aside) ≤ n - 1
      aside-greatest = opened-greatest (inside-stage K each n) (omega arith) pushed aside-at aside-is

      -- o is the number of the name
      pub aside-gives : (number : List ℕ) → k + 1 < length number → {back : List Entry} → back ≡ out
          → pending (contents K) aside (take (length aside + 1) (set number (k + 1) o)) (k + 1) back ≡ out ++ map (relocate (length out) o) (contents K n)
      aside-gives number b e =
          rw e (opened-gives (inside-stage K each n) (omega arith) pushed aside-at aside-is (take (length aside + 1) (set number (k + 1) o)) o out
          (get_or-take (length aside + 1) (set number (k + 1) o) (k + 1) 0 (omega (arith, aside-long)) ∙ get_or-set_same number (k + 1) o 0 b))

      pub aside-back : take k aside ≡ base
      aside-back =
          ap (λ (es : List Entry). take k es)
          (aside-is ∙ ap (λ (es : List Entry). es ++ map (relocate (k + 1) (k + 1)) (inside K n)) behind ∙ append_assoc base (e ∷ []) (map (relocate (k + 1) (k + 1)) (inside K n)))
          ∙ ap (λ (j : ℕ). take j (base ++ ((e ∷ []) ++ map (relocate (k + 1) (k + 1)) (inside K n)))) end
          ∙ take-append_seam base ((e ∷ []) ++ map (relocate (k + 1) (k + 1)) (inside K n))
