-- For each of the twelve rules of the normal form a small list of entries that it applies to: rule 11, and the part of rule 2 that speaks of
-- exclusions, where two properties exclude each other; all others under the standing rule alone.
-- Assumes nothing.
use Prim.Native.Nat.{◌≤◌, ℕ}
use lib.Dec.{eqb}
use mathlib.Core.Bool.{◌&&◌, ◌||◌}
use mathlib.Core.List.{List, [], ◌∷◌}
use mathlib.Core.Logic.{◌≢◌, inl, inr}
use mathlib.Core.Path.{◌≡◌, refl}
use native.Mathlib.Omega.{arith}
use Rattle.blocks.specs.Entries.{nth}
use Rattle.blocks.specs.declared.Entry.{Entry}
use Rattle.logic.specs.Background.{Background, standing}
use Rattle.meaning.proofs.NormalForms.RulesLaws.{six-no-rule}
use Rattle.meaning.specs.Rules.{Applies, Is, IsEvery, Twice, rule-1, rule-10, rule-11, rule-12, rule-2, rule-3, rule-4, rule-5, rule-6, rule-7, rule-8, rule-9}

-- an entry of a kind, an owner, a name and a number
abbrev entry : ℕ → ℕ → ℕ → ℕ → Entry
entry k o l m = record { kind = k; reserved = 0; owner = o; name = l; number = m }

-- entries 1, 2 and 3 of a list
first : (a : Entry) (es : List Entry) → Is (a ∷ es) 1 a.kind a.owner a.name a.number
unfolding nth
first a es =
    record { from_one = omega arith; to_last = omega arith; its-kind = refl; its-owner = refl; its-name = refl; its-number = refl }

second : (a b : Entry) (es : List Entry) → Is (a ∷ b ∷ es) 2 b.kind b.owner b.name b.number
unfolding nth
second a b es =
    record { from_one = omega arith; to_last = omega arith; its-kind = refl; its-owner = refl; its-name = refl; its-number = refl }

third : (a b c : Entry) (es : List Entry) → Is (a ∷ b ∷ c ∷ es) 3 c.kind c.owner c.name c.number
unfolding nth
third a b c es =
    record { from_one = omega arith; to_last = omega arith; its-kind = refl; its-owner = refl; its-name = refl; its-number = refl }

-- 1 is not 2
one-two : ◌≢◌ {A = ℕ} 1 2
one-two e = omega arith

-- two entries of one kind, owner and name
twice : (k o l m m' : ℕ) → Twice (entry k o l m ∷ entry k o l m' ∷ []) k
twice k o l m m' =
    record {
      one = 1;
      other = 2;
      owner = o;
      name = l;
      number = m;
      number' = m';
      different = one-two;
      is_one = first (entry k o l m) (entry k o l m' ∷ []);
      is-other = second (entry k o l m) (entry k o l m') [];
    }

-- (1) 5,1 []; 5,1 []
merges : Applies standing 1 (entry 5 0 1 0 ∷ entry 5 0 1 0 ∷ [])
merges = rule-1 (twice 5 0 1 0 0)

-- an 'every' of link 1, at the head of a list
every_first : (es : List Entry) → IsEvery (entry 5 0 1 0 ∷ es) 1
every_first es = record { owner = 0; link = 1; number = 0; is-every = first (entry 5 0 1 0) es }

-- (2) 5,1 [1,7; 2,7], and 5,1 [6]
has-and-lacks : Applies standing 2 (entry 5 0 1 0 ∷ entry 1 1 7 0 ∷ entry 2 1 7 0 ∷ [])
has-and-lacks =
    rule-2
    (record {
      place = 1;
      every = every_first (entry 1 1 7 0 ∷ entry 2 1 7 0 ∷ []);
      clashes = inl (record {
        having = 2;
        lacking = 3;
        property = 7;
        number = 0;
        number' = 0;
        is-having = second (entry 5 0 1 0) (entry 1 1 7 0) (entry 2 1 7 0 ∷ []);
        is-lacking = third (entry 5 0 1 0) (entry 1 1 7 0) (entry 2 1 7 0) [];
      });
    })

kind-six : Applies standing 2 (entry 5 0 1 0 ∷ entry 6 1 0 0 ∷ [])
kind-six =
    rule-2
    (record {
      place = 1;
      every = every_first (entry 6 1 0 0 ∷ []);
      clashes = inr (inl (record { entry = 2; name = 0; number = 0; is-nothing = second (entry 5 0 1 0) (entry 6 1 0 0) [] }));
    })

-- (3) 5,1 [3,2,3; 4,2,2]
counts : Applies standing 3 (entry 5 0 1 0 ∷ entry 3 1 2 3 ∷ entry 4 1 2 2 ∷ [])
counts =
    rule-3
    (record {
      place = 1;
      every = every_first (entry 3 1 2 3 ∷ entry 4 1 2 2 ∷ []);
      overasks = inl (record {
        asking = 2;
        allowing = 3;
        link = 2;
        n = 3;
        m = 2;
        is-asking = second (entry 5 0 1 0) (entry 3 1 2 3) (entry 4 1 2 2 ∷ []);
        is-allowing = third (entry 5 0 1 0) (entry 3 1 2 3) (entry 4 1 2 2) [];
        less = omega arith;
      });
    })

-- and 5,1 [3,40000,2], at least 2 of a link that leads to one item
over-cap : Applies standing 3 (entry 5 0 1 0 ∷ entry 3 1 40000 2 ∷ [])
over-cap =
    rule-3
    (record {
      place = 1;
      every = every_first (entry 3 1 40000 2 ∷ []);
      overasks = inr (record {
        asking = 2;
        link = 40000;
        n = 2;
        m = 1;
        is-asking = second (entry 5 0 1 0) (entry 3 1 40000 2) [];
        capped = refl;
        less = omega arith;
      });
    })

-- (4) 4,1,0; 5,1 [1,7]
removes : Applies standing 4 (entry 4 0 1 0 ∷ entry 5 0 1 0 ∷ entry 1 2 7 0 ∷ [])
removes =
    rule-4
    (record {
      bound = 1;
      removed = 2;
      owner = 0;
      link = 1;
      number = 0;
      is_bound = first (entry 4 0 1 0) (entry 5 0 1 0 ∷ entry 1 2 7 0 ∷ []);
      is_removed = second (entry 4 0 1 0) (entry 5 0 1 0) (entry 1 2 7 0 ∷ []);
    })

-- (5) 3,1,3; 4,1,2, and 6; 6, which is not one entry alone
top-counts : Applies standing 5 (entry 3 0 1 3 ∷ entry 4 0 1 2 ∷ [])
top-counts =
    rule-5
    (record {
      impossible = inr (inl (record {
        asking = 1;
        allowing = 2;
        link = 1;
        n = 3;
        m = 2;
        is-asking = first (entry 3 0 1 3) (entry 4 0 1 2 ∷ []);
        is-allowing = second (entry 3 0 1 3) (entry 4 0 1 2) [];
        less = omega arith;
      }));
      not-alone = λ s. omega (arith, s.alone);
    })

top-six : Applies standing 5 (entry 6 0 0 0 ∷ entry 6 0 0 0 ∷ [])
top-six =
    rule-5
    (record {
      impossible = inl (inr (inl (record { entry = 1; name = 0; number = 0; is-nothing = first (entry 6 0 0 0) (entry 6 0 0 0 ∷ []) })));
      not-alone = λ s. omega (arith, s.alone);
    })

-- (6) 4,1,2; 4,1,3
several-most : Applies standing 6 (entry 4 0 1 2 ∷ entry 4 0 1 3 ∷ [])
several-most = rule-6 (twice 4 0 1 2 3)

-- (7) 3,1,2; 3,1,3
several-least : Applies standing 7 (entry 3 0 1 2 ∷ entry 3 0 1 3 ∷ [])
several-least = rule-7 (twice 3 0 1 2 3)

-- (8) 3,1,0
least_zero : Applies standing 8 (entry 3 0 1 0 ∷ [])
least_zero = rule-8 (record { entry = 1; owner = 0; link = 1; is-least = first (entry 3 0 1 0) [] })

-- (9) 5,1 []
owns_none : (n : ℕ) → 1 ≤ n → n ≤ 1 → (nth (entry 5 0 1 0 ∷ []) n).owner ≢ 1
unfolding nth
owns_none n lo hi e = let z : n ≡ 1 = omega arith in let y : ◌≡◌ {A = ℕ} 0 1 = rw z at e in omega arith

owns_nothing : Applies standing 9 (entry 5 0 1 0 ∷ [])
owns_nothing = rule-9 (record { entry = 1; every = every_first []; owns_none = owns_none })

-- equal entries: 1,7; 1,7
equal : Applies standing 10 (entry 1 0 7 0 ∷ entry 1 0 7 0 ∷ [])
equal =
    rule-10
    (record {
      one = 1;
      other = 2;
      kind = 1;
      owner = 0;
      name = 7;
      number = 0;
      different = one-two;
      is_one = first (entry 1 0 7 0) (entry 1 0 7 0 ∷ []);
      is-other = second (entry 1 0 7 0) (entry 1 0 7 0) [];
    })

-- properties 7 and 8 exclude each other
abbrev seven_eight : Background
seven_eight = record { cap = standing.cap; excludes = λ p q. (eqb p 7 && eqb q 8) || (eqb p 8 && eqb q 7) }

-- (2) 5,1 [1,7; 1,8], two properties that exclude each other
has_both : Applies seven_eight 2 (entry 5 0 1 0 ∷ entry 1 1 7 0 ∷ entry 1 1 8 0 ∷ [])
has_both =
    rule-2
    (record {
      place = 1;
      every = every_first (entry 1 1 7 0 ∷ entry 1 1 8 0 ∷ []);
      clashes = inr (inr (record {
        one = 2;
        other = 3;
        property = 7;
        property' = 8;
        number = 0;
        number' = 0;
        excluding = refl;
        is_one = second (entry 5 0 1 0) (entry 1 1 7 0) (entry 1 1 8 0 ∷ []);
        is-other = third (entry 5 0 1 0) (entry 1 1 7 0) (entry 1 1 8 0) [];
      }));
    })

-- (11) 1,7; 2,8, a lack that the property implies
implied-lack : Applies seven_eight 11 (entry 1 0 7 0 ∷ entry 2 0 8 0 ∷ [])
implied-lack =
    rule-11
    (record {
      having = 1;
      lacking = 2;
      owner = 0;
      property = 7;
      property' = 8;
      number = 0;
      number' = 0;
      excluding = refl;
      is-having = first (entry 1 0 7 0) (entry 2 0 8 0 ∷ []);
      is-lacking = second (entry 1 0 7 0) (entry 2 0 8 0) [];
    })

-- (12) 4,40000,1, an at most that always holds
implied-most : Applies standing 12 (entry 4 0 40000 1 ∷ [])
implied-most =
    rule-12
    (record {
      entry = 1;
      owner = 0;
      link = 40000;
      n = 1;
      m = 1;
      is-most = first (entry 4 0 40000 1) [];
      capped = refl;
      said = omega arith;
    })

-- no rule applies to one entry of kind 6 alone, though that is an impossible top
six-stays : (k : ℕ) → Applies standing k (entry 6 0 0 0 ∷ []) → ⊥
unfolding nth
six-stays k h = six-no-rule (entry 6 0 0 0 ∷ []) (record { alone = refl; six = refl }) standing k h
