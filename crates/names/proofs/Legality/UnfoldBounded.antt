-- The fields of an unfolded description's entries fit their bytes, if those of what it is made from do.
-- Assumes nothing.
use Prim.Native.Nat.{◌<◌, ◌≤◌, suc, zero, ℕ}
use lib.ListN.{length}
use mathlib.Core.List.{List, []}
use native.Mathlib.Omega.{arith}
use Rattle.blocks.proofs.Refusing.Bounds.{AllBounded}
use Rattle.blocks.proofs.Refusing.Legal.{owner-earlier}
use Rattle.blocks.specs.Entries.{nth}
use Rattle.blocks.specs.Owners.{owner_of}
use Rattle.blocks.specs.declared.Entry.{Entry}
use Rattle.names.proofs.Dictionary.InTurn.{in-turn}
use Rattle.names.proofs.Entries.EachEntry.{EachEntry, numbers-of-each, unfold-each}
use Rattle.names.proofs.Legality.UnfoldLegal.{unfold-legal}
use Rattle.names.specs.Promise.{AcceptedNamed, Each}
use Rattle.names.specs.Unfold.{contents, unfolded, unfolded_by}

-- all fields but the owner
record Fields (e : Entry) : Type 0 where
  kind : e.kind < 256
  reserved : e.reserved < 256
  name : e.name < 65536
  number : e.number < 65536

bounded-fields : {es : List Entry} → AllBounded es → (n : ℕ) → 1 ≤ n → n ≤ length es → Fields (nth es n)
unfolding nth
bounded-fields b zero lo hi = absurd (omega arith)
bounded-fields b (suc k) lo hi =
    let f = b.each k (omega arith) in record { kind = f.kind; reserved = f.reserved; name = f.name; number = f.number }

fields-unfolded : (T : ℕ → List Entry) → ((n : ℕ) → EachEntry Fields (T n)) → (es : List Entry) → AllBounded es → EachEntry Fields (unfolded T es)
fields-unfolded T t es b =
    unfold-each Fields (λ o e f. record { kind = f.kind; reserved = f.reserved; name = f.name; number = f.number }) T es
    (λ n lo hi. (λ q. t (nth es n).name, λ q. bounded-fields b n lo hi))

contents-fields : (K : List (List Entry)) → Each (λ k d. AllBounded d) K → (n : ℕ) → EachEntry Fields (contents K n)
unfolding contents
contents-fields K each =
    in-turn (λ (d d' : List Entry). EachEntry Fields d) (λ k d. AllBounded d) unfolded unfolded (λ k s t d b h. fields-unfolded s h d b) 0 (λ n. []) (λ n. []) K each (λ n. tt)

-- owners are small, since there are no more than 1,008 entries
pub unfold-bounded : (K : List (List Entry)) (es : List Entry) → AcceptedNamed K es → Each (λ k d. AllBounded d) K → AllBounded es
    → AllBounded (unfolded_by K es)
unfolding unfolded_by nth owner_of
unfold-bounded K es A each b =
    let legal = unfold-legal K es A in
    let small = A.small.size in
    let fields = numbers-of-each Fields (unfolded_by K es) (fields-unfolded (contents K) (contents-fields K each) es b) in
    record {
      each = λ k l.
          let f = fields (suc k) (omega arith) (omega arith) in
          let o = owner-earlier legal (suc k) (omega arith) (omega arith) in
          record { kind = f.kind; reserved = f.reserved; owner = omega arith; name = f.name; number = f.number };
    }
