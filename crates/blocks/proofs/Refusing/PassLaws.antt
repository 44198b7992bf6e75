-- Passes over the entries of an input by number: how one begins, which entry a turn has, and how it ends.
-- Assumes nothing.
use Rattle.std.proofs.Common.{◌≡◌, ℕ, suc, arith, ◌+◌, ◌^◌, ◌<◌, ◌≤◌, List, [], ◌∷◌, ◌++◌, length, Option, None, Some, sym, ap, ◌∙◌}
use denote.Ref.{Bor}
use Rattle.std.proofs.lemmas.List.{length_push}
use Rattle.std.specs.Iterator.{Yields, item_count}
use Rattle.std.specs.Iterator.Runs.{CountFits}
use Rattle.std.specs.Iterator.Adapters.{enumerate_count, enumerate_source, enumerate_steps}
use Rattle.std.specs.declared.iter.Enumerate.{Enumerate}
use Rattle.blocks.proofs.Refusing.InOrder.{OverNumbered, left_of, may-number, over-numbered, steps, turn-numbered, turned-all-numbered}
use Rattle.blocks.specs.Entries.{entries_of, entry_from, nth}
use Rattle.blocks.specs.code.Blockwise.{Whole, entries_there}
use Rattle.blocks.specs.declared.in_order.InOrder.{InOrder}

-- it begins: it is over the first n entries, and may be called
pub begun : {s : List ℕ} {n : ℕ} {made : InOrder} {counted it : Enumerate InOrder} → n ≤ length (entries_of s) → n < 2 ^ 64
    → Whole s n → left_of made ≡ entries_there s n → enumerate_source counted ≡ made → enumerate_count counted ≡ 0 → it ≡ counted
    → OverNumbered s n it × CountFits steps (item_count left_of) (enumerate_count it) (enumerate_source it)
begun few small w m f z i = let o = over-numbered w few m f z i in (o, may-number o small)

-- a turn after the entries xs: its number is that of those before it, and its entry the one after them
pub record Now (s : List ℕ) (n : ℕ) (xs : List (ℕ × Bor (List ℕ))) (k : ℕ) (b : Bor (List ℕ)) : Type 0 where
  pub same : k ≡ length xs
  pub more : length (xs ++ (k, b) ∷ []) ≡ k + 1
  pub before : k < n
  pub entry : entry_from b.now 0 ≡ nth (entries_of s) (k + 1)
  pub entry_suc : entry_from b.now 0 ≡ nth (entries_of s) (suc k)

module _ {s : List ℕ} {n : ℕ} {it : Enumerate InOrder} (w : OverNumbered s n it) (xs : List (ℕ × Bor (List ℕ))) (t : Enumerate InOrder)
    (y : Yields (enumerate_steps steps) it xs t) {r : Option (ℕ × Bor (List ℕ))} (u : Enumerate InOrder) where
  pub turned : {k : ℕ} {b : Bor (List ℕ)} → r ≡ Some (k, b) → enumerate_steps steps t r u → Now s n xs k b
  turned {k} {b} i h =
      let f = turn-numbered w xs t y r u k b i h in
      record { same = f.0; more = length_push xs (k, b) ∙ ap (λ m. m + 1) (sym f.0); before = f.1.before; entry = f.1.entry; entry_suc = f.1.entry ∙ ap (nth (entries_of s)) (omega arith) }

  pub ended : r ≡ None → enumerate_steps steps t r u → length xs ≡ n
  ended i h = turned-all-numbered w xs t y r u i h
