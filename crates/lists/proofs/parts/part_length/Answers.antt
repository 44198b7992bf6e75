-- `part_length` meets its contract: the search stops at the first later block with number 1, or passes all.
use Rattle.std.proofs.Common.{◌≡◌, ◌*◌, ◌∙◌, ◌≢◌, MatchOption, None, Some, Option, List, ◌/◌, ℕ, ◌≤◌, ◌<◌, length, arith, rules, tests}
use Rattle.std.proofs.lemmas.Iterator.{first_from_Range}
use Rattle.blocks.specs.Words.{word_at}
use Rattle.lists.specs.Parts.{first_length}
use Rattle.lists.proofs.LoopLaws.{search-found, search-none}
use Rattle.lists.proofs.parts.part_length.Goals.{After-find}
use Rattle.lists.proofs.parts.part_length.Goals as goal

-- what a search among the later whole blocks says of its answer
abbrev Searched : List ℕ → Option ℕ → Type 0
Searched s o =
    MatchOption o ((k : ℕ) → 1 ≤ k → k < length s / 512 → word_at s (512 * k) ≢ 1)
    (λ i. (1 ≤ i) × (i < length s / 512) × (word_at s (512 * i) ≡ 1) × ((k : ℕ) → 1 ≤ k → k < i → word_at s (512 * k) ≢ 1))

-- what is found
found : (c : After-find) → Searched c.args.s.now c.find.result
found c =
    first_from_Range _ _ _ _ (λ i. word_at c.args.s.now (512 * i) ≡ 1) (λ i. word_at c.args.s.now (512 * i) ≢ 1) c.find.ensures.ran (λ x q k. search (rules, tests)) (λ x q k. search (rules, tests))

-- where the first part ends by it
ended : (s : List ℕ) (o : Option ℕ) (r : ℕ) {P : ℕ → Type 0} → MatchOption o (r ≡ length s) P → ((i : ℕ) → P i → r ≡ 512 * i) → Searched s o
    → (r ≡ first_length s) × (r ≤ length s)
ended s None r p h f = (p ∙ search-none s f, omega arith)
ended s (Some i) r p h f =
    let e = h i p in
    let l = f.1 in
    (e ∙ search-found s f.0 f.1 f.2 f.3, omega arith)

pub returns : goal.returns
returns c = ended c.args.s.now c.find.result c.map_or.result c.map_or.ensures (λ i p. search rules) (found (goal.at.returns c).After-find)
