-- `new` meets its contract: a list of at most 64 pairs is indexed whole.
use Rattle.std.proofs.Common.{◌≡◌, ◌∙◌, ◌≤◌, ℕ, List, length, min, replicate, take, ap, arith, rules}
use Rattle.std.proofs.lemmas.List.{length-take, take_min}
use Rattle.pairs.proofs.IndexLaws.{index-whole}
use Rattle.pairs.specs.Pairs.{pair_count}
use Rattle.pairs.specs.code.Index.{PairsIndexed, indexed_to, named_count}
use Rattle.pairs.proofs.exclusions.Exclusions.new.Goals.{After-index_pairs}
use Rattle.pairs.proofs.exclusions.Exclusions.new.Goals as goal

few : (n : ℕ) (P : List ℕ) → n ≡ min (length P) 259 → pair_count (take n P) ≤ 64
unfolding pair_count
few n P e = omega (arith, length-take n P)

whole : (P : List ℕ) {t u : List ℕ} → pair_count P ≤ 64 → t ≡ replicate 512 0 → u ≡ indexed_to P t (min (named_count P) 128) → PairsIndexed P u
whole P h e f = let all : min (named_count P) 128 ≡ named_count P = omega arith in index-whole P h e all f

blank : (c : After-index_pairs) → c.fill.new.self ≡ replicate 512 0
blank c =
    let size : length c.args.index.now ≡ 512 = omega arith in
    c.fill.ensures.after (λ y e. search rules) ∙ ap (λ (n : ℕ). replicate n 0) size

pub invariant_of-result : goal.invariant_of-result
invariant_of-result c =
    record { indexed = whole _ (few c.min.result c.args.pairs.now c.min.ensures) (blank c) c.index_pairs.ensures }

listed : (c : After-index_pairs) → take c.min.result c.args.pairs.now ≡ take 259 c.args.pairs.now
listed c =
    let turned : min (length c.args.pairs.now) 259 ≡ min 259 (length c.args.pairs.now) = omega arith in
    ap (λ (n : ℕ). take n c.args.pairs.now) (c.min.ensures ∙ turned) ∙ take_min 259 c.args.pairs.now

pub returns-clause-listed : goal.returns-clause-listed
returns-clause-listed c = listed (goal.at.returns-clause-listed c).After-index_pairs

pub returns-clause-held : goal.returns-clause-held
returns-clause-held c =
    let h = few c.min.result c.args.pairs.now c.min.ensures in
    let all : min (named_count (take c.min.result c.args.pairs.now)) 128 ≡ named_count (take c.min.result c.args.pairs.now) = omega arith in
    rw (c.index_pairs.ensures, all, listed (goal.at.returns-clause-held c).After-index_pairs, blank (goal.at.returns-clause-held c).After-index_pairs)
