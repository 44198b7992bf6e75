-- `total_read` meets its contract: what the reader answers, an accepted input's total or none.
use Rattle.std.proofs.Common.{◌≡◌, ◌∙◌, ap, ℕ, MatchResult, Ok, Err}
use Rattle.blocks.specs.Reading.{returned, total_read, Reading}
use Rattle.lent.proofs.held.total_read.Goals as goal

number : (a : Reading) (n : ℕ) → MatchResult a (λ x. n ≡ x) (λ _. n ≡ 0) → n ≡ (returned a).entries
number (Ok x) n p = p
number (Err e) n p = p

pub returns : goal.returns
unfolding total_read
returns c = number c.read.result c.map_or.result c.map_or.ensures ∙ ap (λ (a : Reading). (returned a).entries) c.read.ensures
