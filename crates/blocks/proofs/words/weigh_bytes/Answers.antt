-- `weigh_bytes` meets its contract.
use Rattle.std.proofs.Common.{◌≡◌, ◌/◌, ◌≤◌, ◌∙◌, refl, length, arith}
use Rattle.blocks.proofs.words.WordLaws.{second-all}
use Rattle.blocks.specs.Words.{second_of}
use Rattle.blocks.proofs.words.weigh_bytes.Goals as goal
use Rattle.blocks.proofs.words.weigh_bytes.Goals.{After-as_chunks}

-- the words are few
few : (c : After-as_chunks) → length c.as_chunks.result.0.now ≤ 254
few c =
    let n : length c.as_chunks.result.0.now ≡ length c.args.bytes.now / 2 = c.as_chunks.ensures.front_len in
    omega (arith, n, c.requires)

pub returns : goal.returns
unfolding second_of
returns c =
    let a = c.as_chunks.ensures in
    second-all c.args.bytes.now 254 c.requires a.front a.front_len a.back c.weigh_words.ensures (c.from.ensures ∙ c.byte.ensures) refl

pub weigh_words-requires : goal.weigh_words-requires
weigh_words-requires c = few (goal.at.weigh_words-requires c).After-as_chunks

pub overflow_cast-number : goal.overflow_cast-number
overflow_cast-number c = omega (arith, few (goal.at.overflow_cast-number c).After-as_chunks)

pub overflow_add-number : goal.overflow_add-number
overflow_add-number c = omega (arith, few (goal.at.overflow_add-number c).After-as_chunks)
