-- `check_entry` meets its contract: by the level of its owner, which one of those before it has, or none.
use Rattle.std.proofs.Common.{◌∙◌, arith, refl}
use Rattle.blocks.proofs.Refusing.LevelLaws.{entries-found, entries-more, level-passed, level-small, level-told, levels-more}
use Rattle.slots.proofs.service.check_entry.Goals as goal

pub returns-in-Some : goal.returns-in-Some
returns-in-Some c =
    λ es T one le is'. (
      λ total h. entries-found _ _ _ _ T one is' (c.owner_level-l.ensures ∙ level-passed _ _ _) c.entry_refusal.ensures total h c.in-Some.is,
      refl,
    )

pub returns : goal.returns
returns c =
    λ es T one le is'.
    let owner = c.owner_level-l.ensures ∙ level-passed _ _ _ in
    let small = level-small _ _ _ _ T one is' owner c.entry_refusal.ensures c.in_default.is in (
      levels-more _ _ _ _ T one is' owner c.entry_refusal.ensures c.in_default.is le (level-told _ _ (omega (arith, small)) c.level_under.ensures),
      λ total h. entries-more _ _ _ _ T one is' owner c.entry_refusal.ensures total h c.in_default.is,
    )
