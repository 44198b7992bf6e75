-- What a walk by hand over the struct that holds an input's blocks cites. The check finds the proofs of the functions here by itself, so that
-- none of them does.
--     Held             the struct's type, over a signature's lifetimes
--     slice, tag       the machine values of a slice and of a schema
--     Own, Both        what a lent slice owns, and what it and a schema own together
--     told             of a callee's `ensured`, the fact that its `ensures` states: where there is no `&mut`, what is said of last values is dropped
--     kept             a slice is owned twice: with the schema beside which it was passed, and by itself
--     passes           the token and the slice give what a callee asks that is passed the slice and a schema, and the slice is kept
-- The laws of what is owned take `Logic`. The rest assumes nothing.
use Prim.Native.Nat.{ℕ}
use mathlib.Core.List.{List, [], ◌∷◌}
use lib.ListN.{length}
use seplogic.Ra.Ura.{Ura}
use mir.Syntax.{named, w8}
use mir.Val.{Val}
use base.Logic.{SProp, ent, sep, emp, via, snd∗, ex_e}
use base.Fml.{Lft, Share, Fml, ftrue, flft}
use types.Logic.{Logic, sem}
use contract.Lifetimes.{Lfts}
use contract.Monad.{fact}
use types.Kit.{‵, raw, ◌⊛◌, ⋆, ◌$◌, ◌∵◌, !, qed, move, use1, use2, split, join, fjoin, frame, done}
use denote.RattleType.{RattleType, owns}
use denote.Laws.{Is}
use denote.Builtin.{u8}
use denote.Plain.{uint_row_laws}
use denote.Ref.{Bor}
use denote.Signature.{named_lft}
use denote.Slice.{slice_val, ShrSlice, shr_slice_copy}
use denote.Steps.{owned, nothing}
use denote.Enum.Laws as EL
use denote.Triple.Clauses.{Ended, Clauses, Lasts, at_exit, ensured, lasts}
use denote.Triple.Entry.{Args, Res, on_entry}
use Rattle.blocks.specs.contracts.Schema as S
use Rattle.blocks.proofs.Schema.TheLaws as S'
use Rattle.blocks.specs.declared.Schema.{Schema}
use Rattle.lent.specs.contracts.held.Entries as T
use Rattle.lent.specs.contracts.held.total_read as total-read

abbrev pub Held : Lfts 1 → RattleType
Held κs = T.the_row (named_lft 1 0 tt κs)

abbrev pub slice : Bor (List ℕ) → Val
slice s = slice_val s.ref_ptr (length s.now)

abbrev pub tag : Schema → Val
tag σ = EL.val S.the_type S'.the_laws σ

abbrev pub Own : Lft → Bor (List ℕ) → Fml
Own κ s = (ShrSlice (named 0) κ u8).own_val s (slice s ∷ [])

abbrev pub Both : Lft → Bor (List ℕ) → Schema → Fml
Both κ s σ = owns (ShrSlice (named 0) κ u8 ∷ S.the_row ∷ []) (s, (σ, tt)) (slice s ∷ [], (tag σ ∷ [], tt))

module _ {M : Type 1} {𝓤 : Ura M} (𝓛 : Logic 𝓤) where
  pub told : (E : Ended) (c : Clauses 𝓤 E) (κs : Lfts E.signature.lifetimes) (a : Args E.signature κs) (g : (c κs a).ghost) (r : Res E.signature κs) (φ : Type 0)
      → ((ws : Lasts E κs a) → ent 𝓤 ((c κs a).ensures g r (at_exit E κs a ws)) (fact 𝓤 φ)) → ent 𝓤 (ensured 𝓛 E c κs a g r) (fact 𝓤 φ)
  told E c κs a g r φ states = ex_e 𝓤 _ (λ ws. via 𝓤 _ (snd∗ 𝓤 (sem 𝓛 (lasts E κs a ws)) ((c κs a).ensures g r (at_exit E κs a ws))) (states ws))

module _ {M : Type 1} {𝓤 : Ura M} (𝓛 : Logic 𝓤) (κ : Lft) (q : Share) (s : Bor (List ℕ)) (σ : Schema) (tagged : Is S.the_row σ (tag σ ∷ [])) where
  pub kept : ent 𝓤 (sem 𝓛 (Own κ s)) (sep 𝓤 (sem 𝓛 (Both κ s σ)) (sem 𝓛 (Own κ s)))
  kept =
      qed 𝓛 (‵ (Own κ s) ∷ []) ∵ use1 𝓛 (‵ (Own κ s) ⊛ ‵ (Own κ s)) ((shr_slice_copy 𝓛 (named 0) κ u8 (uint_row_laws w8)).twice s (slice s ∷ [])) $ split ! $
      nothing ! $ owned ! S.the_row (Is S.the_row) (EL.makes S.the_type S'.the_plain 𝓛) σ _ tagged $ fjoin ! $ move ! (1 ∷ 0 ∷ []) $ fjoin ! $ frame ! $ done !

  -- what a callee asks that is passed both and requires nothing more
  abbrev Asks : SProp 𝓤
  Asks = sep 𝓤 (on_entry 𝓛 total-read.signature (κ, tt) (q, tt) (s, (σ, tt)) (slice s ∷ [], (tag σ ∷ [], tt))) (emp 𝓤)

  asked : ent 𝓤 (⋆ 𝓛 ((‵ (flft κ q) ⊛ ‵ ftrue) ∷ ‵ (Both κ s σ) ∷ [])) Asks
  asked = qed 𝓛 ((‵ (flft κ q) ⊛ ‵ ftrue) ∷ ‵ (Both κ s σ) ∷ []) ∵ join ! $ frame ! $ done !

  pub passes : ent 𝓤 (⋆ 𝓛 ((‵ (flft κ q) ⊛ ‵ ftrue) ∷ ‵ (Own κ s) ∷ [])) (sep 𝓤 Asks (sem 𝓛 (Own κ s)))
  passes =
      qed 𝓛 ((‵ (flft κ q) ⊛ ‵ ftrue) ∷ ‵ (Own κ s) ∷ []) ∵ move ! (1 ∷ []) $ use1 𝓛 (‵ (Both κ s σ) ⊛ ‵ (Own κ s)) kept $ split ! $
      move ! (2 ∷ 0 ∷ []) $ use2 𝓛 (raw Asks) asked $ frame ! $ done !
