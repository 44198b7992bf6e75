-- The shorter stored form: its blocks are the encoding of their rows, an encoding breaks none of 1 to 3, and two entries exchanged.
-- Assumes nothing.
use Rattle.std.proofs.Common.{◌≡◌, ℕ, suc, ◌+◌, ◌*◌, ◌%◌, ◌<◌, ◌≤◌, ◌≢◌, ◌↔◌, List, length, refl, sym, ◌∙◌, arith}
use Rattle.base.proofs.Multiples.{three-words}
use Rattle.base.specs.Exchange.{difference}
use Rattle.blocks.proofs.Format.ByteRows.{Rows}
use Rattle.blocks.proofs.Format.Counts.{blocks-limit}
use Rattle.blocks.proofs.Format.Lawful.{stored-lawful}
use Rattle.blocks.proofs.Format.WordBytes.{Bytes}
use Rattle.blocks.proofs.Refusing.FirstFault.{none-clean}
use Rattle.blocks.proofs.Refusing.BlockLaws.{none-blocks}
use Rattle.blocks.proofs.RoundTrip.Decoding.{length-rows, total-rows}
use Rattle.blocks.proofs.RoundTrip.EncodedBlocks.{rows-sound}
use Rattle.blocks.proofs.RoundTrip.Exchanging.{exchanged-broken, exchanged-unbroken}
use Rattle.blocks.proofs.RoundTrip.Faithful.{rows_of, rows-faithful}
use Rattle.blocks.proofs.RoundTrip.Unbroken.{Unbroken}
use Rattle.blocks.specs.Encoding.{encode_rows}
use Rattle.blocks.specs.Exchange.{EntriesExchanged, entry_words}
use Rattle.blocks.specs.Faults.{Clean, Faulty, block_faults, first}
use Rattle.blocks.specs.Frame.{blocks_in, stored_frame, total_in, used_in}
use Rattle.blocks.specs.declared.Cause.TheVariants.{Check}
use Rattle.blocks.specs.declared.Schema.TheVariants.{Description}

-- an input that breaks none of 1 to 3 is the encoding of its rows: the 12 blocks of this form are within the 16 of a description
pub stored-faithful : {s : List ℕ} → Bytes s → Unbroken stored_frame Description s → encode_rows stored_frame (rows_of stored_frame s) ≡ s
stored-faithful b u = rows-faithful stored_frame stored-lawful u b

-- up to 1,008 rows of 6 bytes are written as blocks that break none of 1 to 3, in 12 blocks at most
pub stored-sound : {rows : List (List ℕ)} → Rows 6 rows → length rows ≤ 1008
    → Unbroken stored_frame Description (encode_rows stored_frame rows) × (length (encode_rows stored_frame rows) ≤ 512 * 12)
stored-sound {rows} wide h =
    let few = blocks-limit stored_frame stored-lawful (length rows) 12 (omega arith) h in
    (rows-sound stored_frame stored-lawful Description wide (omega arith), omega (arith, length-rows stored_frame stored-lawful wide, few))

-- and they are read as so many
pub stored-total : {rows : List (List ℕ)} → Rows 6 rows → total_in stored_frame (encode_rows stored_frame rows) ≡ length rows
stored-total wide = total-rows stored_frame stored-lawful wide

-- two used entries exchanged: number 2 applies to their block exactly when the product is no multiple of 65,536, and else no block breaks 2 or 3
module _ {s t : List ℕ} {b e p : ℕ} (sound : Unbroken stored_frame Description s) (within : b < blocks_in s) (some : 1 ≤ p)
    (used : e + p < used_in s b) (x : EntriesExchanged stored_frame s t b e p) where
  abbrev product : ℕ
  product = p * difference (entry_words stored_frame s b e) (entry_words stored_frame s b (e + p))

  pub stored-otherwise : (p * difference (entry_words stored_frame s b e) (entry_words stored_frame s b (e + p))) % 65536 ≡ 0
      → first (block_faults stored_frame t (blocks_in t) 0 (blocks_in t)) ≡ Clean
  stored-otherwise m =
      let n = blocks_in t in
      let u = exchanged-unbroken stored-lawful 3 refl sound within some used x ((three-words p _).1 m) in
      none-clean (block_faults stored_frame t n 0 n) (none-blocks stored_frame t n 0 n (λ k lo hi. (u.check k (omega arith), u.frame k (omega arith))))

  pub stored-exactly : (first (block_faults stored_frame t (blocks_in t) 0 (blocks_in t)) ≡ Faulty Check (suc b))
      ↔ ((p * difference (entry_words stored_frame s b e) (entry_words stored_frame s b (e + p))) % 65536 ≢ 0)
  stored-exactly = (
    λ r m. let g : Clean ≡ Faulty Check (suc b) = sym (stored-otherwise m) ∙ r in let y : ◌≡◌ {A = ℕ} 0 1 = cc in absurd (omega arith),
    λ ne. exchanged-broken stored-lawful 3 refl sound within some used x (λ q. ne ((three-words p _).0 q)),
  )
