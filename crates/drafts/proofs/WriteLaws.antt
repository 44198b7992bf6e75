-- Writing a desk out: what is answered and written, way by way.
-- Assumes nothing.
use Rattle.std.proofs.Common.{◌≡◌, ℕ, ◌*◌, ◌≤◌, ◌<◌, true, false, List, [], ◌∷◌, get_or, length, map, Ok, refl, sym, ap, ◌∙◌, arith}
use Rattle.base.proofs.Tests.{ge-ltb, lt-ltb}
use Rattle.base.specs.Stores.{stored}
use Rattle.blocks.specs.Encoding.{blocks_for, written}
use Rattle.blocks.specs.Entries.{packed}
use Rattle.blocks.specs.Frame.{plain}
use Rattle.blocks.specs.Reading.{Reading}
use Rattle.blocks.specs.Refusals.{refused}
use Rattle.blocks.specs.declared.Cause.TheVariants as cause
use Rattle.drafts.proofs.DraftedLaws.{entries_in}
use Rattle.drafts.proofs.MemoryLaws.{length-entries}
use Rattle.drafts.proofs.SoundLaws.{counted, few-entries}
use Rattle.drafts.proofs.StoreLaws.{bounded-entries, row_of, rows-written}
use Rattle.drafts.specs.Answer.{no_desk, output_after, write_answer}
use Rattle.drafts.specs.Memory.{entries_at, held_in}
use Rattle.drafts.specs.Sound.{sound}
use Rattle.drafts.specs.declared.Desk.{Desk}

rows-packed : (bs : List (List ℕ)) → map row_of bs ≡ map packed (entries_in bs)
rows-packed [] = refl
rows-packed (b ∷ bs) = ap (λ (l : List ℕ). row_of b ∷ l) (rows-packed bs)

module _ (d : Desk) (m out : List ℕ) where
  pub writes-none : {r : Reading} {after : List ℕ} → sound d m ≡ false → r ≡ no_desk → after ≡ out
      → (r ≡ write_answer d m out) × (after ≡ output_after d m out)
  unfolding write_answer output_after
  writes-none h a b = let t : write_answer d m out ≡ no_desk = rw (write_answer, h) in (a ∙ sym t, rw (b, output_after, t))

  pub writes-short : {r : Reading} {after : List ℕ} {n : ℕ} → sound d m ≡ true → n ≡ 512 * blocks_for plain d.count → length out < n
      → r ≡ refused cause.Room 0 0 → after ≡ out → (r ≡ write_answer d m out) × (after ≡ output_after d m out)
  unfolding write_answer output_after
  writes-short h e l a b =
      let s : length out < 512 * blocks_for plain d.count = omega arith in
      let t : write_answer d m out ≡ refused cause.Room 0 0 = rw (write_answer, h, lt-ltb s) in
      (a ∙ sym t, rw (b, output_after, t))

  pub writes-all : {r : Reading} {after rows : List ℕ} (table : List ℕ) (bytes : List (List ℕ)) {n : ℕ} (k : ℕ) → sound d m ≡ true → n ≡ 512 * blocks_for plain d.count
      → n ≤ length out → ((i : ℕ) → get_or m i 0 < 256) → length table ≡ 1008 → entries_in bytes ≡ entries_at m 0 d.count
      → rows ≡ stored table 0 (map row_of bytes) → k ≡ d.count → r ≡ Ok d.count → after ≡ written out rows k
      → (r ≡ write_answer d m out) × (after ≡ output_after d m out)
  unfolding write_answer output_after held_in
  writes-all {rows = rows} table bytes k h e l small long same p q a b =
      let es = entries_at m 0 d.count in
      let c = length-entries m 0 d.count in
      let few = few-entries d (counted d m h) in
      let s : 512 * blocks_for plain d.count ≤ length out = omega arith in
      let t : write_answer d m out ≡ Ok d.count = rw (write_answer, h, ge-ltb s) in
      let fits : 512 * blocks_for plain (length es) ≤ length out = rw c s in
      let w = rows-written out table es (bounded-entries m 0 d.count small) (omega arith) (omega arith) fits in
      let rows' : rows ≡ stored table 0 (map packed es) = p ∙ ap (stored table 0) (rows-packed bytes ∙ ap (map packed) same) in
      (a ∙ sym t, b ∙ ap (λ (x : List ℕ). written out x k) rows' ∙ ap (written out (stored table 0 (map packed es))) (q ∙ sym c) ∙ w ∙ sym (rw (output_after, t)))
