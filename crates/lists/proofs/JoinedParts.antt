-- Inputs whose blocks are numbered from 1, laid end to end, are cut into just those.
-- Assumes nothing.
use Prim.Native.Nat.{◌%◌, ◌*◌, ◌+◌, ◌<◌, ◌≤◌, suc, ℕ}
use lib.Dec.{eqb, ltb}
use lib.ListN.{get_or-append, get_or, length, length-append}
use lib.Seq.{drop-append_seam, get_or-append-add, take-append_seam}
use mathlib.Core.Bool.{◌||◌, not}
use mathlib.Core.List.{List, [], ◌++◌, ◌∷◌, append-nil}
use mathlib.Core.Logic.{◌≢◌}
use mathlib.Core.Path.{◌∙◌, ◌≡◌, ap, sym}
use native.Mathlib.Omega.{arith}
use Rattle.base.proofs.Tests.{eqb-eq, eqb-ne, lt-cases, neither_left, neither_right, true_of_not}
use Rattle.blocks.proofs.RoundTrip.Unbroken.{Unbroken, passing}
use Rattle.blocks.specs.Encoding.{joined}
use Rattle.blocks.specs.Entries.{limit_of}
use Rattle.blocks.specs.Faults.{length_wrong}
use Rattle.blocks.specs.Frame.{blocks_in, plain}
use Rattle.blocks.specs.Words.{word_at}
use Rattle.blocks.specs.declared.Schema.{Schema}
use Rattle.lists.proofs.FirstPart.{first-bound, first_found, no_second, undivided}
use Rattle.lists.proofs.PartLaws.{parts-of, parts-of-nil}
use Rattle.lists.specs.Parts.{Begins, first_length, first_part, parts_of, second_part}

-- ---- words of joined lists

pub word-left : (c d : List ℕ) (at : ℕ) → at + 1 < length c → word_at (c ++ d) at ≡ word_at c at
unfolding word_at
word-left c d at h = rw (word_at, get_or-append c d 0 at (omega arith), get_or-append c d 0 (at + 1) h)

pub word-seam : (c d : List ℕ) → word_at (c ++ d) (length c) ≡ word_at d 0
unfolding word_at
word-seam c d =
    let e : length c ≡ length c + 0 = omega arith in
    let p : get_or (c ++ d) (length c) 0 ≡ get_or d 0 0 = ap (λ (k : ℕ). get_or (c ++ d) k 0) e ∙ get_or-append-add c d 0 0 in
    rw (word_at, p, get_or-append-add c d 1 0)

-- ---- an input of which numbers 1 to 3 do not apply

-- its length is that of its blocks, of which there is at least one, and each has its own number
pub record Numbered (s : List ℕ) : Type 0 where
  pub blocks : ℕ
  pub some : 1 ≤ blocks
  pub long : length s ≡ 512 * blocks
  pub number : (i : ℕ) → i < blocks → word_at s (512 * i) ≡ suc i

pub numbered : (σ : Schema) (s : List ℕ) → Unbroken plain σ s → Numbered s
unfolding length_wrong blocks_in
numbered σ s u =
    let empty = eqb (length s) 0 in
    let odd = not (eqb (length s % 512) 0) in
    let over = ltb (512 * limit_of σ) (length s) in
    let a : length s ≢ 0 = eqb-ne (neither_left empty (odd || over) u.length) in
    let b : length s % 512 ≡ 0 = eqb-eq (true_of_not _ (neither_left odd over (neither_right empty (odd || over) u.length))) in
    record {
      blocks = blocks_in s;
      some = omega arith;
      long = omega arith;
      number = λ k h. (passing plain (u.check k h) (u.frame k h)).number;
    }

-- no later block of it has number 1
pub begins-none : {s : List ℕ} → Numbered s → (k : ℕ) → Begins s k → ⊥
begins-none h k b =
    let w = b.whole in
    let l = b.later in
    let g = h.long in
    let m = h.number k (omega arith) in
    let n = b.number in
    omega arith

-- ---- where a list is cut

-- at a later whole block with number 1, if there is none before it
pub cut_at : (s : List ℕ) (b : ℕ) → Begins s b → ((k : ℕ) → k < b → Begins s k → ⊥) → first_length s ≡ 512 * b
cut_at s b B none =
    let m = first-bound s in
    lt-cases (first_length s) (length s)
    (λ l.
    let f = first_found s l in
    lt-cases b f.block
    (λ q. absurd (f.before b B.later q B.number))
    (λ p. lt-cases f.block b
    (λ q. absurd (none f.block q (record { later = f.from; whole = f.whole; number = f.number })))
    (λ q. let x = f.offset in omega arith)))
    (λ l. absurd (undivided s (omega arith) b B))

-- an input, and after it what begins with a whole block that has number 1
pub joined-cut : (c d : List ℕ) → Numbered c → 512 ≤ length d → word_at d 0 ≡ 1 → first_length (c ++ d) ≡ length c
joined-cut c d a h w =
    let l = a.long in
    let t = length-append c d in
    cut_at (c ++ d) a.blocks
    (record { later = a.some; whole = omega arith; number = ap (word_at (c ++ d)) (sym l) ∙ word-seam c d ∙ w })
    (λ k b g.
    let e = word-left c d (512 * k) (omega arith) in
    let x = g.number in
    let y = a.number k b in
    let z = g.later in
    omega arith)
    ∙ sym l

-- ---- all of them

-- each of some inputs is so
abbrev pub AllNumbered : List (List ℕ) → Type 0
AllNumbered [] = Unit {0}
AllNumbered (s ∷ ss) = Numbered s × AllNumbered ss

cut-first : (c d : List ℕ) → length c ≢ 0 → first_length (c ++ d) ≡ length c → parts_of (c ++ d) ≡ c ∷ parts_of d
cut-first c d some e =
    let long : length (c ++ d) ≢ 0 = λ z. let t = length-append c d in some (omega arith) in
    let front : first_part (c ++ d) ≡ c = rw (e, take-append_seam) in
    let back : second_part (c ++ d) ≡ d = rw (e, drop-append_seam) in
    parts-of (c ++ d) long ∙ rw (front, back)

-- [L1] each block numbered 1 begins a description: laid end to end, they are cut into just those
pub joined-parts : (ss : List (List ℕ)) → AllNumbered ss → parts_of (joined ss) ≡ ss
unfolding joined
joined-parts [] A = parts-of-nil
joined-parts (c ∷ []) A =
    let a = A.0 in
    let l = a.long in
    let o = a.some in
    let s : length c ≢ 0 = λ z. omega arith in
    let w = no_second c (begins-none a) in
    rw (append-nil c) (parts-of c s ∙ rw (w.0, w.1, parts-of-nil))
joined-parts (c ∷ d ∷ ss) A =
    let a = A.0 in
    let b = A.1.0 in
    let l = a.long in
    let o = a.some in
    let m = b.long in
    let p = b.some in
    let s : length c ≢ 0 = λ z. omega arith in
    let rest = d ++ joined ss in
    let t = length-append d (joined ss) in
    let w : word_at rest 0 ≡ 1 = word-left d (joined ss) 0 (omega arith) ∙ ap (word_at d) (omega arith) ∙ b.number 0 p in
    cut-first c rest s (joined-cut c rest a (omega arith) w) ∙ ap (λ (x : List (List ℕ)). c ∷ x) (joined-parts (d ∷ ss) A.1)
