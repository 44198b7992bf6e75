-- After one more read the start of the buffer is what stood there, and then the bytes that this read gave.
use Rattle.std.proofs.Common.{◌≡◌, ℕ, ◌+◌, ◌-◌, ◌≤◌, List, ◌++◌, rules, length, take, sym, ap, ap₂, ◌∙◌, subst, le_refl, drop_at, length-take-le}
use Rattle.std.proofs.lemmas.Slice.{take-put_mid_below}
use Rattle.std.specs.Io.KnownBytes.{Consumes}
use Rattle.std.proofs.KnownBytes.{Consumes-trans}
use borrow.Rule.Slice.PartMut.{post_of, put_mid}
use lib.Seq.{take-add, take-append-le}
use Rattle.streams.proofs.read_until_failure.Goals as goal

-- where a part is put in at a, the first a elements stay, and the first n of the part follow
take_more-put_mid : (a k n : ℕ) (xs ys : List ℕ) → a ≤ length xs → n ≤ length ys → take (a + n) (put_mid a k xs ys) ≡ take a xs ++ take n ys
take_more-put_mid a k n xs ys within fits =
    let part = ap (take n) (drop_at (take a xs) (ys ++ post_of a k xs) a (length-take-le a xs within)) ∙ take-append-le n ys (post_of a k xs) fits in
    take-add a n (put_mid a k xs ys) ∙ ap₂ (λ (p q : List ℕ). p ++ q) (take-put_mid_below a k xs ys a (le_refl a) within) part

pub loop-done-preserved : goal.loop-done-preserved
loop-done-preserved g c =
    let l = c.loop-done in
    let room = length l.buffer - l.done in
    let step = take_more-put_mid l.done room c.in-Ok.n l.buffer c.read.new.buf l.invariant.1 c.in-Ok.ensures.bound.0 in
    (search rules, search rules, subst (Consumes _ _) (sym step) (Consumes-trans _ _ _ _ _ l.invariant.2 c.in-Ok.ensures.bytes.0))
