-- The two parts of a slice that meet at h: what a call is lent as `&mut s[0..h]` or as `&mut s[h..]`, and the slice once the
-- parts are back.
-- Assumes nothing.
use Prim.Native.Nat.{◌-◌, ◌≤◌, ℕ}
use borrow.Rule.Slice.PartMut.{mid_of, put_mid, same_len_mid, take_put}
use lib.ListN.{drop, drop_of_length-le, length, length-drop, take}
use lib.Seq.{drop_at, length-take-le, take_all, take_at}
use mathlib.Core.List.{List, ◌++◌, append-nil}
use mathlib.Core.Path.{◌∙◌, ◌≡◌, ap}
use native.Mathlib.Nat.{sub-zero}
use native.Mathlib.Omega.{arith}

module _ {A : Type 0} where
  -- the parts, as the code computes them
  abbrev pub low_of : ℕ → List A → List A
  low_of h l = mid_of 0 (h - 0) l

  abbrev pub high_of : ℕ → List A → List A
  high_of h l = mid_of h (length l - h) l

  -- the slice with other elements in the place of a part, and of the low part and then the high one
  abbrev pub put_low : ℕ → List A → List A → List A
  put_low h l ys = put_mid 0 (h - 0) l ys

  abbrev pub put_high : ℕ → List A → List A → List A
  put_high h l ys = put_mid h (length l - h) l ys

  abbrev pub put_both : ℕ → List A → List A → List A → List A
  put_both h l ys zs = put_high h (put_low h l ys) zs

  -- ---- one part

  pub low-is : (h : ℕ) (l : List A) → low_of h l ≡ take h l
  low-is h l = rw sub-zero

  pub high_is : (h : ℕ) (l : List A) → high_of h l ≡ drop h l
  high_is h l = take_all (length l - h) (drop h l) (simp length-drop (omega arith))

  pub length-low : (h : ℕ) (l : List A) → h ≤ length l → length (low_of h l) ≡ h
  length-low h l b = ap length (low-is h l) ∙ length-take-le h l b

  pub length_high : (h : ℕ) (l : List A) → length (high_of h l) ≡ length l - h
  length_high h l = ap length (high_is h l) ∙ length-drop h l

  -- after the low part is back
  pub length-put-low : (h : ℕ) (l ys : List A) → length ys ≡ length (low_of h l) → length (put_low h l ys) ≡ length l
  length-put-low h l ys e = same_len_mid 0 (h - 0) l ys e

  pub take-low : (h : ℕ) (l ys : List A) → h ≤ length l → length ys ≡ length (low_of h l) → take h (put_low h l ys) ≡ ys
  take-low h l ys b e = take_at ys (drop (h - 0) l) h (e ∙ length-low h l b)

  pub drop-low : (h : ℕ) (l ys : List A) → h ≤ length l → length ys ≡ length (low_of h l) → drop h (put_low h l ys) ≡ drop h l
  drop-low h l ys b e = drop_at ys (drop (h - 0) l) h (e ∙ length-low h l b) ∙ rw sub-zero

  -- after the high part is back
  pub length-put-high : (h : ℕ) (l ys : List A) → length ys ≡ length (high_of h l) → length (put_high h l ys) ≡ length l
  length-put-high h l ys e = same_len_mid h (length l - h) l ys e

  pub take-high : (h : ℕ) (l ys : List A) → h ≤ length l → take h (put_high h l ys) ≡ take h l
  take-high h l ys b = take_put h (length l - h) l ys b

  pub drop-high : (h : ℕ) (l ys : List A) → h ≤ length l → drop h (put_high h l ys) ≡ ys
  drop-high h l ys b =
      drop_at (take h l) (ys ++ drop (length l - h) (drop h l)) h (length-take-le h l b)
      ∙ ap (λ (z : List A). ys ++ z) (drop_of_length-le (drop h l) {i = length l - h} (simp length-drop (omega arith)))
      ∙ append-nil ys

  -- ---- both, where the low part has come back with as many elements as it had

  module _ (h : ℕ) (l ys : List A) (kept : length ys ≡ length (low_of h l)) where
    pub length_both : (zs : List A) → length zs ≡ length (high_of h (put_low h l ys)) → length (put_both h l ys zs) ≡ length l
    length_both zs e = length-put-high h (put_low h l ys) zs e ∙ length-put-low h l ys kept

    module _ (within : h ≤ length l) where
      low-within : h ≤ length (put_low h l ys)
      low-within = rw (length-put-low h l ys kept) within

      -- the high part is not touched by the first call
      pub high_after : high_of h (put_low h l ys) ≡ drop h l
      high_after = high_is h (put_low h l ys) ∙ drop-low h l ys within kept

      pub take-both : (zs : List A) → take h (put_both h l ys zs) ≡ ys
      take-both zs = take-high h (put_low h l ys) zs low-within ∙ take-low h l ys within kept

      pub drop-both : (zs : List A) → drop h (put_both h l ys zs) ≡ zs
      drop-both zs = drop-high h (put_low h l ys) zs low-within
