-- Laws of the words of a line that has more than one field.
-- Assumes nothing.
use Prim.Native.Nat.{◌<◌, ℕ}
use mathlib.Core.List.{List, ◌++◌, append_assoc}
use mathlib.Core.Path.{◌∙◌, ◌≡◌, ap}
use native.Mathlib.Omega.{arith}
use Rattle.std.specs.Fmt as std
use Rattle.blocks.specs.Refusals.{number_of}
use Rattle.blocks.specs.declared.Link.{Link}
use Rattle.blocks.specs.declared.Property.{Property}
use Rattle.blocks.specs.declared.Refusal.{Refusal}
use Rattle.report.proofs.Decimals.{decimal_written}
use Rattle.report.specs.Text.{ascii, decimal, line_words}
use Rattle.report.specs.declared.Line.TheVariants.{Group, Has, Refused}

-- ---- fields in a row, where t₁ is written first, then t₂, t₃ and t₄, are their words and numbers in a row

three-joined : (w d v e u f : List ℕ) {d' e' f' t₁ t₂ t₃ : List ℕ} → d' ≡ d → e' ≡ e → f' ≡ f
    → t₁ ≡ w ++ d' → t₂ ≡ t₁ ++ (v ++ e') → t₃ ≡ t₂ ++ (u ++ f') → t₃ ≡ w ++ (d ++ (v ++ (e ++ (u ++ f))))
three-joined w d v e u f p q r h₁ h₂ h₃ = simp (h₃, h₂, h₁, p, q, r, append_assoc)

four-joined : (w d v e u f s g : List ℕ) {d' e' f' g' t₁ t₂ t₃ t₄ : List ℕ} → d' ≡ d → e' ≡ e → f' ≡ f → g' ≡ g
    → t₁ ≡ w ++ d' → t₂ ≡ t₁ ++ (v ++ e') → t₃ ≡ t₂ ++ (u ++ f') → t₄ ≡ t₃ ++ (s ++ g')
    → t₄ ≡ w ++ (d ++ (v ++ (e ++ (u ++ (f ++ (s ++ g))))))
four-joined w d v e u f s g p q r o h₁ h₂ h₃ h₄ = simp (h₄, h₃, h₂, h₁, p, q, r, o, append_assoc)

-- ---- the words of a line

pub refused-words : (e : Refusal) {n : ℕ} {t₁ t₂ t₃ : List ℕ} → n ≡ number_of e.cause → n < 256 → e.input < 65536 → e.place < 65536
    → t₁ ≡ ascii "refused " ++ std.decimal n → t₂ ≡ t₁ ++ (ascii " input " ++ std.decimal e.input)
    → t₃ ≡ t₂ ++ (ascii " place " ++ std.decimal e.place) → t₃ ≡ line_words (Refused e)
unfolding line_words
refused-words e {n} q a b c =
    three-joined (ascii "refused ") (decimal (number_of e.cause)) (ascii " input ") (decimal e.input) (ascii " place ") (decimal e.place)
    (decimal_written n (omega arith) ∙ ap decimal q) (decimal_written e.input (omega arith)) (decimal_written e.place (omega arith))

pub has_words : (n o : ℕ) (p : Property) {t₁ t₂ t₃ : List ℕ} → n < 65536 → o < 65536 → p.0 < 65536
    → t₁ ≡ ascii "has " ++ std.decimal n → t₂ ≡ t₁ ++ (ascii " owner " ++ std.decimal o) → t₃ ≡ t₂ ++ (ascii " property " ++ std.decimal p.0)
    → t₃ ≡ line_words (Has n o p)
unfolding line_words
has_words n o p a b c =
    three-joined (ascii "has ") (decimal n) (ascii " owner ") (decimal o) (ascii " property ") (decimal p.0)
    (decimal_written n (omega arith)) (decimal_written o (omega arith)) (decimal_written p.0 (omega arith))

pub group-words : (n o : ℕ) (l : Link) (k : ℕ) {t₁ t₂ t₃ t₄ : List ℕ} → n < 65536 → o < 65536 → l.0 < 65536 → k < 4294967296
    → t₁ ≡ ascii "group " ++ std.decimal n → t₂ ≡ t₁ ++ (ascii " owner " ++ std.decimal o) → t₃ ≡ t₂ ++ (ascii " link " ++ std.decimal l.0)
    → t₄ ≡ t₃ ++ (ascii " count " ++ std.decimal k) → t₄ ≡ line_words (Group n o l k)
unfolding line_words
group-words n o l k a b c d =
    four-joined (ascii "group ") (decimal n) (ascii " owner ") (decimal o) (ascii " link ") (decimal l.0) (ascii " count ") (decimal k)
    (decimal_written n (omega arith)) (decimal_written o (omega arith)) (decimal_written l.0 (omega arith)) (decimal_written k (omega arith))
