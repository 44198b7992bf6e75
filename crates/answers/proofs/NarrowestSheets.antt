-- The narrowest description of two field sheets, as it is written: with no pairs it is read as a field sheet exactly
-- where some item fits at least one of them.
-- Assumes nothing.
use Rattle.std.proofs.Common.{◌≡◌, ℕ, ◌+◌, ◌≤◌, List, [], length, Ok, sym, ap, subst, ◌∙◌}
use Rattle.answers.proofs.Accepted.{plain-entries, plain-length}
use Rattle.answers.proofs.AnswerLaws.{refused-answered}
use Rattle.answers.proofs.DictionaryOrder.{dictionary-accepted}
use Rattle.answers.proofs.Nameless.{nameless-admitted, nameless-alike}
use Rattle.answers.proofs.NarrowestKept.{always-answered, narrowest_means}
use Rattle.answers.proofs.NarrowestOrder.{narrowest-answers, narrowest-cases, narrowest-refuses}
use Rattle.answers.proofs.NarrowestWritten.{empty-list}
use Rattle.answers.proofs.Sent.{sent-length}
use Rattle.answers.specs.Narrowest.{JoinsSheets, narrowest_bytes, narrowest_with}
use Rattle.answers.specs.Promise.{Admitted}
use Rattle.blocks.specs.Encoding.{encode}
use Rattle.blocks.specs.Entries.{entries_of}
use Rattle.blocks.specs.Reading.{reading_of}
use Rattle.blocks.specs.declared.Entry.{Entry}
use Rattle.blocks.specs.declared.Schema.TheVariants.{Description}
use Rattle.logic.specs.Background.{standing}
use Rattle.named.specs.Answer.{narrowest_named}
use Rattle.names.proofs.Legality.NoNames.{legal-unfolds}
use Rattle.names.specs.NamedReading.{dictionary_of, dictionary_reading, plain_of}
use Rattle.narrow.specs.Narrowest.{narrowest_entries}
use Rattle.narrow_listed.proofs.AcceptedLegal.{legal-read}
use Rattle.sheets.proofs.NarrowestRead.{sheet-of-both}
use Rattle.sheets.proofs.PromiseKept.{sheet-exactly}
use Rattle.sheets.specs.Promise.{SheetOfBoth}
use Rattle.sheets.specs.Sheet.{sheet_reading}

-- a sheet names nothing: it is accepted with every dictionary that is, and stands for itself
module _ (D s : List ℕ) {l n : ℕ} (taken : dictionary_reading D ≡ Ok l) (r : sheet_reading s ≡ Ok n) where
  read : reading_of Description 1 s ≡ Ok n
  read = ((sheet-exactly s n).0 r).0

  sheet-admitted : Admitted D s
  sheet-admitted = nameless-admitted D 1 s taken read

  sheet-entries : entries_of (plain_of D s) ≡ entries_of s
  sheet-entries = plain-entries D s sheet-admitted ∙ legal-unfolds (dictionary_of D) (entries_of s) (legal-read 1 s read)

  sheet-length : length (plain_of D s) ≡ length s
  sheet-length =
      plain-length D s sheet-admitted ∙ sym (sent-length D s sheet-admitted) ∙ (nameless-alike D 1 s taken read).size

-- the entries of the narrowest of two sheets
abbrev pub of_sheets : List ℕ → List ℕ → List Entry
of_sheets a b = narrowest_entries standing [] (entries_of a) (entries_of b)

module _ (D a b out : List ℕ) {l n m : ℕ} (taken : dictionary_reading D ≡ Ok l) (ra : sheet_reading a ≡ Ok n)
    (rb : sheet_reading b ≡ Ok m) where
  -- what is read again
  abbrev Joined : ℕ → Type 0
  Joined k = SheetOfBoth a b (narrowest_bytes [] D a b out k) k

  own : narrowest_with [] D a b ≡ of_sheets a b
  own =
      empty-list (plain_of D a) (plain_of D b)
      ∙ rw (sheet-entries D a taken ra, sheet-entries D b taken rb)

  -- where it is answered
  answered-sheets : narrowest_named [] D a b out ≡ Ok (length (of_sheets a b)) → Joined (length (of_sheets a b))
  answered-sheets e =
      let w = narrowest_means [] D a b out (length (of_sheets a b)) e in
      rw (w.blocks ∙ ap encode own) (sheet-of-both a b ra rb w.few)

  -- and with at most 16 blocks of both, and an output as long, it always is
  pub sheets-answered : length a + length b ≤ 8192 → length a + length b ≤ length out
      → (narrowest_named [] D a b out ≡ Ok (length (of_sheets a b))) × Joined (length (of_sheets a b))
  sheets-answered h s =
      let la = sheet-length D a taken ra in
      let lb = sheet-length D b taken rb in
      let e =
      always-answered D a b out (sheet-admitted D a taken ra) (sheet-admitted D b taken rb) (rw (la, lb) h) (rw (la, lb) s)
      ∙ ap (λ (es : List Entry). Ok (length es)) own in
      (e, answered-sheets e)

-- what was answered was accepted
empty-joins : (D a b out : List ℕ) (k : ℕ) → narrowest_named [] D a b out ≡ Ok k → JoinsSheets [] D a b out k
empty-joins D a b out k e none n m ra rb =
    narrowest-cases [] D a b out
    (λ k' i p r. refused-answered (narrowest-refuses [] D a b out r).0 e)
    (λ R.
    let taken = dictionary-accepted D R.first.dictionary in
    let same = own D a b out taken ra rb in
    let t = narrowest-answers [] D a b out R ∙ ap (λ (es : List Entry). Ok (length es)) same in
    let count : length (of_sheets a b) ≡ k = cc in
    rw (sym count) (answered-sheets D a b out taken ra rb t))

pub narrowest_joins : (P D a b out : List ℕ) (k : ℕ) → narrowest_named P D a b out ≡ Ok k → JoinsSheets P D a b out k
narrowest_joins P D a b out k e none =
    subst (λ (Q : List ℕ). narrowest_named Q D a b out ≡ Ok k → JoinsSheets Q D a b out k) (sym none)
    (empty-joins D a b out k) e none
