-- `words` meets its contract where a line has more than one field.
use borrow.Author.Rules.{rules}
use Rattle.report.proofs.TextLaws.{group-words, has_words, refused-words}
use Rattle.report.proofs.text.words.Goals as goal

pub returns-in-Refused-clause-bytes : goal.returns-in-Refused-clause-bytes
returns-in-Refused-clause-bytes c =
    rw c.in-Refused.is
    (refused-words _ c.number.ensures (search rules) (search rules) (search rules) (search rules) c.put_field-in-Refused-2.ensures.bytes c.put_field-in-Refused-3.ensures.bytes)

pub returns-in-Has-clause-bytes : goal.returns-in-Has-clause-bytes
returns-in-Has-clause-bytes c =
    rw c.in-Has.is (has_words _ _ _ (search rules) (search rules) (search rules) (search rules) c.put_field-in-Has-2.ensures.bytes c.put_field-in-Has-3.ensures.bytes)

pub returns-in-Group-clause-bytes : goal.returns-in-Group-clause-bytes
returns-in-Group-clause-bytes c =
    rw c.in-Group.is
    (group-words _ _ _ _ (search rules) (search rules) (search rules) (search rules) (search rules) c.put_field-in-Group-2.ensures.bytes c.put_field-in-Group-3.ensures.bytes c.put_field-in-Group-4.ensures.bytes)
