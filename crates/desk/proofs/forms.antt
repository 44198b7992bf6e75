-- Laws of the code in src/forms.rt.

-- The form of an entry by its words, and what forms say of a whole draft.
pub mod FormLaws
