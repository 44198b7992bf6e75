-- A packed number gives its four fields back, each from its own bits, where they are in range, as the fields of every answer are.
pub mod FieldsBack
