-- The table of kinds, for descriptions with names.
-- Assumes nothing.
use Rattle.std.specs.Prelude.{eqb, Bool, ◌&&◌, cond}
use Rattle.blocks.specs.Entries.{form_ok, is_named}
use Rattle.blocks.specs.declared.Entry.{Entry}
use Rattle.blocks.specs.declared.Schema.TheVariants.{Description}

-- [D3] [E5] a named entry has any name and number 0: its name is looked at apart; any other entry is one of a
-- description
unfoldable pub named_form_ok : Entry → Bool
named_form_ok e = cond (is_named e) (eqb e.reserved 0 && eqb e.number 0) (form_ok Description e)
