-- What a shelf over the real world has chosen.
use Rattle.std.specs.Prelude.{Bool, true, false, Option, Some, None, string_bytes}
use Rattle.pur_io.specs.Texts.{Name}
use Rattle.pur_io.specs.declared.file_shelf.Choice.{Choice}
use Rattle.pur_io.specs.declared.file_shelf.Choice.TheVariants.{Nothing, Input, File, Unopened}

-- the name that was chosen
abbrev pub name_of : {F : Type 0} → Choice F → Option Name
name_of Nothing = None
name_of Input = Some None
name_of (File name file) = Some (Some (string_bytes name))
name_of (Unopened name) = Some (Some (string_bytes name))

-- the file that was opened
abbrev pub file_of : {F : Type 0} → Choice F → Option F
file_of Nothing = None
file_of Input = None
file_of (File name file) = Some file
file_of (Unopened name) = None

-- whether there is something to read from
abbrev pub can_read : {F : Type 0} → Choice F → Bool
can_read Nothing = false
can_read Input = true
can_read (File name file) = true
can_read (Unopened name) = false
