-- EnvironmentContext: it is read, and nothing of it is used.
use Rattle.std.specs.Prelude.{ℕ, ℤ, pos, Option, ⊤}
use Rattle.ms_structs.specs.declared.got.Got.{Got}
use Rattle.ms_structs.specs.declared.got.Got.TheVariants.{Nothing}
use Rattle.ms_structs.specs.Slots.{is_bad, made_of, slot, struct_of, unless_bad}
use Rattle.ms_structs.specs.Values.{params_of}
use Rattle.table_structs.specs.declared.contexts.ContextFields.{ContextFields}
use Rattle.thrift_binary.specs.Codes.{map_code}
use Rattle.thrift_binary.specs.Tree.{Wire, Fields}

-- the slots before the first field: 1 properties
abbrev pub context_none : ContextFields
context_none = record { properties = Nothing }

-- the slots behind one more field
abbrev pub context_set : ContextFields → ℕ → ℤ → Wire → ContextFields
context_set f ty id w = record { properties = slot (pos 1) map_code params_of f.properties ty id w }

-- nothing is made of it but that its texts are UTF-8
abbrev pub context_whole : ContextFields → Option ⊤
context_whole f = unless_bad (is_bad f.properties) tt

-- what these fields make; None: a text that counts isn't UTF-8
abbrev pub context_made : Fields → Option ⊤
context_made = made_of context_whole context_set context_none

-- what a struct says
unfoldable pub context_of : Wire → Got ⊤
context_of = struct_of context_whole context_set context_none
