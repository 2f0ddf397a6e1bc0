-- What a request for notifications says, in plainer words than the fold over its fields.
use Rattle.std.specs.Prelude.{◌≡◌, pos, IsSome}
use Rattle.ms_structs.specs.Notifications.{request_made, request_whole}
use Rattle.ms_structs.specs.Slots.{said}
use Rattle.ms_structs.specs.Values.{number_of}
use Rattle.thrift_binary.specs.Tree.{Fields}

-- a request is made of what the last field with each known id says, of those that say something
abbrev pub RequestIsSaid : Type 0
RequestIsSaid = (v : Fields) → request_made v ≡ request_whole (record {
  last = said (pos 1) 10 number_of v;
  max = said (pos 2) 8 number_of v;
})

-- a request has no texts, so any fields make one
abbrev pub AnyFieldsMakeARequest : Type 0
AnyFieldsMakeARequest = (v : Fields) → IsSome (request_made v)
