-- Refusals that no catalogue decides: their numbers and texts.
use Rattle.std.specs.Prelude.{◌++◌, ℤ, codes}
use Rattle.std.specs.Fmt.{signed_decimal}
use Rattle.cat_types.specs.declared.replies.Reply.{Reply}
use Rattle.cat_types.specs.declared.replies.Reply.TheVariants.{Refused}

abbrev pub store_fault : Reply
store_fault = Refused 8 (codes "store fault")

abbrev pub unknown_method : Reply
unknown_method = Refused 9 (codes "unknown method")

-- with the id of the argument
abbrev pub bad_argument : ℤ → Reply
bad_argument id = Refused 10 (codes "bad argument " ++ signed_decimal id)

abbrev pub out_of_memory : Reply
out_of_memory = Refused 11 (codes "out of memory")

abbrev pub invalid_request : Reply
invalid_request = Refused 13 (codes "invalid request")
