-- The numbers of the protocol.
use Rattle.std.specs.Prelude.{ℕ}

-- ---- codes of types

-- behind the last field of a struct, in place of a type
abbrev pub stop_code : ℕ
stop_code = 0

abbrev pub bool_code : ℕ
bool_code = 2

abbrev pub byte_code : ℕ
byte_code = 3

abbrev pub double_code : ℕ
double_code = 4

abbrev pub i16_code : ℕ
i16_code = 6

abbrev pub i32_code : ℕ
i32_code = 8

abbrev pub i64_code : ℕ
i64_code = 10

abbrev pub text_code : ℕ
text_code = 11

abbrev pub struct_code : ℕ
struct_code = 12

abbrev pub map_code : ℕ
map_code = 13

abbrev pub set_code : ℕ
set_code = 14

abbrev pub list_code : ℕ
list_code = 15

-- ---- kinds of messages

-- a call, and one that wants no reply
abbrev pub call_kind : ℕ
call_kind = 1

abbrev pub oneway_kind : ℕ
oneway_kind = 4

-- a reply, and one with what every call may be answered in its place
abbrev pub reply_kind : ℕ
reply_kind = 2

abbrev pub exception_kind : ℕ
exception_kind = 3

-- ---- causes for which no message goes on

-- the first word is negative, and not of the strict form
abbrev pub bad_version : ℕ
bad_version = 1

-- the kind isn't one that is read here
abbrev pub bad_kind : ℕ
bad_kind = 2

-- a length or a count is negative
abbrev pub bad_length : ℕ
bad_length = 3

-- no type has this code
abbrev pub bad_type : ℕ
bad_type = 4

-- the message's name isn't UTF-8
abbrev pub bad_name : ℕ
bad_name = 5
