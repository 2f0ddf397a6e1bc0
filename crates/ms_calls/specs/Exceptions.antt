-- How refusals are told.
use Rattle.std.specs.Prelude.{◌==◌, ◌||◌, ℕ, suc, List, [], ◌∷◌, Option, None, Some, ℤ, pos, if◌then◌else◌}
use Rattle.ms_calls.specs.declared.method.Method.{Method}
use Rattle.ms_calls.specs.Methods.{exceptions_of}
use Rattle.ms_calls.specs.declared.exception.Exception.{Exception}
use Rattle.ms_calls.specs.declared.exception.Exception.TheVariants.{AlreadyExists, NoSuchObject, InvalidObject, InvalidOperation, InvalidInput, Meta}

-- the codes of a TApplicationException: the method is unknown, the server failed, the message isn't spelled as the call wants it
abbrev pub unknown_method_code : ℤ
unknown_method_code = pos 1

abbrev pub internal_error_code : ℤ
internal_error_code = pos 6

abbrev pub protocol_error_code : ℤ
protocol_error_code = pos 7

-- an unknown method, a bad argument and want of memory may answer every call; each has a code of its own
abbrev pub general_code : ℕ → Option ℤ
general_code number =
    if number == 9 then Some unknown_method_code
    else (if number == 10 then Some protocol_error_code
    else (if number == 11 then Some internal_error_code
    else None))

-- filters, replicas, store faults, event numbers, requests, dumps and loads are refused as faults of the metastore
abbrev pub exception_of : ℕ → Option Exception
exception_of number =
    if number == 1 then Some AlreadyExists
    else (if number == 2 then Some NoSuchObject
    else (if number == 3 then Some InvalidObject
    else (if number == 4 then Some InvalidOperation
    else (if number == 5 then Some InvalidInput
    else (if (number == 6) || ((number == 7) || ((number == 8) || ((number == 12) || ((number == 13) || ((number == 14) || (number == 15)))))) then Some Meta
    else None)))))

-- a number for each kind of exception, by which kinds are told apart
abbrev pub exception_number : Exception → ℕ
exception_number AlreadyExists = 0
exception_number NoSuchObject = 1
exception_number InvalidObject = 2
exception_number InvalidOperation = 3
exception_number InvalidInput = 4
exception_number Meta = 5

-- the place of an exception in a list the first of which has this place
abbrev pub place_from : ℕ → Exception → List Exception → Option ℤ
place_from place exception [] = None
place_from place exception (declared ∷ others) = if exception_number declared == exception_number exception then Some (pos place) else place_from (suc place) exception others

-- the field under which a call declares an exception: its place among those that the call declares
abbrev pub exception_id : Method → Exception → Option ℤ
exception_id method exception = place_from 1 exception (exceptions_of method)

-- the field under which a call declares the exception of a refusal
abbrev pub id_of : Method → Option Exception → Option ℤ
id_of method None = None
id_of method (Some exception) = exception_id method exception

-- the field under which a call, if it is known, declares the exception of the refusal with this number
abbrev pub declared_id : Option Method → ℕ → Option ℤ
declared_id None number = None
declared_id (Some method) number = id_of method (exception_of number)
