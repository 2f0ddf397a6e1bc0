-- The keys that a filter names: their places, and with which literals they may be compared.
use Rattle.std.specs.Prelude.{◌≡◌, ℕ, Bool, true, false, ◌&&◌, if◌then◌else◌, List, [], ◌∷◌, position, Option, None, Some, is_some}
use Rattle.std.specs.List.{list_all}
use Rattle.std.specs.Option.{unwrap_or}
use Rattle.std.specs.Str.{bytes_eq}
use Rattle.cat_values.specs.Columns.{column_named, type_kind}
use Rattle.cat_values.specs.declared.columns.TypeKind.{TypeKind}
use Rattle.cat_values.specs.declared.columns.TypeKind.TheVariants.{Boolean, Integer, Text, Date, Other}
use Rattle.cat_values.specs.declared.storage.Column.{Column}
use Rattle.filter_expr.specs.declared.expr.Kind.{Kind}
use Rattle.filter_expr.specs.declared.expr.Kind.TheVariants.{TextKey, IntegerKey}
use Rattle.filter_expr.specs.declared.expr.Comparison.{Comparison}
use Rattle.filter_expr.specs.declared.fault.FilterFault.{FilterFault}
use Rattle.filter_expr.specs.declared.fault.FilterFault.TheVariants.{Syntax, TooDeep, UnknownKey, WrongType, NoMemory}
use Rattle.filter_expr.specs.declared.token.Literal.{Literal}
use Rattle.filter_expr.specs.declared.token.Literal.TheVariants.{Quoted, Number}
use Rattle.filter_expr.specs.declared.tree.Step.{Step}
use Rattle.filter_expr.specs.declared.tree.Step.TheVariants.{Check, Skip}
use Rattle.filter_expr.specs.declared.tree.Test.{Test}
use Rattle.filter_expr.specs.declared.tree.Test.TheVariants.{Is, Among, Within}
use Rattle.filter_expr.specs.declared.tree.Written.{Written}

-- how keys of a type are compared: as texts or as integers; keys of other types may not be compared
abbrev pub key_kind : TypeKind → Option Kind
key_kind Boolean = None
key_kind Integer = Some IntegerKey
key_kind Text = Some TextKey
key_kind Date = Some TextKey
key_kind Other = None

abbrev pub kind_of : List ℕ → Option Kind
kind_of ty = key_kind (type_kind ty)

-- the place of the first key with a name, and its kind
abbrev pub place_of : List Column → List ℕ → Option ℕ
place_of keys name = position (λ column. bytes_eq column.name name) keys

abbrev pub kind_if : Option Column → Option Kind
kind_if None = None
kind_if (Some column) = kind_of column.ty

abbrev pub kind_at : List Column → List ℕ → Option Kind
kind_at keys name = kind_if (column_named keys name)

-- text keys are compared with texts, and integer keys with integers
abbrev pub fits : Kind → Literal → Bool
fits TextKey (Quoted text) = true
fits TextKey (Number n) = false
fits IntegerKey (Quoted text) = false
fits IntegerKey (Number n) = true

abbrev pub suits : Kind → Test → Bool
suits kind (Is operator literal) = fits kind literal
suits kind (Among positive literals) = list_all (fits kind) literals
suits kind (Within positive low high) = fits kind low && fits kind high

abbrev pub suits_if : Option Kind → Test → Bool
suits_if None test = false
suits_if (Some kind) test = suits kind test

abbrev pub is_right : List Column → Written → Bool
is_right keys written = suits_if (kind_at keys written.key) written.test

-- of comparisons in the order of the text, the first key that there isn't, and the first one that is compared with a literal of
-- another kind
abbrev pub first_unknown : List Column → List Written → Option (List ℕ)
first_unknown keys [] = None
first_unknown keys (written ∷ others) = if is_some (place_of keys written.key) then first_unknown keys others else Some written.key

abbrev pub first_wrong : List Column → List Written → Option (List ℕ)
first_wrong keys [] = None
first_wrong keys (written ∷ others) = if is_right keys written then first_wrong keys others else Some written.key

-- a key that there isn't comes first
abbrev pub IsKeyFault : List Column → List Written → FilterFault → Type 0
IsKeyFault keys all (Syntax place) = ⊥
IsKeyFault keys all TooDeep = ⊥
IsKeyFault keys all (UnknownKey key) = first_unknown keys all ≡ Some key
IsKeyFault keys all (WrongType key) = (first_unknown keys all ≡ None) × (first_wrong keys all ≡ Some key)
IsKeyFault keys all NoMemory = Unit {0}

-- a comparison with its key's place and kind, where there is such a key
abbrev pub bound : List Column → Written → Comparison
bound keys written = record { place = unwrap_or (place_of keys written.key) 0; kind = unwrap_or (kind_at keys written.key) TextKey; test = written.test }

abbrev pub bound_step : List Column → Step Written → Step Comparison
bound_step keys (Check written) = Check (bound keys written)
bound_step keys (Skip on count) = Skip on count
