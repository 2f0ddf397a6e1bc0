-- What a call parsed, as part of what another parsed.
use Rattle.std.proofs.Common.{ℕ, List, Result, Ok, Err}
use Rattle.filter_expr.specs.declared.token.Token.{Token}
use Rattle.filter_expr.specs.declared.fault.FilterFault.{FilterFault}
use Rattle.filter_expr.specs.declared.fault.FilterFault.TheVariants.{Syntax, TooDeep, UnknownKey, WrongType, NoMemory}
use Rattle.filter_expr.specs.Grammar.{Parsed}

pub parsed_as : {T : Type 0} (P Q : T → List (ℕ × Token) → List (ℕ × Token) → Type 0) (S U : FilterFault → List (ℕ × Token) → Type 0) (old now new : List (ℕ × Token)) (result : Result T FilterFault) →
    ((value : T) → P value now new → Q value old new) → ((fault : FilterFault) → S fault now → U fault old) →
    Parsed now new result P S → Parsed old new result Q U
parsed_as P Q S U old now new (Ok value) f g h = f value h
parsed_as P Q S U old now new (Err (Syntax place)) f g h = g (Syntax place) h
parsed_as P Q S U old now new (Err TooDeep) f g h = g TooDeep h
parsed_as P Q S U old now new (Err (UnknownKey key)) f g h = h
parsed_as P Q S U old now new (Err (WrongType key)) f g h = h
parsed_as P Q S U old now new (Err NoMemory) f g h = h

pub fault_as : {T V : Type 0} (P : T → List (ℕ × Token) → List (ℕ × Token) → Type 0) (Q : V → List (ℕ × Token) → List (ℕ × Token) → Type 0) (S U : FilterFault → List (ℕ × Token) → Type 0) (old now : List (ℕ × Token)) (fault : FilterFault) →
    ((f : FilterFault) → S f now → U f old) → Parsed now now (Err fault) P S → Parsed old old (Err fault) Q U
fault_as P Q S U old now (Syntax place) g h = g (Syntax place) h
fault_as P Q S U old now TooDeep g h = g TooDeep h
fault_as P Q S U old now (UnknownKey key) g h = h
fault_as P Q S U old now (WrongType key) g h = h
fault_as P Q S U old now NoMemory g h = h
