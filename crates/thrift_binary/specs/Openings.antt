-- What a reader of heads finds.
use Rattle.std.specs.Prelude.{◌≡◌, ℕ, ◌<◌, ◌≤◌, Bool, List, [], length, Option, Some, None, ⊤}
use Rattle.cat_values.specs.declared.text.TheConstants.{TEXT_LIMIT}
use Rattle.thrift_binary.specs.declared.fault.WireFault.{WireFault}
use Rattle.thrift_binary.specs.declared.fault.WireFault.TheVariants.{Truncated, BadWire, TooLarge, ReadFault, NoMemory}
use Rattle.thrift_binary.specs.declared.head.Head.{Head}
use Rattle.thrift_binary.specs.declared.heads.FirstWord.{FirstWord}
use Rattle.thrift_binary.specs.declared.heads.FirstWord.TheVariants.{OfStrict, OfOld}
use Rattle.thrift_binary.specs.declared.progress.Progress.{Progress}
use Rattle.thrift_binary.specs.Messages.{Message, Opening, Strict, Old, IsOpening, IsHead, IsMessage}

-- what the reader found in the first word, in the relation's words
abbrev pub meant : FirstWord → Opening
meant (OfStrict kind) = Strict kind
meant (OfOld n) = Old n

-- the name of the old form is no longer than a text
abbrev pub IsBounded : FirstWord → Type 0
IsBounded (OfStrict kind) = ⊤
IsBounded (OfOld n) = n ≤ TEXT_LIMIT

-- a word of four bytes, or the end of the input
abbrev pub IsWordOrEnd : Option (List ℕ) → List ℕ → Type 0
IsWordOrEnd None bytes = bytes ≡ []
IsWordOrEnd (Some word) bytes = (bytes ≡ word) × (length word ≡ 4)

-- Kinds, in what follows, are the kinds that a message may have.

-- the head of a message, in either form, or the end of the input
abbrev pub IsHeadOrEnd : (ℕ → Type 0) → Option Head → List ℕ → Type 0
IsHeadOrEnd Kinds None bytes = bytes ≡ []
IsHeadOrEnd Kinds (Some head) bytes = (strict : Bool) × IsHead Kinds (strict, head) bytes

-- a message with this head, or the end of the input
abbrev pub IsMessageOrEnd : (ℕ → Type 0) → Option Head → List ℕ → Type 0
IsMessageOrEnd Kinds None bytes = bytes ≡ []
IsMessageOrEnd Kinds (Some head) bytes = (m : Message) × (m.head ≡ head) × IsMessage Kinds m bytes

-- a reader that had no fault tells that the input ends only behind a byte more
abbrev pub IsInside : Progress → WireFault → Type 0
IsInside old (Truncated at) = old.fault ≡ None → old.place < at
IsInside old (BadWire code at) = ⊤
IsInside old (TooLarge at) = ⊤
IsInside old ReadFault = ⊤
IsInside old NoMemory = ⊤

-- the first word of a message, or the end of the input
abbrev pub IsOpeningOrEnd : (ℕ → Type 0) → Option FirstWord → List ℕ → Type 0
IsOpeningOrEnd Kinds None bytes = bytes ≡ []
IsOpeningOrEnd Kinds (Some found) bytes = IsOpening Kinds (meant found) bytes
