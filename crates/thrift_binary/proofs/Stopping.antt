-- A reader that stopped behind whole messages knows how the text ends.
use Rattle.std.proofs.Common.{◌≡◌, ◌≢◌, ℕ, ◌+◌, ◌≤◌, List, [], ◌∷◌, ◌++◌, length, Option, Some, None, sym, ap, ◌∙◌, subst, append_assoc, append-nil, arith, inl, inr}
use Rattle.std.specs.Io.KnownBytes.{Consumes, IsAtEnd}
use Rattle.thrift_binary.specs.declared.fault.WireFault.{WireFault}
use Rattle.thrift_binary.specs.declared.fault.WireFault.TheVariants.{Truncated, BadWire, TooLarge, ReadFault, NoMemory}
use Rattle.thrift_binary.specs.Taking.{Stop, room_at, Tells}
use Rattle.thrift_binary.specs.Messages.{Message, StopsMessage, AreMessages, Truncated as TruncatedAt, Bad_at, Large_at, SpellsFrom}
use Rattle.thrift_binary.proofs.OneText.{ends_truncated, ends_bad, ends_large, ends_past}

module _ (Kinds : ℕ → Type 0) (start : ℕ) (ms : List Message) where
  -- behind the whole messages these bytes were taken, and whatever more stands behind them, the text ends as the fault tells
  abbrev pub EndsSo : List ℕ → List ℕ → Option (List ℕ) → WireFault → Type 0
  EndsSo whole taken left (Truncated at) = IsAtEnd left × SpellsFrom Kinds start (whole ++ taken) ms (TruncatedAt at)
  EndsSo whole taken left (BadWire code at) = (more : List ℕ) → SpellsFrom Kinds start (whole ++ (taken ++ more)) ms (Bad_at code at)
  EndsSo whole taken left (TooLarge at) = (more : List ℕ) → SpellsFrom Kinds start (whole ++ (taken ++ more)) ms (Large_at at)
  EndsSo whole taken left ReadFault = Unit {0}
  EndsSo whole taken left NoMemory = Unit {0}

  -- the fault may be one for bytes that are there, or at the end of the input at least one byte of the message came
  abbrev pub IsInside : List ℕ → WireFault → Type 0
  IsInside front (Truncated at) = front ≢ []
  IsInside front (BadWire code at) = Unit {0}
  IsInside front (TooLarge at) = Unit {0}
  IsInside front ReadFault = Unit {0}
  IsInside front NoMemory = Unit {0}

  within_room : (whole front : List ℕ) (place limit : ℕ) → place ≡ start + length whole → limit ≡ place + room_at place → place + length front ≤ limit → length front ≤ room_at (start + length whole)
  within_room whole front place limit here room within =
      let fits : length front ≤ room_at place = omega (arith, room, within) in
      subst (λ k. length front ≤ room_at k) here fits

  full_room : (whole front : List ℕ) (place limit : ℕ) → place ≡ start + length whole → limit ≡ place + room_at place → place + length front ≡ limit → length front ≡ room_at (start + length whole)
  full_room whole front place limit here room full =
      let fits : length front ≡ room_at place = omega (arith, room, full) in
      fits ∙ ap room_at here

  pub stop_ends : (whole front : List ℕ) (stop : Stop) (fault : WireFault) (left left' : Option (List ℕ)) (place limit : ℕ) → AreMessages Kinds start ms whole → place ≡ start + length whole → limit ≡ place + room_at place
      → StopsMessage Kinds stop front → IsInside front fault → Tells left left' place limit front stop fault → (taken : List ℕ) × Consumes left left' taken × EndsSo whole taken left' fault
  stop_ends whole front stop (Truncated at) left left' place limit p here room stops inside t =
      (front, t.1, (t.2, ends_truncated Kinds start ms whole front at p (subst (λ s. StopsMessage Kinds s front) t.0 stops) inside (within_room whole front place limit here room t.3) (omega (arith, here, t.4))))
  stop_ends whole front stop (BadWire code at) left left' place limit p here room stops inside t =
      (front, t.2, λ more. ends_bad Kinds start ms whole front more code t.0 at p (subst (λ s. StopsMessage Kinds s front) t.1 stops) (within_room whole front place limit here room t.3) (omega (arith, here, t.4)))
  stop_ends whole front stop (TooLarge at) left left' place limit p here room stops inside (inl t) =
      (front, t.2, λ more. ends_large Kinds start ms whole front more t.0 at p (subst (λ s. StopsMessage Kinds s front) t.1 stops) (within_room whole front place limit here room t.3) (omega (arith, here, t.4)))
  stop_ends whole front stop (TooLarge at) left left' place limit p here room stops inside (inr t) = (
    front ++ t.0 ∷ [],
    t.2,
    λ more.
        let together : whole ++ (front ++ t.0 ∷ more) ≡ whole ++ ((front ++ t.0 ∷ []) ++ more) = ap (λ bytes. whole ++ bytes) (sym (append_assoc front (t.0 ∷ []) more)) in
        let past = ends_past Kinds start ms whole front more t.0 at p (subst (λ s. StopsMessage Kinds s front) t.1 stops) (full_room whole front place limit here room t.3) (omega (arith, here, t.3, t.4)) in
        subst (λ text. SpellsFrom Kinds start text ms (Large_at at)) together past,
  )
  stop_ends whole front stop ReadFault left left' place limit p here room stops inside t = (front, t.1, tt)
  stop_ends whole front stop NoMemory left left' place limit p here room stops inside t = (front, t.1, tt)

  -- how the text ends for this fault
  abbrev pub Ended : List ℕ → WireFault → Type 0
  Ended text (Truncated at) = SpellsFrom Kinds start text ms (TruncatedAt at)
  Ended text (BadWire code at) = SpellsFrom Kinds start text ms (Bad_at code at)
  Ended text (TooLarge at) = SpellsFrom Kinds start text ms (Large_at at)
  Ended text ReadFault = Unit {0}
  Ended text NoMemory = Unit {0}

  whole_text : (text whole taken : List ℕ) (left left' : Option (List ℕ)) (fault : WireFault) → Consumes (Some text) left whole → Consumes left left' taken → EndsSo whole taken left' fault → Ended text fault
  whole_text text whole taken None left' fault p q ends = absurd p
  whole_text text whole taken (Some rest) None fault p q ends = absurd q
  whole_text text whole taken (Some rest) (Some more) (Truncated at) p q ends =
      let together : whole ++ taken ≡ text = ap (λ bytes. whole ++ bytes) (sym (append-nil taken) ∙ ap (λ m. taken ++ m) (sym ends.0) ∙ sym q) ∙ sym p in
      subst (λ t. SpellsFrom Kinds start t ms (TruncatedAt at)) together ends.1
  whole_text text whole taken (Some rest) (Some more) (BadWire code at) p q ends =
      subst (λ t. SpellsFrom Kinds start t ms (Bad_at code at)) (ap (λ bytes. whole ++ bytes) (sym q) ∙ sym p) (ends more)
  whole_text text whole taken (Some rest) (Some more) (TooLarge at) p q ends =
      subst (λ t. SpellsFrom Kinds start t ms (Large_at at)) (ap (λ bytes. whole ++ bytes) (sym q) ∙ sym p) (ends more)
  whole_text text whole taken (Some rest) (Some more) ReadFault p q ends = tt
  whole_text text whole taken (Some rest) (Some more) NoMemory p q ends = tt

  -- the same of a source that tells its text
  pub text_ends : (text whole front : List ℕ) (stop : Stop) (fault : WireFault) (left left' : Option (List ℕ)) (place limit : ℕ) → Consumes (Some text) left whole → AreMessages Kinds start ms whole → place ≡ start + length whole → limit ≡ place + room_at place
      → StopsMessage Kinds stop front → IsInside front fault → Tells left left' place limit front stop fault → Ended text fault
  text_ends text whole front stop fault left left' place limit before p here room stops inside t =
      let e = stop_ends whole front stop fault left left' place limit p here room stops inside t in
      whole_text text whole e.0 left left' fault before e.1 e.2
