-- Events that are written.
use Rattle.std.proofs.Common.{◌≡◌, ℕ, List, [], ◌∷◌, ◌++◌, ◌+◌, ◌<◌, ◌≤◌, length, Result, sym, ap, ◌∙◌, pos, codes, flat_map, take, get_or, append_assoc, append-nil, arith}
use Rattle.std.specs.List.{zip}
use Rattle.std.proofs.lemmas.Grind.{flat_map-append}
use Rattle.std.proofs.lemmas.List.{take_all, take_more}
use Rattle.std.proofs.lemmas.Slice.Zip.{get_or-zip, length-zip}
use Rattle.cat_types.specs.declared.changes.Event.{Event}
use Rattle.thrift_binary.specs.Building.{elements_of}
use Rattle.thrift_binary.specs.Sending.{Gathers}
use Rattle.thrift_binary.specs.Strict.{elements_bytes, field_bytes, fields_bytes, list_bytes, wire_bytes}
use Rattle.thrift_binary.specs.Tree.{Bytes, Field, NoFields, elements_count}
use Rattle.thrift_binary.specs.Wire.{int_bytes, long_bytes, text_bytes}
use Rattle.thrift_binary.proofs.Building.{elements_of_bytes, elements_of_count, followed_bytes}
use Rattle.ms_structs.specs.Notifications.{cut_int, cut_long, event_fields, event_table, event_tree, events_fields, kind_name}
use Rattle.ms_structs.specs.Written.{optional_text}
use Rattle.ms_structs.proofs.PiecesWritten.{gathers_as, gathers_then}

-- a field's head and value, and behind them the rest
field_then : {T E : Type 0} (result : Result T E) (old mid new head value rest : List ℕ) → mid ≡ old ++ (head ++ value) → Gathers mid new result rest → Gathers old new result (head ++ (value ++ rest))
field_then result old mid new head value rest first last = gathers_as result old new _ _ (append_assoc head value rest) (gathers_then result old mid new (head ++ value) rest first last)

-- the fields of an event, of which the last one ends them
pub event_written : {T E : Type 0} (result : Result T E) (event : Event) (message : List ℕ) (old w1 w2 w3 w4 w5 w6 new : List ℕ)
    → w1 ≡ old ++ (field_bytes 10 (pos 1) ++ long_bytes (cut_long event.id)) → w2 ≡ w1 ++ (field_bytes 8 (pos 2) ++ int_bytes (cut_int event.moment))
    → w3 ≡ w2 ++ (field_bytes 11 (pos 3) ++ text_bytes (kind_name event.change.kind)) → w4 ≡ w3 ++ (field_bytes 11 (pos 4) ++ text_bytes event.change.db)
    → w5 ≡ w4 ++ fields_bytes (optional_text (pos 5) (event_table event)) → w6 ≡ w5 ++ (field_bytes 11 (pos 6) ++ text_bytes message)
    → Gathers w6 new result (field_bytes 11 (pos 7) ++ text_bytes (codes "hms-own-1")) → Gathers old new result (fields_bytes (event_fields event message))
event_written result event message old w1 w2 w3 w4 w5 w6 new e1 e2 e3 e4 e5 e6 last =
    let table = optional_text (pos 5) (event_table event) in
    let format = Field 11 (pos 7) (Bytes (codes "hms-own-1")) NoFields in
    let rest = Field 11 (pos 6) (Bytes message) format in
    field_then result old w1 new (field_bytes 10 (pos 1)) (long_bytes (cut_long event.id)) _ e1
    (field_then result w1 w2 new (field_bytes 8 (pos 2)) (int_bytes (cut_int event.moment)) _ e2
    (field_then result w2 w3 new (field_bytes 11 (pos 3)) (text_bytes (kind_name event.change.kind)) _ e3
    (field_then result w3 w4 new (field_bytes 11 (pos 4)) (text_bytes event.change.db) _ e4
    (gathers_as result w4 new (fields_bytes table ++ fields_bytes rest) _ (sym (followed_bytes table rest))
    (gathers_then result w4 w5 new (fields_bytes table) _ e5
    (field_then result w5 w6 new (field_bytes 11 (pos 6)) (text_bytes message) _ e6
    (gathers_as result w6 new _ (fields_bytes format) (ap (λ t. field_bytes 11 (pos 7) ++ t) (sym (append-nil (text_bytes (codes "hms-own-1"))))) last)))))))

-- the field of the events
pub events_written : {T E : Type 0} (result : Result T E) (n : ℕ) (events : List Event) (messages : List (List ℕ)) (old w1 w2 new : List ℕ) → n ≡ length events → length messages ≡ length events
    → w1 ≡ old ++ field_bytes 15 (pos 1) → w2 ≡ w1 ++ list_bytes 12 n → Gathers w2 new result (flat_map (λ pair. wire_bytes 12 (event_tree pair.0 pair.1)) (zip events messages))
    → Gathers old new result (fields_bytes (events_fields events messages))
events_written result n events messages old w1 w2 new count same e1 e2 last =
    let tree = λ (pair : Event × List ℕ). event_tree pair.0 pair.1 in
    let es = elements_of tree (zip events messages) in
    let many : n ≡ elements_count es = count ∙ long ∙ sym (elements_of_count tree (zip events messages)) in
    let items : Gathers w1 new result (list_bytes 12 (elements_count es) ++ elements_bytes 12 es) =
    gathers_then result w1 w2 new (list_bytes 12 (elements_count es)) (elements_bytes 12 es) (e2 ∙ ap (λ k. w1 ++ list_bytes 12 k) many)
    (gathers_as result w2 new _ _ (sym (elements_of_bytes 12 tree (zip events messages))) last) in
    gathers_then result old w1 new (field_bytes 15 (pos 1)) _ e1 (gathers_as result w1 new _ _ (sym (append-nil (list_bytes 12 (elements_count es) ++ elements_bytes 12 es))) items)
  where
    long : length events ≡ length (zip events messages)
    long = let both = length-zip events messages in omega (arith, same, both)

abbrev pub event_bytes : Event × List ℕ → List ℕ
event_bytes pair = wire_bytes 12 (event_tree pair.0 pair.1)

-- one event more of those that are written, and all of them
pub event_more : (at : ℕ) (events : List Event) (messages : List (List ℕ)) (event : Event) (message old now new : List ℕ) → at < length events → length messages ≡ length events
    → event ≡ get_or events at event → message ≡ get_or messages at message → now ≡ old ++ flat_map event_bytes (take at (zip events messages)) → new ≡ now ++ event_bytes (event, message)
    → new ≡ old ++ flat_map event_bytes (take (at + 1) (zip events messages))
event_more at events messages event message old now new within same is told so more =
    let both = length-zip events messages in
    let pair : get_or (zip events messages) at (event, message) ≡ (event, message) = get_or-zip events messages at (event, message) within (omega (arith, same)) ∙ ap (λ e. (e, get_or messages at message)) (sym is) ∙ ap (λ m. (event, m)) (sym told) in
    let next : take (at + 1) (zip events messages) ≡ take at (zip events messages) ++ (event, message) ∷ [] = take_more (zip events messages) at (event, message) (omega (arith, same, both)) ∙ ap (λ p. take at (zip events messages) ++ p ∷ []) pair in
    let done = flat_map event_bytes (take at (zip events messages)) in
    more ∙ ap (λ w. w ++ event_bytes (event, message)) so ∙ append_assoc old done (event_bytes (event, message))
    ∙ ap (λ t. old ++ t) (ap (λ t. done ++ t) (sym (append-nil (event_bytes (event, message)))) ∙ sym (flat_map-append event_bytes (take at (zip events messages)) ((event, message) ∷ [])) ∙ ap (flat_map event_bytes) (sym next))

pub events_all : (at : ℕ) (events : List Event) (messages : List (List ℕ)) (old now : List ℕ) → length events ≤ at → now ≡ old ++ flat_map event_bytes (take at (zip events messages)) → now ≡ old ++ flat_map event_bytes (zip events messages)
events_all at events messages old now past so =
    let both = length-zip events messages in
    so ∙ ap (λ ps. old ++ flat_map event_bytes ps) (take_all at (zip events messages) (omega (arith, past, both)))
