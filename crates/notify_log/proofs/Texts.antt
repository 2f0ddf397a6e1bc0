-- The JSON of a message is its text.
use Rattle.std.proofs.Common.{◌≡◌, refl, ap, ◌∙◌, ℕ, List, [], ◌∷◌, ◌++◌, Bool, false, codes, map, take, decimal, length}
use Rattle.json.specs.Print.{quoted}
use Rattle.serde_json.specs.Data.{Data, string}
use Rattle.serde_json.specs.View.{items_of}
use Rattle.serde_json.specs.Written.{compact_text, has_float, items_have_float, items_text}
use Rattle.serde_json.proofs.OnLiterals.{serde_json_on_literals}
use Rattle.cat_types.specs.declared.changes.Op.{Op}
use Rattle.cat_types.specs.declared.changes.Op.TheVariants.{PutDb, DropDb, PutTable, DropTable, MoveTable, PutPart, DropPart, MovePart}
use Rattle.cat_types.specs.declared.changes.Event.{Event}
use Rattle.notify_log.specs.Messages.{elements_text, message_text, op_text, others_text}
use Rattle.notify_log.specs.Values.{message_data, op_data, texts_data}

others : {T : Type 0} (json : T → Data) (each : T → List ℕ) → ((x : T) → compact_text (json x) ≡ each x) → (xs : List T) → items_text Bool.true (items_of (map json xs)) ≡ others_text each xs
others json each same [] = refl
others json each same (x ∷ xs) =
    ap (λ t. 44 ∷ (t ++ items_text Bool.true (items_of (map json xs)))) (same x)
    ∙ ap (λ r. 44 ∷ (each x ++ r)) (others json each same xs)

pub elements : {T : Type 0} (json : T → Data) (each : T → List ℕ) → ((x : T) → compact_text (json x) ≡ each x) → (xs : List T) → items_text false (items_of (map json xs)) ≡ elements_text each xs
elements json each same [] = refl
elements json each same (x ∷ xs) =
    ap (λ t. t ++ items_text Bool.true (items_of (map json xs))) (same x)
    ∙ ap (λ r. each x ++ r) (others json each same xs)

quoted_elements : (ts : List (List ℕ)) → items_text false (items_of (map string ts)) ≡ elements_text quoted ts
quoted_elements = elements string quoted (λ _. refl)

pub op_same : (op : Op) → compact_text (op_data op) ≡ op_text op
unfolding serde_json_on_literals
op_same (PutDb rec) = refl
op_same DropDb = refl
op_same (PutTable table born rec) = refl
op_same (DropTable table born) = refl
op_same (MoveTable table born to rec) = refl
op_same (PutPart table born values rec) = ap (λ e. codes "{\"op\":\"put_part\",\"table\":" ++ (quoted table ++ (codes ",\"values\":[" ++ (e ++ codes "}")))) (quoted_elements values)
op_same (DropPart table born values) = ap (λ e. codes "{\"op\":\"drop_part\",\"table\":" ++ (quoted table ++ (codes ",\"values\":[" ++ (e ++ codes "}")))) (quoted_elements values)
op_same (MovePart table born values to rec) =
    ap (λ e. codes "{\"op\":\"move_part\",\"table\":" ++ (quoted table ++ (codes ",\"to\":[" ++ (e ++ (codes ",\"values\":[" ++ (items_text false (items_of (map string values)) ++ codes "}")))))) (quoted_elements to)
    ∙ ap (λ e. codes "{\"op\":\"move_part\",\"table\":" ++ (quoted table ++ (codes ",\"to\":[" ++ (elements_text quoted to ++ (codes ",\"values\":[" ++ (e ++ codes "}")))))) (quoted_elements values)

pub message_same : (event : Event) → compact_text (message_data event) ≡ message_text event
unfolding serde_json_on_literals
message_same event =
    ap (λ e. codes "{\"count\":" ++ (decimal (length event.change.ops) ++ (codes ",\"db\":" ++ (quoted event.change.db ++ (codes ",\"ops\":[" ++ (e ++ codes "}"))))))
    (elements op_data op_text op_same (take 20 event.change.ops))

-- none of them is a float
no_floats : {T : Type 0} (json : T → Data) → ((x : T) → has_float (json x) ≡ false) → (xs : List T) → items_have_float (items_of (map json xs)) ≡ false
no_floats json none [] = refl
no_floats json none (x ∷ xs) = rw (none x) (no_floats json none xs)

texts_plain : (ts : List (List ℕ)) → has_float (texts_data ts) ≡ false
texts_plain = no_floats string (λ _. refl)

op_plain : (op : Op) → has_float (op_data op) ≡ false
op_plain (PutDb rec) = refl
op_plain DropDb = refl
op_plain (PutTable table born rec) = refl
op_plain (DropTable table born) = refl
op_plain (MoveTable table born to rec) = refl
op_plain (PutPart table born values rec) = rw (texts_plain values) refl
op_plain (DropPart table born values) = rw (texts_plain values) refl
op_plain (MovePart table born values to rec) = rw (texts_plain to, texts_plain values) refl

pub message_plain : (event : Event) → has_float (message_data event) ≡ false
message_plain event = rw (no_floats op_data op_plain (take 20 event.change.ops)) refl

-- what was written of the value is the message's text
pub told : (event : Event) (text : List ℕ) (json : Data) → json ≡ message_data event → (has_float json ≡ false → text ≡ compact_text json) → text ≡ message_text event
told event text json same written = written (ap has_float same ∙ message_plain event) ∙ (ap compact_text same ∙ message_same event)
