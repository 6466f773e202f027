-- Messages of the protocol as values of JSON ("Abstract Message").
use Rattle.std.specs.Prelude.{List, ℕ, Bool, ◌&&◌, ◌||◌, codes, Option, Some, None, if◌then◌else◌}
use Rattle.std.specs.Option.{is_some, option_and_then}
use Rattle.serde_json.specs.Data.{Data}
use Rattle.serde_json.specs.Find.{get, as_str}
use Rattle.serde_json.specs.View.{view}
use Rattle.wgsl_server_protocol.specs.declared.message.Message.{Message}
use Rattle.wgsl_server_protocol.specs.declared.message.Message.TheVariants as message

-- a request with its id and method, a notification with its method, a reply, or none of these
pub data Kind : Type 0 where
  request : Data → List ℕ → Kind
  notification : List ℕ → Kind
  response : Kind
  invalid : Kind

-- a reply has an id, and a result or an error
abbrev pub is_response : Data → Bool
is_response value = is_some (get (codes "id") value)
    && (is_some (get (codes "result") value) || is_some (get (codes "error") value))

abbrev pub kind_by : Option (List ℕ) → Option Data → Bool → Kind
kind_by None id reply = if reply then response else invalid
kind_by (Some method) None reply = notification method
kind_by (Some method) (Some id) reply = request id method

-- what a value is
abbrev pub kind_of : Data → Kind
kind_of value =
    kind_by (option_and_then as_str (get (codes "method") value)) (get (codes "id") value) (is_response value)

-- the message of the code as plain data
abbrev pub message_view : Message → Kind
message_view (message.Request id method) = request (view id.now) method.now
message_view (message.Notification method) = notification method.now
message_view message.Response = response
message_view message.Invalid = invalid
