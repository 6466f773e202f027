-- Replies as values of JSON ("Response Message"). Members are in the order of their keys.
use Rattle.std.specs.Prelude.{ℕ, ◌-◌, ℤ, negsuc, List, codes, string_bytes}
use Rattle.serde_json.specs.Data.{Data, number, string, object, member, no_members}
use Rattle.serde_json.specs.Find.{of_integer}
use Rattle.serde_json.specs.View.{view}
use Rattle.wgsl_server_protocol.specs.declared.reply.Outcome as code
use Rattle.wgsl_server_protocol.specs.declared.reply.Outcome.TheVariants as outcome
use Rattle.wgsl_server_protocol.specs.declared.error.ErrorCode.{ErrorCode}
use Rattle.wgsl_server_protocol.specs.declared.error.ErrorCode.TheVariants as error

-- a number below 0
abbrev pub minus : ℕ → ℤ
minus n = negsuc (n - 1)

-- the number of an error
abbrev pub code_of : ErrorCode → ℤ
code_of error.ParseError = minus 32700
code_of error.InvalidRequest = minus 32600
code_of error.MethodNotFound = minus 32601
code_of error.InvalidParams = minus 32602
code_of error.InternalError = minus 32603
code_of error.ServerNotInitialized = minus 32002
code_of error.RequestFailed = minus 32803
code_of error.RequestCancelled = minus 32800

-- the reply to a request with its result
abbrev pub success : Data → Data → Data
success id content = object (member (codes "id") id (member (codes "jsonrpc") (string (codes "2.0"))
    (member (codes "result") content no_members)))

-- the reply to a request with an error
abbrev pub failure : Data → ErrorCode → List ℕ → Data
failure id code text = object (member (codes "error")
    (object (member (codes "code") (number (of_integer (code_of code)))
    (member (codes "message") (string text) no_members)))
    (member (codes "id") id (member (codes "jsonrpc") (string (codes "2.0")) no_members)))

-- what a request comes to: its result, an error, or that there is no such method
pub data Outcome : Type 0 where
  done : Data → Outcome
  failed : ErrorCode → List ℕ → Outcome
  unknown : Outcome

-- the reply to a request
abbrev pub reply_of : Data → Outcome → Data
reply_of id (done content) = success id content
reply_of id (failed code text) = failure id code text
reply_of id unknown = failure id error.MethodNotFound (codes "unknown method")

-- what the code has as plain data
abbrev pub outcome_view : code.Outcome → Outcome
outcome_view (outcome.Done content) = done (view content)
outcome_view (outcome.Failed code text) = failed code (string_bytes text)
outcome_view outcome.Unknown = unknown

-- a notification of the server
abbrev pub notification : List ℕ → Data → Data
notification method params = object (member (codes "jsonrpc") (string (codes "2.0"))
    (member (codes "method") (string method) (member (codes "params") params no_members)))
