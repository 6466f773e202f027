-- Which messages get a reply, and which one.
use Rattle.std.specs.Prelude.{◌≡◌, codes, Option, Some, None}
use Rattle.serde_json.specs.Data.{Data, null}
use Rattle.wgsl_server_protocol.specs.Messages.{Kind, request, notification, response, invalid}
use Rattle.wgsl_server_protocol.specs.Replies.{Outcome, failure, reply_of}
use Rattle.wgsl_server_protocol.specs.declared.error.ErrorCode.TheVariants as error

-- a value is the reply to the request with this id
abbrev pub IsReply : Data → Data → Type 0
IsReply id reply = (outcome : Outcome) × (reply ≡ reply_of id outcome)

abbrev pub IsGiven : Data → Option Data → Type 0
IsGiven id None = ⊥
IsGiven id (Some reply) = IsReply id reply

-- one reply to a request, none to a notification or a reply, and an error for what is no message
abbrev pub IsReplyTo : Kind → Option Data → Type 0
IsReplyTo (request id method) reply = IsGiven id reply
IsReplyTo (notification method) reply = reply ≡ None
IsReplyTo response reply = reply ≡ None
IsReplyTo invalid reply = reply ≡ Some (failure null error.InvalidRequest (codes "no message"))
