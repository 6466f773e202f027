-- What a server does with a message, by what came before ("Lifecycle Messages").
use Rattle.std.specs.Prelude.{ℕ, true, false, List, Option, Some, None, codes, if◌then◌else◌}
use Rattle.std.specs.Str.{bytes_eq}
use Rattle.wgsl_server_protocol.specs.declared.error.ErrorCode.{ErrorCode}
use Rattle.wgsl_server_protocol.specs.declared.error.ErrorCode.TheVariants as error
use Rattle.wgsl_server_protocol.specs.declared.phase.Phase.{Phase}
use Rattle.wgsl_server_protocol.specs.declared.phase.Phase.TheVariants as phase
use Rattle.wgsl_server_protocol.specs.declared.phase.Step.{Step}
use Rattle.wgsl_server_protocol.specs.declared.phase.Step.TheVariants as step

-- the error of a request that is not handled: one before `initialize`, another `initialize`, and each
-- after `shutdown`
abbrev pub refusal : Phase → List ℕ → Option ErrorCode
refusal phase.Starting method =
    if bytes_eq method (codes "initialize") then None else Some error.ServerNotInitialized
refusal phase.Running method =
    if bytes_eq method (codes "initialize") then Some error.InvalidRequest else None
refusal phase.Stopped method = Some error.InvalidRequest

-- only `exit` is handled before `initialize` and after `shutdown`: it succeeds after `shutdown`
abbrev pub notification_step : Phase → List ℕ → Step
notification_step phase.Starting method = if bytes_eq method (codes "exit") then step.Exit false else step.Ignore
notification_step phase.Running method = if bytes_eq method (codes "exit") then step.Exit false else step.Handle
notification_step phase.Stopped method = if bytes_eq method (codes "exit") then step.Exit true else step.Ignore

-- the phase after a request
abbrev pub after_request : Phase → List ℕ → Phase
after_request phase.Starting method = if bytes_eq method (codes "initialize") then phase.Running else phase.Starting
after_request phase.Running method = if bytes_eq method (codes "shutdown") then phase.Stopped else phase.Running
after_request phase.Stopped method = phase.Stopped
