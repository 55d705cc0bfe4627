-- What a body asks for, as the code has it.
use Rattle.std.specs.Prelude.{ℕ, ◌<◌, Option, Some, None, List}
use Rattle.vc_base.specs.Limits.{script_workers}
use Rattle.vc_model.specs.Script.{Asked, AsksCall, AsksClaim, AsksFinish}
use Rattle.vc_model.specs.Messages.{payload_in}
use Rattle.vc_wire.specs.declared.requests.Request.{Request}
use Rattle.vc_wire.specs.declared.requests.Request.TheVariants as request

-- the bytes that a call queues are those behind its fields
abbrev pub asked_by_request : Option Request → List ℕ → Option Asked
asked_by_request None body = None
asked_by_request (Some (request.Call slot call)) body = Some (AsksCall slot call (payload_in call body))
asked_by_request (Some (request.Claim worker)) body = Some (AsksClaim worker)
asked_by_request (Some (request.Finish worker)) body = Some (AsksFinish worker)

-- the slot or the worker is one of those that there are
abbrev pub IsInRange : ℕ → Request → Type 0
IsInRange slots (request.Call slot call) = slot < slots
IsInRange slots (request.Claim worker) = worker < script_workers
IsInRange slots (request.Finish worker) = worker < script_workers
