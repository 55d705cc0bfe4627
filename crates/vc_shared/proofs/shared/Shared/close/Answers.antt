use Rattle.std.proofs.Common.{◌≡◌, ◌∙◌, arith, length, vec_len, length-append}
use Rattle.std.proofs.lemmas.List.{length-map}
use Rattle.vc_shared.specs.Handles.{HandleState, device_at}
use Rattle.vc_shared.specs.Workers.{WorkerState}
use Rattle.vc_shared.proofs.SeatsJoined.{seats_of, seats_of_workers, keeps_all, is_closed}
use Rattle.vc_shared.proofs.shared.Shared.close.Goals as goal

pub close-core-requires-clause-whole : goal.close-core-requires-clause-whole
close-core-requires-clause-whole c =
    let device = device_at c.args.self (vec_len c.args.handles) (vec_len c.args.workers) in
    let h = c.requires.handles in
    let w = c.requires.workers in
    let n : length (seats_of c.args.handles.items) ≡ device.slots = length-map c.args.handles.items (λ (x : HandleState). x.seat) ∙ h.all in
    let joined = c.join_workers.ensures.joined device (seats_of c.args.handles.items) (c.join_handles-first.ensures.joined device h) n w in
    let l = c.join_workers.ensures.lock in
    (l.1, l.2, keeps_all device c.join_workers.new.first _ joined (let a = length-append (seats_of c.args.handles.items) (seats_of_workers c.args.workers.items) in let b = length-map c.args.workers.items (λ (x : WorkerState). x.seat) in let d = w.all in omega arith))

pub returns : goal.returns
returns c =
    let device = device_at c.args.self (vec_len c.args.handles) (vec_len c.args.workers) in
    let h = c.requires.handles in
    let w = c.requires.workers in
    let n : length (seats_of c.args.handles.items) ≡ device.slots = length-map c.args.handles.items (λ (x : HandleState). x.seat) ∙ h.all in
    let joined = c.join_workers.ensures.joined device (seats_of c.args.handles.items) (c.join_handles-first.ensures.joined device h) n w in
    let e = c.close-core.ensures in
    is_closed device c.join_workers.new.first c.close-core.result.sizes.slots c.close-core.result.sizes.workers c.close-core.result.core c.args.handles.items c.args.workers.items e.0 h w joined e.2 e.1
