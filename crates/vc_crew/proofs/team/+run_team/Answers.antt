use Rattle.std.proofs.Common.{ℕ, ◌≡◌, ◌++◌, ◌∷◌, [], List, length, vec_len, sym, ap, ◌∙◌, subst, arith}
use Rattle.vc_shared.specs.Handles.{HandleState, new_handle}
use Rattle.vc_crew.specs.declared.calling.SeatedFlow.{SeatedFlow}
use Rattle.vc_crew.specs.declared.calling.Done.{Done}
use Rattle.vc_crew.specs.Flowing.{ArePaired, MayFlow, HasFlowed}
use Rattle.vc_crew.specs.Sites.{device_of}
use Rattle.vc_crew.proofs.StartedFlows.{may_begin, may_still, given_up, of_ok, of_err, ran_behind, flowed_as}
use Rattle.vc_crew.proofs.PairedLists.{all_last, all_more, paired_last}
use Rattle.vc_crew.proofs.FlowsTogether.{flow_back}
use Rattle.vc_crew.proofs.team.+run_team.Goals as goal

pub begin-requires-after_bounds : goal.begin-requires-after_bounds
begin-requires-after_bounds g t c κs within =
    let device = device_of c.args.site.now in
    may_begin g.F.Flow.may device (vec_len c.last_handle.new.handles) c.in-Some.handle c.in-Some-pop.flow
    (c.in-Some.ensures.handle device c.requires.handles)
    (all_last (λ (f : g.row.F.Denot). g.F.Flow.may f) c.pop.new.self.items c.in-Some-pop.flow c.args.team.flows.items c.requires.may c.in-Some-pop.ensures.items).1

pub run_team-ran-requires-clause-handles : goal.run_team-ran-requires-clause-handles
run_team-ran-requires-clause-handles g t c κs within =
    c.in-Some.ensures.others (device_of c.args.site.now) c.requires.handles

pub run_team-ran-requires-clause-may : goal.run_team-ran-requires-clause-may
run_team-ran-requires-clause-may g t c κs within =
    (all_last (λ (f : g.row.F.Denot). g.F.Flow.may f) c.pop.new.self.items c.in-Some-pop.flow c.args.team.flows.items c.requires.may c.in-Some-pop.ensures.items).0

pub run_team-ran-requires-in-Err-Ok-clause-handles : goal.run_team-ran-requires-in-Err-Ok-clause-handles
run_team-ran-requires-in-Err-Ok-clause-handles g t c κs within =
    c.in-Some.ensures.others (device_of c.args.site.now) c.requires.handles

pub run_team-ran-requires-in-Err-Ok-clause-may : goal.run_team-ran-requires-in-Err-Ok-clause-may
run_team-ran-requires-in-Err-Ok-clause-may g t c κs within =
    (all_last (λ (f : g.row.F.Denot). g.F.Flow.may f) c.pop.new.self.items c.in-Some-pop.flow c.args.team.flows.items c.requires.may c.in-Some-pop.ensures.items).0

pub run_team-ran-requires-in-Err-Err-clause-handles : goal.run_team-ran-requires-in-Err-Err-clause-handles
run_team-ran-requires-in-Err-Err-clause-handles g t c κs within =
    c.in-Some.ensures.others (device_of c.args.site.now) c.requires.handles

pub run_team-ran-requires-in-Err-Err-clause-may : goal.run_team-ran-requires-in-Err-Err-clause-may
run_team-ran-requires-in-Err-Err-clause-may g t c κs within =
    (all_last (λ (f : g.row.F.Denot). g.F.Flow.may f) c.pop.new.self.items c.in-Some-pop.flow c.args.team.flows.items c.requires.may c.in-Some-pop.ensures.items).0

pub behind-requires-after_bounds : goal.behind-requires-after_bounds
behind-requires-after_bounds g t c κs within =
    let device = device_of c.args.site.now in
    let allowed =
    may_begin g.F.Flow.may device (vec_len c.last_handle.new.handles) c.in-Some.handle c.in-Some-pop.flow
    (c.in-Some.ensures.handle device c.requires.handles)
    (all_last (λ (f : g.row.F.Denot). g.F.Flow.may f) c.pop.new.self.items c.in-Some-pop.flow c.args.team.flows.items c.requires.may c.in-Some-pop.ensures.items).1 in
    given_up
    (λ (d : Done g.row.F.Denot g.row.F-End.Denot). HasFlowed g.F.Flow.does c.in-Ok.started.promise.flow.value d.flow d.end c.in-Ok.started.promise.handle.value d.handle)
    (λ (x : SeatedFlow g.row.F.Denot g.row.F-End.Denot). (x.handle ≡ c.in-Ok.started.promise.handle.value) × (x.flow ≡ c.in-Ok.started.promise.flow.value))
    (λ (x : SeatedFlow g.row.F.Denot g.row.F-End.Denot). MayFlow g.F.Flow.may (device_of c.args.site.now) x.handle x.flow) c.join.result
    c.join.ensures
    (λ x q. may_still g.F.Flow.may device c.in-Some.handle x.handle c.in-Some-pop.flow x.flow allowed (q.0 ∙ c.in-Ok.ensures.handle) (q.1 ∙ c.in-Ok.ensures.flow))

pub run_team-ran-requires-in-Err-Err-clause-own : goal.run_team-ran-requires-in-Err-Err-clause-own
run_team-ran-requires-in-Err-Err-clause-own g t c κs within =
    let device = device_of c.args.site.now in
    let allowed =
    may_begin g.F.Flow.may device (vec_len c.last_handle.new.handles) c.in-Some.handle c.in-Some-pop.flow
    (c.in-Some.ensures.handle device c.requires.handles)
    (all_last (λ (f : g.row.F.Denot). g.F.Flow.may f) c.pop.new.self.items c.in-Some-pop.flow c.args.team.flows.items c.requires.may c.in-Some-pop.ensures.items).1 in
    let same =
    of_err (λ (d : Done g.row.F.Denot g.row.F-End.Denot). HasFlowed g.F.Flow.does c.in-Some-pop.flow d.flow d.end c.in-Some.handle d.handle)
    (λ (x : SeatedFlow g.row.F.Denot g.row.F-End.Denot). (x.handle ≡ c.in-Some.handle) × (x.flow ≡ c.in-Some-pop.flow)) c.in-Err-Err.field-0
    c.in-Err-Err.seated c.in-Err-Err.ensures.refused c.in-Err-Err.field-0-is in
    all_more (λ (x : SeatedFlow g.row.F.Denot g.row.F-End.Denot). MayFlow g.F.Flow.may (device_of c.args.site.now) x.handle x.flow)
    c.args.caller.seated_flows.items c.in-Err-Err.seated c.with_flow-caller.result.seated_flows.items c.requires.own
    (may_still g.F.Flow.may device c.in-Some.handle c.in-Err-Err.seated.handle c.in-Some-pop.flow c.in-Err-Err.seated.flow allowed same.0 same.1)
    c.with_flow-caller.ensures.seated_flows

pub returns-in-Ok-clause-flowed : goal.returns-in-Ok-clause-flowed
returns-in-Ok-clause-flowed g t c =
    let device = device_of c.args.site.now in
    let number : vec_len c.last_handle.new.handles ≡ length c.pop.new.self.items = omega (arith, c.in-Some.ensures.some, c.requires.flows, c.in-Some-pop.ensures.len, c.pop.new.self.ok.0) in
    let fresh : c.in-Some.handle ≡ new_handle device (length c.pop.new.self.items) = c.in-Some.ensures.handle device c.requires.handles ∙ ap (λ (n : ℕ). new_handle device n) number in
    let flowed =
    ran_behind g.F.Flow.does (λ (d : Done g.row.F.Denot g.row.F-End.Denot). d.flow) (λ (d : Done g.row.F.Denot g.row.F-End.Denot). d.end)
    (λ (d : Done g.row.F.Denot g.row.F-End.Denot). d.handle) (λ (x : SeatedFlow g.row.F.Denot g.row.F-End.Denot). x.flow)
    (λ (x : SeatedFlow g.row.F.Denot g.row.F-End.Denot). x.handle) c.join.result c.in-Ok.started.promise.flow.value c.in-Some-pop.flow
    c.in-Ok.started.promise.handle.value c.in-Some.handle c.behind.result c.join.ensures c.behind.ensures c.in-Ok.ensures.handle
    c.in-Ok.ensures.flow in
    flow_back g.F.Flow.does device c.pop.new.self.items c.run_team-ran.result.team.flows.items c.run_team-ran.result.team.ends.items
    c.run_team-ran.result.team.handles.items c.args.team.flows.items c.with_done.result.team.flows.items c.with_done.result.team.ends.items
    c.with_done.result.team.handles.items c.in-Some-pop.flow c.behind.result.flow c.behind.result.end c.in-Some.handle c.behind.result.handle
    c.run_team-ran.ensures.flowed fresh flowed c.in-Some-pop.ensures.items c.with_done.ensures.flows c.with_done.ensures.ends
    c.with_done.ensures.handles

pub returns-in-Err-Ok-clause-flowed : goal.returns-in-Err-Ok-clause-flowed
returns-in-Err-Ok-clause-flowed g t c =
    let device = device_of c.args.site.now in
    let number : vec_len c.last_handle.new.handles ≡ length c.pop.new.self.items = omega (arith, c.in-Some.ensures.some, c.requires.flows, c.in-Some-pop.ensures.len, c.pop.new.self.ok.0) in
    let fresh : c.in-Some.handle ≡ new_handle device (length c.pop.new.self.items) = c.in-Some.ensures.handle device c.requires.handles ∙ ap (λ (n : ℕ). new_handle device n) number in
    let flowed =
    of_ok (λ (d : Done g.row.F.Denot g.row.F-End.Denot). HasFlowed g.F.Flow.does c.in-Some-pop.flow d.flow d.end c.in-Some.handle d.handle)
    (λ (x : SeatedFlow g.row.F.Denot g.row.F-End.Denot). (x.handle ≡ c.in-Some.handle) × (x.flow ≡ c.in-Some-pop.flow)) c.in-Err-Ok.field-0
    c.in-Err-Ok.done c.in-Err-Ok.ensures.refused c.in-Err-Ok.field-0-is in
    flow_back g.F.Flow.does device c.pop.new.self.items c.run_team-ran-in-Err-Ok.result.team.flows.items
    c.run_team-ran-in-Err-Ok.result.team.ends.items c.run_team-ran-in-Err-Ok.result.team.handles.items c.args.team.flows.items
    c.with_done-in-Err-Ok.result.team.flows.items c.with_done-in-Err-Ok.result.team.ends.items c.with_done-in-Err-Ok.result.team.handles.items
    c.in-Some-pop.flow c.in-Err-Ok.done.flow c.in-Err-Ok.done.end c.in-Some.handle c.in-Err-Ok.done.handle c.run_team-ran-in-Err-Ok.ensures.flowed
    fresh flowed c.in-Some-pop.ensures.items c.with_done-in-Err-Ok.ensures.flows c.with_done-in-Err-Ok.ensures.ends
    c.with_done-in-Err-Ok.ensures.handles

pub returns-in-Err-Err-clause-flowed : goal.returns-in-Err-Err-clause-flowed
returns-in-Err-Err-clause-flowed g t c =
    let device = device_of c.args.site.now in
    let number : vec_len c.last_handle.new.handles ≡ length c.pop.new.self.items = omega (arith, c.in-Some.ensures.some, c.requires.flows, c.in-Some-pop.ensures.len, c.pop.new.self.ok.0) in
    let fresh : c.in-Some.handle ≡ new_handle device (length c.pop.new.self.items) = c.in-Some.ensures.handle device c.requires.handles ∙ ap (λ (n : ℕ). new_handle device n) number in
    let same =
    of_err (λ (d : Done g.row.F.Denot g.row.F-End.Denot). HasFlowed g.F.Flow.does c.in-Some-pop.flow d.flow d.end c.in-Some.handle d.handle)
    (λ (x : SeatedFlow g.row.F.Denot g.row.F-End.Denot). (x.handle ≡ c.in-Some.handle) × (x.flow ≡ c.in-Some-pop.flow)) c.in-Err-Err.field-0
    c.in-Err-Err.seated c.in-Err-Err.ensures.refused c.in-Err-Err.field-0-is in
    let pair =
    paired_last
    (λ (x : SeatedFlow g.row.F.Denot g.row.F-End.Denot) (d : Done g.row.F.Denot g.row.F-End.Denot). HasFlowed g.F.Flow.does x.flow d.flow d.end x.handle d.handle)
    c.args.caller.seated_flows.items c.without_own-ran.result.0.run.called.done.items c.in-Err-Err.seated c.without_own-ran.result.1
    c.with_flow-caller.result.seated_flows.items c.run_team-ran-in-Err-Err.result.run.called.done.items c.run_team-ran-in-Err-Err.ensures.own
    c.with_flow-caller.ensures.seated_flows c.without_own-ran.ensures.own in
    let own = c.without_own-ran.result.1 in
    let flowed = flowed_as g.F.Flow.does c.in-Some-pop.flow own.flow c.in-Err-Err.seated.flow own.end c.in-Some.handle own.handle c.in-Err-Err.seated.handle pair.1 same.0 same.1 in
    flow_back g.F.Flow.does device c.pop.new.self.items c.run_team-ran-in-Err-Err.result.team.flows.items
    c.run_team-ran-in-Err-Err.result.team.ends.items c.run_team-ran-in-Err-Err.result.team.handles.items c.args.team.flows.items
    c.with_done-in-Err-Err.result.team.flows.items c.with_done-in-Err-Err.result.team.ends.items c.with_done-in-Err-Err.result.team.handles.items
    c.in-Some-pop.flow own.flow own.end c.in-Some.handle own.handle c.run_team-ran-in-Err-Err.ensures.flowed fresh flowed c.in-Some-pop.ensures.items
    (c.with_done-in-Err-Err.ensures.flows ∙ ap (λ (l : List g.row.F.Denot). l ++ own.flow ∷ []) c.without_own-ran.ensures.flows)
    (c.with_done-in-Err-Err.ensures.ends ∙ ap (λ (l : List g.row.F-End.Denot). l ++ own.end ∷ []) c.without_own-ran.ensures.ends)
    (c.with_done-in-Err-Err.ensures.handles ∙ ap (λ (l : List HandleState). l ++ own.handle ∷ []) c.without_own-ran.ensures.handles)

pub returns-in-Err-Err-clause-own : goal.returns-in-Err-Err-clause-own
returns-in-Err-Err-clause-own g t c =
    subst (λ l.
    ArePaired
    (λ (x : SeatedFlow g.row.F.Denot g.row.F-End.Denot) (d : Done g.row.F.Denot g.row.F-End.Denot). HasFlowed g.F.Flow.does x.flow d.flow d.end x.handle d.handle)
    c.args.caller.seated_flows.items l)
    (sym c.with_done-in-Err-Err.ensures.own)
    (paired_last
    (λ (x : SeatedFlow g.row.F.Denot g.row.F-End.Denot) (d : Done g.row.F.Denot g.row.F-End.Denot). HasFlowed g.F.Flow.does x.flow d.flow d.end x.handle d.handle)
    c.args.caller.seated_flows.items c.without_own-ran.result.0.run.called.done.items c.in-Err-Err.seated c.without_own-ran.result.1
    c.with_flow-caller.result.seated_flows.items c.run_team-ran-in-Err-Err.result.run.called.done.items c.run_team-ran-in-Err-Err.ensures.own
    c.with_flow-caller.ensures.seated_flows c.without_own-ran.ensures.own).0
