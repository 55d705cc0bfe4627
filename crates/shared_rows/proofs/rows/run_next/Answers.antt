use Rattle.shared_rows.proofs.rows.run_next.Goals as goal

pub finish-requires : goal.finish-requires
finish-requires g c =
    let j = c.in-Job.ensures.claimed in
    record { slot = j.slot; job = j.job; had = j.had; given = j.given; brings = c.run-finished.ensures.done j.slot j.job j.is_of }
