-- A hold that fits a copying context goes on fitting it while jobs come and go, since a job takes no buffer that the
-- user holds.
use Rattle.std.proofs.Common.{ℕ, ◌≡◌, Bool, true, false, List, sym, subst}
use Rattle.vc_base.specs.declared.Stamp.{Stamp}
use Rattle.vc_base.specs.Buffers.{QueueState, without_job_bytes, lend_after, retire_after}
use Rattle.vc_model.specs.Context.{Context}
use Rattle.vc_queue.specs.Holds.{HoldState}
use Rattle.vc_queue.proofs.Keeping.{fits_lent, fits_retired}
use Rattle.vc_copy.specs.Copying.{copier_state}
use Rattle.vc_context.specs.Payloads.{FitsContext}

module _ (size : ℕ) (out cap : QueueState) (running : Bool) (c : Context) (view : copier_state size out cap running ≡ c) where
  pub claim_holds :
      (new_out new_cap : QueueState) (hold : HoldState) → new_out ≡ without_job_bytes (lend_after out) → new_cap ≡ without_job_bytes (lend_after cap)
      → FitsContext c hold → FitsContext (copier_state size new_out new_cap true) hold
  claim_holds new_out new_cap hold eo ec fits =
      let f = subst (λ (x : Context). FitsContext x hold) (sym view) fits in
      rw (eo, ec) (record { out = fits_lent out hold f.out; cap = fits_lent cap hold f.cap })

  pub finish_holds :
      (new_out new_cap : QueueState) (hold : HoldState) (used dest_used : ℕ) (bytes dest_bytes : List ℕ) (flags dest_flags : ℕ) (stamp dest_stamp : Stamp)
      → new_out ≡ retire_after out used bytes flags stamp → new_cap ≡ retire_after cap dest_used dest_bytes dest_flags dest_stamp
      → FitsContext c hold → FitsContext (copier_state size new_out new_cap false) hold
  finish_holds new_out new_cap hold used dest_used bytes dest_bytes flags dest_flags stamp dest_stamp eo ec fits =
      let f = subst (λ (x : Context). FitsContext x hold) (sym view) fits in
      rw (eo, ec) (record { out = fits_retired out used bytes flags stamp hold f.out; cap = fits_retired cap dest_used dest_bytes dest_flags dest_stamp hold f.cap })
