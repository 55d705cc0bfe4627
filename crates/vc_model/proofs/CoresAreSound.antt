-- Each slot of a core that stands for a history is sound, but for the data of its running job. The core keeps the
-- device's contexts without those data, and the device's slots are sound after every list of events.
use Rattle.std.proofs.Common.{ℕ, ◌≡◌, ◌≤◌, ◌<◌, ◌+◌, eqb, nat_le, ltb, Bool, true, false, cond, ◌&&◌, Option, Some, None, List, [], ◌∷◌, ◌++◌, map, refl, sym, ap, ◌∙◌, subst, arith}
use Rattle.std.specs.List.{list_all}
use Rattle.std.proofs.lemmas.List.{length-map}
use Rattle.vc_base.specs.Buffers.{Buffer, QueueState, buffers, without_bytes, without_job_bytes}
use Rattle.vc_base.specs.Limits.{most_buffers}
use Rattle.vc_base.specs.declared.Side.TheVariants.{Cap}
use Rattle.vc_model.specs.Context.{Context, Slot, Running, is_run, sizeimage}
use Rattle.vc_model.specs.Devices.{new_device, slot_of, device_after, projection}
use Rattle.vc_model.specs.Sound.{count_index, CountsUp, IsSoundQueue, HasItsBuffers, AreLong, AreShort, IsSound, IsSoundSlot}
use Rattle.vc_model.specs.Standing.{some_job, without_data, without_data_of, core_slot}
use Rattle.vc_model.specs.CoreSound.{HasJobs, IsSoundInCore, IsSoundCoreSlot, CoresAreSound}
use Rattle.vc_model.proofs.QueuesKeepSound.{count_parts}
use Rattle.vc_model.proofs.SlotsAreIsolated.{isolated}
use Rattle.vc_model.proofs.CallsLeaveTheJob.{same_length}
use Rattle.vc_model.proofs.CoresStandForDevices.{core_slot_at}
use Rattle.vc_model.proofs.EventsKeepSound.{at_most_one}
use Rattle.vc_model.proofs.FormatsAndJobsFit.{always_sound}

count_without : (bs : List Buffer) (i : ℕ) → count_index (map without_bytes bs) i ≡ count_index bs i
count_without [] i = refl
count_without (b ∷ bs) i = ap (λ n. cond (eqb b.index i) 1 0 + n) (count_without bs i)

counts_without : (bs ready : List Buffer) (first next : ℕ) → CountsUp (bs ++ ready) first next → CountsUp (map without_bytes bs ++ ready) first next
counts_without [] ready first next c = c
counts_without (b ∷ bs) ready first next c = (c.0, counts_without bs ready (first + 1) next c.1)

long_without : (least : ℕ) (bs : List Buffer) → AreLong least bs → AreLong least (map without_bytes bs)
long_without least bs h = all_without bs ∙ h
  where
    all_without : (l : List Buffer) → list_all (λ b. nat_le least b.size) (map without_bytes l) ≡ list_all (λ b. nat_le least b.size) l
    all_without [] = refl
    all_without (b ∷ l) = ap (λ t. nat_le least b.size && t) (all_without l)

short_without : (bs : List Buffer) → AreShort bs → AreShort (map without_bytes bs)
short_without bs h = all_without bs ∙ h
  where
    all_without : (l : List Buffer) → list_all (λ b. nat_le b.used b.size) (map without_bytes l) ≡ list_all (λ b. nat_le b.used b.size) l
    all_without [] = refl
    all_without (b ∷ l) = ap (λ t. nat_le b.used b.size && t) (all_without l)

queue_without : (q : QueueState) → IsSoundQueue q → IsSoundQueue (without_job_bytes q)
queue_without q s =
    record {
      once =
          λ i.
          let p = count_parts q.held q.ready q.job q.done i in
          let r = count_parts q.held q.ready (map without_bytes q.job) q.done i in
          let m = count_without q.job i in
          let e : count_index (buffers (without_job_bytes q)) i ≡ count_index (buffers q) i = omega arith in e ∙ (s.once i ∙ ap (λ n. cond (ltb i n) 1 0) (sym (same_length q)));
      latest = record { first = s.latest.first; counts = counts_without q.job q.ready s.latest.first q.next_ordinal s.latest.counts };
      job_at_rest = λ e. ap (map without_bytes) (s.job_at_rest e);
      done_at_rest = s.done_at_rest;
      seq_at_rest = s.seq_at_rest;
      filled = λ e. subst (λ n. 0 < n) (sym (same_length q)) (s.filled e);
    }

none_jobs : (c : Context) (o : Option Running) → o ≡ None → HasItsBuffers c o → HasJobs c o
none_jobs c None e h = (h.0, h.1)
none_jobs c (Some r) e h = absurd (cc)

idle_in_core : (c : Context) → c.running ≡ None → IsSound c → IsSoundInCore c
idle_in_core c e s =
    record {
      out_side = s.firm.out_side;
      cap_side = s.firm.cap_side;
      out = s.firm.out;
      cap = s.firm.cap;
      has_jobs = none_jobs c c.running e s.firm.has_buffers;
      has_codec = λ p. s.firm.has_codec;
      marked = s.firm.marked;
      queued = s.firm.queued;
      drained = s.firm.drained;
      stopping = s.firm.stopping;
      ends = s.firm.ends;
      long = s.firm.long;
      settled = s.settled;
      fit = s.fit;
    }

busy_in_core : (c : Context) (r : Running) → c.running ≡ Some r → IsSound c → IsSoundInCore (without_data c)
busy_in_core c r e s =
    let h = subst (HasItsBuffers c) e s.firm.has_buffers in
    record {
      out_side = s.firm.out_side;
      cap_side = s.firm.cap_side;
      out = queue_without c.out s.firm.out;
      cap = queue_without c.cap s.firm.cap;
      has_jobs = (h.0, length-map c.out.job without_bytes ∙ h.1, subst (λ n. n ≤ 1) (sym (length-map c.cap.job without_bytes ∙ h.2)) (at_most_one r.sort));
      has_codec = λ (p : Some some_job ≡ None). absurd (cc);
      marked = s.firm.marked;
      queued = s.firm.queued;
      drained = s.firm.drained;
      stopping = s.firm.stopping;
      ends = s.firm.ends;
      long = record { ready = s.firm.long.ready; job = λ t p. long_without (sizeimage c Cap) c.cap.job (s.firm.long.job t p) };
      settled = record { noted = busy_noted (is_run c.phase) c.cap.streams; given = s.settled.given };
      fit =
          record {
            few_out = subst (λ n. n ≤ most_buffers) (sym (same_length c.out)) s.fit.few_out;
            few_cap = subst (λ n. n ≤ most_buffers) (sym (same_length c.cap)) s.fit.few_cap;
            short_ready = s.fit.short_ready;
            short_job = short_without c.out.job s.fit.short_job;
            short_done = s.fit.short_done;
            formats = s.fit.formats;
            geometry = s.fit.geometry;
            change = s.fit.change;
          };
    }
  where
    busy_noted : (a b : Bool) → (a && (b && false)) ≡ false
    busy_noted true true = refl
    busy_noted true false = refl
    busy_noted false b = refl

in_core : (c : Context) (o : Option Running) → c.running ≡ o → IsSound c → IsSoundInCore (without_data_of c o)
in_core c None e s = idle_in_core c e s
in_core c (Some r) e s = busy_in_core c r e s

slot_in_core : (s : Slot) → IsSoundSlot s → IsSoundCoreSlot (core_slot s)
slot_in_core None h = tt
slot_in_core (Some c) h = in_core c c.running refl h

pub cores_are_sound : CoresAreSound
cores_are_sound coder n w core history k is =
    let d = device_after coder (new_device n) history in
    let s = subst IsSoundSlot (sym (isolated coder n k history).slot) (always_sound coder (projection coder (new_device n) history k)) in
    subst (λ x. IsSoundCoreSlot (slot_of x k)) (sym is.state) (subst IsSoundCoreSlot (sym (core_slot_at d.slots k)) (slot_in_core (slot_of d k) s))
