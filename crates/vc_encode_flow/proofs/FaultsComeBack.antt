-- Behind a CAPTURE buffer with ERROR an OUTPUT buffer with ERROR is done. Claims and finishes leave what is done where it is, a
-- queue with a buffer that is done streams, and DqBuf takes the front: so it is not refused before the buffer with ERROR comes.
use Rattle.std.proofs.Common.{ℕ, ◌≡◌, ◌≢◌, Bool, true, false, not, Option, Some, None, List, [], ◌∷◌, ◌++◌, refl, sym, ap, ◌∙◌, subst, append_assoc}
use Rattle.std.proofs.lemmas.Bool.{false≢true}
use Rattle.std.proofs.lemmas.List.{append-nil}
use Rattle.vc_base.specs.declared.Stamp.{Stamp}
use Rattle.vc_base.specs.declared.Side.TheVariants.{Out}
use Rattle.vc_base.specs.declared.Errno.TheVariants.{Again, Inval}
use Rattle.vc_base.specs.declared.Call.TheVariants.{DqBuf}
use Rattle.vc_base.specs.declared.Reply.{Reply}
use Rattle.vc_base.specs.declared.Reply.TheVariants.{Taken, Blocked}
use Rattle.vc_base.specs.Buffers.{Buffer, QueueState, is_empty, refuse_if, dqbuf_refusal, dqbuf_after, take_front, taken}
use Rattle.vc_model.specs.Coder.{the_coder}
use Rattle.vc_model.specs.Context.{Context, Slot, settle, with_queue}
use Rattle.vc_model.specs.Answer.{Answer, answer, context_answer, unless_or_block, taken_answer}
use Rattle.vc_model.specs.Places.{has_error}
use Rattle.vc_model.specs.Runs.{JobData, RunResult}
use Rattle.vc_model.specs.Solo.{SoloEvent, Called, Claims, Finishes, SoloReply, Answered, solo_step}
use Rattle.vc_model.specs.Sound.{IsOrdered, IsOrderedSlot}
use Rattle.vc_model.proofs.EventsKeepSound.{always_ordered}
use Rattle.vc_model.proofs.PartsOfTests.{and_left, and_right}
use Rattle.vc_laws.proofs.EffectsOfCalls.{Settles, still, owes, gives, settle_is}
use Rattle.vc_laws.proofs.EffectsOfEvents.{moved_out, Ends, alone, kept, ended, halts, spends, Step, calls, rests, lacks_job, claims, finishes, faults, step_of}
use Rattle.vc_queue.specs.Holds.{HoldState}
use Rattle.vc_context.specs.Payloads.{handed_over}
use Rattle.vc_port.specs.Payloads.{slot_after, is_of_job, AreOfJobs, IsCallOn}
use Rattle.vc_encode_flow.specs.Flows.{HasBad, HasBadSource}
use Rattle.vc_encode_flow.proofs.JobsKeepAFlow.{bad_first}
use Rattle.vc_encode_flow.proofs.OneEventMore.{slot_more, one_call}
use Rattle.vc_encode_flow.proofs.PicturesIntoFramesOut.{bad_behind}

-- Claims and finishes

moved_done : (q : QueueState) (b : Buffer) (flags cursor : ℕ) (up : Bool) → (more : List Buffer) × ((moved_out q b flags cursor up).done ≡ q.done ++ more)
moved_done q b flags cursor true = (_, refl)
moved_done q b flags cursor false = ([], sym (append-nil q.done))

ends_done : (c : Context) (j : JobData) (b : Buffer) {result : Option RunResult} (x : Context) → Ends c j b result x → (more : List Buffer) × (x.out.done ≡ c.out.done ++ more)
ends_done c j b x (alone up flags cursor codec used bytes dest_flags stamp p o) = moved_done c.out b flags cursor up
ends_done c j b x (kept up flags cursor codec used bytes dest_flags stamp d p o) = moved_done c.out b flags cursor up
ends_done c j b x (ended flags cursor codec used bytes dest_flags stamp d up p u o q) = (_, refl)
ends_done c j b x (halts step r geometry k phase events g q back p) = ([], sym (append-nil c.out.done))
ends_done c j b x (spends step k g back) = (_, refl)

settled_out : (x y : Context) → Settles x y → y.out ≡ x.out
settled_out x y still = refl
settled_out x y (owes n r) = refl
settled_out x y (gives cause b rest events r q) = refl

-- the slot is open, and the buffer with ERROR is still done
abbrev IsBadSlot : Slot → Type 0
IsBadSlot slot = (y : Context) × (slot ≡ Some y) × HasBad y.out.done

bad_after : (c : Context) (j : JobData) (b : Buffer) {result : Option RunResult} (x y : Context) → HasBad c.out.done → Ends c j b result x → Settles x y → IsBadSlot (Some y)
bad_after c j b x y h ends u =
    let more = ends_done c j b x ends in
    let all : y.out.done ≡ c.out.done ++ more.0 = ap (λ (q : QueueState). q.done) (settled_out x y u) ∙ more.1 in
    (y, refl, subst HasBad (sym all) (bad_first c.out.done more.0 h))

bad_stays : (c : Context) {e : SoloEvent} {told : SoloReply} {slot : Slot} → HasBad c.out.done → is_of_job e ≡ true → Step the_coder c e told slot → IsBadSlot slot
bad_stays c h j (calls e) = absurd (false≢true j)
bad_stays c h j rests = (c, refl, h)
bad_stays c h j (lacks_job n) = (c, refl, h)
bad_stays c h j (claims b rest k e n i d p z y) = (_, refl, h)
bad_stays c h j (finishes r x y job ends u z) = bad_after c _ job.source x y h ends u
bad_stays c h j (faults r x y job ends u) = bad_after c _ job.source x y h ends u

job_bad : (events : List SoloEvent) (e : SoloEvent) → is_of_job e ≡ true → HasBadSource events → HasBadSource (events ++ e ∷ [])
job_bad events e j w =
    let o : IsOrdered w.context = subst IsOrderedSlot w.stands (always_ordered the_coder events) in
    let g = bad_stays w.context w.bad j (step_of the_coder w.context e o) in
    record {
      context = g.0;
      stands = slot_more events e ∙ (ap (λ (s : Slot). (solo_step the_coder s e).slot) w.stands ∙ g.1);
      bad = g.2;
    }

jobs_bad : (events js : List SoloEvent) → AreOfJobs js → HasBadSource events → HasBadSource (events ++ js)
jobs_bad events [] a w = subst HasBadSource (sym (append-nil events)) w
jobs_bad events (e ∷ js) a w =
    subst HasBadSource (append_assoc events (e ∷ []) js) (jobs_bad (events ++ e ∷ []) js (and_right (is_of_job e) _ a) (job_bad events e (and_left (is_of_job e) _ a) w))

-- Taking OUTPUT buffers

streams_if_bad : (c : Context) → IsOrdered c → HasBad c.out.done → c.out.streams ≡ true
streams_if_bad c o h = split c.out.streams refl
  where
    split : (t : Bool) → c.out.streams ≡ t → c.out.streams ≡ true
    split true e = e
    split false e = absurd (false≢true (subst HasBad (o.firm.out.done_at_rest e) h))

-- the front of done was taken
record TakesFirst (c : Context) (a : Answer) : Type 0 where
  front : Buffer
  rest : List Buffer
  there : c.out.done ≡ front ∷ rest
  reply : a.reply ≡ taken front
  slot : a.slot ≡ Some (settle (record c { out = take_front c.out (front ∷ rest) }))

not_refused : (q : QueueState) (b : Buffer) (rest : List Buffer) → q.streams ≡ true → q.done ≡ b ∷ rest → dqbuf_refusal q false ≡ None
not_refused q b rest s d =
    ap (λ (t : Bool). refuse_if (not t) Inval (refuse_if (is_empty q.done) Again None)) s ∙ ap (λ (l : List Buffer). refuse_if (is_empty l) Again None) d

takes_first : (c : Context) (block : Bool) (bytes : List ℕ) (found : Bool) → c.out.streams ≡ true → (done : List Buffer) → c.out.done ≡ done → HasBad done → TakesFirst c (answer (Some c) (DqBuf Out block) bytes found)
unfolding answer context_answer
takes_first c block bytes found s [] d h = absurd (false≢true h)
takes_first c block bytes found s (b ∷ rest) d h =
    let is : answer (Some c) (DqBuf Out block) bytes found ≡ taken_answer c Out (b ∷ rest) = ap (λ o. unless_or_block c o block (taken_answer c Out c.out.done)) (not_refused c.out b rest s d) ∙ ap (taken_answer c Out) d in
    record {
      front = b;
      rest = rest;
      there = d;
      reply = ap (λ (a : Answer). a.reply) is;
      slot = ap (λ (a : Answer). a.slot) is ∙ ap (λ (l : List Buffer). Some (settle (with_queue c Out (take_front c.out l)))) d;
    }

-- The call took the front of done. Where that one has no ERROR, the buffer with ERROR is still done.
pub record ComesBack (told : Reply) (new : List SoloEvent) : Type 0 where
  pub front : Buffer
  pub told_is : told ≡ taken front
  pub more : has_error front.flags ≡ false → HasBadSource new

pub comes_back : (old new : List SoloEvent) (before after : HoldState) (block : Bool) (told : Reply) → told ≢ Blocked →
    IsCallOn old before (DqBuf Out block) told new after → HasBadSource old → ComesBack told new
unfolding solo_step
comes_back old new before after block told n c w =
    let x = jobs_bad old c.jobs c.of_jobs w in
    let o : IsOrdered x.context = subst IsOrderedSlot x.stands (always_ordered the_coder (old ++ c.jobs)) in
    let request = DqBuf Out block in
    let bytes = handed_over request before in
    let event : SoloEvent = Called request bytes c.found in
    let reply : Answered (answer (Some x.context) request bytes c.found).reply (answer (Some x.context) request bytes c.found).bytes ≡ Answered told c.handed = ap (λ (s : Slot). Answered (answer s request bytes c.found).reply (answer s request bytes c.found).bytes) (sym x.stands) ∙ c.reply in
    let same : (answer (Some x.context) request bytes c.found).reply ≡ told = cc in
    let t = takes_first x.context block bytes c.found (streams_if_bad x.context o x.bad) x.context.out.done refl x.bad in
    let y : Context = record x.context { out = take_front x.context.out (t.front ∷ t.rest) } in
    let events = c.events ∙ one_call (old ++ c.jobs) told event n in
    record {
      front = t.front;
      told_is = sym same ∙ t.reply;
      more = λ e. record {
        context = settle y;
        stands = ap slot_after events ∙ (slot_more (old ++ c.jobs) event ∙ (ap (λ (s : Slot). (answer s request bytes c.found).slot) x.stands ∙ t.slot));
        bad = subst (λ (q : QueueState). HasBad q.done) (sym (settled_out y (settle y) (settle_is y))) (bad_behind t.front t.rest e (subst HasBad t.there x.bad));
      };
    }

pub bad_behind_taken : (index used flags seq : ℕ) (stamp : Stamp) (new : List SoloEvent) → has_error flags ≡ false → ComesBack (Taken index used flags seq stamp) new → HasBadSource new
bad_behind_taken index used flags seq stamp new e c =
    let told : Taken index used flags seq stamp ≡ taken c.front = c.told_is in
    let same : flags ≡ c.front.flags = cc in
    c.more (ap has_error (sym same) ∙ e)
