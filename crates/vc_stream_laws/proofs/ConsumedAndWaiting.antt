-- Of what was queued the runs consumed the first bytes, and the others wait. A job takes its bytes from the front of ready,
-- a call adds a buffer at its tail, and no other event moves a byte.
use Rattle.std.proofs.Common.{ℕ, zero, suc, ◌≡◌, ◌+◌, ◌==◌, nat_lt, Bool, true, false, not, cond, ◌&&◌, ◌||◌, Option, Some, None, List, [], ◌∷◌, ◌++◌, length, take, drop, refl, sym, ap, ◌∙◌, subst, append_assoc}
use Rattle.std.specs.List.{filter, find, list_all, flat_map}
use Rattle.std.proofs.lemmas.Bool.{false≢true, eqb-true}
use Rattle.std.proofs.lemmas.List.{append-nil, take-append-drop, drop-drop}
use Rattle.std.proofs.lemmas.Grind.{flat_map-append}
use Rattle.std.proofs.Math.Seq.{drop-length}
use Rattle.vc_base.specs.declared.Stamp.{Stamp}
use Rattle.vc_base.specs.declared.Kind.TheVariants.{Dec}
use Rattle.vc_base.specs.Buffers.{Buffer, QueueState, held_again, new_buffers, with_index}
use Rattle.vc_defs.specs.declared.Geometry.{Geometry}
use Rattle.vc_defs.specs.Decoder.{FrameResult, DecoderState, DecodedStep}
use Rattle.vc_model.specs.Coder.{CodecState, no_codec, encoder, decoder, the_coder}
use Rattle.vc_model.specs.Context.{Context, Running, RunSort, copy, encode, decode, probe, has_before}
use Rattle.vc_model.specs.Runs.{sort_of, source_of, JobData, job_data, RunResult, decoded, run_result, run_of, decode_run}
use Rattle.vc_model.specs.Places.{HaveBytes}
use Rattle.vc_model.specs.Sound.{CountsUp, HasCodec}
use Rattle.vc_model.proofs.PartsOfTests.{and_left, and_right, and_both}
use Rattle.vc_laws.specs.Segments.{Segment, consumed, after_run}
use Rattle.vc_laws.proofs.EffectsOfEvents.{done_out, back_out, moved_out, HasJob, Puts, puts_fault, puts_copy, puts_frame, puts_picture, puts_damage, Ends, alone, kept, ended, halts, spends}
use Rattle.vc_laws.proofs.OpenContextsAreTidy.{IsRunOf}
use Rattle.vc_laws.proofs.DrainsAreWhole.{is_due, counts_due, all_end}
use Rattle.vc_stream_laws.specs.Streams.{rest_of, is_unbegun, IsWaiting}

-- Buffers that were not begun

pub new_unbegun : (size first count : ℕ) → list_all is_unbegun (new_buffers size first count) ≡ true
new_unbegun size first zero = refl
new_unbegun size first (suc count) = new_unbegun size (first + 1) count

filter_split : (t p : Buffer → Bool) (x : Buffer) (bs : List Buffer) (b : Bool) → (t x && list_all t bs) ≡ true → list_all t (filter p bs) ≡ true → list_all t (cond b (x ∷ filter p bs) (filter p bs)) ≡ true
filter_split t p x bs true h k = and_both (t x) (list_all t (filter p bs)) (and_left (t x) (list_all t bs) h) k
filter_split t p x bs false h k = k

all_filter : (t p : Buffer → Bool) (bs : List Buffer) → list_all t bs ≡ true → list_all t (filter p bs) ≡ true
all_filter t p [] h = refl
all_filter t p (x ∷ bs) h = filter_split t p x bs (p x) h (all_filter t p bs (and_right (t x) (list_all t bs) h))

found_split : (t : Buffer → Bool) (x b : Buffer) (o : Option Buffer) (k : Bool) → t x ≡ true → (o ≡ Some b → t b ≡ true) → cond k (Some x) o ≡ Some b → t b ≡ true
found_split t x b o true h g e = subst (λ z. t z ≡ true) (let q : x ≡ b = cc in q) h
found_split t x b o false h g e = g e

all_find : (t p : Buffer → Bool) (bs : List Buffer) (b : Buffer) → list_all t bs ≡ true → find p bs ≡ Some b → t b ≡ true
all_find t p [] b h e = absurd (cc)
all_find t p (x ∷ bs) b h e =
    found_split t x b (find p bs) (p x) (and_left (t x) (list_all t bs) h) (λ (q : find p bs ≡ Some b). all_find t p bs b (and_right (t x) (list_all t bs) h) q) e

-- Calls

-- another OUTPUT buffer goes to the user
pub held_waits : (queued bytes : List ℕ) (o : QueueState) (b : Buffer) (rest : List Buffer) → IsWaiting queued bytes o → IsWaiting queued bytes (record o { done = rest; held = o.held ++ held_again b ∷ [] })
held_waits queued bytes o b rest w =
    record { waits = w.waits; unbegun = all_end is_unbegun o.held (held_again b) w.unbegun refl }

-- one more buffer is queued
pub more_waits : (queued bytes more : List ℕ) (o : QueueState) (index : ℕ) (b x : Buffer) (next : ℕ) → with_index index o.held ≡ Some b →
    x.cursor ≡ b.cursor → x.bytes ≡ more → IsWaiting queued bytes o →
    IsWaiting (queued ++ more) bytes (record o { held = filter (λ h. not (h.index == index)) o.held; ready = o.ready ++ x ∷ []; next_ordinal = next })
more_waits queued bytes more o index b x next e c m w =
    let unbegun = all_find is_unbegun (λ h. h.index == index) o.held b w.unbegun e in
    let zero_cursor : x.cursor ≡ 0 = c ∙ eqb-true b.cursor 0 unbegun in
    let whole : rest_of x ≡ more = ap (λ n. drop n x.bytes) zero_cursor ∙ m in
    let all = flat_map rest_of (o.job ++ o.ready) in
    let last : flat_map rest_of (o.job ++ (o.ready ++ x ∷ [])) ≡ all ++ more = ap (flat_map rest_of) (sym (append_assoc o.job o.ready (x ∷ []))) ∙ (flat_map-append rest_of (o.job ++ o.ready) (x ∷ []) ∙ ap (λ l. all ++ l) (append-nil (rest_of x) ∙ whole)) in
    record {
      waits = ap (λ l. l ++ more) w.waits ∙ (append_assoc bytes all more ∙ ap (λ l. bytes ++ l) (sym last));
      unbegun = all_filter is_unbegun (λ h. not (h.index == index)) o.held w.unbegun;
    }

-- Runs

decoded_by_sort : (j : JobData) (state : DecoderState) (sort : RunSort) (g : Option Geometry) → j.codec ≡ decoder state → sort ≡ sort_of Dec g → run_of the_coder j sort ≡ decode_run the_coder j (decoder state)
decoded_by_sort j state copy None e q = absurd (cc)
decoded_by_sort j state copy (Some g) e q = absurd (cc)
decoded_by_sort j state encode None e q = absurd (cc)
decoded_by_sort j state encode (Some g) e q = absurd (cc)
decoded_by_sort j state decode g e q = ap (decode_run the_coder j) e
decoded_by_sort j state probe g e q = ap (decode_run the_coder j) e

decoded_by_codec : (c : Context) (r : Running) (codec : CodecState) → c.codec ≡ codec → c.kind ≡ Dec → IsRunOf c r → HasCodec Dec codec → (step : DecodedStep) × (run_result the_coder (job_data c r) ≡ decoded step)
unfolding run_result
decoded_by_codec c r no_codec e k t q = absurd q
decoded_by_codec c r (encoder state) e k t q = absurd q
decoded_by_codec c r (decoder state) e k t q =
    (_, decoded_by_sort (job_data c r) state r.sort c.geometry e (t.sort ∙ ap (λ n. sort_of n c.geometry) k))

-- the run of a decoder is one of the codec
pub decoder_runs : (c : Context) (r : Running) → c.kind ≡ Dec → IsRunOf c r → HasCodec c.kind c.codec → (step : DecodedStep) × (run_result the_coder (job_data c r) ≡ decoded step)
decoder_runs c r k t h = decoded_by_codec c r c.codec refl k t (subst (λ q. HasCodec q c.codec) k h)

consumed_some : (step : DecodedStep) (rest : List ℕ) (given : Option FrameResult) (r : FrameResult) → step.given ≡ given → given ≡ Some r → consumed step rest ≡ take step.moved rest
consumed_some step rest given r e g =
    ap (λ o. elim o as (λ _. List ℕ) [ None ↦ rest | Some x ↦ take step.moved rest ]) (e ∙ g)

consumed_none : (step : DecodedStep) (rest : List ℕ) → step.given ≡ None → consumed step rest ≡ rest
consumed_none step rest e = ap (λ o. elim o as (λ _. List ℕ) [ None ↦ rest | Some x ↦ take step.moved rest ]) e

-- what is queued after the run
After : List ℕ → List ℕ → Buffer → DecodedStep → QueueState → QueueState → Type 0
After queued bytes b step old o = (queued ≡ (bytes ++ consumed step (rest_of b)) ++ flat_map rest_of (o.job ++ o.ready)) × (o.held ≡ old.held)

used_up : (queued bytes moved : List ℕ) (b : Buffer) (ws : List Buffer) → rest_of b ≡ moved → queued ≡ bytes ++ flat_map rest_of (b ∷ ws) → queued ≡ (bytes ++ moved) ++ flat_map rest_of ws
used_up queued bytes moved b ws e w =
    w ∙ (ap (λ l. bytes ++ (l ++ flat_map rest_of ws)) e ∙ sym (append_assoc bytes moved (flat_map rest_of ws)))

goes_back : (queued bytes : List ℕ) (b : Buffer) (ws : List Buffer) (k : ℕ) → queued ≡ bytes ++ flat_map rest_of (b ∷ ws) → queued ≡ (bytes ++ take k (rest_of b)) ++ flat_map rest_of (record b { cursor = b.cursor + k } ∷ ws)
goes_back queued bytes b ws k w =
    let parts : rest_of b ≡ take k (rest_of b) ++ drop (b.cursor + k) b.bytes = sym (take-append-drop k (rest_of b)) ∙ ap (λ l. take k (rest_of b) ++ l) (drop-drop k b.cursor b.bytes) in
    let later = flat_map rest_of ws in
    w ∙ (ap (λ l. bytes ++ (l ++ later)) parts ∙ (ap (λ l. bytes ++ l) (append_assoc (take k (rest_of b)) (drop (b.cursor + k) b.bytes) later) ∙ sym (append_assoc bytes (take k (rest_of b)) (drop (b.cursor + k) b.bytes ++ later))))

all_moved : (b : Buffer) (k : ℕ) → (length b.bytes == b.used) ≡ true → (b.cursor + k == b.used) ≡ true → rest_of b ≡ take k (rest_of b)
all_moved b k h e =
    let n = eqb-true (length b.bytes) b.used h in
    let m = eqb-true (b.cursor + k) b.used e in
    let none : drop k (rest_of b) ≡ [] = drop-drop k b.cursor b.bytes ∙ (ap (λ i. drop i b.bytes) (m ∙ sym n) ∙ drop-length b.bytes) in
    sym (take-append-drop k (rest_of b)) ∙ (ap (λ l. take k (rest_of b) ++ l) none ∙ append-nil (take k (rest_of b)))

moved_waits : (queued bytes : List ℕ) (o : QueueState) (b : Buffer) (flags : ℕ) (step : DecodedStep) (r : FrameResult) (up : Bool) →
    (b.cursor + step.moved == b.used) ≡ up → step.given ≡ Some r → (length b.bytes == b.used) ≡ true →
    queued ≡ bytes ++ flat_map rest_of (b ∷ o.ready) → After queued bytes b step o (moved_out o b flags (b.cursor + step.moved) up)
unfolding After
moved_waits queued bytes o b flags step r true u g h w =
    let same = sym (consumed_some step (rest_of b) step.given r refl g) in
    (used_up queued bytes (take step.moved (rest_of b)) b o.ready (all_moved b step.moved h u) w ∙ ap (λ l. (bytes ++ l) ++ flat_map rest_of o.ready) same, refl)
moved_waits queued bytes o b flags step r false u g h w =
    let same = sym (consumed_some step (rest_of b) step.given r refl g) in
    (goes_back queued bytes b o.ready step.moved w ∙ ap (λ l. (bytes ++ l) ++ flat_map rest_of (record b { cursor = b.cursor + step.moved } ∷ o.ready)) same, refl)

puts_waits : (queued bytes : List ℕ) (c : Context) (j : JobData) (b : Buffer) (step : DecodedStep) (result : Option RunResult) (up : Bool)
    (flags cursor : ℕ) (codec : CodecState) (used : ℕ) (put : List ℕ) (dest_flags : ℕ) (stamp : Stamp) → result ≡ Some (decoded step) →
    (length b.bytes == b.used) ≡ true → queued ≡ bytes ++ flat_map rest_of (b ∷ c.out.ready) →
    Puts c j b result up flags cursor codec used put dest_flags stamp → After queued bytes b step c.out (moved_out c.out b flags cursor up)
puts_waits queued bytes c j b step result up flags cursor codec used put dest_flags stamp e h w (puts_fault k) = absurd (cc)
puts_waits queued bytes c j b step result up flags cursor codec used put dest_flags stamp e h w (puts_copy xs k) = absurd (cc)
puts_waits queued bytes c j b step result up flags cursor codec used put dest_flags stamp e h w (puts_frame frame k) = absurd (cc)
puts_waits queued bytes c j b step result up flags cursor codec used put dest_flags stamp e h w (puts_picture now r geometry key planes g k) =
    subst (λ s. After queued bytes b s c.out (moved_out c.out b 0 (b.cursor + now.moved) (b.cursor + now.moved == b.used))) (let q : now ≡ step = cc in q) (moved_waits queued bytes c.out b 0 now r (b.cursor + now.moved == b.used) refl g h w)
puts_waits queued bytes c j b step result up flags cursor codec used put dest_flags stamp e h w (puts_damage now r g k) =
    subst (λ s. After queued bytes b s c.out (moved_out c.out b 0 (b.cursor + now.moved) (b.cursor + now.moved == b.used))) (let q : now ≡ step = cc in q) (moved_waits queued bytes c.out b 0 now r (b.cursor + now.moved == b.used) refl g h w)

ended_waits : (queued bytes : List ℕ) (c : Context) (j : JobData) (b : Buffer) (step : DecodedStep) {result : Option RunResult} (x : Context) →
    result ≡ Some (decoded step) → (length b.bytes == b.used) ≡ true → queued ≡ bytes ++ flat_map rest_of (b ∷ c.out.ready) → Ends c j b result x →
    After queued bytes b step c.out x.out
unfolding After
ended_waits queued bytes c j b step {result = result} x e h w (alone up flags cursor codec used put dest_flags stamp p n) =
    puts_waits queued bytes c j b step result up flags cursor codec used put dest_flags stamp e h w p
ended_waits queued bytes c j b step {result = result} x e h w (kept up flags cursor codec used put dest_flags stamp d p n) =
    puts_waits queued bytes c j b step result up flags cursor codec used put dest_flags stamp e h w p
ended_waits queued bytes c j b step {result = result} x e h w (ended flags cursor codec used put dest_flags stamp d up p u n m) =
    subst (λ t. After queued bytes b step c.out (moved_out c.out b flags cursor t)) u (puts_waits queued bytes c j b step result up flags cursor codec used put dest_flags stamp e h w p)
ended_waits queued bytes c j b step x e h w (halts now r geometry k phase events g q back p) =
    let same = sym (consumed_some now (rest_of b) now.given r refl g) in
    let here : After queued bytes b now c.out (back_out c.out b (b.cursor + now.moved)) = (goes_back queued bytes b c.out.ready now.moved w ∙ ap (λ l. (bytes ++ l) ++ flat_map rest_of (record b { cursor = b.cursor + now.moved } ∷ c.out.ready)) same, refl) in
    subst (λ s. After queued bytes b s c.out (back_out c.out b (b.cursor + now.moved))) (let q : now ≡ step = cc in q) here
ended_waits queued bytes c j b step x e h w (spends now k g back) =
    let here : After queued bytes b now c.out (done_out c.out b 0) = (used_up queued bytes (consumed now (rest_of b)) b c.out.ready (sym (consumed_none now (rest_of b) g)) w, refl) in
    subst (λ s. After queued bytes b s c.out (done_out c.out b 0)) (let q : now ≡ step = cc in q) here

-- after the run of a job
pub run_waits : (queued : List ℕ) (seg : Segment) (c : Context) (r : Running) (job : HasJob c r) (x : Context) → c.kind ≡ Dec → IsRunOf c r →
    HasCodec c.kind c.codec → HaveBytes c.out.job → IsWaiting queued seg.bytes c.out →
    Ends c (job_data c r) job.source (Some (run_result the_coder (job_data c r))) x →
    IsWaiting queued (after_run seg r (job_data c r) (run_result the_coder (job_data c r))).bytes x.out
unfolding After
run_waits queued seg c r job x k t codec honest w ends =
    let b = job.source in
    let by = decoder_runs c r k t codec in
    let step = by.0 in
    let waits : queued ≡ seg.bytes ++ flat_map rest_of (b ∷ c.out.ready) = w.waits ∙ ap (λ l. seg.bytes ++ flat_map rest_of (l ++ c.out.ready)) job.job in
    let whole = and_left (length b.bytes == b.used) true (sym (ap (λ l. list_all (λ z. length z.bytes == z.used) l) job.job) ∙ honest) in
    let after = ended_waits queued seg.bytes c (job_data c r) b step x (ap (λ o. Some o) by.1) whole waits ends in
    let bytes : (after_run seg r (job_data c r) (run_result the_coder (job_data c r))).bytes ≡ seg.bytes ++ consumed step (rest_of b) = ap (λ z. (after_run seg r (job_data c r) z).bytes) by.1 ∙ ap (λ l. seg.bytes ++ consumed step (rest_of (source_of l))) job.job in
    record {
      waits = after.0 ∙ ap (λ l. l ++ flat_map rest_of (x.out.job ++ x.out.ready)) (sym bytes);
      unbegun = ap (λ l. list_all is_unbegun l) after.1 ∙ w.unbegun;
    }

-- The end

-- where no buffer is before a mark behind all of them there is none
pub none_before : (bs : List Buffer) (first next : ℕ) → CountsUp bs first next → has_before bs next ≡ false → bs ≡ []
none_before [] first next u h = refl
none_before (b ∷ bs) first next u h =
    let due = and_left (is_due (Some next) b) (list_all (is_due (Some next)) bs) (counts_due (b ∷ bs) first next u) in
    absurd (false≢true (sym (first_false (nat_lt b.ordinal next) (has_before bs next) h) ∙ due))
  where
    first_false : (a d : Bool) → (a || d) ≡ false → a ≡ false
    first_false true d e = absurd (false≢true (sym e))
    first_false false d e = refl

-- all that was queued was consumed where nothing waits
pub none_waits : (queued bytes : List ℕ) (o : QueueState) → o.job ≡ [] → o.ready ≡ [] → IsWaiting queued bytes o → bytes ≡ queued
none_waits queued bytes o j r w =
    sym (w.waits ∙ (ap (λ l. bytes ++ flat_map rest_of (l ++ o.ready)) j ∙ (ap (λ l. bytes ++ flat_map rest_of l) r ∙ append-nil bytes)))
