-- Which CAPTURE buffers the runs of a decoder put on done: those of the results other than changes, one for one. A
-- call and settling put at most an empty LAST buffer there, which is no result; and a run puts its result there in
-- the buffer of its job, or nothing at all.
use Rattle.std.proofs.Common.{ℕ, ◌≡◌, ◌≤◌, ◌+◌, eqb, Bool, true, false, not, cond, ◌&&◌, Option, Some, None, List, [], ◌∷◌, ◌++◌, length, refl, sym, ap, ◌∙◌, subst, arith, inl, inr}
use Rattle.std.proofs.lemmas.Bool.{false≢true}
use Rattle.std.proofs.lemmas.List.{append-nil}
use Rattle.std.proofs.lemmas.List.Elements.{filter-append}
use Rattle.vc_base.specs.declared.Stamp.{Stamp}
use Rattle.vc_base.specs.declared.Fourcc.{Fourcc}
use Rattle.vc_base.specs.declared.Side.{Side}
use Rattle.vc_base.specs.declared.Side.TheVariants.{Cap}
use Rattle.vc_base.specs.declared.Call.{Call}
use Rattle.vc_base.specs.declared.Reply.{Reply}
use Rattle.vc_base.specs.Buffers.{Buffer, QueueState, known_bytes, zero_stamp}
use Rattle.vc_base.specs.Limits.{last_flag, error_flag}
use Rattle.vc_defs.specs.declared.Header.{Header}
use Rattle.vc_defs.specs.Raw.{raw_of}
use Rattle.vc_defs.specs.Places.{Frame, OpenFrame, places}
use Rattle.vc_defs.specs.Decoder.{FrameResult, ResultKind, Picture, Damaged, Changed, GivenResult, BetweenFrames, DecoderState, DecodedStep, decode, decoded_by, given_in, given_in_frames, given_at_header, given_then, moved_result}
use Rattle.vc_model.specs.Coder.{CodecState}
use Rattle.vc_model.specs.Context.{Context, Slot, run}
use Rattle.vc_model.specs.Runs.{JobData, RunResult, decoded, type_flag}
use Rattle.vc_model.specs.Drains.{done_now}
use Rattle.vc_defs.specs.Outputs.{is_change_result}
use Rattle.vc_laws.specs.Segments.{SegmentResult, with_result}
use Rattle.vc_laws.specs.Following.{HoldsKind, OneForOne, in_buffers, is_no_change, is_by_run, by_runs}
use Rattle.vc_laws.proofs.EffectsOfCalls.{Settles, still, owes, gives, Effect, stays, closes, has_events, has_rates, has_out_format, has_cap_format}
use Rattle.vc_laws.proofs.EffectsOfCalls.{has_out_buffers, has_cap_buffers, adds_out, adds_cap, queues_out, queues_cap, takes_out, takes_cap, takes_last}
use Rattle.vc_laws.proofs.EffectsOfCalls.{streams_out, streams_cap, stops_out, stops_cap, rests_cap, sets_mark, starts}
use Rattle.vc_laws.proofs.EffectsOfEvents.{Puts, puts_fault, puts_copy, puts_frame, puts_picture, puts_damage, Ends, alone, kept, ended, halts, spends, Returns, none_taken, given_back}
use Rattle.vc_laws.proofs.OpenContextsAreTidy.{IsTidy}
use Rattle.vc_laws.proofs.DoneInAStep.{Made, made_now, made_same, made_rest, made_none, made_more}

-- Buffers that no run gave

runs_more : (xs ys : List Buffer) → by_runs ys ≡ [] → by_runs (xs ++ ys) ≡ by_runs xs
runs_more xs ys e = filter-append is_by_run xs ys ∙ (ap (λ l. by_runs xs ++ l) e ∙ append-nil (by_runs xs))

pub retired_more : (retired new : List Buffer) → by_runs new ≡ [] → by_runs (retired ++ new) ≡ by_runs retired
retired_more retired new e = runs_more retired new e

made_still : (c x y : Context) (new : List Buffer) → y.cap.done ≡ x.cap.done → Made c x new → Made c y new
made_still c x y new e m = record { front = m.front; is = e ∙ m.is; old = m.old; fresh = m.fresh }

-- settling adds an empty LAST buffer at most
pub settled_runs : (c x y : Context) (new : List Buffer) → Made c x new → c.cap.next_seq ≤ x.cap.next_seq → Settles x y → by_runs (done_now c y) ≡ by_runs new
settled_runs c x y new m l still = ap by_runs (made_now c x new m)
settled_runs c x y new m l (owes p r) = ap by_runs (made_now c y new (made_still c x y new refl m))
settled_runs c x y new m l (gives cause b rest events r p) =
    let z : Buffer = record b { used = 0; bytes = known_bytes x.cap.side last_flag []; flags = last_flag; stamp = zero_stamp; seq = x.cap.next_seq } in
    ap by_runs (made_now c y (new ++ z ∷ []) (made_more c x y new z refl l m)) ∙ runs_more new (z ∷ []) refl

-- A call puts no buffer of a run on done.

pub NoRuns : Context → Slot → Type 0
NoRuns c None = Unit {0}
NoRuns c (Some y) = by_runs (done_now c y) ≡ []

pub no_runs_is : (c y : Context) → NoRuns c (Some y) → by_runs (done_now c y) ≡ []
unfolding NoRuns
no_runs_is c y h = h

same_runs : (c x : Context) → x.cap.done ≡ c.cap.done → IsTidy c → NoRuns c (Some x)
unfolding NoRuns
same_runs c x d t = ap by_runs (made_now c x [] (made_same c x d t))

rest_runs : (c x : Context) (b : Buffer) (rest : List Buffer) → c.cap.done ≡ b ∷ rest → x.cap.done ≡ rest → IsTidy c → NoRuns c (Some x)
unfolding NoRuns
rest_runs c x b rest d e t = ap by_runs (made_now c x [] (made_rest c x b rest d e t))

none_runs : (c x : Context) → x.cap.done ≡ [] → NoRuns c (Some x)
unfolding NoRuns
none_runs c x d = ap by_runs (made_now c x [] (made_none c x d))

then_runs : (c x y : Context) → x.cap.done ≡ c.cap.done → x.cap.next_seq ≡ c.cap.next_seq → IsTidy c → Settles x y → NoRuns c (Some y)
unfolding NoRuns
then_runs c x y d n t s = settled_runs c x y [] (made_same c x d t) (omega arith) s

closed_runs : (c : Context) → NoRuns c None
unfolding NoRuns
closed_runs c = tt

pub effect_runs : (c : Context) {request : Call} {bytes : List ℕ} {reply : Reply} {slot : Slot} → IsTidy c → Effect c request bytes reply slot → NoRuns c slot
effect_runs c t (stays n) = same_runs c c refl t
effect_runs c t (closes n) = closed_runs c
effect_runs c t (has_events events n) = same_runs c _ refl t
effect_runs c t (has_rates rates) = same_runs c _ refl t
effect_runs c t (has_out_format codec geometry o q k) = same_runs c _ refl t
effect_runs c t (has_cap_format q) = same_runs c _ refl t
effect_runs c t (has_out_buffers size codec geometry o k) = same_runs c _ refl t
effect_runs c t (has_cap_buffers size o) = none_runs c _ refl
effect_runs c t adds_out = same_runs c _ refl t
effect_runs c t adds_cap = same_runs c _ refl t
effect_runs c t (queues_out b e) = same_runs c _ refl t
effect_runs c t (queues_cap b y e s) = then_runs c _ y refl refl t s
effect_runs c t (takes_out b rest d) = same_runs c _ refl t
effect_runs c t (takes_cap b rest d n l) = rest_runs c _ b rest d refl t
effect_runs c t (takes_last b cause mark d p m) = none_runs c _ refl
effect_runs c t streams_out = same_runs c _ refl t
effect_runs c t (streams_cap y s) = then_runs c _ y refl refl t s
effect_runs c t (stops_out codec n k) = same_runs c _ refl t
effect_runs c t (stops_cap codec n o k) = none_runs c _ refl
effect_runs c t (rests_cap n o) = none_runs c _ refl
effect_runs c t (sets_mark y n i b m d s) = then_runs c _ y refl refl t s
effect_runs c t (starts y n i b e s) = then_runs c (record c { phase = run }) y refl refl t s

-- no buffer goes to done where CAPTURE stays as it is
pub quiet_runs : (c x : Context) → x.cap.done ≡ c.cap.done → IsTidy c → by_runs (done_now c x) ≡ []
quiet_runs c x d t = ap by_runs (made_now c x [] (made_same c x d t))

-- One for one

pub pairs_append : (xs ys : List SegmentResult) (bs ds : List Buffer) → OneForOne xs bs → OneForOne ys ds → OneForOne (xs ++ ys) (bs ++ ds)
pairs_append [] ys [] ds p q = q
pairs_append [] ys (b ∷ bs) ds p q = absurd p
pairs_append (x ∷ xs) ys [] ds p q = absurd p
pairs_append (x ∷ xs) ys (b ∷ bs) ds p q = (p.0, pairs_append xs ys bs ds p.1 q)

pub buffers_more : (rs : List SegmentResult) (from : ℕ) (fourcc : Fourcc) (stamp : Stamp) (o : Option FrameResult) → in_buffers (with_result rs from fourcc stamp o) ≡ in_buffers rs ++ in_buffers (with_result [] from fourcc stamp o)
buffers_more rs from fourcc stamp None = sym (append-nil (in_buffers rs))
buffers_more rs from fourcc stamp (Some r) =
    filter-append (λ (x : SegmentResult). is_no_change x.what) rs (record { what = moved_result from r; stamp = stamp; fourcc = fourcc } ∷ [])

-- What a run of a decoder that has neither geometry nor reference can give: nothing, and then there is still no reference,
-- or a change.
pub data IsBlankStep (step : DecodedStep) : Type 0 where
  gives_none : step.given ≡ None → step.state.reference ≡ None → IsBlankStep step
  gives_change : (r : FrameResult) → step.given ≡ Some r → is_change_result r.kind ≡ true → IsBlankStep step

FirstIsChange : List GivenResult → Type 0
FirstIsChange [] = Unit {0}
FirstIsChange (x ∷ later) = is_change_result x.result.kind ≡ true

abbrev blank_now : BetweenFrames
blank_now = record { geometry = None; reference = None }

header_first : (position : ℕ) (h : Header) (key : Bool) → h.key ≡ key → FirstIsChange (given_at_header position h blank_now)
unfolding FirstIsChange
header_first position h key e = split (h.key && true)
  where
    split : (b : Bool) → FirstIsChange (cond b (record { result = record { position = position; known = position + 44; kind = Changed h.geometry }; present = record { geometry = Some h.geometry; reference = None } } ∷ []) [])
    split true = refl
    split false = tt

front_change : (k : Bool) (x : GivenResult) (tail : List GivenResult) → k ≡ true → is_change_result x.result.kind ≡ true → FirstIsChange (cond (k && true) (x ∷ []) [] ++ tail)
unfolding FirstIsChange
front_change true x tail e h = h
front_change false x tail e h = absurd (false≢true e)

key_first :
    (f : Frame) (frames : List Frame) (unfinished : Option OpenFrame) (key : Bool) → f.header.key ≡ key
    → FirstIsChange (given_in_frames frames unfinished blank_now)
    → FirstIsChange (given_then (not key) f blank_now (λ later. given_in_frames frames unfinished later))
key_first f frames unfinished true e h =
    front_change f.header.key (record { result = record { position = f.position; known = f.position + 44; kind = Changed f.header.geometry }; present = record { geometry = Some f.header.geometry; reference = None } }) _ e refl
key_first f frames unfinished false e h = h

frames_first : (frames : List Frame) (unfinished : Option OpenFrame) → FirstIsChange (given_in_frames frames unfinished blank_now)
unfolding FirstIsChange
frames_first [] None = tt
frames_first [] (Some f) = header_first f.position f.header f.header.key refl
frames_first (f ∷ frames) unfinished =
    key_first f frames unfinished f.header.key refl (frames_first frames unfinished)

by_first : (s : DecoderState) (limit : ℕ) (bytes : List ℕ) (stamp : Stamp) (xs : List GivenResult) → s.reference ≡ None → FirstIsChange xs → IsBlankStep (decoded_by s limit bytes stamp xs)
unfolding FirstIsChange
by_first s limit bytes stamp [] n h = gives_none refl n
by_first s limit bytes stamp (x ∷ later) n h = gives_change x.result refl h

pub blank_step : (s : DecoderState) (limit : ℕ) (source : List ℕ) (stamp : Stamp) → s.reference ≡ None → IsBlankStep (decode s None limit source stamp)
unfolding decode given_in
blank_step s limit source stamp n =
    by_first s limit (s.tail ++ source) stamp _ n
    (subst
    (λ r. FirstIsChange (given_in_frames (places (s.tail ++ source) limit).frames (places (s.tail ++ source) limit).unfinished (record { geometry = None; reference = r })))
    (sym n) (frames_first (places (s.tail ++ source) limit).frames (places (s.tail ++ source) limit).unfinished))

-- The buffer of a run

pub cap_bytes : (side : Side) (flags : ℕ) (bytes : List ℕ) → side ≡ Cap → known_bytes side flags bytes ≡ bytes
cap_bytes side flags bytes e = ap (λ s. known_bytes s flags bytes) e

-- the buffer that the run put on done, with the flags that it put there
abbrev pub retired_buffer : Context → Buffer → ℕ → List ℕ → ℕ → Stamp → Buffer
retired_buffer c d used bytes flags stamp =
    record d { used = used; bytes = known_bytes c.cap.side flags bytes; flags = flags; stamp = stamp; seq = c.cap.next_seq }

-- it is the buffer of the result, and no empty LAST buffer
abbrev IsGivenIn : ℕ → Fourcc → DecodedStep → Buffer → Type 0
IsGivenIn from fourcc step z =
    (by_runs (z ∷ []) ≡ z ∷ []) × OneForOne (in_buffers (with_result [] from fourcc step.stamp step.given)) (z ∷ [])

pub type_by_run : (key : Bool) → eqb (type_flag key) last_flag ≡ false
type_by_run true = refl
type_by_run false = refl

pub type_last_by_run : (key : Bool) → eqb (type_flag key + last_flag) last_flag ≡ false
type_last_by_run true = refl
type_last_by_run false = refl

pub by_run_alone : (z : Buffer) → eqb z.flags last_flag ≡ false → by_runs (z ∷ []) ≡ z ∷ []
by_run_alone z e = ap (λ b. cond (not b) (z ∷ []) []) e

-- one result in one buffer
one_pair :
    (from : ℕ) (fourcc : Fourcc) (step : DecodedStep) (r : FrameResult) (z : Buffer) (kind : ResultKind) → step.given ≡ Some r → r.kind ≡ kind
    → is_change_result kind ≡ false → z.stamp ≡ step.stamp
    → HoldsKind (record { what = moved_result from r; stamp = step.stamp; fourcc = fourcc }) z kind
    → OneForOne (in_buffers (with_result [] from fourcc step.stamp step.given)) (z ∷ [])
one_pair from fourcc step r z kind g k n s h =
    let x : SegmentResult = record { what = moved_result from r; stamp = step.stamp; fourcc = fourcc } in
    let kept : in_buffers (x ∷ []) ≡ x ∷ [] = ap (λ b. cond (not b) (x ∷ []) []) (ap is_change_result k ∙ n) in
    subst (λ o. OneForOne (in_buffers (with_result [] from fourcc step.stamp o)) (z ∷ [])) (sym g) (subst (λ l. OneForOne l (z ∷ [])) (sym kept) ((s, subst (HoldsKind x z) (sym k) h), tt))

-- the buffer with the flags of the run, and with LAST beside them
puts_given :
    (c : Context) (j : JobData) (b d : Buffer) (from : ℕ) (step : DecodedStep) (result : Option RunResult) (up : Bool) (flags cursor : ℕ)
    (codec : CodecState) (used : ℕ) (bytes : List ℕ) (dest_flags : ℕ) (stamp : Stamp)
    → result ≡ Some (decoded step) → c.cap.side ≡ Cap → Puts c j b result up flags cursor codec used bytes dest_flags stamp
    → IsGivenIn from j.format.fourcc step (retired_buffer c d used bytes dest_flags stamp) × IsGivenIn from j.format.fourcc step (retired_buffer c d used bytes (dest_flags + last_flag) stamp)
puts_given c j b d from step result up flags cursor codec used bytes dest_flags stamp e side (puts_fault k) = absurd (cc)
puts_given c j b d from step result up flags cursor codec used bytes dest_flags stamp e side (puts_copy xs k) = absurd (cc)
puts_given c j b d from step result up flags cursor codec used bytes dest_flags stamp e side (puts_frame frame k) = absurd (cc)
puts_given c j b d from step result up flags cursor codec used bytes dest_flags stamp e side (puts_picture now r geometry key planes g k) =
    let raw = raw_of j.format.fourcc planes in
    let plain = retired_buffer c d (length raw) raw (type_flag key) now.stamp in
    let end = retired_buffer c d (length raw) raw (type_flag key + last_flag) now.stamp in
    subst (λ s.
    IsGivenIn from j.format.fourcc s (retired_buffer c d (length raw) raw (type_flag key) now.stamp)
    × IsGivenIn from j.format.fourcc s (retired_buffer c d (length raw) raw (type_flag key + last_flag) now.stamp))
    (let q : now ≡ step = cc in q) (
      (by_run_alone plain (type_by_run key), one_pair from j.format.fourcc now r plain (Picture geometry key planes) g k refl refl (cap_bytes c.cap.side (type_flag key) raw side, refl, inl refl)),
      (
        by_run_alone end (type_last_by_run key),
        one_pair from j.format.fourcc now r end (Picture geometry key planes) g k refl refl (cap_bytes c.cap.side (type_flag key + last_flag) raw side, refl, inr refl),
      ),
    )
puts_given c j b d from step result up flags cursor codec used bytes dest_flags stamp e side (puts_damage now r g k) =
    let plain = retired_buffer c d 0 [] error_flag now.stamp in
    let end = retired_buffer c d 0 [] (error_flag + last_flag) now.stamp in
    subst
    (λ s. IsGivenIn from j.format.fourcc s (retired_buffer c d 0 [] error_flag now.stamp) × IsGivenIn from j.format.fourcc s (retired_buffer c d 0 [] (error_flag + last_flag) now.stamp))
    (let q : now ≡ step = cc in q) (
      (refl, one_pair from j.format.fourcc now r plain Damaged g k refl refl (cap_bytes c.cap.side error_flag [] side, refl, inl refl)),
      (refl, one_pair from j.format.fourcc now r end Damaged g k refl refl (cap_bytes c.cap.side (error_flag + last_flag) [] side, refl, inr refl)),
    )

-- a result that goes to the client in no buffer
pub NoBuffer : Option FrameResult → Type 0
NoBuffer None = Unit {0}
NoBuffer (Some r) = is_change_result r.kind ≡ true

pub blank_gives_no_buffer : (step : DecodedStep) → IsBlankStep step → NoBuffer step.given
unfolding NoBuffer
blank_gives_no_buffer step (gives_none g r) = subst NoBuffer (sym g) tt
blank_gives_no_buffer step (gives_change r g k) = subst NoBuffer (sym g) k

puts_no_buffer :
    {A : Type 0}
    → (c : Context) (j : JobData) (b : Buffer) (step : DecodedStep) (result : Option RunResult) (up : Bool) (flags cursor : ℕ) (codec : CodecState)
    (used : ℕ) (bytes : List ℕ) (dest_flags : ℕ) (stamp : Stamp)
    → result ≡ Some (decoded step) → NoBuffer step.given → Puts c j b result up flags cursor codec used bytes dest_flags stamp → A
unfolding NoBuffer
puts_no_buffer c j b step result up flags cursor codec used bytes dest_flags stamp e n (puts_fault k) = absurd (cc)
puts_no_buffer c j b step result up flags cursor codec used bytes dest_flags stamp e n (puts_copy xs k) = absurd (cc)
puts_no_buffer c j b step result up flags cursor codec used bytes dest_flags stamp e n (puts_frame frame k) = absurd (cc)
puts_no_buffer c j b step result up flags cursor codec used bytes dest_flags stamp e n (puts_picture now r geometry key planes g k) =
    let same : now ≡ step = cc in
    absurd (false≢true (ap is_change_result (sym k) ∙ subst NoBuffer g (subst (λ s. NoBuffer s.given) (sym same) n)))
puts_no_buffer c j b step result up flags cursor codec used bytes dest_flags stamp e n (puts_damage now r g k) =
    let same : now ≡ step = cc in
    absurd (false≢true (ap is_change_result (sym k) ∙ subst NoBuffer g (subst (λ s. NoBuffer s.given) (sym same) n)))

-- What a run put on done is its result, where that goes to the client in a buffer.
pub GaveIn : Context → ℕ → Fourcc → DecodedStep → Context → Type 0
GaveIn c from fourcc step y =
    OneForOne (in_buffers (with_result [] from fourcc step.stamp step.given)) (by_runs (done_now c y))

nothing_given : (from : ℕ) (fourcc : Fourcc) (stamp : Stamp) (o : Option FrameResult) → NoBuffer o → in_buffers (with_result [] from fourcc stamp o) ≡ []
unfolding NoBuffer
nothing_given from fourcc stamp None n = refl
nothing_given from fourcc stamp (Some r) n =
    ap (λ b. cond (not b) (record { what = moved_result from r; stamp = stamp; fourcc = fourcc } ∷ []) []) n

gave_nothing : (c x y : Context) (from : ℕ) (fourcc : Fourcc) (step : DecodedStep) → NoBuffer step.given → x.cap.done ≡ c.cap.done → x.cap.next_seq ≡ c.cap.next_seq → IsTidy c → Settles x y → GaveIn c from fourcc step y
unfolding GaveIn
gave_nothing c x y from fourcc step n d q t s =
    subst (λ l. OneForOne l (by_runs (done_now c y))) (sym (nothing_given from fourcc step.stamp step.given n)) (subst (λ l. OneForOne [] l) (sym (settled_runs c x y [] (made_same c x d t) (omega arith) s)) tt)

gave_one :
    (c x y : Context) (from : ℕ) (fourcc : Fourcc) (step : DecodedStep) (z : Buffer) → IsGivenIn from fourcc step z
    → x.cap.done ≡ c.cap.done ++ z ∷ [] → z.seq ≡ c.cap.next_seq → x.cap.next_seq ≡ c.cap.next_seq + 1 → IsTidy c → Settles x y
    → GaveIn c from fourcc step y
unfolding GaveIn
gave_one c x y from fourcc step z g d q n t s =
    subst (OneForOne (in_buffers (with_result [] from fourcc step.stamp step.given))) (sym (settled_runs c x y (z ∷ []) (made_more c c x [] z d (omega arith) (made_same c c refl t)) (omega arith) s ∙ g.0)) g.1

returned_done : (q k : QueueState) → Returns q k → (k.done ≡ q.done) × (k.next_seq ≡ q.next_seq)
returned_done q k (none_taken j) = (refl, refl)
returned_done q k (given_back d j) = (refl, refl)

pub ended_gave :
    (c : Context) (j : JobData) (b : Buffer) (from : ℕ) (step : DecodedStep) {result : Option RunResult} (x y : Context)
    → result ≡ Some (decoded step) → c.cap.side ≡ Cap → IsTidy c → (c.cap.job ≡ [] → NoBuffer step.given) → Ends c j b result x → Settles x y
    → GaveIn c from j.format.fourcc step y
unfolding NoBuffer
ended_gave c j b from step {result = result} x y e side t n (alone up flags cursor codec used bytes dest_flags stamp p k) s =
    puts_no_buffer c j b step result up flags cursor codec used bytes dest_flags stamp e (n k) p
ended_gave c j b from step {result = result} x y e side t n (kept up flags cursor codec used bytes dest_flags stamp d p k) s =
    gave_one c x y from j.format.fourcc step (retired_buffer c d used bytes dest_flags stamp) (puts_given c j b d from step result up flags cursor codec used bytes dest_flags stamp e side p).0 refl refl refl t s
ended_gave c j b from step {result = result} x y e side t n (ended flags cursor codec used bytes dest_flags stamp d up p u k m) s =
    gave_one c x y from j.format.fourcc step (retired_buffer c d used bytes (dest_flags + last_flag) stamp) (puts_given c j b d from step result up flags cursor codec used bytes dest_flags stamp e side p).1 refl refl refl t s
ended_gave c j b from step x y e side t n (halts now r geometry k phase events g q back p) s =
    let d = returned_done c.cap k back in
    let same : now ≡ step = cc in
    gave_nothing c x y from j.format.fourcc step (subst (λ z. NoBuffer z.given) same (subst NoBuffer (sym g) (ap is_change_result q))) d.0 d.1 t s
ended_gave c j b from step x y e side t n (spends now k g back) s =
    let d = returned_done c.cap k back in
    let same : now ≡ step = cc in
    gave_nothing c x y from j.format.fourcc step (subst (λ z. NoBuffer z.given) same (subst NoBuffer (sym g) tt)) d.0 d.1 t s

pub gave_in : (c y : Context) (from : ℕ) (fourcc : Fourcc) (step : DecodedStep) → GaveIn c from fourcc step y → OneForOne (in_buffers (with_result [] from fourcc step.stamp step.given)) (by_runs (done_now c y))
unfolding GaveIn
gave_in c y from fourcc step g = g
