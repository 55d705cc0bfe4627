-- What an engine makes of the work of a job is what the definitions bring back of it. Each outcome is held against
-- the result of the run that it tells of.
use Rattle.std.proofs.Common.{ℕ, ◌≡◌, ◌≤◌, ◌+◌, ◌⊎◌, inl, inr, Bool, true, false, Option, Some, None, Result, Ok, Err, List, [], ◌∷◌, ◌++◌, length, take, drop, refl, sym, ap, ◌∙◌, subst, arith, length-take, take-take}
use Rattle.std.proofs.Math.Seq.{take-append_seam}
use Rattle.std.specs.Prelude.{min, is_err, IfOk, IsTrue, is_some, not}
use Rattle.std.specs.Option.{option_map}
use Rattle.std.proofs.lemmas.List.{take-append-le, length-take-le}
use Rattle.vc_base.specs.declared.Format.{Format}
use Rattle.vc_base.specs.Buffers.{Buffer}
use Rattle.vc_base.specs.declared.Stamp.{Stamp}
use Rattle.vc_base.specs.declared.Fourcc.{Fourcc}
use Rattle.vc_defs.specs.declared.Geometry.{Geometry}
use Rattle.vc_defs.specs.Places.{Frame, OpenFrame, places}
use Rattle.vc_defs.specs.Encoder.{EncoderState, EncodedFrame, RunRates, encode as encode_frame}
use Rattle.vc_defs.specs.Decoder.{DecoderState, DecodedStep, DecodedResult, picture, damaged, changed, spent, GivenResult, BetweenFrames, Changed}
use Rattle.vc_defs.specs.Decoder.{decode as decode_next, decoded_by, given_in, given_in_frames, given_at_header, given_then, step_outcome}
use Rattle.vc_model.specs.Coder.{CodecState, no_codec, encoder, decoder, the_coder}
use Rattle.vc_model.specs.Context.{RunSort, copy, encode, decode, probe}
use Rattle.vc_model.specs.Runs.{JobData, run_result, run_of, encode_run, decode_run, dest_size}
use Rattle.vc_model.specs.Core.{brought_back, result_of}
use Rattle.vc_work.specs.declared.work.Sort.{Sort}
use Rattle.vc_work.specs.declared.work.Sort.TheVariants as sort
use Rattle.vc_work.specs.declared.work.Work.{Work}
use Rattle.vc_work.specs.declared.engine.Outcome.{Outcome}
use Rattle.vc_work.specs.declared.engine.Outcome.TheVariants.{Copied, Encoded, Picture, Damaged, Changed as ChangedTo, Spent}
use Rattle.vc_work.specs.declared.engine.EngineFault.{EngineFault}
use Rattle.vc_work.specs.References.{CodecReference}
use Rattle.vc_work.specs.Streams.{HasStream, picture_of}
use Rattle.vc_defs.specs.Raw.{geometry_of}
use Rattle.vc_work.specs.Runs.{Fits, HasAll, HasDest, IsRun, Does, DoesDecode, IsCopied, IsEncoded, IsDecoded, KeepsLengths, dest_bytes, copied_over}
use Rattle.vc_work.specs.Runs.{copied_length, coder_state, with_state, next_frame, put_over, run_rates, HasGeometry, stream_state, fresh_bytes, next_result}
use Rattle.vc_work.specs.Runs.{told_as, shown_in, geometry_behind, result_of as result_in}
use Rattle.vc_context.specs.Works.{IsWork, IsSort, IsCodec, HasState, IsDest, IsSourceBack, HasFront, HasBytes, HasFrame, HasRoomFor, IsAsLong, HasAreas, IsShown, HasResult, HasDecoded, is_decoding, IsResult, IsBack}
use Rattle.vc_context.specs.Laws.{put_back, RunsAreBack}

-- the destination keeps its size
dest_same : (ds : List Buffer) (old new : Option (List ℕ)) → IsDest ds old → option_map length new ≡ option_map length old → IsDest ds new
dest_same [] None None d e = tt
dest_same [] None (Some y) d e = cc
dest_same [] (Some x) new d e = absurd d
dest_same (b ∷ []) None new d e = absurd d
dest_same (b ∷ []) (Some x) None d e = cc
dest_same (b ∷ []) (Some x) (Some y) d e = (let n : length y ≡ length x = cc in n) ∙ d
dest_same (b ∷ (c ∷ rest)) old new d e = absurd d

-- the reference keeps its room
room_kept : (format : Format) (old new : Option CodecReference) → HasRoomFor format old → option_map (λ (r : CodecReference). r.size) new ≡ option_map (λ (r : CodecReference). r.size) old → HasRoomFor format new
room_kept format None new h e = absurd h
room_kept format (Some r) None h e = cc
room_kept format (Some r) (Some n) h e =
    let same : n.size ≡ r.size = cc in
    omega (arith, same, h)

long_kept : (ds : List Buffer) (old new : Option CodecReference) → IsAsLong ds old → option_map (λ (r : CodecReference). r.size) new ≡ option_map (λ (r : CodecReference). r.size) old → IsAsLong ds new
long_kept [] None None h e = tt
long_kept [] None (Some n) h e = cc
long_kept [] (Some r) new h e = absurd h
long_kept (b ∷ []) None new h e = absurd h
long_kept (b ∷ []) (Some r) None h e = cc
long_kept (b ∷ []) (Some r) (Some n) h e = (let same : n.size ≡ r.size = cc in same) ∙ h
long_kept (b ∷ (c ∷ rest)) old new h e = absurd h

-- what a copy run put into the destination
front_at : (source x now : List ℕ) (used m : ℕ) → m ≤ used → used ≤ length source → now ≡ take m source ++ drop m x → take m now ≡ take m source
front_at source x now used m h l e =
    let long : m ≤ length (take m source) = omega (arith, length-take m source) in
    ap (take m) e ∙ (take-append-le m (take m source) (drop m x) long ∙ take-take m m source (omega arith))

record Put (ds : List Buffer) (source : List ℕ) (used count : ℕ) (new : Option (List ℕ)) : Type 0 where
  count_is : count ≡ min used (dest_size ds)
  front : (bytes : List ℕ) → length bytes ≡ count → take count source ≡ bytes → HasFront bytes new

put_at :
    (ds : List Buffer) (old new : Option (List ℕ)) (source : List ℕ) (used count : ℕ) → IsDest ds old → used ≤ length source
    → option_map (copied_length used) old ≡ Some count → new ≡ option_map (copied_over source used) old → Put ds source used count new
put_at ds None new source used count d l t e = cc
put_at [] (Some x) new source used count d l t e = absurd d
put_at (b ∷ []) (Some x) new source used count d l t e =
    let m : min used (length x) ≡ count = cc in
    let c : count ≡ min used b.size = omega (arith, m, d) in
    let there : (bytes : List ℕ) → length bytes ≡ count → take count source ≡ bytes → HasFront bytes (Some (copied_over source used x)) =
    λ bytes n f. rw n (rw (← m) (front_at source x (copied_over source used x) used (min used (length x)) (omega arith) l refl) ∙ f) in
    record { count_is = c; front = λ bytes n f. subst (HasFront bytes) (sym e) (there bytes n f) }
put_at (b ∷ (c ∷ rest)) (Some x) new source used count d l t e = absurd d

-- what an encode run put there
frame_front : (ds : List Buffer) (least : ℕ) (old new : Option (List ℕ)) (bytes : List ℕ) → HasDest least old → new ≡ option_map (put_over bytes) old → HasFront bytes new
frame_front ds least None new bytes d e = absurd d
frame_front ds least (Some x) new bytes d e =
    subst (HasFront bytes) (sym e) (take-append_seam bytes (drop (length bytes) x))

-- the state of the reference after an encode run
state_put : (state after : EncoderState) (old new : Option CodecReference) → HasState state old → new ≡ option_map (with_state after) old → HasState after new
state_put state after None new h e = absurd h
state_put state after (Some r) new h e = subst (HasState after) (sym e) refl

state_there : (state : EncoderState) (old : Option CodecReference) → HasState state old → coder_state old ≡ state
state_there state None h = absurd h
state_there state (Some r) h = h

-- the picture of a frame is of its format
frame_picture : (state : EncoderState) (format : Format) (rates : RunRates) (bytes : List ℕ) → HasGeometry (geometry_of format) (encode_frame state format rates bytes).state.reference
unfolding encode_frame
frame_picture state format rates bytes = refl

-- A decoder that has no geometry and no reference gives a change first.

abbrev IsChangeFirst : List GivenResult → Type 0
IsChangeFirst [] = Unit {0}
IsChangeFirst (first ∷ later) = (g : Geometry) × (first.result.kind ≡ Changed g)

abbrev unknown : BetweenFrames
unknown = record { geometry = None; reference = None }

change_then : (f : Frame) (key : Bool) (rest : BetweenFrames → List GivenResult) → f.header.key ≡ key → IsChangeFirst (rest unknown) → IsChangeFirst (given_then (not key) f unknown rest)
change_then f true rest e h = rw e (f.header.geometry, refl)
change_then f false rest e h = h

change_first : (fs : List Frame) (unfinished : Option OpenFrame) → IsChangeFirst (given_in_frames fs unfinished unknown)
change_first [] None = tt
change_first [] (Some f) = at_header f.header.key refl
  where
    at_header : (key : Bool) → f.header.key ≡ key → IsChangeFirst (given_at_header f.position f.header unknown)
    at_header true e = rw e (f.header.geometry, refl)
    at_header false e = rw e tt
change_first (f ∷ fs) unfinished =
    change_then f f.header.key (λ later. given_in_frames fs unfinished later) refl (change_first fs unfinished)

-- the result of a run has no picture
abbrev HasNoPicture : DecodedResult → Type 0
HasNoPicture (picture bytes key stamp) = ⊥
HasNoPicture (damaged stamp) = Unit {0}
HasNoPicture (changed geometry) = Unit {0}
HasNoPicture spent = Unit {0}

no_picture_in : (fourcc : Fourcc) (s : DecoderState) (limit : ℕ) (bytes : List ℕ) (stamp : Stamp) (given : List GivenResult) → IsChangeFirst given → HasNoPicture (step_outcome fourcc (decoded_by s limit bytes stamp given))
no_picture_in fourcc s limit bytes stamp [] h = tt
no_picture_in fourcc s limit bytes stamp (first ∷ later) h = rw h.1 tt

no_picture : (fourcc : Fourcc) (s : DecoderState) (g : Option Geometry) (limit : ℕ) (source : List ℕ) (stamp : Stamp) → s.reference ≡ None → g ≡ None → HasNoPicture (step_outcome fourcc (decode_next s g limit source stamp))
unfolding decode_next given_in
no_picture fourcc s g limit source stamp r e =
    let bytes : List ℕ = s.tail ++ source in
    let first : IsChangeFirst (given_in bytes limit g s.reference) = rw e (rw r (change_first (places bytes limit).frames (places bytes limit).unfinished)) in
    no_picture_in fourcc s limit bytes stamp (given_in bytes limit g s.reference) first

-- what a result shows in a destination that is there, or it shows nothing
shown_at : (result : DecodedResult) (old new : Option (List ℕ)) → IsTrue (is_some old) ⊎ HasNoPicture result → new ≡ option_map (shown_in result) old → IsShown result new
shown_at (picture bytes key stamp) None new (inl h) e = cc
shown_at (picture bytes key stamp) None new (inr h) e = absurd h
shown_at (picture bytes key stamp) (Some x) new h e =
    subst (HasFront bytes) (sym e) (take-append_seam bytes (drop (length bytes) x))
shown_at (damaged stamp) old new h e = tt
shown_at (changed geometry) old new h e = tt
shown_at spent old new h e = tt

dest_there : (least : ℕ) (dest : Option (List ℕ)) → HasDest least dest → IsTrue (is_some dest)
dest_there least None h = absurd h
dest_there least (Some x) h = refl

-- a run of a decoder has a destination, or it is a probe, which gives no picture
shows : (s : Sort) (w : Work) → HasAll s w → (s ≡ sort.Probe) ⊎ (s ≡ sort.Decode) → IsTrue (is_some (dest_bytes w)) ⊎ HasNoPicture (result_in w)
shows sort.Probe w a s =
    inr (no_picture w.format.fourcc (stream_state w) w.geometry w.limit (fresh_bytes w) w.source.stamp (ap picture_of a.reference) a.geometry)
shows sort.Decode w a s = inl (dest_there w.format.size (dest_bytes w) a.dest)
shows sort.Copy w a (inl e) = cc
shows sort.Copy w a (inr e) = cc
shows sort.Encode w a (inl e) = cc
shows sort.Encode w a (inr e) = cc

module _ (j : JobData) (old ran : Work) (h : IsWork j old) (fits : Fits old) (lengths : KeepsLengths old ran) where
  abbrev new : Work
  new = put_back old ran

  source_back : IsSourceBack j.source new.source
  source_back =
      record {
        used = h.source.used;
        stamp = h.source.stamp;
        size = (let e : length ran.source.payload.items ≡ length old.source.payload.items = omega (arith, lengths.source, ran.source.payload.ok.0, old.source.payload.ok.0) in e) ∙ h.source.size;
      }

  dest_back : IsDest j.dest (dest_bytes new)
  dest_back = dest_same j.dest (dest_bytes old) (dest_bytes new) h.dest lengths.dest

  areas_at : (codec : CodecState) → HasAreas codec j old → HasAreas codec j new
  areas_at no_codec a = tt
  areas_at (encoder state) a = room_kept j.format old.reference new.reference a lengths.reference
  areas_at (decoder state) a =
      record { assembly = lengths.assembly ∙ a.assembly; reference = long_kept j.dest old.reference new.reference a.reference lengths.reference }

  filled : j.source.used ≤ length old.source.payload.items
  filled = omega (arith, fits.used, h.source.used, old.source.payload.ok.0)

  whole : length j.source.bytes ≡ j.source.used
  whole =
      ap length (sym h.source.bytes) ∙ length-take-le j.source.used old.source.payload.items filled

  -- the source has its bytes after a run
  source_kept : (outcome : Outcome) → IsRun old ran outcome → take j.source.used new.source.payload.items ≡ j.source.bytes
  source_kept outcome r = ap (take j.source.used) r.rest.bytes ∙ h.source.bytes

  copied_at : (count : ℕ) → IsRun old ran (Copied count) → IsCopied old ran count → HasBytes (take (min j.source.used (dest_size j.dest)) j.source.bytes) j.source new count
  copied_at count r c =
      let src : List ℕ = old.source.payload.items in
      let n : ℕ = min j.source.used (dest_size j.dest) in
      let p : Put j.dest src j.source.used count (dest_bytes new) =
      put_at j.dest (dest_bytes old) (dest_bytes new) src j.source.used count h.dest filled
      (subst (λ (u : ℕ). option_map (copied_length u) (dest_bytes old) ≡ Some count) h.source.used c.told)
      (subst (λ (u : ℕ). dest_bytes new ≡ option_map (copied_over src u) (dest_bytes old)) h.source.used c.dest) in
      let below : n ≤ j.source.used = omega arith in
      let many : length (take n j.source.bytes) ≡ count = length-take n j.source.bytes ∙ (let m : min n (length j.source.bytes) ≡ count = omega (arith, whole, p.count_is) in m) in
      let right : take count src ≡ take n j.source.bytes = ap (λ (x : ℕ). take x src) p.count_is ∙ (sym (take-take n j.source.used src below) ∙ ap (take n) h.source.bytes) in
      record {
        told = sym many;
        front = p.front (take n j.source.bytes) many right;
        source_bytes = source_kept (Copied count) r;
      }

  frame_at : (state : EncoderState) → HasState state old.reference → next_frame old ≡ encode_frame state j.format j.rates j.source.bytes
  frame_at state c =
      ap (λ (s : EncoderState). encode_frame s old.format (run_rates old.rates) (take old.source.used old.source.payload.items)) (state_there state old.reference c)
      ∙ (ap (λ (f : Format). encode_frame state f (run_rates old.rates) (take old.source.used old.source.payload.items)) h.format
      ∙ (ap (λ (r : RunRates). encode_frame state j.format r (take old.source.used old.source.payload.items)) h.rates
      ∙ ap (encode_frame state j.format j.rates) (ap (λ (u : ℕ). take u old.source.payload.items) h.source.used ∙ h.source.bytes)))

  encoded_at :
      (count least : ℕ) (key : Bool) (state : EncoderState) → HasState state old.reference → HasDest least (dest_bytes old)
      → IsRun old ran (Encoded count key) → IsEncoded old ran count key → HasFrame (next_frame old) j new count key
  encoded_at count least key state c d r e =
      record {
        bytes = record { told = e.told; front = frame_front j.dest least (dest_bytes old) (dest_bytes new) (next_frame old).bytes d e.dest; source_bytes = source_kept (Encoded count key) r };
        told_key = e.told_key;
        state = state_put state (next_frame old).state old.reference new.reference c e.reference;
        picture = subst (λ (f : Format). HasGeometry (geometry_of f) (next_frame old).state.reference) h.format (frame_picture (coder_state old.reference) old.format (run_rates old.rates) (take old.source.used old.source.payload.items));
      }

  -- the next result is the one that the model's run comes to
  step_at : (state : DecoderState) → stream_state old ≡ state → next_result old ≡ decode_next state j.geometry j.limit (drop j.source.cursor j.source.bytes) j.source.stamp
  step_at state c =
      let bytes : fresh_bytes old ≡ drop j.source.cursor j.source.bytes =
      ap (λ (x : ℕ). drop x (take old.source.used old.source.payload.items)) h.source.cursor
      ∙ ap (drop j.source.cursor) (ap (λ (u : ℕ). take u old.source.payload.items) h.source.used ∙ h.source.bytes) in
      ap (λ (s : DecoderState). decode_next s old.geometry old.limit (fresh_bytes old) old.source.stamp) c
      ∙ (ap (λ (g : Option Geometry). decode_next state g old.limit (fresh_bytes old) old.source.stamp) h.geometry
      ∙ (ap (λ (l : ℕ). decode_next state j.geometry l (fresh_bytes old) old.source.stamp) h.limit
      ∙ (ap (λ (b : List ℕ). decode_next state j.geometry j.limit b old.source.stamp) bytes ∙ ap (decode_next state j.geometry j.limit (drop j.source.cursor j.source.bytes)) h.source.stamp)))

  result_at : (outcome : Outcome) (result : DecodedResult) → IsTrue (is_some (dest_bytes old)) ⊎ HasNoPicture result → IsRun old ran outcome → IsDecoded old ran result → HasResult (next_result old) result j new
  result_at outcome result s r d =
      record {
        cursor = d.cursor ∙ ap (λ (x : ℕ). x + (next_result old).moved) h.source.cursor;
        inside = subst (λ (u : ℕ). ran.source.cursor ≤ u) h.source.used d.inside;
        source_bytes = source_kept outcome r;
        shown = shown_at result (dest_bytes old) (dest_bytes new) s d.dest;
        state = d.state;
        stream =
            subst (λ (l : ℕ). HasStream l (geometry_behind result j.geometry) (picture_of new.reference) new.assembly) h.limit
            (subst (λ (g : Option Geometry). HasStream old.limit (geometry_behind result g) (picture_of new.reference) new.assembly) h.geometry d.stream);
        legal = d.legal;
      }

  decoded_at : (outcome : Outcome) → (old.sort ≡ sort.Probe) ⊎ (old.sort ≡ sort.Decode) → IsRun old ran outcome → DoesDecode old ran outcome → HasDecoded (next_result old) j new outcome
  decoded_at outcome s r d =
      let same : result_in old ≡ step_outcome j.format.fourcc (next_result old) = ap (λ (f : Format). step_outcome f.fourcc (next_result old)) h.format in
      record {
        told = d.0 ∙ ap told_as same;
        result = subst (λ (x : DecodedResult). HasResult (next_result old) x j new) same (result_at outcome (result_in old) (shows old.sort old fits.all s) r d.1);
      }

  decoded_to :
      (outcome : Outcome) (state : DecoderState) → j.codec ≡ decoder state → stream_state old ≡ state → is_decoding j.sort ≡ true
      → (old.sort ≡ sort.Probe) ⊎ (old.sort ≡ sort.Decode) → IsRun old ran outcome → DoesDecode old ran outcome
      → IsResult (Some (decode_run the_coder j j.codec)) j new (Ok outcome)
  decoded_to outcome state e c k s r d =
      subst (λ (x : CodecState). IsResult (Some (decode_run the_coder j x)) j new (Ok outcome)) (sym e) (k, subst (λ (step : DecodedStep). HasDecoded step j new outcome) (step_at state c) (decoded_at outcome s r d))

  copied_to : (count : ℕ) → IsRun old ran (Copied count) → (run : RunSort) → j.sort ≡ run → IsSort run sort.Copy → IsCopied old ran count → IsResult (Some (run_of the_coder j run)) j new (Ok (Copied count))
  copied_to count r copy k i d = (k, copied_at count r d)
  copied_to count r encode k i d = absurd i
  copied_to count r decode k i d = absurd i
  copied_to count r probe k i d = absurd i

  encoded_to :
      (count : ℕ) (key : Bool) → IsRun old ran (Encoded count key) → (run : RunSort) (codec : CodecState) → j.sort ≡ run → j.codec ≡ codec
      → HasAll sort.Encode old → IsSort run sort.Encode → IsCodec codec sort.Encode old → IsEncoded old ran count key
      → IsResult (Some (run_of the_coder j run)) j new (Ok (Encoded count key))
  encoded_to count key r copy codec k e a i c d = absurd i
  encoded_to count key r encode no_codec k e a i c d = absurd c
  encoded_to count key r encode (encoder state) k e a i c d =
      subst (λ (x : CodecState). IsResult (Some (encode_run the_coder j x)) j new (Ok (Encoded count key))) (sym e) (k, subst (λ (f : EncodedFrame). HasFrame f j new count key) (frame_at state c) (encoded_at count _ key state c a.dest r d))
  encoded_to count key r encode (decoder state) k e a i c d = absurd c
  encoded_to count key r decode codec k e a i c d = absurd i
  encoded_to count key r probe codec k e a i c d = absurd i

  probed_to :
      (outcome : Outcome) → IsRun old ran outcome → (run : RunSort) (codec : CodecState) → old.sort ≡ sort.Probe → j.sort ≡ run → j.codec ≡ codec
      → IsSort run sort.Probe → IsCodec codec sort.Probe old → DoesDecode old ran outcome
      → IsResult (Some (run_of the_coder j run)) j new (Ok outcome)
  probed_to outcome r copy codec s k e i c d = absurd i
  probed_to outcome r encode codec s k e i c d = absurd i
  probed_to outcome r decode codec s k e i c d = absurd i
  probed_to outcome r probe no_codec s k e i c d = absurd c
  probed_to outcome r probe (encoder state) s k e i c d = absurd c
  probed_to outcome r probe (decoder state) s k e i c d =
      decoded_to outcome state e c (ap is_decoding k) (inl s) r d

  found_to :
      (outcome : Outcome) → IsRun old ran outcome → (run : RunSort) (codec : CodecState) → old.sort ≡ sort.Decode → j.sort ≡ run → j.codec ≡ codec
      → IsSort run sort.Decode → IsCodec codec sort.Decode old → DoesDecode old ran outcome
      → IsResult (Some (run_of the_coder j run)) j new (Ok outcome)
  found_to outcome r copy codec s k e i c d = absurd i
  found_to outcome r encode codec s k e i c d = absurd i
  found_to outcome r probe codec s k e i c d = absurd i
  found_to outcome r decode no_codec s k e i c d = absurd c
  found_to outcome r decode (encoder state) s k e i c d = absurd c
  found_to outcome r decode (decoder state) s k e i c d =
      decoded_to outcome state e c (ap is_decoding k) (inr s) r d

  ran_to : (outcome : Outcome) → IsRun old ran outcome → (s : Sort) → old.sort ≡ s → HasAll s old → IsSort j.sort s → IsCodec j.codec s old → Does s old ran outcome → IsResult (Some (run_of the_coder j j.sort)) j new (Ok outcome)
  ran_to (Copied count) r sort.Copy e a i c d = copied_to count r j.sort refl i d
  ran_to (Encoded count key) r sort.Copy e a i c d = absurd d
  ran_to (Picture used key stamp) r sort.Copy e a i c d = absurd d
  ran_to (Damaged stamp) r sort.Copy e a i c d = absurd d
  ran_to (ChangedTo geometry) r sort.Copy e a i c d = absurd d
  ran_to Spent r sort.Copy e a i c d = absurd d
  ran_to (Copied count) r sort.Encode e a i c d = absurd d
  ran_to (Encoded count key) r sort.Encode e a i c d =
      encoded_to count key r j.sort j.codec refl refl a i c d
  ran_to (Picture used key stamp) r sort.Encode e a i c d = absurd d
  ran_to (Damaged stamp) r sort.Encode e a i c d = absurd d
  ran_to (ChangedTo geometry) r sort.Encode e a i c d = absurd d
  ran_to Spent r sort.Encode e a i c d = absurd d
  ran_to outcome r sort.Probe e a i c d = probed_to outcome r j.sort j.codec e refl refl i c d
  ran_to outcome r sort.Decode e a i c d = found_to outcome r j.sort j.codec e refl refl i c d

  came_to : (result : Result Outcome EngineFault) → IfOk result (IsRun old ran) → IsResult (result_of the_coder j (is_err result)) j new result
  unfolding run_result
  came_to (Err fault) r = tt
  came_to (Ok outcome) r = ran_to outcome r old.sort refl fits.all h.sort h.codec r.done

  pub is_back : (result : Result Outcome EngineFault) → IfOk result (IsRun old ran) → IsBack (brought_back the_coder j (is_err result)) new result
  is_back result r =
      record {
        source = source_back;
        dest = dest_back;
        areas = areas_at j.codec h.areas;
        came_to = came_to result r;
      }

pub runs_are_back : RunsAreBack
runs_are_back j old ran result h fits lengths r =
    is_back j old ran h fits lengths result r
