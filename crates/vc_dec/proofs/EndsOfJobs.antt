-- After the end of a job a decoder is the context that the definitions finish, for each outcome of its run, and keeps
-- what every decoder keeps. What comes back is held against what the definitions bring back.
use Rattle.std.proofs.Common.{ℕ, ◌≡◌, ◌≤◌, ◌+◌, ◌==◌, eqb, eqb-true, Bool, true, false, cond, Option, Some, None, Result, Ok, Err, List, [], ◌∷◌, ◌++◌, map, length, take, refl, sym, ap, ◌∙◌, subst, arith, length-take}
use Rattle.std.specs.Prelude.{min}
use Rattle.std.specs.Option.{option_or}
use Rattle.std.proofs.lemmas.Bool.{false≢true, and_parts}
use Rattle.vc_base.specs.declared.Side.{Side}
use Rattle.vc_base.specs.declared.Side.TheVariants.{Out, Cap}
use Rattle.vc_base.specs.declared.Kind.TheVariants.{Dec}
use Rattle.vc_base.specs.declared.Stamp.{Stamp}
use Rattle.vc_base.specs.Buffers.{Buffer, QueueState, retire_from, retire_after, give_back_from, give_back_after, known_bytes, without_bytes}
use Rattle.vc_base.specs.Limits.{error_flag, source_change_event}
use Rattle.vc_base.specs.Events.{EventState}
use Rattle.vc_defs.specs.declared.Geometry.{Geometry}
use Rattle.vc_defs.specs.Finds.{KeptBytes}
use Rattle.vc_defs.specs.Decoder.{ReferenceState, DecoderState, fresh_decoder, kept_bytes, DecodedStep, DecodedResult, picture, damaged, changed, spent, step_outcome}
use Rattle.vc_model.specs.Formats.{FormatPair}
use Rattle.vc_model.specs.Coder.{CodecState, no_codec, encoder, decoder, reset}
use Rattle.vc_model.specs.Context.{Context, RunSort, copy, encode, PhaseState, run, owe, last, stopped, is_run, settle}
use Rattle.vc_model.specs.Runs.{JobData, RunResult, copied, encoded, decoded, type_flag, sort_of, source_moved, dest_done, decoded_effect}
use Rattle.vc_model.specs.Core.{BroughtBack, finished_context}
use Rattle.vc_model.specs.Sound.{HasCodec, HasGeometry, IsOrdered, dest_count}
use Rattle.vc_model.proofs.EventsKeepSound.{HasResult as HasResultOfKind}
use Rattle.vc_geom.specs.Pairs.{CanStand}
use Rattle.vc_resync.specs.Assembling.{AssemblyState}
use Rattle.vc_work.proofs.Streams.{begins_in_step, keeps_geometry}
use Rattle.vc_queue.specs.declared.queue.Lent.{Lent}
use Rattle.vc_queue.specs.Lending.{back_bytes, IsBack as IsLentBack}
use Rattle.vc_pair.specs.Pairs.{PairState, is_final, raises_end, source_retired}
use Rattle.vc_pair.specs.Rows.{IsRunFlag, keyframe, pframe, error}
use Rattle.vc_work.specs.declared.work.Work.{Work}
use Rattle.vc_work.specs.declared.engine.Outcome.{Outcome}
use Rattle.vc_work.specs.declared.engine.Outcome.TheVariants.{Copied, Encoded, Picture, Damaged, Changed, Spent}
use Rattle.vc_work.specs.declared.engine.EngineFault.{EngineFault}
use Rattle.vc_work.specs.References.{CodecReference}
use Rattle.vc_work.specs.Streams.{picture_of, kept_of, decoder_of, HasStream, IsInStep}
use Rattle.vc_work.specs.Runs.{dest_bytes, told_as}
use Rattle.vc_context.specs.Contexts.{AreFilled, IsKept, IsStep}
use Rattle.vc_context.specs.Works.{IsSourceBack, IsDest, HasFront, IsAsLong, LendsStream, HasAreas, HasResult, IsResult, IsBack, IsBackOf, RunsIn}
use Rattle.vc_dec.specs.declared.Dest.{Dest}
use Rattle.vc_dec.specs.declared.InJob.{InJob}
use Rattle.vc_dec.specs.declared.finishing.RunEnd.{RunEnd}
use Rattle.vc_dec.specs.declared.finishing.Shown.{Shown}
use Rattle.vc_dec.specs.Decoders.{CodecParts, decoder_state, IsDecoder, IsDestOf, IsPlaced, AreUnused, AreUntouched, AreServed, serves, lent_room, IsPictureOf}
use Rattle.vc_dec.specs.Parts.{FindsItsPlace, taken_back, picture_with, present_with}
use Rattle.vc_dec.specs.Ends.{end_of, source_put, dest_ended, handed_back, back_events, events_ended, IsDestBack, IsLentDest, formats_behind, IsLegalChange}
use Rattle.vc_dec.proofs.ReachedStaysReached.{runs, HasSides, sides}
use Rattle.vc_dec.proofs.FormatsHaveTheLayout.{found_sized}
use Rattle.vc_dec.proofs.SettlingLeavesTheRest.{raised, ended_raised}
use Rattle.vc_dec.proofs.EndsKeepThePlace.{HasResultOf, finished_ordered, placed_alone}
use Rattle.vc_dec.proofs.QueuesAtTheEnd.{SourceEnds, source_ends, put_cap, DestEnds, dest_ends, HasRoomFor, RoomShown}
use Rattle.vc_dec.proofs.EndsInWordsOfThePair.{IsDestFor, ShowsBytes, shown_is, back_is, changed_is, not_final, emptied, back_job}

-- the phase while a job runs
run_is : (phase : PhaseState) → is_run phase ≡ true → phase ≡ run
run_is run e = refl
run_is (owe cause) e = absurd (false≢true e)
run_is (last cause) e = absurd (false≢true e)
run_is (stopped cause) e = absurd (false≢true e)

picture_flag : (key : Bool) → IsRunFlag (type_flag key)
picture_flag true = keyframe
picture_flag false = pframe

-- what came back is a result of a decoder

abbrev IsDecodedResult : RunResult → Type 0
IsDecodedResult (copied bytes) = ⊥
IsDecodedResult (encoded frame) = ⊥
IsDecodedResult (decoded step) = Unit {0}

no_copy : (g : Option Geometry) (s : RunSort) → s ≡ sort_of Dec g → s ≡ copy → ⊥
no_copy None s e f = cc
no_copy (Some g) s e f = cc

no_encode : (g : Option Geometry) (s : RunSort) → s ≡ sort_of Dec g → s ≡ encode → ⊥
no_encode None s e f = cc
no_encode (Some g) s e f = cc

decodes_only : (j : JobData) (work : Work) (g : Option Geometry) (res : RunResult) (o : Outcome) → j.sort ≡ sort_of Dec g → IsResult (Some res) j work (Ok o) → IsDecodedResult res
decodes_only j work g (copied bytes) (Copied used) e i = no_copy g j.sort e i.0
decodes_only j work g (copied bytes) (Encoded used key) e i = i
decodes_only j work g (copied bytes) (Picture used key stamp) e i = i
decodes_only j work g (copied bytes) (Damaged stamp) e i = i
decodes_only j work g (copied bytes) (Changed geometry) e i = i
decodes_only j work g (copied bytes) Spent e i = i
decodes_only j work g (encoded frame) (Encoded used key) e i = no_encode g j.sort e i.0
decodes_only j work g (encoded frame) (Copied used) e i = i
decodes_only j work g (encoded frame) (Picture used key stamp) e i = i
decodes_only j work g (encoded frame) (Damaged stamp) e i = i
decodes_only j work g (encoded frame) (Changed geometry) e i = i
decodes_only j work g (encoded frame) Spent e i = i
decodes_only j work g (decoded step) o e i = tt

-- the buffers that come back

unused_one : (bs : List Buffer) (b : Buffer) → bs ≡ without_bytes b ∷ [] → AreUnused bs → b.used ≡ 0
unused_one bs b e u =
    let h : AreUnused (without_bytes b ∷ []) = subst AreUnused e u in eqb-true b.used 0 (and_parts (eqb b.used 0) true h).0

pub dest_for :
    (cap : QueueState) (ds : List Buffer) (d : Option Dest) (payload : Option (List ℕ)) (dest : Option Lent) → cap.job ≡ map without_bytes ds
    → IsDestOf d cap.job → IsDest ds payload → IsLentDest d payload dest → AreUnused cap.job → IsDestFor cap ds dest
dest_for cap [] None None dest j i t l u = subst (λ (y : Option Lent). IsDestFor cap [] y) (sym l) j
dest_for cap [] (Some d) None dest j i t l u = subst (λ (y : Option Lent). IsDestFor cap [] y) (sym l) j
dest_for cap [] d (Some y) dest j i t l u = absurd t
dest_for cap (b ∷ []) d None dest j i t l u = absurd t
dest_for cap (b ∷ []) None (Some y) dest j i t l u = let two : without_bytes b ∷ [] ≡ [] = sym j ∙ i in absurd cc
dest_for cap (b ∷ []) (Some d) (Some y) None j i t l u = absurd l
dest_for cap (b ∷ []) (Some d) (Some y) (Some lent) j i t l u = (j, l.1, unused_one cap.job b j u)
dest_for cap (b ∷ (c ∷ rest)) d None dest j i t l u = absurd t
dest_for cap (b ∷ (c ∷ rest)) d (Some y) dest j i t l u = absurd t

index_is : (bs : List Buffer) (b : Buffer) (i : ℕ) → bs ≡ without_bytes b ∷ [] → map (λ y. y.index) bs ≡ i ∷ [] → b.index ≡ i
index_is bs b i e m =
    let same : b.index ∷ [] ≡ i ∷ [] = sym (ap (map (λ y. y.index)) e) ∙ m in
    cc

back_at : (bs : List Buffer) (b : Buffer) (lent : Lent) → bs ≡ without_bytes b ∷ [] → lent.index ≡ b.index → length lent.payload.items ≡ b.size → IsLentBack bs lent
back_at bs b lent e i n = rw e (i, n)

pub dest_comes :
    (p : PairState) (ds : List Buffer) (d : Option Dest) (payload : Option (List ℕ)) (dest : Option Lent) → p.cap.job ≡ map without_bytes ds
    → IsDestOf d p.cap.job → IsDest ds payload → IsLentDest d payload dest → IsDestBack p dest
dest_comes p [] None None dest j i t l = subst (IsDestBack p) (sym l) j
dest_comes p [] (Some d) None dest j i t l = subst (IsDestBack p) (sym l) j
dest_comes p [] d (Some y) dest j i t l = absurd t
dest_comes p (b ∷ []) d None dest j i t l = absurd t
dest_comes p (b ∷ []) None (Some y) dest j i t l = let two : without_bytes b ∷ [] ≡ [] = sym j ∙ i in absurd cc
dest_comes p (b ∷ []) (Some d) (Some y) None j i t l = absurd l
dest_comes p (b ∷ []) (Some d) (Some y) (Some lent) j i t l =
    back_at p.cap.job b lent j (l.0 ∙ sym (index_is p.cap.job b d.index j i.0)) (ap length l.2 ∙ t)
dest_comes p (b ∷ (c ∷ rest)) d None dest j i t l = absurd t
dest_comes p (b ∷ (c ∷ rest)) d (Some y) dest j i t l = absurd t

shows_bytes : (d : Option Dest) (payload : Option (List ℕ)) (dest : Option Lent) (bytes : List ℕ) → IsLentDest d payload dest → HasFront bytes payload → ShowsBytes dest (length bytes) bytes
shows_bytes d None dest bytes l h = absurd h
shows_bytes None (Some y) dest bytes l h = subst (λ (x : Option Lent). ShowsBytes x (length bytes) bytes) (sym l) tt
shows_bytes (Some d) (Some y) None bytes l h = absurd l
shows_bytes (Some d) (Some y) (Some lent) bytes l h = ap (take (length bytes)) l.2 ∙ h

shows_none : (dest : Option Lent) → ShowsBytes dest 0 []
shows_none None = tt
shows_none (Some lent) = refl

-- a retired OUTPUT buffer with ERROR shows no bytes
on_output : (a b : List ℕ) (s : Side) → s ≡ Out → known_bytes s error_flag a ≡ known_bytes s error_flag b
on_output a b Out h = refl
on_output a b Cap h = cc

retired_error : (q : QueueState) (bs : List Buffer) (used : ℕ) (a b : List ℕ) (stamp : Stamp) → q.side ≡ Out → retire_from q bs used a error_flag stamp ≡ retire_from q bs used b error_flag stamp
retired_error q [] used a b stamp e = refl
retired_error q (x ∷ rest) used a b stamp e =
    let put : List ℕ → QueueState = λ bytes. record q { job = []; done = q.done ++ record x { used = used; bytes = bytes; flags = error_flag; stamp = stamp; seq = q.next_seq } ∷ []; next_seq = q.next_seq + 1 } in
    ap put (on_output a b q.side e)

-- the codec begins anew
anew_codec : (codec : CodecState) → HasCodec Dec codec → reset codec ≡ decoder fresh_decoder
anew_codec no_codec h = absurd h
anew_codec (encoder state) h = absurd h
anew_codec (decoder state) h = refl

-- the areas of the codec that come back
pub lends : (codec : CodecState) (j : JobData) (work : Work) → HasCodec Dec codec → HasAreas codec j work → LendsStream j work
lends no_codec j work h a = absurd h
lends (encoder state) j work h a = absurd h
lends (decoder state) j work h a = a

-- a job without a destination is a probe, whose context has no picture
no_picture : (g : Option Geometry) (r : Option ReferenceState) → g ≡ None → IsPictureOf g r → r ≡ None
no_picture g None e p = refl
no_picture g (Some r) e p = let clash : None ≡ Some r.geometry = sym e ∙ p in absurd cc

unknown : (g : Option Geometry) (s : RunSort) (ds : List Buffer) → s ≡ sort_of Dec g → length ds ≡ dest_count s → ds ≡ [] → g ≡ None
unknown None s ds e n d = refl
unknown (Some g) s ds e n d =
    let none : 0 ≡ length ds = sym (ap length d) in
    let one : dest_count s ≡ 1 = ap dest_count e in
    absurd (omega (arith, none, n, one))

without_reference : (ds : List Buffer) (r : Option CodecReference) → IsAsLong ds r → r ≡ None → ds ≡ []
without_reference [] None a e = refl
without_reference [] (Some r) a e = absurd a
without_reference (b ∷ []) None a e = absurd a
without_reference (b ∷ []) (Some r) a e = cc
without_reference (b ∷ (c ∷ rest)) None a e = absurd a
without_reference (b ∷ (c ∷ rest)) (Some r) a e = absurd a

-- what the outcome leaves room for

front_room : (bytes payload : List ℕ) → take (length bytes) payload ≡ bytes → length bytes ≤ length payload
front_room bytes payload e =
    let n : length bytes ≡ min (length bytes) (length payload) = sym (ap length e) ∙ length-take (length bytes) payload in
    omega (arith, n)

room_for : (bs ds : List Buffer) (payload : Option (List ℕ)) (bytes : List ℕ) → bs ≡ map without_bytes ds → IsDest ds payload → HasFront bytes payload → HasRoomFor (length bytes) bs
room_for bs ds payload bytes e t h = subst (HasRoomFor (length bytes)) (sym e) (there ds payload t h)
  where
    there : (ds : List Buffer) (payload : Option (List ℕ)) → IsDest ds payload → HasFront bytes payload → HasRoomFor (length bytes) (map without_bytes ds)
    there [] payload t h = tt
    there (b ∷ []) None t h = absurd t
    there (b ∷ []) (Some y) t h = let n = front_room bytes y h in omega (arith, n, t)
    there (b ∷ (c ∷ rest)) None t h = absurd t
    there (b ∷ (c ∷ rest)) (Some y) t h = absurd t

no_room : (bs : List Buffer) → HasRoomFor 0 bs
no_room [] = tt
no_room (b ∷ rest) = omega arith

in_step : (a : Option AssemblyState) (limit : ℕ) (g : Option Geometry) (r : Option ReferenceState) → HasStream limit g r a → IsInStep limit g r (kept_of a)
in_step None limit g r h = absurd h
in_step (Some a) limit g r h = h.1

of_stream : (limit : ℕ) (g : Option Geometry) (r : Option ReferenceState) (kept : KeptBytes) → IsInStep limit g r kept → IsPictureOf g r
of_stream limit g None kept h = tt
of_stream limit g (Some r) kept h = keeps_geometry limit g r kept h

-- the place and the room of the reference that comes back

pub place_at :
    (present : Bool) (bs ds : List Buffer) (d : Option Dest) (r : Option CodecReference) → bs ≡ map without_bytes ds → IsDestOf d bs → IsAsLong ds r
    → (elim d as (λ _. Type 0) [ None ↦ Unit {0} | Some dest ↦ present ≡ false ]) → FindsItsPlace r present
place_at present bs ds d None e i a l = tt
place_at present bs [] d (Some r) e i a l = absurd a
place_at present bs (b ∷ []) None (Some r) e i a l = let two : without_bytes b ∷ [] ≡ [] = sym e ∙ i in absurd cc
place_at present bs (b ∷ []) (Some d) (Some r) e i a l = l
place_at present bs (b ∷ (c ∷ rest)) d (Some r) e i a l = absurd a

rooms_at :
    (parts : CodecParts) (bs ds : List Buffer) (d : Option Dest) (r : Option CodecReference) → bs ≡ map without_bytes ds → IsDestOf d bs
    → IsAsLong ds r → (elim d as (λ _. List ℕ) [ None ↦ [] | Some dest ↦ dest.length ∷ [] ]) ++ parts.rooms ≡ (present_with r parts).rooms
rooms_at parts bs [] None None e i a = refl
rooms_at parts bs [] (Some d) None e i a =
    let two : d.index ∷ [] ≡ [] = sym i.0 ∙ ap (map (λ y. y.index)) e in absurd cc
rooms_at parts bs [] d (Some r) e i a = absurd a
rooms_at parts bs (b ∷ []) d None e i a = absurd a
rooms_at parts bs (b ∷ []) None (Some r) e i a = let two : without_bytes b ∷ [] ≡ [] = sym e ∙ i in absurd cc
rooms_at parts bs (b ∷ []) (Some d) (Some r) e i a =
    let same : b.size ∷ [] ≡ d.length ∷ [] = sym (ap (map (λ y. y.size)) e) ∙ i.1 in
    let one : d.length ≡ r.size = cc in
    ap (λ (n : ℕ). n ∷ parts.rooms) one
rooms_at parts bs (b ∷ (c ∷ rest)) d None e i a = absurd a
rooms_at parts bs (b ∷ (c ∷ rest)) d (Some r) e i a = absurd a

-- an event at most is raised

back_count : (q : PairState) (events : EventState) (found : Option Geometry) → (back_events q events found).next_seq ≤ events.next_seq + 1
back_count q events None = ended_raised (raises_end q) events
back_count q events (Some g) = raised events source_change_event 1

events_count : (q : PairState) (events : EventState) (shown : Option Shown) (dest : Option Lent) (found : Option Geometry) → (events_ended q events shown dest found).next_seq ≤ events.next_seq + 1
events_count q events (Some s) (Some lent) found = ended_raised (is_final q) events
events_count q events (Some s) None found = back_count (handed_back q None found) events found
events_count q events None dest found = back_count (handed_back q dest found) events found

module _ (formats : FormatPair) (geometry : Option Geometry) (p : PairState) (events : EventState) (parts : CodecParts) (x : InJob)
    (inv : IsDecoder formats geometry p events parts (Some x)) (k : IsKept (decoder_state formats geometry p events parts.state (Some x))) (work : Work)
    (source : Lent) (dest : Option Lent) (ec : source.cursor ≡ work.source.cursor) (ep : source.payload.items ≡ work.source.payload.items)
    (ld : IsLentDest x.dest (dest_bytes work) dest) where
  abbrev here : Context
  here = decoder_state formats geometry p events parts.state (Some x)

  phase : p.phase ≡ run
  phase = run_is p.phase (runs here inv.placed refl)

  for_dest : (j : JobData) → RunsIn here j → IsDest j.dest (dest_bytes work) → IsDestFor p.cap j.dest dest
  for_dest j r t = dest_for p.cap j.dest x.dest (dest_bytes work) dest r.dest inv.knows.1 t ld inv.blank.job

  -- the source

  abbrev gone : JobData → ℕ → List ℕ → PairState
  gone j flags bytes = record p { out = retire_after p.out j.source.used bytes flags j.source.stamp }

  source_gone : (j : JobData) (flags : ℕ) (bytes : List ℕ) → RunsIn here j → take j.source.used work.source.payload.items ≡ bytes → source_put p source true flags ≡ gone j flags bytes
  source_gone j flags bytes r e =
      ap (λ (bs : List Buffer). record p { out = source_retired p.out bs (back_bytes bs source) flags }) r.source
      ∙ ap (λ (ys : List ℕ). gone j flags ys) (ap (take j.source.used) ep ∙ e)

  abbrev kept : JobData → ℕ → PairState
  kept j cursor = record p { out = give_back_after p.out cursor j.source.bytes }

  source_kept : (j : JobData) (cursor : ℕ) → RunsIn here j → take j.source.used work.source.payload.items ≡ j.source.bytes → work.source.cursor ≡ cursor → source_put p source false 0 ≡ kept j cursor
  source_kept j cursor r e c =
      ap (λ (bs : List Buffer). record p { out = give_back_after p.out source.cursor (back_bytes bs source) }) r.source
      ∙ (ap (λ (ys : List ℕ). record p { out = give_back_after p.out source.cursor ys }) (ap (take j.source.used) ep ∙ e)
      ∙ ap (λ (n : ℕ). kept j n) (ec ∙ c))

  abbrev put : JobData → ℕ → Bool → PairState
  put j cursor up = cond up (gone j 0 j.source.bytes) (kept j cursor)

  put_is : (j : JobData) (cursor : ℕ) (up : Bool) → RunsIn here j → take j.source.used work.source.payload.items ≡ j.source.bytes → work.source.cursor ≡ cursor → source_put p source up 0 ≡ put j cursor up
  put_is j cursor true r e c = source_gone j 0 j.source.bytes r e
  put_is j cursor false r e c = source_kept j cursor r e c

  put_phase : (j : JobData) (cursor : ℕ) (up : Bool) → (put j cursor up).phase ≡ run
  put_phase j cursor true = phase
  put_phase j cursor false = phase

  put_job : (j : JobData) (cursor : ℕ) (up : Bool) → (put j cursor up).out.job ≡ []
  put_job j cursor true = emptied p.out p.out.job j.source.used j.source.bytes 0 j.source.stamp refl
  put_job j cursor false = back_job formats geometry fresh_decoder p.out p.out.job cursor j.source.bytes refl

  put_dest : (j : JobData) (cursor : ℕ) (up : Bool) → IsDestFor p.cap j.dest dest → IsDestFor (put j cursor up).cap j.dest dest
  put_dest j cursor true d = d
  put_dest j cursor false d = d

  kept_front : (j : JobData) (cursor : ℕ) → RunsIn here j → (kept j cursor).out.ready ≡ record (without_bytes j.source) { cursor = cursor; bytes = j.source.bytes } ∷ p.out.ready
  kept_front j cursor r = ap (λ (bs : List Buffer). (give_back_from p.out bs cursor j.source.bytes).ready) r.source

  put_final : (j : JobData) (cursor : ℕ) (up : Bool) → RunsIn here j → up ≡ false → is_final (put j cursor up) ≡ false
  put_final j cursor true r e = cc
  put_final j cursor false r e =
      not_final (kept j cursor) (without_bytes j.source) [] p.out.job r.source inv.due p.out.ready (record (without_bytes j.source) { cursor = cursor; bytes = j.source.bytes }) (kept_front j cursor r) refl

  moved_is : (s : DecoderState) (j : JobData) (cursor : ℕ) (up : Bool) → source_moved (decoder_state formats geometry p events s None) j cursor up ≡ decoder_state formats geometry (put j cursor up) events s None
  moved_is s j cursor true = refl
  moved_is s j cursor false = refl

  -- the context after the end of a run, from what that leaves of the buffers
  abbrev left : RunEnd → DecoderState → Context
  left n s =
      decoder_state (formats_behind n.changed formats) (option_or n.changed geometry)
      (dest_ended (source_put p source n.used_up n.source_flags) n.shown dest n.changed)
      (events_ended (source_put p source n.used_up n.source_flags) events n.shown dest n.changed) s None

  abbrev up : Bool
  up = work.source.cursor == work.source.used

  shown_after :
      (j : JobData) (cursor : ℕ) (s : DecoderState) (used : ℕ) (bytes : List ℕ) (flags : ℕ) (stamp : Stamp) → RunsIn here j
      → IsDest j.dest (dest_bytes work) → take j.source.used work.source.payload.items ≡ j.source.bytes → work.source.cursor ≡ cursor
      → work.source.used ≡ j.source.used → IsRunFlag flags → ShowsBytes dest used bytes →
      left (record { used_up = up; source_flags = 0; shown = Some (record { used = used; flags = flags; stamp = stamp }); changed = None; fault = false }) s
      ≡ settle (dest_done (source_moved (decoder_state formats geometry p events s None) j cursor (cursor == j.source.used)) j.dest (cursor == j.source.used) used bytes flags stamp)
  shown_after j cursor s used bytes flags stamp r t e c u f b =
      let all : Bool = cursor == j.source.used in
      let shown : Shown = record { used = used; flags = flags; stamp = stamp } in
      let same : up ≡ all = ap (λ (n : ℕ). n == work.source.used) c ∙ ap (λ (n : ℕ). cursor == n) u in
      let mid : source_put p source up 0 ≡ put j cursor all = ap (λ (y : Bool). source_put p source y 0) same ∙ put_is j cursor all r e c in
      ap (λ (q : PairState). decoder_state formats geometry (dest_ended q (Some shown) dest None) (events_ended q events (Some shown) dest None) s None) mid
      ∙ (sym (shown_is formats geometry s (put j cursor all) events j.dest dest all used bytes flags stamp f (put_phase j cursor all) (put_job j cursor all) (put_final j cursor all r) (put_dest j cursor all (for_dest j r t)) b)
      ∙ ap (λ (y : Context). settle (dest_done y j.dest all used bytes flags stamp)) (sym (moved_is s j cursor all)))

  decoded_after :
      (j : JobData) (step : DecodedStep) (result : DecodedResult) → RunsIn here j → IsDest j.dest (dest_bytes work)
      → IsSourceBack j.source work.source → HasResult step result j work
      → left (end_of (Ok (told_as result)) up work.source.stamp) step.state ≡ settle (decoded_effect (decoder_state formats geometry p events step.state None) j (j.source.cursor + step.moved) result)
  decoded_after j step (picture bytes key stamp) r t s h =
      shown_after j (j.source.cursor + step.moved) step.state (length bytes) bytes (type_flag key) stamp r t h.source_bytes h.cursor s.used (picture_flag key) (shows_bytes x.dest (dest_bytes work) dest bytes ld h.shown)
  decoded_after j step (damaged stamp) r t s h =
      shown_after j (j.source.cursor + step.moved) step.state 0 [] error_flag stamp r t h.source_bytes h.cursor s.used error (shows_none dest)
  decoded_after j step (changed new) r t s h =
      let cursor : ℕ = j.source.cursor + step.moved in
      ap (λ (q : PairState). decoder_state (formats_behind (Some new) formats) (Some new) (dest_ended q None dest (Some new)) (events_ended q events None dest (Some new)) step.state None) (source_kept j cursor r h.source_bytes h.cursor)
      ∙ sym (changed_is formats geometry step.state new (kept j cursor) events j.dest dest phase (put_job j cursor false) (for_dest j r t))
  decoded_after j step spent r t s h =
      ap (λ (q : PairState). decoder_state formats geometry (dest_ended q None dest None) (events_ended q events None dest None) step.state None) (source_gone j 0 j.source.bytes r h.source_bytes)
      ∙ sym (back_is formats geometry step.state (gone j 0 j.source.bytes) events j.dest dest (put_job j 0 true) (for_dest j r t))

  -- a fault

  fault_after :
      (j : JobData) (fault : EngineFault) → RunsIn here j → IsDest j.dest (dest_bytes work) → IsSourceBack j.source work.source
      → left (end_of (Err fault) up work.source.stamp) fresh_decoder ≡ finished_context here (record { job = j; result = None })
  fault_after j fault r t s =
      let q : PairState = gone j error_flag j.source.bytes in
      let taken : List ℕ = take j.source.used work.source.payload.items in
      let mid : source_put p source true error_flag ≡ q = source_gone j error_flag taken r refl ∙ ap (λ (o : QueueState). record p { out = o }) (retired_error p.out p.out.job j.source.used taken j.source.bytes j.source.stamp k.out_side) in
      let shown : Stamp → Shown = λ stamp. record { used = 0; flags = error_flag; stamp = stamp } in
      ap (λ (y : PairState). decoder_state formats geometry (dest_ended y (Some (shown work.source.stamp)) dest None) (events_ended y events (Some (shown work.source.stamp)) dest None) fresh_decoder None) mid
      ∙ (ap (λ (stamp : Stamp). decoder_state formats geometry (dest_ended q (Some (shown stamp)) dest None) (events_ended q events (Some (shown stamp)) dest None) fresh_decoder None) s.stamp
      ∙ (sym
      (shown_is formats geometry fresh_decoder q events j.dest dest true 0 [] error_flag j.source.stamp error phase
      (emptied p.out p.out.job j.source.used j.source.bytes error_flag j.source.stamp refl) (λ (n : true ≡ false). absurd (false≢true (sym n)))
      (for_dest j r t) (shows_none dest))
      ∙ ap (λ (codec : CodecState). settle (dest_done (record (decoder_state formats geometry q events fresh_decoder None) { codec = codec }) j.dest true 0 [] error_flag j.source.stamp)) (sym (anew_codec j.codec r.codec))))

  -- the codec

  abbrev back : CodecParts
  back = taken_back work.assembly work.reference parts

  abbrev then : Bool → CodecParts
  then fault = cond fault (record back { state = fresh_decoder }) back

  picture_cases : (reference : Option CodecReference) → (reference ≡ None → parts.state.reference ≡ None) → picture_with reference parts.state.reference ≡ picture_of reference
  picture_cases None h = h refl
  picture_cases (Some r) h = refl

  picture_is : (j : JobData) → RunsIn here j → LendsStream j work → picture_with work.reference parts.state.reference ≡ picture_of work.reference
  picture_is j r a =
      picture_cases work.reference (λ n. no_picture geometry parts.state.reference (unknown geometry j.sort j.dest r.run.sort r.dests (without_reference j.dest work.reference a.reference n)) inv.picture)

  state_is : (j : JobData) (step : DecodedStep) (result : DecodedResult) → RunsIn here j → LendsStream j work → HasResult step result j work → step.state ≡ back.state
  state_is j step result r a h =
      sym (ap (λ (y : Option ReferenceState). decoder_of y (kept_of work.assembly)) (picture_is j r a) ∙ h.state)

  told_after :
      (j : JobData) (step : DecodedStep) (result : DecodedResult) → RunsIn here j → IsDest j.dest (dest_bytes work)
      → IsSourceBack j.source work.source → LendsStream j work → HasResult step result j work
      → let n : RunEnd = end_of (Ok (told_as result)) up work.source.stamp in
      left n (then n.fault).state ≡ settle (decoded_effect (decoder_state formats geometry p events step.state None) j (j.source.cursor + step.moved) result)
  told_after j step result r t b a h =
      subst (λ (s : DecoderState).
      left (end_of (Ok (told_as result)) up work.source.stamp) s ≡ settle (decoded_effect (decoder_state formats geometry p events step.state None) j (j.source.cursor + step.moved) result))
      (state_is j step result r a h ∙ no_fault result) (decoded_after j step result r t b h)
    where
      no_fault : (result : DecodedResult) → back.state ≡ (then (end_of (Ok (told_as result)) up work.source.stamp).fault).state
      no_fault (picture bytes key stamp) = refl
      no_fault (damaged stamp) = refl
      no_fault (changed new) = refl
      no_fault spent = refl

  pub after_at :
      (j : JobData) (res : Option RunResult) (o : Result Outcome EngineFault) → RunsIn here j → IsBack (record { job = j; result = res }) work o
      → let n : RunEnd = end_of o up work.source.stamp in left n (then n.fault).state ≡ finished_context here (record { job = j; result = res })
  after_at j None (Err fault) r b = fault_after j fault r b.dest b.source
  after_at j None (Ok o) r b = absurd b.came_to
  after_at j (Some (copied bytes)) (Err fault) r b = absurd b.came_to
  after_at j (Some (encoded frame)) (Err fault) r b = absurd b.came_to
  after_at j (Some (decoded step)) (Err fault) r b = absurd b.came_to
  after_at j (Some (copied bytes)) (Ok o) r b = absurd (decodes_only j work geometry (copied bytes) o r.run.sort b.came_to)
  after_at j (Some (encoded frame)) (Ok o) r b = absurd (decodes_only j work geometry (encoded frame) o r.run.sort b.came_to)
  after_at j (Some (decoded step)) (Ok o) r b =
      let result : DecodedResult = step_outcome j.format.fourcc step in
      let h : HasResult step result j work = b.came_to.1.result in
      let a : LendsStream j work = lends j.codec j work r.codec b.areas in
      subst
      (λ (y : Outcome). let n : RunEnd = end_of (Ok y) up work.source.stamp in left n (then n.fault).state ≡ finished_context here (record { job = j; result = Some (decoded step) }))
      (sym b.came_to.1.told) (told_after j step result r b.dest b.source a h)

  -- what an end is, whatever the outcome
  pub record Leaves (j : JobData) (n : RunEnd) : Type 0 where
    pub cursor : n.used_up ≡ false → source.cursor ≤ j.source.used
    pub room : RoomShown n.shown p.cap.job
    pub legal : IsLegalChange n.changed
    pub stream : IsInStep formats.out.size (option_or n.changed geometry) (then n.fault).state.reference (kept_bytes (then n.fault).state)

  stream_at : (j : JobData) (g : Option Geometry) → RunsIn here j → LendsStream j work → HasStream j.limit g (picture_of work.reference) work.assembly → IsInStep formats.out.size g back.state.reference (kept_bytes back.state)
  stream_at j g r a h =
      subst (λ (l : ℕ). IsInStep l g back.state.reference (kept_bytes back.state)) r.run.limit
      (subst (λ (y : Option ReferenceState). IsInStep j.limit g y (kept_of work.assembly)) (sym (picture_is j r a)) (in_step work.assembly j.limit g (picture_of work.reference) h))

  told_leaves : (j : JobData) (step : DecodedStep) (result : DecodedResult) → RunsIn here j → IsDest j.dest (dest_bytes work) → LendsStream j work → HasResult step result j work → Leaves j (end_of (Ok (told_as result)) up work.source.stamp)
  told_leaves j step (picture bytes key stamp) r t a h =
      record {
        cursor = λ e. subst (λ (n : ℕ). n ≤ j.source.used) (sym ec) h.inside;
        room = room_for p.cap.job j.dest (dest_bytes work) bytes r.dest t h.shown;
        legal = tt;
        stream = stream_at j geometry r a (subst (λ (g : Option Geometry). HasStream j.limit g (picture_of work.reference) work.assembly) r.run.same_geometry h.stream);
      }
  told_leaves j step (damaged stamp) r t a h =
      record {
        cursor = λ e. subst (λ (n : ℕ). n ≤ j.source.used) (sym ec) h.inside;
        room = no_room p.cap.job;
        legal = tt;
        stream = stream_at j geometry r a (subst (λ (g : Option Geometry). HasStream j.limit g (picture_of work.reference) work.assembly) r.run.same_geometry h.stream);
      }
  told_leaves j step (changed new) r t a h =
      record { cursor = λ e. subst (λ (n : ℕ). n ≤ j.source.used) (sym ec) h.inside; room = tt; legal = h.legal; stream = stream_at j (Some new) r a h.stream }
  told_leaves j step spent r t a h =
      record {
        cursor = λ e. subst (λ (n : ℕ). n ≤ j.source.used) (sym ec) h.inside;
        room = tt;
        legal = tt;
        stream = stream_at j geometry r a (subst (λ (g : Option Geometry). HasStream j.limit g (picture_of work.reference) work.assembly) r.run.same_geometry h.stream);
      }

  pub leaves : (j : JobData) (res : Option RunResult) (o : Result Outcome EngineFault) → RunsIn here j → IsBack (record { job = j; result = res }) work o → Leaves j (end_of o up work.source.stamp)
  leaves j None (Err fault) r b =
      record { cursor = λ (e : true ≡ false). absurd (false≢true (sym e)); room = no_room p.cap.job; legal = tt; stream = begins_in_step formats.out.size geometry }
  leaves j None (Ok o) r b = absurd b.came_to
  leaves j (Some (copied bytes)) (Err fault) r b = absurd b.came_to
  leaves j (Some (encoded frame)) (Err fault) r b = absurd b.came_to
  leaves j (Some (decoded step)) (Err fault) r b = absurd b.came_to
  leaves j (Some (copied bytes)) (Ok o) r b = absurd (decodes_only j work geometry (copied bytes) o r.run.sort b.came_to)
  leaves j (Some (encoded frame)) (Ok o) r b = absurd (decodes_only j work geometry (encoded frame) o r.run.sort b.came_to)
  leaves j (Some (decoded step)) (Ok o) r b =
      subst (λ (y : Outcome). Leaves j (end_of (Ok y) up work.source.stamp)) (sym b.came_to.1.told) (told_leaves j step (step_outcome j.format.fourcc step) r b.dest (lends j.codec j work r.codec b.areas) b.came_to.1.result)

  result_fits : (j : JobData) (res : Option RunResult) (o : Result Outcome EngineFault) → RunsIn here j → IsBack (record { job = j; result = res }) work o → HasResultOf Dec res
  unfolding HasResultOfKind
  result_fits j None o r b = tt
  result_fits j (Some (decoded step)) o r b = tt
  result_fits j (Some (copied bytes)) o r b = tt
  result_fits j (Some (encoded frame)) (Err fault) r b = absurd b.came_to
  result_fits j (Some (encoded frame)) (Ok o) r b = absurd (decodes_only j work geometry (encoded frame) o r.run.sort b.came_to)

  -- the references

  pub place_is : (j : JobData) → RunsIn here j → LendsStream j work → FindsItsPlace work.reference parts.present
  place_is j r a = place_at parts.present p.cap.job j.dest x.dest work.reference r.dest inv.knows.1 a.reference inv.lent

  rooms_are : (j : JobData) → RunsIn here j → LendsStream j work → lent_room (Some x) ++ parts.rooms ≡ back.rooms
  rooms_are j r a = rooms_at parts p.cap.job j.dest x.dest work.reference r.dest inv.knows.1 a.reference

  then_rooms : (fault : Bool) → (then fault).rooms ≡ back.rooms
  then_rooms true = refl
  then_rooms false = refl

  then_limit : (fault : Bool) → (then fault).limit ≡ back.limit
  then_limit true = refl
  then_limit false = refl

  -- the queues after the end, and what the context keeps

  module _ (outcome : Result Outcome EngineFault) (of : IsBackOf here work outcome) where
    abbrev j : JobData
    j = of.back.job

    abbrev n : RunEnd
    n = end_of outcome up work.source.stamp

    abbrev mid : PairState
    mid = source_put p source n.used_up n.source_flags

    abbrev new : PairState
    new = dest_ended mid n.shown dest n.changed

    abbrev told : EventState
    told = events_ended mid events n.shown dest n.changed

    fine : Leaves j n
    fine = leaves j of.back.result outcome of.runs of.is_back

    lent : LendsStream j work
    lent = lends j.codec j work of.runs.codec of.is_back.areas

    pub finds : FindsItsPlace work.reference parts.present
    finds = place_is j of.runs lent

    pub legal : IsLegalChange n.changed
    legal = fine.legal

    pub comes_back : IsDestBack mid dest
    comes_back =
        subst (λ (q : QueueState). IsDestBack (record mid { cap = q }) dest) (sym (put_cap p source n.used_up n.source_flags)) (by_cap dest (dest_comes p j.dest x.dest (dest_bytes work) dest of.runs.dest inv.knows.1 of.is_back.dest ld))
      where
        by_cap : (d : Option Lent) → IsDestBack p d → IsDestBack (record mid { cap = p.cap }) d
        by_cap None h = h
        by_cap (Some y) h = h

    source_done : SourceEnds p.out mid.out
    source_done = source_ends p source (without_bytes j.source) n.used_up n.source_flags of.runs.source fine.cursor

    dest_done_at : DestEnds mid.cap new.cap × (new.out ≡ mid.out)
    dest_done_at =
        dest_ends mid n.shown dest n.changed (subst (λ (q : QueueState). RoomShown n.shown q.job) (sym (put_cap p source n.used_up n.source_flags)) fine.room)

    dest_there : DestEnds p.cap new.cap
    dest_there = subst (λ (q : QueueState). DestEnds q new.cap) (put_cap p source n.used_up n.source_flags) dest_done_at.0

    out_there : SourceEnds p.out new.out
    out_there = subst (SourceEnds p.out) (sym dest_done_at.1) source_done

    pub ends_after : (back : BroughtBack) → RunsIn here back.job → IsBack back work outcome → left n (then n.fault).state ≡ finished_context here back
    ends_after back r b = after_at back.job back.result outcome r b

    placed : IsPlaced (left n (then n.fault).state)
    placed =
        placed_alone (left n (then n.fault).state) refl (subst IsOrdered (sym (ends_after of.back of.runs of.is_back)) (finished_ordered here of.back inv.placed of.runs (result_fits j of.back.result outcome of.runs of.is_back)))

    size_behind : (changed : Option Geometry) → (formats_behind changed formats).out.size ≡ formats.out.size
    size_behind None = refl
    size_behind (Some g) = refl

    sized_behind : (changed : Option Geometry) → HasGeometry Dec (formats_behind changed formats) (option_or changed geometry)
    sized_behind None = inv.sized
    sized_behind (Some g) = found_sized formats g

    pub ends_keep : CanStand Dec (formats_behind n.changed formats) → IsDecoder (formats_behind n.changed formats) (option_or n.changed geometry) new told (then n.fault) None
    ends_keep stands =
        record {
          stands = stands;
          sized = sized_behind n.changed;
          placed = placed;
          picture = of_stream formats.out.size (option_or n.changed geometry) (then n.fault).state.reference (kept_bytes (then n.fault).state) fine.stream;
          fresh = λ z. let some = out_there.some in absurd (omega arith);
          stream = subst (λ (l : ℕ). IsInStep l (option_or n.changed geometry) (then n.fault).state.reference (kept_bytes (then n.fault).state)) (sym (size_behind n.changed)) fine.stream;
          begun = out_there.begun inv.begun;
          untouched = subst AreUntouched (sym out_there.held) inv.untouched;
          blank = dest_there.blank inv.blank;
          knows = tt;
          supplied = λ some. then_limit n.fault ∙ (lent.assembly ∙ ap Some (of.runs.run.limit ∙ sym (size_behind n.changed)));
          served = subst (λ (l : List ℕ). AreServed l new.cap) (sym (then_rooms n.fault)) (dest_there.lengths (serves back.rooms) (subst (λ (l : List ℕ). AreServed l p.cap) (rooms_are j of.runs lent) inv.served));
          lent = tt;
          due = tt;
        }

    seen : HasSides (left n (then n.fault).state)
    seen = sides (left n (then n.fault).state) placed

    count : told.next_seq ≤ events.next_seq + 1
    count = events_count mid events n.shown dest n.changed

    pub ends_step : IsStep here (left n (then n.fault).state)
    ends_step =
        let o1 = out_there.queued in
        let o2 = out_there.retired in
        let c1 = dest_there.queued in
        let c2 = dest_there.retired in
        let e1 = count in
        record {
          kept = record {
            out_side = seen.out_side;
            cap_side = seen.cap_side;
            filled = out_there.ready k.filled k.job_filled;
            job_filled = subst AreFilled (sym out_there.job) refl;
            out_filled = out_there.done k.out_filled k.job_filled;
            cap_filled = dest_there.done k.cap_filled;
            out_idle = seen.out_idle;
            cap_idle = seen.cap_idle;
          };
          counted =
              λ bound m.
              let n1 : p.out.next_ordinal ≤ bound = m.out_queued in
              let n2 : p.cap.next_ordinal ≤ bound = m.cap_queued in
              let n3 : p.out.next_seq ≤ bound = m.out_done in
              let n4 : p.cap.next_seq ≤ bound = m.cap_done in
              let n5 : events.next_seq ≤ bound = m.raised in record { out_queued = omega arith; cap_queued = omega arith; out_done = omega arith; cap_done = omega arith; raised = omega arith };
        }
