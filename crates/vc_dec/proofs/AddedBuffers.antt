-- CreateBufs of a decoder answers as the definitions do, with memory or without it. Memory for the assembly or for a
-- further reference is taken first, so a refusal leaves what the device sees as it was.
use Rattle.std.proofs.Common.{ℕ, ◌≡◌, ◌≤◌, ◌<◌, eqb, Bool, true, false, not, ◌&&◌, Option, Some, None, Ok, List, [], ◌∷◌, ◌++◌, refl, sym, ap, ◌∙◌, subst, arith, eqb-true, ltb-false}
use Rattle.std.specs.Prelude.{◌==◌, nat_lt}
use Rattle.std.proofs.lemmas.Bool.{false≢true}
use Rattle.vc_base.specs.declared.Side.TheVariants.{Out, Cap}
use Rattle.vc_base.specs.declared.Errno.TheVariants.{NoMem}
use Rattle.vc_base.specs.declared.Call.TheVariants.{CreateBufs}
use Rattle.vc_base.specs.declared.Reply.TheVariants.{Created, Refused}
use Rattle.vc_base.specs.Buffers.{QueueState, buffer_count, create_refusal, create_after, created}
use Rattle.vc_base.specs.Events.{EventState}
use Rattle.vc_defs.specs.Decoder.{DecoderState, fresh_decoder}
use Rattle.vc_model.specs.Formats.{FormatPair}
use Rattle.vc_model.specs.Context.{Context, settle}
use Rattle.vc_model.specs.Answer.{context_answer, create_answer}
use Rattle.vc_geom.specs.Pairs.{pair_of}
use Rattle.vc_pair.specs.Pairs.{PairState, pair_settled}
use Rattle.vc_pair.specs.Rows.{JobsAgree}
use Rattle.vc_queue.specs.Growing.{AnswersWithMemory}
use Rattle.vc_work.specs.References.{CodecReference}
use Rattle.vc_resync.specs.Assembling.{AssemblyState}
use Rattle.vc_context.specs.Contexts.{IsKept, IsStep, Gives, GivesWithMemory}
use Rattle.vc_dec.specs.declared.InJob.{InJob}
use Rattle.vc_dec.specs.declared.Decoder.TheInside.{Inside}
use Rattle.vc_m2m.specs.Settling.{events_settled}
use Rattle.vc_dec.specs.Decoders.{CodecParts, decoder_state, IsDecoder, IsPlaced, IsPictureOf, IsOfStream, IsSupplied, AreServed, lent_room, serves, IsLentOut}
use Rattle.vc_dec.specs.Parts.{new_assembly, new_reference, supplied_with, rooms_with}
use Rattle.vc_dec.proofs.QueuesThroughCalls.{no_change}
use Rattle.vc_dec.proofs.KeptThroughCalls.{CountsBoth, settle_at, same_jobs, agree_here, place, settled_so, begun_so, knows_so, steps, supplied_cases, blank_so, due_so}
use Rattle.vc_dec.proofs.BuffersAreMade.{made, unless_none, gives_found, gives_none, created_counts, created_gone, created_some, created_lengths, lengths_more, serves_front, serves_back, serves_one, serves_more}

module _ (d : Inside) (c : Context) (view : decoder_state (pair_of d.m2m.formats) d.geometry d.m2m.pair d.m2m.events d.codec.state d.job ≡ c) (inv : IsDecoder (pair_of d.m2m.formats) d.geometry d.m2m.pair d.m2m.events d.codec d.job) where
  abbrev at : PairState → EventState → DecoderState → Context
  at p e s = decoder_state (pair_of d.m2m.formats) d.geometry p e s d.job

  abbrev before : Context
  before = at d.m2m.pair d.m2m.events d.codec.state

  -- on OUTPUT

  module _ (count length index told : ℕ) (mid new : PairState) (es : EventState) (codec : CodecParts) (assembly : Option AssemblyState)
      (free : create_refusal d.m2m.pair.out count length ≡ None)
      (a :
      AnswersWithMemory {A = ℕ × ℕ} (create_refusal d.m2m.pair.out count length) (buffer_count d.m2m.pair.out, created d.m2m.pair.out count)
      (create_after d.m2m.pair.out count length) (Ok (index, told)) d.m2m.pair.out mid.out)
      (rest : mid ≡ record d.m2m.pair { out = mid.out })
      (ea : assembly ≡ new_assembly ((buffer_count d.m2m.pair.out == 0) && nat_lt 0 count) d.m2m.formats.out.size)
      (ec : codec ≡ supplied_with assembly d.codec) (en : new ≡ pair_settled mid) (ee : es ≡ events_settled mid d.m2m.events) where
    abbrev q : PairState
    q = record d.m2m.pair { out = create_after d.m2m.pair.out count length }

    abbrev then : Context
    then = at new es codec.state

    is_made : (◌≡◌ {A = ℕ × ℕ} (index, told) (buffer_count d.m2m.pair.out, created d.m2m.pair.out count)) × (mid.out ≡ create_after d.m2m.pair.out count length)
    is_made =
        made {A = ℕ × ℕ} (create_refusal d.m2m.pair.out count length) (buffer_count d.m2m.pair.out, created d.m2m.pair.out count) (index, told) (create_after d.m2m.pair.out count length) d.m2m.pair.out mid.out a free

    is_mid : mid ≡ q
    is_mid = rest ∙ ap (λ (x : QueueState). record d.m2m.pair { out = x }) is_made.1

    is_settled : new ≡ pair_settled q
    is_settled = en ∙ ap pair_settled is_mid

    is_noted : es ≡ events_settled q d.m2m.events
    is_noted = ee ∙ ap (λ (x : PairState). events_settled x d.m2m.events) is_mid

    counts : CountsBoth d.m2m.pair q
    counts =
        record { out = created_counts d.m2m.pair.out count length; cap = no_change d.m2m.pair.cap; filled = λ h. h; due = λ h. h }

    -- the codec has begun anew already
    state_cases : (b : Bool) → ((b ≡ true) → d.codec.state ≡ fresh_decoder) → (supplied_with (new_assembly b d.m2m.formats.out.size) d.codec).state ≡ d.codec.state
    state_cases true h = sym (h refl)
    state_cases false h = refl

    none_there : (x y : Bool) → (x && y) ≡ true → x ≡ true
    none_there true y e = refl
    none_there false y e = absurd (false≢true e)

    same_state : codec.state ≡ d.codec.state
    same_state =
        ap (λ (x : CodecParts). x.state) (ec ∙ ap (λ (x : Option AssemblyState). supplied_with x d.codec) ea)
        ∙ state_cases ((buffer_count d.m2m.pair.out == 0) && nat_lt 0 count) (λ h. inv.fresh (eqb-true (buffer_count d.m2m.pair.out) 0 (none_there (buffer_count d.m2m.pair.out == 0) (nat_lt 0 count) h)))

    agree : JobsAgree (at q d.m2m.events d.codec.state)
    agree =
        same_jobs (pair_of d.m2m.formats) d.geometry d.codec.state d.job d.m2m.pair q d.m2m.events refl refl (agree_here (pair_of d.m2m.formats) d.geometry d.m2m.pair d.m2m.events d.codec d.job inv)

    sources_here : Gives (create_answer before Out count length true) (Created index told) then
    sources_here =
        let f : FormatPair = pair_of d.m2m.formats in
        let answer :
        create_answer before Out count length true
        ≡ record { slot = Some (settle (at q d.m2m.events d.codec.state)); reply = Created (buffer_count d.m2m.pair.out) (created d.m2m.pair.out count); bytes = [] } =
        unless_none before (create_refusal d.m2m.pair.out count length) _ free in
        let done : settle (at q d.m2m.events d.codec.state) ≡ at (pair_settled q) (events_settled q d.m2m.events) d.codec.state = settle_at f d.geometry d.codec.state d.job q d.m2m.events agree in
        let told_is : Created index told ≡ Created (buffer_count d.m2m.pair.out) (created d.m2m.pair.out count) = ap (λ (x : ℕ × ℕ). Created x.0 x.1) is_made.0 in
        rw (is_settled, is_noted, same_state, told_is, answer) (record { reply = refl; context = ap Some done })

    sources_placed : IsPlaced then
    unfolding context_answer
    sources_placed =
        place (pair_of d.m2m.formats) d.geometry d.m2m.pair d.m2m.events d.codec d.job inv (CreateBufs Out count length) [] true (Created index told) then sources_here

    pub sources_gives : GivesWithMemory (create_answer c Out count length) (Created index told) then
    sources_gives =
        gives_found (create_answer c Out count length) (Created index told) then (subst (λ (x : Context). Gives (create_answer x Out count length true) (Created index told) then) view sources_here)

    pub sources_steps : IsKept c → IsStep c then
    sources_steps k =
        subst (λ (x : Context). IsStep x then) view
        (steps (pair_of d.m2m.formats) d.geometry d.m2m.pair d.m2m.events d.codec d.job inv q new es counts is_settled is_noted
        (pair_of d.m2m.formats) d.geometry codec.state sources_placed (subst IsKept (sym view) k))

    same_rooms : (o : Option AssemblyState) → (supplied_with o d.codec).rooms ≡ d.codec.rooms
    same_rooms None = refl
    same_rooms (Some x) = refl

    same_present : (o : Option AssemblyState) → (supplied_with o d.codec).present ≡ d.codec.present
    same_present None = refl
    same_present (Some x) = refl

    supplied_cases_new :
        (j : Option InJob) (x y : Bool) → eqb (buffer_count d.m2m.pair.out) 0 ≡ x → nat_lt 0 count ≡ y
        → IsSupplied d.m2m.formats.out.size d.m2m.pair.out d.codec.limit j
        → IsSupplied d.m2m.formats.out.size (create_after d.m2m.pair.out count length) (supplied_with (new_assembly (x && y) d.m2m.formats.out.size) d.codec).limit j
    supplied_cases_new (Some z) x y ex ey s = tt
    supplied_cases_new None true true ex ey s = λ h. refl
    supplied_cases_new None true false ex ey s =
        λ h.
        absurd
        (let none : buffer_count d.m2m.pair.out ≡ 0 = eqb-true (buffer_count d.m2m.pair.out) 0 ex in
        let some : 0 < count = created_some d.m2m.pair.out count length h none in let m : count ≤ 0 = ltb-false 0 count ey in omega arith)
    supplied_cases_new None false y ex ey s = λ h. s (positive (buffer_count d.m2m.pair.out) ex)
      where
        positive : (n : ℕ) → eqb n 0 ≡ false → 0 < n
        positive n e = grind (arith, e)

    supplied_new : IsSupplied d.m2m.formats.out.size q.out codec.limit d.job
    supplied_new =
        subst (λ (x : CodecParts). IsSupplied d.m2m.formats.out.size q.out x.limit d.job)
        (sym (ec ∙ ap (λ (x : Option AssemblyState). supplied_with x d.codec) ea))
        (supplied_cases_new d.job (eqb (buffer_count d.m2m.pair.out) 0) (nat_lt 0 count) refl refl inv.supplied)

    pub sources_keeps : IsDecoder (pair_of d.m2m.formats) d.geometry new es codec d.job
    sources_keeps =
        let s = settled_so (pair_of d.m2m.formats) d.geometry d.m2m.pair d.m2m.events d.codec d.job inv q new es counts is_settled is_noted in
        let b = begun_so (pair_of d.m2m.formats) d.geometry d.m2m.pair d.m2m.events d.codec d.job inv q new es counts is_settled is_noted in
        let rooms : codec.rooms ≡ d.codec.rooms = ap (λ (x : CodecParts). x.rooms) ec ∙ same_rooms assembly in
        let present : codec.present ≡ d.codec.present = ap (λ (x : CodecParts). x.present) ec ∙ same_present assembly in
        record {
          stands = inv.stands;
          sized = inv.sized;
          placed = sources_placed;
          picture = subst (λ (x : DecoderState). IsPictureOf d.geometry x.reference) (sym same_state) inv.picture;
          fresh = λ z. same_state ∙ inv.fresh (created_gone d.m2m.pair.out count length (subst (λ (x : QueueState). buffer_count x ≡ 0) s.out z));
          stream = subst (λ (x : DecoderState). IsOfStream d.m2m.formats.out.size d.geometry x d.job) (sym same_state) inv.stream;
          begun = b.ready;
          untouched = b.held;
          knows = knows_so (pair_of d.m2m.formats) d.geometry d.m2m.pair d.m2m.events d.codec d.job inv q new es counts is_settled is_noted (pair_of d.m2m.formats) d.geometry codec.state sources_placed;
          supplied = subst (λ (x : QueueState). IsSupplied d.m2m.formats.out.size x codec.limit d.job) (sym s.out) supplied_new;
          served = subst (λ (rs : List ℕ). AreServed (lent_room d.job ++ rs) new.cap) (sym rooms) (s.lengths _ inv.served);
          blank = blank_so (pair_of d.m2m.formats) d.geometry d.m2m.pair d.m2m.events d.codec d.job inv q new es counts is_settled is_noted;
          lent = subst (λ (b : Bool). IsLentOut b d.job) (sym present) inv.lent;
          due = due_so (pair_of d.m2m.formats) d.geometry d.m2m.pair d.m2m.events d.codec d.job inv q new es counts is_settled is_noted;
        }

  -- on CAPTURE

  rooms_more : (r : Option CodecReference) (rooms : List ℕ) (z : ℕ) → serves rooms z ≡ true → serves (rooms_with r rooms) z ≡ true
  rooms_more None rooms z h = h
  rooms_more (Some x) rooms z h = serves_front rooms (x.size ∷ []) z h

  -- more references serve as well
  pub more_keeps :
      (r : Option CodecReference) (mid : PairState) (codec : CodecParts) → mid ≡ d.m2m.pair
      → codec ≡ record d.codec { rooms = rooms_with r d.codec.rooms } → IsDecoder (pair_of d.m2m.formats) d.geometry mid d.m2m.events codec d.job
  more_keeps r mid codec em ec =
      rw (em, ec) (record {
        stands = inv.stands;
        sized = inv.sized;
        placed = inv.placed;
        picture = inv.picture;
        fresh = inv.fresh;
        stream = inv.stream;
        begun = inv.begun;
        untouched = inv.untouched;
        blank = inv.blank;
        lent = inv.lent;
        due = inv.due;
        knows = inv.knows;
        supplied = inv.supplied;
        served = lengths_more _ _ (λ z. serves_more (lent_room d.job) d.codec.rooms (rooms_with r d.codec.rooms) z (rooms_more r d.codec.rooms z)) d.m2m.pair.cap inv.served;
      })

  missing_cases : (x y : Bool) (length : ℕ) → x ≡ true → serves (lent_room d.job ++ d.codec.rooms) length ≡ y → serves (lent_room d.job ++ rooms_with (new_reference (x && not y) length) d.codec.rooms) length ≡ true
  missing_cases true true length e h = h
  missing_cases true false length e h =
      serves_back (lent_room d.job) (d.codec.rooms ++ length ∷ []) length (serves_back d.codec.rooms (length ∷ []) length (serves_one length))
  missing_cases false y length e h = absurd (false≢true e)

  pub none_gives :
      (count length : ℕ) (mid : PairState) (state : DecoderState) → create_refusal d.m2m.pair.out count length ≡ None → mid ≡ d.m2m.pair
      → state ≡ d.codec.state → GivesWithMemory (create_answer c Out count length) (Refused NoMem) (at mid d.m2m.events state)
  none_gives count length mid state free em es =
      rw (em, es) (subst (λ (x : Context). GivesWithMemory (create_answer x Out count length) (Refused NoMem) before) view (gives_none before (create_refusal d.m2m.pair.out count length) _ free))

  module _ (count length index told : ℕ) (mid new : PairState) (es : EventState) (codec : CodecParts) (reference : Option CodecReference)
      (free : create_refusal d.m2m.pair.cap count length ≡ None)
      (a :
      AnswersWithMemory {A = ℕ × ℕ} (create_refusal d.m2m.pair.cap count length) (buffer_count d.m2m.pair.cap, created d.m2m.pair.cap count)
      (create_after d.m2m.pair.cap count length) (Ok (index, told)) d.m2m.pair.cap mid.cap)
      (rest : mid ≡ record d.m2m.pair { cap = mid.cap })
      (er : reference ≡ new_reference (nat_lt 0 count && not (serves (lent_room d.job ++ d.codec.rooms) length)) length)
      (ec : codec ≡ record d.codec { rooms = rooms_with reference d.codec.rooms }) (en : new ≡ pair_settled mid)
      (ee : es ≡ events_settled mid d.m2m.events) where
    abbrev to : PairState
    to = record d.m2m.pair { cap = create_after d.m2m.pair.cap count length }

    abbrev later : Context
    later = at new es codec.state

    to_made : (◌≡◌ {A = ℕ × ℕ} (index, told) (buffer_count d.m2m.pair.cap, created d.m2m.pair.cap count)) × (mid.cap ≡ create_after d.m2m.pair.cap count length)
    to_made =
        made {A = ℕ × ℕ} (create_refusal d.m2m.pair.cap count length) (buffer_count d.m2m.pair.cap, created d.m2m.pair.cap count) (index, told) (create_after d.m2m.pair.cap count length) d.m2m.pair.cap mid.cap a free

    to_mid : mid ≡ to
    to_mid = rest ∙ ap (λ (x : QueueState). record d.m2m.pair { cap = x }) to_made.1

    to_settled : new ≡ pair_settled to
    to_settled = en ∙ ap pair_settled to_mid

    to_noted : es ≡ events_settled to d.m2m.events
    to_noted = ee ∙ ap (λ (x : PairState). events_settled x d.m2m.events) to_mid

    to_counts : CountsBoth d.m2m.pair to
    to_counts =
        record { out = no_change d.m2m.pair.out; cap = created_counts d.m2m.pair.cap count length; filled = λ h. h; due = λ h. h }

    to_agree : JobsAgree (at to d.m2m.events d.codec.state)
    to_agree =
        same_jobs (pair_of d.m2m.formats) d.geometry d.codec.state d.job d.m2m.pair to d.m2m.events refl refl (agree_here (pair_of d.m2m.formats) d.geometry d.m2m.pair d.m2m.events d.codec d.job inv)

    dests_here : Gives (create_answer before Cap count length true) (Created index told) later
    dests_here =
        let f : FormatPair = pair_of d.m2m.formats in
        let answer :
        create_answer before Cap count length true
        ≡ record { slot = Some (settle (at to d.m2m.events d.codec.state)); reply = Created (buffer_count d.m2m.pair.cap) (created d.m2m.pair.cap count); bytes = [] } =
        unless_none before (create_refusal d.m2m.pair.cap count length) _ free in
        let done : settle (at to d.m2m.events d.codec.state) ≡ at (pair_settled to) (events_settled to d.m2m.events) d.codec.state = settle_at f d.geometry d.codec.state d.job to d.m2m.events to_agree in
        let told_is : Created index told ≡ Created (buffer_count d.m2m.pair.cap) (created d.m2m.pair.cap count) = ap (λ (x : ℕ × ℕ). Created x.0 x.1) to_made.0 in
        rw (to_settled, to_noted, ec, told_is, answer) (record { reply = refl; context = ap Some done })

    dests_placed : IsPlaced later
    unfolding context_answer
    dests_placed =
        place (pair_of d.m2m.formats) d.geometry d.m2m.pair d.m2m.events d.codec d.job inv (CreateBufs Cap count length) [] true (Created index told) later dests_here

    pub dests_gives : GivesWithMemory (create_answer c Cap count length) (Created index told) later
    dests_gives =
        gives_found (create_answer c Cap count length) (Created index told) later (subst (λ (x : Context). Gives (create_answer x Cap count length true) (Created index told) later) view dests_here)

    pub dests_steps : IsKept c → IsStep c later
    dests_steps k =
        subst (λ (x : Context). IsStep x later) view
        (steps (pair_of d.m2m.formats) d.geometry d.m2m.pair d.m2m.events d.codec d.job inv to new es to_counts to_settled to_noted
        (pair_of d.m2m.formats) d.geometry codec.state dests_placed (subst IsKept (sym view) k))

    some_asked : (n : ℕ) (b : Bool) → nat_lt 0 n ≡ b → 0 < n → b ≡ true
    some_asked n true e h = refl
    some_asked n false e h = let m : n ≤ 0 = ltb-false 0 n e in absurd (omega arith)

    served_new : AreServed (lent_room d.job ++ rooms_with reference d.codec.rooms) to.cap
    served_new =
        let old : AreServed (lent_room d.job ++ rooms_with reference d.codec.rooms) d.m2m.pair.cap =
        lengths_more _ _ (λ z. serves_more (lent_room d.job) d.codec.rooms (rooms_with reference d.codec.rooms) z (rooms_more reference d.codec.rooms z)) d.m2m.pair.cap inv.served in
        created_lengths _ d.m2m.pair.cap count length (λ (h : 0 < count).
        subst (λ (r : Option CodecReference). serves (lent_room d.job ++ rooms_with r d.codec.rooms) length ≡ true) (sym er)
        (missing_cases (nat_lt 0 count) (serves (lent_room d.job ++ d.codec.rooms) length) length (some_asked count (nat_lt 0 count) refl h) refl))
        old

    pub dests_keeps : IsDecoder (pair_of d.m2m.formats) d.geometry new es codec d.job
    dests_keeps =
        let s = settled_so (pair_of d.m2m.formats) d.geometry d.m2m.pair d.m2m.events d.codec d.job inv to new es to_counts to_settled to_noted in
        let b = begun_so (pair_of d.m2m.formats) d.geometry d.m2m.pair d.m2m.events d.codec d.job inv to new es to_counts to_settled to_noted in
        let placed : IsPlaced (at new es d.codec.state) = subst (λ (x : CodecParts). IsPlaced (at new es x.state)) ec dests_placed in
        rw ec (record {
          stands = inv.stands;
          sized = inv.sized;
          placed = placed;
          picture = inv.picture;
          fresh = λ z. inv.fresh (subst (λ (x : QueueState). buffer_count x ≡ 0) s.out z);
          stream = inv.stream;
          begun = b.ready;
          untouched = b.held;
          knows = knows_so (pair_of d.m2m.formats) d.geometry d.m2m.pair d.m2m.events d.codec d.job inv to new es to_counts to_settled to_noted (pair_of d.m2m.formats) d.geometry codec.state dests_placed;
          supplied = supplied_cases d.job d.m2m.formats.out.size d.m2m.pair.out new.out d.codec.limit (λ h. subst (λ (x : QueueState). 0 < buffer_count x) s.out h) inv.supplied;
          served = s.lengths _ served_new;
          blank = blank_so (pair_of d.m2m.formats) d.geometry d.m2m.pair d.m2m.events d.codec d.job inv to new es to_counts to_settled to_noted;
          lent = inv.lent;
          due = due_so (pair_of d.m2m.formats) d.geometry d.m2m.pair d.m2m.events d.codec d.job inv to new es to_counts to_settled to_noted;
        })
