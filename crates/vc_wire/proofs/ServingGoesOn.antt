-- Serving goes on: a message that was answered is one more behind the others, what is written of the replies is their front, and
-- where the messages end the replies are those of the definition.
use Rattle.std.proofs.Common.{ℕ, zero, suc, ◌≡◌, ◌≢◌, ◌≤◌, ◌<◌, ◌+◌, ◌^◌, eqb, Bool, true, false, not, cond, ◌||◌, ◌⊎◌, Option, Some, None, List, [], ◌∷◌, ◌++◌, length, take, drop}
use Rattle.std.proofs.Common.{refl, sym, ap, ◌∙◌, subst, arith, inl, inr, append_assoc, length-append}
use Rattle.std.specs.Prelude.{Vec}
use Rattle.std.specs.declared.alloc.Global.{Global}
use Rattle.std.specs.List.{filter}
use Rattle.std.specs.Io.KnownBytes.{Appends, Consumes, IsAtEnd}
use Rattle.std.proofs.lemmas.Bool.{false≢true}
use Rattle.std.proofs.lemmas.List.{append-nil, take_all, take_at, drop_at}
use Rattle.std.proofs.Math.Seq.{take-append-add}
use Rattle.vc_base.specs.Device.{DeviceEvent}
use Rattle.vc_io.specs.Written.{AppendsFront}
use Rattle.vc_model.specs.Coder.{the_coder}
use Rattle.vc_model.specs.Devices.{DeviceState, new_device, device_step, device_after}
use Rattle.vc_model.specs.Messages.{has_message, has_bad_length, Messages, with_body, messages, asked_in, fed, more as needs, whole, bad_length}
use Rattle.vc_model.specs.Wire.{Replies, RepliesFrom, asked_events, body_reply, events_of_wire, first_reply, wire_events}
use Rattle.vc_model.proofs.MessagesContinue.{messages_continue}
use Rattle.vc_desk.specs.declared.desk.Desk.{Desk}
use Rattle.vc_desk.specs.Desks.{after, IsDesk}
use Rattle.vc_desk.specs.Carries.{finishes, is_finish, IsCounted}
use Rattle.vc_worker.specs.Turns.{RoseBy}
use Rattle.vc_wire.specs.declared.serve.Server.{Server}
use Rattle.vc_wire.specs.Answers.{events_by, IsWhole, IsAnswered}
use Rattle.vc_wire.specs.Ends.{Outside, standing, AllAnswered, FrontAnswered, HasRead, most_input}
use Rattle.vc_wire.specs.Framing.{Framing}
use Rattle.vc_wire.specs.Passing.{IsPassedOn}
use Rattle.vc_wire.specs.Serving.{IsReplied, AreReplied, HasReplied, IsServing, IsEnded, IsAtBad, IsCut}
use Rattle.vc_wire.proofs.MessagesEnd.{none_alone, ended, needs_more, is_bad}

-- Bytes that are written

appends_both : (old mid new : Option (List ℕ)) (xs ys : List ℕ) → Appends old mid xs → Appends mid new ys → Appends old new (xs ++ ys)
appends_both None mid new xs ys a b = tt
appends_both (Some o) None new xs ys a b = absurd a
appends_both (Some o) (Some m) None xs ys a b = absurd b
appends_both (Some o) (Some m) (Some n) xs ys a b = b ∙ ap (λ z. z ++ ys) a ∙ append_assoc o xs ys

appends_none : (old : Option (List ℕ)) → Appends old old []
appends_none None = tt
appends_none (Some o) = sym (append-nil o)

-- Replies in their order

after_both : (d : DeviceState) (xs ys : List DeviceEvent) → device_after the_coder d (xs ++ ys) ≡ device_after the_coder (device_after the_coder d xs) ys
after_both d [] ys = refl
after_both d (x ∷ xs) ys = after_both (device_step the_coder d x).device xs ys

pub replied_more :
    (n : ℕ) (d : DeviceState) (bodies : List (List ℕ)) (output : List ℕ) (events : List DeviceEvent) (body reply : List ℕ) (last : List DeviceEvent)
    → AreReplied n d bodies output events → IsReplied n (device_after the_coder d events) body reply last
    → AreReplied n d (bodies ++ body ∷ []) (output ++ reply) (events ++ last)
replied_more n d [] output events body reply last a r = (
  reply,
  [],
  last,
  [],
  ap (λ o. o ++ reply) a.0 ∙ sym (append-nil reply),
  ap (λ es. es ++ last) a.1 ∙ sym (append-nil last),
  subst (λ es. IsReplied n (device_after the_coder d es) body reply last) a.1 r,
  (refl, refl),
)
replied_more n d (b ∷ bodies) output events body reply last (first, others, es, later, o, e, is, rest) r = (
  first,
  others ++ reply,
  es,
  later ++ last,
  ap (λ x. x ++ reply) o ∙ append_assoc first others reply,
  ap (λ x. x ++ last) e ∙ append_assoc es later last,
  is,
  replied_more n (device_after the_coder d es) bodies others later body reply last rest
      (subst (λ x. IsReplied n x body reply last) (ap (device_after the_coder d) e ∙ after_both d es later) r),
)

-- what is read off the replies
record ReadOff (n : ℕ) (d : DeviceState) (bodies : List (List ℕ)) (output : List ℕ) (events : List DeviceEvent) : Type 0 where
  pub replies : RepliesFrom the_coder n d bodies output
  pub events_are : wire_events the_coder n d bodies output ≡ events

read_first :
    (n : ℕ) (d : DeviceState) (body : List ℕ) (rest : List (List ℕ)) (first others : List ℕ) (es later : List DeviceEvent) → IsReplied n d body first es
    → ReadOff n (device_after the_coder d es) rest others later → ReadOff n d (body ∷ rest) (first ++ others) (es ++ later)
read_first n d body rest first others es later is r =
    let whole : first_reply (first ++ others) ≡ first = is.whole others in
    let left : drop (length first) (first ++ others) ≡ others = drop_at first others (length first) refl in
    let told : first ≡ body_reply the_coder d (asked_in n body) (asked_events d (asked_in n body) first) = is.told ∙ ap (body_reply the_coder d (asked_in n body)) (sym is.choice_read) in
    let behind : RepliesFrom the_coder n (device_after the_coder d (asked_events d (asked_in n body) first)) rest (drop (length first) (first ++ others)) =
    subst (λ o. RepliesFrom the_coder n (device_after the_coder d (asked_events d (asked_in n body) first)) rest o) (sym left)
    (subst (λ xs. RepliesFrom the_coder n (device_after the_coder d xs) rest others) (sym is.choice_read) r.replies) in
    record {
      replies =
          subst
          (λ x.
          (x ≡ body_reply the_coder d (asked_in n body) (asked_events d (asked_in n body) x))
          × RepliesFrom the_coder n (device_after the_coder d (asked_events d (asked_in n body) x)) rest (drop (length x) (first ++ others))) (sym whole) (told, behind);
      events_are =
          ap
          (λ x.
          asked_events d (asked_in n body) x
          ++ wire_events the_coder n (device_after the_coder d (asked_events d (asked_in n body) x)) rest (drop (length x) (first ++ others))) whole
          ∙ (ap (λ xs. xs ++ wire_events the_coder n (device_after the_coder d xs) rest (drop (length first) (first ++ others))) is.choice_read
          ∙ (ap (λ o. es ++ wire_events the_coder n (device_after the_coder d es) rest o) left ∙ ap (λ xs. es ++ xs) r.events_are));
    }

read_off : (n : ℕ) (d : DeviceState) (bodies : List (List ℕ)) (output : List ℕ) (events : List DeviceEvent) → AreReplied n d bodies output events → ReadOff n d bodies output events
read_off n d [] output events a = record { replies = a.0; events_are = sym a.1 }
read_off n d (body ∷ rest) output events (first, others, es, later, o, e, is, more) =
    subst (λ x. ReadOff n d (body ∷ rest) x events) (sym o)
    (subst (λ xs. ReadOff n d (body ∷ rest) (first ++ others) xs) (sym e)
    (read_first n d body rest first others es later is (read_off n (device_after the_coder d es) rest others later more)))

-- Counts

filter_both : (f : DeviceEvent → Bool) (xs ys : List DeviceEvent) → length (filter f (xs ++ ys)) ≡ length (filter f xs) + length (filter f ys)
filter_both f [] ys = omega arith
filter_both f (x ∷ xs) ys = split (f x) (filter_both f xs ys)
  where
    split : (t : Bool) → length (filter f (xs ++ ys)) ≡ length (filter f xs) + length (filter f ys) → length (cond t (x ∷ filter f (xs ++ ys)) (filter f (xs ++ ys))) ≡ length (cond t (x ∷ filter f xs) (filter f xs)) + length (filter f ys)
    split true h = omega (arith, h)
    split false h = h

finishes_both : (fault : Bool) (xs ys : List DeviceEvent) → finishes fault (xs ++ ys) ≡ finishes fault xs + finishes fault ys
finishes_both fault xs ys = filter_both (is_finish fault) xs ys

rose_both : (m k before mid now : ℕ) → RoseBy m before mid → RoseBy k mid now → RoseBy (m + k) before now
rose_both m k before mid now (inl some) (inl more) = inl (omega (arith, some, more))
rose_both m k before mid now (inr top) (inl more) = inr (omega (arith, top, more))
rose_both m k before mid now a (inr top) = inr top

by_later : (m before mid now : ℕ) → RoseBy m before mid → mid ≤ now → RoseBy m before now
by_later m before mid now (inl some) l = inl (omega (arith, some, l))
by_later m before mid now (inr top) l = inr (omega (arith, top, l))

counted_both : (xs ys : List DeviceEvent) (r0 r1 r2 f0 f1 f2 : ℕ) → IsCounted xs r0 r1 f0 f1 → IsCounted ys r1 r2 f1 f2 → IsCounted (xs ++ ys) r0 r2 f0 f2
counted_both xs ys r0 r1 r2 f0 f1 f2 a b =
    record {
      ran = subst (λ n. RoseBy n r0 r2) (sym (finishes_both false xs ys)) (rose_both (finishes false xs) (finishes false ys) r0 r1 r2 a.ran b.ran);
      failed = subst (λ n. RoseBy n f0 f2) (sym (finishes_both true xs ys)) (rose_both (finishes true xs) (finishes true ys) f0 f1 f2 a.failed b.failed);
    }

later_counts : (xs : List DeviceEvent) (r0 r1 r2 f0 f1 f2 : ℕ) → IsCounted xs r0 r1 f0 f1 → r1 ≤ r2 → f1 ≤ f2 → IsCounted xs r0 r2 f0 f2
later_counts xs r0 r1 r2 f0 f1 f2 a r f =
    record { ran = by_later (finishes false xs) r0 r1 r2 a.ran r; failed = by_later (finishes true xs) f0 f1 f2 a.failed f }

none_either : (a b : Bool) → (a || b) ≡ false → (a ≡ false) × (b ≡ false)
none_either true b e = absurd (cc)
none_either false b e = (refl, e)

some_either : (a b : Bool) (x y : ℕ) → (a ≡ true → 0 < x) → y ≡ cond b 1 0 → (a || b) ≡ true → 0 < x + y
some_either true b x y h e t = let l = h refl in omega (arith, l)
some_either false true x y h e t = omega (arith, e)
some_either false false x y h e t = absurd (false≢true t)

-- One message more

pub one_answered :
    (n : ℕ) (done : List (List ℕ)) (body : List ℕ) (desk desk' : Desk) (out out' : List ℕ) (begin begin' : ℕ) (faulted fault : Bool) (before now : Outside) (runs faults : ℕ)
    → (h : HasReplied n done desk out begin faulted before now)
    → IsAnswered n h.events (asked_in n body) out out' fault now.runs runs now.faults faults desk' → desk'.core.steps ≤ desk.core.steps + 1 → begin < begin'
    → HasReplied n (done ++ body ∷ []) desk' out' begin' (faulted || fault) before (standing now.written runs faults)
one_answered n done body desk desk' out out' begin begin' faulted fault before now runs faults h a s b =
    let es = events_by n h.events (asked_in n body) a.fails in
    let both = finishes_both true h.events es in
    record {
      output = h.output ++ a.reply;
      events = h.events ++ es;
      sent = h.sent;
      replied = replied_more n (new_device n) done h.output h.events body a.reply es h.replied (record { whole = a.whole; told = a.told; choice_read = a.choice_read });
      at = a.at;
      steps = let l = h.steps in omega (arith, l, s, b);
      pending = ap (λ o. h.sent ++ o) a.appended ∙ (sym (append_assoc h.sent out a.reply) ∙ ap (λ o. o ++ a.reply) h.pending);
      written = h.written;
      counted = counted_both h.events es before.runs now.runs runs before.faults now.faults faults h.counted a.counted;
      none_yet =
          λ e.
          let x = none_either faulted fault e in
          let first = h.none_yet x.0 in
          let last : finishes true es ≡ 0 = a.failed ∙ ap (λ t. cond t 1 0) x.1 in omega (arith, both, first, last);
      some_yet = λ e. subst (λ k. 0 < k) (sym both) (some_either faulted fault (finishes true h.events) (finishes true es) h.some_yet a.failed e);
    }

-- what was written stays what it is, and some of the replies follow
pub passed_on :
    (n : ℕ) (done : List (List ℕ)) (desk : Desk) (out out' : List ℕ) (begin : ℕ) (faulted : Bool) (before now : Outside) (written : Option (List ℕ))
    → HasReplied n done desk out begin faulted before now → IsPassedOn now.written written out out'
    → HasReplied n done desk out' begin faulted before (standing written now.runs now.faults)
passed_on n done desk out out' begin faulted before now written h p =
    record {
      output = h.output;
      events = h.events;
      sent = h.sent ++ p.sent;
      replied = h.replied;
      at = h.at;
      steps = h.steps;
      pending = append_assoc h.sent p.sent out' ∙ (ap (λ o. h.sent ++ o) p.all ∙ h.pending);
      written = appends_both before.written now.written written h.sent p.sent h.written p.written;
      counted = h.counted;
      none_yet = h.none_yet;
      some_yet = h.some_yet;
    }

pub all_passed : (old new : Option (List ℕ)) (out out' : List ℕ) → Appends old new out → out' ≡ [] → IsPassedOn old new out out'
all_passed old new out out' a e = record { sent = out; written = a; all = ap (λ o. out ++ o) e ∙ append-nil out }

-- a prefix of the replies was written
pub cut :
    (n : ℕ) (all : List ℕ) (done more : List (List ℕ)) (desk : Desk) (out : List ℕ) (begin : ℕ) (faulted : Bool) (before now : Outside) (written : Option (List ℕ)) (runs faults : ℕ)
    → HasReplied n done desk out begin faulted before now → (messages all).bodies ≡ done ++ more → AppendsFront now.written written out → now.runs ≤ runs
    → now.faults ≤ faults → IsCut n all before (standing written runs faults)
cut n all done more desk out begin faulted before now written runs faults h bodies front r f =
    let taken : take (length done) (messages all).bodies ≡ done = ap (take (length done)) bodies ∙ take_at done more (length done) refl in
    let both = length-append h.sent out in
    let size = ap length h.pending in
    let bound = front.1 in
    record {
      count = length done;
      output = h.output;
      events = h.events;
      replied = subst (λ bs. AreReplied n (new_device n) bs h.output h.events) (sym taken) h.replied;
      written = (
        length h.sent + front.0,
        omega (arith, both, size, bound),
        subst (Appends before.written written) (sym (take-append-add h.sent out front.0) ∙ ap (take (length h.sent + front.0)) h.pending)
            (appends_both before.written now.written written h.sent (take front.0 out) h.written front.2),
      );
      counted = later_counts h.events before.runs now.runs runs before.faults now.faults faults h.counted r f;
    }

pub nothing_written : (old : Option (List ℕ)) (out : List ℕ) → AppendsFront old old out
nothing_written old out = (0, omega arith, appends_none old)

-- Messages

-- before the first byte
pub not_begun : (n : ℕ) (server : Server) (at : Outside) → IsDesk n [] server.desk → server.desk.core.steps ≡ 0 → server.framer.kept ≡ [] → server.out.items ≡ [] → server.begin ≡ 0 → server.faulted ≡ false → IsServing n [] [] server at at
not_begun n server at desk steps kept out begin faulted =
    let none : messages (server.framer.kept ++ []) ≡ record { bodies = []; rest = [] } = ap (λ l. messages (l ++ [])) kept in
    record {
      done = [];
      bodies = sym (ap (λ m. m.bodies) none);
      left = sym (ap (λ m. m.rest) none);
      begun = ap (λ l. server.begin + length (l ++ [])) kept ∙ ap (λ b. b + 0) begin;
      few = omega arith;
      not_whole = ap has_message kept;
      replies = record {
        output = [];
        events = [];
        sent = [];
        replied = (refl, refl);
        at = desk;
        steps = omega (arith, steps);
        pending = out;
        written = appends_none at.written;
        counted = record { ran = inl (omega arith); failed = inl (omega arith) };
        none_yet = λ e. refl;
        some_yet = λ e. absurd (false≢true (sym faulted ∙ e));
      };
    }

-- a piece more was read
pub piece_more : (n : ℕ) (all piece : List ℕ) (server : Server) (before now : Outside) → IsServing n all [] server before now → length (all ++ piece) < most_input → IsServing n (all ++ piece) piece server before now
piece_more n all piece server before now s few =
    let kept = server.framer.kept in
    let alone : messages (kept ++ []) ≡ record { bodies = []; rest = kept } = ap messages (append-nil kept) ∙ none_alone kept s.not_whole in
    let bodies : (messages all).bodies ≡ s.done = s.bodies ∙ (ap (λ m. s.done ++ m.bodies) alone ∙ append-nil s.done) in
    let rest : (messages all).rest ≡ kept = s.left ∙ ap (λ m. m.rest) alone in
    let gone = messages_continue all piece in
    let both = length-append all piece in
    let more = length-append kept piece in
    let none = ap length (append-nil kept) in
    let begun = s.begun in
    record {
      done = s.done;
      bodies = ap (λ m. m.bodies) gone ∙ (ap (λ bs. bs ++ (messages ((messages all).rest ++ piece)).bodies) bodies ∙ ap (λ l. s.done ++ (messages (l ++ piece)).bodies) rest);
      left = ap (λ m. m.rest) gone ∙ ap (λ l. (messages (l ++ piece)).rest) rest;
      begun = omega (arith, both, more, none, begun);
      few = few;
      not_whole = s.not_whole;
      replies = s.replies;
    }

-- a message ended
pub message_ended :
    (n : ℕ) (all piece : List ℕ) (server : Server) (framer : Framing) (before now : Outside) → IsServing n all piece server before now
    → whole framer.body ≡ (fed server.framer.kept piece).told → framer.kept ≡ (fed server.framer.kept piece).kept
    → IsEnded n all (drop (fed server.framer.kept piece).taken piece) (record server { framer = framer }) before now
message_ended n all piece server framer before now s told kept =
    let e = ended server.framer.kept piece framer.body s.not_whole (sym told) in
    let size = e.size in
    let begun = s.begun in
    record {
      done = s.done;
      bodies = s.bodies ∙ ap (λ m. s.done ++ m.bodies) e.messages_are;
      left = s.left ∙ ap (λ m. m.rest) e.messages_are;
      begun = omega (arith, size, begun);
      few = s.few;
      short = e.short;
      kept = kept ∙ e.kept_none;
      replies = s.replies;
    }

pub some_taken : (n : ℕ) (all piece : List ℕ) (server : Server) (framer : Framing) (before now : Outside) → IsServing n all piece server before now → whole framer.body ≡ (fed server.framer.kept piece).told → 0 < (fed server.framer.kept piece).taken
some_taken n all piece server framer before now s told = (ended server.framer.kept piece framer.body s.not_whole (sym told)).some

-- it was answered
pub goes_on :
    (n : ℕ) (all rest : List ℕ) (server : Server) (desk : Desk) (out : Vec ℕ Global) (begin : ℕ) (faulted : Bool) (before now later : Outside) → (e : IsEnded n all rest server before now)
    → HasReplied n (e.done ++ server.framer.body ∷ []) desk out.items begin faulted before later → begin ≡ server.begin + (4 + length server.framer.body)
    → IsServing n all rest (record { framer = server.framer; desk = desk; out = out; begin = begin; faulted = faulted }) before later
goes_on n all rest server desk out begin faulted before now later e h b =
    let none : messages (server.framer.kept ++ rest) ≡ messages rest = ap (λ l. messages (l ++ rest)) e.kept in
    let size : length (server.framer.kept ++ rest) ≡ length rest = ap (λ l. length (l ++ rest)) e.kept in
    let begun = e.begun in
    record {
      done = e.done ++ server.framer.body ∷ [];
      bodies = e.bodies ∙ (sym (append_assoc e.done (server.framer.body ∷ []) (messages rest).bodies) ∙ ap (λ m. (e.done ++ server.framer.body ∷ []) ++ m.bodies) (sym none));
      left = e.left ∙ ap (λ m. m.rest) (sym none);
      begun = omega (arith, b, size, begun);
      few = e.few;
      not_whole = ap has_message e.kept;
      replies = h;
    }

-- more is needed, and the whole piece was taken
pub more_needed :
    (n : ℕ) (all piece : List ℕ) (server : Server) (framer : Framing) (count : ℕ) (before now : Outside) → IsServing n all piece server before now
    → needs ≡ (fed server.framer.kept piece).told → framer.kept ≡ (fed server.framer.kept piece).kept → count ≡ (fed server.framer.kept piece).taken
    → IsServing n all (drop count piece) (record server { framer = framer }) before now
more_needed n all piece server framer count before now s told kept taken =
    let m = needs_more server.framer.kept piece (sym told) in
    let nothing : drop count piece ≡ [] = drop_all count piece (omega (arith, taken, m.taken)) in
    let same : framer.kept ++ drop count piece ≡ server.framer.kept ++ piece = ap (λ l. framer.kept ++ l) nothing ∙ (append-nil framer.kept ∙ (kept ∙ m.kept_all)) in
    record {
      done = s.done;
      bodies = s.bodies ∙ ap (λ l. s.done ++ (messages l).bodies) (sym same);
      left = s.left ∙ ap (λ l. (messages l).rest) (sym same);
      begun = ap (λ l. server.begin + length l) same ∙ s.begun;
      few = s.few;
      not_whole = ap has_message (kept ∙ m.kept_all) ∙ m.none;
      replies = s.replies;
    }
  where
    drop_all : (n : ℕ) (xs : List ℕ) → length xs ≤ n → drop n xs ≡ []
    drop_all zero [] h = refl
    drop_all zero (x ∷ xs) h = absurd (omega arith)
    drop_all (suc n) [] h = refl
    drop_all (suc n) (x ∷ xs) h = drop_all n xs (omega (arith, h))

pub all_taken : (kept piece : List ℕ) (count : ℕ) → needs ≡ (fed kept piece).told → count ≡ (fed kept piece).taken → count ≡ length piece
all_taken kept piece count told taken = taken ∙ (needs_more kept piece (sym told)).taken

-- a length isn't in range
pub at_bad :
    (n : ℕ) (all piece : List ℕ) (server : Server) (framer : Framing) (before now : Outside) → IsServing n all piece server before now
    → bad_length ≡ (fed server.framer.kept piece).told → IsAtBad n all (record server { framer = framer }) before now
at_bad n all piece server framer before now s told =
    let b = is_bad server.framer.kept piece (sym told) in
    let bodies : (messages all).bodies ≡ s.done = s.bodies ∙ (ap (λ m. s.done ++ m.bodies) b.1 ∙ append-nil s.done) in
    let rest : (messages all).rest ≡ server.framer.kept ++ piece = s.left ∙ ap (λ m. m.rest) b.1 in
    record {
      bad = ap has_bad_length rest ∙ b.0;
      begun = ap (λ l. server.begin + length l) rest ∙ s.begun;
      replies = subst (λ bs. HasReplied n bs server.desk server.out.items server.begin server.faulted before now) (sym bodies) s.replies;
    }

-- memory was out
pub untold_cut :
    (n : ℕ) (all rest : List ℕ) (server : Server) (before now : Outside) (runs faults : ℕ) → IsEnded n all rest server before now → now.runs ≤ runs → now.faults ≤ faults
    → IsCut n all before (standing now.written runs faults)
untold_cut n all rest server before now runs faults e r f =
    cut n all e.done (server.framer.body ∷ (messages rest).bodies) server.desk server.out.items server.begin server.faulted before now now.written runs faults e.replies e.bodies
    (nothing_written now.written server.out.items) r f

pub unfed_cut :
    (n : ℕ) (all rest : List ℕ) (server : Server) (before now : Outside) → IsServing n all rest server before now → IsCut n all before now
unfed_cut n all rest server before now s =
    cut n all s.done (messages (server.framer.kept ++ rest)).bodies server.desk server.out.items server.begin server.faulted before now now.written now.runs now.faults
    s.replies s.bodies (nothing_written now.written server.out.items) (omega arith) (omega arith)

-- The ends

pub front_answered : (n : ℕ) (all : List ℕ) (before now : Outside) → IsCut n all before now → FrontAnswered n all before now
front_answered n all before now c =
    let r = read_off n (new_device n) (take c.count (messages all).bodies) c.output c.events c.replied in
    record {
      count = c.count;
      output = c.output;
      replies = r.replies;
      written = c.written;
      counted = subst (λ es. IsCounted es before.runs now.runs before.faults now.faults) (sym r.events_are) c.counted;
    }

pub all_answered :
    (n : ℕ) (all : List ℕ) (desk : Desk) (out : List ℕ) (begin : ℕ) (faulted : Bool) (before now : Outside) (Failed : ℕ → Type 0)
    → (h : HasReplied n (messages all).bodies desk out begin faulted before now) → out ≡ [] → Failed (finishes true h.events) → AllAnswered n all before now Failed
all_answered n all desk out begin faulted before now Failed h none f =
    let r = read_off n (new_device n) (messages all).bodies h.output h.events h.replied in
    let sent : h.sent ≡ h.output = sym (append-nil h.sent) ∙ (ap (λ o. h.sent ++ o) (sym none) ∙ h.pending) in
    record {
      output = h.output;
      replies = r.replies;
      written = subst (Appends before.written now.written) sent h.written;
      counted = subst (λ es. IsCounted es before.runs now.runs before.faults now.faults) (sym r.events_are) h.counted;
      failed = subst (λ es. Failed (finishes true es)) (sym r.events_are) f;
    }

-- where no byte is left to be fed all messages were answered
pub record Stands (n : ℕ) (all : List ℕ) (server : Server) (before now : Outside) : Type 0 where
  pub rest : (messages all).rest ≡ server.framer.kept
  pub begun : server.begin + length (messages all).rest ≡ length all
  pub replies : HasReplied n (messages all).bodies server.desk server.out.items server.begin server.faulted before now

pub stands : (n : ℕ) (all : List ℕ) (server : Server) (before now : Outside) → IsServing n all [] server before now → Stands n all server before now
stands n all server before now s =
    let kept = server.framer.kept in
    let alone : messages (kept ++ []) ≡ record { bodies = []; rest = kept } = ap messages (append-nil kept) ∙ none_alone kept s.not_whole in
    let bodies : (messages all).bodies ≡ s.done = s.bodies ∙ (ap (λ m. s.done ++ m.bodies) alone ∙ append-nil s.done) in
    let rest : (messages all).rest ≡ kept = s.left ∙ ap (λ m. m.rest) alone in
    record {
      rest = rest;
      begun = ap (λ l. server.begin + length l) (rest ∙ sym (append-nil kept)) ∙ s.begun;
      replies = subst (λ bs. HasReplied n bs server.desk server.out.items server.begin server.faulted before now) (sym bodies) s.replies;
    }

-- the replies were written
pub out_passed :
    (n : ℕ) (all rest : List ℕ) (server : Server) (out : Vec ℕ Global) (before now : Outside) (written : Option (List ℕ)) → IsServing n all rest server before now
    → IsPassedOn now.written written server.out.items out.items → IsServing n all rest (record server { out = out }) before (standing written now.runs now.faults)
out_passed n all rest server out before now written s p =
    record {
      done = s.done;
      bodies = s.bodies;
      left = s.left;
      begun = s.begun;
      few = s.few;
      not_whole = s.not_whole;
      replies = passed_on n s.done server.desk server.out.items out.items server.begin server.faulted before now written s.replies p;
    }

pub front_cut :
    (n : ℕ) (all rest : List ℕ) (server : Server) (before now : Outside) (written : Option (List ℕ)) → IsServing n all rest server before now
    → AppendsFront now.written written server.out.items → IsCut n all before (standing written now.runs now.faults)
front_cut n all rest server before now written s front =
    cut n all s.done (messages (server.framer.kept ++ rest)).bodies server.desk server.out.items server.begin server.faulted before now written now.runs now.faults
    s.replies s.bodies front (omega arith) (omega arith)

pub bad_cut :
    (n : ℕ) (all : List ℕ) (server : Server) (before now : Outside) (written : Option (List ℕ)) → IsAtBad n all server before now
    → AppendsFront now.written written server.out.items → IsCut n all before (standing written now.runs now.faults)
bad_cut n all server before now written b front =
    cut n all (messages all).bodies [] server.desk server.out.items server.begin server.faulted before now written now.runs now.faults
    b.replies (sym (append-nil (messages all).bodies)) front (omega arith) (omega arith)

-- Reading

pub consumes_none : (left : Option (List ℕ)) → Consumes left left []
consumes_none None = tt
consumes_none (Some bytes) = refl

pub consumes_both : (old mid new : Option (List ℕ)) (xs ys : List ℕ) → Consumes old mid xs → Consumes mid new ys → Consumes old new (xs ++ ys)
consumes_both None mid new xs ys a b = tt
consumes_both (Some o) None new xs ys a b = absurd a
consumes_both (Some o) (Some m) None xs ys a b = absurd b
consumes_both (Some o) (Some m) (Some n) xs ys a b = a ∙ ap (λ z. xs ++ z) b ∙ sym (append_assoc xs ys n)

-- how far the input was read and served
pub record IsReading (n total : ℕ) (server : Server) (left left_now : Option (List ℕ)) (before now : Outside) (source source_now sink sink_now : ℕ) : Type 0 where
  pub all : List ℕ
  pub total_is : total ≡ length all
  pub read : Consumes left left_now all
  pub serving : IsServing n all [] server before now
  pub source_later : source ≤ source_now
  pub sink_later : sink ≤ sink_now
  pub runs_stay : before.runs ≤ now.runs
  pub faults_stay : before.faults ≤ now.faults

pub not_read : (n : ℕ) (server : Server) (left : Option (List ℕ)) (at : Outside) (source sink : ℕ) → IsServing n [] [] server at at → IsReading n 0 server left left at at source source sink sink
not_read n server left at source sink s =
    record { all = []; total_is = refl; read = consumes_none left; serving = s; source_later = omega arith; sink_later = omega arith; runs_stay = omega arith; faults_stay = omega arith }
