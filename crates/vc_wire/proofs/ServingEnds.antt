-- How serving ends, by how far it came: at the end of the input, at a bad message, and where something outside fails.
use Rattle.std.proofs.Common.{ℕ, ◌≡◌, ◌≢◌, ◌≤◌, ◌<◌, ◌+◌, ◌-◌, ◌==◌, Bool, true, false, not, ◌||◌, ◌⊎◌, Option, List, [], ◌∷◌, ◌++◌, length, take, drop, refl, sym, ap, ◌∙◌, subst, arith, inl, inr, length-append}
use Rattle.std.specs.Prelude.{Vec, ⊤}
use Rattle.std.specs.declared.alloc.Global.{Global}
use Rattle.std.specs.Io.KnownBytes.{Appends, Consumes, IsAtEnd, Keeps}
use Rattle.std.proofs.KnownBytes.{Consumes-kept, Consumes-trans}
use Rattle.std.proofs.lemmas.List.{append-nil, take_all, length-drop}
use Rattle.vc_base.specs.Device.{DeviceEvent}
use Rattle.vc_io.specs.Written.{AppendsFront}
use Rattle.vc_model.specs.Messages.{messages, asked_in}
use Rattle.vc_model.proofs.MessagesContinue.{messages_continue}
use Rattle.vc_desk.specs.declared.desk.Desk.{Desk}
use Rattle.vc_desk.specs.Desks.{IsDesk}
use Rattle.vc_wire.specs.declared.serve.Server.{Server}
use Rattle.vc_wire.specs.declared.ends.WireEnd.TheVariants.{Whole, BadMessage, ReadFault, WriteFault, EngineFault, TooLong, NoMemory}
use Rattle.vc_wire.specs.Answers.{IsAnswered}
use Rattle.vc_wire.specs.Ends.{Outside, standing, AllAnswered, FrontAnswered, HasRead, EndsAs, most_input}
use Rattle.vc_wire.specs.Serving.{HasReplied, IsServing, IsEnded, IsAtBad, IsCut}
use Rattle.vc_wire.proofs.ServingGoesOn.{consumes_none, one_answered, passed_on, all_passed, out_passed, piece_more, goes_on, cut, nothing_written, front_answered, all_answered, front_cut, stands, IsReading}

-- a message that ended was answered
pub message_answered :
    (n : ℕ) (all rest body : List ℕ) (server : Server) (desk : Desk) (out : Vec ℕ Global) (begin : ℕ) (faulted fault : Bool) (before now : Outside) (runs faults : ℕ)
    → IsEnded n all rest server before now → body ≡ server.framer.body
    → ((history : List DeviceEvent) → IsDesk n history server.desk
    → IsAnswered n history (asked_in n body) server.out.items out.items fault now.runs runs now.faults faults desk)
    → desk.core.steps ≤ server.desk.core.steps + 1 → begin ≡ server.begin + (4 + length body) → faulted ≡ (server.faulted || fault)
    → IsServing n all rest (record { framer = server.framer; desk = desk; out = out; begin = begin; faulted = faulted }) before (standing now.written runs faults)
message_answered n all rest body server desk out begin faulted fault before now runs faults e is answered steps b f =
    goes_on n all rest server desk out begin faulted before now (standing now.written runs faults) e
    (subst (λ x. HasReplied n (e.done ++ x ∷ []) desk out.items begin faulted before (standing now.written runs faults)) is
    (subst (λ t. HasReplied n (e.done ++ body ∷ []) desk out.items begin t before (standing now.written runs faults)) (sym f)
    (one_answered n e.done body server.desk desk server.out.items out.items server.begin begin server.faulted fault before now runs faults e.replies
    (answered e.replies.events e.replies.at) steps (omega (arith, b))))) (b ∙ ap (λ x. server.begin + (4 + length x)) is)

-- At the end of the input

none_kept : (kept : List ℕ) → not (length kept == 0) ≡ false → kept ≡ []
none_kept [] e = refl
none_kept (b ∷ kept) e = absurd (grind arith)

some_kept : (kept : List ℕ) → not (length kept == 0) ≡ true → kept ≢ []
some_kept [] e p = absurd (cc)
some_kept (b ∷ kept) e p = absurd (cc)

pub ends_begun :
    (n : ℕ) (all : List ℕ) (left left_now : Option (List ℕ)) (server : Server) (before now : Outside) → HasRead left left_now all → IsAtEnd left_now
    → IsServing n all [] server before now → server.out.items ≡ [] → not (length server.framer.kept == 0) ≡ true → EndsAs n left left_now before now (BadMessage server.begin)
ends_begun n all left left_now server before now r end s none begun =
    let t = stands n all server before now s in (
      all,
      record { read = r; begun = t.begun; bad = inr (end, λ e. some_kept server.framer.kept begun (sym t.rest ∙ e)) },
      all_answered n all server.desk server.out.items server.begin server.faulted before now (λ k. ⊤) t.replies none tt,
    )

pub ends_faulted :
    (n : ℕ) (all : List ℕ) (left left_now : Option (List ℕ)) (server : Server) (before now : Outside) → HasRead left left_now all → IsAtEnd left_now
    → IsServing n all [] server before now → server.out.items ≡ [] → not (length server.framer.kept == 0) ≡ false → server.faulted ≡ true → EndsAs n left left_now before now EngineFault
ends_faulted n all left left_now server before now r end s none begun faulted =
    let t = stands n all server before now s in (
      all,
      record { read = r; end = end; no_rest = t.rest ∙ none_kept server.framer.kept begun },
      all_answered n all server.desk server.out.items server.begin server.faulted before now (λ k. 0 < k) t.replies none (t.replies.some_yet faulted),
    )

pub ends_whole :
    (n : ℕ) (all : List ℕ) (left left_now : Option (List ℕ)) (server : Server) (before now : Outside) → HasRead left left_now all → IsAtEnd left_now
    → IsServing n all [] server before now → server.out.items ≡ [] → not (length server.framer.kept == 0) ≡ false → server.faulted ≡ false → EndsAs n left left_now before now Whole
ends_whole n all left left_now server before now r end s none begun faulted =
    let t = stands n all server before now s in (
      all,
      record { read = r; end = end; no_rest = t.rest ∙ none_kept server.framer.kept begun },
      all_answered n all server.desk server.out.items server.begin server.faulted before now (λ k. k ≡ 0) t.replies none (t.replies.none_yet faulted),
    )

-- Where serving stops

pub stops_bad :
    (n : ℕ) (all : List ℕ) (left left_now : Option (List ℕ)) (server : Server) (before now : Outside) (written : Option (List ℕ)) → HasRead left left_now all
    → IsAtBad n all server before now → Appends now.written written server.out.items
    → EndsAs n left left_now before (standing written now.runs now.faults) (BadMessage server.begin)
stops_bad n all left left_now server before now written r b a = (
  all,
  record { read = r; begun = b.begun; bad = inl b.bad },
  all_answered n all server.desk [] server.begin server.faulted before (standing written now.runs now.faults) (λ k. ⊤)
      (passed_on n (messages all).bodies server.desk server.out.items [] server.begin server.faulted before now written b.replies
      (all_passed now.written written server.out.items [] a refl)) refl tt,
)

pub stops_cut :
    (n : ℕ) (all : List ℕ) (left left_now : Option (List ℕ)) (before now : Outside) → HasRead left left_now all → IsCut n all before now
    → EndsAs n left left_now before now WriteFault
stops_cut n all left left_now before now r c = (all, r, front_answered n all before now c)

-- Reading

-- all replies were written
pub reading_handed :
    (n total : ℕ) (server : Server) (out : Vec ℕ Global) (left left_now : Option (List ℕ)) (before now : Outside) (written : Option (List ℕ)) (source source_now sink sink_now sink_later : ℕ)
    → IsReading n total server left left_now before now source source_now sink sink_now → Appends now.written written server.out.items → out.items ≡ [] → sink_now ≤ sink_later
    → IsReading n total (record server { out = out }) left left_now before (standing written now.runs now.faults) source source_now sink sink_later
reading_handed n total server out left left_now before now written source source_now sink sink_now sink_later r a e l = record {
  all = r.all;
  total_is = r.total_is;
  read = r.read;
  serving = out_passed n r.all [] server out before now written r.serving (all_passed now.written written server.out.items out.items a e);
  source_later = r.source_later;
  sink_later = omega (arith, r.sink_later, l);
  runs_stay = r.runs_stay;
  faults_stay = r.faults_stay;
}

-- not all replies were written
pub reading_cut :
    (n total : ℕ) (server : Server) (left left_now : Option (List ℕ)) (before now : Outside) (written : Option (List ℕ)) (source source_now sink sink_now : ℕ)
    → IsReading n total server left left_now before now source source_now sink sink_now → AppendsFront now.written written server.out.items
    → EndsAs n left left_now before (standing written now.runs now.faults) WriteFault
reading_cut n total server left left_now before now written source source_now sink sink_now r front =
    stops_cut n r.all left left_now before (standing written now.runs now.faults) (record { read = r.read; few = r.serving.few })
    (front_cut n r.all [] server before now written r.serving front)

-- the source failed
pub reading_failed :
    (n total : ℕ) (server : Server) (left mid left_now : Option (List ℕ)) (before now : Outside) (source source_now sink sink_now : ℕ)
    → IsReading n total server left mid before now source source_now sink sink_now → Keeps mid left_now → server.out.items ≡ [] → EndsAs n left left_now before now ReadFault
reading_failed n total server left mid left_now before now source source_now sink sink_now r kept none =
    let t = stands n r.all server before now r.serving in (
      r.all,
      record { read = Consumes-kept left mid left_now r.all r.read kept; few = r.serving.few },
      all_answered n r.all server.desk server.out.items server.begin server.faulted before now (λ k. ⊤) t.replies none tt,
    )

-- nothing more was read
pub read_none : (left mid left_now : Option (List ℕ)) (all piece : List ℕ) (count : ℕ) → Consumes left mid all → Consumes mid left_now (take count piece) → count ≡ 0 → length all < most_input → HasRead left left_now all
read_none left mid left_now all piece count a b e few =
    record {
      read = subst (Consumes left left_now) (ap (λ k. all ++ take k piece) e ∙ append-nil all) (Consumes-trans left mid left_now all (take count piece) a b);
      few = few;
    }

-- a piece more was read, and is served
pub reading_piece :
    (n total : ℕ) (piece : List ℕ) (server : Server) (left mid : Option (List ℕ)) (before now : Outside) (source source_now sink sink_now : ℕ)
    → (r : IsReading n total server left mid before now source source_now sink sink_now) → total + length piece < most_input
    → IsServing n (r.all ++ piece) piece server before now
reading_piece n total piece server left mid before now source source_now sink sink_now r few =
    piece_more n r.all piece server before now r.serving (omega (arith, few, r.total_is, length-append r.all piece))

pub read_piece_more :
    (n total : ℕ) (piece : List ℕ) (server : Server) (left mid left_now : Option (List ℕ)) (before now : Outside) (source source_now sink sink_now : ℕ)
    → (r : IsReading n total server left mid before now source source_now sink sink_now) → total + length piece < most_input → Consumes mid left_now piece
    → HasRead left left_now (r.all ++ piece)
read_piece_more n total piece server left mid left_now before now source source_now sink sink_now r few c =
    record { read = Consumes-trans left mid left_now r.all piece r.read c; few = omega (arith, few, r.total_is, length-append r.all piece) }

-- it was served
pub reading_more :
    (n total count : ℕ) (piece : List ℕ) (server server' : Server) (left mid left_now : Option (List ℕ)) (before now later : Outside) (source source_now source_later sink sink_now sink_later : ℕ)
    → (r : IsReading n total server left mid before now source source_now sink sink_now) → count ≡ length piece → Consumes mid left_now piece
    → IsServing n (r.all ++ piece) [] server' before later → source_now ≤ source_later → sink_now ≤ sink_later → now.runs ≤ later.runs → now.faults ≤ later.faults
    → IsReading n (total + count) server' left left_now before later source source_later sink sink_later
reading_more n total count piece server server' left mid left_now before now later source source_now source_later sink sink_now sink_later r e c s a b runs faults = record {
  all = r.all ++ piece;
  total_is = omega (arith, e, r.total_is, length-append r.all piece);
  read = Consumes-trans left mid left_now r.all piece r.read c;
  serving = s;
  source_later = omega (arith, r.source_later, a);
  sink_later = omega (arith, r.sink_later, b);
  runs_stay = omega (arith, r.runs_stay, runs);
  faults_stay = omega (arith, r.faults_stay, faults);
}

-- too many bytes were read
pub reading_too_long :
    (n total : ℕ) (piece : List ℕ) (server : Server) (left mid left_now : Option (List ℕ)) (before now : Outside) (source source_now sink sink_now : ℕ)
    → IsReading n total server left mid before now source source_now sink sink_now → Consumes mid left_now piece → most_input ≤ total + length piece
    → EndsAs n left left_now before now TooLong
reading_too_long n total piece server left mid left_now before now source source_now sink sink_now r c long =
    let all = r.all in
    let kept = server.framer.kept in
    let s = r.serving in
    let t = stands n all server before now s in
    let more = (messages (kept ++ piece)).bodies in
    let bodies : (messages (all ++ piece)).bodies ≡ (messages all).bodies ++ more =
    ap (λ m. m.bodies) (messages_continue all piece) ∙ ap (λ l. (messages all).bodies ++ (messages (l ++ piece)).bodies) t.rest in (
      all ++ piece,
      record { read = Consumes-trans left mid left_now all piece r.read c; long = omega (arith, long, r.total_is, length-append all piece) },
      front_answered n (all ++ piece) before now
          (cut n (all ++ piece) (messages all).bodies more server.desk server.out.items server.begin server.faulted before now now.written now.runs now.faults
          t.replies bodies (nothing_written now.written server.out.items) (omega arith) (omega arith)),
    )

-- nothing was read
pub nothing_served : (n : ℕ) (left : Option (List ℕ)) (at : Outside) → EndsAs n left left at at NoMemory
nothing_served n left at = (
  [],
  record { read = consumes_none left; few = omega arith },
  record {
    count = 0;
    output = [];
    replies = refl;
    written = nothing_written at.written [];
    counted = record { ran = inl (omega arith); failed = inl (omega arith) };
  },
)

-- the bytes behind the first ones, all of them
pub all_behind : (k : ℕ) (xs : List ℕ) → take (length xs - k) (drop k xs) ≡ drop k xs
all_behind k xs = take_all (length xs - k) (drop k xs) (omega (arith, length-drop k xs))
