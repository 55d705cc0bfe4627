-- What is told of bytes that come in pieces: each legal header and each frame, in order, as soon as it is known.
-- All of it is docs/FORMAT.md, "Frame places".
use Rattle.std.specs.Prelude.{ℕ, suc, zero, ◌+◌, ◌-◌, min, List, [], ◌∷◌, ◌++◌, get_or, map, length, take, drop, nat_eq, nat_lt, nat_le, if◌then◌else◌}
use Rattle.std.specs.List.{range_with_len}
use Rattle.std.specs.declared.option.Option.{Option}
use Rattle.std.specs.declared.option.Option.TheVariants.{Some, None}
use Rattle.vc_base.specs.declared.Stamp.{Stamp}
use Rattle.vc_base.specs.Buffers.{zero_stamp}
use Rattle.vc_defs.specs.declared.Header.{Header}
use Rattle.vc_defs.specs.Places.{Frame, OpenFrame, places, moved_frame}

-- What is told: a legal header at a position, or a frame, cut or whole.
pub data Find : Type 0 where
  Head : (position : ℕ) (header : Header) → Find
  Ended : (frame : Frame) → Find

-- where the frame of a find begins
abbrev pub position_of : Find → ℕ
position_of (Head position h) = position
position_of (Ended f) = f.position

-- the number of bytes after which a find is known: a header when its 44 bytes are there
abbrev pub known_at : Find → ℕ
known_at (Head position h) = position + 44
known_at (Ended f) = f.known

-- the header of a last frame that isn't known
abbrev pub finds_unfinished : Option OpenFrame → List Find
finds_unfinished None = []
finds_unfinished (Some f) = Head f.position f.header ∷ []

-- each frame's header and end, and then the header of a last frame that isn't known
abbrev pub finds_in : List Frame → Option OpenFrame → List Find
finds_in [] unfinished = finds_unfinished unfinished
finds_in (f ∷ frames) unfinished = Head f.position f.header ∷ Ended f ∷ finds_in frames unfinished

-- all finds of a list of bytes, in order
unfoldable pub finds : List ℕ → ℕ → List Find
finds bytes limit = finds_in (places bytes limit).frames (places bytes limit).unfinished

-- a find that is counted from so many bytes earlier
abbrev pub moved_find : ℕ → Find → Find
moved_find k (Head position h) = Head (k + position) h
moved_find k (Ended f) = Ended (moved_frame k f)

-- What is kept between two pieces: the bytes that later ones may make into a frame, or whose frame wasn't told; and the
-- stamps of the first of them and of the last 43. No other stamp can become a frame's.
pub record KeptBytes : Type 0 where
  pub tail : List ℕ
  pub first_stamp : Stamp
  pub last_stamps : List Stamp

abbrev pub nothing_kept : KeptBytes
nothing_kept = record { tail = []; first_stamp = zero_stamp; last_stamps = [] }

-- the stamp of a byte of a tail and of the bytes behind it, which all have one stamp
abbrev pub stamp_in : KeptBytes → Stamp → ℕ → Stamp
stamp_in kept stamp zero = if nat_eq (length kept.tail) 0 then stamp else kept.first_stamp
stamp_in kept stamp (suc p) =
    if nat_lt (suc p) (length kept.tail) then get_or kept.last_stamps (suc p - (length kept.tail - length kept.last_stamps)) stamp else stamp

-- the first of the stamps of a tail, which is all of the last so many places below an end
abbrev pub first_of_tail : (ℕ → Stamp) → ℕ → ℕ → Stamp
first_of_tail stamp end zero = zero_stamp
first_of_tail stamp end (suc count) = stamp (end - suc count)

-- the last 43 of them
abbrev pub last_of_tail : (ℕ → Stamp) → ℕ → ℕ → List Stamp
last_of_tail stamp end count = map stamp (range_with_len (end - min 43 count) (min 43 count))

-- this tail at the end of so many bytes that have these stamps
abbrev pub kept_with : List ℕ → ℕ → (ℕ → Stamp) → KeptBytes
kept_with tail end stamp =
    record { tail = tail; first_stamp = first_of_tail stamp end (length tail); last_stamps = last_of_tail stamp end (length tail) }

-- the bytes to be kept of those that were taken, where these finds weren't told: from the frame's magic on, where one of
-- them is known already
abbrev pub kept_before : ℕ → List ℕ → List Find → List ℕ
kept_before limit bytes [] = (places bytes limit).tail
kept_before limit bytes (next ∷ later) = if nat_le (known_at next) (length bytes) then drop (position_of next) bytes else (places bytes limit).tail

-- One call over a piece: the find that it told, or none where all finds were told; the stamp of the byte at the find's
-- position; how many bytes of the piece it took; and what is kept then. The find is counted from the first byte of the
-- tail before the call.
pub record FedStep : Type 0 where
  pub told : Option Find
  pub stamp : Stamp
  pub moved : ℕ
  pub kept : KeptBytes

-- the call by what is still to be told of the tail and the piece behind it
abbrev pub fed_by : KeptBytes → ℕ → List ℕ → Stamp → List Find → FedStep
fed_by kept limit bytes stamp [] =
    record { told = None; stamp = stamp; moved = length bytes - length kept.tail; kept = kept_with (places bytes limit).tail (length bytes) (stamp_in kept stamp) }
fed_by kept limit bytes stamp (next ∷ later) =
    let end = known_at next in
    record {
      told = Some next;
      stamp = stamp_in kept stamp (position_of next);
      moved = end - length kept.tail;
      kept = kept_with (kept_before limit (take end bytes) later) end (stamp_in kept stamp);
    }

-- how many finds of the tail were told: its header, where it has one. A kept tail has 44 bytes or more exactly where its
-- header was told.
abbrev pub told_of_tail : List ℕ → ℕ
told_of_tail tail = if nat_le 44 (length tail) then 1 else 0

-- One call over the bytes of a piece: the next find over the tail and the shortest prefix of the piece after which there
-- is one, under a limit. Where all finds were told the whole piece is taken.
unfoldable pub fed : KeptBytes → ℕ → List ℕ → Stamp → FedStep
fed kept limit piece stamp = fed_by kept limit (kept.tail ++ piece) stamp (drop (told_of_tail kept.tail) (finds (kept.tail ++ piece) limit))
