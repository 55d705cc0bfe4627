-- How the kept bytes stand in a head and a body, and what it is to take bytes behind them.
use Rattle.std.specs.Prelude.{◌≡◌, ℕ, ◌+◌, ◌<◌, ◌≤◌, List, [], ◌∷◌, ◌++◌, length, take, drop, vec_capacity}
use Rattle.std.specs.declared.option.Option.{Option}
use Rattle.std.specs.declared.option.Option.TheVariants.{Some, None}
use Rattle.vc_base.specs.Limits.{header_size}
use Rattle.vc_base.specs.declared.Stamp.{Stamp}
use Rattle.vc_defs.specs.declared.Header.{Header}
use Rattle.vc_defs.specs.Headers.{magic, header_from}
use Rattle.vc_defs.specs.Places.{places}
use Rattle.vc_defs.specs.Finds.{Find, Head, Ended, position_of, known_at, finds, told_of_tail, kept_before}
use Rattle.vc_resync.specs.declared.feeding.Found.{Found}
use Rattle.vc_resync.specs.declared.feeding.Found.TheVariants.{More, Head as HeadFound, Whole, Cut}
use Rattle.vc_resync.specs.declared.collected.Collected.{Collected}
use Rattle.vc_resync.specs.declared.collected.Stage.{Stage}
use Rattle.vc_resync.specs.declared.collected.Stage.TheVariants.{Seeking, Begun, Open}
use Rattle.vc_resync.specs.Seeking.{Matches}
use Rattle.vc_resync.specs.Assembling.{found_of, ToldFrame, IsLegal}

-- bytes in the place of those that stand from a place on
abbrev pub put_at : List ℕ → ℕ → List ℕ → List ℕ
put_at out at bytes = take at out ++ (bytes ++ drop (at + length bytes) out)

-- the kept bytes, from their head and body
abbrev pub tail_of : List ℕ → List ℕ → Stage → List ℕ
tail_of head body (Seeking matched) = take matched magic
tail_of head body (Begun length) = take length head
tail_of head body (Open h matched) = head ++ body

-- a magic stands in front, and no whole header is there
pub record IsBegun (head : List ℕ) (length : ℕ) : Type 0 where
  pub least : 8 ≤ length
  pub most : length < 44
  pub front : take 8 head ≡ magic

-- a legal header stands in front, and nothing of its frame's end
pub record IsOpen (limit : ℕ) (head body : List ℕ) (h : Header) (matched : ℕ) : Type 0 where
  pub header : header_from limit head ≡ Some h
  pub legal : IsLegal limit h
  pub front : take 8 head ≡ magic
  pub room : h.size ≤ limit
  pub part : length body ≤ h.size
  pub few : matched < 8
  pub matches : Matches (drop 8 (head ++ body)) matched

-- head and body are as the stage says
abbrev pub Stands : ℕ → List ℕ → List ℕ → Stage → Type 0
Stands limit head body (Seeking matched) = matched < 8
Stands limit head body (Begun length) = IsBegun head length
Stands limit head body (Open h matched) = IsOpen limit head body h matched

-- the kept bytes
abbrev pub kept_in : Collected → List ℕ
kept_in c = tail_of c.head c.body.items c.stage

-- head and body have their room
pub record HasRoom (c : Collected) : Type 0 where
  pub head : length c.head ≡ 44
  pub body : c.limit ≤ vec_capacity c.body

-- there is room, and all is as the stage says
pub record IsSound (c : Collected) : Type 0 where
  pub room : HasRoom c
  pub stands : Stands c.limit c.head c.body.items c.stage

-- a whole frame's body stands in front of these bytes
abbrev pub BodyIs : List ℕ → Find → Type 0
BodyIs bytes (Head position h) = Unit {0}
BodyIs bytes (Ended f) = elim f.body as (λ _. Type 0) [ None ↦ Unit {0} | Some body ↦ (body ≡ take f.header.size bytes) × (f.header.size ≤ length bytes) ]

-- what is told of bytes, the first of which are a tail that isn't empty
pub record TakenFind (limit : ℕ) (tail all : List ℕ) (found : Found) (body after : List ℕ) (find : Find) (later : List Find) : Type 0 where
  pub some : 0 < length tail
  pub told : found ≡ found_of (Some find)
  pub front : position_of find ≡ 0
  pub end : known_at find ≡ length all
  pub body_is : BodyIs body find
  pub kept : after ≡ kept_before limit all later

abbrev pub TakenBy : ℕ → List ℕ → List ℕ → Found → List ℕ → List ℕ → List Find → Type 0
TakenBy limit tail all found body after [] = (found ≡ More) × (after ≡ (places all limit).tail)
TakenBy limit tail all found body after (find ∷ later) = TakenFind limit tail all found body after find later

-- Bytes were taken behind a tail: what is told of them is known at the last one, and these bytes are kept.
unfoldable pub Taken : ℕ → List ℕ → List ℕ → Found → List ℕ → List ℕ → Type 0
Taken limit tail bytes found body after =
    TakenBy limit tail (tail ++ bytes) found body after (drop (told_of_tail tail) (finds (tail ++ bytes) limit))

-- A head was taken: wherever it is cut into a tail that isn't a whole header and bytes behind it, these bytes were taken.
abbrev pub HeadTaken : ℕ → List ℕ → Found → List ℕ → List ℕ → Type 0
HeadTaken limit head found body after =
    (tail bytes : List ℕ) → tail ++ bytes ≡ head → 0 < length tail → length tail < header_size → Taken limit tail bytes found body after

-- how many bytes are kept behind so many more: where more than 43 are, all of them
pub record Grows (before count after : ℕ) : Type 0 where
  pub most : after ≤ before + count
  pub far : 43 < after → (after ≡ before + count) × (0 < before)

-- what a frame that was told is, by its answer: its body stands in front of these bytes
abbrev pub frame_found : Found → List ℕ → Stamp → Option ToldFrame
frame_found More bytes stamp = None
frame_found (HeadFound h) bytes stamp = None
frame_found (Whole h) bytes stamp = Some (record { body = Some (take h.size bytes); stamp = stamp })
frame_found (Cut h) bytes stamp = Some (record { body = None; stamp = stamp })
