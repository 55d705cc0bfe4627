-- How far a server of messages has come.
use Rattle.std.specs.Prelude.{ℕ, ◌≡◌, ◌<◌, ◌≤◌, ◌+◌, ◌^◌, Bool, true, false, Option, List, [], ◌∷◌, ◌++◌, length, take}
use Rattle.std.specs.Io.KnownBytes.{Appends}
use Rattle.vc_base.specs.Device.{DeviceEvent}
use Rattle.vc_io.specs.Written.{AppendsFront}
use Rattle.vc_model.specs.Coder.{the_coder}
use Rattle.vc_model.specs.Devices.{DeviceState, new_device, device_after}
use Rattle.vc_model.specs.Messages.{has_message, has_bad_length, messages, asked_in}
use Rattle.vc_model.specs.Wire.{asked_events, body_reply}
use Rattle.vc_desk.specs.declared.desk.Desk.{Desk}
use Rattle.vc_desk.specs.Desks.{IsDesk}
use Rattle.vc_desk.specs.Carries.{finishes, IsCounted}
use Rattle.vc_wire.specs.Answers.{IsWhole}
use Rattle.vc_wire.specs.Ends.{Outside, most_input}
use Rattle.vc_wire.specs.declared.serve.Server.{Server}
use Rattle.vc_wire.specs.declared.serve.Stop.{Stop}
use Rattle.vc_wire.specs.declared.serve.Stop.TheVariants as stops

-- The reply is whole and the device's at these events, which are read off it.
pub record IsReplied (n : ℕ) (d : DeviceState) (body reply : List ℕ) (events : List DeviceEvent) : Type 0 where
  pub whole : IsWhole reply
  pub told : reply ≡ body_reply the_coder d (asked_in n body) events
  pub choice_read : asked_events d (asked_in n body) reply ≡ events

-- the first reply is that to the first body, and what follows are the others
abbrev pub AreReplied : ℕ → DeviceState → List (List ℕ) → List ℕ → List DeviceEvent → Type 0
AreReplied n d [] output events = (output ≡ []) × (events ≡ [])
AreReplied n d (body ∷ rest) output events =
    (reply : List ℕ) × (others : List ℕ) × (first : List DeviceEvent) × (later : List DeviceEvent)
    × (output ≡ reply ++ others) × (events ≡ first ++ later) × IsReplied n d body reply first × AreReplied n (device_after the_coder d first) rest others later

-- The bodies were answered. What their replies are was written, but for what is still to be.
pub record HasReplied (n : ℕ) (done : List (List ℕ)) (desk : Desk) (out : List ℕ) (begin : ℕ) (faulted : Bool) (before now : Outside) : Type 0 where
  pub output : List ℕ
  pub events : List DeviceEvent
  pub sent : List ℕ
  pub replied : AreReplied n (new_device n) done output events
  pub at : IsDesk n events desk
  pub steps : desk.core.steps ≤ begin
  pub pending : sent ++ out ≡ output
  pub written : Appends before.written now.written sent
  pub counted : IsCounted events before.runs now.runs before.faults now.faults
  pub none_yet : faulted ≡ false → finishes true events ≡ 0
  pub some_yet : faulted ≡ true → 0 < finishes true events

-- Of the bytes that were read these are still to be fed, and the messages that ended before them were answered.
pub record IsServing (n : ℕ) (all rest : List ℕ) (server : Server) (before now : Outside) : Type 0 where
  pub done : List (List ℕ)
  pub bodies : (messages all).bodies ≡ done ++ (messages (server.framer.kept ++ rest)).bodies
  pub left : (messages all).rest ≡ (messages (server.framer.kept ++ rest)).rest
  pub begun : server.begin + length (server.framer.kept ++ rest) ≡ length all
  pub few : length all < most_input
  pub not_whole : has_message server.framer.kept ≡ false
  pub replies : HasReplied n done server.desk server.out.items server.begin server.faulted before now

-- the same, of some bytes
abbrev pub IsSomeServing : List ℕ → Server → Type 0
IsSomeServing rest server = (n : ℕ) × (all : List ℕ) × (before : Outside) × (now : Outside) × IsServing n all rest server before now

-- the same, of some bytes, where this stands outside now
abbrev pub IsServingNow : List ℕ → Server → Outside → Type 0
IsServingNow rest server now = (n : ℕ) × (all : List ℕ) × (before : Outside) × IsServing n all rest server before now

-- A message ended, and before these bytes it alone is still to be answered.
pub record IsEnded (n : ℕ) (all rest : List ℕ) (server : Server) (before now : Outside) : Type 0 where
  pub done : List (List ℕ)
  pub bodies : (messages all).bodies ≡ done ++ server.framer.body ∷ (messages rest).bodies
  pub left : (messages all).rest ≡ (messages rest).rest
  pub begun : server.begin + 4 + length server.framer.body + length rest ≡ length all
  pub few : length all < most_input
  pub short : length server.framer.body < 2 ^ 32
  pub kept : server.framer.kept ≡ []
  pub replies : HasReplied n done server.desk server.out.items server.begin server.faulted before now

abbrev pub IsSomeEnded : Server → Type 0
IsSomeEnded server =
    (n : ℕ) × (all : List ℕ) × (rest : List ℕ) × (before : Outside) × (now : Outside) × IsEnded n all rest server before now

-- All messages of the bytes were answered; behind them a length isn't in range.
pub record IsAtBad (n : ℕ) (all : List ℕ) (server : Server) (before now : Outside) : Type 0 where
  pub bad : has_bad_length (messages all).rest ≡ true
  pub begun : server.begin + length (messages all).rest ≡ length all
  pub replies : HasReplied n (messages all).bodies server.desk server.out.items server.begin server.faulted before now

-- The first messages of the bytes were answered, and a prefix of their replies was written.
pub record IsCut (n : ℕ) (all : List ℕ) (before now : Outside) : Type 0 where
  pub count : ℕ
  pub output : List ℕ
  pub events : List DeviceEvent
  pub replied : AreReplied n (new_device n) (take count (messages all).bodies) output events
  pub written : AppendsFront before.written now.written output
  pub counted : IsCounted events before.runs now.runs before.faults now.faults

-- why serving stops
abbrev pub IsStopped : ℕ → List ℕ → Server → Outside → Outside → Stop → Type 0
IsStopped n all server before now stops.BadLength = IsAtBad n all server before now
IsStopped n all server before now stops.WriteFault = IsCut n all before now
IsStopped n all server before now stops.NoMemory = IsCut n all before now
