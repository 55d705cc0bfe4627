-- Worked messages: what a device of 16 slots replies to short inputs.
use Rattle.std.specs.Prelude.{ℕ, ◌≡◌, true, false, map, List, [], ◌∷◌, ◌++◌}
use Rattle.vc_model.specs.CoderRows.{listed_coder}
use Rattle.vc_model.specs.Messages.{messages, fed, more, whole, bad_length, Feeding, fed_pieces}
use Rattle.vc_model.specs.Wire.{Replies, replies_of_slot}

abbrev pub RepliesTo : List ℕ → List ℕ → List ℕ → Type 0
RepliesTo input output rest = Replies (listed_coder [] []) 16 input output × ((messages input).rest ≡ rest)

-- nothing
abbrev pub NothingAsked : Type 0
NothingAsked = RepliesTo [] [] []

-- Open of a copying context, twice
abbrev pub open_message : List ℕ
open_message = 0 ∷ 0 ∷ 0 ∷ 9 ∷ 1 ∷ 0 ∷ 0 ∷ 0 ∷ 0 ∷ 0 ∷ 0 ∷ 0 ∷ 0 ∷ []

abbrev pub OpenedTwice : Type 0
OpenedTwice = RepliesTo (open_message ++ open_message) (0 ∷ 0 ∷ 0 ∷ 1 ∷ 0 ∷ 0 ∷ 0 ∷ 0 ∷ 5 ∷ 0x40 ∷ 0 ∷ 0 ∷ 0 ∷ 0x10 ∷ []) []

-- Poll of a closed slot
abbrev pub poll_message : List ℕ
poll_message = 0 ∷ 0 ∷ 0 ∷ 5 ∷ 0x17 ∷ 0 ∷ 0 ∷ 0 ∷ 1 ∷ []

abbrev pub poll_reply : List ℕ
poll_reply = 0 ∷ 0 ∷ 0 ∷ 5 ∷ 0x40 ∷ 0 ∷ 0 ∷ 0 ∷ 0x19 ∷ []

abbrev pub ClosedPolled : Type 0
ClosedPolled = RepliesTo poll_message poll_reply []

-- a claim that finds nothing, and a body out of the table
abbrev pub NoneAndBad : Type 0
NoneAndBad =
    RepliesTo (0 ∷ 0 ∷ 0 ∷ 5 ∷ 0x20 ∷ 0 ∷ 0 ∷ 0 ∷ 0 ∷ 0 ∷ 0 ∷ 0 ∷ 1 ∷ 255 ∷ []) (0 ∷ 0 ∷ 0 ∷ 1 ∷ 0x51 ∷ 0 ∷ 0 ∷ 0 ∷ 1 ∷ 0x7f ∷ []) []

-- a length out of range behind a message, and a length that is cut
abbrev pub BadRest : Type 0
BadRest =
    RepliesTo (poll_message ++ (0 ∷ 0 ∷ 0 ∷ 0 ∷ [])) poll_reply (0 ∷ 0 ∷ 0 ∷ 0 ∷ []) × RepliesTo (0 ∷ 0 ∷ 0 ∷ []) [] (0 ∷ 0 ∷ 0 ∷ [])

-- one copying context: Open, ReqBufs of both sides, QBuf of both, StreamOn of both, claim, finish, DqBuf of both
abbrev pub copy_messages : List ℕ
copy_messages =
    open_message
    ++ ((0 ∷ 0 ∷ 0 ∷ 13 ∷ 7 ∷ 0 ∷ 0 ∷ 0 ∷ 0 ∷ 0 ∷ 0 ∷ 0 ∷ 0 ∷ 0 ∷ 0 ∷ 0 ∷ 1 ∷ [])
    ++ ((0 ∷ 0 ∷ 0 ∷ 13 ∷ 7 ∷ 0 ∷ 0 ∷ 0 ∷ 0 ∷ 0 ∷ 0 ∷ 0 ∷ 1 ∷ 0 ∷ 0 ∷ 0 ∷ 1 ∷ [])
    ++ ((0 ∷ 0 ∷ 0 ∷ 19 ∷ 9 ∷ 0 ∷ 0 ∷ 0 ∷ 0 ∷ 0 ∷ 0 ∷ 0 ∷ 0 ∷ 0 ∷ 0 ∷ 0 ∷ 0 ∷ 0 ∷ 0 ∷ 0 ∷ 7 ∷ 0 ∷ 255 ∷ [])
    ++ ((0 ∷ 0 ∷ 0 ∷ 9 ∷ 10 ∷ 0 ∷ 0 ∷ 0 ∷ 0 ∷ 0 ∷ 0 ∷ 0 ∷ 0 ∷ [])
    ++ ((0 ∷ 0 ∷ 0 ∷ 9 ∷ 13 ∷ 0 ∷ 0 ∷ 0 ∷ 0 ∷ 0 ∷ 0 ∷ 0 ∷ 0 ∷ [])
    ++ ((0 ∷ 0 ∷ 0 ∷ 9 ∷ 13 ∷ 0 ∷ 0 ∷ 0 ∷ 0 ∷ 0 ∷ 0 ∷ 0 ∷ 1 ∷ [])
    ++ ((0 ∷ 0 ∷ 0 ∷ 5 ∷ 0x20 ∷ 0 ∷ 0 ∷ 0 ∷ 0 ∷ [])
    ++ ((0 ∷ 0 ∷ 0 ∷ 5 ∷ 0x21 ∷ 0 ∷ 0 ∷ 0 ∷ 0 ∷ [])
    ++ ((0 ∷ 0 ∷ 0 ∷ 9 ∷ 11 ∷ 0 ∷ 0 ∷ 0 ∷ 0 ∷ 0 ∷ 0 ∷ 0 ∷ 1 ∷ [])
    ++ (0 ∷ 0 ∷ 0 ∷ 9 ∷ 11 ∷ 0 ∷ 0 ∷ 0 ∷ 0 ∷ 0 ∷ 0 ∷ 0 ∷ 0 ∷ []))))))))))

abbrev pub done_reply : List ℕ
done_reply = 0 ∷ 0 ∷ 0 ∷ 1 ∷ 0 ∷ []

abbrev pub count_reply : List ℕ
count_reply = 0 ∷ 0 ∷ 0 ∷ 5 ∷ 3 ∷ 0 ∷ 0 ∷ 0 ∷ 1 ∷ []

-- the reply with buffer 0, which has two bytes and the stamp 7, before its payload
abbrev pub taken_reply : ℕ → List ℕ
taken_reply length =
    0 ∷ 0 ∷ 0 ∷ length ∷ 5 ∷ 0 ∷ 0 ∷ 0 ∷ 0 ∷ 0 ∷ 0 ∷ 0 ∷ 2 ∷ 0 ∷ 0 ∷ 0 ∷ 0 ∷ 0 ∷ 0 ∷ 0 ∷ 0 ∷ 0 ∷ 0 ∷ 0 ∷ 0 ∷ 0 ∷ 0 ∷ 0 ∷ 0 ∷ 0 ∷ 0 ∷ 0 ∷ 7 ∷ []

abbrev pub copy_replies : List ℕ
copy_replies =
    done_reply
    ++ (count_reply
    ++ (count_reply
    ++ (done_reply
    ++ (done_reply
    ++ (done_reply ++ (done_reply ++ ((0 ∷ 0 ∷ 0 ∷ 5 ∷ 0x50 ∷ 0 ∷ 0 ∷ 0 ∷ 0 ∷ []) ++ ((0 ∷ 0 ∷ 0 ∷ 6 ∷ 0x53 ∷ 0 ∷ 0 ∷ 0 ∷ 0 ∷ 0 ∷ []) ++ (taken_reply 31 ++ ((0 ∷ 255 ∷ []) ++ taken_reply 29))))))))))

abbrev pub OneCopyReplied : Type 0
OneCopyReplied = RepliesTo copy_messages copy_replies []

-- the framer: a message in two pieces, and a length out of range
abbrev pub FedInPieces : Type 0
FedInPieces =
    (fed [] (0 ∷ 0 ∷ 0 ∷ []) ≡ record { taken = 3; kept = 0 ∷ 0 ∷ 0 ∷ []; told = more })
    × (fed (0 ∷ 0 ∷ 0 ∷ []) (2 ∷ 7 ∷ 8 ∷ 9 ∷ []) ≡ record { taken = 3; kept = []; told = whole (7 ∷ 8 ∷ []) })
    × (fed (0 ∷ 0 ∷ 0 ∷ []) (0 ∷ 7 ∷ []) ≡ record { taken = 1; kept = 0 ∷ 0 ∷ 0 ∷ 0 ∷ []; told = bad_length })
    × (fed (0 ∷ 0 ∷ 0 ∷ 0 ∷ []) (7 ∷ []) ≡ record { taken = 0; kept = 0 ∷ 0 ∷ 0 ∷ 0 ∷ []; told = bad_length })

-- two slots, a claim that finds nothing and a body out of the table: each slot has its own reply, and the others are of none
abbrev pub two_slots_asked : List ℕ
two_slots_asked =
    open_message ++ ((0 ∷ 0 ∷ 0 ∷ 5 ∷ 0x20 ∷ 0 ∷ 0 ∷ 0 ∷ 0 ∷ []) ++ (poll_message ++ (0 ∷ 0 ∷ 0 ∷ 1 ∷ 255 ∷ [])))

abbrev pub two_slots_replied : List ℕ
two_slots_replied = done_reply ++ ((0 ∷ 0 ∷ 0 ∷ 1 ∷ 0x51 ∷ []) ++ (poll_reply ++ (0 ∷ 0 ∷ 0 ∷ 1 ∷ 0x7f ∷ [])))

abbrev pub SlotsOfReplies : Type 0
SlotsOfReplies =
    RepliesTo two_slots_asked two_slots_replied []
    × (replies_of_slot 0 two_slots_asked two_slots_replied ≡ done_reply)
    × (replies_of_slot 1 two_slots_asked two_slots_replied ≡ poll_reply)
    × (replies_of_slot 0 copy_messages copy_replies ≡ copy_replies)
    × (replies_of_slot 1 copy_messages copy_replies ≡ [])

-- a message and a length out of range, in one piece and in pieces of one byte
abbrev pub FedByteByByte : Type 0
FedByteByByte =
    let bytes = poll_message ++ (0 ∷ 0 ∷ 0 ∷ 0 ∷ 7 ∷ []) in
    let told : Feeding = record { bodies = (0x17 ∷ 0 ∷ 0 ∷ 0 ∷ 1 ∷ []) ∷ []; kept = 0 ∷ 0 ∷ 0 ∷ 0 ∷ []; is_bad = true } in
    (fed_pieces [] (bytes ∷ []) ≡ told)
    × (fed_pieces [] (map (λ b. b ∷ []) bytes) ≡ told)
    × (fed_pieces [] (poll_message ∷ (0 ∷ []) ∷ []) ≡ record { bodies = (0x17 ∷ 0 ∷ 0 ∷ 0 ∷ 1 ∷ []) ∷ []; kept = 0 ∷ []; is_bad = false })
