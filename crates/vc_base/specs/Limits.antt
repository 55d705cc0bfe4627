-- The numbers of the device, each with its name: flags, limits, and the numbers by which events, commands and controls
-- are asked for. The flags and those of the kernel's headers have the kernel's values; all others are our own
-- (docs/DEVICE.md, docs/FORMAT.md).
use Rattle.std.specs.Prelude.{ℕ}

-- Flags of a buffer ("Buffer Flags")

-- ready or in the job (V4L2_BUF_FLAG_QUEUED)
abbrev pub queued_flag : ℕ
queued_flag = 2

-- on done (V4L2_BUF_FLAG_DONE)
abbrev pub done_flag : ℕ
done_flag = 4

-- an I frame (V4L2_BUF_FLAG_KEYFRAME)
abbrev pub keyframe_flag : ℕ
keyframe_flag = 8

-- a P frame (V4L2_BUF_FLAG_PFRAME)
abbrev pub pframe_flag : ℕ
pframe_flag = 16

-- the data are damaged, or the engine failed (V4L2_BUF_FLAG_ERROR)
abbrev pub error_flag : ℕ
error_flag = 64

-- the last buffer of a drain, or before a new resolution (V4L2_BUF_FLAG_LAST)
abbrev pub last_flag : ℕ
last_flag = 1048576

-- Buffers

-- the most buffers of a queue (VIDEO_MAX_FRAME)
abbrev pub most_buffers : ℕ
most_buffers = 32

-- the bytes of a frame's header
abbrev pub header_size : ℕ
header_size = 44

-- the largest body of a frame, and the longest raw picture: 4,096 by 2,160 samples of each of two bytes
abbrev pub most_bytes : ℕ
most_bytes = 17694720

-- the longest buffer: a coded frame of the largest picture, header included
abbrev pub longest_buffer : ℕ
longest_buffer = 17694764

-- the length of a copying context's buffers where none is asked for
abbrev pub usual_size : ℕ
usual_size = 4096

-- the least length of a decoder's OUTPUT buffers
abbrev pub least_coded_size : ℕ
least_coded_size = 64

-- Events ("VIDIOC_DQEVENT")

-- the end of a drain (V4L2_EVENT_EOS)
abbrev pub eos_event : ℕ
eos_event = 2

-- a new resolution (V4L2_EVENT_SOURCE_CHANGE)
abbrev pub source_change_event : ℕ
source_change_event = 5

-- what a new resolution says has changed (V4L2_EVENT_SRC_CH_RESOLUTION)
abbrev pub resolution_change : ℕ
resolution_change = 1

-- the most events that are pending
abbrev pub most_events : ℕ
most_events = 16

-- Commands ("VIDIOC_DECODER_CMD", "VIDIOC_ENCODER_CMD")

-- V4L2_DEC_CMD_START, V4L2_ENC_CMD_START
abbrev pub start_command : ℕ
start_command = 0

-- V4L2_DEC_CMD_STOP, V4L2_ENC_CMD_STOP
abbrev pub stop_command : ℕ
stop_command = 1

-- Controls (docs/DEVICE.md, "What is our own")

-- frames from one I frame to the next (V4L2_CID_MPEG_VIDEO_GOP_SIZE)
abbrev pub gop_control : ℕ
gop_control = 1

-- the quantiser of I frames
abbrev pub iqp_control : ℕ
iqp_control = 2

-- the quantiser of P frames
abbrev pub pqp_control : ℕ
pqp_control = 3

-- the fewest CAPTURE buffers of a decoder (V4L2_CID_MIN_BUFFERS_FOR_CAPTURE)
abbrev pub least_capture_control : ℕ
least_capture_control = 4

-- the fewest OUTPUT buffers of an encoder (V4L2_CID_MIN_BUFFERS_FOR_OUTPUT)
abbrev pub least_output_control : ℕ
least_output_control = 5

-- the most frames from one I frame to the next
abbrev pub most_gop : ℕ
most_gop = 16

-- the coarsest quantiser
abbrev pub most_quantiser : ℕ
most_quantiser = 31

-- The device and the program

-- the most slots of a device
abbrev pub most_slots : ℕ
most_slots = 1024

-- the most workers of a device
abbrev pub most_workers : ℕ
most_workers = 64

-- the workers that a script, a message or the command line may name
abbrev pub script_workers : ℕ
script_workers = 16

-- the longest payload of a script line
abbrev pub longest_payload : ℕ
longest_payload = 17694720

-- the longest script
abbrev pub longest_script : ℕ
longest_script = 1048576

-- the longest body of a message of the wire: one byte, a slot, an index and a stamp before the payload of the longest buffer
abbrev pub longest_message : ℕ
longest_message = 17694781
