-- The buffers of a queue, and what each call on buffers does to one queue. Each call has its refusal, the first test that
-- applies, and the queue after it. The calls are those of the section "Streaming I/O (Memory Mapping)" and of the pages of
-- their ioctls in the Linux userspace API documentation; docs/DEVICE.md says where they differ.
use Rattle.std.specs.Prelude.{ℕ, zero, suc, ◌+◌, ◌-◌, min, Bool, true, false, not, ◌&&◌, ◌||◌, if◌then◌else◌, ◌==◌, nat_lt, nat_le, bit_and, bit_or, Option, Some, None, List, [], ◌∷◌, ◌++◌, map, length}
use Rattle.std.specs.List.{find, filter, list_any, list_all}
use Rattle.vc_base.specs.declared.Side.{Side}
use Rattle.vc_base.specs.declared.Side.TheVariants.{Out, Cap}
use Rattle.vc_base.specs.declared.Stamp.{Stamp}
use Rattle.vc_base.specs.declared.Errno.{Errno}
use Rattle.vc_base.specs.declared.Errno.TheVariants.{Again, Busy, Inval, Pipe}
use Rattle.vc_base.specs.declared.Reply.{Reply}
use Rattle.vc_base.specs.declared.Reply.TheVariants.{Info, Taken}
use Rattle.vc_base.specs.Limits.{queued_flag, done_flag, error_flag, most_buffers, longest_buffer}

-- One buffer (struct v4l2_buffer). `bytes` is the first `used` bytes of the payload, from the call that queues an OUTPUT
-- buffer or the step that puts a CAPTURE buffer on done, until the buffer is held again.
pub record Buffer : Type 0 where
  pub index : ℕ
  pub size : ℕ
  pub used : ℕ
  pub bytes : List ℕ
  pub stamp : Stamp
  pub flags : ℕ
  pub seq : ℕ
  pub ordinal : ℕ
  pub cursor : ℕ

-- One queue: its buffers by the place that they are in, each list by age. They are with the user, queued, in the running
-- job, or done. `next_seq` is the sequence number of the next buffer that goes to done, and `next_ordinal` says how many
-- buffers were queued since Open.
pub record QueueState : Type 0 where
  pub side : Side
  pub streams : Bool
  pub held : List Buffer
  pub ready : List Buffer
  pub job : List Buffer
  pub done : List Buffer
  pub next_seq : ℕ
  pub next_ordinal : ℕ

abbrev pub is_out : Side → Bool
is_out Out = true
is_out Cap = false

abbrev pub is_empty : {A : Type 0} → List A → Bool
is_empty [] = true
is_empty (x ∷ xs) = false

-- the stamp 0
abbrev pub zero_stamp : Stamp
zero_stamp = record { 0 = 0 }

-- a buffer that is held by the user: of it only the index and the size count
abbrev pub held_buffer : ℕ → ℕ → Buffer
held_buffer index size =
    record { index = index; size = size; used = 0; bytes = []; stamp = zero_stamp; flags = 0; seq = 0; ordinal = 0; cursor = 0 }

-- the buffer, held again
abbrev pub held_again : Buffer → Buffer
held_again b = held_buffer b.index b.size

-- `count` buffers of one size, the first with the index `first`, all held
abbrev pub new_buffers : ℕ → ℕ → ℕ → List Buffer
new_buffers size first zero = []
new_buffers size first (suc count) = held_buffer first size ∷ new_buffers size (first + 1) count

-- a queue at Open
abbrev pub new_queue : Side → QueueState
new_queue side =
    record { side = side; streams = false; held = []; ready = []; job = []; done = []; next_seq = 0; next_ordinal = 0 }

-- all buffers of the queue
abbrev pub buffers : QueueState → List Buffer
buffers q = q.held ++ (q.ready ++ (q.job ++ q.done))

-- the number of buffers of the queue
abbrev pub buffer_count : QueueState → ℕ
buffer_count q = length q.held + (length q.ready + (length q.job + length q.done))

-- the buffer of a list that has the index
abbrev pub with_index : ℕ → List Buffer → Option Buffer
with_index index bs = find (λ b. b.index == index) bs

-- the first test that applies decides: the errno where the test is true, else what the later tests say
abbrev pub refuse_if : Bool → Errno → Option Errno → Option Errno
refuse_if true errno later = Some errno
refuse_if false errno later = later

-- ReqBufs (VIDIOC_REQBUFS)

abbrev pub reqbufs_refusal : QueueState → Option Errno
reqbufs_refusal q = refuse_if q.streams Busy None

abbrev pub reqbufs_after : QueueState → ℕ → ℕ → QueueState
reqbufs_after q count size =
    record q { held = new_buffers size 0 (min count most_buffers); ready = []; job = []; done = [] }

-- CreateBufs (VIDIOC_CREATE_BUFS, with a length in place of a format)

abbrev pub create_refusal : QueueState → ℕ → ℕ → Option Errno
create_refusal q count size =
    refuse_if (nat_lt size 1 || nat_lt longest_buffer size) Inval
    (refuse_if (nat_lt 0 count && (buffer_count q == most_buffers)) Inval None)

-- how many buffers CreateBufs adds
abbrev pub created : QueueState → ℕ → ℕ
created q count = min count (most_buffers - buffer_count q)

abbrev pub create_after : QueueState → ℕ → ℕ → QueueState
create_after q count size = record q { held = q.held ++ new_buffers size (buffer_count q) (created q count) }

-- QueryBuf (VIDIOC_QUERYBUF)

abbrev pub info : ℕ → Buffer → Reply
info flags b = Info b.index b.size flags

abbrev pub info_of : Option Buffer → (Buffer → Reply) → Option Reply → Option Reply
info_of (Some b) reply other = Some (reply b)
info_of None reply other = other

-- what QueryBuf tells of the buffer with the index: none where the queue has no such buffer
abbrev pub querybuf_reply : QueueState → ℕ → Option Reply
querybuf_reply q index =
    info_of (with_index index q.held) (info 0)
    (info_of (with_index index q.ready) (info queued_flag)
    (info_of (with_index index q.job) (info queued_flag)
    (info_of (with_index index q.done) (λ b. info (bit_or done_flag b.flags) b) None)))

-- QBuf (VIDIOC_QBUF)

-- the refusals that rest on the buffer
abbrev pub held_refusal : Side → Option Buffer → ℕ → ℕ → Option Errno
held_refusal side None used least = Some Inval
held_refusal side (Some b) used least =
    refuse_if (is_out side && nat_lt b.size used) Inval (refuse_if (nat_lt b.size least) Inval None)

abbrev pub qbuf_refusal : QueueState → ℕ → ℕ → ℕ → Option Errno
qbuf_refusal q index used least = held_refusal q.side (with_index index q.held) used least

-- the buffer as it is queued: on CAPTURE used bytes and stamp are ignored
abbrev pub queued_buffer : Side → Buffer → ℕ → Stamp → List ℕ → ℕ → Buffer
queued_buffer Out b used stamp bytes ordinal =
    record b { used = used; bytes = bytes; stamp = stamp; ordinal = ordinal }
queued_buffer Cap b used stamp bytes ordinal = record b { ordinal = ordinal }

-- the queue with this buffer at the tail of ready
abbrev pub queue_held : QueueState → ℕ → Option Buffer → ℕ → Stamp → List ℕ → QueueState
queue_held q index None used stamp bytes = q
queue_held q index (Some b) used stamp bytes =
    record q { held = filter (λ h. not (h.index == index)) q.held; ready = q.ready ++ queued_buffer q.side b used stamp bytes q.next_ordinal ∷ []; next_ordinal = q.next_ordinal + 1 }

abbrev pub qbuf_after : QueueState → ℕ → ℕ → Stamp → List ℕ → QueueState
qbuf_after q index used stamp bytes = queue_held q index (with_index index q.held) used stamp bytes

-- DqBuf (VIDIOC_DQBUF)

abbrev pub dqbuf_refusal : QueueState → Bool → Option Errno
dqbuf_refusal q ended =
    refuse_if (not q.streams) Inval (refuse_if ended Pipe (refuse_if (is_empty q.done) Again None))

-- what DqBuf tells of the buffer that it takes
abbrev pub taken : Buffer → Reply
taken b = Taken b.index b.used b.flags b.seq b.stamp

-- the queue after the front of the list was taken from done
abbrev pub take_front : QueueState → List Buffer → QueueState
take_front q [] = q
take_front q (b ∷ rest) = record q { done = rest; held = q.held ++ held_again b ∷ [] }

abbrev pub dqbuf_after : QueueState → QueueState
dqbuf_after q = take_front q q.done

-- StreamOn (VIDIOC_STREAMON), and the test of START

-- every ready buffer, and at least one buffer of the queue, has at least that size
abbrev pub long_enough : QueueState → ℕ → Bool
long_enough q least =
    list_all (λ b. nat_le least b.size) q.ready && list_any (λ b. nat_le least b.size) (buffers q)

abbrev pub streamon_refusal : QueueState → ℕ → Option Errno
streamon_refusal q least =
    if q.streams then None else refuse_if (buffer_count q == 0) Inval (refuse_if (not (is_out q.side) && not (long_enough q least)) Inval None)

abbrev pub streamon_after : QueueState → QueueState
streamon_after q = record q { streams = true }

-- StreamOff (VIDIOC_STREAMOFF)

abbrev pub streamoff_after : QueueState → QueueState
streamoff_after q =
    record q { streams = false; held = (q.held ++ map held_again q.ready) ++ map held_again q.done; ready = []; done = []; next_seq = 0 }

-- Claim and finish

-- the front of the list goes from ready into the job
abbrev pub lend_front : QueueState → List Buffer → QueueState
lend_front q [] = q
lend_front q (b ∷ rest) = record q { ready = rest; job = b ∷ [] }

abbrev pub lend_after : QueueState → QueueState
lend_after q = lend_front q q.ready

-- the buffer of the job goes to the front of ready, with this cursor
abbrev pub give_back_from : QueueState → List Buffer → ℕ → List ℕ → QueueState
give_back_from q [] cursor bytes = q
give_back_from q (b ∷ rest) cursor bytes =
    record q { ready = record b { cursor = cursor; bytes = bytes } ∷ q.ready; job = [] }

abbrev pub give_back_after : QueueState → ℕ → List ℕ → QueueState
give_back_after q cursor bytes = give_back_from q q.job cursor bytes

-- of an OUTPUT buffer with the flag ERROR only the size of the payload is known
abbrev pub known_bytes : Side → ℕ → List ℕ → List ℕ
known_bytes Out flags bytes = if bit_and flags error_flag == error_flag then [] else bytes
known_bytes Cap flags bytes = bytes

-- the buffer of the job goes to the tail of done
abbrev pub retire_from : QueueState → List Buffer → ℕ → List ℕ → ℕ → Stamp → QueueState
retire_from q [] used bytes flags stamp = q
retire_from q (b ∷ rest) used bytes flags stamp =
    record q { job = []; done = q.done ++ record b { used = used; bytes = known_bytes q.side flags bytes; flags = flags; stamp = stamp; seq = q.next_seq } ∷ []; next_seq = q.next_seq + 1 }

abbrev pub retire_after : QueueState → ℕ → List ℕ → ℕ → Stamp → QueueState
retire_after q used bytes flags stamp = retire_from q q.job used bytes flags stamp

-- The payload of a buffer in the job lies outside the queue: the queue without its bytes.
abbrev pub without_bytes : Buffer → Buffer
without_bytes b = record b { bytes = [] }

abbrev pub without_job_bytes : QueueState → QueueState
without_job_bytes q = record q { job = map without_bytes q.job }
