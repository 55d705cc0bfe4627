-- Where the payloads of held buffers are: the payloads are there exactly for the held buffers, each of its buffer's length.
use Rattle.std.proofs.Common.{ℕ, ◌≡◌, ◌<◌, ◌≤◌, ◌+◌, nat_lt, ◌==◌, Bool, true, false, cond, List, [], ◌∷◌, ◌++◌, length, refl, subst, arith}
use borrow.Author.Tests.{ltb-true}
use Rattle.std.specs.Prelude.{Option, Some, None, is_some}
use Rattle.std.specs.Option.{option_map}
use Rattle.vc_base.specs.declared.Side.{Side}
use Rattle.vc_base.specs.declared.Side.TheVariants.{Out, Cap}
use Rattle.vc_base.specs.Buffers.{Buffer, QueueState, with_index, buffers, buffer_count}
use Rattle.vc_model.specs.Coder.{the_coder}
use Rattle.vc_model.specs.Context.{Context, Slot}
use Rattle.vc_model.specs.Sound.{count_index, OnceEach, IsSound, IsSoundSlot}
use Rattle.vc_model.proofs.FormatsAndJobsFit.{always_sound}
use Rattle.vc_queue.specs.Holds.{HoldState, held_payload}
use Rattle.vc_context.specs.Payloads.{FitsSlot, FitsContext}
use Rattle.vc_port.specs.Payloads.{slot_after}
use Rattle.vc_port.specs.Laws.{held_length, HeldIsThere}

pub held_in : (s : Slot) (hold : HoldState) (side : Side) (index : ℕ) → IsSoundSlot s → FitsSlot s hold → index < 32 → option_map length (held_payload hold side index) ≡ held_length s side index
held_in None hold Out index sound fits few = fits.out index few
held_in None hold Cap index sound fits few = fits.cap index few
held_in (Some c) hold Out index sound fits few =
    subst (λ (side : Side). option_map length (held_payload hold side index) ≡ held_length (Some c) Out index) sound.firm.out_side (fits.out index few)
held_in (Some c) hold Cap index sound fits few =
    subst (λ (side : Side). option_map length (held_payload hold side index) ≡ held_length (Some c) Cap index) sound.firm.cap_side (fits.cap index few)

pub held_is_there : HeldIsThere
held_is_there events hold side index fits few =
    held_in (slot_after events) hold side index (always_sound the_coder events) fits few

-- a buffer that is in the list counts
counts_at : (t : Bool) (b : Buffer) (o : Option Buffer) (n : ℕ) → (is_some o ≡ true → 1 ≤ n) → is_some (cond t (Some b) o) ≡ true → 1 ≤ cond t 1 0 + n
counts_at true b o n rest h = omega arith
counts_at false b o n rest h = omega (arith, rest h)

counts_one : (index : ℕ) (bs : List Buffer) → is_some (with_index index bs) ≡ true → 1 ≤ count_index bs index
counts_one index [] h = absurd (cc)
counts_one index (b ∷ bs) h =
    counts_at (b.index == index) b (with_index index bs) (count_index bs index) (counts_one index bs) h

count_more : (bs cs : List Buffer) (index : ℕ) → count_index bs index ≤ count_index (bs ++ cs) index
count_more [] cs index = omega arith
count_more (b ∷ bs) cs index = omega (arith, count_more bs cs index)

-- the indices of a queue are below its number of buffers
below_at : (t : Bool) (index most count : ℕ) → nat_lt index most ≡ t → count ≡ cond t 1 0 → 1 ≤ count → index < most
below_at true index most count e c h = omega (arith, ltb-true index most e)
below_at false index most count e c h = absurd (omega arith)

pub index_few : (q : QueueState) (index : ℕ) → OnceEach q → buffer_count q ≤ 32 → is_some (with_index index q.held) ≡ true → index < 32
index_few q index once few h =
    let one : 1 ≤ count_index q.held index = counts_one index q.held h in
    let more : count_index q.held index ≤ count_index (buffers q) index = count_more q.held (q.ready ++ (q.job ++ q.done)) index in
    let below : index < buffer_count q = below_at (nat_lt index (buffer_count q)) index (buffer_count q) (count_index (buffers q) index) refl (once index) (omega arith) in
    omega (arith, below, few)

there : {A B : Type 0} (f : A → ℕ) (g : B → ℕ) (x : Option A) (y : Option B) → option_map f x ≡ option_map g y → is_some y ≡ true → is_some x ≡ true
there f g (Some a) y e h = refl
there f g None (Some b) e h = absurd (cc)
there f g None None e h = absurd (cc)

-- the payload of a held CAPTURE buffer is there
pub held_cap : (c : Context) (hold : HoldState) (index : ℕ) → IsSound c → FitsContext c hold → is_some (with_index index c.cap.held) ≡ true → is_some (held_payload hold Cap index) ≡ true
held_cap c hold index sound fits h =
    let few : index < 32 = index_few c.cap index sound.firm.cap.once sound.fit.few_cap h in
    there length (λ (b : Buffer). b.size) (held_payload hold Cap index) (with_index index c.cap.held) (held_in (Some c) hold Cap index sound fits few) h
