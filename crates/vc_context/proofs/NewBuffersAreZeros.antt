-- What ReqBufs and CreateBufs of a queue tell, and that the payloads of the new buffers are zeros where they tell of any.
use Rattle.std.proofs.Common.{ℕ, ◌≡◌, ◌<◌, Bool, true, false, Option, Some, None, Result, Ok, Err, ap, ◌∙◌, refl, sym, subst}
use Rattle.std.specs.Prelude.{min, OnOk}
use Rattle.vc_base.specs.declared.Side.{Side}
use Rattle.vc_base.specs.declared.Errno.{Errno}
use Rattle.vc_base.specs.declared.Errno.TheVariants.{NoMem}
use Rattle.vc_base.specs.declared.Call.{Call}
use Rattle.vc_base.specs.declared.Call.TheVariants.{ReqBufs, CreateBufs}
use Rattle.vc_base.specs.declared.Reply.{Reply}
use Rattle.vc_base.specs.declared.Reply.TheVariants.{Count, Created, Refused}
use Rattle.vc_base.specs.Buffers.{QueueState, buffer_count, created, create_refusal, create_after}
use Rattle.vc_base.specs.Limits.{most_buffers}
use Rattle.vc_model.specs.Context.{Context, sizeimage}
use Rattle.vc_queue.specs.Answers.{answer_of}
use Rattle.vc_queue.specs.Growing.{with_memory, AnswersWithMemory, AreZero}
use Rattle.vc_queue.specs.Holds.{HoldState}
use Rattle.vc_context.specs.Contexts.{told_of}
use Rattle.vc_context.specs.Payloads.{AreNewZeros, AsksForBuffers}

-- the value of a call that was not refused
value_is : {A : Type 0} (o : Option Errno) (found : Bool) (value x : A) → ◌≡◌ {A = Result A Errno} (Ok x) (answer_of (with_memory found o) value) → x ≡ value
value_is (Some e) true value x h = cc
value_is (Some e) false value x h = cc
value_is None true value x h = cc
value_is None false value x h = cc

-- where buffers were added, the first new one comes behind all that were there
pub index_is :
    (q new : QueueState) (count size first number : ℕ)
    → AnswersWithMemory {A = ℕ × ℕ} (create_refusal q count size) (buffer_count q, created q count) (create_after q count size) (Ok (first, number)) q new
    → first ≡ buffer_count q
index_is q new count size first number a =
    ap (λ (y : ℕ × ℕ). y.0) (value_is (create_refusal q count size) a.found (buffer_count q, created q count) (first, number) a.answer)

pub counted_zeros :
    (c : Context) (side : Side) (count size : ℕ) (o : Option Errno) (found : Bool) (r : Result ℕ Errno) (told : Reply) (hold : HoldState)
    → r ≡ answer_of (with_memory found o) (min count most_buffers) → told ≡ told_of Count r → size ≡ sizeimage c side
    → OnOk r (AreZero side 0 (min count most_buffers) size hold) → AreNewZeros c (ReqBufs side count) told hold
counted_zeros c side count size o found r told hold h t e z = subst (λ (x : Reply). AreNewZeros c (ReqBufs side count) x hold) (sym t) (by r h z)
  where
    by :
        (x : Result ℕ Errno) → x ≡ answer_of (with_memory found o) (min count most_buffers) → OnOk x (AreZero side 0 (min count most_buffers) size hold)
        → AreNewZeros c (ReqBufs side count) (told_of Count x) hold
    by (Ok n) g y =
        subst (λ (s : ℕ). AreZero side 0 n s hold) e
        (subst (λ (k : ℕ). AreZero side 0 k size hold) (sym (value_is o found (min count most_buffers) n g)) y)
    by (Err x) g y = tt

pub created_zeros :
    (c : Context) (side : Side) (q : QueueState) (count size : ℕ) (o : Option Errno) (found : Bool) (r : Result (ℕ × ℕ) Errno) (told : Reply) (hold : HoldState)
    → r ≡ answer_of (with_memory found o) (buffer_count q, created q count) → told ≡ told_of (λ x. Created x.0 x.1) r
    → OnOk r (AreZero side (buffer_count q) (created q count) size hold) → AreNewZeros c (CreateBufs side count size) told hold
created_zeros c side q count size o found r told hold h t z = subst (λ (x : Reply). AreNewZeros c (CreateBufs side count size) x hold) (sym t) (by r h z)
  where
    by :
        (x : Result (ℕ × ℕ) Errno) → x ≡ answer_of (with_memory found o) (buffer_count q, created q count)
        → OnOk x (AreZero side (buffer_count q) (created q count) size hold)
        → AreNewZeros c (CreateBufs side count size) (told_of (λ (y : ℕ × ℕ). Created y.0 y.1) x) hold
    by (Ok x) g y =
        subst (λ (k : ℕ × ℕ). AreZero side k.0 k.1 size hold) (sym (value_is o found (buffer_count q, created q count) x g)) y
    by (Err x) g y = tt

-- a call that tells of want of memory asked a queue for some, where the queue did
pub counted_asked : (count : ℕ) (r : Result ℕ Errno) (told : Reply) → told ≡ told_of Count r → (r ≡ Err NoMem → 0 < count) → told ≡ Refused NoMem → 0 < count
counted_asked count r told t a n = by r (sym t ∙ n) a
  where
    by : (x : Result ℕ Errno) → told_of Count x ≡ Refused NoMem → (x ≡ Err NoMem → 0 < count) → 0 < count
    by (Ok x) e f = cc
    by (Err x) e f = f cc

pub created_asked :
    (count : ℕ) (r : Result (ℕ × ℕ) Errno) (told : Reply) → told ≡ told_of (λ x. Created x.0 x.1) r → (r ≡ Err NoMem → 0 < count) → told ≡ Refused NoMem → 0 < count
created_asked count r told t a n = by r (sym t ∙ n) a
  where
    by : (x : Result (ℕ × ℕ) Errno) → told_of (λ (y : ℕ × ℕ). Created y.0 y.1) x ≡ Refused NoMem → (x ≡ Err NoMem → 0 < count) → 0 < count
    by (Ok x) e f = cc
    by (Err x) e f = f cc

-- a call that makes no buffers

pub none_new :
    (c : Context) (request : Call) (told : Reply) (hold : HoldState)
    → ((side : Side) (count : ℕ) → request ≡ ReqBufs side count → ⊥) → ((side : Side) (count length : ℕ) → request ≡ CreateBufs side count length → ⊥)
    → AreNewZeros c request told hold
none_new c (ReqBufs side count) told hold r b = absurd (r side count refl)
none_new c (CreateBufs side count length) told hold r b = absurd (b side count length refl)
none_new c request told hold r b = tt

pub none_asked :
    (request : Call) → ((side : Side) (count : ℕ) → request ≡ ReqBufs side count → ⊥)
    → ((side : Side) (count length : ℕ) → request ≡ CreateBufs side count length → ⊥) → AsksForBuffers request
none_asked (ReqBufs side count) r b = absurd (r side count refl)
none_asked (CreateBufs side count length) r b = absurd (b side count length refl)
none_asked request r b = tt

-- want of memory, where a queue was asked and had nothing else against it

pub refused_asked :
    {A : Type 0} (count : ℕ) (errno : Errno) (told : Reply)
    → told ≡ Refused errno → (◌≡◌ {A = Result A Errno} (Err errno) (Err NoMem) → 0 < count) → told ≡ Refused NoMem → 0 < count
refused_asked count errno told t a n =
    let e : Refused errno ≡ Refused NoMem = sym t ∙ n in a cc

pub missed_asked :
    {A : Type 0} (count : ℕ) (o : Option Errno) (found : Bool) (value : A) (errno : Errno)
    → ◌≡◌ {A = Result A Errno} (Err errno) (answer_of (with_memory found o) value) → o ≡ None
    → (◌≡◌ {A = Result A Errno} (Err errno) (Err NoMem) → 0 < count) → 0 < count
missed_asked count (Some x) found value errno h e a = cc
missed_asked count None true value errno h e a = cc
missed_asked count None false value errno h e a = a h
