-- What ReqBufs and CreateBufs have in common: a call that finds no memory leaves the queue, and the answers of the
-- queue are those of the context.
use Rattle.std.proofs.Common.{ℕ, zero, suc, ◌≡◌, ◌≤◌, ◌<◌, ◌+◌, ◌*◌, ◌/◌, Bool, true, false, ◌||◌, eq-eqb, Option, Some, None, Result, Ok, Err, List, [], ◌∷◌, ◌++◌, refl, sym, ap, ◌∙◌, subst, arith, length-append}
use Rattle.std.proofs.Math.Nat.{mul-le-mul, mul-le-mul_right}
use Rattle.std.specs.Prelude.{◌==◌, min, is_ok, is_err, if◌then◌else◌}
use Rattle.std.specs.List.{list_all}
use Rattle.std.specs.Option.{option_map}
use Rattle.std.proofs.lemmas.Bool.{false≢true, and_from, and_parts}
use Rattle.std.proofs.lemmas.List.Folds.{list_any-append, list_all-append}
use Rattle.vc_base.specs.declared.Errno.{Errno}
use Rattle.vc_base.specs.declared.Errno.TheVariants.{NoMem}
use Rattle.vc_base.specs.declared.Reply.{Reply}
use Rattle.vc_base.specs.declared.Reply.TheVariants.{Refused}
use Rattle.vc_base.specs.Buffers.{Buffer, QueueState, buffer_count, new_buffers, reqbufs_after, create_after, created}
use Rattle.vc_defs.specs.declared.Layout.{Layout}
use Rattle.vc_defs.specs.declared.Layout.TheVariants.{Grey, C420, C422}
use Rattle.vc_defs.specs.declared.Geometry.{Geometry}
use Rattle.vc_defs.specs.Decoder.{ReferenceState}
use Rattle.vc_defs.specs.Raw.{raw_size}
use Rattle.vc_model.specs.Context.{Context}
use Rattle.vc_model.specs.Formats.{FormatPair}
use Rattle.vc_model.specs.Sound.{HasGeometry}
use Rattle.vc_base.specs.declared.Kind.TheVariants.{Dec}
use Rattle.vc_model.specs.Answer.{Answer, unless, if_found}
use Rattle.vc_model.proofs.QueuesKeepSound.{length_new}
use Rattle.vc_geom.specs.Pairs.{CanStand}
use Rattle.vc_pair.specs.Pairs.{PairState}
use Rattle.vc_queue.specs.Answers.{answer_of, after_of}
use Rattle.vc_queue.specs.Growing.{with_memory, AnswersWithMemory}
use Rattle.vc_work.specs.References.{picture_total, HasRoomFor}
use Rattle.vc_context.specs.Contexts.{IsKept, IsStep, Gives, GivesWithMemory}
use Rattle.vc_dec.specs.Decoders.{IsPictureOf, AreUntouched, AllLengths, serves, AreUnused}
use Rattle.vc_dec.proofs.QueuesThroughCalls.{Counts}

-- memory that is found, and memory that isn't

pub no_refusal : (o : Option Errno) (r : Option Reply) → r ≡ option_map Refused o → r ≡ None → o ≡ None
no_refusal None r e n = refl
no_refusal (Some x) r e n = absurd (cc)

pub made : {A : Type 0} (o : Option Errno) (value v : A) (after old new : QueueState) → AnswersWithMemory o value after (Ok v) old new → o ≡ None → (v ≡ value) × (new ≡ after)
made o value v after old new a e = made_cases o a.found e a.answer a.state
  where
    made_cases : (o : Option Errno) (found : Bool) → o ≡ None → Ok v ≡ answer_of (with_memory found o) value → new ≡ after_of (with_memory found o) old after → (v ≡ value) × (new ≡ after)
    made_cases (Some x) found e f g = absurd (cc)
    made_cases None true e f g = let same : v ≡ value = cc in (same, g)
    made_cases None false e f g = absurd (cc)

pub unmade : {A : Type 0} (o : Option Errno) (value : A) (x : Errno) (after old new : QueueState) → AnswersWithMemory o value after (Err x) old new → o ≡ None → new ≡ old
unmade o value x after old new a e = unmade_cases o a.found e a.answer a.state
  where
    unmade_cases : (o : Option Errno) (found : Bool) → o ≡ None → Err x ≡ answer_of (with_memory found o) value → new ≡ after_of (with_memory found o) old after → new ≡ old
    unmade_cases (Some y) found e f g = absurd (cc)
    unmade_cases None true e f g = absurd (cc)
    unmade_cases None false e f g = g

-- an answer with memory that was found
pub gives_found : (answer : Bool → Answer) (reply : Reply) (after : Context) → Gives (answer true) reply after → GivesWithMemory answer reply after
gives_found answer reply after g =
    record { found = true; gives = g; want = λ w. absurd (false≢true (sym w)) }

-- an answer where none was
pub gives_none : (c : Context) (o : Option Errno) (effect : Answer) → o ≡ None → GivesWithMemory (λ f. unless c o (if_found c f effect)) (Refused NoMem) c
gives_none c (Some x) effect e = absurd (cc)
gives_none c None effect e =
    record { found = false; gives = record { reply = refl; context = refl }; want = λ w. refl }

pub unless_none : (c : Context) (o : Option Errno) (a : Answer) → o ≡ None → unless c o a ≡ a
unless_none c (Some x) a e = absurd (cc)
unless_none c None a e = refl

-- a context that stays as it is
pub no_step : (c : Context) → IsKept c → IsStep c c
no_step c k =
    record {
      kept = k;
      counted =
          λ bound n.
          record {
            out_queued = omega (arith, n.out_queued);
            cap_queued = omega (arith, n.cap_queued);
            out_done = omega (arith, n.out_done);
            cap_done = omega (arith, n.cap_done);
            raised = omega (arith, n.raised);
          };
    }

-- lengths

all_more : (f g : ℕ → Bool) → ((z : ℕ) → f z ≡ true → g z ≡ true) → (bs : List Buffer) → list_all (λ b. f b.size) bs ≡ true → list_all (λ b. g b.size) bs ≡ true
all_more f g h [] a = refl
all_more f g h (b ∷ bs) a =
    let r = and_parts (f b.size) (list_all (λ x. f x.size) bs) a in
    and_from (g b.size) (list_all (λ x. g x.size) bs) (h b.size r.0) (all_more f g h bs r.1)

pub lengths_more : (f g : ℕ → Bool) → ((z : ℕ) → f z ≡ true → g z ≡ true) → (q : QueueState) → AllLengths f q → AllLengths g q
lengths_more f g h q a =
    record { held = all_more f g h q.held a.held; ready = all_more f g h q.ready a.ready; job = all_more f g h q.job a.job; done = all_more f g h q.done a.done }

new_fit : (p : ℕ → Bool) (size first n : ℕ) → (0 < n → p size ≡ true) → list_all (λ b. p b.size) (new_buffers size first n) ≡ true
new_fit p size first zero h = refl
new_fit p size first (suc n) h =
    and_from (p size) (list_all (λ b. p b.size) (new_buffers size (first + 1) n)) (h (omega arith)) (new_fit p size (first + 1) n (λ _. h (omega arith)))

pub requested_lengths : (p : ℕ → Bool) (q : QueueState) (count size : ℕ) → (0 < count → p size ≡ true) → AllLengths p (reqbufs_after q count size)
requested_lengths p q count size h =
    record { held = new_fit p size 0 (min count 32) (λ (k : 0 < min count 32). h (omega arith)); ready = refl; job = refl; done = refl }

pub created_lengths : (p : ℕ → Bool) (q : QueueState) (count size : ℕ) → (0 < count → p size ≡ true) → AllLengths p q → AllLengths p (create_after q count size)
created_lengths p q count size h a =
    let n = created q count in
    record {
      held =
          list_all-append (λ b. p b.size) q.held (new_buffers size (buffer_count q) n)
          ∙ and_from (list_all (λ b. p b.size) q.held) (list_all (λ b. p b.size) (new_buffers size (buffer_count q) n)) a.held
          (new_fit p size (buffer_count q) n (λ (k : 0 < created q count). h (omega arith)));
      ready = a.ready;
      job = a.job;
      done = a.done;
    }

pub requested_some : (q : QueueState) (count size : ℕ) → 0 < buffer_count (reqbufs_after q count size) → 0 < count
requested_some q count size h = let l = length_new size 0 (min count 32) in omega arith

pub created_gone : (q : QueueState) (count size : ℕ) → buffer_count (create_after q count size) ≡ 0 → buffer_count q ≡ 0
created_gone q count size h =
    let l = length-append q.held (new_buffers size (buffer_count q) (created q count)) in omega arith

pub created_some : (q : QueueState) (count size : ℕ) → 0 < buffer_count (create_after q count size) → buffer_count q ≡ 0 → 0 < count
created_some q count size h e =
    let l = length-append q.held (new_buffers size (buffer_count q) (created q count)) in
    let m = length_new size (buffer_count q) (created q count) in
    omega arith

-- how they count

new_untouched : (size first n : ℕ) → AreUntouched (new_buffers size first n)
new_untouched size first zero = refl
new_untouched size first (suc n) = new_untouched size (first + 1) n

new_unused : (size first n : ℕ) → AreUnused (new_buffers size first n)
new_unused size first zero = refl
new_unused size first (suc n) = new_unused size (first + 1) n

pub requested_counts : (q : QueueState) (count size : ℕ) → q.job ≡ [] → Counts q (reqbufs_after q count size)
requested_counts q count size e =
    record {
      queued = omega arith;
      retired = omega arith;
      job = sym e;
      done = λ h. refl;
      begun = λ h. record { ready = refl; held = new_untouched size 0 (min count 32) };
      blank = λ s h. record { held = new_unused size 0 (min count 32); ready = refl; job = refl };
    }

pub created_counts : (q : QueueState) (count size : ℕ) → Counts q (create_after q count size)
created_counts q count size =
    record {
      queued = omega arith;
      retired = omega arith;
      job = refl;
      done = λ h. h;
      begun =
          λ h.
          record {
            ready = h.ready;
            held =
                list_all-append (λ b. b.cursor == 0) q.held (new_buffers size (buffer_count q) (created q count))
                ∙ and_from (list_all (λ b. b.cursor == 0) q.held) (list_all (λ b. b.cursor == 0) (new_buffers size (buffer_count q) (created q count)))
                h.held (new_untouched size (buffer_count q) (created q count));
          };
      blank =
          λ s h.
          record {
            held =
                list_all-append (λ b. b.used == 0) q.held (new_buffers size (buffer_count q) (created q count))
                ∙ and_from (list_all (λ b. b.used == 0) q.held) (list_all (λ b. b.used == 0) (new_buffers size (buffer_count q) (created q count))) h.held
                (new_unused size (buffer_count q) (created q count));
            ready = h.ready;
            job = h.job;
          };
    }

-- references

pub serves_front : (a b : List ℕ) (z : ℕ) → serves a z ≡ true → serves (a ++ b) z ≡ true
serves_front a b z h =
    list_any-append (λ room. room == z) a b ∙ ap (λ t. t || serves b z) h

or_right : (x y : Bool) → y ≡ true → (x || y) ≡ true
or_right true y h = refl
or_right false y h = h

pub serves_back : (a b : List ℕ) (z : ℕ) → serves b z ≡ true → serves (a ++ b) z ≡ true
serves_back a b z h =
    list_any-append (λ room. room == z) a b ∙ or_right (serves a z) (serves b z) h

pub serves_one : (z : ℕ) → serves (z ∷ []) z ≡ true
serves_one z = ap (λ t. t || false) (eq-eqb z z refl)

or_either : (x y z : Bool) → (y ≡ true → z ≡ true) → (x || y) ≡ true → (x || z) ≡ true
or_either true y z f h = refl
or_either false y z f h = f h

pub serves_more : (a b c : List ℕ) (z : ℕ) → (serves b z ≡ true → serves c z ≡ true) → serves (a ++ b) z ≡ true → serves (a ++ c) z ≡ true
serves_more a b c z f h =
    list_any-append (λ room. room == z) a c ∙ or_either (serves a z) (serves b z) (serves c z) f (sym (list_any-append (λ room. room == z) a b) ∙ h)

-- a picture fits into a buffer of its format

picture_fits : (layout : Layout) (w h : ℕ) → picture_total (record { width = w; height = h; layout = layout }) ≤ raw_size layout w h
picture_fits Grey w h = omega arith
picture_fits C420 w h =
    let a : 2 * (w / 2) ≤ w = omega arith in
    let b : 2 * (h / 2) ≤ h = omega arith in
    let c : (2 * (w / 2)) * (2 * (h / 2)) ≤ w * h = mul-le-mul a b in
    omega (arith, c)
picture_fits C422 w h =
    let a : 2 * (w / 2) ≤ w = omega arith in
    let b : (2 * (w / 2)) * h ≤ w * h = mul-le-mul_right h a in
    omega (arith, b)

-- where a decoder's picture is, its CAPTURE format has room for it
pub has_room : (f : FormatPair) (g : Option Geometry) (picture : Option ReferenceState) → CanStand Dec f → HasGeometry Dec f g → IsPictureOf g picture → HasRoomFor picture f.cap.size
has_room f g None stands sized is = tt
has_room f None (Some r) stands sized is = absurd (cc)
has_room f (Some g) (Some r) stands sized is =
    let same : g ≡ r.geometry = cc in
    let fits : picture_total g ≤ raw_size g.layout g.width g.height = picture_fits g.layout g.width g.height in
    let size : f.cap.size ≡ raw_size g.layout g.width g.height = stands.0.1 ∙ (ap (λ l. raw_size l f.cap.width f.cap.height) sized.2 ∙ (ap (λ n. raw_size g.layout n f.cap.height) sized.0 ∙ ap (λ n. raw_size g.layout g.width n) sized.1)) in
    subst (λ (x : Geometry). picture_total x ≤ f.cap.size) same (rw size fits)

-- a queue that got no new buffers is as it was

pub unmade_out : {A : Type 0} (p mid : PairState) (o : Option Errno) (value : A) (x : Errno) (after : QueueState) → AnswersWithMemory o value after (Err x) p.out mid.out → o ≡ None → mid ≡ record p { out = mid.out } → mid ≡ p
unmade_out p mid o value x after a e rest =
    rest ∙ ap (λ (r : QueueState). record p { out = r }) (unmade o value x after p.out mid.out a e)

pub unmade_cap : {A : Type 0} (p mid : PairState) (o : Option Errno) (value : A) (x : Errno) (after : QueueState) → AnswersWithMemory o value after (Err x) p.cap mid.cap → o ≡ None → mid ≡ record p { cap = mid.cap } → mid ≡ p
unmade_cap p mid o value x after a e rest =
    rest ∙ ap (λ (r : QueueState). record p { cap = r }) (unmade o value x after p.cap mid.cap a e)

-- what is there where a call did not fail
pub where_ok : {A E X : Type 0} (r : Result A E) (b : Bool) (x y z : X) → b ≡ is_err r → b ≡ false → x ≡ (if is_ok r then y else z) → x ≡ y
where_ok (Ok v) b x y z e f h = h
where_ok (Err v) b x y z e f h = absurd (false≢true (sym f ∙ e))
