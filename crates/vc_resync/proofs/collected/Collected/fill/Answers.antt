use Rattle.std.proofs.Common.{◌≡◌, ◌∙◌, ◌++◌, ◌<◌, ◌≤◌, ap, ℕ, List, subst, length, take, arith, length-append}
use Rattle.std.proofs.lemmas.List.{length-take-le, take-take}
use Rattle.vc_defs.specs.Headers.{magic}
use Rattle.vc_resync.specs.Seeking.{Matches, Sought}
use Rattle.vc_resync.proofs.FrameBytesFill.{cut_taken, whole_taken, more_taken, more_open}
use Rattle.vc_resync.proofs.collected.Collected.fill.Goals as goal

-- what a search in the first so many bytes says of the bytes themselves
record Looked (matched : ℕ) (bytes : List ℕ) (room count now : ℕ) : Type 0 where
  inside : count ≤ room
  long : length (take count bytes) ≡ count
  matches : Matches (take matched magic ++ take count bytes) now
  all : now < 8 → count ≡ room

looked : (matched : ℕ) (bytes : List ℕ) (room count now : ℕ) → room ≤ length bytes → Sought matched (take room bytes) count now → Looked matched bytes room count now
looked matched bytes room count now h s =
    let few : length (take room bytes) ≡ room = length-take-le room bytes h in
    record {
      inside = omega (arith, s.inside, few);
      long = length-take-le count bytes (omega (arith, s.inside, few, h));
      matches = subst (λ (t : List ℕ). Matches (take matched magic ++ t) now) (take-take count room bytes (omega (arith, s.inside, few))) s.matches;
      all = λ l. s.all l ∙ few;
    }

pub returns-then-matched-eq8-clause-taken : goal.returns-then-matched-eq8-clause-taken
returns-then-matched-eq8-clause-taken c =
    let s = looked c.args.matched c.args.bytes.now c.min-room.result c.seek-count.result.0 c.seek-count.result.1 (omega arith) c.seek-count.ensures in
    let here = c.requires.open in
    cut_taken c.args.self.now.limit c.args.self.now.head c.args.self.now.body.items (take c.seek-count.result.0 c.args.bytes.now) c.args.header c.args.matched c.seek-count.result.1
    c.requires.room.head here s.matches c.if-matched-eq8.true (omega (arith, s.long, s.inside, here.part))

pub returns-then-len-header-clause-taken : goal.returns-then-len-header-clause-taken
returns-then-len-header-clause-taken c =
    let s = looked c.args.matched c.args.bytes.now c.min-room.result c.seek-count.result.0 c.seek-count.result.1 (omega arith) c.seek-count.ensures in
    let body = c.args.self.now.body.items in
    let bytes = take c.seek-count.result.0 c.args.bytes.now in
    whole_taken c.args.self.now.limit c.args.self.now.head body bytes c.append.new.body.items c.args.header c.args.matched c.seek-count.result.1
    c.requires.room.head c.requires.open s.matches c.if-matched-eq8.false (omega (arith, length-append body bytes, ap length c.append.ensures.items)) c.append.ensures.items

pub returns-clause-sound : goal.returns-clause-sound
returns-clause-sound c =
    let s = looked c.args.matched c.args.bytes.now c.min-room.result c.seek-count.result.0 c.seek-count.result.1 (omega arith) c.seek-count.ensures in
    let here = c.requires.open in
    let body = c.args.self.now.body.items in
    let bytes = take c.seek-count.result.0 c.args.bytes.now in
    record {
      room = record { head = c.requires.room.head; body = omega (arith, c.requires.room.body, c.append.ensures.room) };
      stands = more_open c.args.self.now.limit c.args.self.now.head body bytes c.append.new.body.items c.args.header c.args.matched c.seek-count.result.1
          c.requires.room.head here s.matches c.if-matched-eq8.false (omega (arith, s.long, s.inside, here.part, length-append body bytes, ap length c.append.ensures.items)) c.append.ensures.items;
    }

pub returns-clause-taken : goal.returns-clause-taken
returns-clause-taken c =
    let s = looked c.args.matched c.args.bytes.now c.min-room.result c.seek-count.result.0 c.seek-count.result.1 (omega arith) c.seek-count.ensures in
    let here = c.requires.open in
    let body = c.args.self.now.body.items in
    let bytes = take c.seek-count.result.0 c.args.bytes.now in
    more_taken c.args.self.now.limit c.args.self.now.head body bytes c.append.new.body.items c.args.header c.args.matched c.seek-count.result.1
    c.requires.room.head here s.matches c.if-matched-eq8.false (omega (arith, s.long, s.inside, here.part, length-append body bytes, ap length c.append.ensures.items)) c.append.ensures.items
