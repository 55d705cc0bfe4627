-- Pictures that were coded, and one more, are pictures that were coded. What is read and written is put behind what was,
-- and the state goes from one picture to the next.
use Rattle.std.proofs.Common.{ℕ, zero, suc, ◌≡◌, ◌<◌, ◌+◌, List, [], ◌∷◌, ◌++◌, length, take, Option, Bool, true, false, refl, sym, ap, ◌∙◌, subst, arith, All, append-nil, append_assoc, slice_index_or}
use Rattle.std.specs.Io.KnownBytes.{Appends, Consumes, IsAtEnd}
use Rattle.std.proofs.KnownBytes.{Appends-nil, Appends-trans, Consumes-nil, Consumes-trans}
use Rattle.vc_defs.specs.Encoder.{EncoderState, default_rates, encode}
use Rattle.vc_alone.specs.Pictures.{picture_format}
use Rattle.vc_alone.specs.Coded.{joined, frames_from, state_from, CodesNext, HasNone, TurnCodes, HasCoded, AreCoded}

joined_push : (ps : List (List ℕ)) (p : List ℕ) → joined (ps ++ p ∷ []) ≡ joined ps ++ p
joined_push [] p = append-nil p
joined_push (q ∷ ps) p = ap (λ (l : List ℕ). q ++ l) (joined_push ps p) ∙ sym (append_assoc q (joined ps) p)

frames_push : (s : EncoderState) (ps : List (List ℕ)) (p : List ℕ) →
    frames_from s (ps ++ p ∷ []) ≡ frames_from s ps ++ (encode (state_from s ps) picture_format default_rates p).bytes
frames_push s [] p = append-nil (encode s picture_format default_rates p).bytes
frames_push s (q ∷ ps) p =
    let first = encode s picture_format default_rates q in
    let last = (encode (state_from first.state ps) picture_format default_rates p).bytes in
    ap (λ (l : List ℕ). first.bytes ++ l) (frames_push first.state ps p) ∙ sym (append_assoc first.bytes (frames_from first.state ps) last)

state_push : (s : EncoderState) (ps : List (List ℕ)) (p : List ℕ) →
    state_from s (ps ++ p ∷ []) ≡ (encode (state_from s ps) picture_format default_rates p).state
state_push s [] p = refl
state_push s (q ∷ ps) p = state_push (encode s picture_format default_rates q).state ps p

size_at : (ps : List (List ℕ)) (p : List ℕ) (size k : ℕ) (d : List ℕ) → All (λ (q : List ℕ). length q ≡ size) ps → length p ≡ size →
    k < length (ps ++ p ∷ []) → length (slice_index_or (ps ++ p ∷ []) k d) ≡ size
size_at [] p size zero d all here l = here
size_at [] p size (suc k) d all here l = absurd (omega (arith, l))
size_at (q ∷ ps) p size zero d all here l = all zero d (omega arith)
size_at (q ∷ ps) p size (suc k) d all here l = size_at ps p size k d (λ j f m. all (suc j) f (omega (arith, m))) here (omega (arith, l))

pub none_yet : (s : EncoderState) (left written : Option (List ℕ)) → HasCoded s left left written written s
none_yet s left written = record {
  pictures = [];
  sizes = λ k d l. absurd (omega (arith, l));
  read = Consumes-nil left;
  wrote = Appends-nil written;
  after = refl;
}

pub goes_on : (s s1 s2 : EncoderState) (l0 l1 l2 w0 w1 w2 : Option (List ℕ)) →
    HasCoded s l0 l1 w0 w1 s1 → CodesNext l1 l2 w1 w2 s1 s2 → HasCoded s l0 l2 w0 w2 s2
goes_on s s1 s2 l0 l1 l2 w0 w1 w2 h c =
    let frame : Appends w1 w2 (encode (state_from s h.pictures) picture_format default_rates c.picture).bytes =
    subst (λ (t : EncoderState). Appends w1 w2 (encode t picture_format default_rates c.picture).bytes) h.after c.wrote in
    record {
      pictures = h.pictures ++ c.picture ∷ [];
      sizes = λ k d l. size_at h.pictures c.picture 152064 k d h.sizes c.size l;
      read = subst (λ (bytes : List ℕ). Consumes l0 l2 bytes) (sym (joined_push h.pictures c.picture)) (Consumes-trans _ _ _ _ _ h.read c.read);
      wrote = subst (λ (bytes : List ℕ). Appends w0 w2 bytes) (sym (frames_push s h.pictures c.picture)) (Appends-trans _ _ _ _ _ h.wrote frame);
      after = c.after ∙ (ap (λ (t : EncoderState). (encode t picture_format default_rates c.picture).state) h.after ∙ sym (state_push s h.pictures c.picture));
    }

pub turn_goes_on : (more : Bool) (s s1 s2 : EncoderState) (l0 l1 l2 w0 w1 w2 : Option (List ℕ)) → more ≡ true →
    HasCoded s l0 l1 w0 w1 s1 → TurnCodes more l1 l2 w1 w2 s1 s2 → HasCoded s l0 l2 w0 w2 s2
turn_goes_on true s s1 s2 l0 l1 l2 w0 w1 w2 is h c = goes_on s s1 s2 l0 l1 l2 w0 w1 w2 h c
turn_goes_on false s s1 s2 l0 l1 l2 w0 w1 w2 is h c = cc

pub all_coded : (s s1 : EncoderState) (l0 l1 l2 w0 w1 w2 : Option (List ℕ)) → HasCoded s l0 l1 w0 w1 s1 → HasNone l1 l2 w1 w2 → AreCoded s l0 l2 w0 w2
all_coded s s1 l0 l1 l2 w0 w1 w2 h n =
    record {
      pictures = h.pictures;
      sizes = h.sizes;
      read = subst (λ (bytes : List ℕ). Consumes l0 l2 bytes) (append-nil (joined h.pictures)) (Consumes-trans _ _ _ _ _ h.read n.read);
      end = n.end;
      wrote = subst (λ (bytes : List ℕ). Appends w0 w2 bytes) (append-nil (frames_from s h.pictures)) (Appends-trans _ _ _ _ _ h.wrote n.wrote);
    }
