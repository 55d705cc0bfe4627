-- Where the frames of bytes begin and end. They come in order, each ends behind its header, and none ends behind the bytes.
use Rattle.std.proofs.Common.{◌≡◌, refl, ℕ, suc, zero, ◌+◌, ◌-◌, ◌≤◌, List, [], ◌∷◌, length, drop, arith}
use Rattle.std.specs.List.{All}
use Rattle.std.specs.declared.option.Option.{Option}
use Rattle.std.specs.declared.option.Option.TheVariants.{Some, None}
use Rattle.std.proofs.lemmas.List.Elements.{All-nil, All-cons, All-head, All-tail}
use Rattle.vc_defs.specs.Places.{Look, nothing, begun, no_header, unended, cut, whole, look, Frame, OpenFrame, places_at, places_from, places}
use Rattle.vc_defs.proofs.FindsInOrder.{InOrder, in_order}
use Rattle.vc_coverage.proofs.ChainsCoverUpToAPlace.{InChain}

-- where a frame is known, by its body and its end
abbrev pub IsKnownAt : Option (List ℕ) → ℕ → ℕ → Type 0
IsKnownAt None end known = known ≡ end + 8
IsKnownAt (Some body) end known = known ≡ end

-- A whole frame is known where it ends, and a cut one eight bytes behind that.
abbrev pub EndsRight : Frame → Type 0
EndsRight f = IsKnownAt f.body f.end f.known

ends_from : (t limit c : ℕ) (bytes : List ℕ) → All EndsRight (places_from t limit c bytes).frames
ends_from zero limit c bytes = All-nil EndsRight
ends_from (suc t) limit c bytes = by_look (look limit bytes) (λ n. ends_from t limit (c + n) (drop n bytes))
  where
    by_look : (l : Look) → ((n : ℕ) → All EndsRight (places_from t limit (c + n) (drop n bytes)).frames) → All EndsRight (places_at c bytes (λ k. places_from t limit (c + k) (drop k bytes)) l).frames
    by_look nothing next = All-nil EndsRight
    by_look (begun at) next = All-nil EndsRight
    by_look (no_header at) next = next (at + 8)
    by_look (unended at h) next = All-nil EndsRight
    by_look (cut at h inner) next =
        All-cons EndsRight (record { position = c + at; end = c + inner; header = h; body = None; known = c + inner + 8 }) (places_from t limit (c + inner) (drop inner bytes)).frames refl (next inner)
    by_look (whole at h body) next =
        let n : ℕ = at + 44 + h.size - 7 in
        All-cons EndsRight (record { position = c + at; end = c + at + 44 + h.size; header = h; body = Some body; known = c + at + 44 + h.size }) (places_from t limit (c + n) (drop n bytes)).frames refl (next n)

pub ends_right : (limit : ℕ) (bytes : List ℕ) → All EndsRight (places bytes limit).frames
unfolding places
ends_right limit bytes = ends_from (length bytes + 1) limit 0 bytes

-- a frame ends at most eight bytes before it is known
near : (f : Frame) → EndsRight f → (f.end ≤ f.known) × (f.known ≤ f.end + 8)
near f h = by_body f.body h
  where
    by_body : (o : Option (List ℕ)) → IsKnownAt o f.end f.known → (f.end ≤ f.known) × (f.known ≤ f.end + 8)
    by_body None e = (omega (arith, e), omega (arith, e))
    by_body (Some body) e = (omega (arith, e), omega (arith, e))

chain_of : (n least end : ℕ) (fs : List Frame) (u : Option OpenFrame) → InOrder n fs u → All EndsRight fs → least ≤ n - 8 → end ≤ n → InChain least end fs
chain_of n least end [] u o a l e = tt
chain_of n least end (f ∷ fs) u o a l e =
    let here = near f (All-head EndsRight f fs a) in (
      omega (arith, o.0),
      omega (arith, o.0, o.1, here.1),
      chain_of f.known (suc f.position) f.end fs u o.2 (All-tail EndsRight f fs a) (omega (arith, o.1)) here.0,
    )

-- The frames of bytes begin and end one behind the other.
pub in_chain : (limit : ℕ) (bytes : List ℕ) → InChain 0 0 (places bytes limit).frames
unfolding places
in_chain limit bytes =
    chain_of 0 0 0 (places bytes limit).frames (places bytes limit).unfinished
    (in_order (length bytes + 1) limit 0 bytes 0 (λ at e. omega arith)) (ends_right limit bytes) (omega arith) (omega arith)
