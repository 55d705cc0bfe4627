-- The law of resuming, computed at each place of some hostile streams, and that of no drift, at some pictures. Each
-- is the law's statement at named bytes, and holds because both sides compute to the same.
use Rattle.std.proofs.Common.{◌≡◌, ℕ, ◌+◌, ◌-◌, List, [], ◌∷◌, ◌++◌, refl, take, drop, map, length, replicate}
use Rattle.std.specs.Prelude.{false, nat_lt, nat_le, if◌then◌else◌}
use Rattle.std.specs.List.{flat_map, range_with_len, filter}
use Rattle.std.specs.declared.option.Option.{Option}
use Rattle.std.specs.declared.option.Option.TheVariants.{Some, None}
use Rattle.vc_base.specs.declared.Stamp.{Stamp}
use Rattle.vc_defs.specs.Headers.{header_bytes, header_from, is_legal, magic}
use Rattle.vc_base.specs.Limits.{most_bytes}
use Rattle.vc_defs.specs.Words.{canon, in_scan_order, from_scan_order, scan_place, scan_number}
use Rattle.vc_defs.specs.Walsh.{transformed, coefficient, walsh}
use Rattle.vc_defs.specs.Quantiser.{quantised, dequantised, shift_at}
use Rattle.vc_defs.specs.Planes.{coded_blocks, block_of, coded_as, canon_plane, samples_of, decoded_blocks, decoded_plane, plane_of, padded_plane, unpadded}
use Rattle.vc_defs.specs.Bodies.{body_planes}
use Rattle.vc_defs.specs.Places.{places, look, leaves_a_byte}
use Rattle.vc_defs.specs.Raw.{raw_of}
use Rattle.vc_defs.specs.Decoder.{Changed, GivenResult, results, given_in, FrameResult, DecodedStep, decode}
use Rattle.vc_defs.specs.Encoder.{RunRates, encoded, encoded_bytes}
use Rattle.vc_defs.specs.Laws.{from_start, present_at, state_at, pictures_at}
use Rattle.vc_defs.specs.Named.{frame_f, frame_g, frame_of, small}

-- a magic, the first 41 bytes of a frame, and a frame with an illegal body
hostile : List ℕ
hostile = magic ++ take 41 frame_f ++ frame_of 3 16 16 0x00080400 0 4 (0x80 ∷ 0x06 ∷ 0x00 ∷ 0x0f ∷ [])

-- a frame with an empty body, which is known as soon as its header is, a P frame that is passed over, and the start of
-- a magic
empty_body : List ℕ
empty_body = frame_of 4 32 16 0x00080400 0 0 [] ++ frame_g ++ take 5 magic

-- a place where the stream is cut, and how many results were given there
cuts : List ℕ → ℕ → ℕ → ℕ → List (ℕ × ℕ)
cuts bytes limit first count = flat_map (λ k. cuts_at k) (range_with_len first count)
  where
    known_in : ℕ → List GivenResult
    known_in k = filter (λ (f : GivenResult). nat_lt f.result.known k) (given_in bytes limit None None)

    known_at : ℕ → List GivenResult
    known_at k = filter (λ (f : GivenResult). nat_le f.result.known k) (given_in bytes limit None None)

    cuts_at : ℕ → List (ℕ × ℕ)
    cuts_at k = map (λ n. (k, n)) (range_with_len (length (known_in k)) (length (known_at k) - length (known_in k) + 1))

stamps_of : ℕ → List Stamp
stamps_of k = map (λ n. record { 0 = n + 1 }) (range_with_len 0 k)

last_stamp : Stamp
last_stamp = record { 0 = 1000 }

step_at : List ℕ → ℕ → ℕ × ℕ → DecodedStep
step_at bytes limit cut =
    decode (state_at (take cut.0 bytes) (stamps_of cut.0) limit None cut.1) (present_at (take cut.0 bytes) limit None cut.1).geometry limit (drop cut.0 bytes) last_stamp

-- what the law says that the step is
said_at : List ℕ → ℕ → ℕ × ℕ → DecodedStep
said_at bytes limit cut = by_next (drop cut.1 (from_start bytes limit None))
  where
    stamp : ℕ → Stamp
    stamp p = if nat_lt p cut.0 then record { 0 = p + 1 } else last_stamp

    from : ℕ
    from = cut.0 - length (state_at (take cut.0 bytes) (stamps_of cut.0) limit None cut.1).tail

    moved_to : ℕ → ℕ → Option FrameResult → Stamp → DecodedStep
    moved_to known given result at = record {
      given = result;
      stamp = at;
      moved = known - cut.0;
      state = state_at (take known bytes) (stamps_of cut.0 ++ replicate (known - cut.0) last_stamp) limit None given;
    }

    by_next : List GivenResult → DecodedStep
    by_next [] = moved_to (length bytes) cut.1 None last_stamp
    by_next (next ∷ later) =
        moved_to next.result.known (cut.1 + 1) (Some (record { position = next.result.position - from; known = next.result.known - from; kind = next.result.kind })) (stamp next.result.position)

hostile_from_0 : map (step_at hostile most_bytes) (cuts hostile most_bytes 0 25) ≡ map (said_at hostile most_bytes) (cuts hostile most_bytes 0 25)
unfolding hostile empty_body cuts stamps_of last_stamp step_at said_at raw_of results given_in places look header_from header_bytes is_legal
    body_planes from_scan_order scan_number dequantised transformed coefficient walsh shift_at samples_of block_of decoded_blocks decoded_plane
    plane_of padded_plane unpadded decode
hostile_from_0 = refl

hostile_from_25 : map (step_at hostile most_bytes) (cuts hostile most_bytes 25 25) ≡ map (said_at hostile most_bytes) (cuts hostile most_bytes 25 25)
unfolding hostile empty_body cuts stamps_of last_stamp step_at said_at raw_of results given_in places look header_from header_bytes is_legal
    body_planes from_scan_order scan_number dequantised transformed coefficient walsh shift_at samples_of block_of decoded_blocks decoded_plane
    plane_of padded_plane unpadded decode
hostile_from_25 = refl

hostile_from_50 : map (step_at hostile most_bytes) (cuts hostile most_bytes 50 25) ≡ map (said_at hostile most_bytes) (cuts hostile most_bytes 50 25)
unfolding hostile empty_body cuts stamps_of last_stamp step_at said_at raw_of results given_in places look header_from header_bytes is_legal
    body_planes from_scan_order scan_number dequantised transformed coefficient walsh shift_at samples_of block_of decoded_blocks decoded_plane
    plane_of padded_plane unpadded decode
hostile_from_50 = refl

hostile_from_75 : map (step_at hostile most_bytes) (cuts hostile most_bytes 75 23) ≡ map (said_at hostile most_bytes) (cuts hostile most_bytes 75 23)
unfolding hostile empty_body cuts stamps_of last_stamp step_at said_at raw_of results given_in places look header_from header_bytes is_legal
    body_planes from_scan_order scan_number dequantised transformed coefficient walsh shift_at samples_of block_of decoded_blocks decoded_plane
    plane_of padded_plane unpadded decode
hostile_from_75 = refl

empty_body_from_0 : map (step_at empty_body most_bytes) (cuts empty_body most_bytes 0 25) ≡ map (said_at empty_body most_bytes) (cuts empty_body most_bytes 0 25)
unfolding hostile empty_body cuts stamps_of last_stamp step_at said_at raw_of results given_in places look header_from header_bytes is_legal
    body_planes from_scan_order scan_number dequantised transformed coefficient walsh shift_at samples_of block_of decoded_blocks decoded_plane
    plane_of padded_plane unpadded decode
empty_body_from_0 = refl

empty_body_from_25 : map (step_at empty_body most_bytes) (cuts empty_body most_bytes 25 25) ≡ map (said_at empty_body most_bytes) (cuts empty_body most_bytes 25 25)
unfolding hostile empty_body cuts stamps_of last_stamp step_at said_at raw_of results given_in places look header_from header_bytes is_legal
    body_planes from_scan_order scan_number dequantised transformed coefficient walsh shift_at samples_of block_of decoded_blocks decoded_plane
    plane_of padded_plane unpadded decode
empty_body_from_25 = refl

empty_body_from_50 : map (step_at empty_body most_bytes) (cuts empty_body most_bytes 50 25) ≡ map (said_at empty_body most_bytes) (cuts empty_body most_bytes 50 25)
unfolding hostile empty_body cuts stamps_of last_stamp step_at said_at raw_of results given_in places look header_from header_bytes is_legal
    body_planes from_scan_order scan_number dequantised transformed coefficient walsh shift_at samples_of block_of decoded_blocks decoded_plane
    plane_of padded_plane unpadded decode
empty_body_from_50 = refl

empty_body_from_75 : map (step_at empty_body most_bytes) (cuts empty_body most_bytes 75 23) ≡ map (said_at empty_body most_bytes) (cuts empty_body most_bytes 75 23)
unfolding hostile empty_body cuts stamps_of last_stamp step_at said_at raw_of results given_in places look header_from header_bytes is_legal
    body_planes from_scan_order scan_number dequantised transformed coefficient walsh shift_at samples_of block_of decoded_blocks decoded_plane
    plane_of padded_plane unpadded decode
empty_body_from_75 = refl

-- pictures at two to the I frame: one of halves, one all grey, and one of halves again
abbrev pictures : List (List (List ℕ) × RunRates)
pictures =
    let rates : RunRates = record { gop = 2; iqp = 20; pqp = 20 } in
    let halves : List ℕ = flat_map (λ (n : ℕ). replicate 4 130 ++ replicate 4 126) (range_with_len 0 32) in
    (halves ∷ [], rates) ∷ (replicate 256 100 ∷ [], rates) ∷ (halves ∷ [], rates) ∷ (halves ∷ [], rates) ∷ []

no_drift_there : results (flat_map encoded_bytes (encoded small pictures)) most_bytes None None ≡ record { position = 0; known = 44; kind = Changed small } ∷ pictures_at 0 (encoded small pictures)
unfolding encoded canon canon_plane in_scan_order scan_place coded_blocks coded_as quantised raw_of results given_in places look header_from
    header_bytes is_legal body_planes from_scan_order scan_number dequantised transformed coefficient walsh shift_at samples_of block_of
    decoded_blocks decoded_plane plane_of padded_plane unpadded
no_drift_there = refl

no_byte_left : leaves_a_byte (flat_map encoded_bytes (encoded small pictures)) most_bytes ≡ false
unfolding encoded canon canon_plane in_scan_order scan_place coded_blocks coded_as quantised raw_of results given_in places look header_from
    header_bytes is_legal body_planes from_scan_order scan_number dequantised transformed coefficient walsh shift_at samples_of block_of
    decoded_blocks decoded_plane plane_of padded_plane unpadded
no_byte_left = refl
