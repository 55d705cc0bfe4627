-- Segments one after another. The bytes of each stand behind those of the earlier ones, where they were written and where they were
-- handed out, and its finishes add to theirs.
use Rattle.std.proofs.Common.{ℕ, ◌≡◌, ◌+◌, List, [], ◌∷◌, ◌++◌, length, sym, ap, ◌∙◌, subst, arith, append_assoc}
use Rattle.std.specs.Io.KnownBytes.{Appends}
use Rattle.std.proofs.KnownBytes.{Appends-nil, Appends-trans}
use Rattle.std.proofs.lemmas.List.{append-nil}
use Rattle.std.proofs.lemmas.Grind.{flat_map-append}
use Rattle.vc_base.specs.declared.Format.{Format}
use Rattle.vc_defs.specs.Encoder.{RunRates}
use Rattle.vc_port.specs.Payloads.{bytes_out}
use Rattle.vc_chain.specs.Segments.{coded}
use Rattle.vc_chain.specs.Recoded.{RawPart, recoded, picture_count, RecodingBegins, SegmentsAddUp, CutSegmentsAddUp}

one_part : (format : Format) (rates : RunRates) (parts : List RawPart) (pictures : List (List ℕ)) → recoded rates (parts ++ (format, pictures) ∷ []) ≡ recoded rates parts ++ coded format rates pictures
one_part format rates parts pictures =
    flat_map-append (λ (part : RawPart). coded part.0 rates part.1) parts ((format, pictures) ∷ []) ∙ ap (λ (l : List ℕ). recoded rates parts ++ l) (append-nil (coded format rates pictures))

counted : (format : Format) (parts : List RawPart) (pictures : List (List ℕ)) → picture_count (parts ++ (format, pictures) ∷ []) ≡ picture_count parts + length pictures
counted format [] pictures = omega arith
counted format (p ∷ parts) pictures = let n = counted format parts pictures in omega (arith, n)

pub recoding_begins : RecodingBegins
recoding_begins start rates written closed =
    record {
      closed = closed;
      wrote = Appends-nil written;
      handed = sym (append-nil (bytes_out start));
      finishes = omega arith;
    }

pub segments_add_up : SegmentsAddUp
segments_add_up start mid events format rates parts pictures first between written w s =
    let all = one_part format rates parts pictures in
    let before = w.finishes in
    let since = s.finishes in
    record {
      closed = s.closed;
      wrote = subst (Appends first written) (sym all) (Appends-trans first between written (recoded rates parts) (coded format rates pictures) w.wrote s.wrote);
      handed = s.handed ∙ (ap (λ (l : List ℕ). l ++ coded format rates pictures) w.handed ∙ (append_assoc (bytes_out start) (recoded rates parts) (coded format rates pictures) ∙ ap (λ (l : List ℕ). bytes_out start ++ l) (sym all)));
      finishes = omega (arith, before, since, counted format parts pictures);
    }

pub cut_segments_add_up : CutSegmentsAddUp
cut_segments_add_up start mid events format rates parts pictures first between written w s =
    let before = recoded rates parts in
    let all = one_part format rates parts pictures in
    record {
      bytes = before ++ s.bytes;
      wrote = Appends-trans first between written before s.bytes w.wrote s.wrote;
      handed = (
        s.handed.0,
        s.handed.1 ∙ (ap (λ (l : List ℕ). l ++ (s.bytes ++ s.handed.0)) w.handed
            ∙ (append_assoc (bytes_out start) before (s.bytes ++ s.handed.0) ∙ ap (λ (l : List ℕ). bytes_out start ++ l) (sym (append_assoc before s.bytes s.handed.0)))),
      );
      others = s.others;
      frames = all ∙ (ap (λ (l : List ℕ). before ++ l) s.frames ∙ sym (append_assoc before s.bytes s.others));
    }
