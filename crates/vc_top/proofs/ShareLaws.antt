-- The lines of the sharing are its defined output, since its format is `YU12`.
use Rattle.std.proofs.Common.{ℕ, ◌≡◌, ◌+◌, Bool, true, false, cond, ◌&&◌, nat_eq, Option, Some, None, List, [], ◌∷◌, ◌++◌, refl, ap, ◌∙◌}
use Rattle.std.specs.Prelude.{codes, bytes_eq}
use Rattle.std.specs.List.{flat_map, range_with_len}
use Rattle.std.proofs.lemmas.Bool.{false≢true}
use Rattle.std.proofs.lemmas.Slice.Eq.{bytes_eq-Decides}
use Rattle.vc_base.specs.declared.Fourcc.{Fourcc}
use Rattle.vc_base.specs.declared.Format.{Format}
use Rattle.vc_defs.specs.Raw.{yu12, same_fourcc}
use Rattle.vc_defs.specs.Outputs.{share_line, share_output, shared_bytes}
use Rattle.vc_encode_flow.proofs.SharedBytesAreDefined.{shared_in_yu12}
use Rattle.vc_words.specs.declared.command.Command.{Command}
use Rattle.vc_words.specs.declared.command.Command.TheVariants.{Script, Encode, Decode, Make, Share, Transcode, Audit, Wire}
use Rattle.vc_words.specs.declared.command.ShareOptions.{ShareOptions}
use Rattle.vc_words.specs.Options.{number_for}
use Rattle.vc_words.specs.Formats.{width_option, height_option, encoder_format, is_as_asked, sized_format}
use Rattle.vc_words.specs.Commands.{contexts_option, shared_pictures_option, number_option, workers_option, script_options, encode_options, decode_options}
use Rattle.vc_words.specs.Commands.{make_options, share_options, transcode_options, audit_options, wire_options, command_of}
use Rattle.vc_top.specs.Shares.{context_line, share_lines, ShareLinesAreDefined}
use Rattle.vc_top.specs.Words.{is_built_command, only_built_command, asked_command}
use Rattle.vc_desk.proofs.Meanings.{AllSome, all_bind, any, every, all_map, all_cond, one, nothing, where_some}

-- The format of the sharing

same_as : (f g : Fourcc) → same_fourcc f g ≡ true → f ≡ g
same_as f g e = ap (λ (l : List ℕ). let x : Fourcc = record { 0 = l } in x) ((bytes_eq-Decides f.0 g.0).0 e)

abbrev InYu12 : Format → Type 0
InYu12 format = format.fourcc ≡ yu12

front : (a b : Bool) → (a && b) ≡ true → a ≡ true
front true b e = refl
front false b e = absurd (false≢true e)

front_of_three : (a b c : Bool) → (a && b && c) ≡ true → a ≡ true
front_of_three a b c e = front a b (front (a && b) c e)

kept_split : (format : Format) (width height : ℕ) (t : Bool) → is_as_asked yu12 width height format ≡ t → AllSome InYu12 (cond t (Some format) None)
kept_split format width height true e =
    one InYu12 format (same_as format.fourcc yu12 (front_of_three (same_fourcc format.fourcc yu12) (nat_eq format.width width) (nat_eq format.height height) e))
kept_split format width height false e = nothing InYu12

sized : (options : List (List ℕ)) → AllSome InYu12 (sized_format yu12 options)
sized options =
    all_bind (λ (a : ℕ). Unit {0}) InYu12 _ (number_for width_option options) (any _)
    (λ width u. all_bind (λ (a : ℕ). Unit {0}) InYu12 _ (number_for height_option options) (any _) (λ height u2. kept_split (encoder_format yu12 width height) width height _ refl))

abbrev SharesYu12 : ShareOptions → Type 0
SharesYu12 options = options.format.fourcc ≡ yu12

shares : (options : List (List ℕ)) → AllSome SharesYu12 (share_options options)
shares options =
    all_cond SharesYu12 _ _ None
    (all_bind (λ (a : ℕ). Unit {0}) SharesYu12 _ (number_for contexts_option options) (any _) (λ contexts u1.
    all_bind InYu12 SharesYu12 _ (sized_format yu12 options) (sized options) (λ format e.
    all_bind (λ (a : ℕ). Unit {0}) SharesYu12 _ (number_for shared_pictures_option options) (any _) (λ pictures u2.
    all_bind (λ (a : ℕ). Unit {0}) SharesYu12 _ (number_for number_option options) (any _) (λ number u3.
    all_bind (λ (a : ℕ). Unit {0}) SharesYu12 _ (number_for workers_option options) (any _) (λ workers u4.
    one SharesYu12 _ e))))))
    (nothing SharesYu12)

abbrev IfShare : Command → Type 0
IfShare (Share options) = SharesYu12 options
IfShare command = Unit {0}

commands : (words : List (List ℕ)) → AllSome IfShare (command_of words)
unfolding command_of
commands [] = nothing IfShare
commands (command ∷ options) =
    all_cond IfShare (bytes_eq command (codes "script")) _ _ (every IfShare Script (script_options options) (λ o. tt))
    (all_cond IfShare (bytes_eq command (codes "encode")) _ _ (every IfShare Encode (encode_options options) (λ o. tt))
    (all_cond IfShare (bytes_eq command (codes "decode")) _ _ (every IfShare Decode (decode_options options) (λ o. tt))
    (all_cond IfShare (bytes_eq command (codes "make")) _ _ (every IfShare Make (make_options options) (λ o. tt))
    (all_cond IfShare (bytes_eq command (codes "share")) _ _ (all_map IfShare Share (share_options options) (shares options))
    (all_cond IfShare (bytes_eq command (codes "transcode")) _ _ (every IfShare Transcode (transcode_options options) (λ o. tt))
    (all_cond IfShare (bytes_eq command (codes "audit")) _ _ (every IfShare Audit (audit_options options) (λ o. tt))
    (all_cond IfShare (bytes_eq command (codes "wire")) _ _ (every IfShare Wire (wire_options options) (λ o. tt)) (nothing IfShare))))))))

built : (o : Option Command) → AllSome IfShare o → AllSome IfShare (only_built_command o)
built None h = nothing IfShare
built (Some command) h =
    all_cond IfShare (is_built_command command) (Some command) None h (nothing IfShare)

-- The lines

same_lines : (f g : ℕ → List ℕ) (ks : List ℕ) → ((k : ℕ) → f k ≡ g k) → flat_map f ks ≡ flat_map g ks
same_lines f g [] e = refl
same_lines f g (k ∷ ks) e =
    ap (λ (l : List ℕ). l ++ flat_map f ks) (e k) ∙ ap (λ (l : List ℕ). g k ++ l) (same_lines f g ks e)

defined : (options : ShareOptions) → SharesYu12 options → share_lines options ≡ share_output options.contexts options.format.width options.format.height options.pictures options.number
unfolding share_lines share_output
defined options e =
    same_lines (context_line options)
    (λ (k : ℕ). share_line k options.pictures (shared_bytes options.format.width options.format.height options.pictures (options.number + k)))
    (range_with_len 0 options.contexts)
    (λ k. ap (share_line k options.pictures) (shared_in_yu12 options.format options.pictures (options.number + k) e))

pub share_lines_are_defined : ShareLinesAreDefined
share_lines_are_defined words options e =
    defined options (where_some IfShare (asked_command words) (built (command_of words) (commands words)) (Share options) e)
