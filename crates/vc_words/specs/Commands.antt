-- What the words of the command line ask for: docs/FORMAT.md, "Words".
use Rattle.std.specs.Prelude.{ℕ, if◌then◌else◌, List, [], ◌∷◌, codes, bytes_eq, Option, Some, None}
use Rattle.std.specs.Option.{option_map}
use Rattle.vc_base.specs.Limits.{most_gop, most_quantiser, most_slots, script_workers}
use Rattle.vc_defs.specs.Raw.{yu12}
use Rattle.vc_script.specs.Optional.{◌>>=◌}
use Rattle.vc_words.specs.declared.options.Name.{Name}
use Rattle.vc_words.specs.declared.options.Name.TheVariants as names
use Rattle.vc_words.specs.declared.options.NumberOption.{NumberOption}
use Rattle.vc_words.specs.declared.command.Command.{Command}
use Rattle.vc_words.specs.declared.command.Command.TheVariants.{Script, Encode, Decode, Make, Share, Transcode, Audit, Wire}
use Rattle.vc_words.specs.declared.command.ScriptOptions.{ScriptOptions}
use Rattle.vc_words.specs.declared.command.RateOptions.{RateOptions}
use Rattle.vc_words.specs.declared.command.EncodeOptions.{EncodeOptions}
use Rattle.vc_words.specs.declared.command.DecodeOptions.{DecodeOptions}
use Rattle.vc_words.specs.declared.command.MakeOptions.{MakeOptions}
use Rattle.vc_words.specs.declared.command.ShareOptions.{ShareOptions}
use Rattle.vc_words.specs.declared.command.TranscodeOptions.{TranscodeOptions}
use Rattle.vc_words.specs.declared.command.AuditOptions.{AuditOptions}
use Rattle.vc_words.specs.declared.command.WireOptions.{WireOptions}
use Rattle.vc_words.specs.Options.{are_options, number_for}
use Rattle.vc_words.specs.Formats.{format_for, sized_format}

-- The options that are numbers: the range, and what counts where the option is not named.
abbrev pub slots_option : NumberOption
slots_option = record { name = names.Slots; least = 1; most = most_slots; unnamed = 16 }

abbrev pub gop_option : NumberOption
gop_option = record { name = names.Gop; least = 1; most = most_gop; unnamed = 10 }

abbrev pub iqp_option : NumberOption
iqp_option = record { name = names.Iqp; least = 1; most = most_quantiser; unnamed = 20 }

abbrev pub pqp_option : NumberOption
pqp_option = record { name = names.Pqp; least = 1; most = most_quantiser; unnamed = 20 }

abbrev pub workers_option : NumberOption
workers_option = record { name = names.Workers; least = 1; most = script_workers; unnamed = 4 }

abbrev pub made_pictures_option : NumberOption
made_pictures_option = record { name = names.Pictures; least = 1; most = 1000000; unnamed = 1 }

abbrev pub shared_pictures_option : NumberOption
shared_pictures_option = record { name = names.Pictures; least = 1; most = 1000; unnamed = 10 }

abbrev pub number_option : NumberOption
number_option = record { name = names.Number; least = 0; most = 1000000; unnamed = 0 }

abbrev pub contexts_option : NumberOption
contexts_option = record { name = names.Contexts; least = 1; most = 64; unnamed = 8 }

-- the second where the words are pairs of these names and values, and none else
abbrev pub with_names : {A : Type 0} → List Name → List (List ℕ) → Option A → Option A
with_names names options asked = if are_options names options then asked else None

abbrev pub rates_for : List (List ℕ) → Option RateOptions
rates_for options =
    number_for gop_option options >>= (λ gop.
    number_for iqp_option options >>= (λ iqp.
    number_for pqp_option options >>= (λ pqp. Some (record { gop = gop; iqp = iqp; pqp = pqp }))))

abbrev pub script_options : List (List ℕ) → Option ScriptOptions
script_options options =
    with_names (names.Slots ∷ []) options (number_for slots_option options >>= (λ slots. Some (record { slots = slots })))

abbrev pub encode_options : List (List ℕ) → Option EncodeOptions
encode_options options =
    with_names (names.Format ∷ names.Width ∷ names.Height ∷ names.Gop ∷ names.Iqp ∷ names.Pqp ∷ names.Workers ∷ []) options
    (format_for options >>= (λ format.
    rates_for options >>= (λ rates.
    number_for workers_option options >>= (λ workers. Some (record { format = format; rates = rates; workers = workers })))))

abbrev pub decode_options : List (List ℕ) → Option DecodeOptions
decode_options options =
    with_names (names.Workers ∷ []) options (number_for workers_option options >>= (λ workers. Some (record { workers = workers })))

abbrev pub make_options : List (List ℕ) → Option MakeOptions
make_options options =
    with_names (names.Format ∷ names.Width ∷ names.Height ∷ names.Pictures ∷ names.Number ∷ []) options
    (format_for options >>= (λ format.
    number_for made_pictures_option options >>= (λ pictures.
    number_for number_option options >>= (λ number. Some (record { format = format; pictures = pictures; number = number })))))

abbrev pub share_options : List (List ℕ) → Option ShareOptions
share_options options =
    with_names (names.Contexts ∷ names.Pictures ∷ names.Width ∷ names.Height ∷ names.Number ∷ names.Workers ∷ []) options
    (number_for contexts_option options >>= (λ contexts.
    sized_format yu12 options >>= (λ format.
    number_for shared_pictures_option options >>= (λ pictures.
    number_for number_option options >>= (λ number.
    number_for workers_option options >>= (λ workers.
    Some (record { contexts = contexts; format = format; pictures = pictures; number = number; workers = workers })))))))

abbrev pub transcode_options : List (List ℕ) → Option TranscodeOptions
transcode_options options =
    with_names (names.Gop ∷ names.Iqp ∷ names.Pqp ∷ names.Workers ∷ []) options
    (rates_for options >>= (λ rates.
    number_for workers_option options >>= (λ workers. Some (record { rates = rates; workers = workers }))))

abbrev pub audit_options : List (List ℕ) → Option AuditOptions
audit_options options =
    with_names (names.Slots ∷ []) options (number_for slots_option options >>= (λ slots. Some (record { slots = slots })))

abbrev pub wire_options : List (List ℕ) → Option WireOptions
wire_options options =
    with_names (names.Slots ∷ []) options (number_for slots_option options >>= (λ slots. Some (record { slots = slots })))

-- what the words of a command line ask for: a command, and then its options
unfoldable pub command_of : List (List ℕ) → Option Command
command_of [] = None
command_of (command ∷ options) =
    if bytes_eq command (codes "script") then option_map Script (script_options options)
    else if bytes_eq command (codes "encode") then option_map Encode (encode_options options)
    else if bytes_eq command (codes "decode") then option_map Decode (decode_options options)
    else if bytes_eq command (codes "make") then option_map Make (make_options options)
    else if bytes_eq command (codes "share") then option_map Share (share_options options)
    else if bytes_eq command (codes "transcode") then option_map Transcode (transcode_options options)
    else if bytes_eq command (codes "audit") then option_map Audit (audit_options options)
    else if bytes_eq command (codes "wire") then option_map Wire (wire_options options)
    else None
