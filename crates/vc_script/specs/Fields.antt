-- What a word means as one field of a line (docs/FORMAT.md, "Scripts").
use Rattle.std.specs.Prelude.{ℕ, Bool, ◌&&◌, nat_le, if◌then◌else◌, List, length, codes, bytes_eq, Option, Some, None}
use Rattle.std.specs.List.{list_all}
use Rattle.std.specs.Char.{is_ascii_digit}
use Rattle.std.specs.Str.Parse.{digits_value}
use Rattle.vc_base.specs.declared.Side.{Side}
use Rattle.vc_base.specs.declared.Side.TheVariants.{Out, Cap}
use Rattle.vc_base.specs.declared.Kind.{Kind}
use Rattle.vc_base.specs.declared.Kind.TheVariants as kinds
use Rattle.vc_base.specs.declared.Fourcc.{Fourcc}

abbrev pub side_of : List ℕ → Option Side
side_of w =
    if bytes_eq w (codes "out") then Some Out
    else if bytes_eq w (codes "cap") then Some Cap
    else None

abbrev pub kind_of : List ℕ → Option Kind
kind_of w =
    if bytes_eq w (codes "copy") then Some kinds.Copy
    else if bytes_eq w (codes "enc") then Some kinds.Enc
    else if bytes_eq w (codes "dec") then Some kinds.Dec
    else None

-- 1 to 20 decimal digits, leading zeros too, whose value is at most the limit
abbrev pub number_of : ℕ → List ℕ → Option ℕ
number_of limit w =
    if nat_le 1 (length w) && nat_le (length w) 20 && list_all is_ascii_digit w && nat_le (digits_value 10 w) limit
    then Some (digits_value 10 w)
    else None

abbrev pub printable : ℕ → Bool
printable b = nat_le 0x21 b && nat_le b 0x7e

-- four printable bytes
abbrev pub fourcc_of : List ℕ → Option Fourcc
fourcc_of w = if (nat_le 4 (length w) && nat_le (length w) 4) && list_all printable w then Some (record { 0 = w }) else None
