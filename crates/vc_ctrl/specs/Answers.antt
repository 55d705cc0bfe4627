-- What setting a control answers and leaves, where the kind has it, it is writable and the value is in range.
use Rattle.std.specs.Prelude.{Option, Some, None, Result, Ok, Err}
use Rattle.vc_base.specs.declared.Errno.{Errno}
use Rattle.vc_base.specs.declared.Errno.TheVariants.{Inval}
use Rattle.vc_defs.specs.Encoder.{RunRates}

-- the answer of a call that sets the rates to these
abbrev pub set_answer : Option RunRates → Result (Unit {0}) Errno
set_answer None = Err Inval
set_answer (Some rates) = Ok tt
