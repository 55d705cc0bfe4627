-- The exit status of the program, and what it says of its end on standard error.
use Rattle.std.specs.Prelude.{ℕ, codes, List}
use Rattle.vc_top.specs.declared.status.Status.{Status}
use Rattle.vc_top.specs.declared.status.Status.TheVariants.{Fine, Usage, ReadFault, WriteFault, BadLine, Damaged, ShortRaw, EngineFault, TooLong, NotARun, NoMemory, BadMessage}

abbrev pub status_number : Status → ℕ
status_number Fine = 0
status_number Usage = 2
status_number ReadFault = 3
status_number WriteFault = 4
status_number (BadLine line) = 5
status_number Damaged = 6
status_number ShortRaw = 7
status_number EngineFault = 8
status_number TooLong = 10
status_number (NotARun line) = 11
status_number NoMemory = 12
status_number (BadMessage at) = 13

-- the words; where there is a line or a byte, its number comes behind them
abbrev pub status_text : Status → List ℕ
status_text Fine = codes "fine"
status_text Usage = codes "usage"
status_text ReadFault = codes "read fault"
status_text WriteFault = codes "write fault"
status_text (BadLine line) = codes "bad line"
status_text Damaged = codes "damaged stream"
status_text ShortRaw = codes "short raw picture"
status_text EngineFault = codes "engine fault"
status_text TooLong = codes "too long"
status_text (NotARun line) = codes "not a run, line"
status_text NoMemory = codes "no memory"
status_text (BadMessage at) = codes "bad message at"
