-- What a call came to, by its number.
use Rattle.std.specs.Prelude.{ℕ, ◌≡◌}
use Rattle.vc_c.specs.declared.status.Status.{Status}
use Rattle.vc_c.specs.declared.status.Status.TheVariants.{Done, NotMade, InUse, BadNumber, BadLength, WantsRoom, NoMemory, TooManySteps}

-- the number of a status, as c/sirgumba.h has it
abbrev pub number_of : Status → ℕ
number_of Done = 0
number_of NotMade = 1
number_of InUse = 2
number_of BadNumber = 3
number_of BadLength = 4
number_of WantsRoom = 5
number_of NoMemory = 6
number_of TooManySteps = 10

-- the number is that of a status for which this holds
abbrev pub Tells : ℕ → (Status → Type 0) → Type 0
Tells number holds = (status : Status) × (number ≡ number_of status) × holds status
