-- The exit status of a call of the program.
use Rattle.std.specs.Prelude.{ℕ}
use Rattle.marseille.specs.declared.status.Status.{Status}
use Rattle.marseille.specs.declared.status.Status.TheVariants.{Done, Refused, Words, Memory, Read, Write}

-- the number that the process ends with
abbrev pub number_of_status : Status → ℕ
number_of_status Done = 0
number_of_status Refused = 1
number_of_status Words = 2
number_of_status Memory = 3
number_of_status Read = 4
number_of_status Write = 5
