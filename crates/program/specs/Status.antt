-- The status of a program, by what its run came to.
use Rattle.std.specs.Prelude.{ℕ, Bool, true, false, Ok, Err, Result}

-- 0 where all that was asked was done; 1 where it was refused, or could not be done.
abbrev pub status_of : {E : Type 0} → Result Bool E → ℕ
status_of (Ok true) = 0
status_of (Ok false) = 1
status_of (Err e) = 1
