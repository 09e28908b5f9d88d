-- What a table holds never exceeds its capacity, and with its blank leg is all that is seen of it.
use Rattle.std.proofs.Common.{◌≡◌, ◌+◌, ◌≤◌, length, ap, arith}
use Rattle.outlet.specs.Outlets.{Table, held}

module _ {P : Type 0} where
  pub held_within : (t : Table P) → length (held t).legs ≤ (held t).capacity
  held_within t = omega arith

  pub held_tells : (s t : Table P) → held s ≡ held t → s.blank ≡ t.blank → s ≡ t
  held_tells s t e b =
      let legs : s.legs ≡ t.legs = ap (λ c. c.legs) e in
      let capacity : length s.legs + s.blanks ≡ length t.legs + t.blanks = ap (λ c. c.capacity) e in
      let blanks : s.blanks ≡ t.blanks = omega (arith, ap length legs) in
      let fields : ◌≡◌ {A = Table P} (record { legs = s.legs; blanks = s.blanks; blank = s.blank }) (record { legs = t.legs; blanks = t.blanks; blank = t.blank }) = cc in
      fields
