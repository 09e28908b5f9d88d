-- The ticks that a stretch covers: from S + k L / 2^d to S + (k + 1) L / 2^d.
use Rattle.std.specs.Prelude.{◌≡◌, ℕ, ◌+◌, ◌-◌, ◌*◌, ◌^◌, ◌≤◌}
use Rattle.leg.specs.declared.leg.Stretch.{Stretch}

-- how many cells of its depth a span has
abbrev pub cells : Stretch → ℕ
cells h = 2 ^ h.cell.depth

-- Where the stretch begins and ends, in units of 1 / 2^d of a tick: so it lasts L of them.
abbrev pub begins_at : Stretch → ℕ
begins_at h = cells h * h.from + h.cell.index * h.ticks

abbrev pub ends_at : Stretch → ℕ
ends_at h = begins_at h + h.ticks

abbrev pub Covers : Stretch → ℕ → Type 0
Covers h a = (begins_at h ≤ cells h * a) × (cells h * a ≤ ends_at h)

-- The local moment of the tick a, in L-ths of the stretch: 2^d (a - S) - k L.
abbrev pub moment : Stretch → ℕ → ℕ
moment h a = cells h * a - begins_at h

-- The stretch h begins at the very moment at which p ends; the fractions are compared across.
abbrev pub Abuts : Stretch → Stretch → Type 0
Abuts p h = ends_at p * cells h ≡ begins_at h * cells p
