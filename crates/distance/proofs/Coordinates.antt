-- Points by their coordinates.
use Rattle.std.proofs.Common.{◌≡◌, ℕ, ◌<◌, ◌≤◌, ℤ, pos, ◌+ℤ◌, sym, ◌∙◌, ap₂, inl, inr, arith}
use mathlib.Core.Path.{fun_ext}
use lib.Signed.{shr_z}
use Rattle.std.proofs.lemmas.Bool.{cases_lt}
use Rattle.ordinate.specs.Kinds.{Kind, Lawful}
use Rattle.distance.specs.Vectors.{Vector, half}
use Rattle.distance.specs.Measures.{halfway}

module _ {P : Type 0} (K : Kind P) (law : Lawful K) where
  -- a vector that ends where the kind's coordinates do is that of a point
  pub remade : (v : Vector) → ((i : ℕ) → K.dimension ≤ i → v i ≡ pos 0) → K.coordinate (K.made v) ≡ v
  remade v z = fun_ext (λ i. elim (cases_lt i K.dimension) [ inl l ↦ law.remade v i l | inr l ↦ law.rest (K.made v) i l ∙ sym (z i l) ])

  half_rest : (a b : P) (i : ℕ) → K.dimension ≤ i → half (K.coordinate a) (K.coordinate b) i ≡ pos 0
  half_rest a b i l = ap₂ (λ (x y : ℤ). shr_z (x +ℤ y) 2) (law.rest a i l) (law.rest b i l)

  pub at_halfway : (a b : P) → K.coordinate (halfway K a b) ≡ half (K.coordinate a) (K.coordinate b)
  at_halfway a b = remade (half (K.coordinate a) (K.coordinate b)) (half_rest a b)

  -- A point whose coordinates are written one after another, from the first.
  abbrev pub Written : P → ℕ → Vector → Type 0
  Written p n f = (i : ℕ) → i < n → K.coordinate p i ≡ f i

  pub write_all : (p : P) (n : ℕ) (f : Vector) → K.dimension ≤ n → Written p n f → p ≡ K.made f
  write_all p n f h w = law.same p (K.made f) (λ i l. w i (omega arith) ∙ sym (law.remade f i l))
