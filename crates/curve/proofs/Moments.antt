-- Cells in units of 1 / 2^D of the curve: where their halves lie, which cells lie in another, and that the units compare fractions.
use Rattle.std.proofs.Common.{◌≡◌, ℕ, suc, ◌+◌, ◌-◌, ◌*◌, ◌^◌, ◌<◌, ◌≤◌, ◌↔◌, sym, ap, ◌∙◌, inl, inr, mul-le-mul_right, mul_assoc, mul-le-mul, lt_of_mul-lt-mul_right, arith, pow_pos, pow_mono, pow-add}
use native.Mathlib.Nat.{eq_of_mul-eq-mul_right, pow-succ'}
use lib.Pow.{pow-lt}
use Rattle.std.proofs.lemmas.Bool.{cases_lt}
use Rattle.leg.specs.declared.leg.Cell.{Cell}
use Rattle.curve.specs.Cells.{begin, end, left, right, span}

pub begin<end : (D : ℕ) (c : Cell) → begin D c < end D c
begin<end D c = let p = pow_pos (D - c.depth) in omega arith

-- ---- the halves

span_double : (D d : ℕ) → d < D → 2 ^ (D - d) ≡ 2 * 2 ^ (D - (d + 1))
span_double D d h = let e : D - d ≡ suc (D - (d + 1)) = omega arith in rw e (pow-succ' 2 (D - (d + 1)))

pub begin_left : (D : ℕ) (c : Cell) → c.depth < D → begin D (left c) ≡ begin D c
begin_left D c h = rw (span_double D c.depth h) (omega arith)

pub end_right : (D : ℕ) (c : Cell) → c.depth < D → end D (right c) ≡ end D c
end_right D c h = rw (span_double D c.depth h) (omega arith)

-- ---- cells in a cell

-- A cell in another that is no deeper is that other.
pub same : (D : ℕ) (c x : Cell) → c.depth ≤ D → x.depth ≤ c.depth → begin D c ≤ begin D x → end D x ≤ end D c → x ≡ c
same D c x hD h b e =
    let s : span D c ≤ span D x = pow_mono (omega arith) in
    let d : x.depth ≡ c.depth =
    elim (cases_lt x.depth c.depth) [
      | inl l ↦ let s' : span D c < span D x = pow-lt (omega arith) in absurd (omega arith)
      | inr g ↦ omega arith
    ] in
    let b' : x.index * span D x ≡ c.index * span D c = omega arith in
    let k : x.index ≡ c.index = eq_of_mul-eq-mul_right (span D c) (pow_pos (D - c.depth)) x.index c.index (rw d at b') in
    λ i. record { depth = d i; index = k i }

pub deeper : (D : ℕ) (c x : Cell) → c.depth ≤ D → (x ≡ c → ⊥) → begin D c ≤ begin D x → end D x ≤ end D c → c.depth < x.depth
deeper D c x hD n b e = elim (cases_lt c.depth x.depth) [ inl l ↦ l | inr g ↦ absurd (n (same D c x hD g b e)) ]

-- No deeper cell lies on both sides of the middle.
pub no_straddle : (D : ℕ) (c x : Cell) → c.depth < x.depth → x.depth ≤ D → begin D x < begin D (right c) → end D x ≤ begin D (right c)
no_straddle D c x h hD b =
    let n : ℕ = x.depth - (c.depth + 1) in
    let m : ℕ = (2 * c.index + 1) * 2 ^ n in
    let q : D - (c.depth + 1) ≡ n + (D - x.depth) = omega arith in
    let e : begin D (right c) ≡ m * span D x = rw (q, pow-add 2 n (D - x.depth)) (sym (mul_assoc (2 * c.index + 1) (2 ^ n) (span D x))) in
    let k : x.index < m = lt_of_mul-lt-mul_right (span D x) (rw e at b) in
    let k' : x.index + 1 ≤ m = omega arith in
    rw e (mul-le-mul_right (span D x) k')

-- ---- fractions

cross : (a b A B P Q : ℕ) → A * P ≡ B * Q → 0 < A * P → 0 < A * B → (a * P ≡ b * Q) ↔ (a * B ≡ b * A)
cross a b A B P Q e t s =
    let e' : b * A * (A * P) ≡ b * A * (B * Q) = ap (λ (n : ℕ). b * A * n) e in (
      λ h.
          let h' : a * P * (A * B) ≡ b * Q * (A * B) = ap (λ (n : ℕ). n * (A * B)) h in
          eq_of_mul-eq-mul_right (A * P) t (a * B) (b * A) (omega arith),
      λ h.
          let h' : a * B * (A * P) ≡ b * A * (A * P) = ap (λ (n : ℕ). n * (A * P)) h in
          eq_of_mul-eq-mul_right (A * B) s (a * P) (b * Q) (omega arith),
    )

pub units : (D a d b e : ℕ) → d ≤ D → e ≤ D → (a * 2 ^ (D - d) ≡ b * 2 ^ (D - e)) ↔ (a * 2 ^ e ≡ b * 2 ^ d)
units D a d b e h k =
    cross a b (2 ^ d) (2 ^ e) (2 ^ (D - d)) (2 ^ (D - e)) (all d h ∙ sym (all e k))
    (mul-le-mul (pow_pos d) (pow_pos (D - d))) (mul-le-mul (pow_pos d) (pow_pos e))
  where
    all : (i : ℕ) → i ≤ D → 2 ^ i * 2 ^ (D - i) ≡ 2 ^ D
    all i l = let q : i + (D - i) ≡ D = omega arith in rw (← pow-add 2 i (D - i), q)
