-- Writing numbers and records from the front on.
use Rattle.std.proofs.Common.{◌≡◌, ℕ, zero, suc, ◌+◌, ◌/◌, ◌%◌, List, [], ◌∷◌, ◌++◌, length, drop, sym, refl, ap, ◌∙◌, ap₂, arith}
use Rattle.std.proofs.Math.Seq.{paste, drop-append-le}
use Rattle.std.proofs.lemmas.List.Edits.{paste_all, paste_none, paste-paste}
use Rattle.std.proofs.lemmas.List.{append-nil, drop_all, length-append}
use Rattle.ordinate.specs.Octets.{be}
use Rattle.ordinate.specs.Laws.Octets.{be_suc, be_zero, length_be}

-- ---- numbers
-- The lowest octets of a number are the last of more of them.
pub drop_be : (m n x : ℕ) → drop m (be (m + n) x) ≡ be n x
drop_be m zero x = drop_all m (be (m + 0) x) (omega (arith, length_be (m + 0) x)) ∙ sym (be_zero x)
drop_be m (suc n) x =
    let z : m + suc n ≡ suc (m + n) = omega arith in
    ap (λ (k : ℕ). drop m (be k x)) z ∙ ap (drop m) (be_suc (m + n) x)
    ∙ drop-append-le m (be (m + n) (x / 256)) (x % 256 ∷ []) (omega (arith, length_be (m + n) (x / 256)))
    ∙ ap (λ (ys : List ℕ). ys ++ (x % 256 ∷ [])) (drop_be m n (x / 256))
    ∙ sym (be_suc n x)

-- ---- parts written one after another

-- xs is d with s, which has n octets, written over its front.
pub record Begun (d s : List ℕ) (n : ℕ) (xs : List ℕ) : Type 0 where
  pub long : length s ≡ n
  pub written : xs ≡ paste d 0 s n

pub begun_none : (d : List ℕ) → Begun d [] 0 d
begun_none d = record { long = refl; written = paste_none d 0 [] }

pub begun_more : (d s : List ℕ) (n : ℕ) (xs t : List ℕ) (m at : ℕ) (ys : List ℕ) → Begun d s n xs → length t ≡ m → at ≡ n → ys ≡ paste xs at t m → Begun d (s ++ t) (n + m) ys
begun_more d s n xs t m at ys b l a e =
    record {
      long = length-append s t ∙ omega (arith, b.long, l);
      written = e ∙ ap₂ (λ (us : List ℕ) (k : ℕ). paste us k t m) b.written (a ∙ omega arith) ∙ paste-paste d 0 s t n m (sym b.long) (sym l) (omega arith);
    }

pub begun_front : (d s : List ℕ) (n : ℕ) (xs : List ℕ) → Begun d s n xs → xs ≡ s ++ drop n d
begun_front d s n xs b = b.written ∙ paste_all d 0 s n (sym b.long) ∙ ap (λ (k : ℕ). s ++ drop k d) (omega arith)

pub begun_whole : (d s : List ℕ) (n : ℕ) (xs : List ℕ) → Begun d s n xs → length d ≡ n → xs ≡ s
begun_whole d s n xs b l = begun_front d s n xs b ∙ ap (λ (us : List ℕ). s ++ us) (drop_all n d (omega arith)) ∙ append-nil s
