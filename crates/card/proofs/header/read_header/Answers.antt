use Rattle.std.proofs.Common.{◌≡◌, ℕ, length, take, sym, ap, ◌∙◌, arith}
use Rattle.std.specs.Cmp.Lexicographic.{same_text}
use Rattle.ordinate.specs.Octets.{be}
use Rattle.card.proofs.Carried.{front_length}
use Rattle.card.proofs.Codec.{field_written}
use Rattle.card.proofs.header.read_header.Goals as goal

pub returns : goal.returns
returns g c =
    let K = g.P.Ordinate.kind in
    let xs = c.args.card.now in
    let e = c.front.ensures in
    let four : length c.front.result ≡ 4 = ap length e ∙ front_length K in
    let begins : c.front.result ≡ take (length c.front.result) xs = same_text _ _ c.if-not-starts_with.ensures.value in
    record {
      long = c.if-card-lt-HEADER.false;
      fronted = ap (λ (k : ℕ). take k xs) (sym four) ∙ sym begins ∙ e;
      count = c.field-count.ensures;
      written = ap (be 4) c.field-count.ensures ∙ field_written xs (λ i. (c.type_inv.card i).fits) 4 4 c.if-card-lt-HEADER.false;
      fits = omega (arith, c.capacity.ensures);
    }
