use Rattle.std.proofs.Common.{◌≡◌, ◌+◌, ◌-◌, take, drop, sym, ap, ◌∙◌, arith, take_all}
use Rattle.std.proofs.lemmas.Slice.{put_mid-paste}
use Rattle.ordinate.specs.Octets.{be}
use Rattle.ordinate.specs.Laws.Octets.{be_8, length_be}
use Rattle.card.proofs.Writing.{drop_be}
use Rattle.card.proofs.octets.write_field.Goals as goal

pub returns : goal.returns
returns c =
    let n = c.args.n in
    let x = c.args.x in
    let e : 8 - n + n ≡ 8 = omega arith in
    let low = ap (drop (8 - n)) (c.to_be_bytes-octets.ensures ∙ sym (be_8 x) ∙ ap (λ k. be k x) (sym e)) ∙ drop_be (8 - n) n x in
    let written = c.copy_from_slice.ensures.after ∙ ap (take (8 - (8 - n))) low ∙ take_all (8 - (8 - n)) (be n x) (omega (arith, length_be n x)) in
    put_mid-paste c.args.at (c.args.at + n - c.args.at) c.args.into.now c.copy_from_slice.new.self (be n x) n written (omega arith) (sym (length_be n x))
