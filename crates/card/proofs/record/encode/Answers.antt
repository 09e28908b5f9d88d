use Rattle.std.proofs.Common.{refl, ◌∙◌, arith}
use Rattle.std.proofs.lemmas.List.{append_assoc, append-nil}
use Rattle.ordinate.specs.Laws.Octets.{length_be}
use Rattle.card.proofs.Codec.{point_length}
use Rattle.card.proofs.Writing.{begun_more, begun_none, begun_whole}
use Rattle.card.proofs.record.encode.Goals as goal

pub returns : goal.returns
returns g c =
    let K = g.P.Ordinate.kind in
    let l = c.args.leg.now in
    let n = c.dimension-width.ensures in
    let b₁ = begun_more _ _ _ _ _ _ _ _ (begun_none c.args.into.now) (length_be 4 _) refl c.write_field.ensures in
    let b₂ = begun_more _ _ _ _ _ _ _ _ b₁ (length_be 2 _) refl c.write_field-2.ensures in
    let b₃ = begun_more _ _ _ _ _ _ _ _ b₂ (length_be 1 _) refl c.write_field-3.ensures in
    let b₄ = begun_more _ _ _ _ _ _ _ _ b₃ (length_be 1 _) refl c.write_field-4.ensures in
    let b₅ = begun_more _ _ _ _ _ _ _ _ b₄ (length_be 2 _) refl c.write_field-5.ensures in
    let b₆ = begun_more _ _ _ _ _ _ _ _ b₅ (length_be 2 _) refl c.write_field-6.ensures in
    let b₇ = begun_more _ _ _ _ _ _ _ _ b₆ (point_length K l.start) refl c.write_point.ensures in
    let b₈ = begun_more _ _ _ _ _ _ _ _ b₇ (point_length K l.middle) (omega arith) c.write_point-2.ensures in
    let b₉ = begun_more _ _ _ _ _ _ _ _ b₈ (point_length K l.end) (omega arith) c.write_point-3.ensures in
    begun_whole _ _ _ _ b₉ (omega arith) ∙ simp (append_assoc, append-nil)
