use Rattle.std.proofs.Common.{sym, ap, ◌∙◌, arith}
use Rattle.std.proofs.lemmas.Grind.{common_steps}
use Rattle.card.specs.Records.{field}
use Rattle.card.proofs.Codec.{record_length_is, spare_read, leg_read, leg_written}
use Rattle.card.proofs.record.read_record.Goals as goal

pub returns-then-octets-length_of_record : goal.returns-then-octets-length_of_record
returns-then-octets-length_of_record g c l il e = let len = record_length_is g.P.Ordinate.kind l in grind (arith, common_steps)

pub returns-then-spare-ne0 : goal.returns-then-spare-ne0
returns-then-spare-ne0 g c l il e =
    c.if-spare-ne0.true (c.field-spare.ensures ∙ ap (field 10 2) (sym e) ∙ spare_read g.P.Ordinate.kind g.met.P.Ordinate.lawful l)

pub returns-then-is_leg : goal.returns-then-is_leg
returns-then-is_leg g c =
    let written = leg_written g.P.Ordinate.kind g.met.P.Ordinate.lawful c.args.octets.now (λ i. (c.type_inv.octets i).fits) in
    grind (arith, common_steps)

-- The leg that these octets would write is the data that stands in them, and that is no leg.
pub returns-else-is_leg : goal.returns-else-is_leg
returns-else-is_leg g c l il e = let read = leg_read g.P.Ordinate.kind g.met.P.Ordinate.lawful l il in grind (arith, common_steps)
