use Rattle.std.proofs.Common.{sym}
use Rattle.card.proofs.Headers.{front_is}
use Rattle.card.proofs.header.front.Goals as goal

pub returns : goal.returns
returns g c =
    let bytes = c.to_be_bytes.ensures in
    rw (c.code.ensures, bytes, c.length_of_record.ensures) (sym (front_is g.P.Ordinate.kind g.met.P.Ordinate.lawful.octet))
