use Rattle.std.proofs.Common.{sym, ap, ◌∙◌, w64, of_z}
use Rattle.std.proofs.lemmas.Int.{to_z-of_z}
use Rattle.ordinate.specs.Octets.{be}
use Rattle.ordinate.specs.Laws.Octets.{be_8, twos_is}
use Rattle.ordinate.proofs.coordinate.to_octets.Goals as goal

pub returns : goal.returns
returns c =
    c.to_be_bytes.ensures ∙ sym (be_8 _) ∙ ap (be 8) (ap (of_z w64) (to_z-of_z w64 c.args.value c.ranges.value) ∙ sym (twos_is c.args.value))
