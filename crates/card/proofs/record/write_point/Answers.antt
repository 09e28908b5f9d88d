use Rattle.std.proofs.Common.{arith}
use Rattle.std.proofs.lemmas.Grind.{common_steps}
use Rattle.std.proofs.lemmas.List.Edits.{paste_none, paste-paste}
use Rattle.std.proofs.lemmas.Slice.{put_mid-paste}
use Rattle.ordinate.specs.Laws.Octets.{length_be}
use Rattle.ordinate.specs.Laws.Points.{coordinates_more, length_coordinates}
use Rattle.card.proofs.record.write_point.Goals as goal

pub loop-i-init : goal.loop-i-init
loop-i-init g c = grind (arith, common_steps, paste_none)

pub loop-i-preserved : goal.loop-i-preserved
loop-i-preserved g c = grind (arith, common_steps, put_mid-paste, paste-paste, length_be, coordinates_more, length_coordinates)
