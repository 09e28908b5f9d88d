use Rattle.std.proofs.Common.{◌≡◌, ℕ, ◌-◌, ◌*◌, List, length, take, drop, replicate, sym, ap, ◌∙◌, ap₂, arith, length-drop, length-take}
use Rattle.std.proofs.Math.Nat.{min-eq_left}
use lib.Seq.{paste}
use Rattle.std.proofs.lemmas.List.{length-replicate}
use Rattle.std.proofs.lemmas.Slice.{put_mid-paste}
use Rattle.ordinate.specs.Octets.{be}
use Rattle.card.specs.Records.{record_length}
use Rattle.card.proofs.Headers.{place_below, places_between}
use Rattle.card_writer.proofs.card_outlet.drop_records.Goals as goal

pub returns : goal.returns
returns g c =
    let K = g.P.Ordinate.kind in
    let xs = c.args.octets.now in
    let n = c.args.n in
    let m = c.args.m in
    let from = c.place_of-from.result in
    let to = c.place_of-to.result in
    let ef = c.place_of-from.ensures ∙ min-eq_left (place_below (record_length K) n m (length xs) c.requires.0 c.requires.1) in
    let et = c.place_of-to.ensures ∙ min-eq_left c.requires.1 in
    let w : ℕ = record_length K * (m - n) in
    let span : to - from ≡ w = ap₂ (λ (s t : ℕ). s - t) et ef ∙ places_between (record_length K) n m c.requires.0 in
    let len : length (take (to - from) (drop from xs)) ≡ w = omega (arith, length-take (to - from) (drop from xs), length-drop from xs, c.requires.1) in
    let cleared : c.clear.new.into ≡ replicate w 0 = cc in
    c.write_count.ensures.long (omega arith)
    ∙ ap (λ (ys : List ℕ). paste ys 4 (be 4 n) 4)
    (put_mid-paste from (to - from) xs c.clear.new.into (replicate w 0) w cleared (sym span) (sym (length-replicate w 0))
    ∙ ap (λ (at : ℕ). paste xs at (replicate w 0) w) ef)
