use Rattle.std.proofs.Common.{◌≡◌, ◌-◌, replicate, drop, take, length, vec_items, ◌∙◌, ap, arith, rules}
use Rattle.std.proofs.lemmas.List.{length-take, length-drop}
use Rattle.outlet.proofs.Tables.{blank_from_keep}
use Rattle.outlet.proofs.table.RecordTableOutlet.keep.Goals as goal

pub invariant_of-self : goal.invariant_of-self
invariant_of-self g c =
    let t = c.self.inside in
    let n = c.args.n in
    let k = t.count - n in
    let xs = vec_items t.records in
    let size : length (take k (drop n c.deref_mut.result.now)) ≡ k = rw (c.deref_mut.ensures.value) (omega (arith, length-take k (drop n xs), length-drop n xs, c.self.invariant.0)) in
    blank_from_keep n t.count _ xs _ _ _ c.if-n-self.true c.self.invariant (search rules) c.deref_mut.ensures.value (c.overwrite.ensures ∙ ap (λ m. replicate m t.blank) size)
