use Rattle.std.proofs.Common.{◌≡◌, ℕ, ◌+◌, [], ◌∷◌, ◌++◌, length, None, Option, sym, ap, ◌∙◌, subst, inr, arith}
use Rattle.std.proofs.lemmas.Fn.{FoldsTo-push}
use Rattle.std.proofs.lemmas.List.{length_push}
use Rattle.leg.specs.Chains.{Standing, Follows}
use Rattle.leg.specs.declared.leg.Leg.{Leg}
use Rattle.card.specs.Cards.{record_at}
use Rattle.card.specs.declared.refusal.Refusal.TheVariants.{BrokenChain}
use Rattle.card.proofs.Reading.{reads_standing, reads_push, last_push}
use Rattle.card.proofs.walk.fold_records.Goals as goal

pub returns-then-not-take : goal.returns-then-not-take
returns-then-not-take g c =
    let K = g.P.Ordinate.kind in
    let inv = c.loop-i.invariant in
    let n = inv.2 in
    let l = c.in-Some.leg in
    let read = c.in-Some.ensures in (
      inv.0,
      inv.1,
      omega arith,
      inr (
        (
          l,
          read.0,
          read.1 ∙ c.record_octets.ensures ∙ ap (record_at K c.args.card.now) (sym n),
          λ f. c.if-not-take.ensures.no
              (subst Standing (sym inv.3) (reads_standing K c.args.card.now 0 None inv.0 inv.1 tt), read.0.place, subst (λ (o : Option (Leg _)). Follows o l) (sym inv.3) f),
        ),
        ap BrokenChain (sym n),
      ),
    )

pub loop-i-preserved : goal.loop-i-preserved
loop-i-preserved g c =
    let K = g.P.Ordinate.kind in
    let xs = c.args.card.now in
    let inv = c.loop-i.invariant in
    let n = inv.2 in
    let l = c.in-Some.leg in
    let read = c.in-Some.ensures in
    let took = c.if-not-take.ensures.yes tt in
    let z : c.loop-i.i ≡ 0 + length inv.0 = omega arith in (
      inv.0 ++ (l ∷ []),
      reads_push K xs 0 None inv.0 l inv.1 read.0 (read.1 ∙ c.record_octets.ensures ∙ ap (record_at K xs) z) (subst (λ (o : Option (Leg _)). Follows o l) inv.3 took.2),
      length_push inv.0 l ∙ ap (λ (k : ℕ). k + 1) n,
      took.3 ∙ sym (last_push K xs None inv.0 l),
      FoldsTo-push _ _ inv.0 _ l _ inv.4 c.step-folded.ensures,
    )
