use Rattle.std.proofs.Common.{◌∙◌, ap, length, sym}
use Rattle.std.specs.Vec.{with_items}
use Rattle.outlet.specs.Outlets.{held}
use Rattle.turn.specs.Calls.{call_of}
use Rattle.plan_session.proofs.Called.{agrees_kept, called}
use Rattle.plan_session.proofs.making.Making.make.Goals as goal

pub invariant_of-making-2-clause-agrees : goal.invariant_of-making-2-clause-agrees
invariant_of-making-2-clause-agrees g c = agrees_kept c.args.self.terms c.in-Draft.draft c.make-turn.result.1 c.make-turn.result.0 (c.args.self.agrees c.in-Draft.draft c.in-Draft.is) c.make-turn.ensures.same

pub invariant_of-making-2-clause-room : goal.invariant_of-making-2-clause-room
invariant_of-making-2-clause-room g c = sym (with_items c.args.self.work c.make-turn.new.work).ok.0 ∙ c.args.self.work.ok.0 ∙ c.args.self.room

pub returns : goal.returns
returns g c =
    let self = c.args.self in
    let d = c.in-Draft.draft in
    called g.P.Ordinate.kind g.P.Distance.measure g.R.Reduction.rule self.terms self.turn c.make-turn.result.0 d (held self.table.records) (held c.make-turn.new.outlet.records) (held c.count.new.self.records)
    (length c.as_mut_slice.result.now) 99 c.count.result self.end (call_of c.args.call.now) c.make-turn.result.1 c.reply_to-reply.result
    c.in-Draft.is (self.agrees d c.in-Draft.is) self.ended (ap length c.as_mut_slice.ensures.value ∙ self.room) c.make-turn.ensures.outcome c.make-turn.ensures.sealed
    c.count.ensures.value (ap (λ t. held t.records) c.count.ensures.same) c.reply_to-reply.ensures
