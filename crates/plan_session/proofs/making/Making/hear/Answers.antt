use Rattle.std.proofs.Common.{◌≡◌, ◌≢◌, MatchOption, ◌∙◌, List, ℤ, w64, FitsSigned, map, rules, sym, subst, subst₂}
use Rattle.std.proofs.lemmas.Int.{to_z-of_z}
use Rattle.turn.specs.Calls.Call.{lay}
use Rattle.plan_text.specs.Forms.{form_of}
use Rattle.plan_text.specs.declared.form.Form.{Form}
use Rattle.plan_session.specs.Makings.{Answers, AnswersOpen, made}
use Rattle.plan_session.specs.declared.making.Making.{Making}
use Rattle.plan_session.specs.declared.reply.Reply.{Reply}
use Rattle.plan_session.proofs.Typed.{span_answers}
use Rattle.plan_session.proofs.making.Making.hear.Goals.{in-Span+in-Ok-Some, in-Strike, in-Seal}
use Rattle.plan_session.proofs.making.Making.hear.Goals as goal

pub returns-clause-answers : goal.returns-clause-answers
returns-clause-answers g c =
    let K = g.P.Ordinate.kind in
    let M = g.P.Distance.measure in
    let T = g.R.Reduction.rule in
    let at = g.P.Notation.at in
    let m = made K M T c.args.self in
    let by : (f : Form) (s : Making g.row.P.Denot g.row.R.Denot × Reply) → c.args.form.now ≡ f → c.match-form.making ≡ s → Answers at m (form_of f) s.1 (made K M T s.0) → Answers at m (form_of c.args.form.now) c.match-form.making.1 (made K M T c.match-form.making.0) =
    (λ f s e k a. subst (λ (x : Making g.row.P.Denot g.row.R.Denot × Reply). Answers at m (form_of c.args.form.now) x.1 (made K M T x.0)) (sym k) (subst (λ (x : Form). Answers at m (form_of x) s.1 (made K M T s.0)) (sym e) a)) in
    elim c.match-form.branch [
      | in-Span+in-Ok-Some w ↦ by _ w.make.result w.in-Span.is w.making-is
          (span_answers at m (made K M T w.make.result.0) w.in-Span.span.ticks w.in-Span.span.points.items w.in-Ok-Some.points.items w.make.result.1 (subst (λ v. MatchOption v ((ps : List g.row.P.Denot) → map at ps ≢ w.as_slice.result.now) (λ v. map at v.items ≡ w.as_slice.result.now)) w.in-Ok-Some.field-0-is w.in-Ok-Some.ensures ∙ w.as_slice.ensures.value)
          (let fits : FitsSigned w64 w.in-Span.span.ticks = search rules in
          subst₂ (λ (xs : List g.row.P.Denot) (l : ℤ). AnswersOpen m (lay xs l 99) w.make.result.1 (made K M T w.make.result.0)) w.as_slice-in-Ok-Some.ensures.value (to_z-of_z w64 w.in-Span.span.ticks fits) w.make.ensures))
      | in-Strike w ↦ by _ w.make-in-Strike.result w.in-Strike.is w.making-is w.make-in-Strike.ensures
      | in-Seal w ↦ by _ w.make-in-Seal.result w.in-Seal.is w.making-is w.make-in-Seal.ensures
    ]
