use Rattle.std.proofs.Common.{◌≡◌, sym, ap, ◌∙◌, subst, rules}
use Rattle.std.specs.Option.{option_map}
use Rattle.plan_text.specs.declared.form.Form.TheVariants.{Turn, Span}
use Rattle.plan_text.specs.Forms.{form_of, Says}
use Rattle.plan_text.specs.Lexing.{left}
use Rattle.plan_text.specs.Reading.{ReadsOne, Any, head_marks, span_of}
use Rattle.plan_text.proofs.Grammars.{says_nothing, says_turn, says_span, says_strike, says_seal, turn_in_memory, span_in_memory, strike_in_memory, seal_in_memory}
use Rattle.plan_text.proofs.parse.read_form.Goals as goal

pub returns-in_default : goal.returns-in_default
returns-in_default c = says_nothing c.args.line.now c.new.result (ap (λ l. l.first) c.new.ensures) (ap left c.new.ensures) c.in_default.ensures

pub returns-in-Turn : goal.returns-in-Turn
returns-in-Turn c =
    let e : c.map.result ≡ option_map Turn c.read_turn.result = search rules in
    subst (Says c.args.line.now) (sym (ap (option_map form_of) e ∙ turn_in_memory c.read_turn.result))
    (says_turn c.args.line.now c.new.result (ap (λ l. l.first) c.new.ensures) (ap left c.new.ensures) c.in-Some.rest
    (subst (λ h. ReadsOne head_marks Any c.new.result h c.in-Some.rest) c.in-Turn.is c.in-Some.ensures) c.read_turn.result c.read_turn.ensures)

pub returns-in_ok-read_span-in-Span : goal.returns-in_ok-read_span-in-Span
returns-in_ok-read_span-in-Span c =
    let o = c.in_ok-read_span-in-Span.field-0 in
    let e : c.map-in-Span.result ≡ option_map Span o = search rules in
    subst (Says c.args.line.now) (sym (ap (option_map form_of) e ∙ span_in_memory o))
    (says_span c.args.line.now c.new.result (ap (λ l. l.first) c.new.ensures) (ap left c.new.ensures) c.in-Some.rest
    (subst (λ h. ReadsOne head_marks Any c.new.result h c.in-Some.rest) c.in-Span.is c.in-Some.ensures) (option_map span_of o) c.in_ok-read_span-in-Span.ensures)

pub returns-in-Strike : goal.returns-in-Strike
returns-in-Strike c =
    subst (Says c.args.line.now) (sym (ap (option_map form_of) c.then_some.ensures ∙ strike_in_memory c.is_closed.result))
    (says_strike c.args.line.now c.new.result (ap (λ l. l.first) c.new.ensures) (ap left c.new.ensures) c.in-Some.rest
    (subst (λ h. ReadsOne head_marks Any c.new.result h c.in-Some.rest) c.in-Strike.is c.in-Some.ensures) c.is_closed.result c.is_closed.ensures.0 c.is_closed.ensures.1)

pub returns-in-Seal : goal.returns-in-Seal
returns-in-Seal c =
    subst (Says c.args.line.now) (sym (ap (option_map form_of) c.then_some-in-Seal.ensures ∙ seal_in_memory c.is_closed-in-Seal.result))
    (says_seal c.args.line.now c.new.result (ap (λ l. l.first) c.new.ensures) (ap left c.new.ensures) c.in-Some.rest
    (subst (λ h. ReadsOne head_marks Any c.new.result h c.in-Some.rest) c.in-Seal.is c.in-Some.ensures) c.is_closed-in-Seal.result c.is_closed-in-Seal.ensures.0 c.is_closed-in-Seal.ensures.1)
