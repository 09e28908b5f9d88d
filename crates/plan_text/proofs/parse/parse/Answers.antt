use Rattle.std.proofs.Common.{◌≡◌, Some}
use Rattle.std.specs.Option.{option_map}
use Rattle.std.proofs.lemmas.Result.{IfOk-weaker}
use Rattle.plan_text.specs.Forms.{form_of, Says}
use Rattle.plan_text.proofs.OneForm.{one_form, said_form}
use Rattle.plan_text.proofs.parse.parse.Goals as goal

pub returns-clause-again : goal.returns-clause-again
returns-clause-again c f g e = IfOk-weaker c.read_form.result (λ form. Says c.args.line.now (option_map form_of form)) (λ form. option_map form_of form ≡ Some f) (λ form s. said_form c.args.line.now (option_map form_of form) s f g e) c.read_form.ensures

pub returns-clause-one : goal.returns-clause-one
returns-clause-one c = one_form
