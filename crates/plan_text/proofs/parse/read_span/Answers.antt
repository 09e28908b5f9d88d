use Rattle.std.proofs.Common.{◌≡◌, w64, SFits, rules}
use Rattle.std.specs.Option.{option_map}
use Rattle.plan_text.proofs.Names.{ticks_word}
use Rattle.plan_text.proofs.Points.{no_span_ticks, span_told}
use Rattle.plan_text.proofs.parse.read_span.Goals as goal

pub returns-in_default : goal.returns-in_default
returns-in_default c = no_span_ticks c.args.lexer (c.in_default.ensures ticks_word)

pub returns : goal.returns
returns c =
    let fits : SFits w64 c.in-Some.ticks = search rules in
    let e : c.map.result ≡ option_map (λ v. record { ticks = c.in-Some.ticks; points = v }) c.in_ok-points.points = search rules in
    rw e (span_told c.args.lexer c.in-Some.rest c.in-Some.ticks (c.in-Some.ensures ticks_word) c.in_ok-points.points c.in_ok-points.ensures)
