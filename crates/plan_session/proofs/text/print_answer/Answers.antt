use Rattle.std.proofs.Common.{◌≡◌, ℕ, List, ◌∷◌, ◌++◌, ap, subst, sym, vec_items, ◌∙◌}
use Rattle.std.proofs.lemmas.List.{append-nil}
use Rattle.plan_session.specs.Promises.{Promise}
use Rattle.plan_session.specs.Sessions.{SaysAndHears}
use Rattle.plan_session.specs.Texts.{Adds, legs_before}
use Rattle.plan_session.specs.Views.{View, view_of}
use Rattle.plan_session.specs.declared.reply.Reply.{Reply}
use Rattle.plan_session.proofs.Stages.{ok_map}
use Rattle.plan_session.proofs.Texted.{adds, line_seals, no_legs}
use Rattle.plan_session.proofs.text.print_answer.Goals.{in-Sealed+in_ok-print_legs, in_default}
use Rattle.plan_session.proofs.text.print_answer.Goals as goal

pub returns : goal.returns
returns c =
    let line = c.args.line.now in
    let v = view_of c.args.session.now in
    let u = view_of c.next.new.self in
    let reply = c.in_ok-number.reply in
    let before = vec_items c.args.printed.now in
    let heard = c.in_ok-number.ensures.heard in
    let same : c.match-reply.session ≡ c.next.new.self = elim c.match-reply.branch [
      | in-Sealed+in_ok-print_legs w ↦ w.session-is ∙ w.print_legs.ensures.same
      | in_default w ↦ w.session-is
    ] in
    let printed : (lines : List (List ℕ)) → Promise lines u.state → vec_items c.match-reply.printed ≡ before ++ legs_before reply u.state = elim c.match-reply.branch [
      | in-Sealed+in_ok-print_legs w ↦ λ lines k.
          let says = subst (λ (r : Reply). SaysAndHears v.state line r u.state) w.in-Sealed.is heard.1.hears in
          let sealed = line_seals w.in-Sealed.legs w.in-Sealed.ticks v.state u.state line says in
          ap vec_items w.printed-is ∙ w.in_ok-print_legs.ensures.legs lines k sealed ∙ ap (λ (r : Reply). before ++ legs_before r u.state) (sym w.in-Sealed.is)
      | in_default w ↦ λ lines k. ap vec_items w.printed-is ∙ sym (append-nil before) ∙ ap (λ (us : List ℕ). before ++ us) (sym (no_legs reply u.state w.in_default.not-Sealed))
    ] in
    ok_map c.print_reply.result (λ done e lines k.
    let p = c.in_ok-number.ensures.promise lines k in
    let a = adds line v u c.in_ok-number.number reply before (vec_items c.match-reply.printed) (vec_items c.print_reply.new.printed) heard.0 heard.1 (printed (line ∷ lines) p) e in
    subst (λ (w : View). Adds line v before w (vec_items c.print_reply.new.printed) × Promise (line ∷ lines) w.state) (sym (ap view_of same)) (a, p)) c.print_reply.ensures
