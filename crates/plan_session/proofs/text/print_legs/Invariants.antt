use Rattle.std.proofs.Common.{◌≡◌, ◌++◌, length, vec_items}
use Rattle.plan_session.specs.Sessions.{state_of}
use Rattle.plan_session.proofs.Texted.{first_legs}
use Rattle.plan_session.proofs.text.print_legs.Given as goal

abbrev pub invariant-loop-i : goal.invariant-loop-i
invariant-loop-i l = record {
  same : l.session ≡ l.initial.session;
  room : length l.buffer ≡ 160;
  printed : vec_items l.printed ≡ vec_items l.initial.printed ++ first_legs (state_of l.initial.session.stage) l.i;
}
