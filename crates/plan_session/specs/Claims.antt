-- What is proved of lists of lines.
use Rattle.std.specs.Prelude.{◌≡◌, ℕ, List}
use Rattle.ordinate.specs.declared.flow.Flow.{Flow}
use Rattle.ordinate.specs.declared.branches.Branches.{Branches}
use Rattle.turn.specs.Calls.{History}
use Rattle.plan_session.specs.Makings.{Made}
use Rattle.plan_session.specs.Promises.{Promise, Tells}
use Rattle.plan_session.specs.Sessions.{State, flow_turn, box_turn, flow_at, box_at}
use Rattle.plan_session.specs.Texts.{Printed}
use Rattle.plan_session.specs.Views.{View}

-- The lines alone decide: there is no more than one turn that they can make, one history of calls that they can tell, one text that can be printed for them.
pub record LinesDecide : Type 0 where
  pub state : (lines : List (List ℕ)) (s s' : State) → Promise lines s → Promise lines s' → s ≡ s'
  pub flow_calls : (lines : List (List ℕ)) (m m' : Made Flow) (h h' : History Flow) → Tells flow_at flow_turn lines m h → Tells flow_at flow_turn lines m' h' → (m ≡ m') × (h ≡ h')
  pub box_calls : (lines : List (List ℕ)) (m m' : Made Branches) (h h' : History Branches) → Tells box_at box_turn lines m h → Tells box_at box_turn lines m' h' → (m ≡ m') × (h ≡ h')
  pub printed : (lines : List (List ℕ)) (v v' : View) (out out' : List ℕ) → Printed lines v out → Printed lines v' out' → (v ≡ v') × (out ≡ out')
