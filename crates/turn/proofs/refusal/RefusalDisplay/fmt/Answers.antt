use Rattle.std.proofs.Common.{◌≡◌, refl}
use Rattle.turn.specs.Refusals.{words}
use Rattle.turn.proofs.refusal.RefusalDisplay.fmt.Goals as goal
use Rattle.turn.proofs.refusal.RefusalDisplay.fmt.Goals.{in-End, in-Foreign, in-Ticks, in-PastEnd, in-Apart, in-Empty, in-Torn, in-NotFull, in-TickPastEnd, in-NoLegThere}

pub returns-clause-writes : goal.returns-clause-writes
returns-clause-writes g c =
    let same : c.match-self.words.now ≡ words c.args.self.now =
    elim c.match-self.branch [
      | in-End w ↦ rw (w.words-is, w.in-End.is) refl
      | in-Foreign w ↦ rw (w.words-is, w.in-Foreign.is) refl
      | in-Ticks w ↦ rw (w.words-is, w.in-Ticks.is) refl
      | in-PastEnd w ↦ rw (w.words-is, w.in-PastEnd.is) refl
      | in-Apart w ↦ rw (w.words-is, w.in-Apart.is) refl
      | in-Empty w ↦ rw (w.words-is, w.in-Empty.is) refl
      | in-Torn w ↦ rw (w.words-is, w.in-Torn.is) refl
      | in-NotFull w ↦ rw (w.words-is, w.in-NotFull.is) refl
      | in-TickPastEnd w ↦ rw (w.words-is, w.in-TickPastEnd.is) refl
      | in-NoLegThere w ↦ rw (w.words-is, w.in-NoLegThere.is) refl
    ] in
    rw (← c.number-number.ensures, ← same) c.write-2.ensures.writes
