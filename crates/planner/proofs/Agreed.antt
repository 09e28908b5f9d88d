-- What is agreed for a draft is lawful where its kind, its measure and its reduction are.
use Rattle.std.specs.Prelude.{◌≡◌, pos}
use Rattle.ordinate.specs.Kinds.{Kind, Lawful}
use Rattle.distance.specs.Measures.{LawfulMeasure, Measure}
use Rattle.bezier.specs.Reductions.{LawfulReduction, Rule}
use Rattle.turn.specs.Settings.{LawfulSetting}
use Rattle.planner.specs.Drafts.{setting}
use Rattle.planner.specs.Runs.{agreed, agreed_number}
use Rattle.planner.specs.declared.begin.Terms.{Terms}
use Rattle.planner.specs.declared.draft.Draft.{Draft}

pub lawful_setting : {P R : Type 0} (K : Kind P) (M : Measure) (T : Rule P) (d : Draft P R) → Lawful K → LawfulMeasure K M → LawfulReduction K M T → LawfulSetting (setting K M T d)
lawful_setting K M T d k m r = record { kind = k; measure = m; rule = r }

-- What is agreed is the same while accuracy and end are.
pub same_setting : {P R : Type 0} (K : Kind P) (M : Measure) (T : Rule P) (d e : Draft P R) → d.accuracy ≡ e.accuracy → d.end ≡ e.end → setting K M T d ≡ setting K M T e
same_setting K M T d e a b = λ i. record { kind = K; measure = M; rule = T; tolerance = (a i).tolerance; depth = (a i).depth; end = b i }

-- What is agreed for the draft is what its terms say.
pub by_terms : {P R : Type 0} (K : Kind P) (M : Measure) (T : Rule P) (d : Draft P R) (terms : Terms) → pos d.accuracy.tolerance ≡ terms.tolerance → pos d.accuracy.depth ≡ terms.depth → pos d.end ≡ terms.end
    → setting K M T d ≡ agreed K M T terms
by_terms K M T d terms a b e = λ i. record { kind = K; measure = M; rule = T; tolerance = agreed_number (a i); depth = agreed_number (b i); end = agreed_number (e i) }
