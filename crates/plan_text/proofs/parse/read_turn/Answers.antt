use Rattle.std.proofs.Common.{[], ◌∷◌, refl, w64, SFits, rules}
use Rattle.std.proofs.lemmas.Int.{to_z-of_z}
use Rattle.std.proofs.lemmas.Bool.{false≢true}
use Rattle.plan_text.specs.Tokens.{closing}
use Rattle.plan_text.proofs.Names.{kind_is_word, legs_is_word, within_word, depth_word, ticks_word}
use Rattle.plan_text.proofs.Turns.{no_kind, no_legs, no_within, no_depth, no_ticks, turn_open, turn_closed}
use Rattle.plan_text.proofs.parse.read_turn.Goals as goal

pub returns-in_err-kind : goal.returns-in_err-kind
returns-in_err-kind c = rw c.from_residual.ensures (λ t g s. no_kind c.args.lexer (c.in_err-kind.ensures kind_is_word) t (closing ∷ []) g s)

pub returns-in_err-legs : goal.returns-in_err-legs
returns-in_err-legs c = rw c.from_residual-in_err-legs.ensures (λ t g s. no_legs c.args.lexer c.in_ok-kind.kind c.in_ok-kind.rest (c.in_ok-kind.ensures kind_is_word) (c.in_err-legs.ensures legs_is_word) t (closing ∷ []) g s)

pub returns-in_err-within : goal.returns-in_err-within
returns-in_err-within c = rw c.from_residual-in_err-within.ensures (λ t g s. no_within c.args.lexer c.in_ok-kind.kind c.in_ok-kind.rest (c.in_ok-kind.ensures kind_is_word) c.in_ok-legs.legs c.in_ok-legs.rest (c.in_ok-legs.ensures legs_is_word) (c.in_err-within.ensures within_word) t (closing ∷ []) g s)

pub returns-in_err-depth : goal.returns-in_err-depth
returns-in_err-depth c = rw c.from_residual-in_err-depth.ensures (λ t g s. no_depth c.args.lexer c.in_ok-kind.kind c.in_ok-kind.rest (c.in_ok-kind.ensures kind_is_word) c.in_ok-legs.legs c.in_ok-legs.rest (c.in_ok-legs.ensures legs_is_word) c.in_ok-within.within c.in_ok-within.rest (c.in_ok-within.ensures within_word) (c.in_err-depth.ensures depth_word) t (closing ∷ []) g s)

pub returns-in_err-ticks : goal.returns-in_err-ticks
returns-in_err-ticks c = rw c.from_residual-in_err-ticks.ensures (λ t g s. no_ticks c.args.lexer c.in_ok-kind.kind c.in_ok-kind.rest (c.in_ok-kind.ensures kind_is_word) c.in_ok-legs.legs c.in_ok-legs.rest (c.in_ok-legs.ensures legs_is_word) c.in_ok-within.within c.in_ok-within.rest (c.in_ok-within.ensures within_word) c.in_ok-depth.depth c.in_ok-depth.rest (c.in_ok-depth.ensures depth_word) (c.in_err-ticks.ensures ticks_word) t (closing ∷ []) g s)

pub returns-then-not-is_closed : goal.returns-then-not-is_closed
returns-then-not-is_closed c = turn_open c.args.lexer c.in_ok-kind.kind c.in_ok-kind.rest (c.in_ok-kind.ensures kind_is_word) c.in_ok-legs.legs c.in_ok-legs.rest (c.in_ok-legs.ensures legs_is_word) c.in_ok-within.within c.in_ok-within.rest (c.in_ok-within.ensures within_word) c.in_ok-depth.depth c.in_ok-depth.rest (c.in_ok-depth.ensures depth_word) c.in_ok-ticks.ticks c.in_ok-ticks.rest (c.in_ok-ticks.ensures ticks_word) (λ s. false≢true (c.if-not-is_closed.ensures.1 s))

pub returns : goal.returns
returns c =
    let w : SFits w64 c.in_ok-within.within = search rules in
    let d : SFits w64 c.in_ok-depth.depth = search rules in
    let t : SFits w64 c.in_ok-ticks.ticks = search rules in
    rw (to_z-of_z w64 c.in_ok-within.within w, to_z-of_z w64 c.in_ok-depth.depth d, to_z-of_z w64 c.in_ok-ticks.ticks t)
    (turn_closed c.args.lexer c.in_ok-kind.kind c.in_ok-kind.rest (c.in_ok-kind.ensures kind_is_word) c.in_ok-legs.legs c.in_ok-legs.rest (c.in_ok-legs.ensures legs_is_word) c.in_ok-within.within c.in_ok-within.rest (c.in_ok-within.ensures within_word) c.in_ok-depth.depth c.in_ok-depth.rest (c.in_ok-depth.ensures depth_word) c.in_ok-ticks.ticks c.in_ok-ticks.rest (c.in_ok-ticks.ensures ticks_word) (c.if-not-is_closed.ensures.0 refl))
