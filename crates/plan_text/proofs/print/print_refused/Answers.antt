use Rattle.std.proofs.Common.{◌≡◌, ◌+◌, ◌∷◌, ◌++◌, [], List, ℕ, length, codes, sym, ap, ◌∙◌, subst, append-nil, append_assoc, arith}
use Rattle.decimal.specs.Places.{over}
use Rattle.plan_text.specs.Printing.{natural_text, natural_field, refused_line}
use Rattle.plan_text.proofs.Over.{Wrote, wrote_more}
use Rattle.plan_text.proofs.Sizes.{natural_size, field_size, refused_size}
use Rattle.plan_text.proofs.Begun.{Begun, begin_item, finish}
use Rattle.plan_text.proofs.print.print_refused.Goals as goal

pub returns-in_err-check_room-clause-fits : goal.returns-in_err-check_room-clause-fits
returns-in_err-check_room-clause-fits c = refused_size c.args.number c.args.line (omega arith) (omega arith)

pub returns-clause-fits : goal.returns-clause-fits
returns-clause-fits c = refused_size c.args.number c.args.line (omega arith) (omega arith)

pub put_number-end-requires : goal.put_number-end-requires
put_number-end-requires c = omega (arith, natural_size 10 c.args.number (omega arith) (omega arith) (omega arith))

pub put_item-end-requires : goal.put_item-end-requires
put_item-end-requires c =
    omega (arith, natural_size 10 c.args.number (omega arith) (omega arith) (omega arith), field_size 20 c.args.line (codes "line") (omega arith) (omega arith) (omega arith))

pub put-requires : goal.put-requires
put-requires c =
    omega (arith, natural_size 10 c.args.number (omega arith) (omega arith) (omega arith), field_size 20 c.args.line (codes "line") (omega arith) (omega arith) (omega arith))

-- the name, a space and the number are the line's start with its first item
numbered : (before name number b c : List ℕ) (m n : ℕ) → b ≡ over before 0 (40 ∷ (name ++ (32 ∷ []))) → m ≡ 0 + length (40 ∷ (name ++ (32 ∷ []))) → c ≡ over b m number → n ≡ m + length number
    → Begun before name (number ∷ []) c n
numbered before name number b c m n e f h k =
    subst (λ t. Wrote before 0 t c n) (regroup name number)
    (wrote_more before 0 (40 ∷ (name ++ (32 ∷ []))) number b c m n (omega arith) (record { written = e; end_is = f }) h k)
  where
    regroup : (name number : List ℕ) → (40 ∷ (name ++ (32 ∷ []))) ++ number ≡ 40 ∷ (name ++ (32 ∷ (number ++ [])))
    regroup name number = ap (λ t. 40 ∷ t) (append_assoc name (32 ∷ []) number ∙ ap (λ t. name ++ (32 ∷ t)) (sym (append-nil number)))

pub returns-clause-prints : goal.returns-clause-prints
unfolding refused_line
returns-clause-prints c =
    let before = c.args.buffer.now in
    let name = codes "refused" in
    let number = natural_text c.args.number in
    let line = natural_field (codes "line") c.args.line in
    let one = numbered before name number c.put-end.new.buffer c.put_number-end.new.buffer c.put-end.result c.put_number-end.result c.put-end.ensures.written c.put-end.ensures.end c.put_number-end.ensures.written c.put_number-end.ensures.end in
    let two = begin_item before name (number ∷ []) line c.put_number-end.new.buffer c.put_item-end.new.buffer c.put_number-end.result c.put_item-end.result one c.put_item-end.ensures.written c.put_item-end.ensures.end in
    let done = finish before name (number ∷ line ∷ []) c.put_item-end.new.buffer c.put.new.buffer c.put_item-end.result c.put.result two c.put.ensures.written c.put.ensures.end in
    (done.size, (omega arith, done.whole))
