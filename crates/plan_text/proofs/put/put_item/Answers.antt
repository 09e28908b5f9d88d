use Rattle.std.proofs.Common.{◌≡◌, ◌∷◌, ◌++◌, [], map, List, ℕ, ap, ◌∙◌, append_assoc, arith}
use Rattle.decimal.specs.Places.{over}
use Rattle.plan_text.specs.Texts.{spaced}
use Rattle.plan_text.proofs.Over.{Wrote, wrote_more}
use Rattle.plan_text.proofs.put.put_item.Goals as goal

regroup : (name numbers : List ℕ) → ((32 ∷ 40 ∷ name) ++ numbers) ++ (41 ∷ []) ≡ 32 ∷ 40 ∷ ((name ++ (numbers ++ (41 ∷ []))) ++ [])
regroup name numbers = simp append_assoc

pub returns-clause-written : goal.returns-clause-written
returns-clause-written g c =
    let before = c.args.buffer.now in
    let place = c.args.place in
    let name = c.args.name.now in
    let numbers = spaced (map g.I.Integer.text c.args.numbers.now) in
    let one : Wrote before place (32 ∷ 40 ∷ []) c.put-end.new.buffer c.put-end.result = record { written = c.put-end.ensures.written; end_is = c.put-end.ensures.end } in
    let two = wrote_more before place (32 ∷ 40 ∷ []) name c.put-end.new.buffer c.put-end-2.new.buffer c.put-end.result c.put-end-2.result (omega arith) one c.put-end-2.ensures.written c.put-end-2.ensures.end in
    let three = wrote_more before place (32 ∷ 40 ∷ name) numbers c.put-end-2.new.buffer c.put_numbers-end.new.buffer c.put-end-2.result c.put_numbers-end.result (omega arith) two c.put_numbers-end.ensures.written c.put_numbers-end.ensures.end in
    let four = wrote_more before place ((32 ∷ 40 ∷ name) ++ numbers) (41 ∷ []) c.put_numbers-end.new.buffer c.put.new.buffer c.put_numbers-end.result c.put.result (omega arith) three c.put.ensures.written c.put.ensures.end in
    four.written ∙ ap (over before place) (regroup name numbers)
