-- The kind box: two coordinates, one a branch, each within 4 · 2,147,483,648 of zero.
use Rattle.std.specs.Prelude.{ℕ, List, ◌++◌, pos, neg_ℤ, codes}
use Rattle.std.specs.Fmt.{signed_decimal}
use Rattle.ordinate.specs.Kinds.{Kind, two, reach}
use Rattle.ordinate.specs.declared.branches.Branches.{Branches}

abbrev pub box : Kind Branches
box = record { code = 2; dimension = 2; least = neg_ℤ (pos reach); greatest = pos reach; coordinate = λ p. two p.left p.right; made = λ f. record { left = f 0; right = f 1 } }

-- How a box is printed: as in (3, -5).
abbrev pub box_text : Branches → List ℕ
box_text p = codes "(" ++ (signed_decimal p.left ++ (codes ", " ++ (signed_decimal p.right ++ codes ")")))
