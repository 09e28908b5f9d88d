-- The cells that the halving of a curve finds: they are the pieces that the program goes through, their legs may be put, and they keep what is promised.
use Rattle.std.specs.Prelude.{◌≡◌, ℕ, ◌+◌, ◌*◌, ◌≤◌, List, [], ◌∷◌, length, map, Some, None, Option, ◌⊎◌, IfOk, refl}
use Rattle.std.specs.Option.{ok_or}
use Rattle.std.proofs.Common.{sym, ap, ap₂, subst, ◌∙◌, arith, inl, inr, add-one}
use Rattle.std.proofs.lemmas.List.{length-map}
use Rattle.ordinate.specs.Kinds.{InRange, Kind, Lawful}
use Rattle.distance.specs.Measures.{LawfulMeasure, Measure, Reaches, point}
use Rattle.distance.specs.Laws.Bounds.{between_in, in_between}
use Rattle.bezier.specs.Laws.Reach.{widen}
use Rattle.bezier.specs.Bernstein.{degree_of}
use Rattle.bezier.specs.Near.{CellNear}
use Rattle.bezier.specs.Reductions.{LawfulReduction, Rule, number}
use Rattle.bezier.specs.Rounds.{cell_points}
use Rattle.bezier.specs.declared.degree.Degree.{Degree}
use Rattle.bezier.specs.declared.degree.Degree.TheVariants.{One, Two}
use Rattle.bezier.proofs.Parts.{inside_cell, left_cell, length_cell, right_cell}
use Rattle.bezier.proofs.Passing.{passing_is_near}
use Rattle.leg.specs.Chains.{Each}
use Rattle.leg.specs.Legs.{IsLeg}
use Rattle.leg.specs.declared.leg.Cell.{Cell}
use Rattle.leg.specs.declared.leg.Leg.{Leg}
use Rattle.outlet.specs.Outlets.{Contents, room, with_legs}
use Rattle.curve.specs.Cells.{Allowed, halving, left, right, tested, whole}
use Rattle.curve.specs.Fewest.{Divisible, Fewest}
use Rattle.curve.specs.Legs.{Fitted, leg_of, passing}
use Rattle.curve.specs.Pieces.{Piece, Ready, handed, left_piece, piece, piece_leg, piece_passes, pieces, pieces_tested, right_piece, tally}
use Rattle.leg.specs.Reasons.{First, refusal}
use Rattle.curve.specs.Refusals.{Counted, Drawable, bent}
use Rattle.curve.specs.declared.refusal.CurveRefusal.TheVariants.{TooBent}
use Rattle.curve.specs.declared.tally.Tally.{Tally}
use Rattle.curve.proofs.Counting.{counted}
use Rattle.curve.proofs.Divisions.{halving_is_fewest}
use Rattle.curve.proofs.Pieces.{halve_over, over, tested_over}

pub each_map : {X : Type 0} (Q S : X → Type 0) → ((x : X) → Q x → S x) → (xs : List X) → Each Q xs → Each S xs
each_map Q S f [] h = tt
each_map Q S f (x ∷ xs) h = (f x h.0, each_map Q S f xs h.1)

each_over : {X Y : Type 0} (g : X → Y) (Q : Y → Type 0) (xs : List X) → Each (λ x. Q (g x)) xs → Each Q (map g xs)
each_over g Q [] h = tt
each_over g Q (x ∷ xs) h = (h.0, each_over g Q xs h.1)

map_over : {X Y Z : Type 0} (f : X → Y) (g : Y → Z) (xs : List X) → map g (map f xs) ≡ map (λ x. g (f x)) xs
map_over f g [] = refl
map_over f g (x ∷ xs) = ap (λ zs. g (f x) ∷ zs) (map_over f g xs)

pub one_or_two : (m : Degree) → (number m ≡ 1) ⊎ (number m ≡ 2)
one_or_two One = inl refl
one_or_two Two = inr refl

pub straight : (m : Degree) → number m ≡ 1 → m ≡ One
straight One e = refl
straight Two e = absurd (omega arith)

module _ {P : Type 0} (K : Kind P) (M : Measure) (measured : LawfulMeasure K M) where
  pub in_range : (p : P) → Reaches K (4 * M.limit) p → InRange K p
  in_range p r i h = rw (measured.least, measured.greatest) (r i h)

  pub wide : (p : P) → Reaches K M.limit p → InRange K p
  wide p r = in_range p (λ i h. in_between (K.coordinate p i) (4 * M.limit) (widen (K.coordinate p i) M.limit (4 * M.limit) (omega arith) (between_in (K.coordinate p i) M.limit (r i h))))

module _ {P : Type 0} (K : Kind P) (M : Measure) (R : Rule P) (t D : ℕ) (ps : List P) where
  abbrev found : Option (List Cell)
  found = halving D (passing K M R t ps)

  -- the piece of a cell
  abbrev pub of_cell : Cell → Piece P
  of_cell c = piece c (cell_points K c.depth c.index ps)

  left_agrees : (c : Cell) → left_piece K M R t (of_cell c) ≡ of_cell (left c)
  left_agrees c = ap (piece (left c)) (sym (left_cell K c.depth c.index ps) ∙ ap (λ (d : ℕ). cell_points K d (2 * c.index) ps) (sym (add-one c.depth)))

  right_agrees : (c : Cell) → right_piece K M R t (of_cell c) ≡ of_cell (right c)
  right_agrees c = ap (piece (right c)) (sym (right_cell K c.depth c.index ps) ∙ ap (λ (d : ℕ). cell_points K d (2 * c.index + 1) ps) (sym (add-one c.depth)))

  pub pieces_are : pieces K M R t D (piece whole ps) ≡ over of_cell found
  pieces_are = halve_over of_cell (passing K M R t ps) left right (piece_passes K M R t) (left_piece K M R t) (right_piece K M R t) (λ c. refl) left_agrees right_agrees D whole

  tested_are : pieces_tested K M R t D (piece whole ps) ≡ tested (passing K M R t ps) left right D whole
  tested_are = tested_over of_cell (passing K M R t ps) left right (piece_passes K M R t) (left_piece K M R t) (right_piece K M R t) (λ c. refl) left_agrees right_agrees D whole

  counted_are : counted K M R t D (piece whole ps) ≡ tally (over of_cell found) (tested (passing K M R t ps) left right D whole)
  counted_are = ap₂ tally pieces_are tested_are

  none : (o : Option (List Cell)) (n : ℕ) → None ≡ tally (over of_cell o) n → o ≡ None
  none None n e = refl
  none (Some cs) n e = absurd (cc)

  some : (o : Option (List Cell)) (n : ℕ) (y : Tally) → Some y ≡ tally (over of_cell o) n → (cs : List Cell) × (o ≡ Some cs) × (y.legs ≡ length cs) × (y.cells ≡ n)
  some None n y e = absurd (cc)
  some (Some cs) n y e = let l : y.legs ≡ length (map of_cell cs) = cc in let k : y.cells ≡ n = cc in (cs, refl, l ∙ length-map cs of_cell, k)

  pub too_bent : None ≡ counted K M R t D (piece whole ps) → ¬ (Divisible D (passing K M R t ps))
  too_bent e = (halving_is_fewest.nothing D (passing K M R t ps)).0 (none found _ (e ∙ counted_are))

  pub record Found (y : Tally) : Type 0 where
    pub cells : List Cell
    pub is : found ≡ Some cells
    pub legs : y.legs ≡ length cells
    pub tries : y.cells + 1 ≡ 2 * length cells

  pub told : (y : Tally) → Some y ≡ counted K M R t D (piece whole ps) → Found y
  told y e =
      let s = some found _ y (e ∙ counted_are) in
      let n = halving_is_fewest.tries D (passing K M R t ps) s.0 s.1 in
      record { cells = s.0; is = s.1; legs = s.2; tries = omega arith }

  abbrev pub counted_as : (y : Tally) → Counted K M R t D ps y → Found y
  counted_as y n = record { cells = n.0; is = n.1.found; legs = n.2; tries = n.3 }

  pub is_fewest : (y : Tally) (f : Found y) → Fewest D (passing K M R t ps) f.cells
  is_fewest y f = halving_is_fewest.found D (passing K M R t ps) f.cells f.is

  pub divisible : (y : Tally) → Found y → Divisible D (passing K M R t ps)
  divisible y f = (f.cells, (is_fewest y f).division)

  pub same_number : (y : Tally) (f : Found y) (cs : List Cell) → Fewest D (passing K M R t ps) cs → length cs ≡ y.legs
  same_number y f cs w =
      let v = is_fewest y f in
      let a = w.fewest f.cells v.division in
      let b = v.fewest cs w.division in
      let l = f.legs in
      omega arith

  module _ (law : Lawful K) (measured : LawfulMeasure K M) (lawful : LawfulReduction K M R) (drawn : Drawable K M R ps) where
    near : (c : Cell) → Allowed D (passing K M R t ps) c → CellNear K M R t ps c.depth c.index
    near c a = passing_is_near K M R law measured lawful t c.depth c.index ps drawn.enough a.inside a.passed

    pub fitted : (y : Tally) (f : Found y) → Fitted K M R t D ps f.cells
    fitted y f =
        let w = is_fewest y f in
        record { fewest = w; near = each_map (Allowed D (passing K M R t ps)) (λ c. CellNear K M R t ps c.depth c.index) near f.cells w.division.allowed; found = f.is }

    -- what a count answers
    pub judged : (o : Option Tally) → o ≡ counted K M R t D (piece whole ps) → First (bent K M R t D ps ∷ []) (refusal (ok_or o TooBent)) × IfOk (ok_or o TooBent) (Counted K M R t D ps)
    judged None e = (inl (TooBent, (too_bent e, refl), refl), tt)
    judged (Some y) e = let f = told y e in (inr ((λ r h. h.0 (divisible y f)), refl), (f.cells, fitted y f, f.legs, f.tries))

    module _ (S L : ℕ) (some_ticks : 1 ≤ L) (brief : L ≤ 4096) (timely : S + L ≤ 65536) (shallow : D ≤ 10) where
      is_leg : (c : Cell) → Allowed D (passing K M R t ps) c → IsLeg K (piece_leg K R S L (of_cell c))
      is_leg c a =
          let qs = cell_points K c.depth c.index ps in
          let long = length_cell K c.depth c.index ps in
          let inside = inside_cell K law M.limit c.depth c.index ps drawn.inside in
          let enough = drawn.enough in
          let few = drawn.few in
          record {
            place = record { begins = omega arith; lasts = some_ticks; brief = brief; ends = timely; shallow = omega (arith, a.shallow); inside = a.inside };
            one_or_two = one_or_two R.degree;
            straight = λ e. lawful.straight (straight R.degree e) qs;
            start_in = wide K M measured (point K qs 0) (inside 0 (omega arith));
            middle_in = in_range K M measured (R.middle qs) (lawful.near qs (omega arith) (omega arith) inside);
            end_in = wide K M measured (point K qs (degree_of K qs)) (inside (degree_of K qs) (omega arith));
          }

      pub ready : (y : Tally) (f : Found y) (o : Contents P) → y.legs ≤ room o → Ready K (piece_leg K R S L) (pieces K M R t D (piece whole ps)) o
      ready y f o h =
          let l = f.legs in
          let n = length-map f.cells of_cell in
          subst (λ (q : Option (List (Piece P))). Ready K (piece_leg K R S L) q o) (sym (pieces_are ∙ ap (over of_cell) f.is))
          (omega arith, each_over of_cell (λ x. IsLeg K (piece_leg K R S L x)) f.cells (each_map (Allowed D (passing K M R t ps)) (λ c. IsLeg K (piece_leg K R S L (of_cell c))) is_leg f.cells (is_fewest y f).division.allowed))

  pub handed_are : (S L : ℕ) (y : Tally) (f : Found y) (o : Contents P) → handed (piece_leg K R S L) (pieces K M R t D (piece whole ps)) o ≡ with_legs o (map (leg_of K M R S L ps) f.cells)
  handed_are S L y f o =
      ap (λ (q : Option (List (Piece P))). handed (piece_leg K R S L) q o) (pieces_are ∙ ap (over of_cell) f.is)
      ∙ ap (λ (ls : List (Leg P)). with_legs o ls) (map_over of_cell (piece_leg K R S L) f.cells)
