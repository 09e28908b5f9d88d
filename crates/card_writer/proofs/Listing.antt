-- A whole list of legs on a card: its first legs so far, and the card that they make.
use Rattle.std.proofs.Common.{◌≡◌, ℕ, zero, suc, ◌+◌, ◌*◌, ◌<◌, ◌≤◌, List, [], ◌∷◌, ◌++◌, length, get_or, take, drop, sym, refl, ap, ◌∙◌, subst, ap₂, arith, length-take, drop-cons}
use Rattle.std.proofs.lemmas.List.{take_more, take-append-drop, length-append}
use Rattle.ordinate.specs.Kinds.{Kind, Lawful}
use Rattle.leg.specs.Legs.{IsLeg}
use Rattle.leg.specs.Chains.{Each, Chained}
use Rattle.leg.specs.declared.leg.Leg.{Leg}
use Rattle.outlet.specs.declared.put_refusal.PutRefusal.{PutRefusal}
use Rattle.outlet.specs.declared.put_refusal.PutRefusal.TheVariants.{NoLeg, Full}
use Rattle.card.specs.Records.{record_length}
use Rattle.card.specs.Cards.{card_of, capacity, listed, Carries}
use Rattle.card_writer.specs.Outlet.{legs_on, Carded, with_record, written, started, Fit, Refuses}
use Rattle.card.proofs.Headers.{capacity_room, capacity_limit}
use Rattle.card.proofs.Carried.{found}
use Rattle.card_writer.specs.Laws.Held.{length_first}
use Rattle.card_writer.proofs.Held.{put_legs, put_length, put_carded}
use Rattle.card_writer.proofs.Started.{begun, room_for, written_long, card_length}

module _ {P : Type 0} (K : Kind P) where
  -- ---- which lists fit
  each_at : (ls : List (Leg P)) (i : ℕ) (d : Leg P) → Each (IsLeg K) ls → i < length ls → IsLeg K (get_or ls i d)
  each_at [] i d e h = absurd (omega arith)
  each_at (x ∷ ls) zero d e h = e.0
  each_at (x ∷ ls) (suc i) d e h = each_at ls i d e.1 (omega arith)

  each_inside : (ks : List (Leg P)) (l : Leg P) (ls : List (Leg P)) → Each (IsLeg K) (ks ++ (l ∷ ls)) → IsLeg K l
  each_inside [] l ls e = e.0
  each_inside (k ∷ ks) l ls e = each_inside ks l ls e.1

  module _ (room : ℕ) (ls : List (Leg P)) (i : ℕ) (l : Leg P) (below : i < length ls) (at : l ≡ get_or ls i l) (before : Fit K room (take i ls)) where
    parted : ls ≡ take i ls ++ (l ∷ drop (i + 1) ls)
    parted =
        let on : suc i ≡ i + 1 = omega arith in
        sym (take-append-drop i ls) ∙ ap (λ (us : List (Leg P)). take i ls ++ us) (drop-cons ls i l below ∙ ap₂ (λ (m : Leg P) (k : ℕ). m ∷ drop k ls) (sym at) on)

    pub no_leg_at : (IsLeg K l → ⊥) → Refuses K room ls i NoLeg
    no_leg_at none = record { before = before; leg = l; here = parted; refused = (none, refl) }

    pub full_at : IsLeg K l → room ≤ i → Refuses K room ls i Full
    full_at il full = record { before = before; leg = l; here = parted; refused = (il, omega (arith, length-take i ls), refl) }

  -- a list that fits is not refused
  pub fit_unrefused : (room : ℕ) (ls : List (Leg P)) (i : ℕ) (why : PutRefusal) → Fit K room ls → Refuses K room ls i why → ⊥
  fit_unrefused room ls i NoLeg f r = r.refused.0 (each_inside (take i ls) r.leg (drop (i + 1) ls) (subst (Each (IsLeg K)) r.here f.legs))
  fit_unrefused room ls i Full f r =
      let more : length ls ≡ length (take i ls) + suc (length (drop (i + 1) ls)) = ap length r.here ∙ length-append (take i ls) _ in
      let full = r.refused.1 in
      let fits = f.fits in
      omega arith

  pub carries_fit : (xs : List ℕ) (ls : List (Leg P)) → Carries K xs ls → Fit K (capacity K (length xs)) ls
  carries_fit xs ls h = record { legs = h.legs; fits = (found K xs ls h).head.fits }

  -- ---- the first i legs on n octets
  pub record SoFar (n : ℕ) (ls : List (Leg P)) (i : ℕ) (xs : List ℕ) : Type 0 where
    pub carded : Carded K xs
    pub holds : legs_on K xs ≡ take i ls
    pub long : length xs ≡ n

  pub none_so_far : (n : ℕ) (ls : List (Leg P)) (xs : List ℕ) → length xs ≡ n → xs ≡ started K n → SoFar n ls 0 xs
  none_so_far n ls xs long e =
      let b = begun K n xs e in
      record { carded = b.carded; holds = ap (λ c. c.legs) b.empty; long = long }

  module _ (law : Lawful K) (n : ℕ) (ls : List (Leg P)) (i : ℕ) (l : Leg P) (xs : List ℕ) (below : i < length ls) (at : l ≡ get_or ls i l) (fit : Fit K (capacity K n) ls) (so : SoFar n ls i xs) where
    leg_so_far : IsLeg K l
    leg_so_far = subst (IsLeg K) (sym at) (each_at ls i l fit.legs below)

    pub room_so_far : i < capacity K (length xs)
    room_so_far = let fits = fit.fits in subst (λ (k : ℕ). i < capacity K k) (sym so.long) (omega arith)

    listed_so_far : listed K xs ≡ i
    listed_so_far = sym (length_first K (listed K xs) xs) ∙ ap length so.holds ∙ omega (arith, length-take i ls)

    pub one_more : SoFar n ls (i + 1) (with_record K xs i l)
    one_more =
        let il = leg_so_far in
        let room : listed K xs < capacity K (length xs) = subst (λ (k : ℕ). k < capacity K (length xs)) (sym listed_so_far) room_so_far in
        let long = room_for K (length xs) (listed K xs) room in
        subst (λ (k : ℕ). SoFar n ls (i + 1) (with_record K xs k l)) listed_so_far
        (record {
          carded = put_carded K law xs l il room long so.carded;
          holds = put_legs K law xs l il room long ∙ ap (λ (ms : List (Leg P)). ms ++ (l ∷ [])) so.holds ∙ ap (λ (m : Leg P). take i ls ++ (m ∷ [])) at ∙ sym (take_more ls i l below);
          long = put_length K law xs l il room long ∙ so.long;
        })

  -- ---- the round trip
  pub written_carries : (n : ℕ) (ls : List (Leg P)) (xs : List ℕ) → 8 ≤ n → Fit K (capacity K n) ls → Chained ls → xs ≡ written K ls n → Carries K xs ls
  written_carries n ls xs long fit chained e =
      let room = capacity_room K (length ls) n long fit.fits in
      let card = e ∙ written_long K ls n long in
      let len : length xs ≡ n = ap length card ∙ card_length K ls n room in
      record {
        legs = fit.legs;
        chained = chained;
        room = subst (λ (k : ℕ). 8 + record_length K * length ls ≤ k) (sym len) room;
        limit = capacity_limit K (length ls) n fit.fits;
        octets = card ∙ ap (card_of K ls) (sym len);
      }

  pub carries_written : (n : ℕ) (ls : List (Leg P)) (xs : List ℕ) → length xs ≡ n → Carries K xs ls → written K ls n ≡ xs
  carries_written n ls xs len h =
      let room = h.room in
      written_long K ls n (omega arith) ∙ ap (card_of K ls) (sym len) ∙ sym h.octets
