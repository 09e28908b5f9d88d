-- Every call keeps the promise.
use Rattle.std.proofs.Common.{◌≡◌, ℕ, zero, suc, ◌+◌, ◌<◌, ◌≤◌, ◌⊎◌, ◌↔◌, List, [], ◌∷◌, ◌++◌, length, ℤ, pos, negsuc, ◌+ℤ◌, ◌<ℤ◌, Some, None, Option, Ok, Err, sym, refl, ap, ◌∙◌, subst, inl, inr, arith}
use Rattle.std.proofs.Math.Decide.{dec_le}
use Rattle.std.proofs.lemmas.Int.{ints}
use Rattle.std.proofs.lemmas.Iterator.Adapters.{option_map_id}
use Rattle.std.proofs.lemmas.List.{length-append, length-map}
use Rattle.std.proofs.lemmas.Option.{none-some, same_Some}
use Rattle.std.specs.Int.Signed.{lt_z_yes}
use Rattle.distance.specs.Measures.{Inside}
use Rattle.bezier.specs.Near.{CellNear}
use Rattle.leg.specs.Chains.{Each, Joined, Last, last_or}
use Rattle.leg.specs.Reasons.{First, Reason, refusal}
use Rattle.leg.specs.declared.leg.Cell.{Cell}
use Rattle.leg.specs.declared.leg.Leg.{Leg}
use Rattle.outlet.specs.Outlets.{Contents, with_legs}
use Rattle.turn.specs.Calls.{Answer, Call, History, Progress, Seals, Span, after_call, begun, end_of, end_tick, last_leg, lay, seal, span_of, standing, strike, whole_ticks, without_newest}
use Rattle.turn.specs.Claims.{StaysWhole}
use Rattle.turn.specs.Outcomes.{Laid, Outcome, Struck, legs_for}
use Rattle.turn.specs.Runs.{Performed, Reached, recorded}
use Rattle.turn.specs.Reasons.{Continues, Situation, after, facing, first_point, last_point, reasons}
use Rattle.turn.specs.Settings.{Full, LawfulSetting, Setting}
use Rattle.turn.specs.Whole.{Answered, LegNear, SealedFull, Whole}
use Rattle.turn.specs.declared.refusal.Refusal.{Refusal}
use Rattle.curve.specs.declared.refusal.CurveRefusal.TheVariants.{PointCount, PointBeyond, TooManyLegs}
use Rattle.curve.proofs.Fitting.{each_map}
use Rattle.turn.specs.declared.refusal.Refusal.TheVariants.{Curve, Foreign, PastEnd, Apart, Empty, Torn, NotFull, Ticks}
use Rattle.turn.proofs.Points.{beyond_or_inside, dec_point, settled}
use Rattle.turn.proofs.Reasons.{AllBeside, Beside, because_beside, first_beside, none_holds}
use Rattle.turn.proofs.Seams.{run_ends, run_seamless}
use Rattle.turn.proofs.Standing.{Own, Stand, fewest_legs_same, fewest_some, own_from, own_some, own_strung, stand_all, stand_below, stand_closes, stand_end, stand_fewest, stand_of, stand_runs, stand_some, stand_spans}
use Rattle.turn.proofs.Strung.{joined_append, joined_front, strung_follows}
use Rattle.turn.proofs.Struck.{one_cut}

some_ticks : (l : ℤ) → ¬ (l <ℤ pos 1) → 1 ≤ whole_ticks l
some_ticks (pos zero) h = absurd (h (lt_z_yes tt))
some_ticks (pos (suc n)) h = omega arith
some_ticks (negsuc n) h = absurd (h (lt_z_yes tt))

few_ticks : (l : ℤ) → ¬ (pos 4096 <ℤ l) → whole_ticks l ≤ 4096
few_ticks (pos n) h = settled (n ≤ 4096) (dec_le n 4096) (λ k. h (omega (arith, ints)))
few_ticks (negsuc n) h = omega arith

ticks_in_time : (T laid : ℕ) (l : ℤ) → ¬ (l <ℤ pos 1) → ¬ (pos T <ℤ (pos laid +ℤ l)) → laid + whole_ticks l ≤ T
ticks_in_time T laid (pos n) s h = settled (laid + n ≤ T) (dec_le (laid + n) T) (λ k. h (omega (arith, ints)))
ticks_in_time T laid (negsuc n) s h = absurd (s (lt_z_yes tt))

module _ {P : Type 0} (A : Setting P) where
  -- ---- what is known of a span that was laid

  pub record Drawn (s : Span P) : Type 0 where
    pub enough : A.rule.lowest < length s.points
    pub few : length s.points ≤ 9
    pub inside : Inside A.kind A.measure.limit s.points
    pub some : 1 ≤ s.ticks
    pub brief : s.ticks ≤ 4096

  laid_drawn : (now : Situation P) (ps : List P) (l : ℤ) (work : ℕ) → First (reasons A now (lay ps l work)) None → Drawn (span_of ps l)
  laid_drawn now ps l work f =
      let n = none_holds (reasons A now (lay ps l work)) f in
      let low : ¬ (length ps < A.rule.lowest + 1) = λ h. n.1.0 (Curve PointCount) (inl h, refl) in
      let high : ¬ (9 < length ps) = λ h. n.1.0 (Curve PointCount) (inr h, refl) in
      record {
        enough = omega arith;
        few = omega arith;
        inside = elim (beyond_or_inside A.kind A.measure.limit ps) [ inl x ↦ absurd (n.1.1.0 (Curve (PointBeyond x.0)) (x.0, x.1, refl)) | inr i ↦ i ];
        some = some_ticks l (λ h. n.1.1.1.0 Ticks (inl h, refl));
        brief = few_ticks l (λ h. n.1.1.1.0 Ticks (inr h, refl));
      }

  drawn_after : (capacity : ℕ) (call : Call P) (a : Answer) (ss : List (Span P)) → First (reasons A (after A capacity ss) call) (refusal a)
      → Each Drawn ss → Each Drawn (after_call call a ss)
  drawn_after capacity (lay ps l work) (Ok tt) ss f d = (laid_drawn (after A capacity ss) ps l work f, d)
  drawn_after capacity (lay ps l work) (Err r) ss f d = d
  drawn_after capacity strike (Ok tt) [] f d = tt
  drawn_after capacity strike (Ok tt) (s ∷ ss) f d = d.1
  drawn_after capacity strike (Err r) ss f d = d
  drawn_after capacity seal a ss f d = d

  pub drawn : (capacity : ℕ) (h : History P) → Answered A capacity h → Each Drawn (standing h)
  drawn capacity [] w = tt
  drawn capacity (x ∷ h) w = drawn_after capacity x.0 x.1 (standing h) w.0 (drawn capacity h w.1)

  pub stand : (h : History P) (g : Progress P) (c : Contents P) → Whole A h g c → Stand A (standing h) c.legs
  stand h g c w = subst (Stand A (standing h)) (sym w.no_others) (stand_of A (standing h) c.legs (each_map Drawn (λ (s : Span P). 1 ≤ s.ticks) (λ s d. d.some) (standing h) (drawn c.capacity h w.answered)) w.spans)

  -- ---- what a call meets is what the standing spans say

  pub record Alike (now then : Situation P) : Type 0 where
    pub foreign : now.foreign ↔ then.foreign
    pub laid : now.laid ≡ then.laid
    pub end_value : now.end_value ≡ then.end_value
    pub crowded : (n : ℕ) → 1 ≤ n → now.crowded n ↔ then.crowded n
    pub empty : now.empty ↔ then.empty
    pub torn : now.torn ↔ then.torn

  abbrev itself : Refusal → Refusal
  itself f = f

  as_it_is : (r : Reason Refusal) → Beside itself r r
  as_it_is r = (λ f h. h, λ f h. (f, h))

  alike_beside : (now then : Situation P) → Alike now then → (call : Call P) → AllBeside itself (reasons A now call) (reasons A then call)
  alike_beside now then m (lay ps l work) = (
    because_beside itself Foreign m.foreign.0 m.foreign.1,
    (
      as_it_is _,
      (
        as_it_is _,
        (
          as_it_is _,
          (
            because_beside itself PastEnd (subst (λ (n : ℕ). pos A.end <ℤ (pos n +ℤ l)) m.laid) (subst (λ (n : ℕ). pos A.end <ℤ (pos n +ℤ l)) (sym m.laid)),
            (
              because_beside itself Apart (subst (λ o. ¬ (Continues o (first_point A ps))) m.end_value) (subst (λ o. ¬ (Continues o (first_point A ps))) (sym m.end_value)),
              (
                as_it_is _,
                (
                  as_it_is _,
                  (
                    because_beside itself (Curve TooManyLegs)
                        (λ x. (x.0, x.1, (m.crowded (length x.0) (fewest_some A ps x.0 x.1)).0 x.2))
                        (λ x. (x.0, x.1, (m.crowded (length x.0) (fewest_some A ps x.0 x.1)).1 x.2)),
                    tt,
                  ),
                ),
              ),
            ),
          ),
        ),
      ),
    ),
  )
  alike_beside now then m strike = (
    because_beside itself Foreign m.foreign.0 m.foreign.1,
    (because_beside itself Empty m.empty.0 m.empty.1, (because_beside itself Torn m.torn.0 m.torn.1, tt)),
  )
  alike_beside now then m seal = (
    because_beside itself Foreign m.foreign.0 m.foreign.1,
    (because_beside itself NotFull (subst (λ (n : ℕ). ¬ (Full A n)) m.laid) (subst (λ (n : ℕ). ¬ (Full A n)) (sym m.laid)), tt),
  )

  empties : (ss : List (Span P)) (ls : List (Leg P)) (n : ℕ) → n ≡ length ls → Stand A ss ls → (n ≡ 0) ↔ (length ss ≡ 0)
  empties [] ls n e h = (λ _. refl, λ _. e ∙ ap length h)
  empties (s ∷ ss) ls n e h = let a = stand_some A s ss ls h in (λ z. absurd (omega arith), λ z. absurd (omega arith))

  untorn : (ss : List (Span P)) (ls : List (Leg P)) (laid : ℕ) → Stand A ss ls → laid ≡ end_tick ss
      → (l : Leg P) × (last_leg ls ≡ Some l) × ((¬ (l.stretch.from + l.stretch.ticks ≡ laid)) ⊎ (¬ (Last l.stretch))) → ⊥
  untorn ss ls laid h e t = go t.2
    where
      c : (t.0.stretch.from + t.0.stretch.ticks ≡ end_tick ss) × Last t.0.stretch
      c = stand_closes A ss ls h t.0 t.1

      go : (¬ (t.0.stretch.from + t.0.stretch.ticks ≡ laid)) ⊎ (¬ (Last t.0.stretch)) → ⊥
      go (inl n) = n (c.0 ∙ sym e)
      go (inr n) = n c.1

  alike : (h : History P) (g : Progress P) (c : Contents P) → Whole A h g c → Alike (facing A g c) (after A c.capacity (standing h))
  alike h g c w =
      let ss = standing h in
      let s = stand h g c w in
      record {
        foreign = (λ n. n (sym w.count), λ b. absurd b);
        laid = w.laid;
        end_value = w.end_value ∙ stand_end A ss c.legs s;
        crowded = λ n p. (
          λ k. (length c.legs, stand_fewest A ss c.legs s, omega arith),
          λ x.
              let e = fewest_legs_same A ss x.0 (length c.legs) x.1 (stand_fewest A ss c.legs s) in
              let y = x.2 in
              omega arith,
        );
        empty = empties ss c.legs g.count w.count s;
        torn = (untorn ss c.legs g.laid s w.laid, λ b. absurd b);
      }

  answers : (h : History P) (g : Progress P) (c : Contents P) → Whole A h g c → (call : Call P) (a : Answer)
      → First (reasons A (facing A g c) call) (refusal a) → First (reasons A (after A c.capacity (standing h)) call) (refusal a)
  answers h g c w call a f =
      subst (First (reasons A (after A c.capacity (standing h)) call)) (option_map_id (refusal a))
      (first_beside itself (reasons A (facing A g c) call) (reasons A (after A c.capacity (standing h)) call) (refusal a)
      (alike_beside (facing A g c) (after A c.capacity (standing h)) (alike h g c w) call) f)

  -- ---- a history with one more call

  more : (h : History P) (call : Call P) (a : Answer) (g : Progress P) (c : Contents P) (ss : List (Span P)) → after_call call a (standing h) ≡ ss
      → Joined None c.legs → g.count ≡ length c.legs → g.laid ≡ end_tick ss → g.end_value ≡ end_of (last_leg c.legs) → end_tick ss ≤ A.end → Stand A ss c.legs
      → (Seals call a → Full A (end_tick (standing h))) → SealedFull A h
      → First (reasons A (after A c.capacity (standing h)) call) (refusal a) → Answered A c.capacity h
      → Whole A ((call, a) ∷ h) g c
  more h call a g c ss e j n l v t s f fs x xs =
      let s' : Stand A (after_call call a (standing h)) c.legs = subst (λ zs. Stand A zs c.legs) (sym e) s in
      let r = stand_runs A (after_call call a (standing h)) c.legs s' in
      record {
        seamless = run_seamless _ _ r;
        reaches = run_ends _ _ r;
        joined = j;
        count = n;
        laid = l ∙ ap end_tick (sym e);
        end_value = v;
        in_time = subst (λ zs. end_tick zs ≤ A.end) (sym e) t;
        sealed = (f, fs);
        spans = stand_spans A (after_call call a (standing h)) c.legs s';
        no_others = stand_all A (after_call call a (standing h)) c.legs s';
        answered = (x, xs);
      }

  -- nothing changes
  stays : (h : History P) (call : Call P) (a : Answer) (g : Progress P) (c : Contents P) (g' : Progress P) (c' : Contents P)
      → after_call call a (standing h) ≡ standing h → (Seals call a → Full A (end_tick (standing h)))
      → Whole A h g c → First (reasons A (facing A g c) call) (refusal a) → (g' ≡ g) × (c' ≡ c) → Whole A ((call, a) ∷ h) g' c'
  stays h call a g c g' c' e f w x u =
      subst (λ d. Whole A ((call, a) ∷ h) g' d) (sym u.1) (subst (λ p. Whole A ((call, a) ∷ h) p c) (sym u.0)
      (more h call a g c (standing h) e w.joined w.count w.laid w.end_value w.in_time (stand h g c w) f w.sealed (answers h g c w call a x) w.answered))

  -- ---- an accepted strike

  strikes : (h : History P) (g : Progress P) (c : Contents P) (g' : Progress P) (c' : Contents P)
      → Whole A h g c → First (reasons A (facing A g c) strike) None → Struck A c g' c'
      → (ss : List (Span P)) → standing h ≡ ss → Stand A ss c.legs → Whole A ((strike, Ok tt) ∷ h) g' c'
  strikes h g c g' c' w x u [] e s =
      let a = u.some in
      let b : length c.legs ≡ length c'.legs + length u.off = ap length u.left ∙ length-append c'.legs u.off in
      let z : length c.legs ≡ 0 = ap length s in
      absurd (omega arith)
  strikes h g c g' c' w x u (p ∷ ss) e s =
      let before = s.0 in
      let own = s.1 in
      let r = one_cut (end_tick ss) u.start None before own c'.legs u.off (sym s.2 ∙ u.left)
      (own_from A (end_tick ss) p own s.4) (own_some A (end_tick ss) p own s.4) (not_shared ss before s.3) u.shared u.some u.all in
      let s' : Stand A ss c'.legs = subst (Stand A ss) r.0 s.3 in
      let time : end_tick ss + p.ticks ≤ A.end = subst (λ zs. end_tick zs ≤ A.end) e w.in_time in
      more h strike (Ok tt) g' c' ss (ap without_newest e)
      (joined_front None c'.legs u.off (subst (Joined None) u.left w.joined)) u.count (u.laid ∙ sym r.1) u.end_value (omega arith) s' (λ b. absurd b) w.sealed
      (subst (λ (n : ℕ). First (reasons A (after A n (standing h)) strike) None) (sym u.capacity) (answers h g c w strike (Ok tt) x))
      (subst (λ (n : ℕ). Answered A n h) (sym u.capacity) w.answered)
    where
      below_last : (T : ℕ) (o : Option (Leg P)) (ls : List (Leg P)) → ((l : Leg P) → o ≡ Some l → l.stretch.from < T) → Each (λ (l : Leg P). l.stretch.from < T) ls
          → (l : Leg P) → last_or o ls ≡ Some l → l.stretch.from < T
      below_last T o [] f b l q = f l q
      below_last T o (k ∷ ls) f b l q = below_last T (Some k) ls (λ m z. subst (λ (y : Leg P). y.stretch.from < T) (same_Some k m z) b.0) b.1 l q

      not_shared : (ss : List (Span P)) (ls : List (Leg P)) → Stand A ss ls → (l : Leg P) → last_leg ls ≡ Some l → ¬ (l.stretch.from ≡ end_tick ss)
      not_shared ss ls s l q e = let b = below_last (end_tick ss) None ls (λ m z. absurd (none-some m z)) (stand_below A ss ls s) l q in omega arith

-- ---- an accepted lay

module _ {P : Type 0} (A : Setting P) (law : LawfulSetting A) where
  goes_on : (o : Option P) (p : P) → ¬ (¬ (Continues o p)) → Continues o p
  goes_on None p h = tt
  goes_on (Some q) p h = settled (p ≡ q) (dec_point A.kind law.kind p q) h

  all_near : (S L : ℕ) (s : Span P) (cs : List Cell) → Each (λ (c : Cell). CellNear A.kind A.measure A.rule A.tolerance s.points c.depth c.index) cs
      → Each (LegNear A s) (legs_for A S s.points L cs)
  all_near S L s [] h = tt
  all_near S L s (c ∷ cs) h = (h.0, all_near S L s cs h.1)

  lays : (h : History P) (ps : List P) (l : ℤ) (work : ℕ) (g : Progress P) (c : Contents P) (g' : Progress P) (c' : Contents P)
      → Whole A h g c → First (reasons A (facing A g c) (lay ps l work)) None → Laid A ps (whole_ticks l) g c g' c'
      → Whole A ((lay ps l work, Ok tt) ∷ h) g' c'
  lays h ps l work g c g' c' w x u =
      let ss = standing h in
      let s : Span P = span_of ps l in
      let S : ℕ = end_tick ss in
      let cs = u.cells in
      let own = legs_for A S ps (whole_ticks l) cs in
      let n = none_holds (reasons A (facing A g c) (lay ps l work)) x in
      let some : ¬ (l <ℤ pos 1) = λ k. n.1.1.1.0 Ticks (inl k, refl) in
      let time = ticks_in_time A.end g.laid l some (λ k. n.1.1.1.1.0 PastEnd (k, refl)) in
      let e = w.laid in
      let from : Continues (end_of (last_leg c.legs)) (first_point A ps) =
      subst (λ o. Continues o (first_point A ps)) w.end_value (goes_on g.end_value (first_point A ps) (λ k. n.1.1.1.1.1.0 Apart (k, refl))) in
      let put : c' ≡ with_legs c own = u.put ∙ ap (λ (i : ℕ). with_legs c (legs_for A i ps (whole_ticks l) cs)) e in
      let legs : c'.legs ≡ c.legs ++ own = ap (λ d. d.legs) put in
      let room : c.capacity ≡ c'.capacity = sym (ap (λ d. d.capacity) put) in
      let o : Own A S s own =
      record { legs = record { cells = cs; fewest = u.fitted.fewest; made = refl; near = all_near S (whole_ticks l) s cs u.fitted.near }; lasts = some_ticks l some } in
      let st : Stand A (s ∷ ss) c'.legs = (c.legs, own, legs, stand A h g c w, o) in
      let many : length (c.legs ++ own) ≡ length c.legs + length cs = length-append c.legs own ∙ ap (λ (i : ℕ). length c.legs + i) (length-map cs _) in
      more A h (lay ps l work) (Ok tt) g' c' (s ∷ ss) refl
      (subst (Joined None) (sym legs) (joined_append None c.legs own w.joined (strung_follows (last_leg c.legs) (first_point A ps) (last_point A ps) own from (own_strung A S s own o))))
      (u.count ∙ ap (λ (i : ℕ). i + length cs) w.count ∙ sym (ap length legs ∙ many))
      (u.laid ∙ ap (λ (i : ℕ). i + whole_ticks l) e)
      (u.end_value ∙ sym (stand_end A (s ∷ ss) c'.legs st))
      (subst (λ (i : ℕ). i + whole_ticks l ≤ A.end) e time) st (λ b. absurd b) w.sealed
      (subst (λ (i : ℕ). First (reasons A (after A i ss) (lay ps l work)) None) room (answers A h g c w (lay ps l work) (Ok tt) x))
      (subst (λ (i : ℕ). Answered A i h) room w.answered)

  -- ---- every call

  seals : (h : History P) (g : Progress P) (c : Contents P) → Whole A h g c → First (reasons A (facing A g c) seal) None → Full A (end_tick (standing h))
  seals h g c w x =
      let n = none_holds (reasons A (facing A g c) seal) x in
      subst (Full A) w.laid (settled (Full A g.laid) (dec_le A.end g.laid) (λ k. n.1.0 NotFull (k, refl)))

  pub kept : (h : History P) (call : Call P) (a : Answer) (g g' : Progress P) (c c' : Contents P)
      → Whole A h g c → Outcome A call g c a g' c' → Whole A ((call, a) ∷ h) g' c'
  kept h (lay ps l work) (Ok tt) g g' c c' w o = lays h ps l work g c g' c' w o.answer o.effect
  kept h (lay ps l work) (Err f) g g' c c' w o = stays A h (lay ps l work) (Err f) g c g' c' refl (λ b. absurd b) w o.answer o.effect
  kept h strike (Ok tt) g g' c c' w o = strikes A h g c g' c' w o.answer o.effect (standing h) refl (stand A h g c w)
  kept h strike (Err f) g g' c c' w o = stays A h strike (Err f) g c g' c' refl (λ b. absurd b) w o.answer o.effect
  kept h seal (Ok tt) g g' c c' w o = stays A h seal (Ok tt) g c g' c' refl (λ t. seals h g c w o.answer) w o.answer o.effect
  kept h seal (Err f) g g' c c' w o = stays A h seal (Err f) g c g' c' refl (λ b. absurd b) w o.answer o.effect

  pub at_first : (c : Contents P) → c.legs ≡ [] → Whole A [] begun c
  at_first c e =
      let s : Stand A [] c.legs = e in
      let r = stand_runs A [] c.legs s in
      record {
        seamless = run_seamless _ _ r;
        reaches = run_ends _ _ r;
        joined = subst (Joined None) (sym e) tt;
        count = sym (ap length e);
        laid = refl;
        end_value = sym (ap (λ ls. end_of (last_leg ls)) e);
        in_time = omega arith;
        sealed = tt;
        spans = tt;
        no_others = e;
        answered = tt;
      }

  pub reached : (h : History P) (g : Progress P) (c₀ c : Contents P) → c₀.legs ≡ [] → Reached A begun c₀ h g c → Whole A h g c
  reached [] g c₀ c e r = subst (λ d. Whole A [] g d) (sym r.1) (subst (λ p. Whole A [] p c₀) (sym r.0) (at_first c₀ e))
  reached (x ∷ h) g c₀ c e r = kept h x.0 x.1 r.0 g r.1 c (reached h r.0 c₀ r.1 e r.2) r.3

  pub performed : (calls : List (Call P)) (answers : List Answer) (g : Progress P) (c₀ c : Contents P)
      → c₀.legs ≡ [] → Performed A calls answers begun c₀ g c → Whole A (recorded [] calls answers) g c
  performed calls answers g c₀ c e p = reached (recorded [] calls answers) g c₀ c e p.reached

  pub stays_whole : StaysWhole A
  stays_whole = record { at_first = at_first; kept = kept; reached = reached; performed = performed }
