-- The exchange that makes a plan N of M, followed from start to end, falls into alternating paths and closed walks. So if each of these of at most
-- as many arcs as M has edges costs at least k, the vote of M against N is at least k; no distances are needed, and nothing of Lemma W.
-- First the starts are followed, losses at surveyors and then gains at stands; as many ends as starts are then taken, and what is left
-- are closed walks.
use Rattle.std.specs.Prelude.{ℕ, zero, suc, ◌+◌, ◌≤◌, ◌<◌, ◌≡◌, refl, Bool, true, false, not, ◌&&◌, List, [], ◌∷◌, length, eqb}
use Rattle.std.proofs.Common.{zero-le, sym, ⊎_elim}
use native.Mathlib.Omega.{arith}
use Rattle.std.proofs.Math.Decide.{dec_lt}
use Rattle.std.proofs.Math.Path.{ap}
use Rattle.std.proofs.Math.Logic.{by_cases}
use mathlib.Core.List.Memᴰ
use Rattle.lists.specs.Test.{bit, bit_pk, pk}
use Rattle.lists.specs.Sum.{◌∈◌, sum_mono, up_to, up_to_<, occ, count}
use Rattle.lists.specs.Keep.{remove, remove_∈, remove_length, sum_remove}
use Rattle.lists.specs.Occur.{occ_up_to}
use Rattle.model.specs.Instance.{Instance, surveyors, stands}
use Rattle.model.specs.Vote.{edge, empty, same}
use Rattle.theory_instance.specs.Lawful.{Lawful, Matching, Same}
use Rattle.theory_votes.specs.Score.{tally, quotas}
use Rattle.theory_votes.specs.Places.{same_refl}
use Rattle.theory_votes.specs.Exchange.{Couple, for, against, Moves}
use Rattle.theory_votes.specs.Converse.{goers, swap_of, couples_to, losses_to, moves_of, cost_of}
use Rattle.theory_verdict.specs.Strong.{Holds}
use Rattle.theory_verdict.specs.Ends.{lose, gain}
use Rattle.theory_verdict.specs.CostAtLeast.{CostAtLeastBelow}
use Rattle.theory_verdict.specs.Left.{filled, grown, yielding, take_yielding, take_entering, known_part, moves_known, filled_census, votes_for}
use Rattle.theory_verdict.specs.Left.{votes_against, Left, left_even, left_nothing}
use Rattle.theory_verdict.specs.Follow.{Rest, follow, circle}

module _ (G : Instance) (M : ℕ → Bool) (k n : ℕ) (costly : CostAtLeastBelow G M k n) where
  -- nothing less than 0, and k at least if there is anything
  abbrev Fine : List Couple → List ℕ → List Couple → List ℕ → Type 0
  Fine c_s l_s c_t l_t = (votes_against G c_s c_t ≤ votes_for G c_s l_s c_t l_t) × (0 < length c_t + length l_s → k + votes_against G c_s c_t ≤ votes_for G c_s l_s c_t l_t)

  module _ (size : ℕ) (rest : Rest G M k n costly size) where
    -- no start is left, so no end: a closed walk
    closing : (c_s c_t : List Couple) (l_t : List ℕ) → length c_t ≤ suc size → filled c_t < n → grown c_t ≡ 0 → Left G M c_s [] c_t l_t [] [] → Fine c_s [] c_t l_t
    closing [] [] l_t h b g st = (zero-le, λ p. absurd (omega arith))
    closing [] (c ∷ c_t) l_t h b g st = absurd (omega (arith, st.come c.1, same_refl (edge c.1)))
    closing ((empty, f) ∷ c_s) c_t l_t h b g st = absurd (omega (arith, left_even G M st))
    closing ((edge x, f) ∷ c_s) c_t (l ∷ l_t) h b g st = absurd (omega (arith, left_even G M st))
    closing ((edge x, f) ∷ c_s) c_t [] h b g st =
        let (o, e) = st.at_s.meet (Memᴰ.head refl) in
        let q = circle G M k n costly rest x f (suc (filled c_t)) {w = []} {y = x} {c_s = c_s} {c_t = c_t} (omega arith) (record {
          few = omega arith;
          less = h;
          left = record {
            at_s = known_part (surveyors G) M (λ c q. Memᴰ.tail q) (λ l q. q) st.at_s;
            at_t = st.at_t;
            gone = λ e. omega (arith, st.gone e);
            come = λ e. omega (arith, st.come e);
          };
          none = omega (arith, left_even G M st);
          old = o;
          meet = e;
          walk = refl;
        }) in
        (omega arith, λ p. omega arith)

    start_lost : (c_s : List Couple) (l : ℕ) (l_s : List ℕ) (c_t : List Couple) (l_t : List ℕ) → length c_t + length l_s ≤ size → filled c_t < n
        → Left G M c_s (l ∷ l_s) c_t l_t [] [] → Fine c_s (l ∷ l_s) c_t l_t
    start_lost c_s l l_s c_t l_t h b st =
        let q = follow G M k n costly rest lose l (filled c_t) {w = []} {y = l} {c_s = c_s} {c_t = c_t} {l_s = l_s} {l_t = l_t} (omega arith) (record {
          few = omega arith;
          less = h;
          left = record {
            at_s = known_part (surveyors G) M (λ c q. q) (λ l q. Memᴰ.tail q) st.at_s;
            at_t = st.at_t;
            gone = λ e. omega (arith, st.gone e);
            come = st.come;
          };
          old = st.at_s.old (Memᴰ.head refl);
          walk = refl;
          start = tt;
          at_loss = λ z m. tt;
          at_gain = λ z f m. st.at_s.apart (Memᴰ.head refl) m;
        }) in
        (omega arith, λ p. omega arith)

    start_gained : (c_s : List Couple) (l_s : List ℕ) (c_t : List Couple) (l_t : List ℕ) → length c_t + length l_s ≤ suc size → filled c_t < n
        → Left G M c_s l_s c_t l_t [] []
        → (f : ℕ) (mT : ◌∈◌ {A = Couple} (empty, f) c_t) (x : ℕ) (mS : ◌∈◌ {A = Couple} (edge x, f) c_s) → Fine c_s l_s c_t l_t
    start_gained c_s l_s c_t l_t h b st f mT x mS =
        let (o, e) = st.at_s.meet mS in
        let less = sum_remove (λ c. bit (not (same c.0 empty))) mT in
        let q = follow G M k n costly rest (gain f) x (filled (remove mT)) {w = []} {y = x} {c_s = remove mS} {c_t = remove mT} {l_s = l_s} {l_t = l_t}
        (omega arith) (record {
          few = omega (arith, less);
          less = omega (arith, remove_length mT);
          left = record {
            at_s = known_part (surveyors G) M (λ c q. remove_∈ mS q) (λ l q. q) st.at_s;
            at_t = known_part (stands G) M (λ c q. remove_∈ mT q) (λ l q. q) st.at_t;
            gone = λ e. omega (arith, st.gone e, sum_remove (λ c. bit (same c.0 (edge e))) mS, sum_remove (λ c. bit (same c.0 (edge e))) mT);
            come = λ e. omega (arith, st.come e, sum_remove (λ c. bit (eqb c.1 e)) mS, sum_remove (λ c. bit (eqb c.1 e)) mT);
          };
          old = o;
          walk = refl;
          start = (st.at_t.new mT, st.at_t.room mT, sym e);
          at_loss = λ z m. st.at_t.apart m mT;
          at_gain = λ z g m. tt;
        }) in
        let a = sum_remove (for G.rank_s) mS in
        let c = sum_remove (against G.rank_s) mS in
        let d = sum_remove (for G.rank_t) mT in
        let e = sum_remove (against G.rank_t) mT in
        (omega arith, λ p. omega arith)

  pieces : (size : ℕ) (c_s : List Couple) (l_s : List ℕ) (c_t : List Couple) (l_t : List ℕ) → length c_t + length l_s ≤ size → filled c_t < n
      → Left G M c_s l_s c_t l_t [] [] → Fine c_s l_s c_t l_t
  pieces zero c_s (l ∷ l_s) c_t l_t h b st = absurd (omega arith)
  pieces zero c_s [] (c ∷ c_t) l_t h b st = absurd (omega arith)
  pieces zero [] [] [] l_t h b st = (zero-le, λ p. absurd (omega arith))
  pieces zero (c ∷ c_s) [] [] l_t h b st = absurd (omega (arith, st.come c.1, same_refl (edge c.1)))
  pieces (suc size) c_s (l ∷ l_s) c_t l_t h b st = start_lost size (λ c_s l_s c_t l_t h b st. (pieces size c_s l_s c_t l_t h b st).0) c_s l l_s c_t l_t (omega arith) b st
  pieces (suc size) c_s [] c_t l_t h b st = by_cases (dec_lt 0 (grown c_t))
      (λ p. let (f, mT) = take_yielding empty c_t p in
      ⊎_elim
      (λ mS. absurd (costly.direct f (st.at_s.new mS) (st.at_s.room mS) (st.at_t.room mT)))
      (λ (x, mS). start_gained size (λ c_s l_s c_t l_t h b st. (pieces size c_s l_s c_t l_t h b st).0) c_s [] c_t l_t h b st f mT x mS)
      (take_entering f c_s (omega (arith, st.come f, sum_remove (λ c. bit (eqb c.1 f)) mT, same_refl (edge f)))))
      (λ p. closing size (λ c_s l_s c_t l_t h b st. (pieces size c_s l_s c_t l_t h b st).0) c_s c_t l_t (omega arith) b (omega arith) st)

-- ---- the exchange of a plan N
module _ (G : Instance) (M N : ℕ → Bool) (law : Lawful G) (pM : Matching G M) (pN : Matching G N) where
  abbrev c_s : List Couple
  c_s = couples_to (surveyors G) M N pM.at_s pN.at_s

  abbrev c_t : List Couple
  c_t = couples_to (stands G) M N pM.at_t pN.at_t

  abbrev l_s : List ℕ
  l_s = losses_to (surveyors G) M N pM.at_s pN.at_s

  abbrev l_t : List ℕ
  l_t = losses_to (stands G) M N pM.at_t pN.at_t

  moves_s : Moves (surveyors G) M (goers G.m M N) (goers G.m N M) c_s l_s
  moves_s = moves_of (surveyors G) M N pM.at_s pN.at_s law.at_s

  moves_t : Moves (stands G) M (goers G.m M N) (goers G.m N M) c_t l_t
  moves_t = moves_of (stands G) M N pM.at_t pN.at_t law.at_t

  all_left : Left G M c_s l_s c_t l_t [] []
  all_left = record {
    at_s = moves_known (surveyors G) M (swap_of G.m M N) moves_s;
    at_t = moves_known (stands G) M (swap_of G.m M N) moves_t;
    gone = λ e. omega (arith, moves_s.gone e, moves_t.gone e);
    come = λ e. omega (arith, moves_s.come e, moves_t.come e);
  }

  -- no more couples with an edge of M than there are edges of M
  filled_≤ : filled c_t ≤ count M G.m
  unfolding count
  filled_≤ = omega (
    arith,
    filled_census (stands G) M all_left.at_t,
    sum_mono (λ e. yielding (edge e) c_t) (λ e. bit (M e)) (up_to G.m) (λ e q. omega (
      arith,
      moves_t.gone e,
      (swap_of G.m M N).goes e,
      ap (λ u. pk (M e) u) (occ_up_to G.m e (up_to_< G.m q)),
      bit_pk (M e),
    )),
  )

  -- nothing in the exchange: N is M
  nothing_same : length c_t + length l_s ≡ 0 → Same G M N
  nothing_same z e h =
      let (noR, noF) = left_nothing G M c_s l_s c_t l_t z all_left e in
      go (M e) (N e) ((swap_of G.m M N).goes e) ((swap_of G.m M N).comes e) (omega (arith, moves_t.gone e)) (omega (arith, moves_t.come e))
    where
      go : (x y : Bool) → pk (x && y) (occ e (up_to G.m)) + occ e (goers G.m M N) ≡ pk x (occ e (up_to G.m))
          → pk (x && y) (occ e (up_to G.m)) + occ e (goers G.m N M) ≡ pk y (occ e (up_to G.m))
          → occ e (goers G.m M N) ≡ 0 → occ e (goers G.m N M) ≡ 0 → x ≡ y
      go true true p q r s = refl
      go true false p q r s = absurd (omega (arith, occ_up_to G.m e h))
      go false true p q r s = absurd (omega (arith, occ_up_to G.m e h))
      go false false p q r s = refl

  module _ (k n : ℕ) (costly : CostAtLeastBelow G M k n) (few : count M G.m < n) where
    fine : Fine G M k n costly c_s l_s c_t l_t
    fine = pieces G M k n costly (length c_t + length l_s) c_s l_s c_t l_t (omega arith) (omega (arith, filled_≤)) all_left

    -- also where N is M
    tally_≥ : quotas G ≤ tally G M N
    tally_≥ = omega (arith, fine.0, cost_of (surveyors G) M N pM.at_s pN.at_s law.at_s, cost_of (stands G) M N pM.at_t pN.at_t law.at_t)

    tally_≥_other : (Same G M N → ⊥) → k + quotas G ≤ tally G M N
    tally_≥_other o = by_cases (dec_lt 0 (length c_t + length l_s))
        (λ h. omega (arith, fine.1 h, cost_of (surveyors G) M N pM.at_s pN.at_s law.at_s, cost_of (stands G) M N pM.at_t pN.at_t law.at_t))
        (λ h. absurd (o (nothing_same (omega arith))))

module _ (G : Instance) (M : ℕ → Bool) (law : Lawful G) (plan : Matching G M) (k n : ℕ) (costly : CostAtLeastBelow G M k n) (few : count M G.m < n) where
  -- the vote against every other plan is at least k
  pub cutting : Holds G k M
  cutting = record { plan = plan; wins = λ N pN o. tally_≥_other G M N law plan pN k n costly few o }

  -- and no plan at all beats M
  pub unbeaten : (N : ℕ → Bool) → Matching G N → quotas G ≤ tally G M N
  unbeaten N pN = tally_≥ G M N law plan pN k n costly few
