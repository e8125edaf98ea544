-- An exchange followed, piece by piece: from a start along its couples to an end, or round to where it began. Each piece is a walk of the
-- exchange itself, so it costs at least k if all walks of so few arcs do, and it has no more arcs than M has edges.
use Rattle.std.specs.Prelude.{ℕ, zero, suc, ◌+◌, ◌≤◌, ◌<◌, ◌≡◌, refl, Bool, not, List, [], ◌∷◌, ◌++◌, length, eqb}
use Rattle.std.proofs.Common.{arith, sym, ap, subst, ⊎_elim, length-append}
use Rattle.std.proofs.Math.Decide.{dec_lt}
use Rattle.std.proofs.Math.Logic.{by_cases}
use Rattle.lists.specs.Test.{bit, by-eq}
use Rattle.lists.specs.Sum.{◌∈◌, occ, ∈_occ}
use Rattle.lists.specs.Keep.{remove, remove_∈, remove_length, sum_remove}
use Rattle.model.specs.Instance.{Instance, stands}
use Rattle.model.specs.Vote.{edge, empty, same}
use Rattle.theory_instance.specs.Walk.{up, Steps, Old, Arc, Walk, plus, minus}
use Rattle.theory_instance.specs.Append.{walk_append, plus_append, minus_append}
use Rattle.theory_votes.specs.Places.{same_refl}
use Rattle.theory_votes.specs.Exchange.{Couple, for, against}
use Rattle.theory_verdict.specs.Ends.{Way, lose, gain}
use Rattle.theory_verdict.specs.AlternatingPath.{start_plus, start_minus, Apart, Start}
use Rattle.theory_verdict.specs.CostAtLeast.{CostAtLeastBelow}
use Rattle.theory_verdict.specs.Left.{filled, grown, take_yielding, take_entering, known_part, votes_for, votes_against, Left, left_without}

module _ (G : Instance) (M : ℕ → Bool) (k n : ℕ) (costly : CostAtLeastBelow G M k n) where
  -- a smaller exchange costs at least 0
  abbrev pub Rest : ℕ → Type 0
  Rest size = (c_s : List Couple) (l_s : List ℕ) (c_t : List Couple) (l_t : List ℕ) → length c_t + length l_s ≤ size → filled c_t < n
      → Left G M c_s l_s c_t l_t [] [] → votes_against G c_s c_t ≤ votes_for G c_s l_s c_t l_t

  -- one arc of the exchange
  arc_of : {c_s c_t : List Couple} {l_s l_t ys gs : List ℕ} {y f z : ℕ} → Left G M c_s l_s c_t l_t ys gs → ◌∈◌ {A = Couple} (edge y, f) c_t
      → ◌∈◌ {A = Couple} (edge z, f) c_s → Arc G M y f z
  arc_of st mT mS = let (oz, e) = st.at_s.meet mS in (st.at_t.new mT, oz, sym (st.at_t.meet mT).1, sym e)

  -- its votes pass from what is left to the walk
  arc_votes : (x : ℕ) (w : Steps) {y f z : ℕ} {c_s c_t : List Couple} → Walk G M x w y
      → (mT : ◌∈◌ {A = Couple} (edge y, f) c_t) (mS : ◌∈◌ {A = Couple} (edge z, f) c_s)
      → (votes_for G c_s [] c_t [] + plus G x w ≡ votes_for G (remove mS) [] (remove mT) [] + plus G x (w ++ ((f, z) ∷ [])))
      × (votes_against G c_s c_t + minus G x w ≡ votes_against G (remove mS) (remove mT) + minus G x (w ++ ((f, z) ∷ [])))
  arc_votes x w {y} {f} {z} h mT mS = (
    omega (arith, sum_remove (for G.rank_s) mS, sum_remove (for G.rank_t) mT, plus_append G M x y w ((f, z) ∷ []) h),
    omega (arith, sum_remove (against G.rank_s) mS, sum_remove (against G.rank_t) mT, minus_append G M x y w ((f, z) ∷ []) h),
  )

  -- ---- from a start
  -- the walk so far, from x to y, and what is left; no end that is left gains where the start loses, or loses where it gains
  pub record Open (size : ℕ) (a : Way) (x : ℕ) (w : Steps) (y : ℕ) (c_s : List Couple) (l_s : List ℕ) (c_t : List Couple) (l_t : List ℕ) : Type 0 where
    pub few : length w + filled c_t < n
    pub less : length c_t + length l_s ≤ size
    pub left : Left G M c_s l_s c_t l_t (y ∷ []) []
    pub old : Old G M x
    pub walk : Walk G M x w y
    pub start : Start G M a x
    pub at_loss : (z : ℕ) → z ∈ l_t → Apart G a x z lose
    pub at_gain : (z f : ℕ) → ◌∈◌ {A = Couple} (empty, f) c_s → Apart G a x z (gain f)

  abbrev pub OpenCosts : Way → ℕ → Steps → List Couple → List ℕ → List Couple → List ℕ → Type 0
  OpenCosts a x w c_s l_s c_t l_t = k + (votes_against G c_s c_t + (minus G x w + start_minus G a x)) ≤ votes_for G c_s l_s c_t l_t + (plus G x w + start_plus G a x)

  module _ {size : ℕ} (rest : Rest size) (a : Way) (x : ℕ) where
    end_lost : {w : Steps} {y : ℕ} {c_s c_t : List Couple} {l_s l_t : List ℕ} → Open size a x w y c_s l_s c_t l_t → y ∈ l_t → OpenCosts a x w c_s l_s c_t l_t
    end_lost {w} {y} {c_s} {c_t} {l_s} {l_t} o m =
        let st = o.left in
        let d = costly.paths a lose x w y (omega (arith, o.few))
        (record { old = o.old; walk = o.walk; start = o.start; stop = tt; apart = o.at_loss y m }) in
        let r = rest c_s l_s c_t (remove m) o.less (omega (arith, o.few)) (record {
          at_s = st.at_s;
          at_t = known_part (stands G) M (λ c q. q) (λ l q. remove_∈ m q) st.at_t;
          gone = λ e. omega (arith, st.gone e, sum_remove (λ z. bit (eqb z e)) m);
          come = st.come;
        }) in
        omega (arith, d, r, remove_length m)

    end_gained : {w : Steps} {y f : ℕ} {c_s c_t : List Couple} {l_s l_t : List ℕ} → Open size a x w y c_s l_s c_t l_t → ◌∈◌ {A = Couple} (edge y, f) c_t
        → ◌∈◌ {A = Couple} (empty, f) c_s → OpenCosts a x w c_s l_s c_t l_t
    end_gained {w} {y} {f} {c_s} {c_t} {l_s} {l_t} o mT mS =
        let st = o.left in
        let d = costly.paths a (gain f) x w y (omega (arith, o.few)) (record {
          old = o.old;
          walk = o.walk;
          start = o.start;
          stop = (st.at_t.new mT, st.at_s.room mS, sym (st.at_t.meet mT).1);
          apart = o.at_gain y f mS;
        }) in
        let r = rest (remove mS) l_s (remove mT) l_t (omega (arith, o.less, remove_length mT))
        (omega (arith, o.few, sum_remove (λ c. bit (not (same c.0 empty))) mT))
        (left_without G M (y ∷ []) [] mS mT (λ e. omega arith) st) in
        omega (
          arith,
          d,
          r,
          sum_remove (for G.rank_s) mS,
          sum_remove (against G.rank_s) mS,
          sum_remove (for G.rank_t) mT,
          sum_remove
              (against G.rank_t) mT,
        )

    -- one arc on
    onward : {w : Steps} {y f z : ℕ} {c_s c_t : List Couple} {l_s l_t : List ℕ} → Open size a x w y c_s l_s c_t l_t
        → (mT : ◌∈◌ {A = Couple} (edge y, f) c_t) (mS : ◌∈◌ {A = Couple} (edge z, f) c_s)
        → Open size a x (w ++ ((f, z) ∷ [])) z (remove mS) l_s (remove mT) l_t
    onward {w} {y} {f} {z} o mT mS = record {
      few = omega (arith, o.few, length-append w ((f, z) ∷ []), sum_remove (λ c. bit (not (same c.0 empty))) mT);
      less = omega (arith, o.less, remove_length mT);
      left = left_without G M (y ∷ []) (z ∷ []) mS mT (λ e. omega arith) o.left;
      old = o.old;
      walk = walk_append G M x y z w ((f, z) ∷ []) o.walk (arc_of o.left mT mS, refl);
      start = o.start;
      at_loss = o.at_loss;
      at_gain = λ u g q. o.at_gain u g (remove_∈ mS q);
    }

    -- y is lost at its stand, or gives way there to some f
    y_yields : {w : Steps} {y : ℕ} {c_s c_t : List Couple} {l_s l_t : List ℕ} → Open size a x w y c_s l_s c_t l_t → ¬ (0 < occ y l_t)
        → (f : ℕ) × (◌∈◌ {A = Couple} (edge y, f) c_t)
    y_yields {y = y} {c_t = c_t} o h = take_yielding (edge y) c_t (omega (arith, o.left.gone y, same_refl (edge y)))

    pub follow : (j : ℕ) {w : Steps} {y : ℕ} {c_s c_t : List Couple} {l_s l_t : List ℕ} → filled c_t ≤ j → Open size a x w y c_s l_s c_t l_t
        → OpenCosts a x w c_s l_s c_t l_t
    follow zero {y = y} {l_t = l_t} h o = by_cases (dec_lt 0 (occ y l_t))
        (λ l. end_lost o (∈_occ y l_t l))
        (λ l. absurd (let t = y_yields o l in omega (arith, h, sum_remove (λ c. bit (not (same c.0 empty))) t.1)))
    follow (suc j) {w} {y} {c_s} {l_t = l_t} h o = by_cases (dec_lt 0 (occ y l_t))
        (λ l. end_lost o (∈_occ y l_t l))
        (λ l. let (f, mT) = y_yields o l in
        ⊎_elim
        (end_gained o mT)
        (λ (z, mS). omega (
          arith,
          arc_votes x w o.walk mT mS,
          follow j (omega (arith, h, sum_remove (λ c. bit (not (same c.0 empty))) mT))
              (onward o mT mS),
        ))
        (take_entering f c_s (omega (arith, o.left.come f, sum_remove (λ c. bit (eqb c.1 f)) mT, same_refl (edge f)))))

  -- ---- round to where it began: at x, where g takes x's place at the surveyor; no start and no end is left
  pub record Loop (size x g : ℕ) (w : Steps) (y : ℕ) (c_s c_t : List Couple) : Type 0 where
    pub few : length w + filled c_t < n
    pub less : length c_t ≤ suc size
    pub left : Left G M c_s [] c_t [] (y ∷ []) (g ∷ [])
    pub none : grown c_s ≡ 0
    pub old : Old G M x
    pub meet : G.sv x ≡ G.sv g
    pub walk : Walk G M x w y

  abbrev pub LoopCosts : ℕ → ℕ → Steps → List Couple → List Couple → Type 0
  LoopCosts x g w c_s c_t = k + (votes_against G c_s c_t + (minus G x w + up (G.rank_s g) (G.rank_s x))) ≤ votes_for G c_s [] c_t [] +
      (plus G x w + up (G.rank_s x) (G.rank_s g))

  module _ {size : ℕ} (rest : Rest size) (x g : ℕ) where
    close : {w : Steps} {y : ℕ} {c_s c_t : List Couple} → Loop size x g w y c_s c_t → ◌∈◌ {A = Couple} (edge y, g) c_t → LoopCosts x g w c_s c_t
    close {w} {y} {c_s} {c_t} o m =
        let st = o.left in
        let len = sum_remove (λ c. bit (not (same c.0 empty))) m in
        let d = costly.loops x (w ++ ((g, x) ∷ [])) (omega (arith, o.few, length-append w ((g, x) ∷ []))) (omega (arith, length-append w ((g, x) ∷ [])))
        (walk_append G M x y x w ((g, x) ∷ []) o.walk ((st.at_t.new m, o.old, sym (st.at_t.meet m).1, sym o.meet), refl)) in
        let r = rest c_s [] (remove m) [] (omega (arith, o.less, remove_length m)) (omega (arith, o.few)) (record {
          at_s = st.at_s;
          at_t = known_part (stands G) M (λ c q. remove_∈ m q) (λ l q. q) st.at_t;
          gone = λ e. omega (arith, st.gone e, sum_remove (λ c. bit (same c.0 (edge e))) m);
          come = λ e. omega (arith, st.come e, sum_remove (λ c. bit (eqb c.1 e)) m);
        }) in
        omega (
          arith,
          d,
          r,
          sum_remove (for G.rank_t) m,
          sum_remove (against G.rank_t) m,
          plus_append G M x y w ((g, x) ∷ [])
              o.walk,
          minus_append G M x y w ((g, x) ∷ []) o.walk,
        )

    around : {w : Steps} {y f z : ℕ} {c_s c_t : List Couple} → Loop size x g w y c_s c_t
        → (mT : ◌∈◌ {A = Couple} (edge y, f) c_t) (mS : ◌∈◌ {A = Couple} (edge z, f) c_s)
        → Loop size x g (w ++ ((f, z) ∷ [])) z (remove mS) (remove mT)
    around {w} {y} {f} {z} o mT mS = record {
      few = omega (arith, o.few, length-append w ((f, z) ∷ []), sum_remove (λ c. bit (not (same c.0 empty))) mT);
      less = omega (arith, o.less, remove_length mT);
      left = left_without G M (y ∷ []) (z ∷ []) mS mT (λ e. omega arith) o.left;
      none = omega (arith, o.none, sum_remove (λ c. bit (same c.0 empty)) mS);
      old = o.old;
      meet = o.meet;
      walk = walk_append G M x y z w ((f, z) ∷ []) o.walk (arc_of o.left mT mS, refl);
    }

    pub circle : (j : ℕ) {w : Steps} {y : ℕ} {c_s c_t : List Couple} → filled c_t < j → Loop size x g w y c_s c_t → LoopCosts x g w c_s c_t
    circle zero h o = absurd (omega arith)
    circle (suc j) {w} {y} {c_s} {c_t} h o =
        let (f, mT) = take_yielding (edge y) c_t (omega (arith, o.left.gone y, same_refl (edge y))) in
        by-eq g f
        (λ e b. close o (subst (λ f. ◌∈◌ {A = Couple} (edge y, f) c_t) (sym e) mT))
        (λ e b. ⊎_elim
        (λ mS. absurd (omega (arith, o.none, sum_remove (λ c. bit (same c.0 empty)) mS)))
        (λ (z, mS). omega (
          arith,
          arc_votes x w o.walk mT mS,
          circle j (omega (arith, h, sum_remove (λ c. bit (not (same c.0 empty))) mT))
              (around o mT mS),
        ))
        (take_entering f c_s (omega (arith, o.left.come f, sum_remove (λ c. bit (eqb c.1 f)) mT, same_refl (edge f), ap bit b))))
