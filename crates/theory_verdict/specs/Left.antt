-- An exchange that is followed from its starts to its ends: what is known of its couples and losses, and what is left of it on the
-- way. What an exchange is, votes says (Exchange).
use Rattle.std.specs.Prelude.{ℕ, ◌+◌, ◌<◌, ◌≡◌, refl, ◌⊎◌, ◌≢◌, Bool, true, false, not, List, [], ◌∷◌, length, T, eqb}
use Rattle.std.proofs.Common.{arith, sym, ap, inl, inr, ⊎_elim, eqb→eq}
use mathlib.Core.List.Memᴰ
use Rattle.lists.specs.Test.{bit, bit_pos, pk, eqb_yes, true_t, false_t}
use Rattle.lists.specs.Sum.{◌∈◌, sum, sum_zero, sum_add, sum_cong, sum_pos, sum_mem, sum_length, up_to, occ}
use Rattle.lists.specs.Keep.{remove, remove_∈, sum_remove}
use Rattle.model.specs.Instance.{Instance, Side, surveyors, stands, deg}
use Rattle.model.specs.Vote.{Place, edge, empty, same}
use Rattle.theory_votes.specs.Places.{same→, census}
use Rattle.theory_votes.specs.Exchange.{Couple, for, against, Swap, goer_is, comer_is, gains, Moves, couple_comes, couple_goes, loss_goes}

-- ---- counts: how many couples have p as what gives way, how often an edge gives way or is lost, how often one comes; how many
-- couples have an edge, how many an empty place
abbrev pub yielding : Place → List Couple → ℕ
yielding p cs = sum (λ c. bit (same c.0 p)) cs

abbrev pub leaves : ℕ → List Couple → List ℕ → ℕ
leaves e cs ls = yielding (edge e) cs + occ e ls

abbrev pub enters : ℕ → List Couple → ℕ
enters e cs = sum (λ c. bit (eqb c.1 e)) cs

abbrev pub filled : List Couple → ℕ
filled cs = sum (λ c. bit (not (same c.0 empty))) cs

abbrev pub grown : List Couple → ℕ
grown cs = yielding empty cs

-- a couple with p, a couple in which f comes
pub take_yielding : (p : Place) (cs : List Couple) → 0 < yielding p cs → (f : ℕ) × (◌∈◌ {A = Couple} (p, f) cs)
take_yielding p cs h =
    let (c, m, l) = sum_pos (λ c. bit (same c.0 p)) cs h in
    (c.1, Memᴰ.cast (ap (λ q. (q, c.1)) (sym (same→ c.0 p (bit_pos (same c.0 p) l)))) m)

pub take_entering : (f : ℕ) (cs : List Couple) → 0 < enters f cs → (◌∈◌ {A = Couple} (empty, f) cs) ⊎ ((z : ℕ) × (◌∈◌ {A = Couple} (edge z, f) cs))
take_entering f cs h = let (c, m, l) = sum_pos (λ c. bit (eqb c.1 f)) cs h in go c m (eqb→eq c.1 f (bit_pos (eqb c.1 f) l))
  where
    go : (c : Couple) → c ∈ cs → c.1 ≡ f → (◌∈◌ {A = Couple} (empty, f) cs) ⊎ ((z : ℕ) × (◌∈◌ {A = Couple} (edge z, f) cs))
    go (empty, g) m e = inl (Memᴰ.cast (ap (λ q. (empty, q)) (sym e)) m)
    go (edge z, g) m e = inr (z, Memᴰ.cast (ap (λ q. (edge z, q)) (sym e)) m)

below : {m a b : ℕ} → a < m → a ≡ b → b < m
below h e = omega arith

-- ---- what is known of one side's couples and losses
module _ (K : Side) (M : ℕ → Bool) where
  pub record Known (cs : List Couple) (ls : List ℕ) : Type 0 where
    pub new : {c : Couple} → c ∈ cs → (c.1 < K.m) × T (not (M c.1))
    pub meet : {d f : ℕ} → ◌∈◌ {A = Couple} (edge d, f) cs → ((d < K.m) × T (M d)) × (K.end d ≡ K.end f)
    pub room : {f : ℕ} → ◌∈◌ {A = Couple} (empty, f) cs → deg K M (K.end f) < K.quota (K.end f)
    pub old : {l : ℕ} → l ∈ ls → (l < K.m) × T (M l)
    pub apart : {l f : ℕ} → l ∈ ls → ◌∈◌ {A = Couple} (empty, f) cs → K.end f ≢ K.end l

  pub known_part : {cs cs' : List Couple} {ls ls' : List ℕ} → ((c : Couple) → c ∈ cs' → c ∈ cs) → ((l : ℕ) → l ∈ ls' → l ∈ ls) → Known cs ls → Known cs' ls'
  known_part in_c inL k = record {
    new = λ {c} m. k.new (in_c c m);
    meet = λ {d} {f} m. k.meet (in_c (edge d, f) m);
    room = λ {f} m. k.room (in_c (empty, f) m);
    old = λ {l} m. k.old (inL l m);
    apart = λ {l} {f} q m. k.apart (inL l q) (in_c (empty, f) m);
  }

  -- those of an exchange are
  pub moves_known : {N : ℕ → Bool} {R F : List ℕ} {cs : List Couple} {ls : List ℕ} → Swap K.m M N R F → Moves K M R F cs ls → Known cs ls
  moves_known {N} {R} {F} {cs} {ls} sw mv = record {
    new = λ {c} m. let (n, o, l) = comer_is K.m M N R F sw c.1 (couple_comes K M R F cs ls mv c m) in (l, false_t o);
    meet = λ {d} {f} m. (goer d (couple_goes K M R F cs ls mv (edge d, f) m d refl), mv.meet (edge d, f) m d refl);
    room = λ {f} m. omega (arith, mv.room (K.end f), gain m);
    old = λ {l} m. goer l (loss_goes K M R F cs ls mv l m);
    apart = λ {l} {f} q m e. ⊎_elim
        (λ z. omega (arith, z, sum_mem (λ i. pk (eqb (K.end i) (K.end f)) 1) q, ap (λ b. pk b 1) (eqb_yes (K.end l) (K.end f) (sym e))))
        (λ z. omega (arith, z, gain m))
        (mv.apart (K.end f));
  }
    where
      goer : (d : ℕ) → 0 < occ d R → (d < K.m) × T (M d)
      goer d h = let (o, n, l) = goer_is K.m M N R F sw d h in (l, true_t o)

      gain : {f : ℕ} → ◌∈◌ {A = Couple} (empty, f) cs → 0 < gains K cs (K.end f)
      gain {f} m = omega (
        arith,
        sum_mem (λ c. pk (eqb (K.end c.1) (K.end f)) (bit (same c.0 empty))) m,
        ap (λ b. pk b 1)
            (eqb_yes (K.end f) (K.end f) refl),
      )

  -- every couple has an edge of the instance or an empty place; every edge that comes, every edge lost, is one
  yield_census : {cs : List Couple} {ls : List ℕ} → Known cs ls → sum (λ e. yielding (edge e) cs) (up_to K.m) + grown cs ≡ length cs
  yield_census {cs} k = census K.m (λ c. c.0) cs (λ c m d e. (k.meet (Memᴰ.cast (ap (λ p. (p, c.1)) (sym e)) m)).0.0)

  pub filled_census : {cs : List Couple} {ls : List ℕ} → Known cs ls → filled cs ≡ sum (λ e. yielding (edge e) cs) (up_to K.m)
  filled_census {cs} k = omega (
    arith,
    yield_census k,
    sum_length cs,
    sum_add (λ c. bit (not (same c.0 empty))) (λ c. bit (same c.0 empty)) cs,
    sum_cong (λ c. bit (not (same c.0 empty)) + bit (same c.0 empty)) (λ c. 1) cs (λ c m. one (same c.0 empty)),
  )
    where
      one : (b : Bool) → bit (not b) + bit b ≡ 1
      one true = refl
      one false = refl

  enter_census : {cs : List Couple} {ls : List ℕ} → Known cs ls → sum (λ e. enters e cs) (up_to K.m) ≡ length cs
  enter_census {cs} k = omega (arith, census K.m (λ c. edge c.1) cs (λ c m d e. below (k.new m).0 (cc)), sum_zero cs)

  loss_census : {cs : List Couple} {ls : List ℕ} → Known cs ls → sum (λ e. occ e ls) (up_to K.m) ≡ length ls
  loss_census {ls = ls} k = omega (arith, census K.m edge ls (λ l m d e. below (k.old m).0 (cc)), sum_zero ls)

-- ---- the votes on both sides
module _ (G : Instance) where
  abbrev pub votes_for : List Couple → List ℕ → List Couple → List ℕ → ℕ
  votes_for c_s l_s c_t l_t = sum (for G.rank_s) c_s + length l_s + (sum (for G.rank_t) c_t + length l_t)

  abbrev pub votes_against : List Couple → List Couple → ℕ
  votes_against c_s c_t = sum (against G.rank_s) c_s + sum (against G.rank_t) c_t

-- ---- what is left on both sides; ys and gs are taken out at their surveyors only
module _ (G : Instance) (M : ℕ → Bool) where
  pub record Left (c_s : List Couple) (l_s : List ℕ) (c_t : List Couple) (l_t ys gs : List ℕ) : Type 0 where
    pub at_s : Known (surveyors G) M c_s l_s
    pub at_t : Known (stands G) M c_t l_t
    pub gone : (e : ℕ) → leaves e c_s l_s + occ e ys ≡ leaves e c_t l_t
    pub come : (e : ℕ) → enters e c_s + occ e gs ≡ enters e c_t

  -- y gives way to f at its stand, p at the surveyor: both couples are taken out
  pub left_without : {p : Place} {y f : ℕ} {c_s c_t : List Couple} {l_s l_t gs : List ℕ} (ys zs : List ℕ) (mS : ◌∈◌ {A = Couple} (p, f) c_s)
      (mT : ◌∈◌ {A = Couple} (edge y, f) c_t)
      → ((e : ℕ) → occ e zs + bit (eqb y e) ≡ occ e ys + bit (same p (edge e))) → Left c_s l_s c_t l_t ys gs → Left (remove mS) l_s (remove mT) l_t zs gs
  left_without ys zs mS mT h st = record {
    at_s = known_part (surveyors G) M (λ c q. remove_∈ mS q) (λ l q. q) st.at_s;
    at_t = known_part (stands G) M (λ c q. remove_∈ mT q) (λ l q. q) st.at_t;
    gone = λ e. omega (arith, h e, st.gone e, sum_remove (λ c. bit (same c.0 (edge e))) mS, sum_remove (λ c. bit (same c.0 (edge e))) mT);
    come = λ e. omega (arith, st.come e, sum_remove (λ c. bit (eqb c.1 e)) mS, sum_remove (λ c. bit (eqb c.1 e)) mT);
  }

  -- as many starts as ends
  pub left_even : {c_s c_t : List Couple} {l_s l_t : List ℕ} → Left c_s l_s c_t l_t [] [] → length l_s + grown c_t ≡ length l_t + grown c_s
  left_even {c_s} {c_t} {l_s} {l_t} st = omega (
    arith,
    yield_census (surveyors G) M st.at_s,
    yield_census (stands G) M st.at_t,
    enter_census (surveyors G) M st.at_s,
    enter_census (stands G) M st.at_t,
    loss_census (surveyors G) M st.at_s,
    loss_census (stands G) M st.at_t,
    sum_add (λ e. yielding (edge e) c_s) (λ e. occ e l_s) (up_to G.m),
    sum_add (λ e. yielding (edge e) c_t) (λ e. occ e l_t) (up_to G.m),
    sum_cong (λ e. leaves e c_s l_s) (λ e. leaves e c_t l_t) (up_to G.m) (λ e q. omega (arith, st.gone e)),
    sum_cong (λ e. enters e c_s) (λ e. enters e c_t) (up_to G.m) (λ e q. omega (arith, st.come e)),
  )

  -- neither couples nor starts: nothing at all
  pub left_nothing : (c_s : List Couple) (l_s : List ℕ) (c_t : List Couple) (l_t : List ℕ) → length c_t + length l_s ≡ 0 → Left c_s l_s c_t l_t [] [] → (e : ℕ)
      → (leaves e c_t l_t ≡ 0) × (enters e c_t ≡ 0)
  left_nothing c_s (l ∷ l_s) c_t l_t h st e = absurd (omega arith)
  left_nothing c_s [] (c ∷ c_t) l_t h st e = absurd (omega arith)
  left_nothing c_s [] [] (l ∷ l_t) h st e = absurd (omega (arith, left_even st))
  left_nothing c_s [] [] [] h st e = (refl, refl)
