-- The reduction: section "Reduction" of document 01. The state is what remains, what is fixed, and the quotas, which each step
-- cuts and each fixing lowers.
use Rattle.std.specs.Prelude.{ℕ, zero, suc, ◌+◌, ◌-◌, min, Bool, true, false, not, ◌&&◌, ◌||◌, List, [], ◌∷◌, leb, ltb, eqb}
use Rattle.std.proofs.Math.Option.{Option, none, Option-elim, or_else}
use Rattle.lists.specs.Test.{bit}
use Rattle.lists.specs.Sum.{range}
use Rattle.lists.specs.First.{first}
use Rattle.model.specs.Instance.{Instance, Side, surveyors, stands, deg}

-- the state: what remains, what is fixed, and the quotas
pub record State : Type 0 where
  pub rem : ℕ → Bool  -- the remaining edges
  pub fixed : ℕ → Bool  -- the fixed ones
  pub q_s : ℕ → ℕ  -- the quotas, before this step's cut
  pub q_t : ℕ → ℕ

-- "Before each step a quota above a node's remaining pairs is cut to their number."
unfoldable pub cut : Side → (rem : ℕ → Bool) → (q : ℕ → ℕ) → ℕ → ℕ
cut K rem q v = min (q v) (deg K rem v)

-- a strict remaining edge; "A written tie stays a tie with one pair left."
abbrev pub strict_left : Side → (rem : ℕ → Bool) → ℕ → Bool
strict_left K rem e = rem e && not (K.tie e)

-- how many strict remaining edges at v are better than rank r
unfoldable pub ahead : Side → (rem : ℕ → Bool) → ℕ → ℕ → ℕ
ahead K rem v r = deg K (λ d. strict_left K rem d && ltb (K.rank d) r) v

-- "An arrow leaves each node along its best strict remaining pairs, as many as its quota or as it has": an arrow along e
unfoldable pub arrow : Side → (rem : ℕ → Bool) → (q : ℕ → ℕ) → ℕ → Bool
arrow K rem q e = strict_left K rem e && ltb (ahead K rem (K.end e) (K.rank e)) (q (K.end e))

module _ (G : Instance) (Z : State) where
  -- the cut quotas
  abbrev pub cut_s : ℕ → ℕ
  cut_s = cut (surveyors G) Z.rem Z.q_s

  -- the cut quotas of the stands
  abbrev pub cut_t : ℕ → ℕ
  cut_t = cut (stands G) Z.rem Z.q_t

  -- the arrows that leave surveyors, that leave stands
  abbrev pub arrow_s : ℕ → Bool
  arrow_s = arrow (surveyors G) Z.rem cut_s

  -- the edges along which an arrow leaves their stand
  abbrev pub arrow_t : ℕ → Bool
  arrow_t = arrow (stands G) Z.rem cut_t

  -- how many edges of a set lie at a surveyor
  abbrev pub deg_s : (ℕ → Bool) → ℕ → ℕ
  deg_s = deg (surveyors G)

  -- how many edges of a set lie at a stand
  abbrev pub deg_t : (ℕ → Bool) → ℕ → ℕ
  deg_t = deg (stands G)

  -- how many strict remaining edges are better than e at its surveyor, at its stand
  abbrev pub ahead_s : ℕ → ℕ
  ahead_s e = ahead (surveyors G) Z.rem (G.sv e) (G.rank_s e)

  -- how many strict remaining edges are better than e at its stand
  abbrev pub ahead_t : ℕ → ℕ
  ahead_t e = ahead (stands G) Z.rem (G.st e) (G.rank_t e)

  -- "A stand is loose if it sends fewer arrows than its quota and receives none, else firm" (the report's T₂ and its complement)
  unfoldable pub loose : ℕ → Bool
  loose t = ltb (deg_t arrow_t t) (cut_t t) && eqb (deg_t arrow_s t) 0

  -- "N(s) is the set of s's pairs with an arrow from a firm stand, together with its pairs to loose stands": e is in N of its
  -- surveyor
  unfoldable pub reserved : ℕ → Bool
  reserved e = Z.rem e && ((not (loose (G.st e)) && arrow_t e) || loose (G.st e))

  -- an arrow comes in along d, which is strictly better than e, at e's surveyor, at e's stand
  unfoldable pub better_s : ℕ → ℕ → Bool
  better_s e d = arrow_t d && ltb (G.rank_s d) (G.rank_s e)

  -- an arrow comes in along d, which is strictly better than e at e's stand
  unfoldable pub better_t : ℕ → ℕ → Bool
  better_t e d = arrow_s d && ltb (G.rank_t d) (G.rank_t e)

  -- d is in N(s) and worse there than e
  unfoldable pub worse_reserved : ℕ → ℕ → Bool
  worse_reserved e d = reserved d && ltb (G.rank_s e) (G.rank_s d)

  -- the rules, each as a test of a remaining edge
  -- "1. arrows both ways: fix"
  unfoldable pub rule1 : ℕ → Bool
  rule1 e = arrow_s e && arrow_t e

  -- "2. at either end, arrows come in along at least as many strictly better pairs as the quota (quota 0: every pair): strike"
  unfoldable pub rule2 : ℕ → Bool
  rule2 e = leb (cut_s (G.sv e)) (deg_s (better_s e) (G.sv e))
      || leb (cut_t (G.st e)) (deg_t (better_t e) (G.st e))

  -- "3. it has an arrow into a stand with at most quota arrows in and out: fix"
  unfoldable pub rule3 : ℕ → Bool
  rule3 e = arrow_s e && leb (deg_t arrow_s (G.st e) + deg_t arrow_t (G.st e)) (cut_t (G.st e))

  -- "4. N(s) is larger than s's quota: strike the worst of N(s)"
  unfoldable pub rule4 : ℕ → Bool
  rule4 e = reserved e && (ltb (cut_s (G.sv e)) (deg_s reserved (G.sv e))
      && eqb (deg_s (worse_reserved e) (G.sv e)) 0)

  -- "5. its stand is firm and it has no arrow: strike"
  unfoldable pub rule5 : ℕ → Bool
  rule5 e = not (loose (G.st e)) && (not (arrow_s e) && not (arrow_t e))

  -- "6. N(s) is smaller than s's quota: fix s's best pair"
  unfoldable pub rule6 : ℕ → Bool
  rule6 e = ltb (deg_s reserved (G.sv e)) (cut_s (G.sv e)) && eqb (ahead_s e) 0

  -- "7. its stand has fewer arrows in than its quota, and it is that stand's best strict remaining pair: fix"
  unfoldable pub rule7 : ℕ → Bool
  rule7 e = ltb (deg_t arrow_s (G.st e)) (cut_t (G.st e)) && (not (G.tied e) && eqb (ahead_t e) 0)

-- what a rule does with a pair
pub data Fate : Type 0 where
  fix : Fate
  strike : Fate

-- whether a fate is fix
abbrev pub fixes : Fate → Bool
fixes fix = true
fixes strike = false

-- "Fixing takes one from both quotas; both kinds remove the pair." The quotas go on as cut.
unfoldable pub act : Instance → State → Fate → ℕ → State
act G Z f e = record {
  rem = λ d. Z.rem d && not (eqb d e);
  fixed = λ d. Z.fixed d || (fixes f && eqb d e);
  q_s = λ v. cut_s G Z v - bit (fixes f && eqb v (G.sv e));
  q_t = λ v. cut_t G Z v - bit (fixes f && eqb v (G.st e));
}

-- ---- the rules in their order, each with its number, its fate and its test
pub record Rule : Type 0 where
  pub number : ℕ
  pub fate : Fate
  pub names : ℕ → Bool

-- the seven rules in a state, in the order in which they are tried
unfoldable pub rules : Instance → State → List Rule
rules G Z = record { number = 1; fate = fix; names = rule1 G Z }
    ∷ record { number = 2; fate = strike; names = rule2 G Z }
    ∷ record { number = 3; fate = fix; names = rule3 G Z }
    ∷ record { number = 4; fate = strike; names = rule4 G Z }
    ∷ record { number = 5; fate = strike; names = rule5 G Z }
    ∷ record { number = 6; fate = fix; names = rule6 G Z }
    ∷ record { number = 7; fate = fix; names = rule7 G Z }
    ∷ []

-- a step record: "fate, surveyor, stand, rule", with "the shift after the stand" (W-204); surveyor, stand and shift as the edge that they name
pub record Step : Type 0 where
  pub fate : Fate
  pub edge : ℕ
  pub rule : ℕ

-- "The first rule that names a pair acts on one pair, the lowest by surveyor, then stand", and W-204: "ascending means by surveyor, stand,
-- shift, and the rules pick in that order". The step of one rule, on the lowest remaining edge that it names, if it names one (edges are
-- numbered in that order, Edges.antt); and of the first rule that has one
unfoldable pub step_by : Instance → State → Rule → Option Step
step_by G Z R = first (λ e. Z.rem e && R.names e) (λ e. record { fate = R.fate; edge = e; rule = R.number }) (range 0 G.m)

-- the step of the first of some rules that has one
unfoldable pub first_step : Instance → State → List Rule → Option Step
first_step G Z [] = none
first_step G Z (R ∷ Rs) = or_else (step_by G Z R) (first_step G Z Rs)

-- the step that is taken from a state, if a rule acts, and the state after it
abbrev pub step_from : Instance → State → Option Step
step_from G Z = first_step G Z (rules G Z)

-- the state after a step
abbrev pub after_step : Instance → State → Step → State
after_step G Z s = act G Z s.fate s.edge

-- the state before the first step: every edge remains, none is fixed, the quotas are the stated ones
unfoldable pub begin : Instance → State
begin G = record { rem = λ e. ltb e G.m; fixed = λ e. false; q_s = G.quota_s; q_t = G.quota_t }

-- the steps that are taken from a state, at most n, and the state after them
unfoldable pub steps_from : Instance → ℕ → State → List Step
steps_from G zero Z = []
steps_from G (suc n) Z = Option-elim (step_from G Z) [] (λ s. s ∷ steps_from G n (after_step G Z s))

-- the state after at most n steps
unfoldable pub state_after : Instance → ℕ → State → State
state_after G zero Z = Z
state_after G (suc n) Z = Option-elim (step_from G Z) Z (λ s. state_after G n (after_step G Z s))

-- all of them: each removes an edge, so there are no more than edges
unfoldable pub steps_of : Instance → List Step
steps_of G = steps_from G G.m (begin G)

-- what remains and what is fixed when no rule acts
unfoldable pub end_of : Instance → State
end_of G = state_after G G.m (begin G)
