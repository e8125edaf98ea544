-- The rules by number, as a program looks for them: the rule of a number, the lowest edge that it names, the number of the first rule
-- that names one. Where there is none, the number is one too large: the number of edges, or 8. That this is the model's step is said in
-- FirstRule.
use Rattle.std.specs.Prelude.{ℕ, Bool, false, ◌&&◌, [], ◌∷◌, get_or, ltb}
use Rattle.lists.specs.Search.{low}
use Rattle.model.specs.Instance.{Instance}
use Rattle.model.specs.Reduction.{State, rule1, rule2, rule3, rule4, rule5, rule6, rule7, Fate, fix, strike, act, Step}

module _ (G : Instance) (Z : State) where
  abbrev pub never : ℕ → Bool
  never e = false

  -- the rule of a number from 1 to 7; any other names nothing
  unfoldable pub names : ℕ → ℕ → Bool
  names r = get_or (never ∷ rule1 G Z ∷ rule2 G Z ∷ rule3 G Z ∷ rule4 G Z ∷ rule5 G Z ∷ rule6 G Z ∷ rule7 G Z ∷ []) r never

  -- the lowest remaining edge that a rule names, m if it names none
  unfoldable pub lowest : ℕ → ℕ
  lowest r = low (λ e. Z.rem e && names r e) G.m

  -- the number of the first rule that names one, 8 if none does, and the edge
  unfoldable pub rule_of : ℕ
  rule_of = low (λ r. ltb (lowest r) G.m) 8

  -- the lowest remaining edge that this rule names, m if no rule names one
  unfoldable pub edge_of : ℕ
  edge_of = lowest rule_of

-- what a rule does to the edge that it names
unfoldable pub fate_of : ℕ → Fate
fate_of r = get_or (strike ∷ fix ∷ strike ∷ fix ∷ strike ∷ strike ∷ fix ∷ fix ∷ []) r strike

-- the step of the first rule that names an edge, on the lowest that it names
abbrev pub step_of : Instance → State → Step
step_of G Z = record { fate = fate_of (rule_of G Z); edge = edge_of G Z; rule = rule_of G Z }

-- the state after that step
unfoldable pub next : Instance → State → State
next G Z = act G Z (fate_of (rule_of G Z)) (edge_of G Z)
