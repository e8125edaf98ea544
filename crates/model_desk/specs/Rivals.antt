-- What holds of the rival that a call names, in the words of its answer: "Beaten and popular write a rival, such an N, and the vote of M against
-- it". A part of the promise of every call that judges a plan.
use Rattle.std.specs.Prelude.{ℕ, ◌≡◌, not, List, ℤ, pos, ◌<ℤ◌, T}
use Rattle.lists.specs.Sum.{◌∈◌}
use Rattle.model.specs.Instance.{Instance}
use Rattle.model.specs.Plans.{Plan, on, plans_of, same_plan, vote_of}
use Rattle.model.specs.PlanFile.{plan_bytes}
use Rattle.model.specs.Facing.{pairing_bytes}
use Rattle.model_desk.specs.Desk.{Answer, judges, onto, refused, said, strong, popular, beaten}

-- the buffers for a rival and for the pairings of the vote against it
abbrev pub Lent : Type 0
Lent = List ℕ × List ℕ

-- a plan within the quotas other than M, against which M's vote is w; its bytes are in front of the buffer, and the rest of it is as it was
pub record Named (G : Instance) (M : Plan) (w : ℤ) (before after : Lent) : Type 0 where
  pub rival : Plan
  pub in_quotas : rival ∈ plans_of G
  pub other : T (not (same_plan M rival))
  pub vote : w ≡ vote_of G M rival
  pub bytes : after.0 ≡ onto (plan_bytes G rival) before.0
  pub pairings : after.1 ≡ onto (pairing_bytes G (on M) (on rival)) before.1  -- W-208: of the vote against it

-- by the answer: zero if popular, below zero if beaten; a strong plan and a refusal leave the buffer as it was
abbrev pub RivalSaid : Instance → Plan → Answer judges → (before after : Lent) → Type 0
RivalSaid G M (said strong) b a = a ≡ b
RivalSaid G M (said (popular w)) b a = Named G M w b a × (w ≡ pos 0)
RivalSaid G M (said (beaten w)) b a = Named G M w b a × (w <ℤ pos 0)
RivalSaid G M (refused n g) b a = a ≡ b

-- ---- what a caller takes from it: the rival of a beaten plan wins, that of a popular one draws, and the vote is the plan's against the rival
pub beaten_below : (G : Instance) (M : Plan) (w : ℤ) (b a : Lent) → RivalSaid G M (said (beaten w)) b a → w <ℤ pos 0
beaten_below G M w b a h = h.1

pub popular_zero : (G : Instance) (M : Plan) (w : ℤ) (b a : Lent) → RivalSaid G M (said (popular w)) b a → w ≡ pos 0
popular_zero G M w b a h = h.1

pub plans_vote : (G : Instance) (M : Plan) (w : ℤ) (b a : Lent) → Named G M w b a → (N : Plan) × (w ≡ vote_of G M N)
plans_vote G M w b a n = (n.rival, n.vote)
