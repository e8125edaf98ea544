-- What the finder answers and what it leaves in each buffer, by what it finds, and what `judged` promises: that for the plan which the fixed edges are.
use Rattle.std.specs.Prelude.{ℕ, ◌≡◌, Bool, List, length}
use Rattle.model.specs.Instance.{Instance}
use Rattle.model.specs.Plans as P
use Rattle.model.specs.Plans.{Plan, Verdict, vote_of, verdict_of}
use Rattle.model.specs.PlanFile.{pair_list, plan_bytes}
use Rattle.model.specs.Finder as F
use Rattle.model.specs.Finder.{Found}
use Rattle.model_desk.specs.Desk.{onto}
use Rattle.theory_verdict.specs.Rival.{rival_of}
use Rattle.instance.specs.declared.Instance as arrays
use Rattle.instance.specs.Decoded.{shown_by}
use Rattle.verdict.specs.Weighing.{Shows}
use Rattle.answers.specs.declared.Found as code
use Rattle.answers.specs.declared.Found.TheVariants as says
use Rattle.answers.specs.declared.NoneKind.TheVariants as kind

-- ---- the buffers after a find, one by one
module _ (G : Instance) where
  -- the buffer of the left pairs: where pairs remain, they are written; else it is as it was
  abbrev pub left_after : Found → List ℕ → List ℕ
  left_after (F.plan M) l = l
  left_after (F.left es) l = onto (pair_list G es) l
  left_after (F.rivalled M N w) l = l

  -- the plan's buffer: the plan, or the candidate that has a rival; where pairs remain, it is as it was
  abbrev pub plan_after : Found → List ℕ → List ℕ
  plan_after (F.plan M) p = onto (plan_bytes G M) p
  plan_after (F.left es) p = p
  plan_after (F.rivalled M N w) p = onto (plan_bytes G M) p

  -- the rival's buffer: where the candidate has a rival, that is written; else it is as it was
  abbrev pub rival_after : Found → List ℕ → List ℕ
  rival_after (F.plan M) v = v
  rival_after (F.left es) v = v
  rival_after (F.rivalled M N w) v = onto (plan_bytes G N) v

-- the code's answer for what the finder finds
abbrev pub answer_for : ℕ → Found → code.Found
answer_for n (F.plan M) = says.Plan n
answer_for n (F.left es) = says.None n (kind.Left (length es))
answer_for n (F.rivalled M N w) = says.None n (kind.Rivalled w)

-- ---- what is promised
-- what is found of a candidate M with a verdict
abbrev pub candidate : Instance → Plan → Verdict → Found
candidate G M P.strong = F.plan M
candidate G M P.popular = F.rivalled M (rival_of G M) (vote_of G M (rival_of G M))
candidate G M P.beaten = F.rivalled M (rival_of G M) (vote_of G M (rival_of G M))

-- the answer is the one for what is found, and the three buffers are as after it
pub record Wrote (G : Instance) (x : Found) (steps : ℕ) (l p v : List ℕ) (r : code.Found) (l' p' v' : List ℕ) : Type 0 where
  pub answer : r ≡ answer_for steps x
  pub left : l' ≡ left_after G x l
  pub plan : p' ≡ plan_after G x p
  pub rival : v' ≡ rival_after G x v

-- of the plan that the fixed edges are
abbrev pub Judges : (g : arrays.Instance) (fixed : List Bool) (steps : ℕ) (p v : List ℕ) (r : code.Found) (p' v' : List ℕ) → Type 0
Judges g fixed steps p v r p' v' = (M : Plan) → Shows (shown_by g) fixed M → (l : List ℕ)
    → Wrote (shown_by g) (candidate (shown_by g) M (verdict_of (shown_by g) M)) steps l p v r l p' v'
