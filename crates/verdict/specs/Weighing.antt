-- What the verdict on a plan answers and what it writes, in the words of the model's desk: the vote of the plan against its rival, and the rival's bytes
-- at the front of the buffer. The rival is the search's (theory_verdict, Rival).
use Rattle.std.specs.Prelude.{ℕ, ◌≡◌, refl, Bool, true, not, List}
use Rattle.lists.specs.Sum.{◌∈◌}
use Rattle.model.specs.Instance.{Instance}
use Rattle.model.specs.Plans.{Plan, on, plans_of, vote_of, verdict_of, is_strong}
use Rattle.model.specs.Plans as verdict
use Rattle.model.specs.PlanFile.{plan_bytes}
use Rattle.model.specs.Facing.{pairing_bytes}
use Rattle.model_desk.specs.Desk as desk
use Rattle.model_desk.specs.Desk.{onto}
use Rattle.theory_verdict.specs.Rival.{rival_of}
use Rattle.theory_instance.specs.Lawful.{Matching}
use Rattle.arrays.specs.ArrayInstance.{flag}
use Rattle.plan_lookup.specs.PlanEdges.{Listed}
use Rattle.std.specs.declared.result.Result.TheVariants.{Ok}
use Rattle.answers.specs.declared.Verdict.{Verdict}
use Rattle.answers.specs.declared.Verdict.TheVariants.{Strong, Popular, Beaten}
use Rattle.answers.specs.VerdictCases.{verdict_shown}

-- an array shows a plan within the quotas
abbrev pub Shows : Instance → List Bool → Plan → Type 0
Shows G plan M = (M ∈ plans_of G) × ((e : ℕ) → flag plan e ≡ on M e)

-- ---- the answer and the buffer, for each verdict
-- the answer, with the vote against the rival where the plan is not strong
abbrev pub weighed_as : Instance → Plan → verdict.Verdict → Verdict
weighed_as G M verdict.strong = Strong
weighed_as G M verdict.popular = Popular (vote_of G M (rival_of G M))
weighed_as G M verdict.beaten = Beaten (vote_of G M (rival_of G M))

-- the buffer afterwards: the rival's bytes at its front, or every byte as it was where the plan is strong
abbrev pub rival_written : Instance → Plan → verdict.Verdict → List ℕ → List ℕ
rival_written G M verdict.strong out = out
rival_written G M verdict.popular out = onto (plan_bytes G (rival_of G M)) out
rival_written G M verdict.beaten out = onto (plan_bytes G (rival_of G M)) out

-- the answer and the buffer are those of the model's verdict on M
pub record WeighedBy (G : Instance) (M : Plan) (out : List ℕ) (r : Verdict) (after : List ℕ) : Type 0 where
  pub reply : r ≡ weighed_as G M (verdict_of G M)
  pub buffer : after ≡ rival_written G M (verdict_of G M) out

-- for the plan that an array shows
abbrev pub WeighedFor : Instance → (plan : List Bool) (out : List ℕ) → Verdict → List ℕ → Type 0
WeighedFor G plan out r after = (M : Plan) → Shows G plan M → WeighedBy G M out r after

-- ---- W-208: the pairings of the vote against the rival
abbrev pub pairings_written : Instance → Plan → verdict.Verdict → List ℕ → List ℕ
pairings_written G M verdict.strong d = d
pairings_written G M verdict.popular d = onto (pairing_bytes G (on M) (on (rival_of G M))) d
pairings_written G M verdict.beaten d = onto (pairing_bytes G (on M) (on (rival_of G M))) d

-- for the plan that an array shows, the buffer afterwards is the one with these pairings, unchanged where the plan is strong
abbrev pub PairedFor : Instance → (plan : List Bool) (before after : List ℕ) → Type 0
PairedFor G plan before after = (M : Plan) → Shows G plan M → after ≡ pairings_written G M (verdict_of G M) before

-- whether there is a rival, and where there is one its flags and the list of its edges
pub record RivalFor (G : Instance) (plan : List Bool) (rivalled : Bool) (rival : List Bool) (n : ℕ) (es : List ℕ) : Type 0 where
  pub there : (M : Plan) → Shows G plan M → rivalled ≡ not (is_strong (verdict_of G M))
  pub flags : (M : Plan) → Shows G plan M → flag rival ≡ on (rival_of G M)
  pub within : rivalled ≡ true → Matching G (flag rival)
  pub listed : rivalled ≡ true → Listed G.m rival n es

-- ---- these are the desk's
module _ (G : Instance) (M : Plan) where
  -- for each verdict the answer is the desk's
  pub desk_answer : (v : verdict.Verdict) → verdict_shown (Ok (weighed_as G M v)) ≡ desk.verdict_answer G M (rival_of G M) v
  desk_answer verdict.strong = refl
  desk_answer verdict.popular = refl
  desk_answer verdict.beaten = refl

  -- for each verdict both buffers afterwards are the desk's
  pub desk_written : (v : verdict.Verdict) (out d : List ℕ)
      → desk.judge (rival_written G M v out) (pairings_written G M v d) ≡ desk.verdict_written G M (rival_of G M) v out d
  desk_written verdict.strong out d = refl
  desk_written verdict.popular out d = refl
  desk_written verdict.beaten out d = refl
