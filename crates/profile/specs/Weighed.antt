-- What is promised of the plan of the offers: the model's answer for the instance, and its bytes in front of the buffer.
use Rattle.std.specs.declared.result.Result.TheVariants.{Ok}
use Rattle.std.specs.Prelude.{ℕ, ◌+◌, ◌*◌, ◌≤◌, ◌≡◌, Bool, List, length}
use Rattle.std.proofs.Common.{arith, ap, ap₂, length-take}
use Rattle.model.specs.Limits.{pair_width, plan_limit}
use Rattle.model.specs.Plans.{Plan, on, is_strong, verdict_of}
use Rattle.model.specs.PlanFile.{edges_in, plan_bytes_by, plan_bytes}
use Rattle.model_desk.specs.Desk.{onto}
use Rattle.model_files.specs.Offers.{offers_plan}
use Rattle.model_files.specs.Profile.{offers, offers_answer}
use Rattle.theory_files.specs.PlanFiles.{pairs_size}
use Rattle.theory_files.specs.Chosen.{edges_in_cong}
use Rattle.theory_offers.proofs.OffersPlan.{offers_plan_law}
use Rattle.arrays.specs.ArrayInstance.{flag}
use Rattle.answers.specs.declared.Offers.{Offers}
use Rattle.answers.specs.OffersCases.{offers_shown}
use Rattle.instance.specs.declared.Instance.{Instance}
use Rattle.instance.specs.Decoded.{shown_by}
use Rattle.verdict.specs.Weighing.{Shows}
use Rattle.plan_lookup.specs.PlanEdges.{Listed}
use Rattle.plan_writer.specs.Written.{WrittenFor}
use Rattle.finder_candidate.specs.Judging.{few_edges, plan_onto}
use Rattle.offers.specs.Running.{Ready, Offered}

pub record Gives (g : Instance) (o : List ℕ) (r : Offers) (o' : List ℕ) : Type 0 where
  pub answer : offers_shown (Ok r) ≡ offers_answer (shown_by g)
  pub lent : o' ≡ onto (plan_bytes (shown_by g) (offers_plan (shown_by g))) o

-- the flags are a plan within the quotas
pub offers_shows : (g : Instance) (R : Ready g) (plan : List Bool) → Offered g plan → Shows (shown_by g) plan (offers_plan (shown_by g))
offers_shows g R plan h = (offers_plan_law (shown_by g) R.loaded.lawful R.profile, h)

-- at most 64 edges
pub offers_few : (g : Instance) (R : Ready g) (plan : List Bool) → Offered g plan → length (edges_in g.m (flag plan)) ≤ plan_limit
offers_few g R plan h = few_edges g R.loaded plan (offers_plan (shown_by g), offers_shows g R plan h)

-- what is written and what is told of it are the model's
pub gives : (g : Instance) (R : Ready g) (plan : List Bool) (h : Offered g plan) (n : ℕ) (es o o' : List ℕ) (strong : Bool) → Listed g.m plan n es
    → WrittenFor g.m g.sv g.st g.sh plan o o'
    → ((M : Plan) → Shows (shown_by g) plan M → strong ≡ is_strong (verdict_of (shown_by g) M)) → Gives g o (record { strong = strong; length = pair_width * n + 1 }) o'
unfolding plan_bytes_by
gives g R plan h n es o o' strong L W S =
    let G = shown_by g in
    let M = offers_plan G in
    let shows = offers_shows g R plan h in
    let es-is = edges_in_cong G.m (flag plan) (on M) (λ e l. shows.1 e) in
    let size : pair_width * n + 1 ≡ length (plan_bytes G M) =
    omega (arith, pairs_size G (edges_in G.m (on M)), ap length es-is, ap length L.are, length-take n es, L.there) in
    record { answer = ap₂ offers (S M shows) size; lent = plan_onto g plan o o' W M shows.1 }
