-- What the answer of the search for a blocking pair is.
use Rattle.std.specs.Prelude.{ℕ, suc, ◌≡◌, refl, Bool, true, false, Option}
use Rattle.std.proofs.Common.{ap}
use Rattle.model.specs.Instance.{Instance}
use Rattle.model.specs.Plans.{Plan, on}
use Rattle.model.specs.Blocking.{some_blocks, top_blocking}
use Rattle.model_desk.specs.Desk.{blocking_answer}
use Rattle.std.specs.declared.option.Option.TheVariants.{None, Some}
use Rattle.std.specs.declared.result.Result.TheVariants.{Ok}
use Rattle.answers.specs.declared.Blocking.{Blocking}
use Rattle.answers.specs.BlockedCases.{blocked_shown}

-- yes with the pair of edge e, or no
abbrev pub named : Instance → (e : ℕ) → Bool → Option Blocking
named G e true = Some (record { surveyor = suc (G.sv e); stand = suc (G.st e); shift = G.sh e })
named G e false = None

-- the answer for a plan: its first blocking pair, or that it has none
abbrev pub blocked_by : Instance → Plan → Option Blocking
blocked_by G M = named G (top_blocking G (on M)) (some_blocks G (on M))

-- this is the desk's answer
pub blocked_shown_law : (G : Instance) (e : ℕ) (b : Bool) → blocked_shown (Ok (named G e b)) ≡ blocking_answer G e b
blocked_shown_law G e true = refl
blocked_shown_law G e false = refl

-- which plan it is matters by its edges alone
pub same_plan_law : (G : Instance) (M N : Plan) → on M ≡ on N → blocked_by G M ≡ blocked_by G N
same_plan_law G M N e = ap (λ f. named G (top_blocking G f) (some_blocks G f)) e
