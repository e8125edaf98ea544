-- The edges that the search for a blocking pair looks for: outside the plan, and better than the threshold of both their ends.
use Rattle.std.specs.Prelude.{ℕ, ◌<◌, ◌≡◌, Bool, not, ◌&&◌, List, Option, None, Some, ltb}
use Rattle.std.proofs.Common.{arith, subst}
use Rattle.std.specs.Option.{IfSome, SomeIff}
use Rattle.instance.specs.declared.Instance.{Instance}
use Rattle.model.specs.Blocking.{top_of}
use Rattle.model.specs.Limits.{empty_rank}
use Rattle.arrays.specs.ArrayInstance.{at, flag}

-- every edge is better than an empty place
abbrev pub Placed : ℕ → List ℕ → Type 0
Placed m rank = (e : ℕ) → e < m → at rank e < empty_rank

abbrev pub wanted : (sv st rs rt ls lt : List ℕ) (p : List Bool) → ℕ → Bool
wanted sv st rs rt ls lt p e = not (flag p e) && (ltb (at rs e) (at ls (at sv e)) && ltb (at rt e) (at lt (at st e)))

-- the first of them, m if there is none
abbrev pub top_among : (g : Instance) (ls lt : List ℕ) (p : List Bool) → ℕ
top_among g ls lt p = top_of (at g.sv) (at g.rank_s) g.m (wanted g.sv g.st g.rank_s g.rank_t ls lt p)

-- an edge that may be none, as a number: m then
abbrev pub edge_or : (m : ℕ) → Option ℕ → ℕ
edge_or m (Some e) = e
edge_or m None = m

pub edge_told : (m x : ℕ) (o : Option ℕ) → IfSome o (λ e. e < m) → edge_or m o ≡ x → SomeIff o (x < m) x
edge_told m x (Some e) l q = (subst (λ z. z < m) q l, q)
edge_told m x None l q = λ h. absurd (omega (arith, q, h))
